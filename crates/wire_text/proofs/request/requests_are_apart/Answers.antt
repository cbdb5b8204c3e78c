use Rattle.wire_text.proofs.Asked.{apart}
use Rattle.wire_text.proofs.request.requests_are_apart.Goals as goal

pub returns : goal.returns
returns c = apart
