use Rattle.std.proofs.Common.{subst}
use Rattle.std.specs.Str.{IsUtf8}
use Rattle.wire_text.proofs.writing.push_label.Goals as goal

pub returns-clause-utf8 : goal.returns-clause-utf8
returns-clause-utf8 c = subst (λ l. ∥ IsUtf8 l ∥₁) c.bytes-bytes.ensures.bytes c.bytes-bytes.ensures.utf8
