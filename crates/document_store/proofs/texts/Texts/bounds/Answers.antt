use Rattle.std.proofs.Common.{subst}
use Rattle.std.specs.List.{All}
use Rattle.document_store.specs.Texts.{IsShort}
use Rattle.document_store.proofs.Joined.{kept_short}
use Rattle.document_store.proofs.texts.Texts.bounds.Goals as goal

pub returns : goal.returns
returns c = let i = c.self.inside in subst (All IsShort) c.self.view_is (kept_short i.bytes.items i.ends.items c.self.invariant)
