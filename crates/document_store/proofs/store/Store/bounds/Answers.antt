use Rattle.std.proofs.Common.{subst}
use Rattle.document_store.specs.Shallow.{IsBounded}
use Rattle.document_store.proofs.Kept.{kept_bounded}
use Rattle.document_store.proofs.store.Store.bounds.Goals as goal

pub returns : goal.returns
returns c = let i = c.self.inside in subst IsBounded c.self.view_is (kept_bounded i.bytes.items i.spots.items c.self.invariant)
