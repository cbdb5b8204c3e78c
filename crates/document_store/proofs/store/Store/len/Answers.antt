use Rattle.std.proofs.Common.{length, ap, arith}
use Rattle.document_store.proofs.Kept.{length-shown}
use Rattle.document_store.proofs.store.Store.len.Goals as goal

pub returns : goal.returns
returns c = let i = c.self.inside in omega (arith, c.len.ensures, i.spots.ok.0, length-shown i.bytes.items i.spots.items, ap length c.self.view_is)
