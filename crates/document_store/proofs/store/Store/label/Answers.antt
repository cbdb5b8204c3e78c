use Rattle.std.proofs.Common.{ap, length, arith}
use Rattle.document_store.proofs.Kept.{length-shown}
use Rattle.document_store.proofs.store.Store.label.Goals as goal

pub label_at-requires-clause-inside : goal.label_at-requires-clause-inside
label_at-requires-clause-inside c =
    let i = c.self.inside in
    omega (arith, c.requires, length-shown i.bytes.items i.spots.items, ap length c.self.view_is, ap length c.deref-2.ensures.value)
