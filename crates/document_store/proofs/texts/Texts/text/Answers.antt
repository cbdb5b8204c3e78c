use Rattle.std.proofs.Common.{ap, length, arith}
use Rattle.document_store.proofs.Joined.{length-texts}
use Rattle.document_store.proofs.texts.Texts.text.Goals as goal

pub text_at-requires-clause-kept : goal.text_at-requires-clause-kept
text_at-requires-clause-kept c = rw (c.deref.ensures.value, c.deref-2.ensures.value) c.self.invariant

pub text_at-requires-clause-inside : goal.text_at-requires-clause-inside
text_at-requires-clause-inside c =
    let i = c.self.inside in
    omega (arith, c.requires, length-texts i.bytes.items 0 i.ends.items, ap length c.self.view_is, ap length c.deref-2.ensures.value)
