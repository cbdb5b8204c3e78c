use Rattle.document_store.proofs.texts.Texts.shrink.Goals as goal

pub invariant_of-self : goal.invariant_of-self
invariant_of-self c = rw (c.shrink_to_fit.ensures.items, c.shrink_to_fit-2.ensures.items) c.self.invariant
