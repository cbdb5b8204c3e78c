use Rattle.std.proofs.Common.{◌∙◌, sym, ap, suc, take}
use Rattle.lazy_binding.specs.Keys.{was_seen}
use Rattle.lazy_binding.proofs.SeenLists.{there_in, unseen_before, seen_up_to}
use Rattle.lazy_binding.proofs.key.SeenKeys.stands_at.Goals as goal

pub returns-in-Some-clause-before : goal.returns-in-Some-clause-before
returns-in-Some-clause-before c same =
    let there = there_in c.as_slice.result.now c.self.inside.keys.keys c.args.place c.in-Some.there.now c.as_slice.ensures.keys c.in-Some.ensures.lookup.3.0 c.in-Some.ensures.lookup.1 in
    sym (ap (λ z. was_seen c.args.key.now.items (take c.args.place z)) c.self.view_is)
    ∙ unseen_before c.args.key.now.items c.in-Some.there.now (sym c.eq.ensures ∙ same) c.self.inside.keys.keys c.args.place there c.as_slice.ensures.unique

pub returns-in-Some-clause-there : goal.returns-in-Some-clause-there
returns-in-Some-clause-there c same =
    let there = there_in c.as_slice.result.now c.self.inside.keys.keys c.args.place c.in-Some.there.now c.as_slice.ensures.keys c.in-Some.ensures.lookup.3.0 c.in-Some.ensures.lookup.1 in
    sym (ap (λ z. was_seen c.args.key.now.items (take (suc c.args.place) z)) c.self.view_is)
    ∙ seen_up_to c.args.key.now.items c.in-Some.there.now (sym c.eq.ensures ∙ same) c.self.inside.keys.keys c.args.place there
