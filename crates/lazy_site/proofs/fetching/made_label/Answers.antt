use Rattle.std.proofs.Common.{◌∙◌, sym, ap}
use Rattle.std.specs.Prelude.{Some}
use Rattle.lazy_site.proofs.Having.{made_there}
use Rattle.lazy_site.proofs.fetching.made_label.Goals as goal

pub element_label-requires-clause-element : goal.element_label-requires-clause-element
element_label-requires-clause-element c = (made_there c.args.plan.now c.requires.typed c.makers.at c.args.v c.makers.invariant.within (rw c.in-None.is at c.passed_on.ensures.value) c.makers.invariant.kind).0

pub returns-in-None : goal.returns-in-None
returns-in-None c = c.makers.invariant.labels
    ∙ (made_there c.args.plan.now c.requires.typed c.makers.at c.args.v c.makers.invariant.within (rw c.in-None.is at c.passed_on.ensures.value) c.makers.invariant.kind).1
    ∙ ap (λ l. Some (Some l)) (sym c.element_label.ensures)
