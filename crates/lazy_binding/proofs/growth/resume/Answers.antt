use Rattle.std.proofs.Common.{None, ap, sym, ◌∙◌}
use Rattle.std.proofs.lemmas.List.{get_or_default}
use Rattle.lazy_binding.specs.declared.position.Position.{First', Seen'}
use Rattle.lazy_binding.proofs.growth.resume.Goals as goal

pub returns-in_ok-below-in-Some-clause-later : goal.returns-in_ok-below-in-Some-clause-later
returns-in_ok-below-in-Some-clause-later c = (
  c.in-Some.reached,
  record { ptr = c.in-First.field-0.ptr; value = tt },
  c.in-First.field-0.value,
  record { ptr = c.in_ok-below-in-Some.below.ptr; value = tt },
  sym (c.index.ensures ∙ get_or_default c.args.growing.now.walked.reached.items c.args.op c.index.result.now None c.requires.op) ∙ c.in-Some.is,
  c.in-First.is ∙ ap (First' (record { ptr = c.in-First.field-0.ptr; value = tt }) c.in-First.field-0.value) (sym c.if-reached-seen.true),
  ap (λ p. Seen' (record { ptr = c.in_ok-below-in-Some.below.ptr; value = tt }) p c.in-First.seen) c.in_ok-below-in-Some.ensures.ok
      ∙ ap (Seen' (record { ptr = c.in_ok-below-in-Some.below.ptr; value = tt }) c.in-Some.reached.below.value) (sym c.if-reached-seen.true),
)
