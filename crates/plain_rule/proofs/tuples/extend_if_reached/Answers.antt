use Rattle.std.proofs.Common.{◌∷◌, ◌∙◌, [], ap, sym}
use Rattle.xmas_rule.specs.Conditions.{binders}
use Rattle.xmas_rule.specs.Reached.{reached}
use Rattle.xmas_rule.specs.Tuples.{tuples}
use Rattle.plain_rule.proofs.Tupling.{tuples_none}
use Rattle.plain_rule.proofs.tuples.extend_if_reached.Goals as goal

pub returns-in-FromSource-clause-tuples : goal.returns-in-FromSource-clause-tuples
returns-in-FromSource-clause-tuples c = λ lists is. sym (ap (λ z. tuples lists c.args.bindings.items (reached c.args.vars.now.items (binders (z ∷ [])))) c.in-FromSource.is ∙ tuples_none lists c.args.bindings.items)

pub returns-in-Compare-clause-tuples : goal.returns-in-Compare-clause-tuples
returns-in-Compare-clause-tuples c = λ lists is. sym (ap (λ z. tuples lists c.args.bindings.items (reached c.args.vars.now.items (binders (z ∷ [])))) c.in-Compare.is ∙ tuples_none lists c.args.bindings.items)
