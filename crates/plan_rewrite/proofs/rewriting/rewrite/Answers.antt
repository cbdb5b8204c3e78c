use Rattle.std.proofs.Common.{rules, List, map, ◌≡◌, sym, subst}
use Rattle.plan_core.specs.Plans.{Operator}
use Rattle.plan_core.specs.PlanMade.{op_of, plan_value}
use Rattle.plan_core.specs.Valid.{IsValid}
use Rattle.plan_rewrite.specs.Law.{SameDocument}
use Rattle.plan_rewrite.specs.Rewritten.{rewritten_plan}
use Rattle.plan_rewrite.proofs.rewriting.rewrite.Goals as goal

pub returns-clause-valid : goal.returns-clause-valid
returns-clause-valid c =
    let made : rewritten_plan (plan_value c.args.p.now) ≡ record { ops = map op_of c.in_ok-rewrite_ops.field-0.items; names = c.in_ok-copy_labels.field-0.items; sources = c.in_ok-copy_labels-2.field-0.items } = search rules in
    subst IsValid made (c.rewriting_keeps_validity.ensures (plan_value c.args.p.now) c.requires)

pub returns-clause-document : goal.returns-clause-document
returns-clause-document c =
    subst (λ (z : List Operator). SameDocument z (map op_of c.args.p.now.ops.items)) (sym c.in_ok-rewrite_ops.ensures) (c.rewriting_keeps_documents.ensures (plan_value c.args.p.now) c.requires)
