use Rattle.std.proofs.Common.{◌∙◌, sym, ap}
use Rattle.std.specs.Prelude.{◌==◌}
use Rattle.plan_core.specs.declared.plan.Plan.{Plan}
use Rattle.plan_core.specs.PlanMade.{op_of, plan_value}
use Rattle.plan_core.specs.Plans.{Operator}
use Rattle.plan_core.specs.ByNumber.{op_at}
use Rattle.lazy_plan.specs.Bench.{state_of}
use Rattle.plan_forms.specs.Forms.{form}
use Rattle.lazy_site.specs.Origins.{makes}
use Rattle.lazy_site.proofs.Making.{not_other, is_other, no_items, some_items, all_made, groups_form, group_made, list_made}
use Rattle.lazy_site.proofs.Matter.{group_matter, list_matter}
use Rattle.lazy_site.proofs.origin.made.Goals as goal

pub returns-then-is_empty : goal.returns-then-is_empty
returns-then-is_empty c = λ view h i. all_made (state_of view c.args.bench.now) h.fixed.typed c.args.op c.requires.op c.args.c.now c.args.v
    c.in-GroupBy.input c.in-GroupBy.keys.items c.in-GroupBy.piece c.in-GroupBy.out (ap op_of (sym c.in-GroupBy.is) ∙ c.operator.ensures ∙ ap (λ (p : Plan). op_at (plan_value p).ops c.args.op) c.plan.ensures) (no_items c.in-GroupBy.keys.items _ _ c.in-GroupBy.keys.ok.0 c.is_empty.ensures c.if-is_empty.true) (not_other (c.in-GroupBy.out == c.args.v) _ c.ne.ensures c.if-ne.false)
    i

pub group_at-requires-clause-is : goal.group_at-requires-clause-is
group_at-requires-clause-is c =
    let e = (ap op_of (sym c.in-GroupBy.is) ∙ c.operator.ensures ∙ ap (λ (p : Plan). op_at (plan_value p).ops c.args.op) c.plan.ensures) in
    ap form (sym e) ∙ groups_form c.in-GroupBy.input c.in-GroupBy.keys.items c.in-GroupBy.piece c.in-GroupBy.out (some_items c.in-GroupBy.keys.items _ _ c.in-GroupBy.keys.ok.0 c.is_empty.ensures c.if-is_empty.false)

pub returns-in_ok-first-in-GroupBy : goal.returns-in_ok-first-in-GroupBy
returns-in_ok-first-in-GroupBy c = λ view h i. group_made (state_of view c.args.bench.now) h.fixed.typed c.args.op c.requires.op c.args.c.now c.args.v
    c.in-GroupBy.input c.in-GroupBy.keys.items c.in-GroupBy.piece c.in-GroupBy.out c.in_ok-first-in-GroupBy.first c.in_ok-first-in-GroupBy.number (ap op_of (sym c.in-GroupBy.is) ∙ c.operator.ensures ∙ ap (λ (p : Plan). op_at (plan_value p).ops c.args.op) c.plan.ensures) (some_items c.in-GroupBy.keys.items _ _ c.in-GroupBy.keys.ok.0 c.is_empty.ensures c.if-is_empty.false) (not_other (c.in-GroupBy.out == c.args.v) _ c.ne.ensures c.if-ne.false)
    (c.in_ok-first-in-GroupBy.ensures.under view h i) (c.in_ok-first-in-GroupBy.ensures.group view h i)
    (group_matter (state_of view c.args.bench.now) h.valid h.fixed.typed c.args.op c.requires.op c.args.c.now i c.in-GroupBy.input c.in-GroupBy.keys.items c.in-GroupBy.piece c.in-GroupBy.out c.in_ok-first-in-GroupBy.first (ap op_of (sym c.in-GroupBy.is) ∙ c.operator.ensures ∙ ap (λ (p : Plan). op_at (plan_value p).ops c.args.op) c.plan.ensures) (some_items c.in-GroupBy.keys.items _ _ c.in-GroupBy.keys.ok.0 c.is_empty.ensures c.if-is_empty.false) (c.in_ok-first-in-GroupBy.ensures.under view h i))

pub returns-in_ok-at-in-Concatenate : goal.returns-in_ok-at-in-Concatenate
returns-in_ok-at-in-Concatenate c = λ view h i. list_made (state_of view c.args.bench.now) h.fixed.typed c.args.op c.requires.op c.args.c.now c.args.v
    c.in-Concatenate.input c.in-Concatenate.pieces.items c.in-Concatenate.out c.in_ok-at-in-Concatenate.at (ap op_of (sym c.in-Concatenate.is) ∙ c.operator.ensures ∙ ap (λ (p : Plan). op_at (plan_value p).ops c.args.op) c.plan.ensures) (not_other (c.in-Concatenate.out == c.args.v) _ c.ne-in-Concatenate.ensures c.if-ne-2.false)
    (c.in_ok-at-in-Concatenate.ensures.under view h i)
    (list_matter (state_of view c.args.bench.now) h.valid h.fixed.typed c.args.op c.requires.op c.args.c.now i c.in-Concatenate.input c.in-Concatenate.pieces.items c.in-Concatenate.out c.in_ok-at-in-Concatenate.at (ap op_of (sym c.in-Concatenate.is) ∙ c.operator.ensures ∙ ap (λ (p : Plan). op_at (plan_value p).ops c.args.op) c.plan.ensures) (c.in_ok-at-in-Concatenate.ensures.under view h i))

pub returns-then-ne : goal.returns-then-ne
returns-then-ne c = λ view h i. ap (λ (o : Operator). makes o c.args.v) (sym (ap op_of (sym c.in-GroupBy.is) ∙ c.operator.ensures ∙ ap (λ (p : Plan). op_at (plan_value p).ops c.args.op) c.plan.ensures)) ∙ is_other (c.in-GroupBy.out == c.args.v) _ c.ne.ensures c.if-ne.true

pub returns-then-ne-2 : goal.returns-then-ne-2
returns-then-ne-2 c = λ view h i. ap (λ (o : Operator). makes o c.args.v) (sym (ap op_of (sym c.in-Concatenate.is) ∙ c.operator.ensures ∙ ap (λ (p : Plan). op_at (plan_value p).ops c.args.op) c.plan.ensures)) ∙ is_other (c.in-Concatenate.out == c.args.v) _ c.ne-in-Concatenate.ensures c.if-ne-2.true
