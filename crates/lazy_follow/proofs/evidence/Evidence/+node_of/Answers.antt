use Rattle.std.proofs.Common.{rules, ◌≡◌, ◌∙◌, ◌<◌, ℕ, List, sym, ap, subst, arith, length, map, true, false}
use Rattle.std.specs.Prelude.{◌==◌, is_some}
use Rattle.std.proofs.lemmas.Bool.{eqb-true}
use Rattle.std.proofs.lemmas.Bool.Decides.{nat_tests}
use Rattle.mix_base.specs.Ascents.{Among}
use Rattle.plan_core.specs.declared.plan.Op.{Op}
use Rattle.plan_core.specs.declared.plan.Plan.{Plan}
use Rattle.plan_core.specs.ByNumber.{op_at}
use Rattle.plan_core.specs.PlanMade.{op_of, plan_value}
use Rattle.plan_core.specs.Shapes.{shape_of}
use Rattle.plan_core.specs.Valid.{kinds}
use Rattle.plan_evidence.specs.Evidence.{evidence_vars}
use Rattle.lazy_binding.specs.Cursors.{source_number}
use Rattle.lazy_plan.specs.Bench.{state_of}
use Rattle.lazy_seek.specs.Given.{given}
use Rattle.lazy_follow.proofs.Nodes.{IsNodeOn, passed_node, source_node, start_node, other_node, out_among, out_stands, left_node, right_node, not_destroyed}
use Rattle.lazy_follow.proofs.evidence.Evidence.+node_of.Goals as goal

pub top-spot-requires-clause-read : goal.top-spot-requires-clause-read
top-spot-requires-clause-read t c =
    let p = plan_value c.args.bench.now.fixed.plan in
    let valid = c.requires.bench.1.valid in
    let typed = c.valid_plans_are_typed.ensures p valid in
    let read = c.operator.ensures ∙ ap (λ (q : Plan). op_at (plan_value q).ops c.args.op) c.plan.ensures in
    let shape = ap shape_of (sym read ∙ ap op_of c.in-Source.is) in
    record { number = c.args.op; within = c.requires.op; is = ap source_number shape }

pub returns-in-Source : goal.returns-in-Source
returns-in-Source t c = λ view places at sp on k.
    let p = plan_value c.args.bench.now.fixed.plan in
    let valid = c.requires.bench.1.valid in
    let typed = c.valid_plans_are_typed.ensures p valid in
    let read = c.operator.ensures ∙ ap (λ (q : Plan). op_at (plan_value q).ops c.args.op) c.plan.ensures in
    let shape = ap shape_of (sym read ∙ ap op_of c.in-Source.is) in
    let w = sp.within in
    let top : c.args.self.now.op < length p.ops = omega (arith, w) in
    let h : IsNodeOn p.ops c.args.self.now.op c.args.op c.args.v = record { on_way = on; kind = k } in
    record {
      spot = c.top-spot.ensures.spot view at;
      node =
          ap (λ (q : List ℕ). record { source = c.in-Source.source; place = q }) (c.top-spot.ensures.place view)
          ∙ sym (source_node p valid typed c.args.self.now.op top c.args.op c.requires.op c.in-Source.source c.in-Source.out c.args.v shape h places);
    }

pub returns-then-ne : goal.returns-then-ne
returns-then-ne t c = λ view places at sp on k.
    let p = plan_value c.args.bench.now.fixed.plan in
    let valid = c.requires.bench.1.valid in
    let typed = c.valid_plans_are_typed.ensures p valid in
    let read = c.operator.ensures ∙ ap (λ (q : Plan). op_at (plan_value q).ops c.args.op) c.plan.ensures in
    let shape = ap shape_of (sym read ∙ ap op_of c.in-GetDescendants.is) in
    let w = sp.within in
    let top : c.args.self.now.op < length p.ops = omega (arith, w) in
    let h : IsNodeOn p.ops c.args.self.now.op c.args.op c.args.v = record { on_way = on; kind = k } in
    let differs : (c.in-GetDescendants.out == c.args.v) ≡ false = search rules in
    let x = other_node p valid typed c.args.self.now.op top c.args.op c.requires.op c.in-GetDescendants.input c.in-GetDescendants.start c.in-GetDescendants.out _ shape c.args.v (λ e. (let s : (c.in-GetDescendants.out == c.args.v) ≡ true = grind (arith, nat_tests, e) in let f : ⊥ = cc in f)) h in
    c.node_of.ensures view places at sp x.on_way x.kind

pub returns-in_default : goal.returns-in_default
returns-in_default t c = λ view places at sp on k.
    let p = plan_value c.args.bench.now.fixed.plan in
    let valid = c.requires.bench.1.valid in
    let typed = c.valid_plans_are_typed.ensures p valid in
    let read = c.operator.ensures ∙ ap (λ (q : Plan). op_at (plan_value q).ops c.args.op) c.plan.ensures in
    let shape = ap shape_of (sym read ∙ ap op_of c.in-GetDescendants.is) in
    let w = sp.within in
    let top : c.args.self.now.op < length p.ops = omega (arith, w) in
    let h : IsNodeOn p.ops c.args.self.now.op c.args.op c.args.v = record { on_way = on; kind = k } in
    let x = start_node p valid typed c.args.self.now.op top c.args.op c.requires.op c.in-GetDescendants.input c.in-GetDescendants.start c.in-GetDescendants.out _ shape c.args.v h in
    absurd (rw c.in_default.is at (c.node_of-in-GetDescendants.ensures view places at sp x.on_way x.kind))

pub returns-in_default-spot : goal.returns-in_default-spot
returns-in_default-spot t c = λ view places at sp on k.
    let p = plan_value c.args.bench.now.fixed.plan in
    let valid = c.requires.bench.1.valid in
    let typed = c.valid_plans_are_typed.ensures p valid in
    let read = c.operator.ensures ∙ ap (λ (q : Plan). op_at (plan_value q).ops c.args.op) c.plan.ensures in
    let shape = ap shape_of (sym read ∙ ap op_of c.in-GetDescendants.is) in
    let w = sp.within in
    let top : c.args.self.now.op < length p.ops = omega (arith, w) in
    let h : IsNodeOn p.ops c.args.self.now.op c.args.op c.args.v = record { on_way = on; kind = k } in
    let same : (c.in-GetDescendants.out == c.args.v) ≡ true = search rules in
    let is = eqb-true c.in-GetDescendants.out c.args.v same in
    let among = subst (λ (vs : List ℕ). Among c.args.v vs) (sym sp.vars) (subst (λ (u : ℕ). Among u (evidence_vars p.ops c.args.self.now.op)) is (out_among p valid typed c.args.self.now.op top c.args.op c.requires.op c.in-GetDescendants.input c.in-GetDescendants.start c.in-GetDescendants.out _ shape on)) in
    absurd (rw c.in_default-spot.is at (c.spot.ensures (state_of view c.args.bench.now) (given p.ops c.args.self.now.op places) sp.spots among))

pub returns-in-Some-spot : goal.returns-in-Some-spot
returns-in-Some-spot t c = λ view places at sp on k.
    let p = plan_value c.args.bench.now.fixed.plan in
    let valid = c.requires.bench.1.valid in
    let typed = c.valid_plans_are_typed.ensures p valid in
    let read = c.operator.ensures ∙ ap (λ (q : Plan). op_at (plan_value q).ops c.args.op) c.plan.ensures in
    let shape = ap shape_of (sym read ∙ ap op_of c.in-GetDescendants.is) in
    let w = sp.within in
    let top : c.args.self.now.op < length p.ops = omega (arith, w) in
    let h : IsNodeOn p.ops c.args.self.now.op c.args.op c.args.v = record { on_way = on; kind = k } in
    let same : (c.in-GetDescendants.out == c.args.v) ≡ true = search rules in
    let is = eqb-true c.in-GetDescendants.out c.args.v same in
    let among = subst (λ (vs : List ℕ). Among c.args.v vs) (sym sp.vars) (subst (λ (u : ℕ). Among u (evidence_vars p.ops c.args.self.now.op)) is (out_among p valid typed c.args.self.now.op top c.args.op c.requires.op c.in-GetDescendants.input c.in-GetDescendants.start c.in-GetDescendants.out _ shape on)) in
    let x = start_node p valid typed c.args.self.now.op top c.args.op c.requires.op c.in-GetDescendants.input c.in-GetDescendants.start c.in-GetDescendants.out _ shape c.args.v h in
    let from = rw c.in-Some.is at (c.node_of-in-GetDescendants.ensures view places at sp x.on_way x.kind) in
    let spot = rw c.in-Some-spot.is at (c.spot.ensures (state_of view c.args.bench.now) (given p.ops c.args.self.now.op places) sp.spots among) in
    out_stands p valid typed c.args.self.now.op top c.args.op c.requires.op c.in-GetDescendants.input c.in-GetDescendants.start c.in-GetDescendants.out _ shape (state_of view c.args.bench.now) places c.args.v is on c.in-Some.from from c.in-Some-spot.spot spot

pub returns-then-binds : goal.returns-then-binds
returns-then-binds t c = λ view places at sp on k.
    let p = plan_value c.args.bench.now.fixed.plan in
    let valid = c.requires.bench.1.valid in
    let typed = c.valid_plans_are_typed.ensures p valid in
    let read = c.operator.ensures ∙ ap (λ (q : Plan). op_at (plan_value q).ops c.args.op) c.plan.ensures in
    let shape = ap shape_of (sym read ∙ ap op_of c.in-Join.is) in
    let w = sp.within in
    let top : c.args.self.now.op < length p.ops = omega (arith, w) in
    let h : IsNodeOn p.ops c.args.self.now.op c.args.op c.args.v = record { on_way = on; kind = k } in
    let bound : c.binds.result ≡ is_some (kinds p.ops c.in-Join.left c.args.v) = c.binds.ensures ∙ ap (λ (os : List Op). is_some (kinds (map op_of os) c.in-Join.left c.args.v)) (c.deref.ensures.value ∙ ap (λ (q : Plan). q.ops.items) c.plan-in-Join.ensures) in
    let x = left_node p valid typed c.args.self.now.op top c.args.op c.requires.op c.in-Join.left c.in-Join.right c.in-Join.tests.items shape c.args.v c.binds.result bound h c.if-binds.true in
    c.node_of-then-binds.ensures view places at sp x.on_way x.kind

pub returns-else-binds : goal.returns-else-binds
returns-else-binds t c = λ view places at sp on k.
    let p = plan_value c.args.bench.now.fixed.plan in
    let valid = c.requires.bench.1.valid in
    let typed = c.valid_plans_are_typed.ensures p valid in
    let read = c.operator.ensures ∙ ap (λ (q : Plan). op_at (plan_value q).ops c.args.op) c.plan.ensures in
    let shape = ap shape_of (sym read ∙ ap op_of c.in-Join.is) in
    let w = sp.within in
    let top : c.args.self.now.op < length p.ops = omega (arith, w) in
    let h : IsNodeOn p.ops c.args.self.now.op c.args.op c.args.v = record { on_way = on; kind = k } in
    let bound : c.binds.result ≡ is_some (kinds p.ops c.in-Join.left c.args.v) = c.binds.ensures ∙ ap (λ (os : List Op). is_some (kinds (map op_of os) c.in-Join.left c.args.v)) (c.deref.ensures.value ∙ ap (λ (q : Plan). q.ops.items) c.plan-in-Join.ensures) in
    let x = right_node p valid typed c.args.self.now.op top c.args.op c.requires.op c.in-Join.left c.in-Join.right c.in-Join.tests.items shape c.args.v c.binds.result bound h c.if-binds.false in
    c.node_of-else-binds.ensures view places at sp x.on_way x.kind

pub returns-in-Select : goal.returns-in-Select
returns-in-Select t c = λ view places at sp on k.
    let p = plan_value c.args.bench.now.fixed.plan in
    let valid = c.requires.bench.1.valid in
    let typed = c.valid_plans_are_typed.ensures p valid in
    let read = c.operator.ensures ∙ ap (λ (q : Plan). op_at (plan_value q).ops c.args.op) c.plan.ensures in
    let shape = ap shape_of (sym read ∙ ap op_of c.in-Select.is) in
    let w = sp.within in
    let top : c.args.self.now.op < length p.ops = omega (arith, w) in
    let h : IsNodeOn p.ops c.args.self.now.op c.args.op c.args.v = record { on_way = on; kind = k } in
    let x = passed_node p valid typed c.args.self.now.op top c.args.op c.requires.op c.in-Select.input _ c.args.v shape h in
    c.node_of-in-Select.ensures view places at sp x.on_way x.kind

pub returns-in-Project : goal.returns-in-Project
returns-in-Project t c = λ view places at sp on k.
    let p = plan_value c.args.bench.now.fixed.plan in
    let valid = c.requires.bench.1.valid in
    let typed = c.valid_plans_are_typed.ensures p valid in
    let read = c.operator.ensures ∙ ap (λ (q : Plan). op_at (plan_value q).ops c.args.op) c.plan.ensures in
    let shape = ap shape_of (sym read ∙ ap op_of c.in-Project.is) in
    let w = sp.within in
    let top : c.args.self.now.op < length p.ops = omega (arith, w) in
    let h : IsNodeOn p.ops c.args.self.now.op c.args.op c.args.v = record { on_way = on; kind = k } in
    let x = passed_node p valid typed c.args.self.now.op top c.args.op c.requires.op c.in-Project.input _ c.args.v shape h in
    c.node_of-in-Project.ensures view places at sp x.on_way x.kind

pub returns-in-GroupBy : goal.returns-in-GroupBy
returns-in-GroupBy t c = λ view places at sp on k.
    let p = plan_value c.args.bench.now.fixed.plan in
    let valid = c.requires.bench.1.valid in
    let typed = c.valid_plans_are_typed.ensures p valid in
    let read = c.operator.ensures ∙ ap (λ (q : Plan). op_at (plan_value q).ops c.args.op) c.plan.ensures in
    let shape = ap shape_of (sym read ∙ ap op_of c.in-GroupBy.is) in
    let w = sp.within in
    let top : c.args.self.now.op < length p.ops = omega (arith, w) in
    let h : IsNodeOn p.ops c.args.self.now.op c.args.op c.args.v = record { on_way = on; kind = k } in
    let x = passed_node p valid typed c.args.self.now.op top c.args.op c.requires.op c.in-GroupBy.input _ c.args.v shape h in
    c.node_of-in-GroupBy.ensures view places at sp x.on_way x.kind

pub returns-in-OrderBy : goal.returns-in-OrderBy
returns-in-OrderBy t c = λ view places at sp on k.
    let p = plan_value c.args.bench.now.fixed.plan in
    let valid = c.requires.bench.1.valid in
    let typed = c.valid_plans_are_typed.ensures p valid in
    let read = c.operator.ensures ∙ ap (λ (q : Plan). op_at (plan_value q).ops c.args.op) c.plan.ensures in
    let shape = ap shape_of (sym read ∙ ap op_of c.in-OrderBy.is) in
    let w = sp.within in
    let top : c.args.self.now.op < length p.ops = omega (arith, w) in
    let h : IsNodeOn p.ops c.args.self.now.op c.args.op c.args.v = record { on_way = on; kind = k } in
    let x = passed_node p valid typed c.args.self.now.op top c.args.op c.requires.op c.in-OrderBy.input _ c.args.v shape h in
    c.node_of-in-OrderBy.ensures view places at sp x.on_way x.kind

pub returns-in-Concatenate : goal.returns-in-Concatenate
returns-in-Concatenate t c = λ view places at sp on k.
    let p = plan_value c.args.bench.now.fixed.plan in
    let valid = c.requires.bench.1.valid in
    let typed = c.valid_plans_are_typed.ensures p valid in
    let read = c.operator.ensures ∙ ap (λ (q : Plan). op_at (plan_value q).ops c.args.op) c.plan.ensures in
    let shape = ap shape_of (sym read ∙ ap op_of c.in-Concatenate.is) in
    let w = sp.within in
    let top : c.args.self.now.op < length p.ops = omega (arith, w) in
    let h : IsNodeOn p.ops c.args.self.now.op c.args.op c.args.v = record { on_way = on; kind = k } in
    let x = passed_node p valid typed c.args.self.now.op top c.args.op c.requires.op c.in-Concatenate.input _ c.args.v shape h in
    c.node_of-in-Concatenate.ensures view places at sp x.on_way x.kind

pub returns-in-CreateElement : goal.returns-in-CreateElement
returns-in-CreateElement t c = λ view places at sp on k.
    let p = plan_value c.args.bench.now.fixed.plan in
    let valid = c.requires.bench.1.valid in
    let typed = c.valid_plans_are_typed.ensures p valid in
    let read = c.operator.ensures ∙ ap (λ (q : Plan). op_at (plan_value q).ops c.args.op) c.plan.ensures in
    let shape = ap shape_of (sym read ∙ ap op_of c.in-CreateElement.is) in
    let w = sp.within in
    let top : c.args.self.now.op < length p.ops = omega (arith, w) in
    let h : IsNodeOn p.ops c.args.self.now.op c.args.op c.args.v = record { on_way = on; kind = k } in
    let x = passed_node p valid typed c.args.self.now.op top c.args.op c.requires.op c.in-CreateElement.input _ c.args.v shape h in
    c.node_of-in-CreateElement.ensures view places at sp x.on_way x.kind

pub returns-in-TupleDestroy : goal.returns-in-TupleDestroy
returns-in-TupleDestroy t c = λ view places at sp on k.
    let p = plan_value c.args.bench.now.fixed.plan in
    let valid = c.requires.bench.1.valid in
    let typed = c.valid_plans_are_typed.ensures p valid in
    let read = c.operator.ensures ∙ ap (λ (q : Plan). op_at (plan_value q).ops c.args.op) c.plan.ensures in
    let shape = ap shape_of (sym read ∙ ap op_of c.in-TupleDestroy.is) in
    let w = sp.within in
    let top : c.args.self.now.op < length p.ops = omega (arith, w) in
    let h : IsNodeOn p.ops c.args.self.now.op c.args.op c.args.v = record { on_way = on; kind = k } in
    absurd (not_destroyed p valid typed c.args.self.now.op top c.args.op c.requires.op c.in-TupleDestroy.input c.in-TupleDestroy.element c.args.v shape h)
