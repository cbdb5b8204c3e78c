use Rattle.std.proofs.Common.{rules, arith, ◌≡◌, ◌∙◌, true, false, List, sym, ap, subst}
use Rattle.std.specs.List.{AllByRecursion, list_all}
use Rattle.mix_base.specs.Ascents.{Among}
use Rattle.mix_tree.specs.Comparisons.{passes}
use Rattle.mix_tree.specs.declared.comparing.Test.{Test}
use Rattle.plan_core.specs.declared.plan.Plan.{Plan}
use Rattle.plan_core.specs.ByNumber.{op_at}
use Rattle.plan_core.specs.PlanMade.{op_of, plan_value}
use Rattle.plan_core.specs.Shapes.{Shape, shape_of}
use Rattle.plan_evidence.specs.Evidence.{ShapeHolds}
use Rattle.plan_evidence.proofs.Evident.{shape_vars}
use Rattle.lazy_binding.specs.Cursors.{source_number}
use Rattle.lazy_plan.specs.Bench.{state_of, documents}
use Rattle.lazy_seek.specs.Known.{IsTestKnown}
use Rattle.lazy_seek.specs.Turns.{nodes_wanted}
use Rattle.lazy_seek.proofs.Drafts.{way_low, source_given}
use Rattle.lazy_seek.proofs.Knowing.{binds_node, used_known, knows_off, knows_pass, knows_top}
use Rattle.lazy_seek.proofs.Turning.{test_known, tests_known, tested, idle}
use Rattle.lazy_seek.proofs.Visiting.{sought_within}
use Rattle.lazy_seek.proofs.Walks.{sought_none}
use Rattle.lazy_seek.proofs.evidence.Found.goes_on.Goals as goal

pub returns-then-not-turn-clause-answer : goal.returns-then-not-turn-clause-answer
returns-then-not-turn-clause-answer g c =
    let a = state_of (g.S.Sources.view c.args.s.now) c.args.bench.now in
    let p = plan_value c.args.bench.now.fixed.plan in
    let t = c.args.turn.now in
    let off : t.on_way ≡ false = search rules in
    (knows_off p c.requires.bench.valid t.wanted c.requires.turn.is_wanted a t.op c.requires.turn.within c.args.self.now (sym c.requires.turn.way ∙ off) c.requires.knows, λ told way. (let z : true ≡ false = sym way ∙ off in cc))

pub add_top-requires-clause-read : goal.add_top-requires-clause-read
add_top-requires-clause-read g c =
    let a = state_of (g.S.Sources.view c.args.s.now) c.args.bench.now in
    let p = plan_value c.args.bench.now.fixed.plan in
    let t = c.args.turn.now in
    let on = sym c.requires.turn.way ∙ c.if-not-turn.false in
    let read = c.operator.ensures ∙ ap (λ (q : Plan). op_at (plan_value q).ops t.op) c.plan.ensures in
    let shape = ap shape_of (sym read ∙ ap op_of c.in-Source.is) in
    record { number = t.op; within = c.requires.turn.within; is = ap source_number shape }

pub passes-requires : goal.passes-requires
passes-requires g c =
    let a = state_of (g.S.Sources.view c.args.s.now) c.args.bench.now in
    let p = plan_value c.args.bench.now.fixed.plan in
    let t = c.args.turn.now in
    let on = sym c.requires.turn.way ∙ c.if-not-turn.false in
    let read = c.operator.ensures ∙ ap (λ (q : Plan). op_at (plan_value q).ops t.op) c.plan.ensures in
    let shape = ap shape_of (sym read ∙ ap op_of c.in-Select.is) in
    let known = used_known p c.requires.bench.valid t.wanted c.requires.turn.is_wanted a t.op c.requires.turn.within on c.args.self.now (ap binds_node shape) c.requires.knows in (
      g.S.Sources.view c.args.s.now,
      t.wanted.places.now,
      nodes_wanted p.ops t.wanted,
      c.requires.bench,
      test_known a t.wanted.places.now c.args.self.now.nodes (nodes_wanted p.ops t.wanted) c.in-Select.test (λ v x. known v (subst (λ (f : Shape). Among v (shape_vars f)) (sym shape) x)),
    )

pub passes_each-requires : goal.passes_each-requires
passes_each-requires g c =
    let a = state_of (g.S.Sources.view c.args.s.now) c.args.bench.now in
    let p = plan_value c.args.bench.now.fixed.plan in
    let t = c.args.turn.now in
    let on = sym c.requires.turn.way ∙ c.if-not-turn.false in
    let read = c.operator.ensures ∙ ap (λ (q : Plan). op_at (plan_value q).ops t.op) c.plan.ensures in
    let shape = ap shape_of (sym read ∙ ap op_of c.in-Join.is) in
    let known = used_known p c.requires.bench.valid t.wanted c.requires.turn.is_wanted a t.op c.requires.turn.within on c.args.self.now (ap binds_node shape) c.requires.knows in (
      g.S.Sources.view c.args.s.now,
      t.wanted.places.now,
      nodes_wanted p.ops t.wanted,
      c.requires.bench,
      subst (AllByRecursion (IsTestKnown a t.wanted.places.now c.args.self.now.nodes (nodes_wanted p.ops t.wanted))) (sym c.deref.ensures.value)
          (tests_known a t.wanted.places.now c.args.self.now.nodes (nodes_wanted p.ops t.wanted) c.in-Join.tests.items (λ v x. known v (subst (λ (f : Shape). Among v (shape_vars f)) (sym shape) x))),
    )

pub returns-in_ok-add_top-in-Source-clause-answer : goal.returns-in_ok-add_top-in-Source-clause-answer
returns-in_ok-add_top-in-Source-clause-answer g c =
    let a = state_of (g.S.Sources.view c.args.s.now) c.args.bench.now in
    let p = plan_value c.args.bench.now.fixed.plan in
    let t = c.args.turn.now in
    let on = sym c.requires.turn.way ∙ c.if-not-turn.false in
    let read = c.operator.ensures ∙ ap (λ (q : Plan). op_at (plan_value q).ops t.op) c.plan.ensures in
    let shape = ap shape_of (sym read ∙ ap op_of c.in-Source.is) in
    let low = way_low p c.requires.bench.valid t.wanted.op c.requires.turn.is_wanted.within t.wanted.op t.op c.requires.turn.is_wanted.within on in (
      knows_top p c.requires.bench.valid t.wanted c.requires.turn.is_wanted a t.op c.requires.turn.within on c.in-Source.source c.in-Source.out shape c.args.self.now c.add_top.new.self c.requires.knows c.in_ok-add_top-in-Source.ensures.others c.add_top.ensures.spots
          (c.in_ok-add_top-in-Source.ensures.known (g.S.Sources.view c.args.s.now) t.wanted.places.now c.requires.bench),
      λ told way. subst (λ (f : Shape). ShapeHolds (documents a) (nodes_wanted p.ops t.wanted) f) (sym shape)
          (source_given p c.requires.bench.valid t.wanted.op c.requires.turn.is_wanted.within t.wanted.places.now t.op c.in-Source.source c.in-Source.out low on shape),
    )

pub returns-in-Select-clause-answer : goal.returns-in-Select-clause-answer
returns-in-Select-clause-answer g c =
    let a = state_of (g.S.Sources.view c.args.s.now) c.args.bench.now in
    let p = plan_value c.args.bench.now.fixed.plan in
    let t = c.args.turn.now in
    let on = sym c.requires.turn.way ∙ c.if-not-turn.false in
    let read = c.operator.ensures ∙ ap (λ (q : Plan). op_at (plan_value q).ops t.op) c.plan.ensures in
    let shape = ap shape_of (sym read ∙ ap op_of c.in-Select.is) in
    let known = used_known p c.requires.bench.valid t.wanted c.requires.turn.is_wanted a t.op c.requires.turn.within on c.args.self.now (ap binds_node shape) c.requires.knows in
    tested a t c.args.self.now c.passes.result (passes (documents a) c.in-Select.test (nodes_wanted p.ops t.wanted)) (knows_pass p c.requires.bench.valid t.wanted c.requires.turn.is_wanted a t.op c.requires.turn.within on c.args.self.now (ap binds_node shape) c.requires.knows) c.if-not-turn.false
    (λ tells. c.passes.ensures (g.S.Sources.view c.args.s.now) t.wanted.places.now (nodes_wanted p.ops t.wanted) c.requires.bench tells
    (test_known a t.wanted.places.now c.args.self.now.nodes (nodes_wanted p.ops t.wanted) c.in-Select.test (λ v x. known v (subst (λ (f : Shape). Among v (shape_vars f)) (sym shape) x))))
    (λ h. subst (λ (f : Shape). ShapeHolds (documents a) (nodes_wanted p.ops t.wanted) f) (sym shape) h)
    (λ h. subst (λ (f : Shape). ShapeHolds (documents a) (nodes_wanted p.ops t.wanted) f) shape h)

pub returns-in-Join-clause-answer : goal.returns-in-Join-clause-answer
returns-in-Join-clause-answer g c =
    let a = state_of (g.S.Sources.view c.args.s.now) c.args.bench.now in
    let p = plan_value c.args.bench.now.fixed.plan in
    let t = c.args.turn.now in
    let on = sym c.requires.turn.way ∙ c.if-not-turn.false in
    let read = c.operator.ensures ∙ ap (λ (q : Plan). op_at (plan_value q).ops t.op) c.plan.ensures in
    let shape = ap shape_of (sym read ∙ ap op_of c.in-Join.is) in
    let known = used_known p c.requires.bench.valid t.wanted c.requires.turn.is_wanted a t.op c.requires.turn.within on c.args.self.now (ap binds_node shape) c.requires.knows in
    let each = λ (ts : List Test). list_all (λ t'. passes (documents a) t' (nodes_wanted p.ops t.wanted)) ts in
    tested a t c.args.self.now c.passes_each.result (each c.in-Join.tests.items) (knows_pass p c.requires.bench.valid t.wanted c.requires.turn.is_wanted a t.op c.requires.turn.within on c.args.self.now (ap binds_node shape) c.requires.knows) c.if-not-turn.false
    (λ tells. c.passes_each.ensures (g.S.Sources.view c.args.s.now) t.wanted.places.now (nodes_wanted p.ops t.wanted) c.requires.bench tells
    (subst (AllByRecursion (IsTestKnown a t.wanted.places.now c.args.self.now.nodes (nodes_wanted p.ops t.wanted))) (sym c.deref.ensures.value)
    (tests_known a t.wanted.places.now c.args.self.now.nodes (nodes_wanted p.ops t.wanted) c.in-Join.tests.items (λ v x. known v (subst (λ (f : Shape). Among v (shape_vars f)) (sym shape) x))))
    ∙ ap each c.deref.ensures.value)
    (λ h. subst (λ (f : Shape). ShapeHolds (documents a) (nodes_wanted p.ops t.wanted) f) (sym shape) h)
    (λ h. subst (λ (f : Shape). ShapeHolds (documents a) (nodes_wanted p.ops t.wanted) f) shape h)

pub returns-in_default : goal.returns-in_default
returns-in_default g c =
    let a = state_of (g.S.Sources.view c.args.s.now) c.args.bench.now in
    let p = plan_value c.args.bench.now.fixed.plan in
    let t = c.args.turn.now in
    let on = sym c.requires.turn.way ∙ c.if-not-turn.false in
    let read = c.operator.ensures ∙ ap (λ (q : Plan). op_at (plan_value q).ops t.op) c.plan.ensures in
    let free = idle c.operator.result.now c.in_default.not-Source c.in_default.not-GetDescendants c.in_default.not-Select c.in_default.not-Join in
    let shape = ap shape_of (sym read) in
    record {
      sought =
          sought_within 0 _ c.args.s.now c.args.s.now c.args.bench.now c.args.bench.now (sought_none g.met.S.Sources.same c.args.s.now c.args.bench.now c.requires.bench) (omega arith);
      cause = tt;
      answer = (
        knows_pass p c.requires.bench.valid t.wanted c.requires.turn.is_wanted a t.op c.requires.turn.within on c.args.self.now (ap binds_node shape ∙ free.without) c.requires.knows,
        λ told way. subst (λ (f : Shape). ShapeHolds (documents a) (nodes_wanted p.ops t.wanted) f) (sym shape) (free.holds (documents a) (nodes_wanted p.ops t.wanted)),
      );
    }
