use Rattle.std.proofs.lemmas.Result.{IfOk-weaker}
use Rattle.std.proofs.Common.{◌≡◌, ℕ, Option, arith, rules, refl, ap, sym, subst, ◌∙◌}
use Rattle.std.specs.declared.alloc.Global.{Global}
use Rattle.std.specs.declared.rc.Rc.{Rc}
use Rattle.std.specs.Prelude.{not, true}
use Rattle.plan_core.specs.Fronts.{op_stops}
use Rattle.lazy_steps.specs.Gathers.{GathersGroups}
use Rattle.plan_core.specs.PlanMade.{op_of}
use Rattle.plan_core.specs.Shapes.{visits_below, shape_of, first_by_keys, pairs_up, passes_on}
use Rattle.lazy_binding.specs.declared.position.Position.{Position, Start, Pass', Seen'}
use Rattle.lazy_binding.specs.Reading.{count_of}
use Rattle.lazy_binding.specs.Cursors.{gathers_by}
use Rattle.plan_core.specs.declared.plan.Piece.{Piece}
use Rattle.lazy_binding.specs.Parts.{operators, shape_walked, world_of}
use Rattle.lazy_binding.proofs.Keep.{keeps_same}
use Rattle.lazy_binding.proofs.KeyParts.{keys_fit}
use Rattle.lazy_descend.proofs.Searches.{comes_none, comes_at}
use Rattle.lazy_steps.proofs.Goes.{goes_same, goes_then, goes_result, goes_gives, ran_then, ran_nothing, shaped, in_shape, placed, in_place, led, led_at}
use Rattle.lazy_steps.proofs.Ways.{way_start, way_ran, way_on, way_resumed, resumed_count, way_can, way_under, way_none}
use Rattle.lazy_steps.proofs.Singles.{end_over}
use Rattle.lazy_steps.proofs.Refused.{cause_before, for_memory, handed_on, memory_cause, none_given, rose_before}
use Rattle.std.proofs.Common.{length}
use Rattle.join_memo.specs.Kept.{Kept}
use Rattle.lazy_binding.specs.World.{last_of}
use Rattle.lazy_binding.proofs.Bound.{inputs_at}
use Rattle.lazy_steps.specs.Steps.{at_of, CanStep, KeepsFirsts}
use Rattle.std.proofs.Common.{Some, None}
use Rattle.lazy_steps.proofs.Growing.{memo_read}
use Rattle.lazy_steps.proofs.Grown.{last_can, grow_ran, refused_ran, ended_ran, ended_grown, pushed_ran, pushed_grown}
use Rattle.lazy_steps.proofs.PairSteps.{sides, pairs_begin, pair_or_start, left_ran, left_done, left_on, left_can, can_then, beside_ran, none_grown}
use Rattle.lazy_steps.proofs.Passing.{in_pair, at_known, at_none, ended_goes, more_goes, more_falls, more_steps}
use Rattle.lazy_steps.proofs.FirstPositions.{group_some, group_made, group_gathers}
use Rattle.lazy_steps.proofs.FirstWalks.{first_over, first_few, first_left, first_passed, look_ends, look_ran, look_refused, look_falls}
use Rattle.lazy_steps.proofs.SelectWalks.{select_over, select_ends, select_passed}
use Rattle.lazy_steps.proofs.GatherSteps.{gathers_ran}
use Rattle.lazy_steps.proofs.GroupWalks.{further_falls}
use Rattle.lazy_steps.proofs.GroupCalls.{group_shape, read_last, groups_can, input_less, none_unwalked, as_many, grow_ended, grow_refused, grow_more, step_begins, step_found, step_asks, step_none, step_goes_on}
use Rattle.lazy_steps.proofs.Chains.{none_apart, under_ran, descends_under}
use Rattle.lazy_binding.proofs.Bound.{fit_at}
use Rattle.lazy_steps.proofs.VisitSteps.{input_before, found_or_start, visits_begin, visits_done, none_of, input_below, start_can, in_visit, input_can, match_ran, match_then, match_found}
use Rattle.lazy_steps.proofs.ScanWalks.{scan_over, scan_ran, scan_ends, scan_goes_on, scan_falls, later_sought}
use Rattle.std.specs.Prelude.{Ok}
use Rattle.std.proofs.Common.{List}
use Rattle.lazy_binding.specs.SortedLists.{sorts}
use Rattle.lazy_binding.specs.declared.labelled.Labelled.{Labelled}
use Rattle.lazy_steps.proofs.OrderSteps.{Gathered, gathered_start, gathered_more, gathered_all, through, through_nothing, order_ran, order_next, order_first, order_over}
use Rattle.lazy_binding.proofs.SortedRows.{list_count}
use Rattle.lazy_steps.specs.declared.pass_steps.Distinct.{Distinct}
use Rattle.lazy_steps.proofs.+walk.Goals as goal

pub steps::advance-advance_below-requires : goal.steps::advance-advance_below-requires
steps::advance-advance_below-requires g t c κs within =
    let under = descends_under c.descend-foot.result.levels c.args.walk.op c.descend-foot.result.op c.args.from.now.value c.descend-foot.result.at.now.value c.requires c.descend-foot.ensures.way in
    let can : CanStep (g.S.Sources.view c.args.s.now) c.args.growing.now c.args.walk.fixed.now c.descend-foot.result.op c.deref.result.now = rw c.deref.ensures under.can in
    let small = under.less in
    search rules

pub steps::advance-returns-in_err-advance_below : goal.steps::advance-returns-in_err-advance_below
steps::advance-returns-in_err-advance_below g t c =
    let under = descends_under c.descend-foot.result.levels c.args.walk.op c.descend-foot.result.op c.args.from.now.value c.descend-foot.result.at.now.value c.requires c.descend-foot.ensures.way in
    record { ran = under_ran under (rw c.deref.ensures at c.advance_below.ensures).ran; cause = handed_on _ (g.S.Sources.view c.args.s.now) (g.S.Sources.view c.advance_below.new.s) _ _ c.from_residual.ensures (c.in_err-advance_below.ensures.cause); answer = none_given _ _ c.from_residual.ensures.0 }

pub steps::advance-returns-in-None : goal.steps::advance-returns-in-None
steps::advance-returns-in-None g t c =
    let under = descends_under c.descend-foot.result.levels c.args.walk.op c.descend-foot.result.op c.args.from.now.value c.descend-foot.result.at.now.value c.requires c.descend-foot.ensures.way in
    record { ran = under_ran under (rw c.deref.ensures at c.advance_below.ensures).ran; cause = tt; answer = under.over (rw (c.in-None.is, c.deref.ensures) at c.in_ok-advance_below.ensures.answer) }

pub steps::advance-returns-in_err-lift-in-Some : goal.steps::advance-returns-in_err-lift-in-Some
steps::advance-returns-in_err-lift-in-Some g t c =
    let under = descends_under c.descend-foot.result.levels c.args.walk.op c.descend-foot.result.op c.args.from.now.value c.descend-foot.result.at.now.value c.requires c.descend-foot.ensures.way in
    record { ran = under_ran under (rw c.deref.ensures at c.advance_below.ensures).ran; cause = for_memory _ (g.S.Sources.view c.args.s.now) (g.S.Sources.view c.advance_below.new.s) _ _ c.from_residual-in_err-lift-in-Some.ensures c.in_err-lift-in-Some.ensures.err; answer = none_given _ _ c.from_residual-in_err-lift-in-Some.ensures.0 }

pub steps::advance-returns-in_ok-lift-in-Some : goal.steps::advance-returns-in_ok-lift-in-Some
steps::advance-returns-in_ok-lift-in-Some g t c =
    let under = descends_under c.descend-foot.result.levels c.args.walk.op c.descend-foot.result.op c.args.from.now.value c.descend-foot.result.at.now.value c.requires c.descend-foot.ensures.way in
    record {
      ran = under_ran under (rw c.deref.ensures at c.advance_below.ensures).ran;
      cause = tt;
      answer = under.at _ _ _ (rw c.deref.ensures at c.advance_below.ensures).ran.asks (rw (c.in-Some.is, c.deref.ensures) at c.in_ok-advance_below.ensures.answer) c.in_ok-lift-in-Some.ensures.ok;
    }

pub steps::advance_below-returns-in-TupleDestroy : goal.steps::advance_below-returns-in-TupleDestroy
steps::advance_below-returns-in-TupleDestroy g t c =
    let is = ap shape_of (sym c.operator.ensures ∙ ap op_of c.in-TupleDestroy.is) in
    led c.args.at.now _ is (record {
      ran = ran_nothing g.met.S.Sources.same c.args.walk.op _ c.args.s.now c.args.growing.now c.requires.can.bench;
      cause = tt;
      answer = λ u. end_over (operators c.args.walk.fixed.now) c.requires.can.fixed.typed c.args.walk.op c.requires.can.op _ _ is (world_of (g.S.Sources.view c.args.s.now) c.args.growing.now) c.args.at.now (in_shape c.requires.can _ is);
    })

pub pass_steps::Filter::next-returns-in_err-before : goal.pass_steps::Filter::next-returns-in_err-before
pass_steps::Filter::next-returns-in_err-before g t c = record { ran = ran_nothing g.met.S.Sources.same c.args.self.now.walk.op _ c.args.s.now c.args.growing.now c.requires.can.bench; cause = for_memory _ (g.S.Sources.view c.args.s.now) (g.S.Sources.view c.args.s.now) _ _ c.from_residual.ensures c.in_err-before.ensures.err; answer = none_given _ _ c.from_residual.ensures.0 }

pub pass_steps::Filter::next-bindings-init : goal.pass_steps::Filter::next-bindings-init
pass_steps::Filter::next-bindings-init g t c = record { at = c.args.at.now; way = way_start g.met.S.Sources.same c.requires.can; over = sym c.in_ok-before.ensures.ok }

pub pass_steps::Filter::next-advance-requires : goal.pass_steps::Filter::next-advance-requires
pass_steps::Filter::next-advance-requires g t c κs within =
    let over = select_over c.args.self.now c.requires.is c.bindings.invariant in
    let can = way_can c.requires.is c.bindings.invariant over in
    let small = over.less in
    search rules

pub pass_steps::Filter::next-returns-in_err-below : goal.pass_steps::Filter::next-returns-in_err-below
pass_steps::Filter::next-returns-in_err-below g t c =
    let z = c.bindings.invariant in
    record { ran = way_ran g.met.S.Sources.after z.way (way_under c.requires.is z (select_over c.args.self.now c.requires.is z) c.advance.ensures.ran); cause = handed_on _ (g.S.Sources.view c.args.s.now) (g.S.Sources.view c.advance.new.s) _ _ c.from_residual-in_err-below.ensures (rose_before g.met.S.Sources.keeps _ _ _ _ z.way.came _ c.in_err-below.ensures.cause); answer = none_given _ _ c.from_residual-in_err-below.ensures.0 }

pub pass_steps::Filter::next-returns-in_default : goal.pass_steps::Filter::next-returns-in_default
pass_steps::Filter::next-returns-in_default g t c =
    let z = c.bindings.invariant in
    let over = select_over c.args.self.now c.requires.is z in
    record { ran = way_ran g.met.S.Sources.after z.way (way_under c.requires.is z over c.advance.ensures.ran); cause = tt; answer = way_none c.requires.is z over (rw (none_of _ c.in_default.not-Some) at c.in_ok-below.ensures.answer) }

pub pass_steps::Filter::next-returns-in_err-put : goal.pass_steps::Filter::next-returns-in_err-put
pass_steps::Filter::next-returns-in_err-put g t c =
    let z = c.bindings.invariant in
    record { ran = way_ran g.met.S.Sources.after z.way (way_under c.requires.is z (select_over c.args.self.now c.requires.is z) c.advance.ensures.ran); cause = for_memory _ (g.S.Sources.view c.args.s.now) (g.S.Sources.view c.advance.new.s) _ _ c.from_residual-in_err-put.ensures c.in_err-put.ensures.err; answer = none_given _ _ c.from_residual-in_err-put.ensures.0 }

pub pass_steps::Filter::next-returns-then-passes : goal.pass_steps::Filter::next-returns-then-passes
pass_steps::Filter::next-returns-then-passes g t c = select_ends c.args.self.now c.requires.is c.bindings.invariant c.advance.ensures.ran _ (rw c.in-Some.is at c.in_ok-below.ensures.answer) g.met.S.Sources.after _ c.deref.ensures _ c.passes.ensures c.if-passes.true _ _ c.in_ok-put.ensures.ok

pub pass_steps::Filter::next-bindings-preserved : goal.pass_steps::Filter::next-bindings-preserved
pass_steps::Filter::next-bindings-preserved g t c =
    let z = c.bindings.invariant in
    let f = rw c.in-Some.is at c.in_ok-below.ensures.answer in
    let meets = (rw c.deref.ensures at c.passes.ensures) _ c.advance.ensures.ran.bench f.cursor in
    let e = Pass' (record { ptr = c.in-Some.below.ptr; value = tt }) c.in-Some.below.value in
    record {
      at = e;
      way = way_on g.met.S.Sources.after z.way (way_under c.requires.is z (select_over c.args.self.now c.requires.is z) c.advance.ensures.ran) e
          (select_passed c.args.self.now c.requires.is z c.advance.ensures.ran _ f (λ u. sym (meets u) ∙ c.if-passes.false) _);
      over = refl;
    }

pub pass_steps::Distinct::next-returns-in_err-before : goal.pass_steps::Distinct::next-returns-in_err-before
pass_steps::Distinct::next-returns-in_err-before g t c = record { ran = ran_nothing g.met.S.Sources.same c.args.self.now.walk.op _ c.args.s.now c.args.growing.now c.requires.can.bench; cause = for_memory _ (g.S.Sources.view c.args.s.now) (g.S.Sources.view c.args.s.now) _ _ c.from_residual.ensures c.in_err-before.ensures.err; answer = none_given _ _ c.from_residual.ensures.0 }

pub pass_steps::Distinct::next-bindings-init : goal.pass_steps::Distinct::next-bindings-init
pass_steps::Distinct::next-bindings-init g t c =
    let goes = c.in_ok-before.ensures.ok in (
      record {
        at = at_of goes.0 c.args.at.now;
        way = way_resumed g.met.S.Sources.same c.requires.can c.args.self.now.input c.args.self.now.keys.now c.requires.is.0 c.requires.is.1 goes.0 goes.1;
        over = sym goes.2;
      },
      resumed_count c.args.growing.now.walked.reached.items c.args.self.now.walk.op c.args.at.now goes.0 goes.1 ∙ sym c.seen_up_to-count.ensures,
    )

pub pass_steps::Distinct::next-advance-requires : goal.pass_steps::Distinct::next-advance-requires
pass_steps::Distinct::next-advance-requires g t c κs within =
    let z = c.bindings.invariant.0 in
    let over = first_over c.args.self.now c.requires.is z in
    let can = way_can c.requires.is.1 z over in
    let small = over.less in
    search rules

pub pass_steps::Distinct::next-returns-in_err-below : goal.pass_steps::Distinct::next-returns-in_err-below
pass_steps::Distinct::next-returns-in_err-below g t c =
    let z = c.bindings.invariant.0 in
    record { ran = way_ran g.met.S.Sources.after z.way (way_under c.requires.is.1 z (first_over c.args.self.now c.requires.is z) c.advance.ensures.ran); cause = handed_on _ (g.S.Sources.view c.args.s.now) (g.S.Sources.view c.advance.new.s) _ _ c.from_residual-in_err-below.ensures (rose_before g.met.S.Sources.keeps _ _ _ _ z.way.came _ c.in_err-below.ensures.cause); answer = none_given _ _ c.from_residual-in_err-below.ensures.0 }

pub pass_steps::Distinct::next-returns-in_default : goal.pass_steps::Distinct::next-returns-in_default
pass_steps::Distinct::next-returns-in_default g t c =
    let z = c.bindings.invariant.0 in
    let over = first_over c.args.self.now c.requires.is z in
    record { ran = way_ran g.met.S.Sources.after z.way (way_under c.requires.is.1 z over c.advance.ensures.ran); cause = tt; answer = way_none c.requires.is.1 z over (rw (none_of _ c.in_default.not-Some) at c.in_ok-below.ensures.answer) }

pub pass_steps::Distinct::next-seen_at-requires-clause-count : goal.pass_steps::Distinct::next-seen_at-requires-clause-count
pass_steps::Distinct::next-seen_at-requires-clause-count g t c = first_few c.args.self.now c.requires.is c.bindings.invariant.0 c.advance.ensures.ran _ c.bindings.invariant.1

pub pass_steps::Distinct::next-returns-in_err-seen : goal.pass_steps::Distinct::next-returns-in_err-seen
pass_steps::Distinct::next-returns-in_err-seen g t c = record { ran = look_refused c.args.self.now c.requires.is c.bindings.invariant.0 g.met.S.Sources.after c.advance.ensures.ran _ (rw c.in-Some.is at c.in_ok-below.ensures.answer) c.spots_are_one.ensures _ _ c.bindings.invariant.1 c.in_err-seen.ensures.err; cause = for_memory _ (g.S.Sources.view c.args.s.now) (g.S.Sources.view c.advance.new.s) _ _ c.from_residual-in_err-seen.ensures c.in_err-seen.ensures.memory; answer = none_given _ _ c.from_residual-in_err-seen.ensures.0 }

pub pass_steps::Distinct::next-returns-in_err-put : goal.pass_steps::Distinct::next-returns-in_err-put
pass_steps::Distinct::next-returns-in_err-put g t c = record { ran = look_ran c.args.self.now c.requires.is c.bindings.invariant.0 g.met.S.Sources.after c.advance.ensures.ran _ (rw c.in-Some.is at c.in_ok-below.ensures.answer) c.spots_are_one.ensures _ _ c.bindings.invariant.1 _ c.in_ok-seen.ensures.ok; cause = for_memory _ (g.S.Sources.view c.args.s.now) (g.S.Sources.view c.advance.new.s) _ _ c.from_residual-in_err-put.ensures c.in_err-put.ensures.err; answer = none_given _ _ c.from_residual-in_err-put.ensures.0 }

pub pass_steps::Distinct::next-returns-in-Some-2 : goal.pass_steps::Distinct::next-returns-in-Some-2
pass_steps::Distinct::next-returns-in-Some-2 g t c = look_ends c.args.self.now c.requires.is c.bindings.invariant.0 g.met.S.Sources.after c.advance.ensures.ran _ (rw c.in-Some.is at c.in_ok-below.ensures.answer) c.spots_are_one.ensures _ _ c.bindings.invariant.1 _ (rw c.in-Some-2.is at c.in_ok-seen.ensures.ok) _ _ c.in_ok-put.ensures.ok

pub pass_steps::Distinct::next-bindings-preserved : goal.pass_steps::Distinct::next-bindings-preserved
pass_steps::Distinct::next-bindings-preserved g t c =
    let z = c.bindings.invariant.0 in
    let f = rw c.in-Some.is at c.in_ok-below.ensures.answer in
    let seen = rw (none_of _ c.in_default-2.not-Some, sym c.bindings.invariant.1) at c.in_ok-seen.ensures.ok in
    let e = Seen' (record { ptr = c.in-Some.below.ptr; value = tt }) c.in-Some.below.value (count_of z.at) in (
      record {
        at = e;
        way = way_on g.met.S.Sources.after z.way (first_left c.args.self.now c.requires.is z c.advance.ensures.ran _ f c.spots_are_one.ensures _ seen.0) e
            (first_passed c.args.self.now c.requires.is z c.advance.ensures.ran _ f c.spots_are_one.ensures _ seen.0 seen.1.0 _);
        over = refl;
      },
      c.bindings.invariant.1,
    )

pub pass_steps::Distinct::next-bindings-smaller : goal.pass_steps::Distinct::next-bindings-smaller
pass_steps::Distinct::next-bindings-smaller g t c = look_falls c.args.self.now c.requires.is c.bindings.invariant.0 g.met.S.Sources.after c.advance.ensures.ran _ (rw c.in-Some.is at c.in_ok-below.ensures.answer) c.spots_are_one.ensures _ _ c.bindings.invariant.1 _ c.in_ok-seen.ensures.ok

pub join_steps::Join::next_left-returns-in_err-advance : goal.join_steps::Join::next_left-returns-in_err-advance
join_steps::Join::next_left-returns-in_err-advance g t c = record { ran = left_ran c.args.self.now.left c.args.self.now.right c.args.self.now.walk.op c.args.self.now.tests.now c.requires.can c.requires.op c.requires.is c.advance.ensures.ran; cause = handed_on _ (g.S.Sources.view c.args.s.now) (g.S.Sources.view c.advance.new.s) _ _ c.from_residual.ensures (c.in_err-advance.ensures.cause); answer = none_given _ _ c.from_residual.ensures.0 }

pub join_steps::Join::next_left-returns-in_err-start-in-Some : goal.join_steps::Join::next_left-returns-in_err-start-in-Some
join_steps::Join::next_left-returns-in_err-start-in-Some g t c = record { ran = left_ran c.args.self.now.left c.args.self.now.right c.args.self.now.walk.op c.args.self.now.tests.now c.requires.can c.requires.op c.requires.is c.advance.ensures.ran; cause = for_memory _ (g.S.Sources.view c.args.s.now) (g.S.Sources.view c.advance.new.s) _ _ c.from_residual-in_err-start-in-Some.ensures c.in_err-start-in-Some.ensures.err; answer = none_given _ _ c.from_residual-in_err-start-in-Some.ensures.0 }

pub join_steps::Join::next_left-returns-in-None : goal.join_steps::Join::next_left-returns-in-None
join_steps::Join::next_left-returns-in-None g t c = record { ran = left_ran c.args.self.now.left c.args.self.now.right c.args.self.now.walk.op c.args.self.now.tests.now c.requires.can c.requires.op c.requires.is c.advance.ensures.ran; cause = tt; answer = left_done (operators c.args.self.now.walk.fixed.now) c.args.self.now.walk.op c.args.self.now.left c.args.self.now.right c.args.self.now.tests.now c.requires.can.fixed.typed c.requires.op c.requires.is (world_of (g.S.Sources.view c.args.s.now) c.args.growing.now) (world_of (g.S.Sources.view c.args.s.now) c.args.growing.now) c.requires.can.bench c.args.l.now.value (rw c.in-None.is at c.in_ok-advance.ensures.answer) }

pub join_steps::Join::next_left-returns-in_ok-start-in-Some : goal.join_steps::Join::next_left-returns-in_ok-start-in-Some
join_steps::Join::next_left-returns-in_ok-start-in-Some g t c = record {
  ran = left_ran c.args.self.now.left c.args.self.now.right c.args.self.now.walk.op c.args.self.now.tests.now c.requires.can c.requires.op c.requires.is c.advance.ensures.ran;
  cause = tt;
  answer = rw c.in_ok-start-in-Some.ensures.ok
      (left_on (operators c.args.self.now.walk.fixed.now) c.args.self.now.walk.op c.args.self.now.left c.args.self.now.right c.args.self.now.tests.now c.requires.can.fixed.typed c.requires.op c.requires.is (world_of (g.S.Sources.view c.args.s.now) c.args.growing.now) _ c.requires.can.bench c.args.l.now.value c.advance.ensures.ran.asks _ (rw c.in-Some.is at c.in_ok-advance.ensures.answer) _ _);
}

pub join_steps::Join::step-next_left-requires : goal.join_steps::Join::step-next_left-requires
join_steps::Join::step-next_left-requires g t c κs within =
    let begins = pair_or_start (operators c.args.self.now.walk.fixed.now) c.args.self.now.walk.op c.args.self.now.left c.args.self.now.right c.args.self.now.tests.now (world_of (g.S.Sources.view c.args.s.now) c.args.growing.now) c.args.at.now (in_shape c.requires.can (pairs_up c.args.self.now.left c.args.self.now.right c.args.self.now.tests.now) c.requires.is) (λ q x q' y m e. c.in_default.not-Pair (record { ptr = q.ptr; value = x }) (record { ptr = q'.ptr; value = y }) m e) in
    let same : c.in_ok-start-in_default.start.value ≡ c.args.at.now = c.in_ok-start-in_default.ensures.ok ∙ sym begins in
    let can : CanStep (g.S.Sources.view c.args.s.now) c.args.growing.now c.args.self.now.walk.fixed.now c.args.self.now.left c.in_ok-start-in_default.start.value = rw same (left_can c.requires.can c.args.self.now.left c.args.self.now.right c.args.self.now.tests.now c.requires.is begins) in
    let small = (sides c.requires.can c.args.self.now.left c.args.self.now.right c.args.self.now.tests.now c.requires.is).0 in
    search rules

pub join_steps::Join::step-returns-in_err-start-in_default : goal.join_steps::Join::step-returns-in_err-start-in_default
join_steps::Join::step-returns-in_err-start-in_default g t c = shaped c.args.at.now (pairs_up c.args.self.now.left c.args.self.now.right c.args.self.now.tests.now) c.requires.is (record { ran = ran_nothing g.met.S.Sources.same c.args.self.now.walk.op _ c.args.s.now c.args.growing.now c.requires.can.bench; cause = for_memory _ (g.S.Sources.view c.args.s.now) (g.S.Sources.view c.args.s.now) _ _ c.from_residual-in_err-start-in_default.ensures c.in_err-start-in_default.ensures.err; answer = none_given _ _ c.from_residual-in_err-start-in_default.ensures.0 })

pub join_steps::Join::step-returns-in_err-place-in-Pair : goal.join_steps::Join::step-returns-in_err-place-in-Pair
join_steps::Join::step-returns-in_err-place-in-Pair g t c = shaped c.args.at.now (pairs_up c.args.self.now.left c.args.self.now.right c.args.self.now.tests.now) c.requires.is (record { ran = ran_nothing g.met.S.Sources.same c.args.self.now.walk.op _ c.args.s.now c.args.growing.now c.requires.can.bench; cause = search rules; answer = search rules })

pub join_steps::Join::step-returns-in_ok-start-in_default : goal.join_steps::Join::step-returns-in_ok-start-in_default
join_steps::Join::step-returns-in_ok-start-in_default g t c =
    let begins = pair_or_start (operators c.args.self.now.walk.fixed.now) c.args.self.now.walk.op c.args.self.now.left c.args.self.now.right c.args.self.now.tests.now (world_of (g.S.Sources.view c.args.s.now) c.args.growing.now) c.args.at.now (in_shape c.requires.can (pairs_up c.args.self.now.left c.args.self.now.right c.args.self.now.tests.now) c.requires.is) (λ q x q' y m e. c.in_default.not-Pair (record { ptr = q.ptr; value = x }) (record { ptr = q'.ptr; value = y }) m e) in
    let goes = pairs_begin (operators c.args.self.now.walk.fixed.now) c.args.self.now.walk.op c.args.self.now.left c.args.self.now.right c.args.self.now.tests.now c.requires.can.fixed.typed c.requires.can.op c.requires.is (world_of (g.S.Sources.view c.args.s.now) c.args.growing.now) c.requires.can.bench c.args.at.now begins in
    let same : c.in_ok-start-in_default.start.value ≡ c.args.at.now = c.in_ok-start-in_default.ensures.ok ∙ sym begins in
    let left = rw same at c.next_left.ensures in
    shaped c.args.at.now (pairs_up c.args.self.now.left c.args.self.now.right c.args.self.now.tests.now) c.requires.is (record {
      ran = ran_then g.met.S.Sources.after (g.met.S.Sources.same c.args.s.now) goes left.ran;
      cause = left.cause;
      answer = goes_result _ goes (pairs_up c.args.self.now.left c.args.self.now.right c.args.self.now.tests.now) c.next_left.result left.answer;
    })

pub path_scan::PathScan::next-next_at-requires-clause-bench : goal.path_scan::PathScan::next-next_at-requires-clause-bench
path_scan::PathScan::next-next_at-requires-clause-bench g t c = rw c.visit.ensures.is c.requires.can.bench

pub path_scan::PathScan::next-next_at-requires-clause-read : goal.path_scan::PathScan::next-next_at-requires-clause-read
path_scan::PathScan::next-next_at-requires-clause-read g t c = rw c.visit.ensures.is (in_visit c.requires.can c.args.self.now.input c.args.self.now.start c.args.self.now.path.now c.args.self.now.out c.requires.is (record { ptr = c.in-Found.below.ptr; value = tt }) _ _ _ c.in-Found.is).3

pub path_scan::PathScan::next-next_at-requires-clause-at : goal.path_scan::PathScan::next-next_at-requires-clause-at
path_scan::PathScan::next-next_at-requires-clause-at g t c = rw c.visit.ensures.is (in_visit c.requires.can c.args.self.now.input c.args.self.now.start c.args.self.now.path.now c.args.self.now.out c.requires.is (record { ptr = c.in-Found.below.ptr; value = tt }) _ _ _ c.in-Found.is).4

pub path_scan::PathScan::next-returns-in_err-next_at-in-Found : goal.path_scan::PathScan::next-returns-in_err-next_at-in-Found
path_scan::PathScan::next-returns-in_err-next_at-in-Found g t c =
    let asked = (later_sought c.args.self.now c.in-Found.source c.in-Found.found _ c.visit.result c.visit.ensures.is c.visit.ensures.auto _ c.next_at.ensures).asked in
    led_at c.args.at.now _ c.in-Found.is (visits_below c.args.self.now.input c.args.self.now.start c.args.self.now.path.now c.args.self.now.out) c.requires.is (record { ran = match_ran c.requires.can c.args.self.now.input c.args.self.now.start c.args.self.now.path.now c.args.self.now.out c.requires.is (record { ptr = c.in-Found.below.ptr; value = tt }) _ _ _ c.in-Found.is asked; cause = handed_on _ (g.S.Sources.view c.args.s.now) (g.S.Sources.view c.next_at.new.s) _ _ c.from_residual.ensures (rw c.visit.ensures.is at c.in_err-next_at-in-Found.ensures.cause); answer = none_given _ _ c.from_residual.ensures.0 })

pub path_scan::PathScan::next-next_start-requires : goal.path_scan::PathScan::next-next_start-requires
path_scan::PathScan::next-next_start-requires g t c κs within =
    let can = can_then (input_can c.requires.can c.args.self.now.input c.args.self.now.start c.args.self.now.path.now c.args.self.now.out c.requires.is (record { ptr = c.in-Found.below.ptr; value = tt }) _ _ _ c.in-Found.is) (g.S.Sources.view c.next_at.new.s) c.next_at.new.growing (later_sought c.args.self.now c.in-Found.source c.in-Found.found _ c.visit.result c.visit.ensures.is c.visit.ensures.auto _ c.next_at.ensures).asked.bench (later_sought c.args.self.now c.in-Found.source c.in-Found.found _ c.visit.result c.visit.ensures.is c.visit.ensures.auto _ c.next_at.ensures).asked.kept in
    let small = input_below c.requires.can c.args.self.now.input c.args.self.now.start c.args.self.now.path.now c.args.self.now.out c.requires.is in
    search rules

pub path_scan::PathScan::next-returns-in-None : goal.path_scan::PathScan::next-returns-in-None
path_scan::PathScan::next-returns-in-None g t c =
    let asked = (later_sought c.args.self.now c.in-Found.source c.in-Found.found _ c.visit.result c.visit.ensures.is c.visit.ensures.auto _ c.next_at.ensures).asked in
    let none = (later_sought c.args.self.now c.in-Found.source c.in-Found.found _ c.visit.result c.visit.ensures.is c.visit.ensures.auto _ c.in_ok-next_at-in-Found.ensures).answer in
    let goes = match_then c.requires.can c.args.self.now.input c.args.self.now.start c.args.self.now.path.now c.args.self.now.out c.requires.is (record { ptr = c.in-Found.below.ptr; value = tt }) _ _ _ c.in-Found.is asked (rw c.in-None.is at none) in
    led_at c.args.at.now _ c.in-Found.is (visits_below c.args.self.now.input c.args.self.now.start c.args.self.now.path.now c.args.self.now.out) c.requires.is (record {
      ran = ran_then g.met.S.Sources.after asked.came goes c.next_start.ensures.ran;
      cause = cause_before g.met.S.Sources.keeps _ _ _ _ asked.came c.next_start.result c.next_start.ensures.cause;
      answer = goes_gives _ goes (visits_below c.args.self.now.input c.args.self.now.start c.args.self.now.path.now c.args.self.now.out) c.next_start.result c.next_start.ensures.answer;
    })

pub path_scan::PathScan::next-returns-in-Some : goal.path_scan::PathScan::next-returns-in-Some
path_scan::PathScan::next-returns-in-Some g t c =
    let asked = (later_sought c.args.self.now c.in-Found.source c.in-Found.found _ c.visit.result c.visit.ensures.is c.visit.ensures.auto _ c.next_at.ensures).asked in
    let hit = rw c.in-Some.is at (later_sought c.args.self.now c.in-Found.source c.in-Found.found _ c.visit.result c.visit.ensures.is c.visit.ensures.auto _ c.in_ok-next_at-in-Found.ensures).answer in
    led_at c.args.at.now _ c.in-Found.is (visits_below c.args.self.now.input c.args.self.now.start c.args.self.now.path.now c.args.self.now.out) c.requires.is (record {
      ran = match_ran c.requires.can c.args.self.now.input c.args.self.now.start c.args.self.now.path.now c.args.self.now.out c.requires.is (record { ptr = c.in-Found.below.ptr; value = tt }) _ _ _ c.in-Found.is asked;
      cause = tt;
      answer = match_found c.requires.can c.args.self.now.input c.args.self.now.start c.args.self.now.path.now c.args.self.now.out c.requires.is (record { ptr = c.in-Found.below.ptr; value = tt }) _ _ _ c.in-Found.is asked hit.0 hit.1 c.in-Some.next.value {u = hit.2.0} hit.2.1;
    })

pub path_scan::PathScan::next-next_start-requires-in_default : goal.path_scan::PathScan::next-next_start-requires-in_default
path_scan::PathScan::next-next_start-requires-in_default g t c κs within =
    let begins = found_or_start (operators c.args.self.now.walk.fixed.now) c.args.self.now.walk.op c.args.self.now.input c.args.self.now.start c.args.self.now.path.now c.args.self.now.out (world_of (g.S.Sources.view c.args.s.now) c.args.growing.now) c.args.at.now (in_shape c.requires.can (visits_below c.args.self.now.input c.args.self.now.start c.args.self.now.path.now c.args.self.now.out) c.requires.is) (λ q x s d e. c.in_default.not-Found s (record { ptr = q.ptr; value = x }) d e) in
    let same : c.in_ok-start-in_default.start.value ≡ c.args.at.now = c.in_ok-start-in_default.ensures.ok ∙ sym begins in
    let can : CanStep (g.S.Sources.view c.args.s.now) c.args.growing.now c.args.self.now.walk.fixed.now c.args.self.now.input c.in_ok-start-in_default.start.value = rw same (start_can c.requires.can c.args.self.now.input c.args.self.now.start c.args.self.now.path.now c.args.self.now.out c.requires.is begins) in
    let small = input_below c.requires.can c.args.self.now.input c.args.self.now.start c.args.self.now.path.now c.args.self.now.out c.requires.is in
    search rules

pub path_scan::PathScan::next-returns-in_err-start-in_default : goal.path_scan::PathScan::next-returns-in_err-start-in_default
path_scan::PathScan::next-returns-in_err-start-in_default g t c = led c.args.at.now (visits_below c.args.self.now.input c.args.self.now.start c.args.self.now.path.now c.args.self.now.out) c.requires.is (record { ran = ran_nothing g.met.S.Sources.same c.args.self.now.walk.op _ c.args.s.now c.args.growing.now c.requires.can.bench; cause = for_memory _ (g.S.Sources.view c.args.s.now) (g.S.Sources.view c.args.s.now) _ _ c.from_residual-in_err-start-in_default.ensures c.in_err-start-in_default.ensures.err; answer = none_given _ _ c.from_residual-in_err-start-in_default.ensures.0 })

pub path_scan::PathScan::next-returns-in_ok-start-in_default : goal.path_scan::PathScan::next-returns-in_ok-start-in_default
path_scan::PathScan::next-returns-in_ok-start-in_default g t c =
    let begins = found_or_start (operators c.args.self.now.walk.fixed.now) c.args.self.now.walk.op c.args.self.now.input c.args.self.now.start c.args.self.now.path.now c.args.self.now.out (world_of (g.S.Sources.view c.args.s.now) c.args.growing.now) c.args.at.now (in_shape c.requires.can (visits_below c.args.self.now.input c.args.self.now.start c.args.self.now.path.now c.args.self.now.out) c.requires.is) (λ q x s d e. c.in_default.not-Found s (record { ptr = q.ptr; value = x }) d e) in
    let goes = visits_begin (operators c.args.self.now.walk.fixed.now) c.args.self.now.walk.op c.args.self.now.input c.args.self.now.start c.args.self.now.path.now c.args.self.now.out c.requires.can.fixed.typed c.requires.can.op c.requires.is (world_of (g.S.Sources.view c.args.s.now) c.args.growing.now) c.requires.can.bench c.args.at.now begins in
    let same : c.in_ok-start-in_default.start.value ≡ c.args.at.now = c.in_ok-start-in_default.ensures.ok ∙ sym begins in
    let next = rw same at c.next_start-in_default.ensures in
    led c.args.at.now (visits_below c.args.self.now.input c.args.self.now.start c.args.self.now.path.now c.args.self.now.out) c.requires.is (record {
      ran = ran_then g.met.S.Sources.after (g.met.S.Sources.same c.args.s.now) goes next.ran;
      cause = next.cause;
      answer = goes_gives _ goes (visits_below c.args.self.now.input c.args.self.now.start c.args.self.now.path.now c.args.self.now.out) c.next_start-in_default.result next.answer;
    })

pub path_scan::PathScan::next_start-starts-init : goal.path_scan::PathScan::next_start-starts-init
path_scan::PathScan::next_start-starts-init g t c =
    rw c.in_ok-at.ensures.ok record {
      came = g.met.S.Sources.same c.args.s.now;
      goes = goes_same (keeps_same (world_of (g.S.Sources.view c.args.s.now) c.args.growing.now) (operators c.args.self.now.walk.fixed.now) c.requires.can.bench) refl refl;
      can = c.requires.can;
    }

pub path_scan::PathScan::next_start-returns-in_err-at : goal.path_scan::PathScan::next_start-returns-in_err-at
path_scan::PathScan::next_start-returns-in_err-at g t c = record { ran = ran_nothing g.met.S.Sources.same c.args.self.now.walk.op _ c.args.s.now c.args.growing.now c.requires.can.bench; cause = for_memory _ (g.S.Sources.view c.args.s.now) (g.S.Sources.view c.args.s.now) _ _ c.from_residual.ensures c.in_err-at.ensures.err; answer = none_given _ _ c.from_residual.ensures.0 }

pub path_scan::PathScan::next_start-returns-in_err-next : goal.path_scan::PathScan::next_start-returns-in_err-next
path_scan::PathScan::next_start-returns-in_err-next g t c = record { ran = scan_over g.met.S.Sources.after c.args.self.now c.requires.op c.requires.is c.starts.invariant c.advance.ensures.ran; cause = handed_on _ (g.S.Sources.view c.args.s.now) (g.S.Sources.view c.advance.new.s) _ _ c.from_residual-in_err-next.ensures (rose_before g.met.S.Sources.keeps _ _ _ _ c.starts.invariant.came _ c.in_err-next.ensures.cause); answer = none_given _ _ c.from_residual-in_err-next.ensures.0 }

pub path_scan::PathScan::next_start-returns-in_default : goal.path_scan::PathScan::next_start-returns-in_default
path_scan::PathScan::next_start-returns-in_default g t c =
    let i = c.starts.invariant in
    record {
      ran = scan_over g.met.S.Sources.after c.args.self.now c.requires.op c.requires.is c.starts.invariant c.advance.ensures.ran;
      cause = tt;
      answer = comes_none i.goes.comes (visits_done (operators c.args.self.now.walk.fixed.now) c.args.self.now.walk.op c.args.self.now.input c.args.self.now.start c.args.self.now.path.now c.args.self.now.out i.can.fixed.typed c.requires.op c.requires.is (world_of (g.S.Sources.view c.starts.s) c.starts.growing) (world_of (g.S.Sources.view c.starts.s) c.starts.growing) i.can.bench c.starts.at.value (rw (none_of _ c.in_default.not-Some) at c.in_ok-next.ensures.answer));
    }

pub path_scan::PathScan::next_start-advance-requires : goal.path_scan::PathScan::next_start-advance-requires
path_scan::PathScan::next_start-advance-requires g t c κs within =
    let can = c.starts.invariant.can in
    let small = input_before (operators c.args.self.now.walk.fixed.now) can.fixed.typed c.args.self.now.walk.op c.requires.op c.args.self.now.input c.args.self.now.start c.args.self.now.path.now c.args.self.now.out c.requires.is in
    search rules

pub path_scan::PathScan::next_start-node_of-source-requires-clause-cursor : goal.path_scan::PathScan::next_start-node_of-source-requires-clause-cursor
path_scan::PathScan::next_start-node_of-source-requires-clause-cursor g t c =
    let f = rw c.in-Some.is at c.in_ok-next.ensures.answer in
    rw c.deref.ensures (world_of (g.S.Sources.view c.advance.new.s) c.advance.new.growing, f.cursor)

pub path_scan::PathScan::next_start-node_of-source-requires-clause-node : goal.path_scan::PathScan::next_start-node_of-source-requires-clause-node
path_scan::PathScan::next_start-node_of-source-requires-clause-node g t c = (fit_at (operators c.args.self.now.walk.fixed.now) c.requires.can.fixed.typed c.args.self.now.walk.op c.requires.op (visits_below c.args.self.now.input c.args.self.now.start c.args.self.now.path.now c.args.self.now.out) c.requires.is).0

pub path_scan::PathScan::next_start-first_at-requires-clause-bench : goal.path_scan::PathScan::next_start-first_at-requires-clause-bench
path_scan::PathScan::next_start-first_at-requires-clause-bench g t c = rw c.visit.ensures.is c.advance.ensures.ran.bench

pub path_scan::PathScan::next_start-first_at-requires-clause-read : goal.path_scan::PathScan::next_start-first_at-requires-clause-read
path_scan::PathScan::next_start-first_at-requires-clause-read g t c =
    let f = rw c.in-Some.is at c.in_ok-next.ensures.answer in
    let node = (rw c.deref.ensures at c.node_of-source.ensures) _ f.cursor in
    rw c.visit.ensures.is node.read

pub path_scan::PathScan::next_start-first_at-requires-clause-start : goal.path_scan::PathScan::next_start-first_at-requires-clause-start
path_scan::PathScan::next_start-first_at-requires-clause-start g t c =
    let f = rw c.in-Some.is at c.in_ok-next.ensures.answer in
    let node = (rw c.deref.ensures at c.node_of-source.ensures) _ f.cursor in
    rw c.visit.ensures.is node.known

pub path_scan::PathScan::next_start-returns-in_err-found : goal.path_scan::PathScan::next_start-returns-in_err-found
path_scan::PathScan::next_start-returns-in_err-found g t c =
    let f = rw c.in-Some.is at c.in_ok-next.ensures.answer in
    record {
      ran = scan_ran g.met.S.Sources.after c.args.self.now c.requires.op c.requires.is c.starts.invariant c.advance.ensures.ran _ f _ _ ((rw c.deref.ensures at c.node_of-source.ensures) _ f.cursor) c.visit.result c.visit.ensures.is c.visit.ensures.auto _ c.first_at.ensures;
      cause = handed_on _ (g.S.Sources.view c.args.s.now) (g.S.Sources.view c.first_at.new.s) _ _ c.from_residual-in_err-found.ensures (rose_before g.met.S.Sources.keeps _ _ _ _ (g.met.S.Sources.after _ _ _ c.starts.invariant.came c.advance.ensures.ran.came) _ (rw c.visit.ensures.is at c.in_err-found.ensures.cause));
      answer = none_given _ _ c.from_residual-in_err-found.ensures.0;
    }

pub path_scan::PathScan::next_start-returns-in-Some-2 : goal.path_scan::PathScan::next_start-returns-in-Some-2
path_scan::PathScan::next_start-returns-in-Some-2 g t c =
    let f = rw c.in-Some.is at c.in_ok-next.ensures.answer in
    scan_ends g.met.S.Sources.after c.args.self.now c.requires.op c.requires.is c.starts.invariant c.advance.ensures.ran _ f _ _ ((rw c.deref.ensures at c.node_of-source.ensures) _ f.cursor) c.visit.result c.visit.ensures.is c.visit.ensures.auto _ c.in_ok-found.ensures _ (ap Ok c.in-Some-2.is)

pub path_scan::PathScan::next_start-starts-preserved : goal.path_scan::PathScan::next_start-starts-preserved
path_scan::PathScan::next_start-starts-preserved g t c =
    let f = rw c.in-Some.is at c.in_ok-next.ensures.answer in
    scan_goes_on g.met.S.Sources.after c.args.self.now c.requires.op c.requires.is c.starts.invariant c.advance.ensures.ran _ f _ _ ((rw c.deref.ensures at c.node_of-source.ensures) _ f.cursor) c.visit.result c.visit.ensures.is c.visit.ensures.auto _ c.in_ok-found.ensures (ap Ok (none_of _ c.in_default-2.not-Some))

pub path_scan::PathScan::next_start-starts-smaller : goal.path_scan::PathScan::next_start-starts-smaller
path_scan::PathScan::next_start-starts-smaller g t c =
    let f = rw c.in-Some.is at c.in_ok-next.ensures.answer in
    scan_falls g.met.S.Sources.after c.args.self.now c.requires.op c.requires.is c.starts.invariant c.advance.ensures.ran _ f _ _ ((rw c.deref.ensures at c.node_of-source.ensures) _ f.cursor) c.visit.result c.visit.ensures.is c.visit.ensures.auto _ c.first_at.ensures

pub sort_steps::Sort::first-returns-in_err-rows : goal.sort_steps::Sort::first-returns-in_err-rows
sort_steps::Sort::first-returns-in_err-rows g t c = led Start (sorts c.args.self.now.input c.args.self.now.var c.args.self.now.desc) c.requires.is (record { ran = order_ran (operators c.args.self.now.walk.fixed.now) c.requires.can.fixed.typed c.args.self.now.walk.op c.requires.can.op c.args.self.now.input c.args.self.now.var c.args.self.now.desc c.requires.is c.labelled.ensures.ran; cause = handed_on _ (g.S.Sources.view c.args.s.now) (g.S.Sources.view c.labelled.new.s) _ _ c.from_residual.ensures (c.in_err-rows.ensures.cause); answer = none_given _ _ c.from_residual.ensures.0 })

pub sort_steps::labelled-returns-in_err-at-clause-ran : goal.sort_steps::labelled-returns-in_err-at-clause-ran
sort_steps::labelled-returns-in_err-at-clause-ran g t c = through_nothing g.met.S.Sources.same c.args.walk.op c.args.s.now c.args.growing.now c.requires.can.bench

pub sort_steps::labelled-events-init : goal.sort_steps::labelled-events-init
sort_steps::labelled-events-init g t c =
    rw (c.new-rows.ensures.items, c.in_ok-at.ensures.ok) record {
      came = g.met.S.Sources.same c.args.s.now;
      gathered = gathered_start (world_of (g.S.Sources.view c.args.s.now) c.args.growing.now) (operators c.args.walk.fixed.now) c.args.walk.op c.args.v (keeps_same (world_of (g.S.Sources.view c.args.s.now) c.args.growing.now) (operators c.args.walk.fixed.now) c.requires.can.bench) Start refl;
      can = c.requires.can;
    }

pub sort_steps::labelled-events-preserved : goal.sort_steps::labelled-events-preserved
sort_steps::labelled-events-preserved g t c =
    let finds = rw c.in-Some.is at c.in_ok-advance.ensures.answer in
    record {
      came = g.met.S.Sources.after _ _ _ c.events.invariant.came c.advance.ensures.ran.came;
      gathered = subst (λ (rows : List Labelled). Gathered (world_of (g.S.Sources.view c.args.s.now) c.args.growing.now) (world_of (g.S.Sources.view c.advance.new.s) c.advance.new.growing) (operators c.args.walk.fixed.now) c.args.walk.op c.args.v rows c.in-Some.found.value) (sym c.in_ok-push-in-Some.ensures.items)
          (gathered_more (world_of (g.S.Sources.view c.advance.new.s) c.advance.new.growing) c.events.invariant.gathered c.events.invariant.can.bench c.advance.ensures.ran.asks c.in-Some.found.value finds c.in_ok-row-in-Some.row c.in_ok-row-in-Some.ensures.place (c.in_ok-row-in-Some.ensures.label (g.S.Sources.view c.advance.new.s) c.advance.ensures.ran.bench finds.cursor));
      can = record { fixed = c.requires.can.fixed; op = c.requires.can.op; bench = c.advance.ensures.ran.bench; cursor = finds.cursor };
    }

pub sort_steps::labelled-returns-in_err-advance-clause-ran : goal.sort_steps::labelled-returns-in_err-advance-clause-ran
sort_steps::labelled-returns-in_err-advance-clause-ran g t c = through g.met.S.Sources.after c.events.invariant.came c.events.invariant.gathered c.events.invariant.can.bench c.advance.ensures.ran

pub sort_steps::labelled-returns-in-None-clause-ran : goal.sort_steps::labelled-returns-in-None-clause-ran
sort_steps::labelled-returns-in-None-clause-ran g t c = through g.met.S.Sources.after c.events.invariant.came c.events.invariant.gathered c.events.invariant.can.bench c.advance.ensures.ran

pub sort_steps::labelled-returns-in_err-row-in-Some-clause-ran : goal.sort_steps::labelled-returns-in_err-row-in-Some-clause-ran
sort_steps::labelled-returns-in_err-row-in-Some-clause-ran g t c = through g.met.S.Sources.after c.events.invariant.came c.events.invariant.gathered c.events.invariant.can.bench c.advance.ensures.ran

pub sort_steps::labelled-returns-in_err-push-in-Some-clause-ran : goal.sort_steps::labelled-returns-in_err-push-in-Some-clause-ran
sort_steps::labelled-returns-in_err-push-in-Some-clause-ran g t c = through g.met.S.Sources.after c.events.invariant.came c.events.invariant.gathered c.events.invariant.can.bench c.advance.ensures.ran

pub sort_steps::labelled-returns-in-None-clause-rows : goal.sort_steps::labelled-returns-in-None-clause-rows
sort_steps::labelled-returns-in-None-clause-rows g t c =
    gathered_all (world_of (g.S.Sources.view c.advance.new.s) c.advance.new.growing) c.events.invariant.gathered c.events.invariant.can.bench c.advance.ensures.ran.asks c.requires.can.bench (rw c.in-None.is at c.in_ok-advance.ensures.answer)

pub sort_steps::Sort::first-returns : goal.sort_steps::Sort::first-returns
sort_steps::Sort::first-returns g t c =
    led Start (sorts c.args.self.now.input c.args.self.now.var c.args.self.now.desc) c.requires.is (record {
      ran = order_ran (operators c.args.self.now.walk.fixed.now) c.requires.can.fixed.typed c.args.self.now.walk.op c.requires.can.op c.args.self.now.input c.args.self.now.var c.args.self.now.desc c.requires.is c.labelled.ensures.ran;
      cause = memory_cause _ (g.S.Sources.view c.args.s.now) (g.S.Sources.view c.labelled.new.s) c.first_sorted.result c.first_sorted.ensures.err;
      answer = IfOk-weaker c.first_sorted.result _ _ (λ r ok. order_first (operators c.args.self.now.walk.fixed.now) c.requires.can.fixed.typed c.args.self.now.walk.op c.requires.can.op c.args.self.now.input c.args.self.now.var c.args.self.now.desc c.requires.is (world_of (g.S.Sources.view c.args.s.now) c.args.growing.now) (world_of (g.S.Sources.view c.labelled.new.s) c.labelled.new.growing) c.labelled.ensures.ran.kept c.requires.can.bench c.in_ok-rows.rows.items _ c.in_ok-rows.ensures.rows refl ok.0 ok.1 r ok.2) c.first_sorted.ensures.ok;
    })

pub sort_steps::Sort::next-overflow_add-index : goal.sort_steps::Sort::next-overflow_add-index
sort_steps::Sort::next-overflow_add-index g t c =
    let of = in_place c.requires.can (sorts c.args.self.now.input c.args.self.now.var c.args.self.now.desc) c.requires.is _ c.in-Sorted.is in
    let count = list_count c.in-Sorted.list c.in-Sorted.index in
    omega (arith, count, of.1, c.in-Sorted.list.value.ok, c.in-Sorted.list.value.small)

pub sort_steps::Sort::next-returns-in-Sorted : goal.sort_steps::Sort::next-returns-in-Sorted
sort_steps::Sort::next-returns-in-Sorted g t c =
    led_at c.args.at.now _ c.in-Sorted.is (sorts c.args.self.now.input c.args.self.now.var c.args.self.now.desc) c.requires.is (record {
      ran = ran_nothing g.met.S.Sources.same c.args.self.now.walk.op _ c.args.s.now c.args.growing.now c.requires.can.bench;
      cause = memory_cause _ (g.S.Sources.view c.args.s.now) (g.S.Sources.view c.args.s.now) c.sorted_at.result c.sorted_at.ensures.err;
      answer = IfOk-weaker c.sorted_at.result _ _ (λ r ok. order_next (world_of (g.S.Sources.view c.args.s.now) c.args.growing.now) (operators c.args.self.now.walk.fixed.now) c.args.self.now.walk.op c.args.self.now.input c.args.self.now.var c.args.self.now.desc c.in-Sorted.list c.in-Sorted.index (in_place c.requires.can (sorts c.args.self.now.input c.args.self.now.var c.args.self.now.desc) c.requires.is _ c.in-Sorted.is) r ok) c.sorted_at.ensures.ok;
    })

pub sort_steps::Sort::next-returns-in_default : goal.sort_steps::Sort::next-returns-in_default
sort_steps::Sort::next-returns-in_default g t c =
    led c.args.at.now (sorts c.args.self.now.input c.args.self.now.var c.args.self.now.desc) c.requires.is (record {
      ran = ran_nothing g.met.S.Sources.same c.args.self.now.walk.op _ c.args.s.now c.args.growing.now c.requires.can.bench;
      cause = tt;
      answer = λ u. order_over (operators c.args.self.now.walk.fixed.now) c.requires.can.fixed.typed c.args.self.now.walk.op c.requires.can.op c.args.self.now.input c.args.self.now.var c.args.self.now.desc c.requires.is (world_of (g.S.Sources.view c.args.s.now) c.args.growing.now) c.args.at.now (in_shape c.requires.can (sorts c.args.self.now.input c.args.self.now.var c.args.self.now.desc) c.requires.is) (λ e. c.in_default.not-Start e) (λ list k e. c.in_default.not-Sorted list k e);
    })

pub steps::advance_below-unreachable-requires : goal.steps::advance_below-unreachable-requires
steps::advance_below-unreachable-requires g t c = c.requires.more _ (_, ap shape_of (sym c.operator.ensures ∙ ap op_of c.in-Concatenate.is), tt)

pub steps::advance_below-unreachable-requires-in-CreateElement : goal.steps::advance_below-unreachable-requires-in-CreateElement
steps::advance_below-unreachable-requires-in-CreateElement g t c = c.requires.more _ (_, ap shape_of (sym c.operator.ensures ∙ ap op_of c.in-CreateElement.is), tt)

pub steps::advance_below-next-requires-in-Project : goal.steps::advance_below-next-requires-in-Project
steps::advance_below-next-requires-in-Project g t c κs within =
    let one = c.new-in-Project.result in
    let shape = ap shape_of (sym c.operator.ensures ∙ ap op_of c.in-Project.is) in
    let given : KeepsFirsts c.args.walk c.in-Project.input c.in-Project.keys.items = (None, shape, none_apart (operators c.args.walk.fixed.now) c.args.walk.op c.in-Project.input c.in-Project.keys.items shape c.requires.more, refl) in
    let is : KeepsFirsts one.walk one.input one.keys.now =
    subst (λ (z : Distinct). KeepsFirsts z.walk z.input z.keys.now) (sym c.new-in-Project.ensures) (subst (KeepsFirsts c.args.walk c.in-Project.input) (sym c.deref-in-Project.ensures.value) given) in
    search rules

pub steps::advance_below-next-requires-in-GroupBy-2 : goal.steps::advance_below-next-requires-in-GroupBy-2
steps::advance_below-next-requires-in-GroupBy-2 g t c κs within =
    let one = c.new-in-GroupBy-2.result in
    let op = sym c.operator.ensures ∙ ap op_of c.in-GroupBy-2.is in
    let given : (group : Option (Piece × ℕ)) × (shape_walked c.args.walk ≡ passes_on c.in-GroupBy-2.input (first_by_keys c.deref-in-GroupBy-2.result.now group)) = search rules in
    let shape = sym (ap shape_of op) ∙ given.1 in
    let made = group_made _ _ _ _ _ _ given.0 shape in
    let gathers = group_gathers (operators c.args.walk.fixed.now) _ _ _ _ _ _ given.0 shape ∙ ap not (ap (op_stops (operators c.args.walk.fixed.now)) (sym op) ∙ sym c.stops_at.ensures ∙ c.if-not-stops_at.true) in
    let is : GathersGroups one =
    subst GathersGroups (sym c.new-in-GroupBy-2.ensures) (
      made.0,
      given.1 ∙ ap (λ (z : Option (Piece × ℕ)). passes_on c.in-GroupBy-2.input (first_by_keys c.deref-in-GroupBy-2.result.now z)) made.1,
      subst (λ (z : Option (Piece × ℕ)). gathers_by (operators c.args.walk.fixed.now) (passes_on c.in-GroupBy-2.input (first_by_keys c.deref-in-GroupBy-2.result.now z)) ≡ true) made.1 gathers,
    ) in
    search rules

pub steps::advance_below-next-requires-in-GroupBy-3 : goal.steps::advance_below-next-requires-in-GroupBy-3
steps::advance_below-next-requires-in-GroupBy-3 g t c κs within =
    let one = c.new-in-GroupBy-3.result in
    let op = sym c.operator.ensures ∙ ap op_of c.in-GroupBy-3.is in
    let given : (group : Option (Piece × ℕ)) × (shape_walked c.args.walk ≡ passes_on c.in-GroupBy-3.input (first_by_keys c.deref-in-GroupBy-3.result.now group)) = search rules in
    let shape = sym (ap shape_of op) ∙ given.1 in
    let some = group_some (operators c.args.walk.fixed.now) _ _ _ _ _ _ given.0 shape in
    let no = group_gathers (operators c.args.walk.fixed.now) _ _ _ _ _ _ given.0 shape ∙ ap not (ap (op_stops (operators c.args.walk.fixed.now)) (sym op) ∙ sym c.stops_at.ensures ∙ c.if-not-stops_at.false) in
    let is : KeepsFirsts one.walk one.input one.keys.now = subst (λ (z : Distinct). KeepsFirsts z.walk z.input z.keys.now) (sym c.new-in-GroupBy-3.ensures) (given.0, given.1, some, no) in
    search rules

pub join_steps::Join::grow-returns-in_err-last : goal.join_steps::Join::grow-returns-in_err-last
join_steps::Join::grow-returns-in_err-last g t c = record { ran = ran_nothing g.met.S.Sources.same c.args.self.now.walk.op _ c.args.s.now c.args.growing.now c.requires.bench; cause = for_memory _ (g.S.Sources.view c.args.s.now) (g.S.Sources.view c.args.s.now) _ _ c.from_residual.ensures c.in_err-last.ensures.err; answer = none_given _ _ c.from_residual.ensures.0 }

pub join_steps::Join::grow-advance-requires : goal.join_steps::Join::grow-advance-requires
join_steps::Join::grow-advance-requires g t c κs within =
    let can = last_can {v = g.S.Sources.view c.args.s.now} {g = c.args.growing.now} c.args.self.now.left c.args.self.now.right c.args.self.now.walk.op c.args.self.now.tests.now c.requires.fixed c.requires.op c.requires.is c.requires.bench c.in_ok-last.last.value (c.in_ok-last.ensures.ok ∙ ap (λ (m : Kept (Rc Position Global)). last_of Start m.pairs) (memo_read (g.S.Sources.view c.args.s.now) c.args.growing.now (operators c.args.self.now.walk.fixed.now) c.requires.bench c.args.self.now.walk.op c.requires.op c.index.result.now c.index.ensures)) in
    search rules

pub join_steps::Join::grow-returns-in_err-advance : goal.join_steps::Join::grow-returns-in_err-advance
join_steps::Join::grow-returns-in_err-advance g t c =
    let last = (c.in_ok-last.ensures.ok ∙ ap (λ (m : Kept (Rc Position Global)). last_of Start m.pairs) (memo_read (g.S.Sources.view c.args.s.now) c.args.growing.now (operators c.args.self.now.walk.fixed.now) c.requires.bench c.args.self.now.walk.op c.requires.op c.index.result.now c.index.ensures)) in
    let adv = rw last at c.advance.ensures in
    record { ran = grow_ran c.args.self.now.left c.args.self.now.right c.args.self.now.walk.op c.args.self.now.tests.now c.requires.fixed c.requires.op c.requires.is c.requires.bench adv.ran; cause = handed_on _ (g.S.Sources.view c.args.s.now) (g.S.Sources.view c.advance.new.s) _ _ c.from_residual-in_err-advance.ensures (c.in_err-advance.ensures.cause); answer = none_given _ _ c.from_residual-in_err-advance.ensures.0 }

pub join_steps::Join::grow-returns-in-None : goal.join_steps::Join::grow-returns-in-None
join_steps::Join::grow-returns-in-None g t c =
    let last = (c.in_ok-last.ensures.ok ∙ ap (λ (m : Kept (Rc Position Global)). last_of Start m.pairs) (memo_read (g.S.Sources.view c.args.s.now) c.args.growing.now (operators c.args.self.now.walk.fixed.now) c.requires.bench c.args.self.now.walk.op c.requires.op c.index.result.now c.index.ensures)) in
    let adv = rw last at c.advance.ensures in
    let none = rw (c.in-None.is, last) at c.in_ok-advance.ensures.answer in
    record {
      ran = ended_ran c.args.self.now.left c.args.self.now.right c.args.self.now.walk.op c.args.self.now.tests.now c.requires.fixed c.requires.op c.requires.is c.requires.bench adv.ran c.end_members.new.memos c.end_members.ensures.others c.end_members.ensures.ended none;
      cause = tt;
      answer = ended_grown c.args.self.now.left c.args.self.now.right c.args.self.now.walk.op c.args.self.now.tests.now c.requires.fixed c.requires.op c.requires.is c.requires.bench adv.ran c.end_members.new.memos c.end_members.ensures.others c.end_members.ensures.ended none;
    }

pub join_steps::Join::grow-returns-in_err-label-in-Some : goal.join_steps::Join::grow-returns-in_err-label-in-Some
join_steps::Join::grow-returns-in_err-label-in-Some g t c =
    let last = (c.in_ok-last.ensures.ok ∙ ap (λ (m : Kept (Rc Position Global)). last_of Start m.pairs) (memo_read (g.S.Sources.view c.args.s.now) c.args.growing.now (operators c.args.self.now.walk.fixed.now) c.requires.bench c.args.self.now.walk.op c.requires.op c.index.result.now c.index.ensures)) in
    let adv = rw last at c.advance.ensures in
    record { ran = grow_ran c.args.self.now.left c.args.self.now.right c.args.self.now.walk.op c.args.self.now.tests.now c.requires.fixed c.requires.op c.requires.is c.requires.bench adv.ran; cause = search rules; answer = search rules }

pub join_steps::Join::grow-returns-in_err-push_member-in-Some : goal.join_steps::Join::grow-returns-in_err-push_member-in-Some
join_steps::Join::grow-returns-in_err-push_member-in-Some g t c =
    let last = (c.in_ok-last.ensures.ok ∙ ap (λ (m : Kept (Rc Position Global)). last_of Start m.pairs) (memo_read (g.S.Sources.view c.args.s.now) c.args.growing.now (operators c.args.self.now.walk.fixed.now) c.requires.bench c.args.self.now.walk.op c.requires.op c.index.result.now c.index.ensures)) in
    let adv = rw last at c.advance.ensures in
    record { ran = refused_ran c.args.self.now.left c.args.self.now.right c.args.self.now.walk.op c.args.self.now.tests.now c.requires.fixed c.requires.op c.requires.is c.requires.bench adv.ran c.push_member.new.memos c.push_member.ensures.others c.in_err-push_member-in-Some.ensures.err; cause = for_memory _ (g.S.Sources.view c.args.s.now) (g.S.Sources.view c.advance.new.s) _ _ c.from_residual-in_err-push_member-in-Some.ensures c.in_err-push_member-in-Some.ensures.memory; answer = none_given _ _ c.from_residual-in_err-push_member-in-Some.ensures.0 }

pub join_steps::Join::grow-returns : goal.join_steps::Join::grow-returns
join_steps::Join::grow-returns g t c =
    let last = (c.in_ok-last.ensures.ok ∙ ap (λ (m : Kept (Rc Position Global)). last_of Start m.pairs) (memo_read (g.S.Sources.view c.args.s.now) c.args.growing.now (operators c.args.self.now.walk.fixed.now) c.requires.bench c.args.self.now.walk.op c.requires.op c.index.result.now c.index.ensures)) in
    let adv = rw last at c.advance.ensures in
    let f = rw (c.in-Some.is, last) at c.in_ok-advance.ensures.answer in
    let label = c.in_ok-label-in-Some.ensures (g.S.Sources.view c.advance.new.s) adv.ran.bench f.cursor in
    record {
      ran = pushed_ran c.args.self.now.left c.args.self.now.right c.args.self.now.walk.op c.args.self.now.tests.now c.requires.fixed c.requires.op c.requires.is c.requires.bench adv.ran c.push_member.new.memos c.push_member.ensures.others c.in_ok-label-in-Some.label c.in-Some.found c.in_ok-push_member-in-Some.ensures.ok f label;
      cause = tt;
      answer = pushed_grown c.args.self.now.left c.args.self.now.right c.args.self.now.walk.op c.args.self.now.tests.now c.requires.fixed c.requires.op c.requires.is c.requires.bench adv.ran c.push_member.new.memos c.push_member.ensures.others c.in_ok-label-in-Some.label c.in-Some.found c.in_ok-push_member-in-Some.ensures.ok f label;
    }

pub join_steps::Join::next_new-members-init : goal.join_steps::Join::next_new-members-init
join_steps::Join::next_new-members-init g t c = record {
  came = g.met.S.Sources.same c.args.s.now;
  goes = goes_same (keeps_same (world_of (g.S.Sources.view c.args.s.now) c.args.growing.now) (operators c.args.self.now.walk.fixed.now) c.requires.can.bench) refl refl;
  can = c.requires.can;
}

pub join_steps::Join::next_new-returns-then-ended : goal.join_steps::Join::next_new-returns-then-ended
join_steps::Join::next_new-returns-then-ended g t c =
    let i = c.members.invariant in
    let ended = ap (λ (m : Kept (Rc Position Global)). m.ended) (sym (memo_read (g.S.Sources.view c.members.s) c.members.growing (operators c.args.self.now.walk.fixed.now) i.can.bench c.args.self.now.walk.op c.requires.op c.index-memo.result.now c.index-memo.ensures)) ∙ sym c.ended.ensures ∙ c.if-ended.true in
    let goes = goes_then i.goes (ended_goes (operators c.args.self.now.walk.fixed.now) c.args.self.now.walk.op c.args.self.now.left c.args.self.now.right c.args.self.now.tests.now i.can.fixed.typed c.requires.op c.requires.is (world_of (g.S.Sources.view c.members.s) c.members.growing) i.can.bench c.args.l.now.value i.can.cursor c.requires.row ended) in
    record {
      ran = ran_then g.met.S.Sources.after i.came goes c.next_left.ensures.ran;
      cause = cause_before g.met.S.Sources.keeps _ _ _ _ i.came c.next_left.result c.next_left.ensures.cause;
      answer = goes_result _ goes (pairs_up c.args.self.now.left c.args.self.now.right c.args.self.now.tests.now) c.next_left.result c.next_left.ensures.answer;
    }

pub join_steps::Join::next_new-returns-in_err-grow : goal.join_steps::Join::next_new-returns-in_err-grow
join_steps::Join::next_new-returns-in_err-grow g t c = (let i = c.members.invariant in record { ran = ran_then g.met.S.Sources.after i.came i.goes (beside_ran c.args.self.now.left c.args.self.now.right c.args.self.now.walk.op c.args.self.now.tests.now i.can c.requires.row c.requires.op c.requires.is c.grow.ensures.ran); cause = handed_on _ (g.S.Sources.view c.args.s.now) (g.S.Sources.view c.grow.new.s) _ _ c.from_residual.ensures (rose_before g.met.S.Sources.keeps _ _ _ _ i.came _ c.in_err-grow.ensures.cause); answer = none_given _ _ c.from_residual.ensures.0 })

pub join_steps::Join::next_new-next_left-requires-then-not-branch : goal.join_steps::Join::next_new-next_left-requires-then-not-branch
join_steps::Join::next_new-next_left-requires-then-not-branch g t c κs within =
    let can = can_then c.members.invariant.can (g.S.Sources.view c.grow.new.s) c.grow.new.growing c.grow.ensures.ran.bench c.grow.ensures.ran.asks.kept in
    let small = (inputs_at (operators c.args.self.now.walk.fixed.now) c.requires.can.fixed.typed c.args.self.now.walk.op c.requires.op (pairs_up c.args.self.now.left c.args.self.now.right c.args.self.now.tests.now) c.requires.is).0 in
    search rules

pub join_steps::Join::next_new-returns-then-not-branch : goal.join_steps::Join::next_new-returns-then-not-branch
join_steps::Join::next_new-returns-then-not-branch g t c =
    let i = c.members.invariant in
    let none = rw c.if-not-branch.true at c.in_ok-grow.ensures.answer in
    let goes = goes_then i.goes (none_grown c.args.self.now.left c.args.self.now.right c.args.self.now.walk.op c.args.self.now.tests.now i.can c.requires.row c.requires.op c.requires.is c.grow.ensures.ran none.1) in
    record {
      ran = ran_then g.met.S.Sources.after (g.met.S.Sources.after _ _ _ i.came c.grow.ensures.ran.came) goes c.next_left-then-not-branch.ensures.ran;
      cause = cause_before g.met.S.Sources.keeps _ _ _ _ (g.met.S.Sources.after _ _ _ i.came c.grow.ensures.ran.came) c.next_left-then-not-branch.result c.next_left-then-not-branch.ensures.cause;
      answer = goes_result _ goes (pairs_up c.args.self.now.left c.args.self.now.right c.args.self.now.tests.now) c.next_left-then-not-branch.result c.next_left-then-not-branch.ensures.answer;
    }

pub join_steps::Join::next_new-next_known-requires-clause-cursor : goal.join_steps::Join::next_new-next_known-requires-clause-cursor
join_steps::Join::next_new-next_known-requires-clause-cursor g t c = (_, c.grow.ensures.ran.bench, (can_then c.members.invariant.can (g.S.Sources.view c.grow.new.s) c.grow.new.growing c.grow.ensures.ran.bench c.grow.ensures.ran.asks.kept).cursor)

pub join_steps::Join::next_new-at_found-requires-clause-can : goal.join_steps::Join::next_new-at_found-requires-clause-can
join_steps::Join::next_new-at_found-requires-clause-can g t c = record {
  fixed = c.requires.can.fixed;
  op = c.requires.op;
  is = c.requires.is;
  place = (rw c.in-Some.is at c.in_ok-found.ensures.place).1;
  cursor = (_, c.grow.ensures.ran.bench, (can_then c.members.invariant.can (g.S.Sources.view c.grow.new.s) c.grow.new.growing c.grow.ensures.ran.bench c.grow.ensures.ran.asks.kept).cursor);
  row = c.requires.row;
}

pub join_steps::Join::next_new-returns-in_err-found : goal.join_steps::Join::next_new-returns-in_err-found
join_steps::Join::next_new-returns-in_err-found g t c = (let i = c.members.invariant in record { ran = ran_then g.met.S.Sources.after i.came i.goes (beside_ran c.args.self.now.left c.args.self.now.right c.args.self.now.walk.op c.args.self.now.tests.now i.can c.requires.row c.requires.op c.requires.is c.grow.ensures.ran); cause = search rules; answer = search rules })

pub join_steps::Join::next_new-returns-in-Some : goal.join_steps::Join::next_new-returns-in-Some
join_steps::Join::next_new-returns-in-Some g t c =
    let i = c.members.invariant in
    let grown = rw c.if-not-branch.false at c.in_ok-grow.ensures.answer in
    let after = c.len-place.ensures ∙ ap (λ (m : Kept (Rc Position Global)). length m.pairs) (memo_read (g.S.Sources.view c.members.s) c.members.growing (operators c.args.self.now.walk.fixed.now) i.can.bench c.args.self.now.walk.op c.requires.op c.index-memo.result.now c.index-memo.ensures) in
    let pair = IfOk-weaker c.at_found.result _ _ (λ z h. h (g.S.Sources.view c.grow.new.s) c.grow.ensures.ran.bench (can_then c.members.invariant.can (g.S.Sources.view c.grow.new.s) c.grow.new.growing c.grow.ensures.ran.bench c.grow.ensures.ran.asks.kept).cursor) c.at_found.ensures.answer in
    record {
      ran = ran_then g.met.S.Sources.after i.came i.goes (beside_ran c.args.self.now.left c.args.self.now.right c.args.self.now.walk.op c.args.self.now.tests.now i.can c.requires.row c.requires.op c.requires.is c.grow.ensures.ran);
      cause = memory_cause _ (g.S.Sources.view c.args.s.now) (g.S.Sources.view c.grow.new.s) c.at_found.result c.at_found.ensures.err;
      answer = goes_result _ i.goes (pairs_up c.args.self.now.left c.args.self.now.right c.args.self.now.tests.now) c.at_found.result (more_steps c.args.self.now.left c.args.self.now.right c.args.self.now.walk.op c.args.self.now.tests.now i.can c.requires.row c.requires.op c.requires.is c.grow.ensures.ran grown c.len-place.result after c.in-Some.found (rw c.in-Some.is at c.in_ok-found.ensures.place) c.at_found.result pair);
    }

pub join_steps::Join::next_new-members-preserved : goal.join_steps::Join::next_new-members-preserved
join_steps::Join::next_new-members-preserved g t c =
    let i = c.members.invariant in
    let grown = rw c.if-not-branch.false at c.in_ok-grow.ensures.answer in
    let can = can_then i.can (g.S.Sources.view c.grow.new.s) c.grow.new.growing c.grow.ensures.ran.bench c.grow.ensures.ran.asks.kept in
    record {
      came = g.met.S.Sources.after _ _ _ i.came c.grow.ensures.ran.came;
      goes = goes_then i.goes (more_goes c.args.self.now.left c.args.self.now.right c.args.self.now.walk.op c.args.self.now.tests.now i.can c.requires.row c.requires.op c.requires.is c.grow.ensures.ran grown c.len-place.result (c.len-place.ensures ∙ ap (λ (m : Kept (Rc Position Global)). length m.pairs) (memo_read (g.S.Sources.view c.members.s) c.members.growing (operators c.args.self.now.walk.fixed.now) i.can.bench c.args.self.now.walk.op c.requires.op c.index-memo.result.now c.index-memo.ensures)) _ c.in_default.not-Some (c.in_ok-found.ensures.next (g.S.Sources.view c.grow.new.s) c.grow.ensures.ran.bench can.cursor));
      can = can;
    }

pub join_steps::Join::next_new-members-smaller : goal.join_steps::Join::next_new-members-smaller
join_steps::Join::next_new-members-smaller g t c =
    let i = c.members.invariant in
    let grown = rw c.if-not-branch.false at c.in_ok-grow.ensures.answer in
    more_falls c.args.self.now.left c.args.self.now.right c.args.self.now.walk.op c.args.self.now.tests.now i.can c.requires.row c.requires.op c.requires.is c.grow.ensures.ran grown c.len-place.result (c.len-place.ensures ∙ ap (λ (m : Kept (Rc Position Global)). length m.pairs) (memo_read (g.S.Sources.view c.members.s) c.members.growing (operators c.args.self.now.walk.fixed.now) i.can.bench c.args.self.now.walk.op c.requires.op c.index-memo.result.now c.index-memo.ensures))

pub join_steps::Join::step-returns-in-Some : goal.join_steps::Join::step-returns-in-Some
join_steps::Join::step-returns-in-Some g t c =
    let here = in_pair c.requires.can c.args.self.now.left c.args.self.now.right c.args.self.now.tests.now c.requires.is _ _ _ _ _ c.in-Pair.is in
    placed c.args.at.now _ c.in-Pair.is (pairs_up c.args.self.now.left c.args.self.now.right c.args.self.now.tests.now) c.requires.is (record {
      ran = ran_nothing g.met.S.Sources.same c.args.self.now.walk.op _ c.args.s.now c.args.growing.now c.requires.can.bench;
      cause = memory_cause _ (g.S.Sources.view c.args.s.now) (g.S.Sources.view c.args.s.now) c.at_found.result c.at_found.ensures.err;
      answer = at_known c.requires.can c.args.self.now.left c.args.self.now.right c.args.self.now.tests.now c.requires.is _ _ _ _ _ c.in-Pair.is c.in-Some.place (rw c.in-Some.is at c.in_ok-place-in-Pair.ensures.place)
          ((rw c.in-Some.is at c.in_ok-place-in-Pair.ensures.next) (g.S.Sources.view c.args.s.now) c.requires.can.bench here.0) c.at_found.result
          (IfOk-weaker c.at_found.result _ _ (λ z h. h (g.S.Sources.view c.args.s.now) c.requires.can.bench here.0) c.at_found.ensures.answer);
    })

pub join_steps::Join::step-returns-in-None : goal.join_steps::Join::step-returns-in-None
join_steps::Join::step-returns-in-None g t c =
    let here = in_pair c.requires.can c.args.self.now.left c.args.self.now.right c.args.self.now.tests.now c.requires.is _ _ _ _ _ c.in-Pair.is in
    let goes = at_none c.requires.can c.args.self.now.left c.args.self.now.right c.args.self.now.tests.now c.requires.is _ _ _ _ _ c.in-Pair.is ((rw c.in-None.is at c.in_ok-place-in-Pair.ensures.next) (g.S.Sources.view c.args.s.now) c.requires.can.bench here.0) in
    placed c.args.at.now _ c.in-Pair.is (pairs_up c.args.self.now.left c.args.self.now.right c.args.self.now.tests.now) c.requires.is (record {
      ran = ran_then g.met.S.Sources.after (g.met.S.Sources.same c.args.s.now) goes c.next_new.ensures.ran;
      cause = c.next_new.ensures.cause;
      answer = goes_result _ goes (pairs_up c.args.self.now.left c.args.self.now.right c.args.self.now.tests.now) c.next_new.result c.next_new.ensures.answer;
    })

pub join_steps::Join::next-events-init : goal.join_steps::Join::next-events-init
join_steps::Join::next-events-init g t c = way_start g.met.S.Sources.same c.requires.can

pub join_steps::Join::next-step-requires : goal.join_steps::Join::next-step-requires
join_steps::Join::next-step-requires g t c κs within =
    let can : CanStep (g.S.Sources.view c.events.s) c.events.growing c.args.self.now.walk.fixed.now c.args.self.now.walk.op c.here.result.now = rw c.here.ensures c.events.invariant.can in
    search rules

pub join_steps::Join::next-events-preserved : goal.join_steps::Join::next-events-preserved
join_steps::Join::next-events-preserved g t c = way_on g.met.S.Sources.after c.events.invariant (rw c.here.ensures at c.step.ensures).ran c.in-On.event (rw (c.in-On.is, c.here.ensures) at c.in_ok-step.ensures.answer)

pub join_steps::Join::next-events-smaller : goal.join_steps::Join::next-events-smaller
join_steps::Join::next-events-smaller g t c = (rw (c.in-On.is, c.here.ensures) at c.in_ok-step.ensures.answer).falls

pub join_steps::Join::next-returns-in-At : goal.join_steps::Join::next-returns-in-At
join_steps::Join::next-returns-in-At g t c = record {
  ran = way_ran g.met.S.Sources.after c.events.invariant (rw c.here.ensures at c.step.ensures).ran;
  cause = tt;
  answer = rw c.in_ok-put-in-At.ensures.ok (comes_at c.events.invariant.goes.comes (rw (c.in-At.is, c.here.ensures) at c.in_ok-step.ensures.answer));
}

pub join_steps::Join::next-returns-in_err-put-in-At : goal.join_steps::Join::next-returns-in_err-put-in-At
join_steps::Join::next-returns-in_err-put-in-At g t c = record { ran = way_ran g.met.S.Sources.after c.events.invariant (rw c.here.ensures at c.step.ensures).ran; cause = for_memory _ (g.S.Sources.view c.args.s.now) (g.S.Sources.view c.step.new.s) _ _ c.from_residual-in_err-put-in-At.ensures c.in_err-put-in-At.ensures.err; answer = none_given _ _ c.from_residual-in_err-put-in-At.ensures.0 }

pub join_steps::Join::next-returns-in-Done : goal.join_steps::Join::next-returns-in-Done
join_steps::Join::next-returns-in-Done g t c = record {
  ran = way_ran g.met.S.Sources.after c.events.invariant (rw c.here.ensures at c.step.ensures).ran;
  cause = tt;
  answer = comes_none c.events.invariant.goes.comes (rw (c.in-Done.is, c.here.ensures) at c.in_ok-step.ensures.answer);
}

pub join_steps::Join::next-returns-in_err-step : goal.join_steps::Join::next-returns-in_err-step
join_steps::Join::next-returns-in_err-step g t c =
    let step = rw c.here.ensures at c.step.ensures in
    record { ran = way_ran g.met.S.Sources.after c.events.invariant step.ran; cause = handed_on _ (g.S.Sources.view c.args.s.now) (g.S.Sources.view c.step.new.s) _ _ c.from_residual.ensures (rose_before g.met.S.Sources.keeps _ _ _ _ c.events.invariant.came _ c.in_err-step.ensures.cause); answer = none_given _ _ c.from_residual.ensures.0 }

pub gather_steps::Gather::grow-returns-then-ended : goal.gather_steps::Gather::grow-returns-then-ended
gather_steps::Gather::grow-returns-then-ended g t c = record { ran = ran_nothing g.met.S.Sources.same c.args.self.now.walk.op _ c.args.s.now c.args.growing.now c.requires.bench; cause = tt; answer = none_unwalked (g.S.Sources.view c.args.s.now) c.args.growing.now c.args.self.now c.requires.is c.requires.fixed c.requires.op c.requires.bench c.index-gathered.result.now c.index-gathered.ensures (sym c.ended.ensures ∙ c.if-ended.true) }

pub gather_steps::Gather::grow-returns-in_err-last : goal.gather_steps::Gather::grow-returns-in_err-last
gather_steps::Gather::grow-returns-in_err-last g t c = record { ran = ran_nothing g.met.S.Sources.same c.args.self.now.walk.op _ c.args.s.now c.args.growing.now c.requires.bench; cause = for_memory _ (g.S.Sources.view c.args.s.now) (g.S.Sources.view c.args.s.now) _ _ c.from_residual.ensures c.in_err-last.ensures.err; answer = none_given _ _ c.from_residual.ensures.0 }

pub gather_steps::Gather::grow-advance-requires : goal.gather_steps::Gather::grow-advance-requires
gather_steps::Gather::grow-advance-requires g t c κs within =
    let can = groups_can (g.S.Sources.view c.args.s.now) c.args.growing.now c.args.self.now c.requires.is c.requires.fixed c.requires.op c.requires.bench c.in_ok-last.last.value (read_last (g.S.Sources.view c.args.s.now) c.args.growing.now c.args.self.now c.requires.is c.requires.fixed c.requires.op c.requires.bench c.index-gathered.result.now c.index-gathered.ensures c.in_ok-last.last.value c.in_ok-last.ensures.ok) in
    let small = input_less (g.S.Sources.view c.args.s.now) c.args.growing.now c.args.self.now c.requires.is c.requires.fixed c.requires.op c.requires.bench in
    search rules

pub gather_steps::Gather::grow-returns-in_err-advance : goal.gather_steps::Gather::grow-returns-in_err-advance
gather_steps::Gather::grow-returns-in_err-advance g t c =
    let last = read_last (g.S.Sources.view c.args.s.now) c.args.growing.now c.args.self.now c.requires.is c.requires.fixed c.requires.op c.requires.bench c.index-gathered.result.now c.index-gathered.ensures c.in_ok-last.last.value c.in_ok-last.ensures.ok in
    let adv = rw last at c.advance.ensures in
    record { ran = gathers_ran c.args.self.now.walk.op c.args.self.now.input c.args.self.now.keys.now c.requires.is.0 c.requires.fixed c.requires.op c.requires.is.1 adv.ran; cause = handed_on _ (g.S.Sources.view c.args.s.now) (g.S.Sources.view c.advance.new.s) _ _ c.from_residual-in_err-advance.ensures (c.in_err-advance.ensures.cause); answer = none_given _ _ c.from_residual-in_err-advance.ensures.0 }

pub gather_steps::Gather::grow-returns-in_err-key-in-Some : goal.gather_steps::Gather::grow-returns-in_err-key-in-Some
gather_steps::Gather::grow-returns-in_err-key-in-Some g t c =
    let last = read_last (g.S.Sources.view c.args.s.now) c.args.growing.now c.args.self.now c.requires.is c.requires.fixed c.requires.op c.requires.bench c.index-gathered.result.now c.index-gathered.ensures c.in_ok-last.last.value c.in_ok-last.ensures.ok in
    let adv = rw last at c.advance.ensures in
    record { ran = gathers_ran c.args.self.now.walk.op c.args.self.now.input c.args.self.now.keys.now c.requires.is.0 c.requires.fixed c.requires.op c.requires.is.1 adv.ran; cause = for_memory _ (g.S.Sources.view c.args.s.now) (g.S.Sources.view c.advance.new.s) _ _ c.from_residual-in_err-key-in-Some.ensures c.in_err-key-in-Some.ensures.err; answer = none_given _ _ c.from_residual-in_err-key-in-Some.ensures.0 }

pub gather_steps::Gather::grow-returns-in-None : goal.gather_steps::Gather::grow-returns-in-None
gather_steps::Gather::grow-returns-in-None g t c =
    let last = read_last (g.S.Sources.view c.args.s.now) c.args.growing.now c.args.self.now c.requires.is c.requires.fixed c.requires.op c.requires.bench c.index-gathered.result.now c.index-gathered.ensures c.in_ok-last.last.value c.in_ok-last.ensures.ok in
    let adv = rw last at c.advance.ensures in
    let none = rw (c.in-None.is, last) at c.in_ok-advance.ensures.answer in
    let leaves = grow_ended (g.S.Sources.view c.args.s.now) c.args.growing.now c.args.self.now c.requires.is c.requires.fixed c.requires.op c.requires.bench (world_of (g.S.Sources.view c.advance.new.s) c.advance.new.growing) adv.ran.asks adv.ran.bench c.end_groups.new.walked c.end_groups.ensures.others c.end_groups.ensures.ended none in
    record { ran = record { came = adv.ran.came; bench = leaves.0; asks = leaves.1 }; cause = tt; answer = none }

pub gather_steps::Gather::grow-key_of-requires-clause-keys : goal.gather_steps::Gather::grow-key_of-requires-clause-keys
gather_steps::Gather::grow-key_of-requires-clause-keys g t c = keys_fit (operators c.args.self.now.walk.fixed.now) c.requires.fixed.typed c.args.self.now.walk.op c.requires.op c.args.self.now.input c.args.self.now.keys.now (Some c.requires.is.0) c.requires.is.1

pub gather_steps::Gather::grow-add_member-requires-clause-count : goal.gather_steps::Gather::grow-add_member-requires-clause-count
gather_steps::Gather::grow-add_member-requires-clause-count g t c =
    let last = read_last (g.S.Sources.view c.args.s.now) c.args.growing.now c.args.self.now c.requires.is c.requires.fixed c.requires.op c.requires.bench c.index-gathered.result.now c.index-gathered.ensures c.in_ok-last.last.value c.in_ok-last.ensures.ok in
    let adv = rw last at c.advance.ensures in
    as_many (g.S.Sources.view c.args.s.now) c.args.growing.now c.args.self.now c.requires.is c.requires.fixed c.requires.op c.requires.bench (world_of (g.S.Sources.view c.advance.new.s) c.advance.new.growing) adv.ran.asks adv.ran.bench

pub gather_steps::Gather::grow-returns-in_err-add_member-in-Some : goal.gather_steps::Gather::grow-returns-in_err-add_member-in-Some
gather_steps::Gather::grow-returns-in_err-add_member-in-Some g t c =
    let last = read_last (g.S.Sources.view c.args.s.now) c.args.growing.now c.args.self.now c.requires.is c.requires.fixed c.requires.op c.requires.bench c.index-gathered.result.now c.index-gathered.ensures c.in_ok-last.last.value c.in_ok-last.ensures.ok in
    let adv = rw last at c.advance.ensures in
    let h = rw c.in-Some.is at c.in_ok-advance.ensures.answer in
    let f = rw (c.in-Some.is, last) at c.in_ok-advance.ensures.answer in
    let parts = (rw c.deref.ensures at c.in_ok-key-in-Some.ensures.parts) _ adv.ran.bench h.cursor in
    let value = (rw c.deref.ensures at c.in_ok-key-in-Some.ensures.value) _ adv.ran.bench h.cursor in
    let leaves = grow_refused (g.S.Sources.view c.args.s.now) c.args.growing.now c.args.self.now c.requires.is c.requires.fixed c.requires.op c.requires.bench (world_of (g.S.Sources.view c.advance.new.s) c.advance.new.growing) adv.ran.asks adv.ran.bench _ f c.in_ok-key-in-Some.key.items parts value c.spots_are_one.ensures c.add_member.new.seen.items c.add_member.new.walked c.add_member.ensures.grows c.add_member.ensures.others c.in_err-add_member-in-Some.ensures.err c.in_err-add_member-in-Some.ensures.kept in
    record { ran = record { came = adv.ran.came; bench = leaves.0; asks = leaves.1 }; cause = for_memory _ (g.S.Sources.view c.args.s.now) (g.S.Sources.view c.advance.new.s) _ _ c.from_residual-in_err-add_member-in-Some.ensures c.in_err-add_member-in-Some.ensures.memory; answer = none_given _ _ c.from_residual-in_err-add_member-in-Some.ensures.0 }

pub gather_steps::Gather::grow-returns : goal.gather_steps::Gather::grow-returns
gather_steps::Gather::grow-returns g t c =
    let last = read_last (g.S.Sources.view c.args.s.now) c.args.growing.now c.args.self.now c.requires.is c.requires.fixed c.requires.op c.requires.bench c.index-gathered.result.now c.index-gathered.ensures c.in_ok-last.last.value c.in_ok-last.ensures.ok in
    let adv = rw last at c.advance.ensures in
    let h = rw c.in-Some.is at c.in_ok-advance.ensures.answer in
    let f = rw (c.in-Some.is, last) at c.in_ok-advance.ensures.answer in
    let parts = (rw c.deref.ensures at c.in_ok-key-in-Some.ensures.parts) _ adv.ran.bench h.cursor in
    let value = (rw c.deref.ensures at c.in_ok-key-in-Some.ensures.value) _ adv.ran.bench h.cursor in
    let more = grow_more (g.S.Sources.view c.args.s.now) c.args.growing.now c.args.self.now c.requires.is c.requires.fixed c.requires.op c.requires.bench (world_of (g.S.Sources.view c.advance.new.s) c.advance.new.growing) adv.ran.asks adv.ran.bench _ f c.in_ok-key-in-Some.key.items parts value c.spots_are_one.ensures c.add_member.new.seen.items c.add_member.new.walked c.add_member.ensures.grows c.add_member.ensures.others c.in_ok-add_member-in-Some.ensures.ok c.index-gathered.result.now c.index-gathered.ensures (sym c.ended.ensures ∙ c.if-ended.false) in
    record { ran = record { came = adv.ran.came; bench = more.0.0; asks = more.0.1 }; cause = tt; answer = more.1 }

pub gather_steps::Gather::next-bindings-init : goal.gather_steps::Gather::next-bindings-init
gather_steps::Gather::next-bindings-init g t c = record {
  came = g.met.S.Sources.same c.args.s.now;
  bench = c.requires.can.bench;
  comes = step_begins c.args.self.now c.args.at.now c.requires.can c.requires.is;
}

pub gather_steps::Gather::next-returns-in_err-group : goal.gather_steps::Gather::next-returns-in_err-group
gather_steps::Gather::next-returns-in_err-group g t c =
    let i = c.bindings.invariant in
    led c.args.at.now (group_shape c.args.self.now i.comes.0) i.comes.0.1 (record { ran = record { came = i.came; bench = i.bench; asks = i.comes.1.asks }; cause = for_memory _ (g.S.Sources.view c.args.s.now) (g.S.Sources.view c.bindings.s) _ _ c.from_residual.ensures c.in_err-group.ensures.err; answer = none_given _ _ c.from_residual.ensures.0 })

pub gather_steps::Gather::next-returns-in-Some : goal.gather_steps::Gather::next-returns-in-Some
gather_steps::Gather::next-returns-in-Some g t c =
    let i = c.bindings.invariant in
    let next = rw (c.in-Some.is, c.seen_up_to-count.ensures) at c.in_ok-group.ensures.group in
    led c.args.at.now (group_shape c.args.self.now i.comes.0) i.comes.0.1 (record { ran = record { came = i.came; bench = i.bench; asks = i.comes.1.asks }; cause = tt; answer = step_found c.args.self.now c.args.at.now c.requires.can (world_of (g.S.Sources.view c.bindings.s) c.bindings.growing) i.bench i.comes c.in-Some.group next })

pub gather_steps::Gather::next-returns-in_err-grow-in-None : goal.gather_steps::Gather::next-returns-in_err-grow-in-None
gather_steps::Gather::next-returns-in_err-grow-in-None g t c =
    let i = c.bindings.invariant in
    let none = rw (c.in-None.is, c.seen_up_to-count.ensures) at c.in_ok-group.ensures.group in
    led c.args.at.now (group_shape c.args.self.now i.comes.0) i.comes.0.1 (record { ran = record { came = g.met.S.Sources.after _ _ _ i.came c.grow.ensures.ran.came; bench = c.grow.ensures.ran.bench; asks = step_asks c.args.self.now c.args.at.now c.requires.can (world_of (g.S.Sources.view c.bindings.s) c.bindings.growing) i.bench i.comes none (world_of (g.S.Sources.view c.grow.new.s) c.grow.new.growing) c.grow.ensures.ran.asks }; cause = handed_on _ (g.S.Sources.view c.args.s.now) (g.S.Sources.view c.grow.new.s) _ _ c.from_residual-in_err-grow-in-None.ensures (rose_before g.met.S.Sources.keeps _ _ _ _ i.came _ c.in_err-grow-in-None.ensures.cause); answer = none_given _ _ c.from_residual-in_err-grow-in-None.ensures.0 })

pub gather_steps::Gather::next-returns-then-not-branch : goal.gather_steps::Gather::next-returns-then-not-branch
gather_steps::Gather::next-returns-then-not-branch g t c =
    let i = c.bindings.invariant in
    let none = rw (c.in-None.is, c.seen_up_to-count.ensures) at c.in_ok-group.ensures.group in
    let over = rw c.if-not-branch.true at c.in_ok-grow-in-None.ensures.answer in
    led c.args.at.now (group_shape c.args.self.now i.comes.0) i.comes.0.1 (record { ran = record { came = g.met.S.Sources.after _ _ _ i.came c.grow.ensures.ran.came; bench = c.grow.ensures.ran.bench; asks = step_asks c.args.self.now c.args.at.now c.requires.can (world_of (g.S.Sources.view c.bindings.s) c.bindings.growing) i.bench i.comes none (world_of (g.S.Sources.view c.grow.new.s) c.grow.new.growing) c.grow.ensures.ran.asks }; cause = tt; answer = step_none c.args.self.now c.args.at.now c.requires.can (world_of (g.S.Sources.view c.bindings.s) c.bindings.growing) i.bench i.comes none (world_of (g.S.Sources.view c.grow.new.s) c.grow.new.growing) c.grow.ensures.ran.asks over })

pub gather_steps::Gather::next-bindings-preserved : goal.gather_steps::Gather::next-bindings-preserved
gather_steps::Gather::next-bindings-preserved g t c =
    let i = c.bindings.invariant in
    let none = rw (c.in-None.is, c.seen_up_to-count.ensures) at c.in_ok-group.ensures.group in
    let further = rw c.if-not-branch.false at c.in_ok-grow-in-None.ensures.answer in
    record {
      came = g.met.S.Sources.after _ _ _ i.came c.grow.ensures.ran.came;
      bench = c.grow.ensures.ran.bench;
      comes = step_goes_on c.args.self.now c.args.at.now c.requires.can (world_of (g.S.Sources.view c.bindings.s) c.bindings.growing) i.bench i.comes none (world_of (g.S.Sources.view c.grow.new.s) c.grow.new.growing) c.grow.ensures.ran.asks c.grow.ensures.ran.bench further c.spots_are_one.ensures;
    }

pub gather_steps::Gather::next-bindings-smaller : goal.gather_steps::Gather::next-bindings-smaller
gather_steps::Gather::next-bindings-smaller g t c =
    let further = rw c.if-not-branch.false at c.in_ok-grow-in-None.ensures.answer in
    further_falls (world_of (g.S.Sources.view c.bindings.s) c.bindings.growing) (world_of (g.S.Sources.view c.grow.new.s) c.grow.new.growing) (operators c.args.self.now.walk.fixed.now) c.args.self.now.walk.op c.args.self.now.input c.args.self.now.keys.now further
