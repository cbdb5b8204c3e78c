use Rattle.std.proofs.Common.{◌≡◌, ◌+◌, ◌-◌, ◌*◌, length}
use Rattle.lazy_binding.specs.Reading.{count_of}
use Rattle.lazy_binding.specs.Bench.{IsBench}
use Rattle.lazy_steps.proofs.GroupCalls.{StepCame}
use Rattle.lazy_binding.specs.Cursors.{number, size}
use Rattle.lazy_binding.specs.Parts.{operators, world_of}
use Rattle.lazy_binding.specs.World.{memo_at, gathered_at}
use Rattle.lazy_steps.specs.Beside.{beside_events, beside_number, last_at}
use Rattle.lazy_steps.specs.Steps.{at_of, CanStep}
use Rattle.lazy_steps.proofs.Goes.{Goes}
use Rattle.lazy_steps.proofs.Ways.{Way, WayOver}
use Rattle.lazy_steps.proofs.OrderSteps.{Gathered}
use Rattle.lazy_steps.proofs.ScanWalks.{ScanCame}
use Rattle.lazy_steps.proofs.+walk.Given as goal

abbrev pub decreases-steps::advance : goal.decreases-steps::advance
decreases-steps::advance g l = 8 * l.walk.op + 6

abbrev pub decreases-steps::advance_below : goal.decreases-steps::advance_below
decreases-steps::advance_below g l = 8 * l.walk.op + 5

abbrev pub decreases-join_steps::Join::step : goal.decreases-join_steps::Join::step
decreases-join_steps::Join::step g l = 8 * l.self.now.walk.op + 1

abbrev pub decreases-join_steps::Join::next_new : goal.decreases-join_steps::Join::next_new
decreases-join_steps::Join::next_new g l = 8 * l.self.now.walk.op

-- the members so far were passed: what is still ahead, and what it has cost
abbrev pub invariant-join_steps::Join::next_new-members : goal.invariant-join_steps::Join::next_new-members
invariant-join_steps::Join::next_new-members g l = record {
  came : g.S.Sources.came_from l.initial.s l.s;
  goes : Goes (world_of (g.S.Sources.view l.initial.s) l.initial.growing) (world_of (g.S.Sources.view l.s) l.growing) (operators l.self.walk.fixed.now) l.self.walk.op
      (beside_events (world_of (g.S.Sources.view l.initial.s) l.initial.growing) (operators l.self.walk.fixed.now) l.self.left l.self.right l.self.tests.now l.l.value (last_at (world_of (g.S.Sources.view l.initial.s) l.initial.growing) l.self.walk.op))
      (beside_events (world_of (g.S.Sources.view l.s) l.growing) (operators l.self.walk.fixed.now) l.self.left l.self.right l.self.tests.now l.l.value (last_at (world_of (g.S.Sources.view l.s) l.growing) l.self.walk.op))
      (beside_number (world_of (g.S.Sources.view l.initial.s) l.initial.growing) (operators l.self.walk.fixed.now) l.self.left l.self.right l.l.value (length (memo_at (world_of (g.S.Sources.view l.initial.s) l.initial.growing) l.self.walk.op).pairs))
      (beside_number (world_of (g.S.Sources.view l.s) l.growing) (operators l.self.walk.fixed.now) l.self.left l.self.right l.l.value (length (memo_at (world_of (g.S.Sources.view l.s) l.growing) l.self.walk.op).pairs));
  can : CanStep (g.S.Sources.view l.s) l.growing l.self.walk.fixed.now l.self.left l.l.value;
}

-- how many more members may come, as a number that falls
abbrev pub decreases-join_steps::Join::next_new-members : goal.decreases-join_steps::Join::next_new-members
decreases-join_steps::Join::next_new-members g l =
    size (world_of (g.S.Sources.view l.s) l.growing) (operators l.self.walk.fixed.now) l.self.right - length (memo_at (world_of (g.S.Sources.view l.s) l.growing) l.self.walk.op).pairs

abbrev pub decreases-join_steps::Join::grow : goal.decreases-join_steps::Join::grow
decreases-join_steps::Join::grow g l = 8 * l.self.now.right + 7

abbrev pub decreases-join_steps::Join::next_left : goal.decreases-join_steps::Join::next_left
decreases-join_steps::Join::next_left g l = 8 * l.self.now.left + 7

abbrev pub decreases-path_scan::PathScan::next : goal.decreases-path_scan::PathScan::next
decreases-path_scan::PathScan::next g l = 8 * l.self.now.walk.op

abbrev pub decreases-path_scan::PathScan::next_start : goal.decreases-path_scan::PathScan::next_start
decreases-path_scan::PathScan::next_start g l = 8 * l.self.now.input + 7

-- the visits so far had no match: what is still ahead, and what it has cost
abbrev pub invariant-path_scan::PathScan::next_start-starts : goal.invariant-path_scan::PathScan::next_start-starts
invariant-path_scan::PathScan::next_start-starts g l = ScanCame g.S.Sources.view g.S.Sources.came_from l.self l.below.value l.initial.s l.initial.growing l.s l.growing l.at.value

abbrev pub decreases-path_scan::PathScan::next_start-starts : goal.decreases-path_scan::PathScan::next_start-starts
decreases-path_scan::PathScan::next_start-starts g l = number (world_of (g.S.Sources.view l.s) l.growing) (operators l.self.walk.fixed.now) l.self.input l.at.value

abbrev pub decreases-pass_steps::Filter::next : goal.decreases-pass_steps::Filter::next
decreases-pass_steps::Filter::next g l = 8 * l.self.now.walk.op + 3

-- the bindings of the input so far failed
abbrev pub invariant-pass_steps::Filter::next-bindings : goal.invariant-pass_steps::Filter::next-bindings
invariant-pass_steps::Filter::next-bindings g l = WayOver g.S.Sources.view g.S.Sources.came_from l.self.walk.fixed.now l.self.walk.op l.fn.at l.initial.s l.initial.growing l.s l.growing l.before.value

abbrev pub decreases-pass_steps::Filter::next-bindings : goal.decreases-pass_steps::Filter::next-bindings
decreases-pass_steps::Filter::next-bindings g l = number (world_of (g.S.Sources.view l.s) l.growing) (operators l.self.walk.fixed.now) l.self.input l.before.value

abbrev pub decreases-pass_steps::Distinct::next : goal.decreases-pass_steps::Distinct::next
decreases-pass_steps::Distinct::next g l = 8 * l.self.now.walk.op + 3

-- the keys of the bindings of the input so far were seen
abbrev pub invariant-pass_steps::Distinct::next-bindings : goal.invariant-pass_steps::Distinct::next-bindings
invariant-pass_steps::Distinct::next-bindings g l =
    (z : WayOver g.S.Sources.view g.S.Sources.came_from l.self.walk.fixed.now l.self.walk.op l.fn.at l.initial.s l.initial.growing l.s l.growing l.before.value) × (count_of z.at ≡ l.count)

abbrev pub decreases-pass_steps::Distinct::next-bindings : goal.decreases-pass_steps::Distinct::next-bindings
decreases-pass_steps::Distinct::next-bindings g l = number (world_of (g.S.Sources.view l.s) l.growing) (operators l.self.walk.fixed.now) l.self.input l.before.value

abbrev pub decreases-join_steps::Join::next : goal.decreases-join_steps::Join::next
decreases-join_steps::Join::next g l = 8 * l.self.now.walk.op + 3

-- the pairs so far failed
abbrev pub invariant-join_steps::Join::next-events : goal.invariant-join_steps::Join::next-events
invariant-join_steps::Join::next-events g l = Way g.S.Sources.view g.S.Sources.came_from l.self.walk.fixed.now l.self.walk.op l.fn.at l.initial.s l.initial.growing l.s l.growing (at_of l.later l.fn.at)

abbrev pub decreases-join_steps::Join::next-events : goal.decreases-join_steps::Join::next-events
decreases-join_steps::Join::next-events g l = number (world_of (g.S.Sources.view l.s) l.growing) (operators l.self.walk.fixed.now) l.self.walk.op (at_of l.later l.fn.at)

abbrev pub decreases-sort_steps::Sort::next : goal.decreases-sort_steps::Sort::next
decreases-sort_steps::Sort::next g l = 8 * l.self.now.walk.op + 1

abbrev pub decreases-sort_steps::Sort::first : goal.decreases-sort_steps::Sort::first
decreases-sort_steps::Sort::first g l = 8 * l.self.now.walk.op

abbrev pub decreases-sort_steps::labelled : goal.decreases-sort_steps::labelled
decreases-sort_steps::labelled g l = 8 * l.walk.op + 7

-- the bindings so far, and what they have cost
abbrev pub invariant-sort_steps::labelled-events : goal.invariant-sort_steps::labelled-events
invariant-sort_steps::labelled-events g l = record {
  came : g.S.Sources.came_from l.initial.s l.s;
  gathered : Gathered (world_of (g.S.Sources.view l.initial.s) l.initial.growing) (world_of (g.S.Sources.view l.s) l.growing) (operators l.walk.fixed.now) l.walk.op l.v l.rows.items l.at.value;
  can : CanStep (g.S.Sources.view l.s) l.growing l.walk.fixed.now l.walk.op l.at.value;
}

abbrev pub decreases-sort_steps::labelled-events : goal.decreases-sort_steps::labelled-events
decreases-sort_steps::labelled-events g l = number (world_of (g.S.Sources.view l.s) l.growing) (operators l.walk.fixed.now) l.walk.op l.at.value

abbrev pub decreases-gather_steps::Gather::next : goal.decreases-gather_steps::Gather::next
decreases-gather_steps::Gather::next g l = 8 * l.self.now.walk.op + 1

abbrev pub decreases-gather_steps::Gather::grow : goal.decreases-gather_steps::Gather::grow
decreases-gather_steps::Gather::grow g l = 8 * l.self.now.input + 7

-- how far the walk has come
abbrev pub invariant-gather_steps::Gather::next-bindings : goal.invariant-gather_steps::Gather::next-bindings
invariant-gather_steps::Gather::next-bindings g l = record {
  came : g.S.Sources.came_from l.initial.s l.s;
  bench : IsBench (world_of (g.S.Sources.view l.s) l.growing) (operators l.self.walk.fixed.now);
  comes : StepCame l.self (world_of (g.S.Sources.view l.initial.s) l.initial.growing) (world_of (g.S.Sources.view l.s) l.growing) l.fn.at;
}

abbrev pub decreases-gather_steps::Gather::next-bindings : goal.decreases-gather_steps::Gather::next-bindings
decreases-gather_steps::Gather::next-bindings g l =
    number (world_of (g.S.Sources.view l.s) l.growing) (operators l.self.walk.fixed.now) l.self.input (gathered_at (world_of (g.S.Sources.view l.s) l.growing) l.self.walk.op).last
