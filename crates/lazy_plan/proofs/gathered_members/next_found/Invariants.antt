use Rattle.lazy_binding.specs.Bench.{IsBench}
use Rattle.lazy_binding.specs.Cursors.{number}
use Rattle.lazy_binding.specs.Parts.{operators, world_of}
use Rattle.lazy_binding.specs.World.{gathered_at}
use Rattle.lazy_plan.proofs.GatheredMembers.{ComesAfter}
use Rattle.lazy_plan.proofs.gathered_members.next_found.Given as goal

abbrev pub invariant-members : goal.invariant-members
invariant-members g l = record {
  came : g.S.Sources.came_from l.fn.s l.s;
  bench : IsBench (world_of (g.S.Sources.view l.s) l.growing) (operators l.gathers.walk.fixed.now);
  comes : ComesAfter (operators l.gathers.walk.fixed.now) l.gathers.walk.op l.gathers.input l.gathers.keys.now l.group.number l.group.place l.group.first.now l.group.at.now
      (world_of (g.S.Sources.view l.fn.s) l.fn.growing) (world_of (g.S.Sources.view l.s) l.growing);
}

abbrev pub decreases-members : goal.decreases-members
decreases-members g l =
    number (world_of (g.S.Sources.view l.s) l.growing) (operators l.gathers.walk.fixed.now) l.gathers.input (gathered_at (world_of (g.S.Sources.view l.s) l.growing) l.gathers.walk.op).last
