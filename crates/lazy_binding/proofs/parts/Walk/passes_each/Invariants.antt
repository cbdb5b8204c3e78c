use Rattle.std.proofs.Common.{◌≡◌, IsTrue, drop}
use Rattle.plan_core.specs.Events.{passes_all}
use Rattle.lxp_core.specs.View.{View}
use Rattle.lazy_binding.specs.Bench.{IsBench}
use Rattle.lazy_binding.specs.World.{is_told, docs_of}
use Rattle.lazy_binding.specs.Cursors.{binding, IsOf}
use Rattle.lazy_binding.specs.Parts.{operators, world_of}
use Rattle.lazy_binding.proofs.parts.Walk.passes_each.Given as goal

abbrev pub invariant-loop-test : goal.invariant-loop-test
invariant-loop-test l = (view : View) → IsBench (world_of view l.growing) (operators l.self.fixed.now) → IsOf (world_of view l.growing) (operators l.self.fixed.now) l.self.op l.at
    → IsTrue (is_told (world_of view l.growing) (operators l.self.fixed.now))
    → passes_all (docs_of (world_of view l.growing)) (drop l.test-index l.tests) (binding (world_of view l.growing) (operators l.self.fixed.now) l.self.op l.at)
    ≡ passes_all (docs_of (world_of view l.growing)) l.fn.tests (binding (world_of view l.growing) (operators l.self.fixed.now) l.self.op l.at)
