use Rattle.std.proofs.Common.{◌≡◌, ◌++◌, IsTrue, drop, map}
use Rattle.std.specs.List.{AllByRecursion}
use Rattle.plan_core.specs.TolledRows.{key_values}
use Rattle.lxp_core.specs.View.{View}
use Rattle.lazy_binding.specs.Bench.{IsBench}
use Rattle.lazy_binding.specs.World.{is_told, docs_of, part_value, IsPart}
use Rattle.lazy_binding.specs.Cursors.{binding, IsOf}
use Rattle.lazy_binding.specs.Parts.{operators, world_of}
use Rattle.lazy_binding.proofs.parts.Walk.key_of.Given as goal

abbrev pub invariant-loop-key : goal.invariant-loop-key
invariant-loop-key l = ((view : View) → IsBench (world_of view l.growing) (operators l.self.fixed.now) → IsOf (world_of view l.growing) (operators l.self.fixed.now) l.self.op l.at
    → AllByRecursion (IsPart (world_of view l.growing)) l.parts.items)
    × ((view : View) → IsBench (world_of view l.growing) (operators l.self.fixed.now) → IsOf (world_of view l.growing) (operators l.self.fixed.now) l.self.op l.at
    → IsTrue (is_told (world_of view l.growing) (operators l.self.fixed.now))
    → map (part_value (world_of view l.growing)) l.parts.items
    ++ key_values (docs_of (world_of view l.growing)) (drop l.key-index l.keys) (binding (world_of view l.growing) (operators l.self.fixed.now) l.self.op l.at)
    ≡ key_values (docs_of (world_of view l.growing)) l.fn.keys (binding (world_of view l.growing) (operators l.self.fixed.now) l.self.op l.at))
