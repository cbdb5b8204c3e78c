use Rattle.std.proofs.Common.{◌≡◌, IsTrue, drop}
use Rattle.std.specs.List.{fold}
use Rattle.std.specs.Hash.FoldHasher as folding
use Rattle.lxp_core.specs.View.{View}
use Rattle.lazy_binding.specs.Bench.{IsBench}
use Rattle.lazy_binding.specs.World.{is_told}
use Rattle.lazy_binding.specs.Cursors.{IsOf}
use Rattle.lazy_binding.specs.Members.{links_fed}
use Rattle.lazy_binding.specs.Parts.{operators, world_of}
use Rattle.lazy_binding.proofs.parts.Walk.together.Given as goal

abbrev pub invariant-loop-link : goal.invariant-loop-link
invariant-loop-link l = (view : View) → IsBench (world_of view l.growing) (operators l.self.fixed.now) → IsOf (world_of view l.growing) (operators l.self.fixed.now) l.self.op l.at
    → IsTrue (is_told (world_of view l.growing) (operators l.self.fixed.now))
    → fold folding.write l.state (links_fed (world_of view l.growing) (operators l.self.fixed.now) l.self.op l.side (drop l.link-index l.links) l.at)
    ≡ fold folding.write folding.initial (links_fed (world_of view l.growing) (operators l.self.fixed.now) l.self.op l.side l.fn.links l.at)
