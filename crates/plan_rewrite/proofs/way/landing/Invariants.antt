use Rattle.std.proofs.Common.{◌≡◌, map, ◌+◌, ◌≤◌}
use Rattle.mix_tree.specs.declared.comparing.Test.{Test}
use Rattle.plan_core.specs.PlanMade.{op_of}
use Rattle.plan_rewrite.specs.Edits.{landing}
use Rattle.plan_make.specs.Trees.{Tree, under, numbered}
use Rattle.plan_rewrite.specs.Walk.{AreCovered}
use Rattle.plan_rewrite.proofs.Walking.{StandsAt}
use Rattle.plan_rewrite.proofs.way.landing.Given as goal

abbrev pub invariant-loop : goal.invariant-loop
invariant-loop l =
    (t : Test) (x : Tree) → AreCovered t (map op_of l.fn.ops) l.fn.c → map op_of l.fn.ops ≡ numbered 0 x → l.fn.last ≡ under x →
    StandsAt t (map op_of l.fn.ops) (landing t x) l.at × (l.at + l.counter ≤ under x)
