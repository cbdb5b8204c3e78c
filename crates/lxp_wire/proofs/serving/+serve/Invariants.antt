use Rattle.std.proofs.Common.{◌≡◌, ◌+◌, ◌*◌, ◌++◌, drop}
use Rattle.lxp_core.specs.Open.{nil}
use Rattle.lxp_core.specs.Plain.{plain, put}
use Rattle.wire_text.specs.Wired.{with_weights}
use Rattle.wire_text.specs.Bytes.{trees_bytes, list_bytes, AreTrees}
use Rattle.lxp_wire.proofs.Served.{size_in}
use Rattle.lxp_wire.proofs.serving.+serve.Given as goal

abbrev pub decreases-push_open : goal.decreases-push_open
decreases-push_open g l = 2 * size_in (put l.tree.now nil)

abbrev pub decreases-push_open_list : goal.decreases-push_open_list
decreases-push_open_list g l = 2 * size_in (plain l.trees.now) + 1

abbrev pub invariant-push_open_list-loop-tree : goal.invariant-push_open_list-loop-tree
invariant-push_open_list-loop-tree g l = record {
  bytes : l.out.items ++ trees_bytes (with_weights ((g.S.Sources.view l.sources).weight l.s) (plain (drop l.tree-index l.trees)))
      ≡ l.fn.out.items ++ list_bytes (with_weights ((g.S.Sources.view l.sources).weight l.s) (plain l.trees));
  trees : AreTrees (with_weights ((g.S.Sources.view l.sources).weight l.s) (plain (drop l.tree-index l.trees))) → AreTrees (with_weights ((g.S.Sources.view l.sources).weight l.s) (plain l.trees));
}
