use Rattle.std.proofs.Common.{◌≡◌, ◌≤◌, ◌+◌, ◌∷◌, ◌++◌, List, [], Some, length, length-append, refl, ap, arith, subst, sym, ◌∙◌}
use Rattle.std.specs.List.{AllByRecursion}
use Rattle.mix_tree.specs.Forest.{alone, first_tree, forest_of, LabelledTree}
use Rattle.mix_tree.specs.Weight.{nodes_of, tree_nodes}
use Rattle.lxp_memory.specs.Nodes.{AreWithin, trees_before}
use Rattle.lxp_memory.specs.Small.{IsSmallBelow}
use Rattle.lxp_memory.proofs.MetTrees.{all_bounded, begun, each_placed, lighter_below, small_below, small_root}
use Rattle.lxp_memory.proofs.NodeLaws.{fewer-placed, first_tree-placed, within-placed, IsAllPlaced, all_placed}
use Rattle.lxp_memory.proofs.document.placed.Goals as goal

pub loop-tree-smaller : goal.loop-tree-smaller
loop-tree-smaller c =
    let popped : c.loop-tree.queue.items ≡ c.in-Some.tree ∷ c.pop_front.new.self.items = c.in-Some.ensures.items in
    omega (arith, fewer-placed _ _ _ _ _ c.in_ok-place.ensures, ap (λ q. nodes_of (forest_of q)) popped)

pub loop-tree-preserved : goal.loop-tree-preserved
loop-tree-preserved c =
    let popped : c.loop-tree.queue.items ≡ c.in-Some.tree ∷ c.pop_front.new.self.items = c.in-Some.ensures.items in
    let within = subst (λ q. AreWithin c.loop-tree.nodes.items (length q)) popped c.loop-tree.invariant.within in
    let ns = c.loop-tree.nodes.items in
    let most = nodes_of (alone c.args.root) + 1 in
    let placed = c.in_ok-place.ensures in
    record {
      first =
          first_tree-placed _ _ _ _ _ placed within
          ∙ ap (λ q. first_tree (forest_of (trees_before ns q))) (sym popped)
          ∙ c.loop-tree.invariant.first;
      within = within-placed _ _ _ _ _ placed within;
      left = omega (arith, fewer-placed _ _ _ _ _ placed, ap (λ q. nodes_of (forest_of q)) popped, c.loop-tree.invariant.left, ap length placed.nodes_are, length-append ns (placed.node ∷ []));
      bound =
          each_placed (λ t. tree_nodes t ≤ most) (lighter_below most) _ _ _ _ _ placed within
          (subst (λ q. AllByRecursion (λ (t : LabelledTree). tree_nodes t ≤ most) (trees_before ns q)) popped c.loop-tree.invariant.bound);
      small = λ fits.
          each_placed IsSmallBelow small_below _ _ _ _ _ placed within
          (subst (λ q. AllByRecursion IsSmallBelow (trees_before ns q)) popped (c.loop-tree.invariant.small fits));
    }

pub loop-tree-init : goal.loop-tree-init
loop-tree-init c =
    let root = c.args.root in
    let ns = c.new-nodes.result.items in
    let queue = c.push_back.new.self.items in
    let top : LabelledTree = record { label = []; kids = alone root } in
    let most = nodes_of (alone root) + 1 in
    let empty = c.new-nodes.ensures.items in
    let one : queue ≡ top ∷ [] =
    c.in_ok-push_back.ensures.items
    ∙ ap (λ (q : List LabelledTree). q ++ c.in_ok-above.field-0 ∷ []) c.new-queue.ensures.items
    ∙ ap (λ (t : LabelledTree). t ∷ []) c.in_ok-above.ensures in
    record {
      first = begun (λ ms q. first_tree (forest_of (trees_before ms q)) ≡ Some top) ns queue top empty one refl;
      within = begun (λ ms q. AreWithin ms (length q)) ns queue top empty one (λ i h. absurd (omega arith));
      left = begun (λ ms q. length ms + nodes_of (forest_of q) ≡ most) ns queue top empty one (omega arith);
      bound = begun (λ ms q. AllByRecursion (λ (t : LabelledTree). tree_nodes t ≤ most) (trees_before ms q)) ns queue top empty one (omega arith, tt);
      small = λ fits. begun (λ ms q. AllByRecursion IsSmallBelow (trees_before ms q)) ns queue top empty one (small_root root fits, tt);
    }

pub returns-clause-rooted : goal.returns-clause-rooted
returns-clause-rooted c =
    let loop = c.loop-tree in
    let ended = c.in_default.ensures.items ∙ c.in_default.ensures.rest in
    (subst (λ ns. IsAllPlaced ns c.args.root) (sym c.shrink_to_fit.ensures.items) (all_placed loop.nodes.items loop.queue.items c.args.root ended loop.invariant.first loop.invariant.within)).rooted

pub returns-clause-document : goal.returns-clause-document
returns-clause-document c =
    let loop = c.loop-tree in
    let ended = c.in_default.ensures.items ∙ c.in_default.ensures.rest in
    (subst (λ ns. IsAllPlaced ns c.args.root) (sym c.shrink_to_fit.ensures.items) (all_placed loop.nodes.items loop.queue.items c.args.root ended loop.invariant.first loop.invariant.within)).document

pub returns-clause-bound : goal.returns-clause-bound
returns-clause-bound c =
    let loop = c.loop-tree in
    let ended = c.in_default.ensures.items ∙ c.in_default.ensures.rest in
    subst (λ ns. AllByRecursion (λ (t : LabelledTree). tree_nodes t ≤ length ns) (trees_before ns [])) (sym c.shrink_to_fit.ensures.items)
    (all_bounded loop.nodes.items loop.queue.items (nodes_of (alone c.args.root) + 1) ended loop.invariant.left loop.invariant.bound)
