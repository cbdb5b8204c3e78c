-- How many nodes the trees of a document have together.
use Rattle.std.proofs.Common.{◌≡◌, ◌∙◌, ℕ, suc, ◌+◌, ◌-◌, ◌*◌, ◌<◌, ◌≤◌, ◌^◌, List, [], ◌∷◌, length, get_or, take, drop, slice_index, ap, sym, arith}
use Rattle.std.specs.List.{AllByRecursion}
use Rattle.std.proofs.lemmas.List.{take-append-drop, drop-drop, drop_all, get_or_read}
use Rattle.std.proofs.lemmas.Nat.{mul-lt}
use Rattle.mix_tree.specs.Forest.{LabelledTree, forest_of}
use Rattle.mix_tree.specs.Weight.{nodes_of, tree_nodes}
use Rattle.lxp_core.proofs.Opens.{forest_of-append, nodes_of-followed}
use Rattle.lxp_memory.specs.declared.document.DocNode.{DocNode}
use Rattle.lxp_memory.specs.Nodes.{trees_before, first_of, count_of, run, AreWithin}
use Rattle.lxp_memory.specs.Sums.{AreSums, total_from}
use Rattle.lxp_memory.proofs.NodeLaws.{IsNodeAt, length-trees_before, run-suc}

-- the nodes of trees from a place on are those of the first so many trees there, and those of the trees after them
pub total_add : (ns : List DocNode) (i m : ℕ) → total_from ns i ≡ nodes_of (run ns i m) + total_from ns (i + m)
total_add ns i m =
    let trees = trees_before ns [] in
    ap (λ (ts : List LabelledTree). nodes_of (forest_of ts)) (sym (take-append-drop m (drop i trees)))
    ∙ ap nodes_of (forest_of-append (take m (drop i trees)) (drop m (drop i trees)))
    ∙ nodes_of-followed (run ns i m) (forest_of (drop m (drop i trees)))
    ∙ ap (λ (ts : List LabelledTree). nodes_of (run ns i m) + nodes_of (forest_of ts)) (drop-drop m i trees)

-- the nodes of the trees from a node on are that node, those below it, and those of the trees after it
pub total_suc : (ns : List DocNode) (i : ℕ) → i < length ns → total_from ns i ≡ 1 + nodes_of (run ns (first_of ns i) (count_of ns i)) + total_from ns (i + 1)
total_suc ns i h = omega (arith, total_add ns i 1, ap nodes_of (run-suc ns i 0 h))

-- after the last node there are no trees
pub total_end : (ns : List DocNode) → total_from ns (length ns) ≡ 0
total_end ns = ap (λ (ts : List LabelledTree). nodes_of (forest_of ts)) (drop_all (length ns) (trees_before ns []) (omega (arith, length-trees_before ns [])))

-- a number taken once more than n times is the number, and n times the number
one_more : (n w : ℕ) → suc n * w ≡ w + n * w
one_more n w = grind arith

-- trees of at most so many nodes have at most so many times that number
total_most : (most : ℕ) (ts : List LabelledTree) → AllByRecursion (λ t. tree_nodes t ≤ most) ts → nodes_of (forest_of ts) ≤ length ts * most
total_most most [] h = omega arith
total_most most (t ∷ ts) h = omega (arith, one_more (length ts) most, h.0, total_most most ts h.1)

-- where no tree has more nodes than there are, and these are fewer than 2^64, all trees have fewer than 2^128 together
pub total_bound : (ns : List DocNode) → length ns < 2 ^ 64 → AllByRecursion (λ t. tree_nodes t ≤ length ns) (trees_before ns []) → total_from ns 0 < 2 ^ 128
total_bound ns few each =
    let all = total_most (length ns) (trees_before ns []) each in
    let trees = length-trees_before ns [] in
    let count : length (trees_before ns []) ≡ length ns = omega (arith, trees) in
    let same : length (trees_before ns []) * length ns ≡ length ns * length ns = ap (λ n. n * length ns) count in
    omega (arith, all, same, mul-lt (length ns) (length ns) (2 ^ 64) (2 ^ 64) few few)

-- the trees from a node on have no more nodes than all together
total_within : (ns : List DocNode) (i : ℕ) → total_from ns i ≤ total_from ns 0
total_within ns i = let e : 0 + i ≡ i = omega arith in omega (arith, total_add ns 0 i, ap (total_from ns) e)

-- where sums are right for all nodes after one, so is what is computed for that one from its first child and how many there are
pub record IsStep (ns : List DocNode) (sums : List ℕ) (i first count : ℕ) : Type 0 where
  pub end : first + count ≤ length ns
  pub less : slice_index sums (first + count) ≤ slice_index sums first
  pub whole : slice_index sums (i + 1) + 1 + (slice_index sums first - slice_index sums (first + count)) ≡ total_from ns i
  pub bound : total_from ns i ≤ total_from ns 0

-- sums that are right for all nodes after one lead to the one's
pub total_step : (ns : List DocNode) (sums : List ℕ) (i : ℕ) (n : DocNode) → i < length ns → AreWithin ns 0
    → ((k : ℕ) → i < k → k ≤ length ns → slice_index sums k ≡ total_from ns k) → IsNodeAt ns i n → IsStep ns sums i (i + 1 + n.ahead) n.count
total_step ns sums i n here within after read =
    let first = i + 1 + n.ahead in
    let last : first + n.count ≤ length ns = omega (arith, within i here, read.first, read.count) in
    let from = after first (omega arith) (omega arith) in
    let to = after (first + n.count) (omega arith) last in
    let next = after (i + 1) (omega arith) (omega arith) in
    let below : nodes_of (run ns (first_of ns i) (count_of ns i)) ≡ nodes_of (run ns first n.count) = ap (λ k. nodes_of (run ns k (count_of ns i))) read.first ∙ ap (λ k. nodes_of (run ns first k)) read.count in
    let split = total_add ns first n.count in
    record {
      end = last;
      less = omega (arith, from, to, split);
      whole = omega (arith, from, to, next, split, below, total_suc ns i here);
      bound = total_within ns i;
    }

-- what the trees from the first of some children of a node on have more than those after the last is how many nodes the children have
pub sums_apart : (ns : List DocNode) (sums : List ℕ) (i from to a b : ℕ) → AreSums ns sums → from ≤ to → i + to ≤ length ns → a ≡ get_or sums (i + from) a → b ≡ get_or sums (i + to) b
    → (b ≤ a) × (a - b ≡ nodes_of (run ns (i + from) (to - from)))
sums_apart ns sums i from to a b are order within read-a read-b =
    let begin = get_or_read sums (i + from) a (omega (arith, are.count)) read-a 0 in
    let end = get_or_read sums (i + to) b (omega (arith, are.count)) read-b 0 in
    let more = are.each (i + from) (omega arith) in
    let less = are.each (i + to) (omega arith) in
    let same : i + from + (to - from) ≡ i + to = omega arith in
    let split = total_add ns (i + from) (to - from) in
    let rest = ap (total_from ns) same in
    (omega (arith, begin, end, more, less, split, rest), omega (arith, begin, end, more, less, split, rest))
