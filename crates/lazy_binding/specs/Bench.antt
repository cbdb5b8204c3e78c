-- What is so of all that a bench stands on.
use Rattle.std.specs.Prelude.{◌≡◌, ◌<◌, ◌≤◌, ℕ, true, IsTrue, Option, Some, None, List, [], take, length}
use Rattle.std.specs.List.{AllByRecursion}
use Rattle.mix_tree.specs.declared.comparing.Test.{Test}
use Rattle.mix_tree.specs.declared.var.Key.{Key}
use Rattle.tree_buffer.specs.declared.buffer.Buffer.{Buffer}
use Rattle.tree_buffer.specs.Buffer.{IsSourcesOf, number_of}
use Rattle.plan_core.specs.declared.plan.Piece.{Piece}
use Rattle.plan_core.specs.Plans.{Operator}
use Rattle.plan_core.specs.Shapes.{Shape, pairs_up, first_by_keys, shape_at, passes_on}
use Rattle.plan_core.specs.Events.{events, keys_seen}
use Rattle.plan_core.specs.Valid.{HasSource}
use Rattle.plan_forms.specs.Links.{links_at}
use Rattle.lazy_binding.specs.Members.{AreMembers}
use Rattle.lazy_binding.specs.declared.position.Reached.{Reached}
use Rattle.lazy_binding.specs.Cursors.{HasSeen, gathers_by}
use Rattle.lazy_binding.specs.Gathering.{AreGathered}
use Rattle.lazy_binding.specs.World.{World, docs_of, is_told, buffer_at, seen_at, seen_values, memo_at, reached_at, gathered_at, IsPart}

-- the input of a shape that keeps the first bindings by keys, and these keys; none of any other shape
abbrev pub drops_by : Shape → Option (ℕ × List Key)
drops_by (passes_on i (first_by_keys keys group)) = Some (i, keys)
drops_by f = None

-- the members of each join's memo are the first bindings of its right side
abbrev pub HasMembers : World → List Operator → Type 0
HasMembers w ops = (n l r : ℕ) (tests : List Test) → shape_at ops n ≡ pairs_up l r tests → AreMembers w ops r (links_at ops n) (memo_at w n)

-- where the group at hand of an operator was walked to a binding of its input, the keys of that binding are among those that the operator had seen when it found the group
abbrev pub HasReached : World → List Operator → Type 0
HasReached w ops = (n : ℕ) (r : Reached) → reached_at w n ≡ Some r → HasSeen w ops n r.below.value r.seen

-- the members of the groups of each operator whose groups end with its input were found in one walk over it
abbrev pub HasGathered : World → List Operator → Type 0
HasGathered w ops = (n i : ℕ) (keys : List Key) (group : Option (Piece × ℕ)) → shape_at ops n ≡ passes_on i (first_by_keys keys group)
    → gathers_by ops (passes_on i (first_by_keys keys group)) ≡ true → AreGathered w ops n i keys group (gathered_at w n)

-- a bench is sound: the root holes and the buffers are those of its sources, the keys that an operator has seen are the first of those of its input, the members of each memo the first
-- bindings of its right side, groups were walked to bindings of their inputs, and members that were found come one after another
pub record IsBench (w : World) (ops : List Operator) : Type 0 where
  pub roots : (s : ℕ) → s < w.view.count → w.view.knows s (w.view.root s) ≡ true
  pub few : length w.buffers ≤ w.view.count
  pub sources : (s : ℕ) (b : Buffer) → buffer_at w s ≡ Some b → (number_of b ≡ s) × IsSourcesOf w.view b
  pub enough : AllByRecursion (HasSource (length w.buffers)) ops
  pub lists : length w.seen ≡ length ops
  pub memos : length w.memos ≡ length ops
  pub parts : (n : ℕ) → AllByRecursion (AllByRecursion (IsPart w)) (seen_at w n)
  pub seen : (n i : ℕ) (keys : List Key) → drops_by (shape_at ops n) ≡ Some (i, keys) → IsTrue (is_told w ops)
      → seen_values w (seen_at w n) ≡ take (length (seen_at w n)) (keys_seen (docs_of w) keys [] (events (docs_of w) ops i))
  pub members : HasMembers w ops
  pub marks : length w.walked.reached.items ≡ length ops
  pub reached : HasReached w ops
  pub walks : length w.walked.gathered.items ≡ length ops
  pub gathered : HasGathered w ops
