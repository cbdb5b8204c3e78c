-- Steps of a join over the members of its right side.
use Rattle.std.specs.Prelude.{◌≡◌, ◌<◌, ◌≤◌, ◌+◌, ◌-◌, ◌++◌, ◌∷◌, [], ℕ, suc, Bool, true, false, IsTrue, List, Option, MatchOption, Result, IfOk, is_some, length, slice_index_or}
use Rattle.std.specs.declared.alloc.Global.{Global}
use Rattle.std.specs.declared.rc.Rc.{Rc}
use Rattle.join_memo.specs.Kept.{Kept, labels_of}
use Rattle.lxp_core.specs.View.{View}
use Rattle.lxp_core.specs.declared.fault.WalkFault.{WalkFault}
use Rattle.lazy_descend.specs.Searches.{FindsNone}
use Rattle.mix_tree.specs.declared.comparing.Test.{Test}
use Rattle.plan_core.specs.Plans.{Operator}
use Rattle.plan_core.specs.Shapes.{pairs_up, shape_at}
use Rattle.plan_core.specs.Events.{RowEvents, pairs, passes_all}
use Rattle.plan_forms.specs.declared.link.Link.{Link}
use Rattle.plan_forms.specs.declared.link.Side.TheVariants.{Left as on_left}
use Rattle.plan_forms.specs.Links.{only_label}
use Rattle.lazy_binding.specs.Members.{key_by}
use Rattle.lazy_binding.specs.declared.parts.Growing.{Growing}
use Rattle.lazy_binding.specs.declared.parts.Walk.{Walk}
use Rattle.lazy_binding.specs.declared.position.Position.{Position, Start, Pair'}
use Rattle.lazy_binding.specs.World.{World, docs_of, is_told, Member, no_pairs, memo_at, last_of, passed}
use Rattle.lazy_binding.specs.Cursors.{binding, ahead, number, size, has_row}
use Rattle.lazy_binding.specs.Parts.{operators, shape_walked, world_of, IsFixed}
use Rattle.lazy_binding.specs.Reading.{HasStand, InEach}
use Rattle.lazy_steps.specs.declared.join_steps.Join.{Join}
use Rattle.lazy_steps.specs.declared.step.Step.{Step}
use Rattle.lazy_steps.specs.declared.step.Step.TheVariants.{Done, At, On}
use Rattle.lazy_steps.specs.Steps.{telling, Finds, Ran, HasCause, Stepped, left_events, left_number}

-- the left side of a join, as an operator that is walked
abbrev pub left_of : Join → Walk
left_of k = record { fixed = k.walk.fixed; op = k.left }

-- the right side of a join, as an operator that is walked
abbrev pub right_of : Join → Walk
right_of k = record { fixed = k.walk.fixed; op = k.right }

-- the memo of operator n, in what has grown
abbrev pub memo_in : Growing → ℕ → Kept (Rc Position Global)
memo_in g n = slice_index_or g.memos.items n no_pairs

-- the label that is looked up beside a binding of a join's left side; no bytes where nothing is looked up
abbrev pub sought_label : World → List Operator → ℕ → List Link → Position → List ℕ
sought_label w ops l by x = key_by w ops l on_left by x

-- whether a join looks its members up by one link alone, which is by labels
abbrev pub is_by_label : List Link → Bool
is_by_label by = is_some (only_label by)

-- no member at a place from k on, and before p, has this label
abbrev pub NoneBetween : List Member → List ℕ → ℕ → ℕ → Type 0
NoneBetween ms key k p = (j : ℕ) → k ≤ j → j < p → slice_index_or (labels_of ms) j [] ≡ key → ⊥

-- if a place was found, it is that of a member, and k or a later one
abbrev pub IsPlaceFrom : List Member → ℕ → Option ℕ → Type 0
IsPlaceFrom ms k r = MatchOption r (Unit {0}) (λ p. (k ≤ p) × (p < length ms))

-- no member from place k on has this label, or none before the place that was found
abbrev pub IsNextPlace : List Member → List ℕ → ℕ → Option ℕ → Type 0
IsNextPlace ms key k r = MatchOption r (NoneBetween ms key k (length ms)) (NoneBetween ms key k)

-- where members are looked up, the one at place p has the label that is looked up
abbrev pub HasSought : List Member → List ℕ → List Link → ℕ → Type 0
HasSought ms key by p = (by ≡ [] → ⊥) → slice_index_or (labels_of ms) p [] ≡ key

-- a position is the pair of a position of a join's left side and the member at place p
abbrev pub IsPairAt : List Member → Position → ℕ → Position → Type 0
IsPairAt ms x p d = (q q' : _) × (d ≡ Pair' q x q' (passed ms (suc p)) (suc p))

-- whether a join's comparisons hold of a pair of a position of its left side and one of its right
abbrev pub lets : World → List Operator → ℕ → ℕ → List Test → Position → Position → Bool
lets w ops l r tests x y = passes_all (docs_of w) tests (binding w ops l x ++ binding w ops r y)

-- a step comes to the pair of a position of a join's left side and the member at place p: as a binding exactly where the comparisons hold
abbrev pub IsMemberStep : World → List Operator → ℕ → ℕ → List Test → List Member → Position → ℕ → Step → Type 0
IsMemberStep w ops l r tests ms x p Done = ⊥
IsMemberStep w ops l r tests ms x p (At d) = IsPairAt ms x p d × (IsTrue (is_told w ops) → lets w ops l r tests x (passed ms (suc p)) ≡ true)
IsMemberStep w ops l r tests ms x p (On d) = IsPairAt ms x p d × (IsTrue (is_told w ops) → lets w ops l r tests x (passed ms (suc p)) ≡ false)

-- a join can step from a position of its left side to the pair with the member at place p
pub record CanPair (g : Growing) (k : Join) (x : Position) (p : ℕ) : Type 0 where
  pub fixed : IsFixed k.walk.fixed.now
  pub op : k.walk.op < length (operators k.walk.fixed.now)
  pub is : shape_walked k.walk ≡ pairs_up k.left k.right k.tests.now
  pub place : p < length (memo_in g k.walk.op).pairs
  pub cursor : HasStand g (left_of k) x
  pub row : IsTrue (has_row x)

-- a step of a join from a position of its left side comes to the pair with the member at place p
abbrev pub PairSteps : Growing → Join → Position → ℕ → Result Step WalkFault → Type 0
PairSteps g k x p result =
    let ops = operators k.walk.fixed.now in
    IfOk result (λ s. InEach g (left_of k) x (λ w. IsMemberStep w ops k.left k.right k.tests.now (memo_in g k.walk.op).pairs x p s))

-- the events of a join from a position of its right side on, beside a position of its left
abbrev pub beside_events : World → List Operator → ℕ → ℕ → List Test → Position → Position → RowEvents
beside_events w ops l r tests x y = pairs (docs_of w) tests (ahead w ops r y) (binding w ops l x) ++ left_events w ops l r tests x

-- a number for the events of a join beside a position of its left side, once k members were passed; it falls as they are gone through
abbrev pub beside_number : World → List Operator → ℕ → ℕ → Position → ℕ → ℕ
beside_number w ops l r x k = left_number w ops l r x + (size w ops r - k)

-- the position of the last member of the memo of operator n, or the one before all events
abbrev pub last_at : World → ℕ → Position
last_at w n = last_of Start (memo_at w n).pairs

-- what a step of a join beside a position of its left side, after all members so far, leaves and answers
abbrev pub StepsBeside : {S : Type 0} → (S → View) → (S → S → Type 0) → Join → Position → S → Growing → S → Growing → Result Step WalkFault → Type 0
StepsBeside view came_from k x s g s' g' result =
    let w = world_of (view s) g in
    let ops = operators k.walk.fixed.now in
    let y = last_at w k.walk.op in
    let most = length (memo_at w k.walk.op).pairs in
    Stepped view came_from k.walk.fixed.now k.walk.op (pairs_up k.left k.right k.tests.now) (beside_events w ops k.left k.right k.tests.now x y)
    (beside_number w ops k.left k.right x most) s g s' g' result

-- the memo of operator n has one more member after the others, at the next binding of the right side; or there is none, and the memo has ended
abbrev pub IsGrown : World → World → List Operator → ℕ → ℕ → Bool → Type 0
IsGrown old new ops n r true =
    (m : Member) × (memo_at new n ≡ record { pairs = (memo_at old n).pairs ++ m ∷ []; ended = false })
    × Finds old new ops r (shape_at ops r) (ahead old ops r (last_at old n)) (number old ops r (last_at old n)) m.1.value
IsGrown old new ops n r false =
    (memo_at new n ≡ record { pairs = (memo_at old n).pairs; ended = true }) × FindsNone (telling old ops) (ahead old ops r (last_at old n))

-- what a call for one more member of a join's memo leaves and answers
pub record Grew {S : Type 0} (view : S → View) (came_from : S → S → Type 0) (k : Join) (s : S) (g : Growing) (s' : S) (g' : Growing) (result : Result Bool WalkFault) : Type 0 where
  pub ran : Ran view came_from (operators k.walk.fixed.now) k.walk.op
      (ahead (world_of (view s) g) (operators k.walk.fixed.now) k.right (last_at (world_of (view s) g) k.walk.op)) s g s' g'
  pub cause : HasCause (operators k.walk.fixed.now) (view s) (view s') result
  pub answer : IfOk result (IsGrown (world_of (view s) g) (world_of (view s') g') (operators k.walk.fixed.now) k.walk.op k.right)
