-- What calls over the events of an operator come to.
use Rattle.std.specs.Prelude.{◌≡◌, ◌*◌, suc, ◌⊎◌, ◌++◌, ◌∷◌, [], ℕ, Bool, true, false, IsTrue, List, Result, IfOk, Option, None, Some, option_map, ◌<◌, length, slice_index_or}
use Rattle.mix_base.specs.Events.{Event, cost}
use Rattle.lazy_descend.specs.Searches as Searches
use Rattle.lazy_descend.specs.Searches.{Telling, Cursors, AsksAtMost, Outcome, over, at_row, at_event, GivesFirst}
use Rattle.lxp_core.specs.Causes as Causes
use Rattle.lxp_core.specs.View.{View}
use Rattle.mix_tree.specs.declared.var.Key.{Key}
use Rattle.plan_core.specs.declared.plan.Piece.{Piece}
use Rattle.plan_core.specs.Fronts.{apart_over, shape_apart}
use Rattle.plan_core.specs.Plans.{Operator}
use Rattle.plan_core.specs.Valid.{is_single_at}
use Rattle.path_auto.specs.Automaton.{Machine}
use Rattle.lazy_descend.specs.declared.cursor.DescCursor.{DescCursor}
use Rattle.path_expr.specs.Form.{Form}
use Rattle.plan_core.specs.Events.{RowEvents, expand, descendants}
use Rattle.plan_core.specs.TolledRows.{TolledRow}
use Rattle.lxp_core.specs.declared.fault.WalkFault.{WalkFault}
use Rattle.lazy_binding.specs.declared.key.KeyPart.{KeyPart}
use Rattle.lazy_binding.specs.declared.position.Position.{Position}
use Rattle.lazy_steps.specs.declared.step.Step.{Step}
use Rattle.lazy_steps.specs.declared.step.Step.TheVariants.{Done, At, On}
use Rattle.lazy_binding.specs.Bench.{IsBench}
use Rattle.lazy_binding.specs.World.{World, docs_of, memo_at, seen_at, gathered_at, bound_of, is_told, is_forward, IsMatchIn, match_place, match_ahead, match_number}
use Rattle.lazy_binding.specs.Parts.{operators, world_of, IsFixed, shape_walked}
use Rattle.lazy_binding.specs.declared.parts.Fixed.{Fixed}
use Rattle.std.specs.declared.rc.Rc.{Rc}
use Rattle.std.specs.declared.alloc.Global.{Global}
use Rattle.lazy_binding.specs.declared.parts.Growing.{Growing}
use Rattle.lazy_binding.specs.declared.parts.Walk.{Walk}
use Rattle.lazy_binding.specs.Cursors.{gathers_by, ahead, number, size, stands, weighs, left_ahead, IsRead, IsIn, IsOf, has_row}
use Rattle.mix_tree.specs.declared.comparing.Test.{Test}
use Rattle.plan_core.specs.Shapes.{Stage, extends, first_by_keys, Shape, visits_below, pairs_up, passes_on, shape_at}
use Rattle.lazy_binding.specs.Keeping.{Keeps}

-- whether operator n has a single binding, whatever the documents are
abbrev pub single : List Operator → ℕ → Bool
single ops n = is_single_at ops n

-- a call that was refused has its cause: a source that an operator reads failed, or memory ran out
abbrev pub HasCause : {T : Type 0} → List Operator → View → View → Result T WalkFault → Type 0
HasCause ops old new result = Causes.HasCause (IsRead ops) old new result

-- what is known of the sources that the operators read: whether they are told and forward, and how many fills they have answered
abbrev pub telling : World → List Operator → Telling
telling w ops = record { told = is_told w ops; forward = is_forward w ops; fills = w.view.fills }

-- the positions of operator n in this shape, as cursors among its events
abbrev pub positions : World → List Operator → ℕ → Shape → Cursors Position TolledRow
positions w ops n f = record {
  IsCursor = IsIn w ops n f;
  HasRow = λ d. IsTrue (has_row d);
  binding = λ d. (stands w ops n f d).row;
  ahead = λ d. (stands w ops n f d).ahead;
  number = weighs w ops n f;
}

-- the cursors of a visit by this automaton over a source's document, as cursors among its events
abbrev pub matches : World → Machine → ℕ → Cursors DescCursor (List ℕ)
matches w m s = record {
  IsCursor = IsMatchIn w s;
  HasRow = λ d. Unit {0};
  binding = match_place w s;
  ahead = match_ahead w s m;
  number = match_number w s;
}

-- what is remembered of operator j is as it was: its memo, the keys that it has seen, and the members that were found of its groups
abbrev pub IsUntouched : World → World → ℕ → Type 0
IsUntouched old new j = (memo_at new j ≡ memo_at old j) × (seen_at new j ≡ seen_at old j) × (gathered_at new j ≡ gathered_at old j)

-- what is remembered of each operator above n is as it was
abbrev pub KeepsAbove : World → World → ℕ → Type 0
KeepsAbove old new n = (j : ℕ) → n < j → IsUntouched old new j

-- a call over events of operator n keeps what every call keeps, and what is remembered of the operators above n; it asks at most a fill for each of these events up to the first binding,
-- where the sources are told and forward, and none of an operator with a single binding
pub record Asks (old new : World) (ops : List Operator) (n : ℕ) (es : RowEvents) : Type 0 where
  pub kept : Keeps old new
  pub above : KeepsAbove old new n
  pub lazy : AsksAtMost (telling old ops) (telling new ops) (cost es)
  pub none : IsTrue (single ops n) → new.view.fills ≡ old.view.fills

-- a position of operator n in this shape stands at the first binding of these events
abbrev pub Finds : World → World → List Operator → ℕ → Shape → RowEvents → ℕ → Position → Type 0
Finds old new ops n f es top d = Searches.Finds (telling old ops) (positions new ops n f) es top d

-- a position of operator n in this shape stands at one of these events, with no binding before it or at it
abbrev pub Moves : World → World → List Operator → ℕ → Shape → RowEvents → ℕ → Position → Type 0
Moves old new ops n f es top d = Searches.Moves (telling old ops) (telling new ops) (positions new ops n f) es top d

-- what a step came to, as an outcome over events
abbrev pub outcome : Step → Outcome Position
outcome Done = over
outcome (At d) = at_row d
outcome (On d) = at_event d

-- what a step over these events of operator n came to
abbrev pub Steps : World → World → List Operator → ℕ → Shape → RowEvents → ℕ → Step → Type 0
Steps old new ops n f es top r = Searches.Steps (telling old ops) (telling new ops) (positions new ops n f) es top (outcome r)

-- what a call over these events of operator n leaves, whatever it answers
pub record Ran {S : Type 0} (view : S → View) (came_from : S → S → Type 0) (ops : List Operator) (n : ℕ) (es : RowEvents) (s : S) (g : Growing) (s' : S) (g' : Growing) : Type 0 where
  pub came : came_from s s'
  pub bench : IsBench (world_of (view s') g') ops
  pub asks : Asks (world_of (view s) g) (world_of (view s') g') ops n es

-- what a call over these events of a visit leaves, whatever it answers; what is remembered of each operator is as it was
pub record Asked {S : Type 0} (view : S → View) (came_from : S → S → Type 0) (ops : List Operator) (es : List (Event (List ℕ))) (s : S) (g : Growing) (s' : S) (g' : Growing) : Type 0 where
  pub came : came_from s s'
  pub bench : IsBench (world_of (view s') g') ops
  pub kept : Keeps (world_of (view s) g) (world_of (view s') g')
  pub untouched : (j : ℕ) → IsUntouched (world_of (view s) g) (world_of (view s') g') j
  pub lazy : AsksAtMost (telling (world_of (view s) g) ops) (telling (world_of (view s') g') ops) (cost es)

-- a call of a visit by this automaton answers that no match is among these events, or a cursor at the first
abbrev pub GivesMatch : World → World → List Operator → Machine → ℕ → List (Event (List ℕ)) → ℕ → Option DescCursor → Type 0
GivesMatch old new ops m s es top r = GivesFirst (telling old ops) (matches new m s) es top r

-- the position from which a walk goes on: the event to which it came, or, before any, that from which it began
abbrev pub at_of : Option Position → Position → Position
at_of None c = c
at_of (Some d) c = d

-- operator n of a plan can step from position c
pub record CanStep (v : View) (g : Growing) (p : Fixed) (n : ℕ) (c : Position) : Type 0 where
  pub fixed : IsFixed p
  pub op : n < length (operators p)
  pub bench : IsBench (world_of v g) (operators p)
  pub cursor : IsOf (world_of v g) (operators p) n c

-- the operator that is walked can step from position c
abbrev pub CanWalk : View → Growing → Walk → Position → Type 0
CanWalk v g k c = CanStep v g k.fixed.now k.op c

-- what a step over these events of operator n leaves and answers
pub record Stepped {S : Type 0} (view : S → View) (came_from : S → S → Type 0) (p : Fixed) (n : ℕ) (f : Shape) (es : RowEvents) (top : ℕ) (s : S) (g : Growing) (s' : S) (g' : Growing)
    (result : Result Step WalkFault) : Type 0 where
  pub ran : Ran view came_from (operators p) n es s g s' g'
  pub cause : HasCause (operators p) (view s) (view s') result
  pub answer : IfOk result (Steps (world_of (view s) g) (world_of (view s') g') (operators p) n f es top)

-- what a step of operator n, in this shape, from position c leaves and answers
abbrev pub StepsIn : {S : Type 0} → (S → View) → (S → S → Type 0) → Fixed → ℕ → Shape → Position → S → Growing → S → Growing → Result Step WalkFault → Type 0
StepsIn view came_from p n f c s g s' g' result =
    Stepped view came_from p n f (stands (world_of (view s) g) (operators p) n f c).ahead (weighs (world_of (view s) g) (operators p) n f c) s g s' g' result

-- what a step of operator n from position c leaves and answers
abbrev pub StepsFrom : {S : Type 0} → (S → View) → (S → S → Type 0) → Fixed → ℕ → Position → S → Growing → S → Growing → Result Step WalkFault → Type 0
StepsFrom view came_from p n c s g s' g' result = StepsIn view came_from p n (shape_at (operators p) n) c s g s' g' result

-- what a step of the operator that is walked from position c leaves and answers
abbrev pub StepsOn : {S : Type 0} → (S → View) → (S → S → Type 0) → Walk → Position → S → Growing → S → Growing → Result Step WalkFault → Type 0
StepsOn view came_from k c s g s' g' result = StepsFrom view came_from k.fixed.now k.op c s g s' g' result

-- a stage passes on each binding of operator i: with a variable more, or, where no two of them agree by its keys, with the variables of these keys
abbrev pub PassesEach : List Operator → ℕ → Stage → Type 0
PassesEach ops i (extends out made) = Unit {0}
PassesEach ops i (first_by_keys keys None) = apart_over ops i keys ≡ true
PassesEach ops i stage = ⊥

-- operator n passes on each binding of its input i
abbrev pub PassesAt : List Operator → ℕ → ℕ → Type 0
PassesAt ops n i = (stage : Stage) × (shape_at ops n ≡ passes_on i stage) × PassesEach ops i stage

-- the operator that is walked passes on each binding of its input i
abbrev pub PassesOn : Walk → ℕ → Type 0
PassesOn k i = PassesAt (operators k.fixed.now) k.op i

-- the operator that is walked keeps the first bindings of its input i by these keys, may have to drop some, and its groups, where it makes some, do not end with its input
abbrev pub KeepsFirsts : Walk → ℕ → List Key → Type 0
KeepsFirsts k i keys = (group : Option (Piece × ℕ)) × (shape_walked k ≡ passes_on i (first_by_keys keys group))
    × (shape_apart (operators k.fixed.now) (passes_on i (first_by_keys keys group)) ≡ false)
    × (gathers_by (operators k.fixed.now) (passes_on i (first_by_keys keys group)) ≡ false)

-- the events of a join from a position of its left side on
abbrev pub left_events : World → List Operator → ℕ → ℕ → List Test → Position → RowEvents
left_events w ops l r tests x = left_ahead w ops r tests (ahead w ops l x)

-- a number for the events of a join from a position of its left side on; it falls as they are gone through
abbrev pub left_number : World → List Operator → ℕ → ℕ → Position → ℕ
left_number w ops l r x = number w ops l x * suc (size w ops r)

-- what a step of a join from a position of its left side leaves and answers
abbrev pub StepsLeft : {S : Type 0} → (S → View) → (S → S → Type 0) → Walk → ℕ → ℕ → List Test → Position → S → Growing → S → Growing → Result Step WalkFault → Type 0
StepsLeft view came_from k l r tests x s g s' g' result =
    let w = world_of (view s) g in
    let ops = operators k.fixed.now in
    Stepped view came_from k.fixed.now k.op (pairs_up l r tests) (left_events w ops l r tests x) (left_number w ops l r x) s g s' g' result

-- the events of a getDescendants from a position of its input on
abbrev pub visit_events : World → List Operator → ℕ → ℕ → Form → ℕ → Position → RowEvents
visit_events w ops i start path out c = expand (descendants (docs_of w) start path out) (ahead w ops i c)

-- a number for the events of a getDescendants from a position of its input on; it falls as they are gone through
abbrev pub visit_number : World → List Operator → ℕ → Position → ℕ
visit_number w ops i c = number w ops i c * suc (suc (bound_of w))

-- a walk over these events of operator n in this shape gives the position at its first binding, or that there is none
abbrev pub Gives : World → World → List Operator → ℕ → Shape → RowEvents → ℕ → Option (Rc Position Global) → Type 0
Gives old new ops n f es top r = GivesFirst (telling old ops) (positions new ops n f) es top (option_map (λ d. d.value) r)

-- what a walk over these events of operator n, in this shape, to its first binding leaves and answers
pub record Led {S : Type 0} (view : S → View) (came_from : S → S → Type 0) (p : Fixed) (n : ℕ) (f : Shape) (es : RowEvents) (top : ℕ) (s : S) (g : Growing) (s' : S) (g' : Growing)
    (result : Result (Option (Rc Position Global)) WalkFault) : Type 0 where
  pub ran : Ran view came_from (operators p) n es s g s' g'
  pub cause : HasCause (operators p) (view s) (view s') result
  pub answer : IfOk result (Gives (world_of (view s) g) (world_of (view s') g') (operators p) n f es top)

-- what a walk of a getDescendants from a position of its input to its first match leaves and answers
abbrev pub FindsVisit : {S : Type 0} → (S → View) → (S → S → Type 0) → Walk → ℕ → ℕ → Form → ℕ → Position → S → Growing → S → Growing → Result (Option (Rc Position Global)) WalkFault → Type 0
FindsVisit view came_from k i start path out c s g s' g' result =
    let w = world_of (view s) g in
    let ops = operators k.fixed.now in
    Led view came_from k.fixed.now k.op (visits_below i start path out) (visit_events w ops i start path out c) (visit_number w ops i c) s g s' g' result

-- what the walk of operator n from position c to its next binding leaves and answers
pub record Advanced {S : Type 0} (view : S → View) (came_from : S → S → Type 0) (p : Fixed) (n : ℕ) (c : Position) (s : S) (g : Growing) (s' : S) (g' : Growing)
    (result : Result (Option (Rc Position Global)) WalkFault) : Type 0 where
  pub ran : Ran view came_from (operators p) n (ahead (world_of (view s) g) (operators p) n c) s g s' g'
  pub cause : HasCause (operators p) (view s) (view s') result
  pub answer : IfOk result (λ r. GivesFirst (telling (world_of (view s) g) (operators p)) (positions (world_of (view s') g') (operators p) n (shape_at (operators p) n))
      (ahead (world_of (view s) g) (operators p) n c) (number (world_of (view s) g) (operators p) n c) (option_map (λ d. d.value) r))

-- what the walk of the operator that is walked from position c to its next binding leaves and answers
abbrev pub AdvancedOn : {S : Type 0} → (S → View) → (S → S → Type 0) → Walk → Position → S → Growing → S → Growing → Result (Option (Rc Position Global)) WalkFault → Type 0
AdvancedOn view came_from k c s g s' g' result = Advanced view came_from k.fixed.now k.op c s g s' g' result

-- in two lists of keys that operators have seen, those of operator n are the same or one more, and all others are the same
pub record GrowsAt (old new : List (List (List KeyPart))) (n : ℕ) (key : List KeyPart) : Type 0 where
  pub lists : length new ≡ length old
  pub others : (j : ℕ) → (j ≡ n → ⊥) → slice_index_or new j [] ≡ slice_index_or old j []
  pub here : (slice_index_or new n [] ≡ slice_index_or old n []) ⊎ (slice_index_or new n [] ≡ slice_index_or old n [] ++ key ∷ [])
