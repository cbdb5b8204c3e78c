-- Searches for the first binding among events, by cursors that stand at them.
use Rattle.std.specs.Prelude.{◌≡◌, ◌<◌, ◌≤◌, ◌+◌, ℕ, Bool, IsTrue, Option, MatchOption, List}
use Rattle.mix_base.specs.Events.{Event, nothing, finds, found, cost}

-- what is known of the sources of a search: whether they tell what they mean, whether they are forward, and how many fills were asked
pub record Telling : Type 0 where
  pub told : Bool
  pub forward : Bool
  pub fills : ℕ

-- sources tell, and are forward, as they did and were
pub record TellsOn (old new : Telling) : Type 0 where
  pub told : new.told ≡ old.told
  pub forward : new.forward ≡ old.forward

-- cursors among events: which are good, and which of these may stand at a binding; that binding, the events after it, and a number that falls
pub record Cursors (C B : Type 0) : Type 1 where
  pub IsCursor : C → Type 0
  pub HasRow : C → Type 0
  pub binding : C → B
  pub ahead : C → List (Event B)
  pub number : C → ℕ

-- over told and forward sources at most so many fills were asked
abbrev pub AsksAtMost : Telling → Telling → ℕ → Type 0
AsksAtMost old new most = IsTrue old.told → IsTrue old.forward → new.fills ≤ old.fills + most

-- over told sources none of some events is a binding
abbrev pub FindsNone : {B : Type 0} → Telling → List (Event B) → Type 0
FindsNone old es = IsTrue old.told → found es ≡ nothing

-- over told sources a binding is the first one of some events, with given ones after it
abbrev pub FindsAt : {B : Type 0} → Telling → List (Event B) → B → List (Event B) → Type 0
FindsAt old es row later = IsTrue old.told → found es ≡ finds row later

-- the cursor stands at the first binding of these events, and its number is below this one
pub record Finds {C B : Type 0} (old : Telling) (now : Cursors C B) (es : List (Event B)) (top : ℕ) (d : C) : Type 0 where
  pub cursor : now.IsCursor d
  pub row : now.HasRow d
  pub falls : now.number d < top
  pub found : FindsAt old es (now.binding d) (now.ahead d)

-- the cursor stands at one of these events, with no binding up to it; each event that was passed cost at most a fill
pub record Moves {C B : Type 0} (old new : Telling) (now : Cursors C B) (es : List (Event B)) (top : ℕ) (d : C) : Type 0 where
  pub cursor : now.IsCursor d
  pub falls : now.number d < top
  pub found : IsTrue old.told → found es ≡ found (now.ahead d)
  pub lazy : IsTrue old.told → IsTrue old.forward → new.fills + cost (now.ahead d) ≤ old.fills + cost es

-- what a step over events comes to: no more events, a cursor at a binding, or one at an event before the next binding
pub data Outcome (C : Type 0) : Type 0 where
  over : Outcome C
  at_row : C → Outcome C
  at_event : C → Outcome C

-- what a step over these events came to
abbrev pub Steps : {C B : Type 0} → Telling → Telling → Cursors C B → List (Event B) → ℕ → Outcome C → Type 0
Steps old new now es top over = FindsNone old es
Steps old new now es top (at_row d) = Finds old now es top d
Steps old new now es top (at_event d) = Moves old new now es top d

-- none of these events is a binding, or the cursor stands at the first that is one
abbrev pub GivesFirst : {C B : Type 0} → Telling → Cursors C B → List (Event B) → ℕ → Option C → Type 0
GivesFirst old now es top r = MatchOption r (FindsNone old es) (Finds old now es top)

-- of some events the later ones are still ahead, with no binding before them; each event that was passed cost at most a fill
pub record Comes {B : Type 0} (old new : Telling) (whole later : List (Event B)) (top number : ℕ) : Type 0 where
  pub tells : TellsOn old new
  pub falls : number ≤ top
  pub found : IsTrue old.told → found whole ≡ found later
  pub lazy : IsTrue old.told → IsTrue old.forward → new.fills + cost later ≤ old.fills + cost whole
