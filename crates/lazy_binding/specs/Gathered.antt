-- The members of the groups of an operator, as far as they were found, and how their lists grow.
use Rattle.std.specs.Prelude.{◌≡◌, ◌<◌, ◌⊎◌, ℕ, zero, suc, Bool, true, false, Option, None, Some, List, [], ◌∷◌, ◌++◌, length, take, nat_lt, slice_get, slice_index_or}
use Rattle.std.specs.declared.alloc.Global.{Global}
use Rattle.std.specs.declared.rc.Rc.{Rc}
use Rattle.lazy_binding.specs.declared.key.KeyPart.{KeyPart}
use Rattle.lazy_binding.specs.declared.position.Position.{Position, Start}
use Rattle.lazy_binding.specs.Keys.{same_parts, was_seen}

-- the members of each group that were found, in order; the last binding of the input that was walked to, or the position before all events; and whether the walk has ended
pub record Gathered : Type 0 where
  pub groups : List (List (Rc Position Global))
  pub last : Position
  pub ended : Bool

-- no group was found, and nothing was walked
abbrev pub no_groups : Gathered
no_groups = record { groups = []; last = Start; ended = false }

-- a position that may be missing; where it is, the one before all events
abbrev pub or_start : Option (Rc Position Global) → Position
or_start None = Start
or_start (Some r) = r.value

-- the position at a place among a first one, which has place 0, and these after it
abbrev pub at_place : Position → List (Rc Position Global) → ℕ → Position
at_place at ms zero = at
at_place at [] (suc p) = at
at_place at (m ∷ ms) (suc p) = at_place m.value ms p

-- each member that was found stays at its place in its group
abbrev pub MembersStay : Gathered → Gathered → Type 0
MembersStay old new = (j place : ℕ) (m : Rc Position Global) → slice_get (slice_index_or old.groups j []) place ≡ Some m → slice_get (slice_index_or new.groups j []) place ≡ Some m

-- the group of number k has one more member, and the others are as they were
pub record IsJoined (old new : List (List (Rc Position Global))) (k : ℕ) (r : Rc Position Global) : Type 0 where
  pub lists : length new ≡ length old
  pub others : (j : ℕ) → (j ≡ k → ⊥) → slice_index_or new j [] ≡ slice_index_or old j []
  pub here : slice_index_or new k [] ≡ slice_index_or old k [] ++ r ∷ []

-- after the groups that were there stands one more, with one member
pub record IsBegun (old new : List (List (Rc Position Global))) (r : Rc Position Global) : Type 0 where
  pub lists : length new ≡ suc (length old)
  pub others : (j : ℕ) → j < length old → slice_index_or new j [] ≡ slice_index_or old j []
  pub here : slice_index_or new (length old) [] ≡ r ∷ []

-- a key is the one with number k among those that were seen, and group k has one more member
pub record Joins (old new : List (List (Rc Position Global))) (seen : List (List KeyPart)) (key : List KeyPart) (r : Rc Position Global) (k : ℕ) : Type 0 where
  pub within : k < length old
  pub known : (few : ℕ) → nat_lt k few ≡ was_seen key (take few seen)
  pub alone : (j : ℕ) → j < length seen → same_parts (slice_index_or seen j []) key ≡ true → was_seen key (take j seen) ≡ false
  pub joined : IsJoined old new k r

-- a key, which is none of those that were seen, stands after them, and a group with one member begins
pub record Begins (old new : List (List (Rc Position Global))) (seen later : List (List KeyPart)) (key : List KeyPart) (r : Rc Position Global) : Type 0 where
  pub fresh : was_seen key seen ≡ false
  pub pushed : later ≡ seen ++ key ∷ []
  pub begun : IsBegun old new r

-- a walk over an input went on to a binding with this key, which is one more member of a group, or the first of a new one
pub record GoesTo (old new : Gathered) (seen later : List (List KeyPart)) (key : List KeyPart) (r : Rc Position Global) : Type 0 where
  pub member : ((k : ℕ) × (later ≡ seen) × Joins old.groups new.groups seen key r k) ⊎ Begins old.groups new.groups seen later key r
  pub last : new.last ≡ r.value
  pub goes_on : new.ended ≡ old.ended

-- a walk over an input went on to a binding with this key, at a position equal to `at`, which is one more member of a group, or the first of a new one
abbrev pub IsGatheredBy : Gathered → Gathered → List (List KeyPart) → List (List KeyPart) → List KeyPart → Position → Type 0
IsGatheredBy old new seen later key at = (r : Rc Position Global) × (r.value ≡ at) × GoesTo old new seen later key r
