-- What is remembered while a plan is walked, before and after a call.
use Rattle.std.specs.Prelude.{◌≡◌, ◌+◌, ℕ, false, Option, Some, None, List, length, take, slice_index_or}
use Rattle.std.specs.declared.alloc.Global.{Global}
use Rattle.std.specs.declared.rc.Rc.{Rc}
use Rattle.join_memo.specs.Kept.{Kept}
use Rattle.lazy_binding.specs.declared.key.KeyPart.{KeyPart}
use Rattle.lazy_binding.specs.declared.position.Position.{Position, First', Seen'}
use Rattle.lazy_binding.specs.Gathered.{Gathered, no_groups}
use Rattle.lazy_binding.specs.declared.parts.Walked.{Walked}
use Rattle.lazy_binding.specs.declared.position.Reached.{Reached}
use Rattle.lazy_binding.specs.Keys.{was_seen}
use Rattle.lazy_binding.specs.World.{no_pairs}

-- in two lists of memos those of all operators but n are the same
pub record OthersStay (old new : List (Kept (Rc Position Global))) (n : ℕ) : Type 0 where
  pub lists : length new ≡ length old
  pub others : (j : ℕ) → (j ≡ n → ⊥) → slice_index_or new j no_pairs ≡ slice_index_or old j no_pairs

-- the members that were found of the groups of operator n, by what was walked
abbrev pub groups_in : Walked → ℕ → Gathered
groups_in walked n = slice_index_or walked.gathered.items n no_groups

-- of all that was walked, what was found of the groups of operator n alone may have changed
pub record OthersGathered (old new : Walked) (n : ℕ) : Type 0 where
  pub reached : new.reached ≡ old.reached
  pub lists : length new.gathered.items ≡ length old.gathered.items
  pub others : (j : ℕ) → (j ≡ n → ⊥) → groups_in new j ≡ groups_in old j

-- where one key more is seen now than before, it stands after all others and was not seen before, and k is the number of the others
abbrev pub IsPushed : List (List KeyPart) → List (List KeyPart) → List KeyPart → ℕ → Type 0
IsPushed old new key k = length new ≡ length old + 1 → (k ≡ length old) × (was_seen key (take k old) ≡ false)

-- the group at hand of operator n was walked to this binding; those of other operators were walked no further, and no members were gathered
pub record IsReached (old new : Walked) (n : ℕ) (to : Reached) : Type 0 where
  pub lists : length new.reached.items ≡ length old.reached.items
  pub others : (j : ℕ) → (j ≡ n → ⊥) → slice_index_or new.reached.items j None ≡ slice_index_or old.reached.items j None
  pub here : slice_index_or new.reached.items n None ≡ Some to
  pub gathered : new.gathered ≡ old.gathered

-- the group at position c of operator n was walked, and `later` stands at the binding that it was walked to
abbrev pub Resumes : List (Option Reached) → ℕ → Position → Position → Type 0
Resumes reached n c later = (r : Reached) × (q : _) × (x : Position) × (u : _)
    × (slice_index_or reached n None ≡ Some r) × (c ≡ First' q x r.seen) × (later ≡ Seen' u r.below.value r.seen)

-- the group at position c of operator n is not the one at hand, so nothing is known of how far it was walked
abbrev pub IsUnknown : List (Option Reached) → ℕ → Position → Type 0
IsUnknown reached n c = (r : Reached) (q : _) (x : Position) → slice_index_or reached n None ≡ Some r → c ≡ First' q x r.seen → ⊥
