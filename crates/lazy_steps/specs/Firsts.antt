-- How an operator that drops bindings by keys that it has seen looks up a key, and where its walk goes on.
use Rattle.std.specs.Prelude.{◌≡◌, ◌<◌, ℕ, ◌+◌, true, false, [], List, Option, Some, None, MatchOption, length, map, slice_index_or, take}
use Rattle.std.specs.List.{AllByRecursion}
use Rattle.lazy_binding.specs.declared.key.KeyPart.{KeyPart}
use Rattle.lazy_binding.specs.declared.parts.Growing.{Growing}
use Rattle.lazy_binding.specs.declared.parts.Walk.{Walk}
use Rattle.lazy_binding.specs.declared.position.Position.{Position}
use Rattle.lazy_binding.specs.declared.position.Reached.{Reached}
use Rattle.lazy_binding.specs.Growth.{IsPushed, IsUnknown, Resumes}
use Rattle.lazy_binding.specs.Keys.{was_seen}
use Rattle.lazy_binding.specs.Reading.{below, InEach, Tells}
use Rattle.lazy_binding.specs.World.{IsPart, part_value}
use Rattle.lazy_steps.specs.declared.pass_steps.Distinct.{Distinct}
use Rattle.lazy_steps.specs.Steps.{at_of, GrowsAt}
use Rattle.plan_core.specs.TolledRows.{key_values}

-- the input of an operator that keeps first bindings
abbrev pub input_of : Distinct → Walk
input_of k = record { fixed = k.walk.fixed; op = k.input }

-- from position c of operator n its walk goes on after position x of the input: after the last member that was found of the group at hand, or after the
-- input's part of c
abbrev pub GoesOnFrom : List (Option Reached) → ℕ → Position → Position → Type 0
GoesOnFrom reached n c x = (later : Option Position) × MatchOption later (IsUnknown reached n c) (Resumes reached n c) × (x ≡ below (at_of later c))

-- how many keys are seen up to a key that is new after the first m that were seen, as was answered: it is one of them then; where none was answered, the
-- key was seen, and they are those that there were
abbrev pub IsKeyAfter : List (List KeyPart) → List (List KeyPart) → List KeyPart → ℕ → Option ℕ → Type 0
IsKeyAfter old new key m (Some seen) = (was_seen key (take m old) ≡ false) × (m < length new) × (seen ≡ m + 1)
IsKeyAfter old new key m None = (was_seen key (take m old) ≡ true) × (new ≡ old)

-- a key of the input's binding at position x was looked for after the first m that the operator has seen: it may have been noted, and nothing else changed
pub record Noted (old new : Growing) (k : Distinct) (x : Position) (m : ℕ) : Type 0 where
  pub key : List KeyPart
  pub parts : InEach old (input_of k) x (λ w. AllByRecursion (IsPart w) key)
  pub value : Tells old (input_of k) x (λ w docs row. map (part_value w) key ≡ key_values docs k.keys.now row)
  pub grows : GrowsAt old.seen.items new.seen.items k.walk.op key
  pub pushed : IsPushed (slice_index_or old.seen.items k.walk.op []) (slice_index_or new.seen.items k.walk.op []) key m
  pub rest : new ≡ record { buffers = old.buffers; seen = new.seen; memos = old.memos; walked = old.walked }

-- the key of the input's binding at position x was looked for after the first m that the operator has seen, and this was answered
abbrev pub IsSeenAt : Growing → Growing → Distinct → Position → ℕ → Option ℕ → Type 0
IsSeenAt old new k x m seen =
    (noted : Noted old new k x m) × IsKeyAfter (slice_index_or old.seen.items k.walk.op []) (slice_index_or new.seen.items k.walk.op []) noted.key m seen
