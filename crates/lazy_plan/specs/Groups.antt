-- Groups, from one of their members on.
use Rattle.std.specs.Prelude.{◌≡◌, ◌≤◌, ◌+◌, ◌-◌, ℕ, suc, Bool, false, IsTrue, List, Option, Result, IfOk}
use Rattle.mix_base.specs.Events.{cost}
use Rattle.lazy_descend.specs.Searches as Searches
use Rattle.lazy_descend.specs.Searches.{Cursors}
use Rattle.lxp_core.specs.View.{View}
use Rattle.lxp_core.specs.declared.fault.WalkFault.{WalkFault}
use Rattle.plan_core.specs.Plans.{Operator}
use Rattle.plan_core.specs.ByNumber.{op_at}
use Rattle.plan_core.specs.Fronts.{op_stops}
use Rattle.plan_core.specs.Events.{RowEvents, group_after}
use Rattle.plan_core.specs.TolledRows.{TolledRow}
use Rattle.lazy_binding.specs.declared.position.Position.{Position, First'}
use Rattle.lazy_binding.specs.Cursors.{IsOf, HasSeen}
use Rattle.plan_forms.specs.Forms.{input_at, keys_of}
use Rattle.lazy_binding.specs.Parts.{operators}
use Rattle.lazy_binding.specs.World.{IsFound}
use Rattle.lazy_plan.specs.declared.bench.Bench.{Bench}
use Rattle.lazy_plan.specs.declared.groups.GroupFrom.{GroupFrom}
use Rattle.lazy_plan.specs.Bench.{BenchState, state_of, ops_of, told_by, documents, size_of, IsCursor, binding_at, ahead_at, number_at, BenchRan, AsksAtMost}
use Rattle.lazy_steps.specs.Steps.{HasCause}

-- whether the groups of operator op end at the first other key of its input
abbrev pub stops_at : List Operator → ℕ → Bool
stops_at ops op = op_stops ops (op_at ops op)

-- the events of the group that begins at cursor `first` of the input, after cursor `at`
abbrev pub group_ahead : BenchState → ℕ → Position → Position → RowEvents
group_ahead st op first at =
    let input = input_at (ops_of st) op in
    group_after (documents st) (keys_of (op_at (ops_of st) op)) (stops_at (ops_of st) op) (binding_at st input first) (ahead_at st input at)

-- the group with this number among those of operator op, counted from 1, begins at a cursor of its input
abbrev pub BeginsGroup : BenchState → ℕ → ℕ → Position → Type 0
BeginsGroup st op number first = (q : _) → IsOf st.world (ops_of st) op (First' q first number)

-- where the groups of operator op end at the first other key, a cursor of its input stands at a member of the group with this number
abbrev pub InGroup : BenchState → ℕ → ℕ → Position → Type 0
InGroup st op number at = IsTrue (stops_at (ops_of st) op) → HasSeen st.world (ops_of st) op at number

-- where the groups of operator op end with its input, the member at a place of the group with this number was found, and stands at a cursor of the input
abbrev pub IsPlaced : BenchState → ℕ → ℕ → ℕ → Position → Type 0
IsPlaced st op number place at = stops_at (ops_of st) op ≡ false → IsFound st.world op number place at

-- a group of operator op and the member at a place of it, counted from 0: the members before it, itself and those that may come after it are no more than the bindings of the input
pub record IsGroup (st : BenchState) (op number : ℕ) (first at : Position) (place : ℕ) : Type 0 where
  pub begins : BeginsGroup st op number first
  pub member : InGroup st op number at
  pub few : place + number_at st (input_at (ops_of st) op) at ≤ size_of st (input_at (ops_of st) op)
  pub placed : IsPlaced st op number place at

-- the cursors of the members of a group at one place, as cursors among the events of the group
abbrev pub members_of : BenchState → ℕ → ℕ → Position → ℕ → Cursors Position TolledRow
members_of st op number first place = record {
  IsCursor = λ c. IsCursor st (input_at (ops_of st) op) c × IsGroup st op number first c place;
  HasRow = λ c. Unit {0};
  binding = binding_at st (input_at (ops_of st) op);
  ahead = group_ahead st op first;
  number = λ c. size_of st (input_at (ops_of st) op) - place;
}

-- the events of a group after the member from which it is walked
abbrev pub group_events : BenchState → GroupFrom → RowEvents
group_events st g = group_ahead st g.op g.first.now g.at.now

-- a call answers that a group has no member at the next place, or a cursor at it
abbrev pub GivesMember : BenchState → BenchState → GroupFrom → Option Position → Type 0
GivesMember old new g r =
    Searches.GivesFirst (told_by old) (members_of new g.op g.number g.first.now (suc g.place)) (group_events old g) (size_of old (input_at (ops_of old) g.op) - g.place) r

-- what a call for the next member of a group leaves and answers
pub record MemberWalked {S : Type 0} (view : S → View) (came_from : S → S → Type 0) (g : GroupFrom) (s : S) (b : Bench) (s' : S) (b' : Bench) (result : Result (Option Position) WalkFault) : Type 0 where
  pub ran : BenchRan view came_from s b s' b'
  pub lazy : AsksAtMost (state_of (view s) b) (state_of (view s') b') (cost (group_events (state_of (view s) b) g))
  pub cause : HasCause (operators b.fixed) (view s) (view s') result
  pub answer : IfOk result (GivesMember (state_of (view s) b) (state_of (view s') b') g)
