-- What the calls of a groupBy whose groups end with its input leave and answer, in the words of those calls.
use Rattle.std.proofs.Common.{◌≡◌, ◌<◌, ℕ, true, false, List, [], Some, None, length, get_or, ◌∙◌, sym, ap, subst}
use Rattle.std.specs.Prelude.{IsTrue, slice_index_or}
use Rattle.std.specs.List.{AllByRecursion}
use Rattle.std.specs.declared.alloc.Global.{Global}
use Rattle.std.specs.declared.rc.Rc.{Rc}
use Rattle.lazy_descend.specs.Searches.{FindsNone}
use Rattle.lxp_core.specs.View.{View}
use Rattle.plan_core.specs.Plans.{Operator}
use Rattle.plan_core.specs.Shapes.{Shape, first_by_keys, shape_at, passes_on}
use Rattle.plan_core.specs.TolledRows.{key_values}
use Rattle.plan_core.specs.Events.{RowEvents}
use Rattle.tree_buffer.specs.Law.{SpotsAreOne}
use Rattle.std.proofs.Common.{map}
use Rattle.lazy_binding.specs.declared.key.KeyPart.{KeyPart}
use Rattle.lazy_binding.specs.declared.parts.Growing.{Growing}
use Rattle.lazy_binding.specs.declared.parts.Walked.{Walked}
use Rattle.lazy_binding.specs.declared.position.Position.{Position}
use Rattle.lazy_binding.specs.Bench.{IsBench}
use Rattle.lazy_binding.specs.Cursors.{binding, ahead, number, weighs, IsIn}
use Rattle.lazy_binding.specs.Gathered.{Gathered, IsGatheredBy}
use Rattle.lazy_binding.specs.Growth.{OthersGathered, groups_in}
use Rattle.lazy_binding.specs.Parts.{operators, world_of, IsFixed}
use Rattle.lazy_binding.specs.Reading.{count_of}
use Rattle.lazy_binding.specs.World.{World, world, docs_of, is_told, seen_at, gathered_at, part_value, IsPart}
use Rattle.lazy_steps.specs.declared.gather_steps.Gather.{Gather}
use Rattle.lazy_steps.specs.Gathers.{GathersGroups, IsFurther, IsNextGroup}
use Rattle.lazy_steps.specs.Steps.{Asks, CanStep, CanWalk, Finds, GrowsAt, telling}
use Rattle.lazy_steps.proofs.Goes.{in_shape}
use Rattle.lazy_steps.proofs.GatherSteps.{groups_read, gathers_can, gathers_less, ended_bench, ended_asks, refused_bench, refused_asks, gathered_bench, gathered_asks, gathered_further}
use Rattle.lazy_steps.proofs.GroupWalks.{ComesTo, whole_ahead, comes_first, none_there, group_found, group_none, comes_asks, comes_on}

-- the shape of an operator whose groups end with its input
abbrev pub group_shape : (k : Gather) → GathersGroups k → Shape
group_shape k is = passes_on k.input (first_by_keys k.keys.now (Some is.0))

-- the events of its input that were not walked yet
abbrev pub unwalked : World → Gather → RowEvents
unwalked w k = ahead w (operators k.walk.fixed.now) k.input (gathered_at w k.walk.op).last

-- what a call leaves: a bench, and what it asked
abbrev pub LeavesGroups : World → World → Gather → Type 0
LeavesGroups a b k = IsBench b (operators k.walk.fixed.now) × Asks a b (operators k.walk.fixed.now) k.walk.op (unwalked a k)

-- a step of such an operator has come so far
abbrev pub StepCame : Gather → World → World → Position → Type 0
StepCame k a b c = (is : GathersGroups k) × ComesTo (operators k.walk.fixed.now) k.walk.op k.input k.keys.now is.0 a b c

module _ (v : View) (g : Growing) (k : Gather) (is : GathersGroups k) (fixed : IsFixed k.walk.fixed.now) (within : k.walk.op < length (operators k.walk.fixed.now))
    (bench : IsBench (world_of v g) (operators k.walk.fixed.now)) where
  -- the operators of a plan whose groups are walked
  abbrev ops : List Operator
  ops = operators k.walk.fixed.now

  -- the number of the operator that makes groups
  abbrev n : ℕ
  n = k.walk.op

  -- the world before a call for one more member
  abbrev a : World
  a = world_of v g

  -- the groups that are read of what was walked are those of the operator
  pub read_groups : (m : Gathered) → m ≡ get_or g.walked.gathered.items n m → m ≡ gathered_at a n
  read_groups m e = groups_read v g ops bench n within m e

  -- the binding of the input to which the walk over groups has come
  pub read_last : (m : Gathered) → m ≡ get_or g.walked.gathered.items n m → (c : Position) → c ≡ m.last → c ≡ (gathered_at a n).last
  read_last m e c f = f ∙ ap (λ (z : Gathered). z.last) (read_groups m e)

  -- the input can step from the binding to which the walk over groups has come
  pub groups_can : (c : Position) → c ≡ (gathered_at a n).last → CanStep v g k.walk.fixed.now k.input c
  groups_can c e = gathers_can n k.input k.keys.now is.0 fixed within is.1 is.2 bench c e

  -- the input of an operator that makes groups has a smaller number than the operator
  pub input_less : k.input < n
  input_less = gathers_less a a ops n k.input k.keys.now is.0 fixed.typed within is.1 is.2 bench

  -- where the walk has ended, nothing is left of the input
  pub none_unwalked : (m : Gathered) → m ≡ get_or g.walked.gathered.items n m → m.ended ≡ true → FindsNone (telling a ops) (unwalked a k)
  none_unwalked m e ended = (bench.gathered n k.input k.keys.now (Some is.0) is.1 is.2).all (ap (λ (z : Gathered). z.ended) (sym (read_groups m e)) ∙ ended)

  module _ (c : World) (asks : Asks a c ops k.input (unwalked a k)) (late : IsBench c ops) where
    -- an operator has as many groups as keys that it has seen
    pub as_many : length (gathered_at c n).groups ≡ length (seen_at c n)
    as_many = (late.gathered n k.input k.keys.now (Some is.0) is.1 is.2).count

    -- where nothing is left of the input, the walk has ended
    pub grow_ended : (walked : Walked) → OthersGathered c.walked walked n → groups_in walked n ≡ record { groups = (groups_in c.walked n).groups; last = (groups_in c.walked n).last; ended = true }
        → FindsNone (telling a ops) (unwalked a k) → LeavesGroups a (world c.view c.buffers c.seen c.memos walked) k
    grow_ended walked others ended none = (
      ended_bench a c ops n k.input k.keys.now is.0 fixed.typed within is.1 is.2 bench asks late walked others ended none,
      ended_asks a c ops n k.input k.keys.now is.0 fixed.typed within is.1 is.2 bench asks late walked others ended none,
    )

    module _ (d : Position) (f : Finds a c ops k.input (shape_at ops k.input) (unwalked a k) (number a ops k.input (gathered_at a n).last) d) (key : List KeyPart) (parts : AllByRecursion (IsPart c) key)
        (val : IsTrue (is_told c ops) → map (part_value c) key ≡ key_values (docs_of c) k.keys.now (binding c ops k.input d)) (ones : SpotsAreOne)
        (seen : List (List (List KeyPart))) (walked : Walked) (grows : GrowsAt c.seen seen n key) (others : OthersGathered c.walked walked n) where
      -- where memory was wanting, a call for one more member leaves the groups and the keys as they were
      pub grow_refused : groups_in walked n ≡ groups_in c.walked n → slice_index_or seen n [] ≡ seen_at c n → LeavesGroups a (world c.view c.buffers seen c.memos walked) k
      grow_refused groups same = (
        refused_bench a c ops n k.input k.keys.now is.0 fixed.typed within is.1 is.2 bench asks late d f key parts val ones seen walked grows others groups same,
        refused_asks a c ops n k.input k.keys.now is.0 fixed.typed within is.1 is.2 bench asks late d f key parts val ones seen walked grows others groups same,
      )

      -- a call that puts the next binding of the input into its group leaves what a call for one more member leaves
      pub grow_more : IsGatheredBy (groups_in c.walked n) (groups_in walked n) (seen_at c n) (slice_index_or seen n []) key d → (m : Gathered) → m ≡ get_or g.walked.gathered.items n m → m.ended ≡ false
          → LeavesGroups a (world c.view c.buffers seen c.memos walked) k × IsFurther a (world c.view c.buffers seen c.memos walked) ops n k.input k.keys.now
      grow_more goes m e further =
          let same : gathered_at c n ≡ gathered_at a n = (asks.above n input_less).2 in
          let went = subst (λ (z : Gathered). IsGatheredBy z (groups_in walked n) (seen_at c n) (slice_index_or seen n []) key d) same goes in
          let ongoing : (gathered_at a n).ended ≡ false = ap (λ (z : Gathered). z.ended) (sym (read_groups m e)) ∙ further in (
            (
              gathered_bench a c ops n k.input k.keys.now is.0 fixed.typed within is.1 is.2 bench asks late d f key parts val ones seen walked grows others went ongoing,
              gathered_asks a c ops n k.input k.keys.now is.0 fixed.typed within is.1 is.2 bench asks late d f key parts val ones seen walked grows others went ongoing,
            ),
            gathered_further a c ops n k.input k.keys.now is.0 fixed.typed within is.1 is.2 bench asks late d f key parts val ones seen walked grows others went ongoing,
          )

module _ {v : View} {g : Growing} (k : Gather) (c : Position) (can : CanWalk v g k.walk c) where
  -- the world before a step over groups
  abbrev old : World
  old = world_of v g

  -- before any call a step over groups has come nowhere yet
  pub step_begins : GathersGroups k → StepCame k old old c
  step_begins is = (is, comes_first (operators k.walk.fixed.now) k.walk.op k.input k.keys.now is.0 can.fixed.typed can.op is.1 is.2 old can.bench c (in_shape can (group_shape k is) is.1))

  module _ (b : World) (late : IsBench b (operators k.walk.fixed.now)) (come : StepCame k old b c) where
    -- the operator of a step over groups makes groups of its input
    abbrev is : GathersGroups k
    is = come.0

    -- the position of a step over groups, in the shape of its operator
    at : IsIn old (operators k.walk.fixed.now) k.walk.op (group_shape k is) c
    at = in_shape can (group_shape k is) is.1

    -- the events ahead of the position of the step
    abbrev whole : RowEvents
    whole = whole_ahead (operators k.walk.fixed.now) k.walk.op k.input k.keys.now is.0 old c

    -- where the next group is there, the step finds it
    pub step_found : (d : Rc Position Global) → IsNextGroup (gathered_at b k.walk.op) (count_of c) (Some d)
        → Finds old b (operators k.walk.fixed.now) k.walk.op (group_shape k is) whole (weighs old (operators k.walk.fixed.now) k.walk.op (group_shape k is) c) d.value
    step_found d next =
        subst (Finds old b (operators k.walk.fixed.now) k.walk.op (group_shape k is) whole (weighs old (operators k.walk.fixed.now) k.walk.op (group_shape k is) c)) (sym next.3)
        (group_found (operators k.walk.fixed.now) k.walk.op k.input k.keys.now is.0 can.fixed.typed can.op is.1 is.2 old can.bench c at b late come.1 next.0 next.2 next.1)

    -- where a step over groups finds no group, no more were found than were counted
    pub step_count : IsNextGroup (gathered_at b k.walk.op) (count_of c) None → length (gathered_at b k.walk.op).groups ≡ count_of c
    step_count none = none_there (operators k.walk.fixed.now) k.walk.op k.input k.keys.now is.0 can.fixed.typed can.op is.1 is.2 old can.bench c at b late come.1 none

    module _ (none : IsNextGroup (gathered_at b k.walk.op) (count_of c) None) (e : World) (asks : Asks b e (operators k.walk.fixed.now) k.walk.op (unwalked b k)) where
      -- a call for one more member after others asks in all for no more than the events ahead of the step allow
      pub step_asks : Asks old e (operators k.walk.fixed.now) k.walk.op whole
      step_asks = comes_asks (operators k.walk.fixed.now) k.walk.op k.input k.keys.now is.0 can.fixed.typed can.op is.1 is.2 old can.bench c at b late come.1 e asks (step_count none)

      -- where nothing is left of the input, there is no further group
      pub step_none : FindsNone (telling b (operators k.walk.fixed.now)) (unwalked b k) → FindsNone (telling old (operators k.walk.fixed.now)) whole
      step_none over = group_none (operators k.walk.fixed.now) k.walk.op k.input k.keys.now is.0 can.fixed.typed can.op is.1 is.2 old can.bench c at b late come.1 (step_count none) over

      -- a step over groups goes on by one more member that was found
      pub step_goes_on : IsBench e (operators k.walk.fixed.now) → IsFurther b e (operators k.walk.fixed.now) k.walk.op k.input k.keys.now → SpotsAreOne → StepCame k old e c
      step_goes_on last m ones =
          (is, comes_on (operators k.walk.fixed.now) k.walk.op k.input k.keys.now is.0 can.fixed.typed can.op is.1 is.2 old can.bench c at b late come.1 e asks (step_count none) last m ones)
