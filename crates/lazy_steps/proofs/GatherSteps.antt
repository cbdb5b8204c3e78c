-- What was gathered of the groups of an operator, as a call walks on to one more binding of its input.
use Rattle.std.proofs.Common.{◌≡◌, ◌<◌, ◌+◌, ◌-◌, ◌⊎◌, inl, inr, ℕ, suc, Bool, true, false, List, [], ◌∷◌, Option, Some, None, length, take, map, get_or, refl, ◌∙◌, sym, ap, subst, arith, length-append}
use Rattle.std.specs.Prelude.{IsTrue, slice_get, slice_index_or}
use Rattle.std.specs.List.{AllByRecursion, last_or}
use Rattle.std.specs.declared.alloc.Global.{Global}
use Rattle.std.specs.declared.rc.Rc.{Rc}
use Rattle.std.specs.declared.vec.Vec.{Vec}
use Rattle.std.proofs.lemmas.Bool.{cases_eq}
use Rattle.std.proofs.lemmas.List.{get_or_default}
use Rattle.mix_base.proofs.Choices.{some_is}
use Rattle.mix_base.specs.Events.{finds, found}
use Rattle.lazy_descend.specs.Searches.{FindsNone}
use Rattle.lazy_descend.proofs.Searches.{still_told}
use Rattle.mix_tree.specs.Nodes.{Documents}
use Rattle.mix_tree.specs.declared.var.Key.{Key}
use Rattle.plan_core.specs.declared.plan.Piece.{Piece}
use Rattle.plan_core.specs.Plans.{Operator}
use Rattle.plan_core.specs.Shapes.{Shape, first_by_keys, shape_at, passes_on}
use Rattle.plan_core.specs.TolledRows.{KeyValue, key_values, same_values}
use Rattle.plan_core.specs.Events.{RowEvents, events}
use Rattle.plan_core.specs.Typed.{IsTyped}
use Rattle.tree_buffer.specs.Law.{SpotsAreOne}
use Rattle.lxp_core.specs.View.{View}
use Rattle.lazy_binding.specs.declared.key.KeyPart.{KeyPart}
use Rattle.lazy_binding.specs.declared.parts.Growing.{Growing}
use Rattle.lazy_binding.specs.declared.parts.Walked.{Walked}
use Rattle.lazy_binding.specs.declared.position.Position.{Position, First'}
use Rattle.lazy_binding.specs.declared.position.Reached.{Reached}
use Rattle.lazy_binding.specs.Bench.{IsBench, HasGathered}
use Rattle.lazy_binding.specs.Cursors.{stands, binding, ahead, number, past_first, gathers_by, IsIn, IsOf}
use Rattle.lazy_binding.specs.Gathered.{Gathered, IsGatheredBy, Joins, Begins, MembersStay, no_groups}
use Rattle.lazy_binding.specs.Gathering.{IsPassed, HasGroup, AreGathered}
use Rattle.lazy_binding.specs.Growth.{OthersGathered, groups_in}
use Rattle.lazy_binding.specs.Keeping.{Keeps, FoundStay}
use Rattle.lazy_binding.specs.Keys.{same_parts, was_seen}
use Rattle.lazy_binding.specs.Parts.{operators, world_of, IsFixed}
use Rattle.lazy_binding.specs.declared.parts.Fixed.{Fixed}
use Rattle.lazy_binding.specs.World.{World, world, docs_of, is_told, seen_at, gathered_at, part_value, IsPart, IsFound}
use Rattle.lazy_binding.proofs.Bound.{inputs_at}
use Rattle.lazy_binding.proofs.Buffers.{key_stays, keys_stay, reached_kept, gathered_there}
use Rattle.lazy_binding.proofs.FirstLists.{take_all}
use Rattle.lazy_binding.proofs.FoundMembers.{gathered_stay, found_others}
use Rattle.lazy_binding.proofs.Gathering.{passed_kept, passed_first}
use Rattle.lazy_binding.proofs.Gathers.{HasKeys, gathered_joined, gathered_begun, gathered_ended}
use Rattle.lazy_binding.proofs.Keep.{told-kept, docs_kept, keeps_then, keeps_walked}
use Rattle.lazy_binding.proofs.Members.{same_members}
use Rattle.lazy_binding.proofs.SameKeys.{same_parts-is}
use Rattle.lazy_binding.proofs.Stay.{cursors_kept, parts_kept, seen_kept}
use Rattle.lazy_steps.specs.Gathers.{IsFurther}
use Rattle.lazy_steps.specs.Steps.{IsUntouched, Asks, Finds, Ran, CanStep, GrowsAt, telling}
use Rattle.lazy_steps.proofs.FirstPositions.{firsts_single}
use Rattle.lazy_steps.proofs.Goes.{ran_over, le_same, tells_on}
use Rattle.lazy_steps.proofs.Growing.{finds_then}
use Rattle.lazy_steps.proofs.SeenPlaces.{last_taken, each_one}
use Rattle.lazy_steps.proofs.PassedSteps.{passed_old, kept_here, passed_bench, first_next, first_new}
use Rattle.lazy_steps.proofs.SeenPlaces.{below_is, nowhere, stands_there, stands_alone}

-- the groups that are read for an operator
pub groups_read : (v : View) (g : Growing) (ops : List Operator) → IsBench (world_of v g) ops → (n : ℕ) → n < length ops → (m : Gathered) → m ≡ get_or g.walked.gathered.items n m → m ≡ gathered_at (world_of v g) n
groups_read v g ops bench n within m e = e ∙ get_or_default g.walked.gathered.items n m no_groups (let l = bench.walks in omega (arith, l, within))

module _ (a c : World) (ops : List Operator) (n i : ℕ) (keys : List Key) (made : Piece × ℕ) (typed : IsTyped ops) (within : n < length ops)
    (is : shape_at ops n ≡ passes_on i (first_by_keys keys (Some made))) (by : gathers_by ops (passes_on i (first_by_keys keys (Some made))) ≡ true) (bench : IsBench a ops) where
  -- what an operator makes of each of its groups
  abbrev group : Option (Piece × ℕ)
  group = Some made

  -- what was gathered of the groups of an operator so far
  abbrev g : Gathered
  g = gathered_at a n

  -- how many groups of an operator were found
  abbrev few : ℕ
  few = length g.groups

  -- the members that were found of an operator are those of its groups
  pub gathered_good : AreGathered a ops n i keys group g
  gathered_good = bench.gathered n i keys group is by

  -- the input of an operator that gathers has a smaller number than the operator
  pub gathers_less : i < n
  gathers_less = (inputs_at ops typed n within (passes_on i (first_by_keys keys group)) is).0

  module _ (k : Asks a c ops i (ahead a ops i g.last)) (late : IsBench c ops) where
    -- a call of the input touches nothing of what was gathered
    untouched : IsUntouched a c n
    untouched = k.above n gathers_less

    -- an operator has as many groups as keys that it has seen
    pub few_is : few ≡ length (seen_at c n)
    few_is = gathered_good.count ∙ ap length (sym untouched.1)

    -- the world in which the keys that were seen and the groups that were found may have grown
    abbrev here : List (List (List KeyPart)) → Walked → World
    here seen walked = world c.view c.buffers seen c.memos walked

    -- what a call of the input asked, the operator's events allow
    pub gather_asks : (seen : List (List (List KeyPart))) (walked : Walked) (key : List KeyPart) → GrowsAt c.seen seen n key → OthersGathered c.walked walked n → Keeps c (here seen walked)
        → Asks a (here seen walked) ops n (ahead a ops i g.last)
    gather_asks seen walked key grows others kept = record {
      kept = keeps_then k.kept kept;
      above = λ j l.
          let x = k.above j (omega (arith, gathers_less, l)) in
          let ne : j ≡ n → ⊥ = λ e. omega (arith, e, l) in
          (x.0, grows.others j ne ∙ x.1, others.others j ne ∙ x.2);
      lazy = k.lazy;
      none = λ s. k.none (firsts_single ops n i keys group refl typed within is s);
    }

    -- where no key was seen anew, and an operator's members are those of its groups, this is so of all operators
    all_gathered : (seen : List (List (List KeyPart))) (walked : Walked) (key : List KeyPart) → GrowsAt c.seen seen n key → OthersGathered c.walked walked n → Keeps c (here seen walked)
        → AreGathered (here seen walked) ops n i keys group (groups_in walked n) → HasGathered (here seen walked) ops
    all_gathered seen walked key grows others kept good j x ks gr at of = at_one (cases_eq j n)
      where
        at_one : (j ≡ n) ⊎ (j ≡ n → ⊥) → AreGathered (here seen walked) ops j x ks gr (groups_in walked j)
        at_one (inr ne) = gathered_there kept ops late j x ks gr at of (ap length (grows.others j ne)) (others.others j ne)
        at_one (inl e) =
            let same : passes_on i (first_by_keys keys group) ≡ passes_on x (first_by_keys ks gr) = sym is ∙ ap (shape_at ops) (sym e) ∙ at in
            let p : i ≡ x = cc in
            let q : keys ≡ ks = cc in
            let r : group ≡ gr = cc in
            subst (λ (m : ℕ). AreGathered (here seen walked) ops m x ks gr (groups_in walked m)) (sym e)
            (subst (λ (z : ℕ). AreGathered (here seen walked) ops n z ks gr (groups_in walked n)) p
            (subst (λ (z : List Key). AreGathered (here seen walked) ops n i z gr (groups_in walked n)) q
            (subst (λ (z : Option (Piece × ℕ)). AreGathered (here seen walked) ops n i keys z (groups_in walked n)) r good)))

    module _ (d : Position) (f : Finds a c ops i (shape_at ops i) (ahead a ops i g.last) (number a ops i g.last) d) (key : List KeyPart) (parts : AllByRecursion (IsPart c) key)
        (val : IsTrue (is_told c ops) → map (part_value c) key ≡ key_values (docs_of c) keys (binding c ops i d)) (ones : SpotsAreOne)
        (seen : List (List (List KeyPart))) (walked : Walked) (grows : GrowsAt c.seen seen n key) (others : OthersGathered c.walked walked n) where
      -- the world that is left after a call for one more member
      abbrev now : World
      now = here seen walked

      -- where memory was wanting, the groups and the keys of the operator are as they were
      module _ (groups : groups_in walked n ≡ groups_in c.walked n) (same : slice_index_or seen n [] ≡ seen_at c n) where
        no_key : length (slice_index_or seen n []) ≡ length (seen_at c n) + 1 → (few ≡ length (seen_at c n)) × (was_seen key (take few (seen_at c n)) ≡ false)
        no_key e = absurd (omega (arith, e, ap length same))

        -- where memory was wanting, the members that were found are found still
        refused_stay : FoundStay c now
        refused_stay = found_others c seen walked n others (λ j place m e. ap (λ (z : Gathered). slice_get (slice_index_or z.groups j []) place) groups ∙ e)

        -- where memory was wanting, what every call keeps is kept
        refused_keeps : Keeps c now
        refused_keeps = kept_here ops n i keys group is a g.last few gathered_good.walked c bench k.kept d f late key parts val ones seen walked grows no_key others.reached refused_stay

        -- where memory was wanting, what is left is a sound bench
        pub refused_bench : IsBench now ops
        refused_bench =
            passed_bench ops n i keys group is a g.last few gathered_good.walked c bench k.kept d f late key parts val ones seen walked grows no_key others.reached refused_stay (others.lists ∙ late.walks)
            (all_gathered seen walked key grows others refused_keeps (gathered_there refused_keeps ops late n i keys group is by (ap length same) groups))

        -- where memory was wanting, what was asked is what the operator may ask
        pub refused_asks : Asks a now ops n (ahead a ops i g.last)
        refused_asks = gather_asks seen walked key grows others refused_keeps

      -- where the next binding of the input is put into its group as one more member
      module _ (goes : IsGatheredBy g (groups_in walked n) (seen_at c n) (slice_index_or seen n []) key d) (ongoing : g.ended ≡ false) where
        -- the binding that is one more member, as a position that is shared
        abbrev r : Rc Position Global
        r = goes.0

        -- keys that grew did so by a new one
        pushed : length (slice_index_or seen n []) ≡ length (seen_at c n) + 1 → (few ≡ length (seen_at c n)) × (was_seen key (take few (seen_at c n)) ≡ false)
        pushed e = elim goes.2.member [
          | inl x ↦ absurd (omega (arith, e, ap length x.1))
          | inr y ↦ (few_is, ap (was_seen key) (take_all (seen_at c n) few few_is) ∙ y.fresh)
        ]

        -- members that were found stay at their places
        gathered_members : MembersStay (groups_in c.walked n) (groups_in walked n)
        gathered_members = subst (λ (z : Gathered). MembersStay z (groups_in walked n)) (sym untouched.2) (gathered_stay g (groups_in walked n) (seen_at c n) (slice_index_or seen n []) key d goes)

        -- one more member leaves the members that were found of all operators at their places
        gathered_found : FoundStay c now
        gathered_found = found_others c seen walked n others gathered_members

        -- the first member of a new group is found at its place
        first_there : Begins g.groups (groups_in walked n).groups (seen_at c n) (slice_index_or seen n []) key r → IsFound now n (suc few) 0 d
        first_there y =
            let same : suc few - 1 ≡ few = omega arith in
            (r, ap (λ (z : ℕ). slice_get (slice_index_or (groups_in walked n).groups z []) 0) same ∙ ap (λ (z : List (Rc Position Global)). slice_get z 0) y.begun.here, goes.1)

        -- with one more member what every call keeps is kept
        pub gathered_keeps : Keeps c now
        gathered_keeps = kept_here ops n i keys group is a g.last few gathered_good.walked c bench k.kept d f late key parts val ones seen walked grows pushed others.reached gathered_found

        -- the input's next binding was found by the call, in the world that is left
        further : Finds a now ops i (shape_at ops i) (ahead a ops i g.last) (number a ops i g.last) r.value
        further = subst (Finds a now ops i (shape_at ops i) (ahead a ops i g.last) (number a ops i g.last)) (sym goes.1) (finds_then a c now gathered_keeps late f)

        -- a position that stands in a list is shared
        abbrev some : Rc (Unit {0}) Global
        some = record { ptr = r.ptr; value = tt }

        -- the key that was seen at a place is that of the group there
        place_key : (j : ℕ) (m : Rc Position Global) (ms : List (Rc Position Global)) → j < few → slice_index_or g.groups j [] ≡ m ∷ ms → IsTrue (is_told c ops)
            → map (part_value c) (slice_index_or (seen_at c n) j []) ≡ key_values (docs_of a) keys (binding a ops i m.value)
        place_key j m ms l e t =
            let first = subst (HasGroup a ops n i keys g.last j) e (gathered_good.groups j l) in
            let begun = subst (λ (z : Shape). IsIn a ops n z (First' some m.value (suc j))) is (first.0 some) in
            some_is _ _ (
            sym (last_taken (map (part_value c)) (seen_at c n) j [] (omega (arith, l, few_is)))
            ∙ ap (last_or None) (seen_kept a c k.kept ops bench n (suc j) begun.2)
            ∙ begun.8 (subst IsTrue (told-kept k.kept ops) t))

        -- the key of the new member is compared with a group's
        compares : (j : ℕ) (m : Rc Position Global) (ms : List (Rc Position Global)) → j < few → slice_index_or g.groups j [] ≡ m ∷ ms → IsTrue (is_told a ops)
            → same_values (key_values (docs_of a) keys (binding a ops i m.value)) (key_values (docs_of a) keys (binding now ops i r.value)) ≡ same_parts (slice_index_or (seen_at c n) j []) key
        compares j m ms l e t =
            let u = still_told (tells_on k.kept ops) t in
            let at : binding now ops i r.value ≡ binding c ops i d = ap (binding now ops i) goes.1 ∙ (cursors_kept c now gathered_keeps ops late i d f.cursor).binding_is in
            sym (
            same_parts-is ones c (slice_index_or (seen_at c n) j []) key (each_one (AllByRecursion (IsPart c)) (seen_at c n) j [] (omega (arith, l, few_is)) (late.parts n)) parts
            ∙ ap (λ (z : List KeyValue). same_values z (map (part_value c) key)) (place_key j m ms l e u)
            ∙ ap (same_values (key_values (docs_of a) keys (binding a ops i m.value))) (val u ∙ ap (λ (z : Documents). key_values z keys (binding c ops i d)) (docs_kept k.kept ops bench)
            ∙ ap (key_values (docs_of a) keys) (sym at)))

        -- a new member has the keys of a group, or other keys than all groups
        keyed : (v : Bool) (j : ℕ) → j < few → same_parts (slice_index_or (seen_at c n) j []) key ≡ v → HasKeys a now ops i keys r.value v (slice_index_or g.groups j [])
        keyed v j l e = by_list (slice_index_or g.groups j []) refl
          where
            by_list : (ls : List (Rc Position Global)) → slice_index_or g.groups j [] ≡ ls → HasKeys a now ops i keys r.value v ls
            by_list [] z = tt
            by_list (m ∷ ms) z = λ t. compares j m ms l z t ∙ e

        -- what is gathered with one more member, by its parts
        now_is : record { groups = (groups_in walked n).groups; last = r.value; ended = false } ≡ groups_in walked n
        now_is =
            ap (λ (z : Position). record { groups = (groups_in walked n).groups; last = z; ended = false }) (sym goes.2.last)
            ∙ ap (λ (z : Bool). record { groups = (groups_in walked n).groups; last = (groups_in walked n).last; ended = z }) (sym (goes.2.goes_on ∙ ongoing))

        -- a known group has one more member
        with_one_more : (x : (m : ℕ) × (slice_index_or seen n [] ≡ seen_at c n) × Joins g.groups (groups_in walked n).groups (seen_at c n) key r m) → AreGathered now ops n i keys group (record { groups = (groups_in walked n).groups; last = r.value; ended = false })
        with_one_more x =
            let j = x.2 in
            let low : x.0 < length (seen_at c n) = (let l = j.within in let e = few_is in omega (arith, l, e)) in
            let was : was_seen key (take few (seen_at c n)) ≡ true = sym (j.known few) ∙ below_is x.0 few j.within in
            gathered_joined a now ops bench (keeps_then k.kept gathered_keeps) n i keys group g gathered_good r further.cursor further.row further.falls further.found
            (groups_in walked n).groups x.0 j.within j.joined (ap length x.1 ∙ ap length untouched.1)
            (subst (λ (z : Position). IsPassed now ops n i keys group z few) (sym goes.1) (passed_kept c now ops late gathered_keeps n i keys group d few
            (passed_old ops n i keys group is a g.last few gathered_good.walked c bench k.kept d f late key parts val ones was)))
            (keyed true x.0 j.within (stands_there key (seen_at c n) x.0 low j.known))
            (λ y l ne. keyed false y l (stands_alone key (seen_at c n) x.0 low j.known j.alone y (omega (arith, l, few_is)) ne))

        -- where a new member begins a group, what is gathered with it holds members of groups
        with_a_new_one : (y : Begins g.groups (groups_in walked n).groups (seen_at c n) (slice_index_or seen n []) key r) → AreGathered now ops n i keys group (record { groups = (groups_in walked n).groups; last = r.value; ended = false })
        with_a_new_one y =
            let more : length (slice_index_or seen n []) ≡ suc (length (seen_at c n)) = (let e = ap length y.pushed in let l = length-append (seen_at c n) (key ∷ []) in omega (arith, e, l)) in
            let fresh : was_seen key (take few (seen_at c n)) ≡ false = ap (was_seen key) (take_all (seen_at c n) few few_is) ∙ y.fresh in
            let low : few < length (slice_index_or seen n []) = (let e = few_is in omega (arith, more, e)) in
            let new = λ (q : Rc (Unit {0}) Global).
            first_new ops n i keys group is a g.last few gathered_good.walked c bench k.kept d f late key parts val ones seen walked grows pushed others.reached gathered_found fresh low refl (λ z. first_there y) q in
            gathered_begun a now ops bench (keeps_then k.kept gathered_keeps) n i keys group g gathered_good r further.cursor further.row further.falls further.found
            (groups_in walked n).groups y.begun (more ∙ ap (λ (z : List (List KeyPart)). suc (length z)) untouched.1)
            (subst (λ (z : Position). IsPassed now ops n i keys group z (suc few)) (sym goes.1) (passed_first now ops n i keys group d (suc few) some (new some)))
            (λ j l. keyed false j l (nowhere key (seen_at c n) j (omega (arith, l, few_is)) y.fresh))
            (λ q. subst (λ (z : Position). IsOf now ops n (First' q z (suc few))) (sym goes.1) (subst (λ (z : Shape). IsIn now ops n z (First' q d (suc few))) (sym is) (new q)))
            (λ q t.
            subst (λ (z : Position). found (past_first few (events (docs_of now) ops n)) ≡ finds (binding now ops n (First' q z (suc few))) (ahead now ops n (First' q z (suc few)))) (sym goes.1)
            (subst (λ (z : Shape). found (past_first few (events (docs_of now) ops n)) ≡ finds (stands now ops n z (First' q d (suc few))).row (stands now ops n z (First' q d (suc few))).ahead) (sym is)
            (let u = subst IsTrue (told-kept (keeps_then k.kept gathered_keeps) ops) t in
            ap (λ (z : Documents). found (past_first few (events z ops n))) (docs_kept (keeps_then k.kept gathered_keeps) ops bench)
            ∙ (gathered_good.walked.past u).found
            ∙ first_next ops n i keys group is a g.last few gathered_good.walked c bench k.kept d f late key parts val ones seen walked grows pushed others.reached gathered_found fresh low q u)))

        -- the members that are found with one more member are those of groups
        now_good : AreGathered now ops n i keys group (groups_in walked n)
        now_good = subst (AreGathered now ops n i keys group) now_is (elim goes.2.member [ inl x ↦ with_one_more x | inr y ↦ with_a_new_one y ])

        -- with one more member what is left is a sound bench
        pub gathered_bench : IsBench now ops
        gathered_bench =
            passed_bench ops n i keys group is a g.last few gathered_good.walked c bench k.kept d f late key parts val ones seen walked grows pushed others.reached gathered_found (others.lists ∙ late.walks)
            (all_gathered seen walked key grows others gathered_keeps now_good)

        -- with one more member what was asked is what the operator may ask
        pub gathered_asks : Asks a now ops n (ahead a ops i g.last)
        gathered_asks = gather_asks seen walked key grows others gathered_keeps

        -- the next binding of the input is one more member of its group, in the world that is left
        pub gathered_further : IsFurther a now ops n i keys
        gathered_further = record {
          next = d;
          found = finds_then a c now gathered_keeps late f;
          key = key;
          parts = key_stays gathered_keeps key parts;
          value = λ t.
              let u = subst IsTrue (told-kept gathered_keeps ops) t in
              parts_kept c now gathered_keeps ops late key parts
              ∙ val u
              ∙ ap (λ (z : Documents). key_values z keys (binding c ops i d)) (sym (docs_kept gathered_keeps ops late))
              ∙ ap (key_values (docs_of now) keys) (sym (cursors_kept c now gathered_keeps ops late i d f.cursor).binding_is);
          goes = subst (λ (z : List (List KeyPart)). IsGatheredBy g (groups_in walked n) z (slice_index_or seen n []) key d) untouched.1 goes;
        }

    -- where nothing is after the last binding, the walk has ended
    module _ (walked : Walked) (others : OthersGathered c.walked walked n) (ended : groups_in walked n ≡ record { groups = (groups_in c.walked n).groups; last = (groups_in c.walked n).last; ended = true })
        (none : FindsNone (telling a ops) (ahead a ops i g.last)) where
      -- the world in which the walk over groups has ended
      abbrev left : World
      left = world c.view c.buffers c.seen c.memos walked

      -- where the walk has ended, members that were found stay at their places
      ended_keeps : Keeps c left
      ended_keeps = keeps_walked c walked (found_others c c.seen walked n others (λ j place m e. ap (λ (z : Gathered). slice_get (slice_index_or z.groups j []) place) ended ∙ e))

      -- where the walk has ended, no key was seen anew
      same_seen : GrowsAt c.seen c.seen n []
      same_seen = record { lists = refl; others = λ j ne. refl; here = inl refl }

      -- where the walk has ended, the members that were found are those of groups
      left_good : AreGathered left ops n i keys group (groups_in walked n)
      left_good =
          subst (AreGathered left ops n i keys group) (ap (λ (z : Gathered). record { groups = z.groups; last = z.last; ended = true }) (sym untouched.2) ∙ sym ended)
          (gathered_ended a left ops bench (keeps_then k.kept ended_keeps) n i keys group g (ap length untouched.1) none gathered_good)

      -- where the walk has ended, what is left is a sound bench
      pub ended_bench : IsBench left ops
      ended_bench = record {
        roots = late.roots;
        few = late.few;
        sources = late.sources;
        enough = late.enough;
        lists = late.lists;
        memos = late.memos;
        parts = λ j. keys_stay ended_keeps (seen_at c j) (late.parts j);
        seen = late.seen;
        members = same_members ended_keeps ops late refl;
        marks = ap (λ (z : Vec (Option Reached) Global). length z.items) others.reached ∙ late.marks;
        reached = reached_kept ended_keeps ops late others.reached;
        walks = others.lists ∙ late.walks;
        gathered = all_gathered c.seen walked [] same_seen others ended_keeps left_good;
      }

      -- where the walk has ended, what was asked is what the operator may ask
      pub ended_asks : Asks a left ops n (ahead a ops i g.last)
      ended_asks = gather_asks c.seen walked [] same_seen others ended_keeps

-- the input can step from the binding to which the walk over groups has come
pub gathers_can : {v : View} {g : Growing} {p : Fixed} (n i : ℕ) (keys : List Key) (made : Piece × ℕ) → IsFixed p → (within : n < length (operators p))
    → shape_at (operators p) n ≡ passes_on i (first_by_keys keys (Some made)) → gathers_by (operators p) (passes_on i (first_by_keys keys (Some made))) ≡ true
    → IsBench (world_of v g) (operators p) → (c : Position) → c ≡ (gathered_at (world_of v g) n).last → CanStep v g p i c
gathers_can {v} {g} {p} n i keys made fixed within is by bench c e = record {
  fixed = fixed;
  op = (let z = gathers_less (world_of v g) (world_of v g) (operators p) n i keys made fixed.typed within is by bench in omega (arith, z, within));
  bench = bench;
  cursor = subst (IsOf (world_of v g) (operators p) i) (sym e) (bench.gathered n i keys (Some made) is by).walked.cursor;
}

-- a call of the input, as one of the operator that gathers
pub gathers_ran : {S : Type 0} {view : S → View} {came_from : S → S → Type 0} {p : Fixed} {s t : S} {g h : Growing} {es : RowEvents} (n i : ℕ) (keys : List Key) (made : Piece × ℕ) → IsFixed p
    → (within : n < length (operators p)) → shape_at (operators p) n ≡ passes_on i (first_by_keys keys (Some made)) → Ran view came_from (operators p) i es s g t h
    → Ran view came_from (operators p) n es s g t h
gathers_ran {p} n i keys made fixed within is ran =
    ran_over ran (le_same _) (inputs_at (operators p) fixed.typed n within (passes_on i (first_by_keys keys (Some made))) is).0
    (λ z. firsts_single (operators p) n i keys (Some made) refl fixed.typed within is z)
