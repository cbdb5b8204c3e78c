-- Members of groups that were found stay at their places, and what comes after one of them.
use Rattle.std.proofs.Common.{◌≡◌, ◌<◌, ◌≤◌, ◌-◌, ◌⊎◌, inl, inr, ℕ, zero, suc, List, [], ◌∷◌, ◌++◌, Option, Some, None, length, refl, ◌∙◌, sym, ap, subst, arith}
use Rattle.std.specs.Prelude.{IsTrue, slice_get, slice_index_or}
use Rattle.std.specs.declared.alloc.Global.{Global}
use Rattle.std.specs.declared.rc.Rc.{Rc}
use Rattle.std.proofs.lemmas.Bool.{cases_eq}
use Rattle.std.proofs.lemmas.Option.{slice_get_within}
use Rattle.mix_base.proofs.Choices.{some_is}
use Rattle.mix_tree.specs.declared.var.Key.{Key}
use Rattle.plan_core.specs.declared.plan.Piece.{Piece}
use Rattle.plan_core.specs.Plans.{Operator}
use Rattle.plan_core.specs.Events.{same_group}
use Rattle.plan_core.specs.TolledRows.{TolledRow}
use Rattle.lazy_binding.specs.declared.key.KeyPart.{KeyPart}
use Rattle.lazy_binding.specs.declared.parts.Walked.{Walked}
use Rattle.lazy_binding.specs.declared.position.Position.{Position}
use Rattle.lazy_binding.specs.Cursors.{binding, ahead, IsOf, IsPast}
use Rattle.lazy_binding.specs.Gathered.{Gathered, at_place, IsJoined, IsBegun, IsGatheredBy, MembersStay}
use Rattle.lazy_binding.specs.Gathering.{IsNextMember, AreInGroup, HasGroup, AreGathered}
use Rattle.lazy_binding.specs.Growth.{OthersGathered, groups_in}
use Rattle.lazy_binding.specs.Keeping.{FoundStay}
use Rattle.lazy_binding.specs.World.{World, world, docs_of, is_told, gathered_at, member_at, IsFound}
use Rattle.lazy_binding.proofs.Gathering.{next_at, last_past}

-- HOW LISTS GROW

-- what stands at a place of a list stands there in a longer one
get-prefix : {X : Type 0} (xs ys : List X) (k : ℕ) (x : X) → slice_get xs k ≡ Some x → slice_get (xs ++ ys) k ≡ Some x
get-prefix [] ys k x e = cc
get-prefix (y ∷ xs) ys zero x e = e
get-prefix (y ∷ xs) ys (suc k) x e = get-prefix xs ys k x e

-- a place of a list of lists where something stands is one of it
inside : {X : Type 0} (xs : List (List X)) (j place : ℕ) (x : X) → slice_get (slice_index_or xs j []) place ≡ Some x → j < length xs
inside [] j place x e = cc
inside (y ∷ xs) zero place x e = omega arith
inside (y ∷ xs) (suc j) place x e = (let l = inside xs j place x e in omega (arith, l))

module _ (old new : List (List (Rc Position Global))) (r : Rc Position Global) (j place : ℕ) (m : Rc Position Global) (e : slice_get (slice_index_or old j []) place ≡ Some m) where
  -- one more member of a group leaves all members of all groups at their places
  joined_stays : (k : ℕ) → IsJoined old new k r → slice_get (slice_index_or new j []) place ≡ Some m
  joined_stays k h = by_place (cases_eq j k)
    where
      by_place : (j ≡ k) ⊎ (j ≡ k → ⊥) → slice_get (slice_index_or new j []) place ≡ Some m
      by_place (inl z) =
          ap (λ (x : ℕ). slice_get (slice_index_or new x []) place) z ∙ ap (λ (xs : List (Rc Position Global)). slice_get xs place) h.here
          ∙ get-prefix (slice_index_or old k []) (r ∷ []) place m (ap (λ (x : ℕ). slice_get (slice_index_or old x []) place) (sym z) ∙ e)
      by_place (inr ne) = ap (λ (xs : List (Rc Position Global)). slice_get xs place) (h.others j ne) ∙ e

  -- one more group leaves all members of the others at their places
  begun_stays : IsBegun old new r → slice_get (slice_index_or new j []) place ≡ Some m
  begun_stays h = ap (λ (xs : List (Rc Position Global)). slice_get xs place) (h.others j (inside old j place m e)) ∙ e

-- a walk that goes on by one binding leaves all members that were found at their places
pub gathered_stay : (old new : Gathered) (seen later : List (List KeyPart)) (key : List KeyPart) (at : Position) → IsGatheredBy old new seen later key at → MembersStay old new
gathered_stay old new seen later key at goes j place m e = elim goes.2.member [
  | inl x ↦ joined_stays old.groups new.groups goes.0 j place m e x.0 x.2.joined
  | inr y ↦ begun_stays old.groups new.groups goes.0 j place m e y.begun
]

module _ (w : World) (seen : List (List (List KeyPart))) (walked : Walked) where
  -- where the members of each operator stay, all that were found do
  pub found_stay : ((n : ℕ) → MembersStay (gathered_at w n) (groups_in walked n)) → FoundStay w (world w.view w.buffers seen w.memos walked)
  found_stay stay n number place c f = (f.0, stay n (number - 1) place f.0 f.1, f.2)

  -- where the groups of each operator are the same, all members that were found stay
  pub found_same : ((n : ℕ) → groups_in walked n ≡ gathered_at w n) → FoundStay w (world w.view w.buffers seen w.memos walked)
  found_same same = found_stay (λ n j place m e. ap (λ (z : Gathered). slice_get (slice_index_or z.groups j []) place) (same n) ∙ e)

  -- where the members of the groups of one operator stay and those of others are the same, all that were found stay
  pub found_others : (n : ℕ) → OthersGathered w.walked walked n → MembersStay (gathered_at w n) (groups_in walked n) → FoundStay w (world w.view w.buffers seen w.memos walked)
  found_others n others stay = found_stay (λ k j place m e. at k j place m e (cases_eq k n))
    where
      at : (k j place : ℕ) (m : Rc Position Global) → slice_get (slice_index_or (gathered_at w k).groups j []) place ≡ Some m → (k ≡ n) ⊎ (k ≡ n → ⊥)
          → slice_get (slice_index_or (groups_in walked k).groups j []) place ≡ Some m
      at k j place m e (inl z) =
          ap (λ (x : ℕ). slice_get (slice_index_or (groups_in walked x).groups j []) place) z
          ∙ stay j place m (ap (λ (x : ℕ). slice_get (slice_index_or (gathered_at w x).groups j []) place) (sym z) ∙ e)
      at k j place m e (inr ne) = ap (λ (z : Gathered). slice_get (slice_index_or z.groups j []) place) (others.others k ne) ∙ e

-- WHAT COMES AFTER A MEMBER

-- what stands at a place among members is the one that is counted from the first
place_is : (f : Rc Position Global) (ms : List (Rc Position Global)) (p : ℕ) (m : Rc Position Global) → slice_get (f ∷ ms) p ≡ Some m → at_place f.value ms p ≡ m.value
place_is f ms zero m e = ap (λ (x : Rc Position Global). x.value) (some_is f m e)
place_is f [] (suc p) m e = cc
place_is f (x ∷ ms) (suc p) m e = place_is x ms p m e

-- a place of a list at which nothing stands is none below its length
past_all : {X : Type 0} (xs : List X) (k : ℕ) → slice_get xs k ≡ None → length xs ≤ k
past_all [] k e = omega arith
past_all (x ∷ xs) zero e = cc
past_all (x ∷ xs) (suc k) e = (let l = past_all xs k e in omega (arith, l))

-- each member is a position of the input
each_of : (w : World) (ops : List Operator) (i : ℕ) (keys : List Key) (row : TolledRow) (last at : Position) (k : ℕ) (ms : List (Rc Position Global)) (p : ℕ) → p ≤ length ms
    → IsOf w ops i at → AreInGroup w ops i keys row last at k ms → IsOf w ops i (at_place at ms p)
each_of w ops i keys row last at k ms zero l of h = of
each_of w ops i keys row last at k [] (suc p) l of h = absurd (omega (arith, l))
each_of w ops i keys row last at k (m ∷ ms) (suc p) l of h = each_of w ops i keys row last m.value (suc k) ms p (omega (arith, l)) h.0.cursor h.1

module _ (w : World) (ops : List Operator) (n i : ℕ) (keys : List Key) (group : Option (Piece × ℕ)) (good : AreGathered w ops n i keys group (gathered_at w n))
    (number : ℕ) (first : Position) (begun : IsFound w n number 0 first) where
  -- the members of the group that were found
  abbrev members : List (Rc Position Global)
  members = slice_index_or (gathered_at w n).groups (number - 1) []

  -- the binding of the input up to which the walk came
  abbrev last : Position
  last = (gathered_at w n).last

  -- the members, by the first of them
  record Members : Type 0 where
    one : Rc Position Global
    others : List (Rc Position Global)
    are : members ≡ one ∷ others
    is : one.value ≡ first
    of : IsOf w ops i one.value
    come : AreInGroup w ops i keys (binding w ops i one.value) last one.value 1 others

  -- a group of which a member was found has members
  some_members : Members
  some_members = by_list members refl
    where
      by_list : (ls : List (Rc Position Global)) → members ≡ ls → Members
      by_list [] e = (let z : None ≡ Some begun.0 = sym (ap (λ (xs : List (Rc Position Global)). slice_get xs 0) e) ∙ begun.1 in cc)
      by_list (m ∷ ms) e =
          let has = subst (HasGroup w ops n i keys last (number - 1)) e (good.groups (number - 1) (inside (gathered_at w n).groups (number - 1) 0 begun.0 begun.1)) in
          record {
            one = m;
            others = ms;
            are = e;
            is = ap (λ (x : Rc Position Global). x.value) (some_is m begun.0 (sym (ap (λ (xs : List (Rc Position Global)). slice_get xs 0) e) ∙ begun.1)) ∙ begun.2;
            of = has.2;
            come = has.3;
          }

  module _ (at : Position) (place : ℕ) (here : IsFound w n number place at) where
    -- the first member of a group and the others, of which one was found
    abbrev ms : Members
    ms = some_members

    -- the member that was found stands at its place among the first one and the others
    among : slice_get (ms.one ∷ ms.others) place ≡ Some here.0
    among = sym (ap (λ (xs : List (Rc Position Global)). slice_get xs place) ms.are) ∙ here.1

    -- the member that was found at a place is the one at its place among the members of its group
    at_is : at_place ms.one.value ms.others place ≡ at
    at_is = place_is ms.one ms.others place here.0 among ∙ here.2

    -- the place of a member that was found is no greater than the number of members after the first
    low : place ≤ length ms.others
    low = (let l = slice_get_within (ms.one ∷ ms.others) place here.0 among in omega (arith, l))

    -- a member that was found is a position of the input
    pub found_of : IsOf w ops i at
    found_of = subst (IsOf w ops i) at_is (each_of w ops i keys (binding w ops i ms.one.value) last ms.one.value 1 ms.others place low ms.of ms.come)

    -- the member that was found at the next place stands at the next binding of its group
    pub found_next : (next : Position) → IsFound w n number (suc place) next → IsNextMember w ops i keys (binding w ops i first) at (suc place) next
    found_next next f =
        let e : slice_get (ms.one ∷ ms.others) (suc place) ≡ Some f.0 = sym (ap (λ (xs : List (Rc Position Global)). slice_get xs (suc place)) ms.are) ∙ f.1 in
        let l = slice_get_within (ms.one ∷ ms.others) (suc place) f.0 e in
        let there = place_is ms.one ms.others (suc place) f.0 e ∙ f.2 in
        subst (λ (z : Position). IsNextMember w ops i keys (binding w ops i z) at (suc place) next) ms.is
        (subst (λ (z : Position). IsNextMember w ops i keys (binding w ops i ms.one.value) z (suc place) next) at_is
        (subst (IsNextMember w ops i keys (binding w ops i ms.one.value) (at_place ms.one.value ms.others place) (suc place)) there
        (next_at w ops i keys (binding w ops i ms.one.value) last ms.one.value 1 ms.others place (suc place) (omega (arith, l)) (omega arith) ms.come)))

    -- where none was found at the next place, the group goes on after the binding that was walked to, at no greater cost
    pub found_past : member_at w n number (suc place) ≡ None → IsTrue (is_told w ops)
        → IsPast (same_group (docs_of w) keys (binding w ops i first) (ahead w ops i at)) (same_group (docs_of w) keys (binding w ops i first) (ahead w ops i last))
    found_past none t =
        let e : slice_get ms.others place ≡ None = sym (ap (λ (xs : List (Rc Position Global)). slice_get xs (suc place)) ms.are) ∙ none in
        let l = past_all ms.others place e in
        let same : length ms.others ≡ place = (let k = low in omega (arith, l, k)) in
        subst (λ (z : Position). IsPast (same_group (docs_of w) keys (binding w ops i z) (ahead w ops i at)) (same_group (docs_of w) keys (binding w ops i z) (ahead w ops i last))) ms.is
        (subst (λ (z : Position). IsPast (same_group (docs_of w) keys (binding w ops i ms.one.value) (ahead w ops i z)) (same_group (docs_of w) keys (binding w ops i ms.one.value) (ahead w ops i last)))
        (ap (at_place ms.one.value ms.others) same ∙ at_is)
        (last_past w ops i keys (binding w ops i ms.one.value) last ms.one.value 1 ms.others ms.come t))
