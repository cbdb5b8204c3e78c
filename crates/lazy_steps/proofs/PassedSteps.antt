-- The walk over the input of an operator that drops bindings by keys goes on to the next binding.
use Rattle.std.proofs.Common.{◌≡◌, ◌<◌, ◌≤◌, ◌+◌, ◌⊎◌, inl, inr, ℕ, suc, Bool, true, false, List, [], ◌∷◌, ◌++◌, Option, Some, None, length, take, drop, map, refl, ◌∙◌, sym, ap, subst, arith, length-append}
use Rattle.std.specs.Prelude.{IsTrue, slice_index_or}
use Rattle.std.specs.List.{AllByRecursion, last_or}
use Rattle.std.specs.declared.alloc.Global.{Global}
use Rattle.std.specs.declared.rc.Rc.{Rc}
use Rattle.std.proofs.lemmas.Bool.{cases_eq}
use Rattle.std.proofs.lemmas.List.{map-append}
use Rattle.mix_base.proofs.Choices.{some_is}
use Rattle.mix_base.specs.Events.{Find, finds, found, cost}
use Rattle.lazy_descend.proofs.Searches.{still_told}
use Rattle.mix_tree.specs.Nodes.{Documents}
use Rattle.mix_tree.specs.declared.var.Key.{Key}
use Rattle.plan_core.specs.declared.plan.Piece.{Piece}
use Rattle.plan_core.specs.Plans.{Operator}
use Rattle.plan_core.specs.Shapes.{first_by_keys, shape_at, passes_on}
use Rattle.plan_core.specs.Fronts.{stops_over, shape_apart}
use Rattle.plan_core.specs.TolledRows.{TolledRow, KeyValue, key_values, same_values, is_seen}
use Rattle.plan_core.specs.Events.{RowEvents, events, distinct, keys_seen, kept_row}
use Rattle.plan_core.proofs.Distinct.{IsNew, distinct_new, IsOld, distinct_old}
use Rattle.plan_core.proofs.Found.{found-only_yes, found-only_no}
use Rattle.tree_buffer.specs.Law.{SpotsAreOne}
use Rattle.std.specs.declared.vec.Vec.{Vec}
use Rattle.lazy_binding.specs.declared.key.KeyPart.{KeyPart}
use Rattle.lazy_binding.specs.declared.parts.Walked.{Walked}
use Rattle.lazy_binding.specs.declared.position.Reached.{Reached}
use Rattle.lazy_binding.specs.declared.position.Position.{Position, First'}
use Rattle.lazy_binding.specs.Bench.{drops_by, IsBench, HasGathered}
use Rattle.lazy_binding.specs.Gathering.{IsPassed}
use Rattle.lazy_binding.specs.World.{World, world, docs_of, is_told, seen_at, part_value, seen_values, IsPart, IsFound}
use Rattle.lazy_binding.specs.Cursors.{NoneBefore, IsFirstBy, up_to, binding, ahead, number, size, stands, IsIn, IsPast, past_first, after_found, gathers_by}
use Rattle.lazy_binding.specs.Keys.{was_seen}
use Rattle.lazy_binding.specs.Keeping.{Keeps, FoundStay, Stays}
use Rattle.lazy_steps.specs.Steps.{Finds, GrowsAt}
use Rattle.lazy_binding.proofs.Members.{same_members}
use Rattle.lazy_binding.proofs.Buffers.{keys_stay, reached_kept}
use Rattle.lazy_binding.proofs.FirstLists.{take_map, take_cons, drop_cons, take_take, next_taken, all_take, all_push}
use Rattle.lazy_binding.proofs.FirstMembers.{same_values-refl, other_key, other_last, none_before_kept, first_by_kept}
use Rattle.lazy_steps.proofs.Goes.{tells_on}
use Rattle.lazy_steps.proofs.GrowingKeys.{grows_keeps}
use Rattle.lazy_binding.proofs.Keep.{told-kept, docs_kept}
use Rattle.lazy_binding.proofs.SameKeys.{was_seen-is}
use Rattle.lazy_binding.proofs.Stay.{seen_kept, cursors_kept, size_kept}

-- the last element of a list with one more at its end is that one
last_push : {X : Type 0} (xs : List X) (x : X) → last_or None (xs ++ x ∷ []) ≡ Some x
last_push [] x = refl
last_push (y ∷ []) x = refl
last_push (y ∷ z ∷ xs) x = last_push (z ∷ xs) x

module _ (ops : List Operator) (n i : ℕ) (keys : List Key) (group : Option (Piece × ℕ)) where
  -- the events of an operator that keeps first bindings, over events of its input and keys seen before them
  abbrev pub first_events : Documents → List (List KeyValue) → RowEvents → RowEvents
  first_events docs seen es = distinct docs keys (kept_row docs keys (stops_over ops i keys) group) seen es

  -- the keys that an operator that keeps first bindings has seen over events of its input
  abbrev next_keys : Documents → List (List KeyValue) → RowEvents → List (List KeyValue)
  next_keys docs seen es = keys_seen docs keys seen es

  -- a binding of a new key is the first of an operator that keeps first bindings, and its later events follow
  abbrev first_found : Documents → List (List KeyValue) → TolledRow → RowEvents → Find TolledRow
  first_found docs seen row es = finds (kept_row docs keys (stops_over ops i keys) group row es) (first_events docs seen es)

  module _ (is : shape_at ops n ≡ passes_on i (first_by_keys keys group)) (a : World) (c : Position) (few : ℕ) (h : IsPassed a ops n i keys group c few) where
    module _ (b : World) (bench : IsBench a ops) (kept : Keeps a b) (d : Position) (f : Finds a b ops i (shape_at ops i) (ahead a ops i c) (number a ops i c) d)
        (late : IsBench b ops) (key : List KeyPart) (parts : AllByRecursion (IsPart b) key)
        (val : IsTrue (is_told b ops) → map (part_value b) key ≡ key_values (docs_of b) keys (binding b ops i d)) (ones : SpotsAreOne) where
      -- an operator of this shape keeps the first bindings of its input by these keys
      drops_is : drops_by (shape_at ops n) ≡ Some (i, keys)
      drops_is = ap drops_by is

      -- the documents that a bench tells are the same after a call
      same_docs : docs_of b ≡ docs_of a
      same_docs = docs_kept kept ops bench

      -- the keys that were seen up to a position compare the same after a call
      same_seen : up_to b n few ≡ up_to a n few
      same_seen = seen_kept a b kept ops bench n few h.within

      -- where all is told after the call, all was told before it
      was_told : IsTrue (is_told b ops) → IsTrue (is_told a ops)
      was_told t = subst IsTrue (told-kept kept ops) t

      -- the values of the key of the input's next binding are those of the key's parts
      key_is : IsTrue (is_told b ops) → map (part_value b) key ≡ key_values (docs_of a) keys (binding b ops i d)
      key_is t = val t ∙ ap (λ (z : Documents). key_values z keys (binding b ops i d)) same_docs

      -- whether the key of the input's next binding is among those that were seen up to a position
      same_test : IsTrue (is_told a ops) → is_seen (key_values (docs_of a) keys (binding b ops i d)) (up_to a n few) ≡ was_seen key (take few (seen_at b n))
      same_test t =
          ap (λ (z : List KeyValue). is_seen z (up_to a n few)) (sym (key_is (still_told (tells_on kept ops) t)))
          ∙ ap (is_seen (map (part_value b) key)) (sym same_seen)
          ∙ sym (was_seen-is ones b key (take few (seen_at b n)) parts (all_take (AllByRecursion (IsPart b)) (seen_at b n) few (late.parts n)))

      -- the operator's events after the input's next binding, where no key is new
      pub later_same : first_events (docs_of b) (up_to b n few) (ahead b ops i d) ≡ first_events (docs_of a) (up_to a n few) (ahead b ops i d)
      later_same =
          ap (λ (z : Documents). first_events z (up_to b n few) (ahead b ops i d)) same_docs
          ∙ ap (λ (z : List (List KeyValue)). first_events (docs_of a) z (ahead b ops i d)) same_seen

      -- where its key was seen, the input's next binding brings no binding of the operator
      pub old : IsTrue (is_told a ops) → was_seen key (take few (seen_at b n)) ≡ true
          → IsOld (docs_of a) keys (kept_row (docs_of a) keys (stops_over ops i keys) group) (up_to a n few) (ahead a ops i c) (ahead b ops i d)
      old t m =
          distinct_old (docs_of a) keys (kept_row (docs_of a) keys (stops_over ops i keys) group) (up_to a n few) (ahead a ops i c)
          (binding b ops i d) (ahead b ops i d) (f.found t) (same_test t ∙ m)

      -- where its key was not seen, the input's next binding brings one of the operator
      fresh : IsTrue (is_told a ops) → was_seen key (take few (seen_at b n)) ≡ false
          → IsNew (docs_of a) keys (kept_row (docs_of a) keys (stops_over ops i keys) group) (up_to a n few) (ahead a ops i c) (binding b ops i d) (ahead b ops i d)
      fresh t m =
          distinct_new (docs_of a) keys (kept_row (docs_of a) keys (stops_over ops i keys) group) (up_to a n few) (ahead a ops i c)
          (binding b ops i d) (ahead b ops i d) (f.found t) (same_test t ∙ m)

      -- whether a binding has the keys of another binding
      abbrev has_keys : TolledRow → TolledRow → Bool
      has_keys row r = same_values (key_values (docs_of a) keys row) (key_values (docs_of a) keys r)

      -- no binding up to one whose key was seen has keys that were not seen
      still_before : IsTrue (is_told a ops) → was_seen key (take few (seen_at b n)) ≡ true → NoneBefore (docs_of a) keys (events (docs_of a) ops i) (up_to a n few) (ahead b ops i d)
      still_before t m = λ row e.
          h.before t row e
          ∙ found-only_no (has_keys row) (ahead a ops i c) (binding b ops i d) (ahead b ops i d) (f.found t)
          (other_key (key_values (docs_of a) keys row) (key_values (docs_of a) keys (binding b ops i d)) (up_to a n few) (same_test t ∙ m) e)

      -- no binding up to one whose key was not seen has keys other than those seen and its own
      also_before : IsTrue (is_told a ops)
          → NoneBefore (docs_of a) keys (events (docs_of a) ops i) (up_to a n few ++ key_values (docs_of a) keys (binding b ops i d) ∷ []) (ahead b ops i d)
      also_before t = λ row e.
          let o = other_last (key_values (docs_of a) keys row) (key_values (docs_of a) keys (binding b ops i d)) (up_to a n few) e in
          h.before t row o.0 ∙ found-only_no (has_keys row) (ahead a ops i c) (binding b ops i d) (ahead b ops i d) (f.found t) o.1

      -- a binding whose key was not seen is the first one with that key
      is_first : IsTrue (is_told a ops) → was_seen key (take few (seen_at b n)) ≡ false → IsFirstBy (docs_of a) keys (events (docs_of a) ops i) (binding b ops i d) (ahead b ops i d)
      is_first t m =
          h.before t (binding b ops i d) (same_test t ∙ m)
          ∙ found-only_yes (has_keys (binding b ops i d)) (ahead a ops i c) (binding b ops i d) (ahead b ops i d) (f.found t) (same_values-refl (key_values (docs_of a) keys (binding b ops i d)))

      -- a call of the input leaves the size of the input as it was
      pub same_size : size b ops i ≡ size a ops i
      same_size = size_kept a b kept ops bench i

      -- after a binding whose key was seen the operator's next binding is the same, and costs no more
      past_old : IsTrue (is_told a ops) → was_seen key (take few (seen_at b n)) ≡ true
          → IsPast (past_first few (events (docs_of b) ops n)) (first_events (docs_of b) (up_to b n few) (ahead b ops i d))
      past_old t m =
          let past = h.past t in
          let docs = ap (λ (z : Documents). past_first few (events z ops n)) same_docs in
          let l = ap cost docs in
          let o = ap cost later_same in
          record {
            found = ap found docs ∙ past.found ∙ (old t m).is_found ∙ sym (ap found later_same);
            costs = omega (arith, past.costs, (old t m).costs, l, o);
          }

      -- where its key was seen, the walk over the input has passed the input's next binding
      pub passed_old : was_seen key (take few (seen_at b n)) ≡ true → IsPassed b ops n i keys group d few
      passed_old m = record {
        cursor = f.cursor;
        few = (let l = h.few in let o = f.falls in let z = same_size in omega (arith, l, o, z));
        within = (let l = h.within in let j = kept.longer n in omega (arith, l, j));
        seen = λ t.
            ap (λ (z : Documents). next_keys z (up_to b n few) (ahead b ops i d)) same_docs
            ∙ ap (λ (z : List (List KeyValue)). next_keys (docs_of a) z (ahead b ops i d)) same_seen
            ∙ sym (old (was_told t) m).seen
            ∙ h.seen (was_told t)
            ∙ ap (λ (z : Documents). drop few (next_keys z [] (events z ops i))) (sym same_docs);
        before = λ t. none_before_kept ops i keys same_docs same_seen {l = ahead b ops i d} refl (still_before (was_told t) m);
        past = λ t. past_old (was_told t) m;
      }

      -- the keys after those that were seen up to the position begin with a new one
      next_key : IsTrue (is_told b ops) → was_seen key (take few (seen_at b n)) ≡ false
          → drop few (next_keys (docs_of b) [] (events (docs_of b) ops i))
          ≡ map (part_value b) key ∷ next_keys (docs_of b) (up_to b n few ++ map (part_value b) key ∷ []) (ahead b ops i d)
      next_key t m =
          ap (λ (z : Documents). drop few (next_keys z [] (events z ops i))) same_docs
          ∙ sym (h.seen (was_told t))
          ∙ (fresh (was_told t) m).seen
          ∙ ap (λ (z : List KeyValue). z ∷ next_keys (docs_of a) (up_to a n few ++ z ∷ []) (ahead b ops i d)) (sym (key_is t))
          ∙ ap (λ (z : Documents). map (part_value b) key ∷ next_keys z (up_to a n few ++ map (part_value b) key ∷ []) (ahead b ops i d)) (sym same_docs)
          ∙ ap (λ (z : List (List KeyValue)). map (part_value b) key ∷ next_keys (docs_of b) (z ++ map (part_value b) key ∷ []) (ahead b ops i d)) (sym same_seen)

      -- the keys that were seen are the first ones
      first_seen : IsTrue (is_told b ops) → seen_values b (seen_at b n) ≡ take (length (seen_at b n)) (next_keys (docs_of b) [] (events (docs_of b) ops i))
      first_seen t = late.seen n i keys drops_is t

      module _ (seen : List (List (List KeyPart))) (walked : Walked) (g : GrowsAt b.seen seen n key)
          (pushed : length (slice_index_or seen n []) ≡ length (seen_at b n) + 1 → (few ≡ length (seen_at b n)) × (was_seen key (take few (seen_at b n)) ≡ false))
          (reached : walked.reached ≡ b.walked.reached) (found_there : FoundStay b (world b.view b.buffers seen b.memos walked)) where
        -- the world in which the keys that were seen may have grown, and groups were walked on
        abbrev here : World
        here = world b.view b.buffers seen b.memos walked

        -- what a list of keys keeps that may have grown by one
        pub kept_here : Keeps b here
        kept_here = grows_keeps b seen walked n key g found_there

        -- a list of keys that grew did so by a new key at the end of those seen up to the position
        at_end : slice_index_or seen n [] ≡ seen_at b n ++ key ∷ [] → (few ≡ length (seen_at b n)) × (was_seen key (take few (seen_at b n)) ≡ false)
        at_end y = pushed (let l = length-append (seen_at b n) (key ∷ []) in let j = ap length y in omega (arith, l, j))

        -- the keys that are seen now are the first ones
        list_here : IsTrue (is_told b ops)
            → seen_values b (slice_index_or seen n []) ≡ take (length (slice_index_or seen n [])) (next_keys (docs_of b) [] (events (docs_of b) ops i))
        list_here t = elim g.here [
          | inl y ↦ subst (λ (z : List (List KeyPart)). seen_values b z ≡ take (length z) (next_keys (docs_of b) [] (events (docs_of b) ops i))) (sym y) (first_seen t)
          | inr y ↦ (
              let u = at_end y in
              subst (λ (z : List (List KeyPart)). seen_values b z ≡ take (length z) (next_keys (docs_of b) [] (events (docs_of b) ops i))) (sym y)
              (map-append (map (part_value b)) (seen_at b n) (key ∷ [])
              ∙ next_taken (seen_values b (seen_at b n)) (next_keys (docs_of b) [] (events (docs_of b) ops i)) (length (seen_at b n)) (length (seen_at b n ++ key ∷ []))
              (map (part_value b) key) (next_keys (docs_of b) (up_to b n few ++ map (part_value b) key ∷ []) (ahead b ops i d)) (first_seen t)
              (ap (λ (m : ℕ). drop m (next_keys (docs_of b) [] (events (docs_of b) ops i))) (sym u.0) ∙ next_key t u.1)
              (let l = length-append (seen_at b n) (key ∷ []) in omega (arith, l))))
        ]

        -- each node in the keys that were seen is one of its source's buffer
        parts_here : AllByRecursion (AllByRecursion (IsPart b)) (slice_index_or seen n [])
        parts_here = elim g.here [
          | inl y ↦ subst (AllByRecursion (AllByRecursion (IsPart b))) (sym y) (late.parts n)
          | inr y ↦ subst (AllByRecursion (AllByRecursion (IsPart b))) (sym y) (all_push (AllByRecursion (IsPart b)) (seen_at b n) key (late.parts n) parts)
        ]

        -- noting a key leaves a sound bench
        pub passed_bench : length walked.gathered.items ≡ length ops → HasGathered here ops → IsBench here ops
        passed_bench walks gathered = record {
          roots = late.roots;
          few = late.few;
          sources = late.sources;
          enough = late.enough;
          lists = g.lists ∙ late.lists;
          memos = late.memos;
          parts = λ j. keys_stay kept_here (slice_index_or seen j []) (parts_at j (cases_eq j n));
          seen = λ j m ks by t. seen_there j m ks by t (cases_eq j n);
          members = same_members kept_here ops late refl;
          marks = ap (λ (z : Vec (Option Reached) Global). length z.items) reached ∙ late.marks;
          reached = reached_kept kept_here ops late reached;
          walks = walks;
          gathered = gathered;
        }
          where
            parts_at : (j : ℕ) → (j ≡ n) ⊎ (j ≡ n → ⊥) → AllByRecursion (AllByRecursion (IsPart b)) (slice_index_or seen j [])
            parts_at j (inl z) = subst (λ (m : ℕ). AllByRecursion (AllByRecursion (IsPart b)) (slice_index_or seen m [])) (sym z) parts_here
            parts_at j (inr ne) = subst (AllByRecursion (AllByRecursion (IsPart b))) (sym (g.others j ne)) (late.parts j)

            seen_there : (j m : ℕ) (ks : List Key) → drops_by (shape_at ops j) ≡ Some (m, ks) → IsTrue (is_told b ops) → (j ≡ n) ⊎ (j ≡ n → ⊥)
                → seen_values b (slice_index_or seen j []) ≡ take (length (slice_index_or seen j [])) (keys_seen (docs_of b) ks [] (events (docs_of b) ops m))
            seen_there j m ks by t (inl z) =
                let same : (i, keys) ≡ (m, ks) = some_is (i, keys) (m, ks) (sym drops_is ∙ ap (λ (u : ℕ). drops_by (shape_at ops u)) (sym z) ∙ by) in
                subst (λ (u : ℕ). seen_values b (slice_index_or seen u []) ≡ take (length (slice_index_or seen u [])) (keys_seen (docs_of b) ks [] (events (docs_of b) ops m))) (sym z)
                (subst (λ (p : ℕ × List Key). seen_values b (slice_index_or seen n []) ≡ take (length (slice_index_or seen n [])) (keys_seen (docs_of b) p.1 [] (events (docs_of b) ops p.0))) same (list_here t))
            seen_there j m ks by t (inr ne) =
                subst (λ (y : List (List KeyPart)). seen_values b y ≡ take (length y) (keys_seen (docs_of b) ks [] (events (docs_of b) ops m))) (sym (g.others j ne)) (late.seen j m ks by t)

        module _ (m : was_seen key (take few (seen_at b n)) ≡ false) (l : few < length (slice_index_or seen n [])) where
          -- the first keys that are seen now are those that were seen, and the new one
          list_head : IsTrue (is_told b ops) → seen_values b (take (suc few) (slice_index_or seen n [])) ≡ up_to b n few ++ map (part_value b) key ∷ []
          list_head t =
              sym (take_map (map (part_value b)) (slice_index_or seen n []) (suc few))
              ∙ ap (take (suc few)) (list_here t)
              ∙ take_take (suc few) (length (slice_index_or seen n [])) (next_keys (docs_of b) [] (events (docs_of b) ops i)) l
              ∙ take_cons few (next_keys (docs_of b) [] (events (docs_of b) ops i)) (map (part_value b) key)
              (next_keys (docs_of b) (up_to b n few ++ map (part_value b) key ∷ []) (ahead b ops i d)) (next_key t m)
              ∙ ap (λ (z : List (List KeyValue)). z ++ map (part_value b) key ∷ []) (sym up_is)
            where
              up_is : up_to b n few ≡ take few (next_keys (docs_of b) [] (events (docs_of b) ops i))
              up_is =
                  sym (take_map (map (part_value b)) (seen_at b n) few)
                  ∙ ap (take few) (first_seen t)
                  ∙ take_take few (length (seen_at b n)) (next_keys (docs_of b) [] (events (docs_of b) ops i)) (let j = h.within in let i = kept.longer n in omega (arith, j, i))

          -- the input's next binding stays where a key is noted
          stay : Stays b here ops i d
          stay = cursors_kept b here kept_here ops late i d f.cursor

          -- noting a key leaves the size of the input
          pub size_here : size here ops i ≡ size a ops i
          size_here = size_kept b here kept_here ops late i ∙ same_size

          -- no more keys were seen than there are bindings of the input
          pub few_here : number here ops i d + suc few ≤ size here ops i
          few_here =
              let j = h.few in
              let g = f.falls in
              let o = stay.number_is in
              let z = size_here in
              omega (arith, j, g, o, z)

          -- a binding of a new key is the operator's next one
          pub first_next : (q : Rc (Unit {0}) Global) → IsTrue (is_told a ops) → found (first_events (docs_of a) (up_to a n few) (ahead a ops i c))
              ≡ finds (stands here ops n (passes_on i (first_by_keys keys group)) (First' q d (suc few))).row (stands here ops n (passes_on i (first_by_keys keys group)) (First' q d (suc few))).ahead
          first_next q t =
              let u = still_told (tells_on kept ops) t in
              (fresh t m).is_found
              ∙ ap (λ (z : List KeyValue). first_found (docs_of a) (up_to a n few ++ z ∷ []) (binding b ops i d) (ahead b ops i d)) (sym (key_is u))
              ∙ ap (λ (z : List (List KeyValue)). first_found (docs_of a) (z ++ map (part_value b) key ∷ []) (binding b ops i d) (ahead b ops i d)) (sym same_seen)
              ∙ ap (λ (z : Documents). first_found z (up_to b n few ++ map (part_value b) key ∷ []) (binding b ops i d) (ahead b ops i d)) (sym same_docs)
              ∙ ap (λ (z : List (List KeyValue)). first_found (docs_of b) z (binding b ops i d) (ahead b ops i d)) (sym (list_head u))
              ∙ ap (λ (z : TolledRow). first_found (docs_of b) (seen_values b (take (suc few) (slice_index_or seen n []))) z (ahead b ops i d)) (sym stay.binding_is)
              ∙ ap (first_found (docs_of b) (seen_values b (take (suc few) (slice_index_or seen n []))) (binding here ops i d)) (sym stay.ahead_is)

          -- an operator that keeps first bindings may stand at a binding of a new key
          pub first_new : shape_apart ops (passes_on i (first_by_keys keys group)) ≡ false → (gathers_by ops (passes_on i (first_by_keys keys group)) ≡ true → IsFound here n (suc few) 0 d)
              → (q : _) → IsIn here ops n (passes_on i (first_by_keys keys group)) (First' q d (suc few))
          first_new some gathered q = (
            stay.cursor,
            f.row,
            l,
            λ t.
                ap (λ (z : List (List KeyValue)). next_keys (docs_of b) z (ahead here ops i d)) (list_head t)
                ∙ ap (next_keys (docs_of b) (up_to b n few ++ map (part_value b) key ∷ [])) stay.ahead_is
                ∙ sym (drop_cons few (next_keys (docs_of b) [] (events (docs_of b) ops i)) (map (part_value b) key)
                (next_keys (docs_of b) (up_to b n few ++ map (part_value b) key ∷ []) (ahead b ops i d)) (next_key t m)),
            λ t. none_before_kept ops i keys same_docs
                (list_head t ∙ ap (λ (z : List (List KeyValue)). z ++ map (part_value b) key ∷ []) same_seen ∙ ap (λ (z : List KeyValue). up_to a n few ++ z ∷ []) (key_is t))
                stay.ahead_is (also_before (was_told t)),
            λ t. first_by_kept ops i keys same_docs stay.binding_is stay.ahead_is (is_first (was_told t) m),
            omega arith,
            few_here,
            λ t.
                ap (last_or None) (list_head t) ∙ last_push (up_to b n few) (map (part_value b) key)
                ∙ ap Some (val t ∙ ap (key_values (docs_of b) keys) (sym stay.binding_is)),
            λ t. sym (
                ap (λ (z : Documents). after_found (found (past_first few (events z ops n)))) same_docs
                ∙ ap after_found ((h.past (was_told t)).found ∙ first_next q (was_told t))),
            some,
            gathered,
          )
