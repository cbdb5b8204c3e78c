-- Expansions of which by some keys the first bindings alone count.
use Rattle.std.proofs.Common.{◌≡◌, true, false, cond, List, [], ◌∷◌, ◌++◌, refl, sym, ap, subst, ◌∙◌, map, append_assoc}
use Rattle.std.specs.Prelude.{Bool, ◌&&◌, ◌||◌}
use Rattle.std.proofs.lemmas.List.Folds.{list_any-append}
use Rattle.mix_base.specs.Events.{skip, bind}
use Rattle.mix_base.proofs.Lists.{append_nil}
use Rattle.mix_tree.specs.Nodes.{Documents}
use Rattle.mix_tree.specs.declared.var.Key.{Key}
use Rattle.mix_tree.proofs.SameKeys.{same_node-true}
use Rattle.std.proofs.lemmas.Slice.Eq.{bytes_eq-Decides}
use Rattle.plan_core.specs.Events.{RowEvents, expand, distinct, keys_seen}
use Rattle.plan_core.specs.TolledRows.{TolledRow, KeyValue, by_node, by_label, key_value, key_values, same_value, same_values, is_seen, row_node}
use Rattle.plan_core.specs.Beside.{Differ, AreApart}
use Rattle.browse_profile.specs.Costs.{Costs, ends, stop, more, followed, costs_of}
use Rattle.browse_profile.specs.Replacing.{IsReplaced}
use Rattle.browse_profile.specs.Costs.{first_only}
use Rattle.browse_profile.specs.Costs.{total}
use Rattle.plan_core.specs.Beside.{EachBinding}
use Rattle.plan_core.proofs.KeyValues.{same_after, map_more}
use Rattle.browse_class.proofs.EventFits.{more_replaced}
use Rattle.browse_profile.proofs.Totals.{total-more, first_only-more}
use Rattle.browse_profile.proofs.Following.{more-zero, more-followed}

-- values after the same values are seen where they are seen by themselves
seen_after : (k x : List KeyValue) (si : List (List KeyValue)) → is_seen (k ++ x) (map (λ s. k ++ s) si) ≡ is_seen x si
seen_after k x [] = refl
seen_after k x (s ∷ si) = ap (λ (b : Bool). b || is_seen (k ++ x) (map (λ s. k ++ s) si)) (same_after k s x) ∙ ap (λ (b : Bool). same_values s x || b) (seen_after k x si)

-- one more put after values, each after the same ones, is one more after those same ones
map_snoc : (k x : List KeyValue) (si : List (List KeyValue)) → map (λ s. k ++ s) (si ++ x ∷ []) ≡ map (λ s. k ++ s) si ++ (k ++ x) ∷ []
map_snoc k x [] = refl
map_snoc k x (s ∷ si) = ap (λ (z : List (List KeyValue)). (k ++ s) ∷ z) (map_snoc k x si)

-- two values that a key compares as the same are equal
value_same : (x y : KeyValue) → same_value x y ≡ true → x ≡ y
value_same (by_node m) (by_node n) h = ap by_node (same_node-true m n h)
value_same (by_node m) (by_label l) h = cc
value_same (by_label l) (by_node n) h = cc
value_same (by_label l) (by_label m) h = ap by_label ((bytes_eq-Decides l m).0 h)

-- lists of key values that compare as the same are the same
pub values_same : (xs ys : List KeyValue) → same_values xs ys ≡ true → xs ≡ ys
values_same [] [] h = refl
values_same [] (y ∷ ys) h = cc
values_same (x ∷ xs) [] h = cc
values_same (x ∷ xs) (y ∷ ys) h =
    let a = value_same x y (and_left (same_value x y) (same_values xs ys) h) in
    let b = values_same xs ys (and_right (same_value x y) (same_values xs ys) h) in
    rw (a, b) refl
  where
    and_left : (a b : Bool) → (a && b) ≡ true → a ≡ true
    and_left true b h = refl
    and_left false b h = h

    and_right : (a b : Bool) → (a && b) ≡ true → b ≡ true
    and_right true b h = h
    and_right false b h = cc

-- values that compare as the same are seen alike
seen_same : (x y : List KeyValue) → same_values x y ≡ true → (seen : List (List KeyValue)) → is_seen x seen ≡ true → is_seen y seen ≡ true
seen_same x y s seen t = subst (λ (z : List KeyValue). is_seen z seen ≡ true) (values_same x y s) t

module _ (docs : Documents) (d e : List Key) (make : TolledRow → RowEvents → TolledRow) where
  -- nothing with these values is seen
  abbrev IsFree : List KeyValue → List (List KeyValue) → Type 0
  IsFree k seen = (x : List KeyValue) → is_seen (k ++ x) seen ≡ false

  -- where nothing with some first values was seen, values after those are seen only among what was put after them
  seen_inside : (k x : List KeyValue) (seen si : List (List KeyValue)) → IsFree k seen → is_seen (k ++ x) (seen ++ map (λ s. k ++ s) si) ≡ is_seen x si
  seen_inside k x seen si free =
      list_any-append (λ s. same_values s (k ++ x)) seen (map (λ s. k ++ s) si)
      ∙ ap (λ (b : Bool). b || is_seen (k ++ x) (map (λ s. k ++ s) si)) (free x)
      ∙ seen_after k x si

  -- first bindings by keys go through events of the same first values, and then through what follows, as by themselves
  inside : (k : List KeyValue) (seen si : List (List KeyValue)) (xs ys : RowEvents) → IsFree k seen → EachBinding (λ a. key_values docs d a ≡ k) xs
      → costs_of (distinct docs (d ++ e) make (seen ++ map (λ s. k ++ s) si) (xs ++ ys))
      ≡ followed (costs_of (distinct docs e make si xs)) (costs_of (distinct docs (d ++ e) make (seen ++ map (λ s. k ++ s) (si ++ keys_seen docs e si xs)) ys))
  inside k seen si [] ys free h =
      ap (λ (z : List (List KeyValue)). costs_of (distinct docs (d ++ e) make (seen ++ map (λ s. k ++ s) z) ys)) (sym (append_nil si))
      ∙ sym (more-zero (costs_of (distinct docs (d ++ e) make (seen ++ map (λ s. k ++ s) (si ++ [])) ys)))
  inside k seen si (skip ∷ xs) ys free h =
      ap (more 1) (inside k seen si xs ys free h)
      ∙ more-followed 1 (costs_of (distinct docs e make si xs)) (costs_of (distinct docs (d ++ e) make (seen ++ map (λ s. k ++ s) (si ++ keys_seen docs e si xs)) ys))
  inside k seen si (bind a ∷ xs) ys free h =
      let value : key_values docs (d ++ e) a ≡ k ++ key_values docs e a = map_more (key_value docs (row_node a)) d e ∙ ap (λ (z : List KeyValue). z ++ key_values docs e a) h.0 in
      let seen_is : is_seen (key_values docs (d ++ e) a) (seen ++ map (λ s. k ++ s) si) ≡ is_seen (key_values docs e a) si =
      ap (λ (z : List KeyValue). is_seen z (seen ++ map (λ s. k ++ s) si)) value ∙ seen_inside k (key_values docs e a) seen si free in
      let so : List (List KeyValue) = seen ++ map (λ s. k ++ s) si in
      let snoc : (seen ++ map (λ s. k ++ s) si) ++ key_values docs (d ++ e) a ∷ [] ≡ seen ++ map (λ s. k ++ s) (si ++ key_values docs e a ∷ []) =
      append_assoc seen (map (λ s. k ++ s) si) (key_values docs (d ++ e) a ∷ [])
      ∙ ap (λ (z : List KeyValue). seen ++ (map (λ s. k ++ s) si ++ z ∷ [])) value
      ∙ ap (λ (z : List (List KeyValue)). seen ++ z) (sym (map_snoc k (key_values docs e a) si)) in
      let old = inside k seen si xs ys free h.1 in
      let new = inside k seen (si ++ key_values docs e a ∷ []) xs ys free h.1 in
      let outer : Bool → Costs = λ w.
      costs_of (cond w (skip ∷ distinct docs (d ++ e) make so (xs ++ ys)) (bind (make a (xs ++ ys)) ∷ distinct docs (d ++ e) make (so ++ key_values docs (d ++ e) a ∷ []) (xs ++ ys))) in
      let inner : Bool → Costs = λ w. costs_of (cond w (skip ∷ distinct docs e make si xs) (bind (make a xs) ∷ distinct docs e make (si ++ key_values docs e a ∷ []) xs)) in
      let left : Bool → Costs = λ w.
      costs_of (distinct docs (d ++ e) make (seen ++ map (λ s. k ++ s) (si ++ cond w (keys_seen docs e si xs) (key_values docs e a ∷ keys_seen docs e (si ++ key_values docs e a ∷ []) xs))) ys) in
      let after : Costs = costs_of (distinct docs (d ++ e) make (seen ++ map (λ s. k ++ s) (si ++ keys_seen docs e si xs)) ys) in
      let fresh : costs_of (distinct docs (d ++ e) make (so ++ key_values docs (d ++ e) a ∷ []) (xs ++ ys))
      ≡ followed (costs_of (distinct docs e make (si ++ key_values docs e a ∷ []) xs))
      (costs_of (distinct docs (d ++ e) make (seen ++ map (λ s. k ++ s) (si ++ key_values docs e a ∷ keys_seen docs e (si ++ key_values docs e a ∷ []) xs)) ys)) =
      ap (λ (z : List (List KeyValue)). costs_of (distinct docs (d ++ e) make z (xs ++ ys))) snoc
      ∙ new
      ∙ ap (λ (z : List (List KeyValue)). followed (costs_of (distinct docs e make (si ++ key_values docs e a ∷ []) xs)) (costs_of (distinct docs (d ++ e) make (seen ++ map (λ s. k ++ s) z) ys)))
      (append_assoc si (key_values docs e a ∷ []) (keys_seen docs e (si ++ key_values docs e a ∷ []) xs)) in
      ap outer seen_is
      ∙ elim (is_seen (key_values docs e a) si) as (λ w. outer w ≡ followed (inner w) (left w)) [
        | true ↦ ap (more 1) old ∙ more-followed 1 (costs_of (distinct docs e make si xs)) after
        | false ↦ ap (stop 1) fresh
      ]

  -- where no values that begin with a binding's were seen, none are after those of a binding that differs from it
  other_free : (a b : TolledRow) (seen si : List (List KeyValue)) → IsFree (key_values docs d b) seen → Differ docs d a b → IsFree (key_values docs d b) (seen ++ map (λ s. key_values docs d a ++ s) si)
  other_free a b seen si free apart x =
      list_any-append (λ s. same_values s (key_values docs d b ++ x)) seen (map (λ s. key_values docs d a ++ s) si)
      ∙ ap (λ (w : Bool). w || is_seen (key_values docs d b ++ x) (map (λ s. key_values docs d a ++ s) si)) (free x)
      ∙ none_after si
    where
      differ_after : (ks : List Key) (f g : Key → KeyValue) (s x : List KeyValue) → same_values (map f ks) (map g ks) ≡ false → same_values (map f ks ++ s) (map g ks ++ x) ≡ false
      differ_after [] f g s x h = cc
      differ_after (c ∷ ks) f g s x h =
          (elim (same_value (f c) (g c)) as (λ w. (w && same_values (map f ks) (map g ks)) ≡ false → (w && same_values (map f ks ++ s) (map g ks ++ x)) ≡ false) [
            | true ↦ λ z. differ_after ks f g s x z
            | false ↦ λ z. refl
          ]) h

      none_after : (si : List (List KeyValue)) → is_seen (key_values docs d b ++ x) (map (λ s. key_values docs d a ++ s) si) ≡ false
      none_after [] = refl
      none_after (s ∷ si) =
          ap (λ (w : Bool). w || is_seen (key_values docs d b ++ x) (map (λ s. key_values docs d a ++ s) si)) (differ_after d (key_value docs (row_node a)) (key_value docs (row_node b)) s x apart)
          ∙ none_after si

  -- where no binding's first values were seen and each differs from one, none's are seen after that one's expansion
  all_free : (a : TolledRow) (seen si : List (List KeyValue)) (es : RowEvents) → EachBinding (λ b. IsFree (key_values docs d b) seen) es → EachBinding (Differ docs d a) es
      → EachBinding (λ b. IsFree (key_values docs d b) (seen ++ map (λ s. key_values docs d a ++ s) si)) es
  all_free a seen si [] f h = tt
  all_free a seen si (skip ∷ es) f h = all_free a seen si es f h
  all_free a seen si (bind b ∷ es) f h = (other_free a b seen si f.0 h.0, all_free a seen si es f.1 h.1)

  -- an expansion, of which by the first keys no two rows agree
  module _ (Q : Costs → Type 0) (P : TolledRow → Type 0) (f : TolledRow → RowEvents) (extends : (row : TolledRow) → P row → EachBinding (λ a. key_values docs d a ≡ key_values docs d row) (f row))
      (holds : (row : TolledRow) → P row → Q (costs_of (skip ∷ distinct docs e make [] (f row)))) where
    level_from : (seen : List (List KeyValue)) (es : RowEvents) → EachBinding P es → AreApart docs d es → EachBinding (λ b. IsFree (key_values docs d b) seen) es
        → IsReplaced Q (costs_of es) (costs_of (distinct docs (d ++ e) make seen (expand f es)))
    level_from seen [] p h free = refl
    level_from seen (skip ∷ es) p h free = more_replaced Q 1 (costs_of es) (costs_of (distinct docs (d ++ e) make seen (expand f es))) (level_from seen es p h free)
    level_from seen (bind row ∷ es) p h free =
        let k : List KeyValue = key_values docs d row in
        let si : List (List KeyValue) = [] ++ keys_seen docs e [] (f row) in
        let here : Costs = costs_of (distinct docs e make [] (f row)) in
        let rest : Costs = costs_of (distinct docs (d ++ e) make (seen ++ map (λ s. key_values docs d row ++ s) ([] ++ keys_seen docs e [] (f row))) (expand f es)) in (
          0,
          costs_of (skip ∷ distinct docs e make [] (f row)),
          rest,
          refl,
          holds row p.0,
          level_from (seen ++ map (λ s. key_values docs d row ++ s) si) es p.1 h.1 (all_free row seen si es free.1 h.0),
          ap (more 1)
              (ap (λ (z : List (List KeyValue)). costs_of (distinct docs (d ++ e) make z (f row ++ expand f es))) (sym (append_nil seen))
              ∙ inside k seen [] (f row) (expand f es) free.0 (extends row p.0))
              ∙ more-followed 1 here rest
              ∙ sym (more-zero (followed (more 1 here) rest)),
        )

    nothing_seen : (es : RowEvents) → EachBinding (λ b. IsFree (key_values docs d b) []) es
    nothing_seen [] = tt
    nothing_seen (skip ∷ es) = nothing_seen es
    nothing_seen (bind b ∷ es) = ((λ x. refl), nothing_seen es)

    pub level_expand : (es : RowEvents) → EachBinding P es → AreApart docs d es → IsReplaced Q (costs_of es) (costs_of (distinct docs (d ++ e) make [] (expand f es)))
    level_expand es p h = level_from [] es p h (nothing_seen es)

-- first bindings by no keys: the first binding alone counts
module _ (docs : Documents) (make : TolledRow → RowEvents → TolledRow) where
  -- once a binding was seen, by no keys none of the others counts
  none_left : (seen : List (List KeyValue)) (es : RowEvents) → is_seen [] seen ≡ true → costs_of (distinct docs [] make seen es) ≡ ends (total (costs_of es))
  none_left seen [] h = refl
  none_left seen (skip ∷ es) h = ap (more 1) (none_left seen es h) ∙ ap ends (sym (total-more 1 (costs_of es)))
  none_left seen (bind row ∷ es) h = rw h (ap (more 1) (none_left seen es h))

  -- first bindings by no keys cost what events cost of which the first binding alone counts
  pub costs-first : (es : RowEvents) → costs_of (distinct docs [] make [] es) ≡ first_only (costs_of es)
  costs-first [] = refl
  costs-first (skip ∷ es) = ap (more 1) (costs-first es) ∙ sym (first_only-more 1 (costs_of es))
  costs-first (bind row ∷ es) = ap (stop 1) (none_left ([] ++ [] ∷ []) es refl)

-- documents, finer keys and coarser ones, by both of which bindings are kept
module _ (docs : Documents) (d k : List Key) (make made : TolledRow → RowEvents → TolledRow) where
  -- what is seen by the finer keys is seen by the coarser ones
  abbrev Follows : List (List KeyValue) → List (List KeyValue) → Type 0
  Follows sk sd = (row : TolledRow) → is_seen (key_values docs k row) sk ≡ true → is_seen (key_values docs d row) sd ≡ true

  module _ (coarser : (a b : TolledRow) → same_values (key_values docs k a) (key_values docs k b) ≡ true → same_values (key_values docs d a) (key_values docs d b) ≡ true)
      (same : (row : TolledRow) (es : RowEvents) → key_values docs d (made row es) ≡ key_values docs d row) where
    either_true : (a b x y : Bool) → (a ≡ true → x ≡ true) → (b ≡ true → y ≡ true) → (a || b) ≡ true → (x || y) ≡ true
    either_true true b x y f g h = ap (λ (z : Bool). z || y) (f refl)
    either_true false b true y f g h = refl
    either_true false b false y f g h = g h

    follows_more : (row : TolledRow) (sk sd : List (List KeyValue)) → Follows sk sd → Follows (sk ++ key_values docs k row ∷ []) (sd ++ key_values docs d row ∷ [])
    follows_more row sk sd f b h =
        list_any-append (λ s. same_values s (key_values docs d b)) sd (key_values docs d row ∷ [])
        ∙ either_true (is_seen (key_values docs k b) sk) (same_values (key_values docs k row) (key_values docs k b) || false) (is_seen (key_values docs d b) sd) (same_values (key_values docs d row) (key_values docs d b) || false)
        (f b)
        (λ z. ap (λ (w : Bool). w || false) (coarser row b (or_false (same_values (key_values docs k row) (key_values docs k b)) z)))
        (sym (list_any-append (λ s. same_values s (key_values docs k b)) sk (key_values docs k row ∷ [])) ∙ h)
      where
        or_false : (a : Bool) → (a || false) ≡ true → a ≡ true
        or_false true g = refl
        or_false false g = g

    follows_coarse : (row : TolledRow) (sk sd : List (List KeyValue)) → Follows sk sd → is_seen (key_values docs d row) sd ≡ true → Follows (sk ++ key_values docs k row ∷ []) sd
    follows_coarse row sk sd f t b h =
        (elim (is_seen (key_values docs k b) sk) as (λ w. is_seen (key_values docs k b) sk ≡ w → is_seen (key_values docs d b) sd ≡ true) [
          | true ↦ λ e. f b e
          | false ↦ λ e. later e
        ]) refl
      where
        later : is_seen (key_values docs k b) sk ≡ false → is_seen (key_values docs d b) sd ≡ true
        later e =
            let all : (is_seen (key_values docs k b) sk || (same_values (key_values docs k row) (key_values docs k b) || false)) ≡ true = sym (list_any-append (λ s. same_values s (key_values docs k b)) sk (key_values docs k row ∷ [])) ∙ h in
            let s : same_values (key_values docs k row) (key_values docs k b) ≡ true = second (is_seen (key_values docs k b) sk) (same_values (key_values docs k row) (key_values docs k b)) e all in
            seen_same (key_values docs d row) (key_values docs d b) (coarser row b s) sd t
          where
            second : (a b : Bool) → a ≡ false → (a || (b || false)) ≡ true → b ≡ true
            second true b e h = cc
            second false true e h = refl
            second false false e h = h

    -- bindings kept by finer keys and then by coarser ones cost what they cost kept by the coarser ones at once
    distinct_from : (sk sd : List (List KeyValue)) (es : RowEvents) → Follows sk sd → costs_of (distinct docs d make sd (distinct docs k made sk es)) ≡ costs_of (distinct docs d make sd es)
    distinct_from sk sd [] f = refl
    distinct_from sk sd (skip ∷ es) f = ap (more 1) (distinct_from sk sd es f)
    distinct_from sk sd (bind row ∷ es) f =
        let rest : RowEvents = distinct docs k made (sk ++ key_values docs k row ∷ []) es in
        let here : List KeyValue → Costs = λ z.
        costs_of (cond (is_seen z sd) (skip ∷ distinct docs d make sd rest) (bind (make (made row es) rest) ∷ distinct docs d make (sd ++ z ∷ []) rest)) in
        let old = distinct_from sk sd es f in
        (elim (is_seen (key_values docs k row) sk) as (λ w. is_seen (key_values docs k row) sk ≡ w
        → costs_of (distinct docs d make sd (cond w (skip ∷ distinct docs k made sk es) (bind (made row es) ∷ distinct docs k made (sk ++ key_values docs k row ∷ []) es))) ≡ costs_of (distinct docs d make sd (bind row ∷ es))) [
          | true ↦ λ e. (let t = f row e in rw t (ap (more 1) old))
          | false ↦ λ e.
              ap here (same row es)
              ∙ (elim (is_seen (key_values docs d row) sd) as (λ w. is_seen (key_values docs d row) sd ≡ w
              → costs_of (cond w (skip ∷ distinct docs d make sd rest) (bind (make (made row es) rest) ∷ distinct docs d make (sd ++ key_values docs d row ∷ []) rest))
              ≡ costs_of (cond w (skip ∷ distinct docs d make sd es) (bind (make row es) ∷ distinct docs d make (sd ++ key_values docs d row ∷ []) es))) [
                | true ↦ λ g. ap (more 1) (distinct_from (sk ++ key_values docs k row ∷ []) sd es (follows_coarse row sk sd f g))
                | false ↦ λ g. ap (stop 1) (distinct_from (sk ++ key_values docs k row ∷ []) (sd ++ key_values docs d row ∷ []) es (follows_more row sk sd f))
              ]) refl
        ]) refl

    pub costs-coarser : (es : RowEvents) → costs_of (distinct docs d make [] (distinct docs k made [] es)) ≡ costs_of (distinct docs d make [] es)
    costs-coarser es = distinct_from [] [] es (λ row h. h)
