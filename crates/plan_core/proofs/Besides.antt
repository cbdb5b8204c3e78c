-- Laws of bindings that stand side by side.
use Rattle.std.proofs.Common.{◌≡◌, inl, inr, true, false, cond, List, [], ◌∷◌, ◌++◌, refl, sym, ap, ◌∙◌}
use Rattle.std.specs.Prelude.{Bool}
use Rattle.mix_base.specs.Events.{skip, bind, without_skips}
use Rattle.mix_tree.specs.Nodes.{Documents}
use Rattle.mix_tree.specs.declared.var.Key.{Key}
use Rattle.plan_core.specs.Beside.{EachBinding, Agree, Differ, AreApart, StandsFirst, AreBeside}
use Rattle.plan_core.specs.Events.{RowEvents, expand, each_row, only, run_of, distinct}
use Rattle.plan_core.specs.TolledRows.{TolledRow, KeyValue, key_value, key_values, same_values, is_seen, row_node}
use Rattle.plan_core.proofs.Aparts.{differ_left}
use Rattle.plan_core.proofs.Bindings.{binding_append, binding_weaker, binding_only}
use Rattle.plan_core.proofs.KeyValues.{all_itself, same_after, map_more}

module _ (docs : Documents) where
  -- a binding from which all events after it differ by the keys stands first: none that agree with it come late
  pub stands_apart : (keys : List Key) (row : TolledRow) (es : RowEvents) → EachBinding (Differ docs keys row) es → StandsFirst docs keys row es
  stands_apart keys row [] h = tt
  stands_apart keys row (skip ∷ es) h = stands_apart keys row es h
  stands_apart keys row (bind b ∷ es) h = inr (h.0, h.1)

  -- bindings of which no two agree stand side by side
  pub beside_apart : (keys : List Key) (es : RowEvents) → AreApart docs keys es → AreBeside docs keys es
  beside_apart keys [] h = tt
  beside_apart keys (skip ∷ es) h = beside_apart keys es h
  beside_apart keys (bind row ∷ es) h = (stands_apart keys row es h.0, beside_apart keys es h.1)

  -- by no keys all bindings agree, and thus stand side by side
  pub beside_none : (es : RowEvents) → AreBeside docs [] es
  beside_none [] = tt
  beside_none (skip ∷ es) = beside_none es
  beside_none (bind row ∷ es) = (stands es, beside_none es)
    where
      stands : (es : RowEvents) → StandsFirst docs [] row es
      stands [] = tt
      stands (skip ∷ es) = stands es
      stands (bind b ∷ es) = inl (refl, stands es)

  -- bindings that agree with one still come first when others become skips
  stands_only : (keys : List Key) (test : TolledRow → Bool) (row : TolledRow) (es : RowEvents) → StandsFirst docs keys row es → StandsFirst docs keys row (only test es)
  stands_only keys test row [] h = tt
  stands_only keys test row (skip ∷ es) h = stands_only keys test row es h
  stands_only keys test row (bind b ∷ es) (inl h) =
      let r = stands_only keys test row es h.1 in
      elim (test b) as (λ w. StandsFirst docs keys row (cond w (bind b) skip ∷ only test es)) [ true ↦ inl (h.0, r) | false ↦ r ]
  stands_only keys test row (bind b ∷ es) (inr h) =
      let d = binding_only (Differ docs keys row) test es h.1 in
      elim (test b) as (λ w. StandsFirst docs keys row (cond w (bind b) skip ∷ only test es)) [ true ↦ inr (h.0, d) | false ↦ stands_apart keys row (only test es) d ]

  -- bindings that agree still stand side by side when others become skips
  pub beside_only : (keys : List Key) (test : TolledRow → Bool) (es : RowEvents) → AreBeside docs keys es → AreBeside docs keys (only test es)
  beside_only keys test [] h = tt
  beside_only keys test (skip ∷ es) h = beside_only keys test es h
  beside_only keys test (bind row ∷ es) h =
      let r = beside_only keys test es h.1 in
      let s = stands_only keys test row es h.0 in
      elim (test row) as (λ w. AreBeside docs keys (cond w (bind row) skip ∷ only test es)) [ true ↦ (s, r) | false ↦ r ]

  -- what a relation of keys says, said of made bindings
  module _ (keys : List Key) (P : TolledRow → Type 0) (f : TolledRow → TolledRow) (same : (row : TolledRow) → P row → key_values docs keys (f row) ≡ key_values docs keys row) where
    -- two bindings made anew agree or differ by keys as the bindings did
    both_same : (a b : TolledRow) (x : Bool) → P a → P b → same_values (key_values docs keys a) (key_values docs keys b) ≡ x → same_values (key_values docs keys (f a)) (key_values docs keys (f b)) ≡ x
    both_same a b x p q h = ap (λ (z : List KeyValue). same_values z (key_values docs keys (f b))) (same a p) ∙ ap (same_values (key_values docs keys a)) (same b q) ∙ h

    -- a binding made anew differs by keys from others made anew that differed from it before
    others_differ : (row : TolledRow) → P row → (es : RowEvents) → EachBinding P es → EachBinding (Differ docs keys row) es → EachBinding (Differ docs keys (f row)) (each_row f es)
    others_differ row p [] q h = tt
    others_differ row p (skip ∷ es) q h = others_differ row p es q h
    others_differ row p (bind b ∷ es) q h = (both_same row b false p q.0 h.0, others_differ row p es q.1 h.1)

    -- after a binding made anew those that agree with it by keys come first where they did before
    stands_each : (row : TolledRow) → P row → (es : RowEvents) → EachBinding P es → StandsFirst docs keys row es → StandsFirst docs keys (f row) (each_row f es)
    stands_each row p [] q h = tt
    stands_each row p (skip ∷ es) q h = stands_each row p es q h
    stands_each row p (bind b ∷ es) q (inl h) = inl (both_same row b true p q.0 h.0, stands_each row p es q.1 h.1)
    stands_each row p (bind b ∷ es) q (inr h) = inr (both_same row b false p q.0 h.0, others_differ row p es q.1 h.1)

    -- bindings made anew with the same values of keys stand side by side where the bindings did
    pub beside_each_row : (es : RowEvents) → EachBinding P es → AreBeside docs keys es → AreBeside docs keys (each_row f es)
    beside_each_row [] q h = tt
    beside_each_row (skip ∷ es) q h = beside_each_row es q h
    beside_each_row (bind row ∷ es) q h = (stands_each row q.0 es q.1 h.0, beside_each_row es q.1 h.1)

  -- bindings kept by keys, made with the same values of other keys
  module _ (keys by : List Key) (make : TolledRow → RowEvents → TolledRow) (same : (row : TolledRow) (es : RowEvents) → key_values docs keys (make row es) ≡ key_values docs keys row) where
    -- two bindings made of bindings and the events after them agree or differ by keys as the bindings did
    made_same : (a b : TolledRow) (xs ys : RowEvents) (x : Bool) → same_values (key_values docs keys a) (key_values docs keys b) ≡ x → same_values (key_values docs keys (make a xs)) (key_values docs keys (make b ys)) ≡ x
    made_same a b xs ys x h = ap (λ (z : List KeyValue). same_values z (key_values docs keys (make b ys))) (same a xs) ∙ ap (same_values (key_values docs keys a)) (same b ys) ∙ h

    -- a first binding by some keys differs by other keys from all first bindings of events that differ from it by these
    kept_differ : (row : TolledRow) (xs : RowEvents) (seen : List (List KeyValue)) (es : RowEvents) → EachBinding (Differ docs keys row) es → EachBinding (Differ docs keys (make row xs)) (distinct docs by make seen es)
    kept_differ row xs seen [] h = tt
    kept_differ row xs seen (skip ∷ es) h = kept_differ row xs seen es h
    kept_differ row xs seen (bind b ∷ es) h =
        let old = kept_differ row xs seen es h.1 in
        let new = kept_differ row xs (seen ++ key_values docs by b ∷ []) es h.1 in
        let d = made_same row b xs es false h.0 in
        elim (is_seen (key_values docs by b) seen)
        as (λ w. EachBinding (Differ docs keys (make row xs)) (cond w (skip ∷ distinct docs by make seen es) (bind (make b es) ∷ distinct docs by make (seen ++ key_values docs by b ∷ []) es))) [ true ↦ old | false ↦ (d, new) ]

    -- after a first binding by some keys those first bindings come first that agree with it by other keys, where they did among all bindings
    kept_stands : (row : TolledRow) (xs : RowEvents) (seen : List (List KeyValue)) (es : RowEvents) → StandsFirst docs keys row es → StandsFirst docs keys (make row xs) (distinct docs by make seen es)
    kept_stands row xs seen [] h = tt
    kept_stands row xs seen (skip ∷ es) h = kept_stands row xs seen es h
    kept_stands row xs seen (bind b ∷ es) (inl h) =
        let old = kept_stands row xs seen es h.1 in
        let new = kept_stands row xs (seen ++ key_values docs by b ∷ []) es h.1 in
        let d = made_same row b xs es true h.0 in
        elim (is_seen (key_values docs by b) seen)
        as (λ w. StandsFirst docs keys (make row xs) (cond w (skip ∷ distinct docs by make seen es) (bind (make b es) ∷ distinct docs by make (seen ++ key_values docs by b ∷ []) es))) [ true ↦ old | false ↦ inl (d, new) ]
    kept_stands row xs seen (bind b ∷ es) (inr h) =
        let old = stands_apart keys (make row xs) (distinct docs by make seen es) (kept_differ row xs seen es h.1) in
        let new = kept_differ row xs (seen ++ key_values docs by b ∷ []) es h.1 in
        let d = made_same row b xs es false h.0 in
        elim (is_seen (key_values docs by b) seen)
        as (λ w. StandsFirst docs keys (make row xs) (cond w (skip ∷ distinct docs by make seen es) (bind (make b es) ∷ distinct docs by make (seen ++ key_values docs by b ∷ []) es))) [ true ↦ old | false ↦ inr (d, new) ]

    -- first bindings by some keys still stand side by side by the other keys, where all bindings did
    pub beside_distinct : (seen : List (List KeyValue)) (es : RowEvents) → AreBeside docs keys es → AreBeside docs keys (distinct docs by make seen es)
    beside_distinct seen [] h = tt
    beside_distinct seen (skip ∷ es) h = beside_distinct seen es h
    beside_distinct seen (bind row ∷ es) h =
        let old = beside_distinct seen es h.1 in
        let new = beside_distinct (seen ++ key_values docs by row ∷ []) es h.1 in
        let s = kept_stands row es (seen ++ key_values docs by row ∷ []) es h.0 in
        elim (is_seen (key_values docs by row) seen) as (λ w. AreBeside docs keys (cond w (skip ∷ distinct docs by make seen es) (bind (make row es) ∷ distinct docs by make (seen ++ key_values docs by row ∷ []) es))) [
          | true ↦ old
          | false ↦ (s, new)
        ]

  -- bindings whose keys have equal values agree
  agree_itself : (keys : List Key) (a b : TolledRow) → key_values docs keys a ≡ key_values docs keys b → Agree docs keys a b
  agree_itself keys a b e = ap (λ (z : List KeyValue). same_values z (key_values docs keys b)) e ∙ all_itself (key_values docs keys b)

  -- an expansion, by the keys of its rows
  module _ (keys : List Key) (P : TolledRow → Type 0) (f : TolledRow → RowEvents) (extends : (row : TolledRow) → P row → EachBinding (λ a. key_values docs keys a ≡ key_values docs keys row) (f row)) where
    -- bindings that two others give agree or differ by keys as those two do
    pair_is : (row other a b : TolledRow) (x : Bool) → key_values docs keys a ≡ key_values docs keys row → key_values docs keys b ≡ key_values docs keys other → same_values (key_values docs keys row) (key_values docs keys other) ≡ x
        → same_values (key_values docs keys a) (key_values docs keys b) ≡ x
    pair_is row other a b x e g h = ap (λ (z : List KeyValue). same_values z (key_values docs keys b)) e ∙ ap (same_values (key_values docs keys row)) g ∙ h

    -- a binding differs by keys from all that is given by bindings that differ by them from the one that gave it
    all_differ : (row a : TolledRow) → key_values docs keys a ≡ key_values docs keys row → (es : RowEvents) → EachBinding P es → EachBinding (Differ docs keys row) es → EachBinding (Differ docs keys a) (expand f es)
    all_differ row a e [] p h = tt
    all_differ row a e (skip ∷ es) p h = all_differ row a e es p h
    all_differ row a e (bind other ∷ es) p h =
        binding_append (Differ docs keys a) (f other) (expand f es)
        (binding_weaker (λ b. key_values docs keys b ≡ key_values docs keys other) (Differ docs keys a) (λ b g. pair_is row other a b false e g h.0) (f other) (extends other p.0)) (all_differ row a e es p.1 h.1)

    -- where a binding stands first before events, it does before bindings that agree with it, and then those events
    stands_append : (a : TolledRow) (xs ys : RowEvents) → EachBinding (Agree docs keys a) xs → StandsFirst docs keys a ys → StandsFirst docs keys a (xs ++ ys)
    stands_append a [] ys h k = k
    stands_append a (skip ∷ xs) ys h k = stands_append a xs ys h k
    stands_append a (bind b ∷ xs) ys h k = inl (h.0, stands_append a xs ys h.1 k)

    -- after a given binding, those given by later ones come first that agree with it, where the later ones did after the one that gave it
    stands_expand : (row a : TolledRow) → key_values docs keys a ≡ key_values docs keys row → (es : RowEvents) → EachBinding P es → StandsFirst docs keys row es → StandsFirst docs keys a (expand f es)
    stands_expand row a e [] p h = tt
    stands_expand row a e (skip ∷ es) p h = stands_expand row a e es p h
    stands_expand row a e (bind other ∷ es) p (inl h) =
        stands_append a (f other) (expand f es)
        (binding_weaker (λ b. key_values docs keys b ≡ key_values docs keys other) (Agree docs keys a) (λ b g. pair_is row other a b true e g h.0) (f other) (extends other p.0)) (stands_expand row a e es p.1 h.1)
    stands_expand row a e (bind other ∷ es) p (inr h) =
        stands_apart keys a (f other ++ expand f es)
        (binding_append (Differ docs keys a) (f other) (expand f es)
        (binding_weaker (λ b. key_values docs keys b ≡ key_values docs keys other) (Differ docs keys a) (λ b g. pair_is row other a b false e g h.0) (f other) (extends other p.0)) (all_differ row a e es p.1 h.1))

    -- bindings with equal values of keys stand side by side, also with the events after them where each of them stands first before these
    beside_append : (row : TolledRow) (xs ys : RowEvents) → EachBinding (λ a. key_values docs keys a ≡ key_values docs keys row) xs → ((a : TolledRow) → key_values docs keys a ≡ key_values docs keys row → StandsFirst docs keys a ys) → AreBeside docs keys ys
        → AreBeside docs keys (xs ++ ys)
    beside_append row [] ys h s k = k
    beside_append row (skip ∷ xs) ys h s k = beside_append row xs ys h s k
    beside_append row (bind a ∷ xs) ys h s k = (
      stands_append a xs ys (binding_weaker (λ b. key_values docs keys b ≡ key_values docs keys row) (Agree docs keys a) (λ b g. agree_itself keys a b (h.0 ∙ sym g)) xs h.1) (s a h.0),
      beside_append row xs ys h.1 s k,
    )

    -- bindings that an expansion gives stand side by side by keys where those that gave them did
    pub beside_expand : (es : RowEvents) → EachBinding P es → AreBeside docs keys es → AreBeside docs keys (expand f es)
    beside_expand [] p h = tt
    beside_expand (skip ∷ es) p h = beside_expand es p h
    beside_expand (bind row ∷ es) p h = beside_append row (f row) (expand f es) (extends row p.0) (λ a e. stands_expand row a e es p.1 h.0) (beside_expand es p.1 h.1)

-- rows of which no two agree, each replaced by bindings that stand side by side by more keys
module _ (docs : Documents) (keys more_keys : List Key) where
  -- two bindings that agree by the first keys agree or differ by all keys as they do by the further ones
  pair_more : (k : List KeyValue) (a b : TolledRow) → key_values docs keys a ≡ k → key_values docs keys b ≡ k
      → same_values (key_values docs (keys ++ more_keys) a) (key_values docs (keys ++ more_keys) b) ≡ same_values (key_values docs more_keys a) (key_values docs more_keys b)
  pair_more k a b e g =
      let x : key_values docs (keys ++ more_keys) a ≡ k ++ key_values docs more_keys a = map_more (key_value docs (row_node a)) keys more_keys ∙ ap (λ (z : List KeyValue). z ++ key_values docs more_keys a) e in
      let y : key_values docs (keys ++ more_keys) b ≡ k ++ key_values docs more_keys b = map_more (key_value docs (row_node b)) keys more_keys ∙ ap (λ (z : List KeyValue). z ++ key_values docs more_keys b) g in
      ap (λ (z : List KeyValue). same_values z (key_values docs (keys ++ more_keys) b)) x
      ∙ ap (same_values (k ++ key_values docs more_keys a)) y
      ∙ same_after k (key_values docs more_keys a) (key_values docs more_keys b)

  -- a binding that differs by the further keys from some with its values of the first keys differs by all keys from these, and from others that do
  rest_differ : (k : List KeyValue) (a : TolledRow) → key_values docs keys a ≡ k → (xs ys : RowEvents) → EachBinding (λ b. key_values docs keys b ≡ k) xs → EachBinding (Differ docs more_keys a) xs
      → EachBinding (Differ docs (keys ++ more_keys) a) ys → EachBinding (Differ docs (keys ++ more_keys) a) (xs ++ ys)
  rest_differ k a e [] ys h d r = r
  rest_differ k a e (skip ∷ xs) ys h d r = rest_differ k a e xs ys h d r
  rest_differ k a e (bind b ∷ xs) ys h d r = (pair_more k a b e h.0 ∙ d.0, rest_differ k a e xs ys h.1 d.1 r)

  -- among bindings with its values of the first keys those that agree with a binding by all keys come first, also before events that differ from it
  stands_more : (k : List KeyValue) (a : TolledRow) → key_values docs keys a ≡ k → (xs ys : RowEvents) → EachBinding (λ b. key_values docs keys b ≡ k) xs → StandsFirst docs more_keys a xs
      → EachBinding (Differ docs (keys ++ more_keys) a) ys → StandsFirst docs (keys ++ more_keys) a (xs ++ ys)
  stands_more k a e [] ys h s r = stands_apart docs (keys ++ more_keys) a ys r
  stands_more k a e (skip ∷ xs) ys h s r = stands_more k a e xs ys h s r
  stands_more k a e (bind b ∷ xs) ys h (inl s) r = inl (pair_more k a b e h.0 ∙ s.0, stands_more k a e xs ys h.1 s.1 r)
  stands_more k a e (bind b ∷ xs) ys h (inr s) r = inr (pair_more k a b e h.0 ∙ s.0, rest_differ k a e xs ys h.1 s.1 r)

  module _ (P : TolledRow → Type 0) (f : TolledRow → RowEvents) (extends : (row : TolledRow) → P row → EachBinding (λ a. key_values docs keys a ≡ key_values docs keys row) (f row))
      (inner : (row : TolledRow) → P row → AreBeside docs more_keys (f row)) where
    -- a given binding differs by all keys from what is given by bindings that differ by the first keys from the one that gave it
    far_differ : (row a : TolledRow) → key_values docs keys a ≡ key_values docs keys row → (es : RowEvents) → EachBinding P es → EachBinding (Differ docs keys row) es → EachBinding (Differ docs (keys ++ more_keys) a) (expand f es)
    far_differ row a e [] p d = tt
    far_differ row a e (skip ∷ es) p d = far_differ row a e es p d
    far_differ row a e (bind other ∷ es) p d =
        binding_append (Differ docs (keys ++ more_keys) a) (f other) (expand f es)
        (binding_weaker (λ b. key_values docs keys b ≡ key_values docs keys other) (Differ docs (keys ++ more_keys) a)
        (λ b g. differ_left docs keys more_keys (row_node a) (row_node b) (ap (λ (z : List KeyValue). same_values z (key_values docs keys b)) e ∙ ap (same_values (key_values docs keys row)) g ∙ d.0)) (f other) (extends other p.0)) (far_differ row a e es p.1 d.1)

    -- bindings with equal values of the first keys stand side by side by all keys where they do by the further ones, also with events that differ from them
    near : (row : TolledRow) (xs ys : RowEvents) → EachBinding (λ a. key_values docs keys a ≡ key_values docs keys row) xs → AreBeside docs more_keys xs
        → ((a : TolledRow) → key_values docs keys a ≡ key_values docs keys row → EachBinding (Differ docs (keys ++ more_keys) a) ys) → AreBeside docs (keys ++ more_keys) ys → AreBeside docs (keys ++ more_keys) (xs ++ ys)
    near row [] ys h b d k = k
    near row (skip ∷ xs) ys h b d k = near row xs ys h b d k
    near row (bind a ∷ xs) ys h b d k = (stands_more (key_values docs keys row) a h.0 xs ys h.1 b.0 (d a h.0), near row xs ys h.1 b.1 d k)

    -- bindings that an expansion gives stand side by side by keys and further ones, where no two that gave them agree
    pub beside_pairs : (es : RowEvents) → EachBinding P es → AreApart docs keys es → AreBeside docs (keys ++ more_keys) (expand f es)
    beside_pairs [] p d = tt
    beside_pairs (skip ∷ es) p d = beside_pairs es p d
    beside_pairs (bind row ∷ es) p d = near row (f row) (expand f es) (extends row p.0) (inner row p.0) (λ a e. far_differ row a e es p.1 d.0) (beside_pairs es p.1 d.1)

-- the events up to the first binding of another group have all members of a group whose members stand side by side
pub run_whole : (docs : Documents) (keys : List Key) (row : TolledRow) (es : RowEvents) → StandsFirst docs keys row es
    → without_skips (run_of (λ r. same_values (key_values docs keys row) (key_values docs keys r)) es) ≡ without_skips (only (λ r. same_values (key_values docs keys row) (key_values docs keys r)) es)
run_whole docs keys row [] h = refl
run_whole docs keys row (skip ∷ es) h = run_whole docs keys row es h
run_whole docs keys row (bind b ∷ es) (inl h) = (let r = run_whole docs keys row es h.1 in let t : same_values (key_values docs keys row) (key_values docs keys b) ≡ true = h.0 in rw t (ap (λ (z : List TolledRow). b ∷ z) r))
run_whole docs keys row (bind b ∷ es) (inr h) = (let t : same_values (key_values docs keys row) (key_values docs keys b) ≡ false = h.0 in rw t (sym (none_left es h.1)))
  where
    none_left : (es : RowEvents) → EachBinding (Differ docs keys row) es → without_skips (only (λ r. same_values (key_values docs keys row) (key_values docs keys r)) es) ≡ []
    none_left [] d = refl
    none_left (skip ∷ es) d = none_left es d
    none_left (bind c ∷ es) d = (let t : same_values (key_values docs keys row) (key_values docs keys c) ≡ false = d.0 in rw t (none_left es d.1))
