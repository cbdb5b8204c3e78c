-- One node more is handed out.
use Rattle.std.proofs.Common.{◌≡◌, ℕ, zero, suc, ◌+◌, ◌<◌, ◌≤◌, ◌⊎◌, inl, inr, min, List, [], ◌∷◌, ◌++◌, length, get_or, set, refl, ap, sym, subst, ◌∙◌, arith}
use Rattle.std.proofs.lemmas.Bool.{cases_eq}
use Rattle.std.proofs.lemmas.List.{get_or_append_left, get_or_push, get_or-set_same, get_or-set_other, length-set, length_push, same_from_push, get_or_past}
use Rattle.lxp_core.specs.Open.{Open}
use Rattle.tree_buffer.specs.Nodes.{Nodes, place, parent, index, IsChild, IsLinked}
use Rattle.tree_buffer.proofs.Places.{place-old, place-new}

-- the nodes with one child of q more: its label, its list, the list that is left to q, q's first child, and the sibling before
abbrev pub handed : Nodes → ℕ → ℕ → ℕ → List ℕ → Open → Open → Nodes
handed m q first before l ks o = record {
  links = m.links ++ (q, get_or m.counts q 0) ∷ [];
  counts = set m.counts q (get_or m.counts q 0 + 1) ++ 0 ∷ [];
  firsts = set m.firsts q first ++ 0 ∷ [];
  nexts = set (m.nexts ++ 0 ∷ []) before (length m.links);
  labels = m.labels ++ l ∷ [];
  rests = set m.rests q o ++ ks ∷ [];
}

-- a number below the next one is below this one or is it
pub split : (i n : ℕ) → i < n + 1 → (i < n) ⊎ (i ≡ n)
split i n h = cases (cases_eq i n)
  where
    cases : (i ≡ n) ⊎ (i ≡ n → ⊥) → (i < n) ⊎ (i ≡ n)
    cases (inl e) = inr e
    cases (inr ne) = inl (omega arith)

module _ (m : Nodes) (linked : IsLinked m.links m.counts m.firsts m.nexts) (q first before : ℕ) (l : List ℕ) (ks o : Open) (within : q < length m.links) where
  -- the links of earlier nodes stay
  pub links_old : (i : ℕ) → i < length m.links → get_or (m.links ++ (q, get_or m.counts q 0) ∷ []) i (0, 0) ≡ get_or m.links i (0, 0)
  links_old i h = get_or_append_left m.links ((q, get_or m.counts q 0) ∷ []) (0, 0) i h

  -- the link of the new node is to q, at the index of its next child
  links_new : get_or (m.links ++ (q, get_or m.counts q 0) ∷ []) (length m.links) (0, 0) ≡ (q, get_or m.counts q 0)
  links_new = get_or_push m.links (q, get_or m.counts q 0) (0, 0) (length m.links) refl

  -- the parents of earlier nodes stay
  parent_old : (i : ℕ) → i < length m.links → parent (handed m q first before l ks o).links i ≡ parent m.links i
  parent_old i h = ap (λ x. x.0) (links_old i h)

  -- the indexes of earlier nodes stay
  index_old : (i : ℕ) → i < length m.links → index (handed m q first before l ks o).links i ≡ index m.links i
  index_old i h = ap (λ x. x.1) (links_old i h)

  -- the new node's parent is q
  parent_new : parent (handed m q first before l ks o).links (length m.links) ≡ q
  parent_new = ap (λ x. x.0) links_new

  -- the new node's index is that of q's next child
  index_new : index (handed m q first before l ks o).links (length m.links) ≡ get_or m.counts q 0
  index_new = ap (λ x. x.1) links_new

  -- one child of q more was handed out
  pub counts_own : get_or (handed m q first before l ks o).counts q 0 ≡ get_or m.counts q 0 + 1
  counts_own =
      get_or_append_left (set m.counts q (get_or m.counts q 0 + 1)) (0 ∷ []) 0 q (omega (arith, length-set m.counts q (get_or m.counts q 0 + 1), linked.counts))
      ∙ get_or-set_same m.counts q (get_or m.counts q 0 + 1) 0 (omega (arith, linked.counts))

  -- no child of another node than q was handed out
  pub counts_old : (i : ℕ) → (i ≡ q → ⊥) → i < length m.links → get_or (handed m q first before l ks o).counts i 0 ≡ get_or m.counts i 0
  counts_old i ne h =
      get_or_append_left (set m.counts q (get_or m.counts q 0 + 1)) (0 ∷ []) 0 i (omega (arith, length-set m.counts q (get_or m.counts q 0 + 1), linked.counts))
      ∙ get_or-set_other m.counts q i (get_or m.counts q 0 + 1) 0 ne

  -- no child of the new node was handed out
  pub counts_new : get_or (handed m q first before l ks o).counts (length m.links) 0 ≡ 0
  counts_new = get_or_push (set m.counts q (get_or m.counts q 0 + 1)) 0 0 (length m.links) (omega (arith, length-set m.counts q (get_or m.counts q 0 + 1), linked.counts))

  -- the first child of q is the one that is given
  firsts_own : get_or (handed m q first before l ks o).firsts q 0 ≡ first
  firsts_own =
      get_or_append_left (set m.firsts q first) (0 ∷ []) 0 q (omega (arith, length-set m.firsts q first, linked.firsts))
      ∙ get_or-set_same m.firsts q first 0 (omega (arith, linked.firsts))

  -- the first children of other nodes stay
  firsts_old : (i : ℕ) → (i ≡ q → ⊥) → i < length m.links → get_or (handed m q first before l ks o).firsts i 0 ≡ get_or m.firsts i 0
  firsts_old i ne h =
      get_or_append_left (set m.firsts q first) (0 ∷ []) 0 i (omega (arith, length-set m.firsts q first, linked.firsts))
      ∙ get_or-set_other m.firsts q i first 0 ne

  -- the sibling before names the new node
  nexts_own : before < length m.links + 1 → get_or (handed m q first before l ks o).nexts before 0 ≡ length m.links
  nexts_own h = get_or-set_same (m.nexts ++ 0 ∷ []) before (length m.links) 0 (omega (arith, length_push m.nexts 0, linked.nexts))

  -- the siblings of other nodes stay
  nexts_old : (i : ℕ) → (i ≡ before → ⊥) → i < length m.links → get_or (handed m q first before l ks o).nexts i 0 ≡ get_or m.nexts i 0
  nexts_old i ne h =
      get_or-set_other (m.nexts ++ 0 ∷ []) before i (length m.links) 0 ne ∙ get_or_append_left m.nexts (0 ∷ []) 0 i (omega (arith, linked.nexts))

  -- after a node is handed out there is one node more
  pub longer : length (handed m q first before l ks o).links ≡ length m.links + 1
  longer = length_push m.links (q, get_or m.counts q 0)

  -- a child that was handed out before is a child still
  child_old : (p k c : ℕ) → IsChild m.links p k c → IsChild (handed m q first before l ks o).links p k c
  child_old p k c h = record {
    known = omega (arith, h.known, longer);
    after = h.after;
    parent = parent_old c h.known ∙ h.parent;
    index = index_old c h.known ∙ h.index;
  }

  -- the new node is the next child of q
  pub child_new : IsChild (handed m q first before l ks o).links q (get_or m.counts q 0) (length m.links)
  child_new = record {
    known = omega (arith, longer);
    after = linked.some;
    parent = parent_new;
    index = index_new;
  }

  -- the places of earlier nodes stay
  pub old_place : (i : ℕ) → i < length m.links → place (handed m q first before l ks o).links i ≡ place m.links i
  old_place i h = place-old m.links (q, get_or m.counts q 0) i h

  -- the new node's place is below q's, at the index of its next child
  pub new_place : place (handed m q first before l ks o).links (length m.links) ≡ place m.links q ++ get_or m.counts q 0 ∷ []
  new_place = place-new m.links (q, get_or m.counts q 0) linked.some

  -- no node stands at the new place yet
  place_free : (j : ℕ) → j < length m.links → place m.links j ≡ place m.links q ++ get_or m.counts q 0 ∷ [] → ⊥
  place_free zero h e = absurd (empty (place m.links q) (sym linked.top ∙ e))
    where
      empty : (p : List ℕ) → [] ≡ p ++ get_or m.counts q 0 ∷ [] → ⊥
      empty [] e = cc
      empty (x ∷ p) e = cc
  place_free (suc j) h e =
      let parts = same_from_push (place m.links (parent m.links (suc j))) (place m.links q) (index m.links (suc j)) (get_or m.counts q 0) (sym (linked.stands (suc j) (omega arith) h) ∙ e) in
      let above : parent m.links (suc j) < suc j = linked.back (suc j) (omega arith) h in
      let same : parent m.links (suc j) ≡ q = linked.distinct (parent m.links (suc j)) q (omega arith) within parts.0 in
      let few : index m.links (suc j) < get_or m.counts (parent m.links (suc j)) 0 = linked.counted (suc j) (omega arith) h in
      let fewer : index m.links (suc j) < get_or m.counts q 0 = subst (λ p. index m.links (suc j) < get_or m.counts p 0) same few in
      omega (arith, parts.1, fewer)

  -- what the code's names of the first child of q and of the node before the new one stand for
  module _ (no_first : get_or m.counts q 0 ≡ 0 → first ≡ length m.links) (a_first : 0 < get_or m.counts q 0 → first ≡ get_or m.firsts q 0)
      (no_before : get_or m.counts q 0 ≡ 0 → before ≡ length m.links)
      (a_before : 0 < get_or m.counts q 0 → IsChild m.links q (index m.links before) before × (index m.links before + 1 ≡ get_or m.counts q 0)) where
    -- with a node handed out, parents come before their children
    new_back : (i : ℕ) → 0 < i → (i < length m.links) ⊎ (i ≡ length m.links) → parent (handed m q first before l ks o).links i < i
    new_back i pos (inl h) = omega (arith, parent_old i h, linked.back i pos h)
    new_back i pos (inr e) = omega (arith, ap (parent (handed m q first before l ks o).links) e, parent_new, within)

    -- with a node handed out, no count of children falls
    count_of_old : (j : ℕ) → j < length m.links → get_or m.counts j 0 ≤ get_or (handed m q first before l ks o).counts j 0
    count_of_old j h = cases (cases_eq j q)
      where
        cases : (j ≡ q) ⊎ (j ≡ q → ⊥) → get_or m.counts j 0 ≤ get_or (handed m q first before l ks o).counts j 0
        cases (inl e) = omega (arith, ap (λ k. get_or m.counts k 0) e, ap (λ k. get_or (handed m q first before l ks o).counts k 0) e, counts_own)
        cases (inr ne) = omega (arith, counts_old j ne h)

    -- indexes stay below the counts
    new_counted : (i : ℕ) → 0 < i → (i < length m.links) ⊎ (i ≡ length m.links)
        → index (handed m q first before l ks o).links i < get_or (handed m q first before l ks o).counts (parent (handed m q first before l ks o).links i) 0
    new_counted i pos (inl h) =
        omega (
          arith,
          index_old i h,
          ap (λ k. get_or (handed m q first before l ks o).counts k 0) (parent_old i h),
          linked.counted i pos h,
          count_of_old (parent m.links i) (omega (arith, linked.back i pos h)),
        )
    new_counted i pos (inr e) =
        omega (
          arith,
          ap (index (handed m q first before l ks o).links) e,
          index_new,
          ap (λ k. get_or (handed m q first before l ks o).counts k 0) (ap (parent (handed m q first before l ks o).links) e ∙ parent_new),
          counts_own,
        )

    -- counts stay below the number of nodes
    new_few : (i : ℕ) → get_or (handed m q first before l ks o).counts i 0 ≤ length m.links + 1
    new_few i = cases (cases_eq i q) (cases_eq i (length m.links)) (cases_eq (min i (length m.links)) i)
      where
        cases : (i ≡ q) ⊎ (i ≡ q → ⊥) → (i ≡ length m.links) ⊎ (i ≡ length m.links → ⊥) → (min i (length m.links) ≡ i) ⊎ (min i (length m.links) ≡ i → ⊥)
            → get_or (handed m q first before l ks o).counts i 0 ≤ length m.links + 1
        cases (inl e) b c = omega (arith, ap (λ k. get_or (handed m q first before l ks o).counts k 0) e, counts_own, linked.few q)
        cases (inr ne) (inl e) c = omega (arith, ap (λ k. get_or (handed m q first before l ks o).counts k 0) e, counts_new)
        cases (inr ne) (inr nn) (inl c) = omega (arith, counts_old i ne (omega arith), linked.few i)
        cases (inr ne) (inr nn) (inr c) =
            omega (arith, get_or_past (handed m q first before l ks o).counts i 0 (omega (arith, linked.counts, length-set m.counts q (get_or m.counts q 0 + 1), length_push (set m.counts q (get_or m.counts q 0 + 1)) 0)))

    -- first children are named rightly
    new_down : (i : ℕ) → (i < length m.links) ⊎ (i ≡ length m.links) → 0 < get_or (handed m q first before l ks o).counts i 0
        → IsChild (handed m q first before l ks o).links i 0 (get_or (handed m q first before l ks o).firsts i 0)
    new_down i (inr e) pos = absurd (omega (arith, ap (λ k. get_or (handed m q first before l ks o).counts k 0) e, counts_new))
    new_down i (inl h) pos = cases (cases_eq i q)
      where
        own : (get_or m.counts q 0 ≡ 0) ⊎ (get_or m.counts q 0 ≡ 0 → ⊥) → IsChild (handed m q first before l ks o).links q 0 first
        own (inl z) = rw (no_first z) (subst (λ k. IsChild (handed m q first before l ks o).links q k (length m.links)) z child_new)
        own (inr nz) = rw (a_first (omega arith)) (child_old q 0 (get_or m.firsts q 0) (linked.down q within (omega arith)))

        cases : (i ≡ q) ⊎ (i ≡ q → ⊥) → IsChild (handed m q first before l ks o).links i 0 (get_or (handed m q first before l ks o).firsts i 0)
        cases (inl e) = subst (λ k. IsChild (handed m q first before l ks o).links k 0 (get_or (handed m q first before l ks o).firsts k 0)) (sym e) (subst (IsChild (handed m q first before l ks o).links q 0) (sym firsts_own) (own (cases_eq (get_or m.counts q 0) 0)))
        cases (inr ne) =
            subst (IsChild (handed m q first before l ks o).links i 0) (sym (firsts_old i ne h))
            (child_old i 0 (get_or m.firsts i 0) (linked.down i h (omega (arith, counts_old i ne h))))

    -- the last child of q that was handed out, where one was, is the node before the new one
    is_before : (i : ℕ) → 0 < i → i < length m.links → parent m.links i ≡ q → index m.links i + 1 ≡ get_or m.counts q 0 → i ≡ before
    is_before i pos h p e =
        let b = a_before (omega arith) in
        let here : place m.links i ≡ place m.links q ++ index m.links i ∷ [] = linked.stands i pos h ∙ ap (λ k. place m.links k ++ index m.links i ∷ []) p in
        let there : place m.links before ≡ place m.links q ++ index m.links before ∷ [] =
        linked.stands before b.0.after b.0.known ∙ ap (λ k. place m.links k ++ index m.links before ∷ []) b.0.parent in
        let same : index m.links i ≡ index m.links before = omega (arith, b.1) in
        linked.distinct i before h b.0.known (here ∙ ap (λ k. place m.links q ++ k ∷ []) same ∙ sym there)

    -- the node before the new one is the last child of q
    not_before : (i : ℕ) → 0 < i → i < length m.links → (i ≡ before) → (parent m.links i ≡ q) × (index m.links i + 1 ≡ get_or m.counts q 0)
    not_before i pos h e = cases (cases_eq (get_or m.counts q 0) 0)
      where
        cases : (get_or m.counts q 0 ≡ 0) ⊎ (get_or m.counts q 0 ≡ 0 → ⊥) → (parent m.links i ≡ q) × (index m.links i + 1 ≡ get_or m.counts q 0)
        cases (inl z) = absurd (omega (arith, no_before z))
        cases (inr nz) =
            let b = a_before (omega arith) in
            (ap (parent m.links) e ∙ b.0.parent, ap (λ k. index m.links k + 1) e ∙ b.1)

    -- after a node is handed out, each next sibling that was handed out is the one noted
    new_right : (i : ℕ) → 0 < i → (i < length m.links) ⊎ (i ≡ length m.links)
        → index (handed m q first before l ks o).links i + 1 < get_or (handed m q first before l ks o).counts (parent (handed m q first before l ks o).links i) 0
        → IsChild (handed m q first before l ks o).links (parent (handed m q first before l ks o).links i) (index (handed m q first before l ks o).links i + 1) (get_or (handed m q first before l ks o).nexts i 0)
    new_right i pos (inr e) more =
        absurd (omega (
          arith,
          more,
          ap (index (handed m q first before l ks o).links) e,
          index_new,
          ap (λ k. get_or (handed m q first before l ks o).counts k 0) (ap (parent (handed m q first before l ks o).links) e ∙ parent_new),
          counts_own,
        ))
    new_right i pos (inl h) more =
        rw (parent_old i h, index_old i h) (cases (cases_eq (parent m.links i) q) (cases_eq (index m.links i + 1) (get_or m.counts q 0)))
      where
        more' : index m.links i + 1 < get_or (handed m q first before l ks o).counts (parent m.links i) 0
        more' = omega (arith, more, index_old i h, ap (λ k. get_or (handed m q first before l ks o).counts k 0) (parent_old i h))

        kept : (i ≡ before → ⊥) → index m.links i + 1 < get_or m.counts (parent m.links i) 0
            → IsChild (handed m q first before l ks o).links (parent m.links i) (index m.links i + 1) (get_or (handed m q first before l ks o).nexts i 0)
        kept ne few =
            subst (IsChild (handed m q first before l ks o).links (parent m.links i) (index m.links i + 1)) (sym (nexts_old i ne h))
            (child_old (parent m.links i) (index m.links i + 1) (get_or m.nexts i 0) (linked.right i pos h few))

        cases : (parent m.links i ≡ q) ⊎ (parent m.links i ≡ q → ⊥) → (index m.links i + 1 ≡ get_or m.counts q 0) ⊎ (index m.links i + 1 ≡ get_or m.counts q 0 → ⊥)
            → IsChild (handed m q first before l ks o).links (parent m.links i) (index m.links i + 1) (get_or (handed m q first before l ks o).nexts i 0)
        cases (inl p) (inl k) =
            let e : i ≡ before = is_before i pos h p k in
            let next : get_or (handed m q first before l ks o).nexts i 0 ≡ length m.links = ap (λ j. get_or (handed m q first before l ks o).nexts j 0) e ∙ nexts_own (omega arith) in
            rw (p, k, next) child_new
        cases (inl p) (inr nk) =
            kept (λ e. nk (not_before i pos h e).1)
            (omega (arith, more', counts_own, ap (λ k. get_or (handed m q first before l ks o).counts k 0) p, ap (λ k. get_or m.counts k 0) p, nk))
        cases (inr np) k =
            kept (λ e. np (not_before i pos h e).0)
            (omega (arith, more', counts_old (parent m.links i) np (omega (arith, linked.back i pos h))))

    -- with a node handed out, the place of each node is below its parent's
    new_stands : (i : ℕ) → 0 < i → (i < length m.links) ⊎ (i ≡ length m.links)
        → place (handed m q first before l ks o).links i ≡ place (handed m q first before l ks o).links (parent (handed m q first before l ks o).links i) ++ index (handed m q first before l ks o).links i ∷ []
    new_stands i pos (inl h) =
        rw (parent_old i h, index_old i h, old_place i h, old_place (parent m.links i) (omega (arith, linked.back i pos h))) (linked.stands i pos h)
    new_stands i pos (inr e) =
        subst (λ i. place (handed m q first before l ks o).links i ≡ place (handed m q first before l ks o).links (parent (handed m q first before l ks o).links i) ++ index (handed m q first before l ks o).links i ∷ [])
        (sym e) (rw (parent_new, index_new, new_place, old_place q within) refl)

    -- no two nodes stand at one place
    new_distinct : (i j : ℕ) → (i < length m.links) ⊎ (i ≡ length m.links) → (j < length m.links) ⊎ (j ≡ length m.links)
        → place (handed m q first before l ks o).links i ≡ place (handed m q first before l ks o).links j → i ≡ j
    new_distinct i j (inl a) (inl b) e = linked.distinct i j a b (sym (old_place i a) ∙ e ∙ old_place j b)
    new_distinct i j (inl a) (inr b) e =
        absurd (place_free i a (sym (old_place i a) ∙ e ∙ ap (place (handed m q first before l ks o).links) b ∙ new_place))
    new_distinct i j (inr a) (inl b) e =
        absurd (place_free j b (sym (old_place j b) ∙ sym e ∙ ap (place (handed m q first before l ks o).links) a ∙ new_place))
    new_distinct i j (inr a) (inr b) e = a ∙ sym b

    -- the nodes name one another rightly
    pub linked_handed : IsLinked (handed m q first before l ks o).links (handed m q first before l ks o).counts (handed m q first before l ks o).firsts (handed m q first before l ks o).nexts
    linked_handed = record {
      some = omega (arith, longer);
      top = old_place 0 linked.some ∙ linked.top;
      counts = omega (arith, longer, linked.counts, length-set m.counts q (get_or m.counts q 0 + 1), length_push (set m.counts q (get_or m.counts q 0 + 1)) 0);
      firsts = omega (arith, longer, linked.firsts, length-set m.firsts q first, length_push (set m.firsts q first) 0);
      nexts = omega (arith, longer, linked.nexts, length-set (m.nexts ++ 0 ∷ []) before (length m.links), length_push m.nexts 0);
      back = λ i pos h. new_back i pos (split i (length m.links) (omega (arith, longer)));
      counted = λ i pos h. new_counted i pos (split i (length m.links) (omega (arith, longer)));
      few = λ i. omega (arith, new_few i, longer);
      down = λ i h pos. new_down i (split i (length m.links) (omega (arith, longer))) pos;
      right = λ i pos h more. new_right i pos (split i (length m.links) (omega (arith, longer))) more;
      stands = λ i pos h. new_stands i pos (split i (length m.links) (omega (arith, longer)));
      distinct = λ i j h k e. new_distinct i j (split i (length m.links) (omega (arith, longer))) (split j (length m.links) (omega (arith, longer))) e;
    }
