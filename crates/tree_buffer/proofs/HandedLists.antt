-- One node more is handed out: what lists weigh and close to.
use Rattle.std.proofs.Common.{◌≡◌, ℕ, zero, suc, ◌+◌, ◌<◌, ◌≤◌, ◌⊎◌, inl, inr, true, false, Bool, cond, List, [], ◌∷◌, ◌++◌, Some, length, get_or, set, ap, sym, subst, ◌∙◌, arith}
use Rattle.std.proofs.lemmas.Bool.{cases_eq}
use Rattle.std.proofs.lemmas.List.{get_or_append_left, get_or_push, get_or-set_same, get_or-set_other, length-set, length_push}
use Rattle.lxp_core.specs.declared.open_tree.HoleId.{HoleId}
use Rattle.mix_tree.specs.Forest.{from, first_kids, first_label, after_first}
use Rattle.mix_tree.specs.Place.{trees_at}
use Rattle.lxp_core.specs.Open.{Open, nil, node, closed, weight_of, AllHoles, IsApart}
use Rattle.lxp_core.specs.View.{View}
use Rattle.tree_buffer.specs.Document.{document_node}
use Rattle.tree_buffer.specs.Nodes.{Nodes, place, places, IsLinked}
use Rattle.tree_buffer.specs.Sourced.{Sourced, Moved}
use Rattle.tree_buffer.specs.Weights.{held, in_from, weight_from}
use Rattle.tree_buffer.proofs.Documents.{from-more, trees_at-push}
use Rattle.tree_buffer.proofs.Held.{held-le, held-push, held-set, in_from-push}
use Rattle.tree_buffer.proofs.Refine.{set_relates}
use Rattle.tree_buffer.proofs.Places.{places-push, length-places}
use Rattle.tree_buffer.proofs.Handed.{handed, split, links_old, old_place, new_place, counts_own, counts_old, counts_new, longer}

module _ (m : Nodes) (linked : IsLinked m.links m.counts m.firsts m.nexts) (q first before : ℕ) (l : List ℕ) (ks o : Open) (within : q < length m.links) where
  -- with one node more handed out, the list of q is the one that is left to it
  rests_own : length m.rests ≡ length m.links → get_or (handed m q first before l ks o).rests q nil ≡ o
  rests_own e =
      get_or_append_left (set m.rests q o) (ks ∷ []) nil q (omega (arith, length-set m.rests q o, e)) ∙ get_or-set_same m.rests q o nil (omega (arith, e))

  -- the lists of other nodes stay
  rests_old : length m.rests ≡ length m.links → (i : ℕ) → (i ≡ q → ⊥) → i < length m.links → get_or (handed m q first before l ks o).rests i nil ≡ get_or m.rests i nil
  rests_old e i ne h =
      get_or_append_left (set m.rests q o) (ks ∷ []) nil i (omega (arith, length-set m.rests q o, e)) ∙ get_or-set_other m.rests q i o nil ne

  -- the new node's list is the one that is given
  rests_new : length m.rests ≡ length m.links → get_or (handed m q first before l ks o).rests (length m.links) nil ≡ ks
  rests_new e = get_or_push (set m.rests q o) ks nil (length m.links) (omega (arith, length-set m.rests q o, e))

  -- the labels of earlier nodes stay
  labels_old : length m.labels ≡ length m.links → (i : ℕ) → i < length m.links → get_or (handed m q first before l ks o).labels i [] ≡ get_or m.labels i []
  labels_old e i h = get_or_append_left m.labels (l ∷ []) [] i (omega (arith, e))

  -- the new node's label is the one that is given
  labels_new : length m.labels ≡ length m.links → get_or (handed m q first before l ks o).labels (length m.links) [] ≡ l
  labels_new e = get_or_push m.labels l [] (length m.links) e

  -- what holds of the earlier lists, of the new one and of the one that is left holds of all
  each_list : (P : Open → Type 0) → P o → P ks → P nil → ((i : ℕ) → P (get_or m.rests i nil)) → (i : ℕ) → P (get_or (handed m q first before l ks o).rests i nil)
  each_list P own new empty all i = pushed (set m.rests q o) (set_relates (λ a b. P b) m.rests q o own all) i
    where
      pushed : (os : List Open) → ((i : ℕ) → P (get_or os i nil)) → (i : ℕ) → P (get_or (os ++ ks ∷ []) i nil)
      pushed [] all zero = new
      pushed [] all (suc i) = empty
      pushed (x ∷ os) all zero = all zero
      pushed (x ∷ os) all (suc i) = pushed os (λ j. all (suc j)) i

  module _ (w : HoleId → ℕ) (lists : length m.rests ≡ length m.links) (names : length m.labels ≡ length m.links) (at : get_or m.rests q nil ≡ node l ks o) where
    -- the list of q weighed the new node, its list, and the list that is left to q
    at_weight : weight_of w (get_or m.rests q nil) ≡ 1 + weight_of w ks + weight_of w o
    at_weight = ap (weight_of w) at

    -- with one node more handed out, the nodes below a place weigh what they did and what the new one weighs where it is below
    held_new : (p : List ℕ) (k : ℕ) → held (weight_of w) p k (places (handed m q first before l ks o).links) (handed m q first before l ks o).rests
        ≡ held (weight_of w) p k (places m.links) (set m.rests q o) + cond (in_from p k (place m.links q ++ get_or m.counts q 0 ∷ [])) (1 + weight_of w ks) 0
    held_new p k =
        ap (λ rs. held (weight_of w) p k rs (handed m q first before l ks o).rests) (places-push m.links (q, get_or m.counts q 0) linked.some)
        ∙ held-push (weight_of w) p k (places m.links) (set m.rests q o) (place m.links q ++ get_or m.counts q 0 ∷ []) ks
        (omega (arith, length-set m.rests q o, lists, length-places m.links))

    -- what is counted where a test passes, and else as nothing, is at most that
    cond-le : (b : Bool) (x : ℕ) → cond b x 0 ≤ x
    cond-le true x = omega arith
    cond-le false x = omega arith

    -- with a node handed out, no node's children weigh more
    new_lighter : (i k : ℕ) → i < length m.links → weight_from (weight_of w) (handed m q first before l ks o) i k ≤ weight_from (weight_of w) m i k
    new_lighter i k h = cases (cases_eq i q)
      where
        cases : (i ≡ q) ⊎ (i ≡ q → ⊥) → weight_from (weight_of w) (handed m q first before l ks o) i k ≤ weight_from (weight_of w) m i k
        cases (inl e) =
            subst (λ i. weight_from (weight_of w) (handed m q first before l ks o) i k ≤ weight_from (weight_of w) m i k) (sym e)
            (omega (
              arith,
              held_new (place m.links q) k,
              at_weight,
              ap (λ p. held (weight_of w) p k (places (handed m q first before l ks o).links) (handed m q first before l ks o).rests) ((old_place m linked q first before l ks o within) q within),
              ap (weight_of w) (rests_own lists),
              cond-le (in_from (place m.links q) k (place m.links q ++ get_or m.counts q 0 ∷ [])) (1 + weight_of w ks),
              held-le (weight_of w) (weight_of w) (place m.links q) k (places m.links) m.rests (set m.rests q o) (length-set m.rests q o)
                  (set_relates (λ a b. weight_of w b ≤ weight_of w a) m.rests q o (omega (arith, at_weight)) (λ j. omega arith)),
            ))
        cases (inr ne) =
            let elsewhere : in_from (place m.links i) k (place m.links q ++ get_or m.counts q 0 ∷ []) ≡ in_from (place m.links i) k (place m.links q) =
            in_from-push (place m.links i) (place m.links q) k (get_or m.counts q 0) (λ e. ne (linked.distinct i q h within e)) in
            omega (
              arith,
              held_new (place m.links i) k,
              at_weight,
              ap (λ p. held (weight_of w) p k (places (handed m q first before l ks o).links) (handed m q first before l ks o).rests) ((old_place m linked q first before l ks o within) i h),
              ap (weight_of w) (rests_old lists i ne h),
              ap (λ b. cond b (1 + weight_of w ks) 0) elsewhere,
              held-set (weight_of w) (place m.links i) k (places m.links) m.rests q o (1 + weight_of w ks) (omega (arith, lists, length-places m.links)) (omega (arith, lists)) (omega (arith, at_weight)),
            )

    -- an empty list is not that of q
    still_whole : (i : ℕ) → i < length m.links → get_or m.rests i nil ≡ nil → get_or (handed m q first before l ks o).rests i nil ≡ nil
    still_whole i h empty =
        rests_old lists i (λ e. not_empty (sym at ∙ ap (λ j. get_or m.rests j nil) (sym e) ∙ empty)) h ∙ empty
      where
        not_empty : node l ks o ≡ nil → ⊥
        not_empty e = cc

    -- with a node handed out, the nodes go on
    pub moved_handed : Moved (weight_of w) m (weight_of w) (handed m q first before l ks o)
    moved_handed = record {
      more = omega (arith, (longer m linked q first before l ks o within));
      links = (links_old m linked q first before l ks o within);
      places = (old_place m linked q first before l ks o within);
      labels = labels_old names;
      lighter = new_lighter;
      whole = still_whole;
    }

  module _ (v : View) (n : ℕ) (s : Sourced v n m) (at : get_or m.rests q nil ≡ node l ks o) where
    -- each list still closes to what is left of the children
    new_closes : v.told n ≡ true → (i : ℕ) → (i < length m.links) ⊎ (i ≡ length m.links)
        → from (get_or (handed m q first before l ks o).counts i 0) (first_kids (trees_at (document_node v n) (place (handed m q first before l ks o).links i))) ≡ closed (v.forest n) (get_or (handed m q first before l ks o).rests i nil)
    new_closes told i (inr e) =
        subst (λ i. from (get_or (handed m q first before l ks o).counts i 0) (first_kids (trees_at (document_node v n) (place (handed m q first before l ks o).links i))) ≡ closed (v.forest n) (get_or (handed m q first before l ks o).rests i nil)) (sym e)
        (rw ((counts_new m linked q first before l ks o within), (new_place m linked q first before l ks o within), rests_new s.rests)
        (ap first_kids (trees_at-push (document_node v n) (place m.links q) (get_or m.counts q 0)) ∙ ap first_kids (s.closes told q within ∙ ap (closed (v.forest n)) at)))
    new_closes told i (inl h) = cases (cases_eq i q)
      where
        cases : (i ≡ q) ⊎ (i ≡ q → ⊥) → from (get_or (handed m q first before l ks o).counts i 0) (first_kids (trees_at (document_node v n) (place (handed m q first before l ks o).links i))) ≡ closed (v.forest n) (get_or (handed m q first before l ks o).rests i nil)
        cases (inl e) =
            subst (λ i. from (get_or (handed m q first before l ks o).counts i 0) (first_kids (trees_at (document_node v n) (place (handed m q first before l ks o).links i))) ≡ closed (v.forest n) (get_or (handed m q first before l ks o).rests i nil)) (sym e)
            (rw ((counts_own m linked q first before l ks o within), (old_place m linked q first before l ks o within) q within, rests_own s.rests)
            (from-more (get_or m.counts q 0) (first_kids (trees_at (document_node v n) (place m.links q))) ∙ ap after_first (s.closes told q within ∙ ap (closed (v.forest n)) at)))
        cases (inr ne) = rw ((counts_old m linked q first before l ks o within) i ne h, (old_place m linked q first before l ks o within) i h, rests_old s.rests i ne h) (s.closes told i h)

    -- each label is still the document's
    new_labels : v.told n ≡ true → (i : ℕ) → (i < length m.links) ⊎ (i ≡ length m.links)
        → first_label (trees_at (document_node v n) (place (handed m q first before l ks o).links i)) ≡ Some (get_or (handed m q first before l ks o).labels i [])
    new_labels told i (inl h) = rw ((old_place m linked q first before l ks o within) i h, labels_old s.labels i h) (s.stands told i h)
    new_labels told i (inr e) =
        subst (λ i. first_label (trees_at (document_node v n) (place (handed m q first before l ks o).links i)) ≡ Some (get_or (handed m q first before l ks o).labels i [])) (sym e)
        (rw ((new_place m linked q first before l ks o within), labels_new s.labels)
        (ap first_label (trees_at-push (document_node v n) (place m.links q) (get_or m.counts q 0)) ∙ ap first_label (s.closes told q within ∙ ap (closed (v.forest n)) at)))

    -- with one node more handed out, the view means the sources of the nodes
    pub sourced_handed : Sourced v n (handed m q first before l ks o)
    sourced_handed =
        let known = subst (AllHoles (v.knows n)) at (s.known q) in
        let apart = subst IsApart at (s.apart q) in
        record {
          number = s.number;
          root = s.root;
          rests = omega (arith, (longer m linked q first before l ks o within), s.rests, length-set m.rests q o, length_push (set m.rests q o) ks);
          labels = omega (arith, (longer m linked q first before l ks o within), s.labels, length_push m.labels l);
          known = each_list (AllHoles (v.knows n)) known.1 known.0 tt s.known;
          apart = each_list IsApart apart.1 apart.0 tt s.apart;
          lighter = omega (arith, s.lighter, new_lighter (v.weight n) s.rests s.labels at 0 0 linked.some);
          closes = λ told i h. new_closes told i (split i (length m.links) (omega (arith, (longer m linked q first before l ks o within))));
          stands = λ told i h. new_labels told i (split i (length m.links) (omega (arith, (longer m linked q first before l ks o within))));
        }

-- with one more label the first label is as it was
pub labels_prefix : (m : Nodes) (l : List ℕ) → 0 < length m.labels → get_or m.labels 0 [] ≡ [] → get_or (m.labels ++ l ∷ []) 0 [] ≡ []
labels_prefix m l some e = get_or_append_left m.labels (l ∷ []) [] 0 some ∙ e
