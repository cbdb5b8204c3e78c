-- The first binding among those that are the same by keys.
use Rattle.std.proofs.Common.{◌≡◌, ℕ, zero, suc, Bool, true, false, ◌||◌, List, [], ◌∷◌, ◌++◌, refl, ◌∙◌, sym, ap, subst}
use Rattle.std.specs.Cmp.Lexicographic.{bytes_decides}
use Rattle.std.proofs.lemmas.Bool.{and_parts, and_from}
use Rattle.mix_tree.specs.Nodes.{Documents}
use Rattle.mix_tree.specs.declared.var.Key.{Key}
use Rattle.mix_tree.proofs.SameKeys.{same_node-true, same_node-refl}
use Rattle.mix_base.specs.Events.{skip, bind, finds, found}
use Rattle.plan_core.specs.Beside.{EachBinding, Differ, AreApart}
use Rattle.plan_core.specs.Plans.{Operator}
use Rattle.plan_core.specs.Events.{RowEvents, events}
use Rattle.plan_core.specs.TolledRows.{TolledRow, KeyValue, by_node, by_label, key_values, same_value, same_values, is_seen}
use Rattle.plan_core.proofs.Found.{found-only_yes}
use Rattle.lazy_binding.specs.Cursors.{after_found, past_first, IsBindingOf, NoneBefore, IsFirstBy}

-- values of keys that compare as the same are equal
same_value-true : (a b : KeyValue) → same_value a b ≡ true → a ≡ b
same_value-true (by_node m) (by_node n) h = ap by_node (same_node-true m n h)
same_value-true (by_node m) (by_label y) h = cc
same_value-true (by_label x) (by_node n) h = cc
same_value-true (by_label x) (by_label y) h = ap by_label ((bytes_decides x y).0 h)

-- a value of a key compares as the same as itself
same_value-refl : (a : KeyValue) → same_value a a ≡ true
same_value-refl (by_node m) = same_node-refl m
same_value-refl (by_label x) = (bytes_decides x x).1 refl

-- keys whose values compare as the same are equal
same_values-true : (xs ys : List KeyValue) → same_values xs ys ≡ true → xs ≡ ys
same_values-true [] [] h = refl
same_values-true [] (y ∷ ys) h = cc
same_values-true (x ∷ xs) [] h = cc
same_values-true (x ∷ xs) (y ∷ ys) h =
    let z = and_parts (same_value x y) (same_values xs ys) h in ap (λ (v : KeyValue). v ∷ xs) (same_value-true x y z.0) ∙ ap (λ (vs : List KeyValue). y ∷ vs) (same_values-true xs ys z.1)

-- values of a key compare as the same as themselves
pub same_values-refl : (xs : List KeyValue) → same_values xs xs ≡ true
same_values-refl [] = refl
same_values-refl (x ∷ xs) = and_from (same_value x x) (same_values xs xs) (same_value-refl x) (same_values-refl xs)

-- a test that does not hold fails
not_both : (t : Bool) → (t ≡ true → ⊥) → t ≡ false
not_both true h = absurd (h refl)
not_both false h = refl

-- keys that were seen are other ones than those that were not
pub other_key : (a b : List KeyValue) (s : List (List KeyValue)) → is_seen b s ≡ true → is_seen a s ≡ false → same_values a b ≡ false
other_key a b s seen new =
    not_both (same_values a b) (λ e. let z : true ≡ false = sym seen ∙ ap (λ (x : List KeyValue). is_seen x s) (sym (same_values-true a b e)) ∙ new in cc)

-- a choice of two that fails fails on both sides
neither : (p q : Bool) → p || q ≡ false → (p ≡ false) × (q ≡ false)
neither true q h = cc
neither false q h = (refl, h)

-- keys outside a list with one more at its end are outside the list, and differ from that one
pub other_last : (a b : List KeyValue) (s : List (List KeyValue)) → is_seen a (s ++ b ∷ []) ≡ false → (is_seen a s ≡ false) × (same_values a b ≡ false)
other_last a b [] h =
    (refl, not_both (same_values a b) (λ e. let z : true ≡ false = sym (ap (λ (x : List KeyValue). same_values b x) (same_values-true a b e) ∙ same_values-refl b) ∙ (neither (same_values b a) false h).0 in cc))
other_last a b (z ∷ s) h =
    let y = neither (same_values z a) (is_seen a (s ++ b ∷ [])) h in
    let k = other_last a b s y.1 in
    (ap (λ (t : Bool). t || is_seen a s) y.0 ∙ k.0, k.1)

module _ (ops : List Operator) (i : ℕ) (keys : List Key) {d e : Documents} (docs : e ≡ d) where
  -- no binding with other keys stands before events still, where the documents, keys and events are the same
  pub none_before_kept : {s z : List (List KeyValue)} → z ≡ s → {l m : RowEvents} → m ≡ l → NoneBefore d keys (events d ops i) s l → NoneBefore e keys (events e ops i) z m
  none_before_kept {s} {z} seen {l} {m} later h =
      subst (λ (y : List (List KeyValue)). NoneBefore e keys (events e ops i) y m) (sym seen)
      (subst (λ (y : RowEvents). NoneBefore e keys (events e ops i) s y) (sym later) (subst (λ (y : Documents). NoneBefore y keys (events y ops i) s l) (sym docs) h))

  -- the first binding with its keys is so still where the documents, the binding and the events after it are the same
  pub first_by_kept : {r q : TolledRow} → q ≡ r → {l m : RowEvents} → m ≡ l → IsFirstBy d keys (events d ops i) r l → IsFirstBy e keys (events e ops i) q m
  first_by_kept {r} {q} row {l} {m} later h =
      subst (λ (y : TolledRow). IsFirstBy e keys (events e ops i) y m) (sym row)
      (subst (λ (y : RowEvents). IsFirstBy e keys (events e ops i) r y) (sym later) (subst (λ (y : Documents). IsFirstBy y keys (events y ops i) r l) (sym docs) h))

  -- a binding among events is so still where the documents, the binding and the events after it are the same
  pub binding_of_kept : {r q : TolledRow} → q ≡ r → {l m : RowEvents} → m ≡ l → IsBindingOf (events d ops i) r l → IsBindingOf (events e ops i) q m
  binding_of_kept {r} {q} row {l} {m} later h =
      (h.0, ap (λ (y : Documents). found (past_first h.0 (events y ops i))) docs ∙ h.1 ∙ ap (λ (y : TolledRow). finds y l) (sym row) ∙ ap (finds q) (sym later))

-- BINDINGS THAT ARE ALL DIFFERENT

-- the events after the first k + 1 bindings are those after the first k of what comes after the first binding
after_next : (k : ℕ) (es : RowEvents) → past_first (suc k) es ≡ past_first k (after_found (found es))
after_next zero es = refl
after_next (suc k) es = ap (λ (z : RowEvents). after_found (found z)) (after_next k es)

module _ (P : TolledRow → Type 0) where
  -- a property of each binding among events is one of the first binding
  each_found : (es : RowEvents) (row : TolledRow) (later : RowEvents) → EachBinding P es → found es ≡ finds row later → P row
  each_found [] row later h e = cc
  each_found (skip ∷ es) row later h e = each_found es row later h e
  each_found (bind b ∷ es) row later h e = (let z : b ≡ row = cc in subst P z h.0)

  -- a property of each binding among events is one of each after the first
  each_left : (es : RowEvents) → EachBinding P es → EachBinding P (after_found (found es))
  each_left [] h = tt
  each_left (skip ∷ es) h = each_left es h
  each_left (bind b ∷ es) h = h.1

  -- a property of each binding among events is one of each after the first few
  each_after : (k : ℕ) (es : RowEvents) → EachBinding P es → EachBinding P (past_first k es)
  each_after zero es h = h
  each_after (suc k) es h = each_left (past_first k es) (each_after k es h)

module _ (docs : Documents) (keys : List Key) (row : TolledRow) (later : RowEvents) where
  -- whether a binding has the keys of this one
  abbrev has_keys : TolledRow → Bool
  has_keys r = same_values (key_values docs keys row) (key_values docs keys r)

  -- among bindings of which no two agree by keys, each is the first one with its keys
  first_at : (k : ℕ) (es : RowEvents) → AreApart docs keys es → found (past_first k es) ≡ finds row later → IsFirstBy docs keys es row later
  first_at zero es h e = found-only_yes has_keys es row later e (same_values-refl (key_values docs keys row))
  first_at (suc k) [] h e = first_at k [] h (sym (ap found (after_next k [])) ∙ e)
  first_at (suc k) (skip ∷ es) h e = first_at (suc k) es h (ap found (after_next k es) ∙ sym (ap found (after_next k (skip ∷ es))) ∙ e)
  first_at (suc k) (bind b ∷ es) h e =
      let there : found (past_first k es) ≡ finds row later = sym (ap found (after_next k (bind b ∷ es))) ∙ e in
      let other = each_found (Differ docs keys b) (past_first k es) row later (each_after (Differ docs keys b) k es h.0) there in
      let differs : has_keys b ≡ false = not_both (has_keys b) (λ t.
      let z : true ≡ false = sym (same_values-refl (key_values docs keys b)) ∙ ap (same_values (key_values docs keys b)) (sym (same_values-true (key_values docs keys row) (key_values docs keys b) t)) ∙ other in cc) in
      rw differs (first_at k es h.1 there)

  -- a binding among events of which no two agree by keys is the first one with its keys
  pub apart_first : (es : RowEvents) → AreApart docs keys es → IsBindingOf es row later → IsFirstBy docs keys es row later
  apart_first es h at = first_at at.0 es h at.1
