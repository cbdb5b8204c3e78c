-- In each binding of an operator, the variables that it binds hold what is said of them.
use Rattle.std.proofs.Common.{◌≡◌, ◌<◌, ℕ, zero, suc, Bool, true, false, cond, ◌||◌, List, [], ◌∷◌, ◌++◌, map, Option, Some, None, length, refl, sym, ap, subst, arith}
use Rattle.std.specs.Prelude.{◌==◌}
use Rattle.std.specs.List.{AllByRecursion}
use Rattle.mix_base.specs.Events.{Event, skip, bind, finds, found, without_skips}
use Rattle.mix_base.proofs.Firsts.{each_weaker}
use Rattle.mix_tree.specs.Keys.{has_var, key_var}
use Rattle.mix_tree.specs.Nodes.{Documents, Node, document_node}
use Rattle.path_auto.specs.Visit.{visits}
use Rattle.mix_tree.specs.declared.var.Key.{Key}
use Rattle.plan_core.specs.declared.plan.Piece.TheVariants.{Var as var_piece}
use Rattle.plan_core.specs.Sorted.{insert_by, sorted_by}
use Rattle.plan_core.specs.Plans.{Operator, source, get_descendants, join, over, tuple_destroy}
use Rattle.plan_core.specs.Unary.{select, order_by, project, group_by, concatenate, create_element}
use Rattle.plan_core.specs.ByNumber.{op_at}
use Rattle.plan_core.specs.Typed.{IsTyped}
use Rattle.plan_core.specs.Valid.{Kind, Kinds, kinds, a_node, an_element, a_list, IsFit, inputs_of}
use Rattle.plan_core.specs.Tolled.{Tolled, ends}
use Rattle.plan_core.specs.TolledRows.{TolledRow, TolledValue, of_source, element, trees, tolled_value, row_node, tolled_restrict, KeyValue, key_values, is_seen, piece_items, collected}
use Rattle.plan_core.specs.Fronts.{Front, are_contiguous, front}
use Rattle.plan_core.specs.Events.{RowEvents, expand, each_row, only, with_node, nodes_found, descendants, passes_all, pairs, distinct, projected, group_row, concatenated_row, element_row, skips, sorted_rows, op_events, events}
use Rattle.plan_core.proofs.Numbers.{events-of}
use Rattle.lazy_site.specs.Labels.{Labels, either_label, op_labels, labels, stands_in}
use Rattle.lazy_site.proofs.Numbering.{labels_of, FitsKind, labels_fit}

-- a variable stands in a binding or not, and has this value, as is said of it
abbrev pub Holds : Option (Option (List ℕ)) → Bool → TolledValue → Type 0
Holds None s x = s ≡ false
Holds (Some None) s x = s ≡ true
Holds (Some (Some label)) s x = (s ≡ true) × ((kids : Tolled) × (x ≡ element label kids))

-- each variable of a binding holds an element with the label that is told of it, or none
abbrev pub Fits : Labels → TolledRow → Type 0
Fits ls row = (v : ℕ) → Holds (ls v) (stands_in row v) (tolled_value row v)

-- each binding of these events has a property
abbrev pub EachRow : (TolledRow → Type 0) → RowEvents → Type 0
EachRow P [] = Unit {0}
EachRow P (skip ∷ es) = EachRow P es
EachRow P (bind row ∷ es) = P row × EachRow P es

-- ONE BINDING

-- a binding with one variable more holds what is told of that variable and of the others
entry : (t : Bool) (k : Option (List ℕ)) (l : Option (Option (List ℕ))) (s : Bool) (x y : TolledValue) → Holds (Some k) true x → Holds l s y → Holds (cond t (Some k) l) (t || s) (cond t x y)
entry true k l s x y h i = h
entry false k l s x y h i = i

-- what is told of a value in the first of two bindings, or else in the second, holds in both together
both : (k l : Option (Option (List ℕ))) (s t : Bool) (x y : TolledValue) → Holds k s x → Holds l t y → Holds (either_label k l) (s || t) (cond s x y)
both None l true t x y h i = cc
both None l false t x y h i = i
both (Some None) l true t x y h i = refl
both (Some None) l false t x y h i = cc
both (Some (Some label)) l true t x y h i = h
both (Some (Some label)) l false t x y h i = (let z = h.0 in cc)

-- a variable stands in two bindings together where it stands in one of them
stands-append : (a b : TolledRow) (v : ℕ) → stands_in (a ++ b) v ≡ stands_in a v || stands_in b v
stands-append [] b v = refl
stands-append (p ∷ a) b v =
    elim (p.0 == v) as (λ t. t || stands_in (a ++ b) v ≡ (t || stands_in a v) || stands_in b v) [ true ↦ refl | false ↦ stands-append a b v ]

-- the value of a variable in two bindings together is the first's where it stands there, and else the second's
value-append : (a b : TolledRow) (v : ℕ) → tolled_value (a ++ b) v ≡ cond (stands_in a v) (tolled_value a v) (tolled_value b v)
value-append [] b v = refl
value-append (p ∷ a) b v =
    elim (p.0 == v) as (λ t. cond t p.1 (tolled_value (a ++ b) v) ≡ cond (t || stands_in a v) (cond t p.1 (tolled_value a v)) (tolled_value b v)) [ true ↦ refl | false ↦ value-append a b v ]

-- two bindings that hold what is told of their variables do so together
fits_both : (k l : Labels) (a b : TolledRow) → Fits k a → Fits l b → Fits (λ v. either_label (k v) (l v)) (a ++ b)
fits_both k l a b h i v =
    subst (λ (s : Bool). Holds (either_label (k v) (l v)) s (tolled_value (a ++ b) v)) (sym (stands-append a b v))
    (subst (λ (x : TolledValue). Holds (either_label (k v) (l v)) (stands_in a v || stands_in b v) x) (sym (value-append a b v))
    (both (k v) (l v) (stands_in a v) (stands_in b v) (tolled_value a v) (tolled_value b v) (h v) (i v)))

-- the variables that stand in a binding of keys are those of the keys
stands-restrict : (keys : List Key) (row : TolledRow) (v : ℕ) → stands_in (tolled_restrict keys row) v ≡ has_var keys v
stands-restrict [] row v = refl
stands-restrict (k ∷ keys) row v = ap (λ (t : Bool). (key_var k == v) || t) (stands-restrict keys row v)

-- a binding of keys, each of a node, holds what is told of its variables
fits_restrict : (keys : List Key) (ls : Labels) (row : TolledRow) → ((v : ℕ) → has_var keys v ≡ true → ls v ≡ Some None) → Fits (λ v. cond (has_var keys v) (ls v) None) (tolled_restrict keys row)
fits_restrict keys ls row nodes v =
    subst (λ (s : Bool). Holds (cond (has_var keys v) (ls v) None) s (tolled_value (tolled_restrict keys row) v)) (sym (stands-restrict keys row v))
    (elim (has_var keys v) as (λ t. has_var keys v ≡ t → Holds (cond t (ls v) None) t (tolled_value (tolled_restrict keys row) v)) [
      | true ↦ λ e. (let z = nodes v e in subst (λ (l : Option (Option (List ℕ))). Holds l true (tolled_value (tolled_restrict keys row) v)) (sym z) refl)
      | false ↦ λ e. refl
    ] refl)

-- a binding with one variable more that holds what is told of it holds what is told of all
fits_entry : (out : ℕ) (k : Option (List ℕ)) (ls : Labels) (x : TolledValue) (row : TolledRow) → Holds (Some k) true x → Fits ls row → Fits (λ v. cond (out == v) (Some k) (ls v)) ((out, x) ∷ row)
fits_entry out k ls x row h i v = entry (out == v) k (ls v) (stands_in row v) x (tolled_value row v) h (i v)

-- LISTS OF EVENTS

-- what each binding of two lists of events has, each of both together has
each_append : (P : TolledRow → Type 0) (a b : RowEvents) → EachRow P a → EachRow P b → EachRow P (a ++ b)
each_append P [] b h i = i
each_append P (skip ∷ a) b h i = each_append P a b h i
each_append P (bind row ∷ a) b h i = (h.0, each_append P a b h.1 i)

-- what each binding has that comes of a binding, each of the expanded events has
each_expand : (P Q : TolledRow → Type 0) (f : TolledRow → RowEvents) → ((row : TolledRow) → P row → EachRow Q (f row)) → (es : RowEvents) → EachRow P es → EachRow Q (expand f es)
each_expand P Q f g [] h = tt
each_expand P Q f g (skip ∷ es) h = each_expand P Q f g es h
each_expand P Q f g (bind row ∷ es) h = each_append Q (f row) (expand f es) (g row h.0) (each_expand P Q f g es h.1)

-- what each binding has that is made of a binding, each of the events made anew has
each_made : (P Q : TolledRow → Type 0) (f : TolledRow → TolledRow) → ((row : TolledRow) → P row → Q (f row)) → (es : RowEvents) → EachRow P es → EachRow Q (each_row f es)
each_made P Q f g [] h = tt
each_made P Q f g (skip ∷ es) h = each_made P Q f g es h
each_made P Q f g (bind row ∷ es) h = (g row h.0, each_made P Q f g es h.1)

-- what each binding of events has, each has that a test leaves
each_only : (P : TolledRow → Type 0) (test : TolledRow → Bool) (es : RowEvents) → EachRow P es → EachRow P (only test es)
each_only P test [] h = tt
each_only P test (skip ∷ es) h = each_only P test es h
each_only P test (bind row ∷ es) h =
    elim (test row) as (λ t. EachRow P (cond t (bind row) skip ∷ only test es)) [ true ↦ (h.0, each_only P test es h.1) | false ↦ each_only P test es h.1 ]

-- what a binding with any place of a visit has, each binding of the visit has
each_found : (Q : TolledRow → Type 0) (out : ℕ) (start : Node) (row : TolledRow) → ((place : List ℕ) → Q (with_node out start row place)) → (es : List (Event (List ℕ))) → EachRow Q (nodes_found out start row es)
each_found Q out start row g [] = tt
each_found Q out start row g (skip ∷ es) = each_found Q out start row g es
each_found Q out start row g (bind place ∷ es) = (g place, each_found Q out start row g es)

-- what each binding has that is made of a first binding by keys, each of these has
each_distinct : (P Q : TolledRow → Type 0) (docs : Documents) (keys : List Key) (make : TolledRow → RowEvents → TolledRow) → ((row : TolledRow) (es : RowEvents) → P row → Q (make row es)) → (seen : List (List KeyValue)) (es : RowEvents)
    → EachRow P es → EachRow Q (distinct docs keys make seen es)
each_distinct P Q docs keys make g seen [] h = tt
each_distinct P Q docs keys make g seen (skip ∷ es) h = each_distinct P Q docs keys make g seen es h
each_distinct P Q docs keys make g seen (bind row ∷ es) h =
    elim (is_seen (key_values docs keys row) seen)
    as (λ t. EachRow Q (cond t (skip ∷ distinct docs keys make seen es) (bind (make row es) ∷ distinct docs keys make (seen ++ key_values docs keys row ∷ []) es))) [
      | true ↦ each_distinct P Q docs keys make g seen es h.1
      | false ↦ (g row es h.0, each_distinct P Q docs keys make g (seen ++ key_values docs keys row ∷ []) es h.1)
    ]

-- skips have no bindings, so each has any property
each_skips : (P : TolledRow → Type 0) (es : RowEvents) → EachRow P (skips es)
each_skips P [] = tt
each_skips P (e ∷ es) = each_skips P es

-- what each binding of events has, each of the bindings alone has
all_rows : (P : TolledRow → Type 0) (es : RowEvents) → EachRow P es → AllByRecursion P (without_skips es)
all_rows P [] h = tt
all_rows P (skip ∷ es) h = all_rows P es h
all_rows P (bind row ∷ es) h = (h.0, all_rows P es h.1)

-- what a binding and some others have, each has once it is put among them
all_inserted : (P : TolledRow → Type 0) (less : TolledRow → TolledRow → Bool) (x : TolledRow) (xs : List TolledRow) → P x → AllByRecursion P xs → AllByRecursion P (insert_by less x xs)
all_inserted P less x [] h i = (h, tt)
all_inserted P less x (y ∷ ys) h i =
    elim (less y x) as (λ t. AllByRecursion P (cond t (y ∷ insert_by less x ys) (x ∷ y ∷ ys))) [ true ↦ (i.0, all_inserted P less x ys h i.1) | false ↦ (h, i) ]

-- what each of some bindings has, each of the sorted ones has
all_sorted : (P : TolledRow → Type 0) (less : TolledRow → TolledRow → Bool) (xs : List TolledRow) → AllByRecursion P xs → AllByRecursion P (sorted_by less xs)
all_sorted P less [] h = tt
all_sorted P less (x ∷ xs) h = all_inserted P less x (sorted_by less xs) h.0 (all_sorted P less xs h.1)

-- what each of some bindings has, each binding of the events that they are has
each_bound : (P : TolledRow → Type 0) (xs : List TolledRow) → AllByRecursion P xs → EachRow P (map bind xs)
each_bound P [] h = tt
each_bound P (x ∷ xs) h = (h.0, each_bound P xs h.1)

-- a property of each binding of these events is one of the first
pub each_first : (P : TolledRow → Type 0) (es : RowEvents) → EachRow P es → (row : TolledRow) (rest : RowEvents) → found es ≡ finds row rest → P row
each_first P [] h row rest e = cc
each_first P (skip ∷ es) h row rest e = each_first P es h row rest e
each_first P (bind a ∷ es) h row rest e = let z : a ≡ row = cc in subst P z h.0

-- what follows from what each binding of events has, each has
each_as : (P Q : TolledRow → Type 0) → ((row : TolledRow) → P row → Q row) → (es : RowEvents) → EachRow P es → EachRow Q es
each_as P Q f [] h = tt
each_as P Q f (skip ∷ es) h = each_as P Q f es h
each_as P Q f (bind row ∷ es) h = (f row h.0, each_as P Q f es h.1)

-- THE OPERATORS

module _ (docs : Documents) (fronts : ℕ → Front) (ks : ℕ → Kinds) (ls : ℕ → Labels) (of : ℕ → RowEvents) where
  -- the bindings of an operator hold what is told of its variables, where those of its inputs do
  op_rows : (o : Operator) → IsFit o ks → AllByRecursion (λ i. EachRow (Fits (ls i)) (of i)) (inputs_of o) → AllByRecursion (λ i. (v : ℕ) → ks i v ≡ Some a_node → ls i v ≡ Some None) (inputs_of o)
      → EachRow (Fits (op_labels o ls)) (op_events docs fronts o of)
  op_rows (source s out) fit h n = (fits_entry out None (λ v. None) (of_source (document_node s)) [] refl (λ v. refl), tt)
  op_rows (get_descendants i start path out) fit h n =
      each_expand (Fits (ls i)) (Fits (op_labels (get_descendants i start path out) ls)) (descendants docs start path out)
      (λ row k. each_found (Fits (op_labels (get_descendants i start path out) ls)) out (row_node row start) row (λ place. fits_entry out None (ls i) _ row refl k) (visits docs path (row_node row start))) (of i) h.0
  op_rows (join l r tests) fit h n =
      each_expand (Fits (ls l)) (Fits (op_labels (join l r tests) ls)) (pairs docs tests (of r))
      (λ a k. each_only (Fits (op_labels (join l r tests) ls)) (passes_all docs tests) (each_row (λ row. a ++ row) (of r))
      (each_made (Fits (ls r)) (Fits (op_labels (join l r tests) ls)) (λ row. a ++ row) (λ b i. fits_both (ls l) (ls r) a b k i) (of r) h.1.0)) (of l) h.0
  op_rows (over i (select t)) fit h n = each_only (Fits (ls i)) _ (of i) h.0
  op_rows (over i (order_by w desc)) fit h n =
      each_append (Fits (ls i)) (skips (of i)) (map bind (sorted_rows docs w desc (of i))) (each_skips (Fits (ls i)) (of i))
      (each_bound (Fits (ls i)) (sorted_rows docs w desc (of i)) (all_sorted (Fits (ls i)) _ (without_skips (of i)) (all_rows (Fits (ls i)) (of i) h.0)))
  op_rows (over i (project keys)) fit h n =
      each_distinct (Fits (ls i)) (Fits (op_labels (over i (project keys)) ls)) docs keys (projected keys) (λ row es k. fits_restrict keys (ls i) row (λ v e. n.0 v (fit v e))) [] (of i) h.0
  op_rows (over i (group_by [] piece out)) fit h n = (fits_entry out None (λ v. None) (trees (collected docs piece (of i) (ends 0))) [] refl (λ v. refl), tt)
  op_rows (over i (group_by (k ∷ keys) piece out)) fit h n =
      each_distinct (Fits (ls i)) (Fits (op_labels (over i (group_by (k ∷ keys) piece out)) ls)) docs (k ∷ keys) (group_row docs (k ∷ keys) (are_contiguous (k ∷ keys) (fronts i).vars) piece out)
      (λ row es j. fits_entry out None (λ v. cond (has_var (k ∷ keys) v) (ls i v) None) _ (tolled_restrict (k ∷ keys) row) refl (fits_restrict (k ∷ keys) (ls i) row (λ v e. n.0 v (fit.0 v e)))) [] (of i) h.0
  op_rows (over i (concatenate ps out)) fit h n =
      each_made (Fits (ls i)) (Fits (op_labels (over i (concatenate ps out)) ls)) (concatenated_row docs ps out) (λ row k. fits_entry out None (ls i) _ row refl k) (of i) h.0
  op_rows (over i (create_element label list out)) fit h n =
      each_made (Fits (ls i)) (Fits (op_labels (over i (create_element label list out)) ls)) (element_row docs label list out)
      (λ row k. fits_entry out (Some label) (ls i) (element label (piece_items docs (var_piece list) row (ends 0))) row (refl, (piece_items docs (var_piece list) row (ends 0), refl)) k) (of i) h.0
  op_rows (tuple_destroy i w) fit h n = tt

-- what holds a node holds no element
node_none : (k : Option Kind) (l : Option (Option (List ℕ))) → FitsKind k l → k ≡ Some a_node → l ≡ Some None
node_none None l h e = cc
node_none (Some a_node) l h e = h
node_none (Some an_element) l h e = cc
node_none (Some a_list) l h e = cc

-- in each binding of an operator its variables hold what their labels tell
pub rows_fit : (docs : Documents) (ops : List Operator) → IsTyped ops → (n : ℕ) → n < length ops → EachRow (Fits (labels ops n)) (events docs ops n)
rows_fit docs ops typed n h = below (suc n) n (omega arith) h
  where
    below : (m n : ℕ) → n < m → n < length ops → EachRow (Fits (labels ops n)) (events docs ops n)
    below zero n l h = absurd (omega (arith, l))
    below (suc m) n l h =
        let rows = each_weaker (λ i. i < n) (λ i. EachRow (Fits (labels ops i)) (events docs ops i)) (λ i k. below m i (omega (arith, l, k)) (omega (arith, h, k))) (inputs_of (op_at ops n)) (typed.inputs n h) in
        let nodes = each_weaker (λ i. i < n) (λ i. (v : ℕ) → kinds ops i v ≡ Some a_node → labels ops i v ≡ Some None)
        (λ i k v e. node_none (kinds ops i v) (labels ops i v) (labels_fit ops typed i v (omega (arith, h, k))) e) (inputs_of (op_at ops n)) (typed.inputs n h) in
        subst (EachRow (Fits (labels ops n))) (sym (events-of docs ops n (op_at ops n) refl (typed.inputs n h)))
        (each_as (Fits (op_labels (op_at ops n) (labels ops))) (Fits (labels ops n))
        (λ row k v. subst (λ (x : Option (Option (List ℕ))). Holds x (stands_in row v) (tolled_value row v)) (sym (labels_of ops typed n h (op_at ops n) refl v)) (k v))
        (op_events docs (front ops) (op_at ops n) (events docs ops)) (op_rows docs (front ops) (kinds ops) (labels ops) (events docs ops) (op_at ops n) (typed.fit n h) rows nodes))
