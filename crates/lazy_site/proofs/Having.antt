-- Valid plans have documents, and what is static of their roots.
use Rattle.std.proofs.Common.{inl, inr, ◌≡◌, ◌<◌, ℕ, zero, suc, Bool, true, false, List, [], ◌∷◌, ◌++◌, Option, Some, length, refl, ◌∙◌, sym, ap, subst, arith}
use Rattle.std.specs.Prelude.{IsTrue, ◌==◌}
use Rattle.std.specs.List.{AllByRecursion}
use Rattle.mix_base.specs.Events.{skip, bind, Find, nothing, finds, found}
use Rattle.mix_base.proofs.Choices.{and_parts}
use Rattle.mix_base.proofs.Firsts.{each_weaker}
use Rattle.mix_tree.specs.Forest.{LabelledTree, first_tree}
use Rattle.mix_tree.specs.Nodes.{Documents}
use Rattle.plan_core.specs.declared.plan.Plan.{Plan}
use Rattle.plan_core.specs.PlanMade.{plan_value}
use Rattle.plan_core.specs.Plans.{Operator, source, get_descendants, join, over, tuple_destroy, PlanValue, document}
use Rattle.plan_core.specs.Unary.{select, order_by, project, group_by, concatenate, create_element}
use Rattle.plan_core.specs.ByNumber.{op_at}
use Rattle.plan_core.specs.Typed.{IsTyped}
use Rattle.plan_core.specs.Valid.{Kinds, kinds, op_kinds, kept, a_list, an_element, inputs_of, is_single, IsValid}
use Rattle.plan_core.specs.Tolled.{Tolled, ends, item, is_item, item_label, plain}
use Rattle.plan_core.specs.TolledRows.{TolledRow, tolled_value}
use Rattle.plan_core.specs.Fronts.{Front, front}
use Rattle.plan_core.specs.Events.{RowEvents, expand, pairs, projected, concatenated_row, element_row, op_events, events, visited, first_row, element_alone, tolled_destroyed, tolled_document, TolledIsDocument}
use Rattle.plan_core.proofs.Distinct.{distinct_new}
use Rattle.plan_core.proofs.Found.{found-expand_some, found-pairs_yes, found-each_row_some}
use Rattle.plan_core.proofs.Numbers.{events-of}
use Rattle.lazy_steps.specs.Steps.{single}
use Rattle.plan_core.specs.Shapes.{shape_at}
use Rattle.lazy_steps.proofs.Shapes.{single_at}
use Rattle.lazy_site.specs.Labels.{Labels, op_labels, labels, stands_in}
use Rattle.plan_forms.specs.Forms.{form, makes_element, label_in, IsLast}
use Rattle.lazy_site.specs.Origins.{makes, IsMadeHere}
use Rattle.lazy_site.proofs.Numbering.{FitsKind, labels_fit, kind_of, labels_of}
use Rattle.lazy_site.proofs.Making.{cond_true}
use Rattle.lazy_site.proofs.RowLabels.{Holds, Fits, each_first, rows_fit}
use Rattle.plan_forms.proofs.Lasts.{valid_ends, last_is}

-- there is a binding among some events
abbrev HasRow : RowEvents → Type 0
HasRow es = (row : TolledRow) × ((rest : RowEvents) × (found es ≡ finds row rest))

-- a binding that is found in the first of two lists of events is found in both together
found_front : (xs ys : RowEvents) (row : TolledRow) (rest : RowEvents) → found xs ≡ finds row rest → found (xs ++ ys) ≡ finds row (rest ++ ys)
found_front [] ys row rest e = cc
found_front (skip ∷ xs) ys row rest e = found_front xs ys row rest e
found_front (bind b ∷ xs) ys row rest e = let z : b ≡ row = cc in let y : xs ≡ rest = cc in rw (z, y) refl

module _ (docs : Documents) (fronts : ℕ → Front) (sg : ℕ → Bool) (of : ℕ → RowEvents) where
  -- a single operator has a binding, where its single inputs have one
  op_one : (o : Operator) → is_single o sg ≡ true → AllByRecursion (λ i. sg i ≡ true → HasRow (of i)) (inputs_of o) → HasRow (op_events docs fronts o of)
  op_one (source s out) e h = (_, ([], refl))
  op_one (get_descendants i start path out) e h = cc
  op_one (join l r []) e h =
      let both = and_parts (sg l) (sg r) e in
      let a = h.0 both.0 in
      let b = h.1.0 both.1 in (
        _,
        (
          _,
          found-expand_some (pairs docs [] (of r)) (of l) a.0 a.1.0 a.1.1
              ∙ found_front (pairs docs [] (of r) a.0) (expand (pairs docs [] (of r)) a.1.0) _ _ (found-pairs_yes docs [] (of r) a.0 b.0 b.1.0 b.1.1 refl),
        ),
      )
  op_one (join l r (t ∷ tests)) e h = cc
  op_one (over i (select t)) e h = cc
  op_one (over i (order_by w desc)) e h = cc
  op_one (over i (project keys)) e h =
      let a = h.0 e in (_, (_, (distinct_new docs keys (projected keys) [] (of i) a.0 a.1.0 a.1.1 refl).is_found))
  op_one (over i (group_by [] piece out)) e h = (_, ([], refl))
  op_one (over i (group_by (k ∷ keys) piece out)) e h = cc
  op_one (over i (concatenate ps out)) e h = let a = h.0 e in (_, (_, found-each_row_some (concatenated_row docs ps out) (of i) a.0 a.1.0 a.1.1))
  op_one (over i (create_element label list out)) e h = let a = h.0 e in (_, (_, found-each_row_some (element_row docs label list out) (of i) a.0 a.1.0 a.1.1))
  op_one (tuple_destroy i w) e h = cc

-- a single operator has a binding
single_row : (docs : Documents) (ops : List Operator) → IsTyped ops → (n : ℕ) → n < length ops → single ops n ≡ true → HasRow (events docs ops n)
single_row docs ops typed n h e = below (suc n) n (omega arith) h e
  where
    below : (m n : ℕ) → n < m → n < length ops → single ops n ≡ true → HasRow (events docs ops n)
    below zero n l h e = absurd (omega (arith, l))
    below (suc m) n l h e =
        let rows = each_weaker (λ i. i < n) (λ i. single ops i ≡ true → HasRow (events docs ops i)) (λ i k. below m i (omega (arith, l, k)) (omega (arith, h, k))) (inputs_of (op_at ops n)) (typed.inputs n h) in
        subst HasRow (sym (events-of docs ops n (op_at ops n) refl (typed.inputs n h))) (op_one docs (front ops) (single ops) (events docs ops) (op_at ops n) (sym (single_at ops typed n h (shape_at ops n) refl) ∙ e) rows)

-- a variable that holds an element has a label
pub element_label : (ops : List Operator) → IsTyped ops → (n v : ℕ) → n < length ops → kinds ops n v ≡ Some an_element → (x : List ℕ) × (labels ops n v ≡ Some (Some x))
element_label ops typed n v h e = subst (λ (k : _). FitsKind k (labels ops n v)) e (labels_fit ops typed n v h)

module _ (docs : Documents) (ops : List Operator) (typed : IsTyped ops) (input v : ℕ) (h : IsLast ops input v) (label : List ℕ) (e : labels ops input v ≡ Some (Some label)) where
  -- where a first binding is found, the document is the element of it, with the label that the plan tells
  row_document : (row : TolledRow) (rest : RowEvents) → found (events docs ops input) ≡ finds row rest → (kids : Tolled) × (tolled_document docs ops ≡ item 0 label kids (ends 0))
  row_document row rest f =
      let fits = each_first (Fits (labels ops input)) (events docs ops input) (rows_fit docs ops typed input h.within) row rest f v in
      let z = (subst (λ (l : Option (Option (List ℕ))). Holds l (stands_in row v) (tolled_value row v)) e fits).1 in
      (z.0, ap (tolled_destroyed (events docs ops)) h.last ∙ ap (λ (x : Find TolledRow). element_alone (tolled_value (first_row x) v)) f ∙ ap element_alone z.1)

  -- the label of the document is the one that the plan tells
  pub label_of_root : IsTrue (is_item (tolled_document docs ops)) → label ≡ item_label (tolled_document docs ops)
  label_of_root i = go (found (events docs ops input)) refl
    where
      go : (x : Find TolledRow) → found (events docs ops input) ≡ x → label ≡ item_label (tolled_document docs ops)
      go nothing f =
          let z : tolled_document docs ops ≡ ends 0 = ap (tolled_destroyed (events docs ops)) h.last ∙ ap (λ (x : Find TolledRow). element_alone (tolled_value (first_row x) v)) f in
          let y : false ≡ true = ap is_item (sym z) ∙ i in cc
      go (finds row rest) f = sym (ap item_label (row_document row rest f).1)

  -- the plan's document has a first tree
  pub document_there : (t : LabelledTree) × (first_tree (plain (tolled_document docs ops)) ≡ Some t)
  document_there =
      let r = single_row docs ops typed input h.within h.single in
      let d = row_document r.0 r.1.0 r.1.1 in
      (record { label = label; kids = plain d.0 }, ap (λ (f : Tolled). first_tree (plain f)) d.1)

-- over any source documents a valid plan has a document
pub valid_document : (p : PlanValue) → IsTyped p.ops → TolledIsDocument p → (valid : IsValid p) (docs : Documents) → (t : LabelledTree) × (document (visited docs) p.ops ≡ Some t)
valid_document p typed law valid docs =
    let l = last_is p valid typed in
    let x = element_label p.ops typed (valid_ends p valid).input (valid_ends p valid).element l.within l.kind in
    let d = document_there docs p.ops typed (valid_ends p valid).input (valid_ends p valid).element l x.0 x.1 in
    (d.0, law valid docs ∙ d.1)

-- an operator that makes an element
element_made : (ks : ℕ → Kinds) (ls : ℕ → Labels) (o : Operator) (v : ℕ) → makes o v ≡ true → op_kinds o ks v ≡ Some an_element → (form o ≡ makes_element) × (op_labels o ls v ≡ Some (Some (label_in o)))
element_made ks ls (source s out) v m e = cc
element_made ks ls (get_descendants i start path out) v m e = cc
element_made ks ls (join l r tests) v m e = cc
element_made ks ls (over i (select t)) v m e = cc
element_made ks ls (over i (order_by w desc)) v m e = cc
element_made ks ls (over i (project keys)) v m e = cc
element_made ks ls (over i (group_by [] piece out)) v m e = let z : Some a_list ≡ Some an_element = sym (cond_true (out == v) (Some a_list) (kept [] (ks i) v) m) ∙ e in cc
element_made ks ls (over i (group_by (k ∷ keys) piece out)) v m e = let z : Some a_list ≡ Some an_element = sym (cond_true (out == v) (Some a_list) (kept (k ∷ keys) (ks i) v) m) ∙ e in cc
element_made ks ls (over i (concatenate ps out)) v m e = let z : Some a_list ≡ Some an_element = sym (cond_true (out == v) (Some a_list) (ks i v) m) ∙ e in cc
element_made ks ls (over i (create_element label list out)) v m e = (refl, cond_true (out == v) (Some (Some label)) (ls i v) m)
element_made ks ls (tuple_destroy i w) v m e = cc

-- an operator at which a variable that holds an element is made makes an element of it
pub made_there : (p : Plan) → IsTyped (plan_value p).ops → (n v : ℕ) → n < length (plan_value p).ops → IsMadeHere p n v → kinds (plan_value p).ops n v ≡ Some an_element
    → (form (op_at (plan_value p).ops n) ≡ makes_element) × (labels (plan_value p).ops n v ≡ Some (Some (label_in (op_at (plan_value p).ops n))))
made_there p typed n v h (inl k) e = cc
made_there p typed n v h (inr m) e =
    let z = element_made (kinds (plan_value p).ops) (labels (plan_value p).ops) (op_at (plan_value p).ops n) v m (sym (kind_of (plan_value p).ops typed n h (op_at (plan_value p).ops n) refl v) ∙ e) in
    (z.0, labels_of (plan_value p).ops typed n h (op_at (plan_value p).ops n) refl v ∙ z.1)
