-- What the spots of a buffer stand for.
use Rattle.std.proofs.Common.{◌≡◌, ℕ, zero, suc, ◌+◌, ◌<◌, ◌≤◌, true, false, Bool, List, [], ◌∷◌, ◌++◌, Option, Some, None, length, get_or, refl, ap, sym, subst, ◌∙◌, arith}
use Rattle.std.specs.Prelude.{MatchOption, IfSome, is_some, ◌==◌, if◌then◌else◌}
use Rattle.std.proofs.lemmas.Bool.Decides.{nat_tests}
use Rattle.std.proofs.lemmas.List.{same_from_push}
use Rattle.mix_tree.specs.Forest.{Forest, first_label}
use Rattle.mix_tree.specs.Place.{has_place, next_place}
use Rattle.lxp_core.specs.Open.{Open, nil, closed}
use Rattle.lxp_core.specs.View.{View}
use Rattle.tree_buffer.specs.Document.{document_node, has_next}
use Rattle.tree_buffer.specs.Nodes.{Nodes, place, places, parent, index, IsChild, IsLinked, IsLast}
use Rattle.tree_buffer.specs.Sourced.{Sourced, Moved}
use Rattle.tree_buffer.specs.Weights.{held, weight_from, below_node, after_node}
use Rattle.tree_buffer.proofs.Documents.{trees_at-push, has_next-push, next_place-push}
use Rattle.tree_buffer.specs.Entries.{nodes, link_of, AreLinked}
use Rattle.tree_buffer.specs.declared.entry.Entry.{Entry}
use Rattle.tree_buffer.proofs.Columns.{column}
use Rattle.tree_buffer.proofs.Entries.{length-links}
use Rattle.tree_buffer.proofs.Held.{held-child, held-top}
use Rattle.tree_buffer.proofs.Places.{length-places}

-- whether an option is some is told by what it has to be in either case
pub is_some_from : {X : Type 0} (r : Option X) (P : Type 0) (Q : X → Type 0) (b : Bool) → MatchOption r P Q → (P → b ≡ false) → ((x : X) → Q x → b ≡ true) → is_some r ≡ b
is_some_from None P Q b h f g = sym (f h)
is_some_from (Some x) P Q b h f g = sym (g x h)

-- what follows from what an option's value has to be holds of the value
pub if_some_from : {X : Type 0} (r : Option X) (P : Type 0) (Q R : X → Type 0) → MatchOption r P Q → ((x : X) → Q x → R x) → IfSome r R
if_some_from None P Q R h f = tt
if_some_from (Some x) P Q R h f = f x h

-- a number above 0 is not 0
not_first : (c : ℕ) → 0 < c → (c == 0) ≡ false
not_first c h = grind (arith, nat_tests)

-- what lies after a node that isn't the document node is its parent's children from the next index on
pub after_some : (w : Open → ℕ) (m : Nodes) (c : ℕ) → 0 < c → after_node w m c ≡ weight_from w m (parent m.links c) (index m.links c + 1)
after_some w m c h = ap (λ b. if b then 0 else weight_from w m (parent m.links c) (index m.links c + 1)) (not_first c h)

module _ (m : Nodes) (linked : IsLinked m.links m.counts m.firsts m.nexts) where
  -- the place of a child is below its parent's, at its index
  pub child_place : (q k c : ℕ) → IsChild m.links q k c → place m.links c ≡ place m.links q ++ k ∷ []
  child_place q k c h =
      linked.stands c h.after h.known ∙ ap (λ i. place m.links i ++ index m.links c ∷ []) h.parent ∙ ap (λ i. place m.links q ++ i ∷ []) h.index

  -- what lies after a child is the children from the next index on
  pub after_child : (w : Open → ℕ) (q k c : ℕ) → IsChild m.links q k c → after_node w m c ≡ weight_from w m q (k + 1)
  after_child w q k c h =
      after_some w m c h.after
      ∙ ap (λ p. weight_from w m p (index m.links c + 1)) h.parent ∙ ap (λ i. weight_from w m q (i + 1)) h.index

  -- a child with what lies below and after it weighs at most the children from its index on
  pub child_lighter : (w : Open → ℕ) (q k c : ℕ) → length m.rests ≡ length m.links → IsChild m.links q k c → 1 + below_node w m c + after_node w m c ≤ weight_from w m q k
  child_lighter w q k c e h =
      omega (
        arith,
        after_child w q k c h,
        ap (λ p. held w p 0 (places m.links) m.rests) (child_place q k c h),
        held-child w (place m.links q) k (places m.links) m.rests c (omega (arith, e, length-places m.links)) (omega (arith, h.known, length-places m.links)) (child_place q k c h),
      )

  -- where a child was handed out, the document has one
  pub child_told : (v : View) (n : ℕ) (q k c : ℕ) → Sourced v n m → v.told n ≡ true → IsChild m.links q k c → has_place (document_node v n) (place m.links q ++ k ∷ []) ≡ true
  child_told v n q k c s told h =
      ap (has_place (document_node v n)) (sym (child_place q k c h)) ∙ ap is_some (s.stands told c h.known)

  -- where no child is left, the document has none
  pub none_told : (v : View) (n : ℕ) (q : ℕ) → Sourced v n m → v.told n ≡ true → q < length m.links → get_or m.rests q nil ≡ nil → has_place (document_node v n) (place m.links q ++ get_or m.counts q 0 ∷ []) ≡ false
  none_told v n q s told h empty =
      ap is_some (ap first_label (trees_at-push (document_node v n) (place m.links q) (get_or m.counts q 0)) ∙ ap first_label (s.closes told q h ∙ ap (closed (v.forest n)) empty))

  -- what lies after a node weighs no more once the nodes have moved
  pub after_moved : (w w' : Open → ℕ) (m' : Nodes) (i : ℕ) → i < length m.links → Moved w m w' m' → after_node w' m' i ≤ after_node w m i
  after_moved w w' m' zero h moved = omega arith
  after_moved w w' m' (suc i) h moved =
      omega (
        arith,
        after_some w m (suc i) (omega arith),
        after_some w' m' (suc i) (omega arith),
        moved.lighter (parent m.links (suc i)) (index m.links (suc i) + 1) (omega (arith, linked.back (suc i) (omega arith) h)),
        ap (λ (l : ℕ × ℕ). weight_from w' m' l.0 (l.1 + 1)) (moved.links (suc i) h),
      )

-- the first child that an entry names is the child at index 0, where a child was handed out
pub first_child : (es : List Entry) (p : ℕ) (e : Entry) → AreLinked es → p < length (nodes es).links → e ≡ get_or es p e → 0 < e.count → IsChild (nodes es).links p 0 e.first
first_child es p e linked within read some =
    let inside : p < length es = omega (arith, within, length-links es) in
    subst (IsChild (nodes es).links p 0) (column (λ (e : Entry). e.first) es p e 0 inside read)
    (linked.down p within (omega (arith, some, column (λ (e : Entry). e.count) es p e 0 inside read)))

-- the parent and the index in the link of a node are those of its entry
pub link_read : (es : List Entry) (p : ℕ) (e : Entry) → p < length (nodes es).links → e ≡ get_or es p e → (parent (nodes es).links p ≡ e.parent) × (index (nodes es).links p ≡ e.index)
link_read es p e within read =
    let inside : p < length es = omega (arith, within, length-links es) in
    let l : get_or (nodes es).links p (0, 0) ≡ link_of e = column link_of es p e (0, 0) inside read in
    (ap (λ x. x.0) l, ap (λ x. x.1) l)

-- how many children of a node were handed out is the count of its entry
pub count_read : (es : List Entry) (p : ℕ) (e : Entry) → p < length (nodes es).links → e ≡ get_or es p e → get_or (nodes es).counts p 0 ≡ e.count
count_read es p e within read = column (λ (e : Entry). e.count) es p e 0 (omega (arith, within, length-links es)) read

-- the next sibling that an entry names is the child of its parent at the next index, where that was handed out
pub next_child : (es : List Entry) (p : ℕ) (e f : Entry) → AreLinked es → 0 < p → p < length (nodes es).links → e ≡ get_or es p e → f ≡ get_or es e.parent f → e.index + 1 < f.count → IsChild (nodes es).links e.parent (e.index + 1) e.next
next_child es p e f linked some within read above more =
    let l = link_read es p e within read in
    let up : e.parent < length (nodes es).links = omega (arith, linked.back p some within, l.0) in
    subst (IsChild (nodes es).links e.parent (e.index + 1)) (column (λ (e : Entry). e.next) es p e 0 (omega (arith, within, length-links es)) read)
    (subst (λ q. IsChild (nodes es).links q (e.index + 1) (get_or (nodes es).nexts p 0)) l.0
    (subst (λ k. IsChild (nodes es).links (parent (nodes es).links p) (k + 1) (get_or (nodes es).nexts p 0)) l.1
    (linked.right p some within (omega (arith, more, l.1, ap (λ q. get_or (nodes es).counts q 0) l.0, count_read es e.parent f up above)))))

-- a node after which no sibling was handed out is the last of them
pub last_child : (es : List Entry) (p : ℕ) (e f : Entry) → AreLinked es → 0 < p → p < length (nodes es).links → e ≡ get_or es p e → f ≡ get_or es e.parent f → f.count ≤ e.index + 1 → e.index + 1 ≡ f.count
last_child es p e f linked some within read above no_more =
    let l = link_read es p e within read in
    let up : e.parent < length (nodes es).links = omega (arith, linked.back p some within, l.0) in
    omega (arith, no_more, l.1, linked.counted p some within, ap (λ q. get_or (nodes es).counts q 0) l.0, count_read es e.parent f up above)

-- a node that isn't the document node, with its entry
module _ (es : List Entry) (p : ℕ) (e : Entry) (linked : AreLinked es) (some : 0 < p) (within : p < length (nodes es).links) (read : e ≡ get_or es p e) where
  -- the parent is one of the nodes
  pub up : e.parent < length (nodes es).links
  up = omega (arith, linked.back p some within, (link_read es p e within read).0, within)

  -- the node's place is below its parent's
  pub own_place : place (nodes es).links p ≡ place (nodes es).links e.parent ++ e.index ∷ []
  own_place =
      let l = link_read es p e within read in
      linked.stands p some within ∙ ap (λ q. place (nodes es).links q ++ index (nodes es).links p ∷ []) l.0 ∙ ap (λ k. place (nodes es).links e.parent ++ k ∷ []) l.1

  -- the place of the node's next sibling is its parent's place and then the node's index and one
  pub next_is : next_place (place (nodes es).links p) ≡ Some (place (nodes es).links e.parent ++ (e.index + 1) ∷ [])
  next_is = ap next_place own_place ∙ next_place-push (place (nodes es).links e.parent) e.index

  -- the node has a next sibling where its parent has a child at the next index
  pub right_is : (f : Forest) → has_next f (place (nodes es).links p) ≡ has_place f (place (nodes es).links e.parent ++ (e.index + 1) ∷ [])
  right_is f = ap (has_next f) own_place ∙ has_next-push f (place (nodes es).links e.parent) e.index

  -- what lies after the node is its parent's children from the next index on
  pub after_is : (w : Open → ℕ) → after_node w (nodes es) p ≡ weight_from w (nodes es) e.parent (e.index + 1)
  after_is w =
      let l = link_read es p e within read in
      after_some w (nodes es) p some ∙ ap (λ q. weight_from w (nodes es) q (index (nodes es).links p + 1)) l.0 ∙ ap (λ k. weight_from w (nodes es) e.parent (k + 1)) l.1

  -- the node is the last child of its parent, where no sibling after it was handed out
  pub is_last : (f : Entry) → f ≡ get_or es e.parent f → f.count ≤ e.index + 1 → IsLast (nodes es) e.parent p
  is_last f above no_more =
      let l = link_read es p e within read in
      record {
        child = record { known = within; after = some; parent = l.0; index = refl };
        last = omega (arith, l.1, last_child es p e f linked some within read above no_more, count_read es e.parent f up above);
      }

-- a list with one member more has a first one
first_of_push : (p : List ℕ) (k : ℕ) → (j : ℕ) × ((r : List ℕ) × (p ++ k ∷ [] ≡ j ∷ r))
first_of_push [] k = (k, ([], refl))
first_of_push (x ∷ p) k = (x, (p ++ k ∷ [], refl))

-- what lies below a node weighs at most what lies below the document node
pub below_top : (m : Nodes) → IsLinked m.links m.counts m.firsts m.nexts → (w : Open → ℕ) (i : ℕ) → length m.rests ≡ length m.links → 0 < i → i < length m.links → below_node w m i ≤ below_node w m 0
below_top m linked w i e some within =
    let f = first_of_push (place m.links (parent m.links i)) (index m.links i) in
    let is : place m.links i ≡ f.0 ∷ f.1.0 = linked.stands i some within ∙ f.1.1 in
    omega (
      arith,
      held-top w f.0 f.1.0 (places m.links) m.rests i (omega (arith, e, length-places m.links)) (omega (arith, within, length-places m.links)) is,
      ap (λ p. held w p 0 (places m.links) m.rests) is,
      ap (λ p. held w p 0 (places m.links) m.rests) linked.top,
    )

-- a node at the place of a child is that child
pub child_at : (m : Nodes) → IsLinked m.links m.counts m.firsts m.nexts → (q k c : ℕ) → q < length m.links → c < length m.links
    → place m.links c ≡ place m.links q ++ k ∷ [] → IsChild m.links q k c
child_at m linked q k zero within inside e = absurd (empty (place m.links q) (sym linked.top ∙ e))
  where
    empty : (p : List ℕ) → [] ≡ p ++ k ∷ [] → ⊥
    empty [] e = cc
    empty (x ∷ p) e = cc
child_at m linked q k (suc c) within inside e =
    let parts = same_from_push (place m.links (parent m.links (suc c))) (place m.links q) (index m.links (suc c)) k (sym (linked.stands (suc c) (omega arith) inside) ∙ e) in
    let above : parent m.links (suc c) < length m.links = omega (arith, linked.back (suc c) (omega arith) inside, inside) in
    record { known = inside; after = omega arith; parent = linked.distinct (parent m.links (suc c)) q above within parts.0; index = parts.1 }

-- a child's index is one of those that were handed out
pub child_counted : (m : Nodes) → IsLinked m.links m.counts m.firsts m.nexts → (q k c : ℕ) → IsChild m.links q k c → k < get_or m.counts q 0
child_counted m linked q k c h =
    omega (arith, linked.counted c h.after h.known, h.index, ap (λ i. get_or m.counts i 0) h.parent)
