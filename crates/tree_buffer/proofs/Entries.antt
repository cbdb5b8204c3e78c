-- Entries that are written.
use Rattle.std.proofs.Common.{◌≡◌, ℕ, ◌+◌, ◌<◌, List, [], ◌∷◌, ◌++◌, length, get_or, set, map, refl, ap, ◌∙◌, arith}
use Rattle.std.proofs.lemmas.List.{map-set, map_push, get_or-set_same, length-map, length-set, length_push}
use Rattle.lxp_core.specs.Open.{nil}
use Rattle.lxp_core.specs.Plain.{stacked}
use Rattle.tree_buffer.specs.Entries.{nodes, link_of, entry_label, list_of}
use Rattle.tree_buffer.specs.declared.entry.Entry.{Entry}
use Rattle.tree_buffer.proofs.Handed.{handed}
use Rattle.tree_buffer.proofs.Columns.{column, map-set_same}

-- where one entry is written whose list alone changes, only that list of the nodes changes
pub nodes-set : (es : List Entry) (q : ℕ) (e f : Entry) → q < length es → e ≡ get_or es q e
    → f.parent ≡ e.parent → f.index ≡ e.index → f.count ≡ e.count → f.first ≡ e.first → f.next ≡ e.next → f.label ≡ e.label
    → nodes (set es q f) ≡ record (nodes es) { rests = set (nodes es).rests q (stacked f.rest.items nil) }
nodes-set es q e f within read p i c d n l =
    rw (
      map-set_same link_of es q f e read (rw (p, i) refl) within,
      map-set_same (λ (e : Entry). e.count) es q f e read c within,
      map-set_same (λ (e : Entry). e.first) es q f e read d within,
      map-set_same (λ (e : Entry). e.next) es q f e read n within,
      map-set_same entry_label es q f e read (ap (λ l. l) l) within,
      map-set list_of es q f,
    ) refl

-- the list of the entry that was written is the list of the one that it became
pub rest-set : (es : List Entry) (q : ℕ) (f : Entry) → q < length es → get_or (nodes (set es q f)).rests q nil ≡ list_of f
rest-set es q f within =
    ap (λ os. get_or os q nil) (map-set list_of es q f) ∙ get_or-set_same (map list_of es) q (list_of f) nil (omega (arith, length-map es list_of))

-- there is a link of a node for each entry
pub length-links : (es : List Entry) → length (nodes es).links ≡ length es
length-links es = length-map es link_of

-- entries, one of which, q, gets one child more: what is written of q, of the child and of the sibling before it
module _ (es : List Entry) (q : ℕ) (e f child : Entry) (b : ℕ) (last next : Entry) (within : q < length es) (read : e ≡ get_or es q e)
    (f_parent : f.parent ≡ e.parent) (f_index : f.index ≡ e.index) (f_count : f.count ≡ e.count + 1) (f_next : f.next ≡ e.next) (f_label : f.label ≡ e.label)
    (c_parent : child.parent ≡ q) (c_index : child.index ≡ e.count) (c_count : child.count ≡ 0) (c_first : child.first ≡ 0) (c_next : child.next ≡ 0)
    (b_within : b < length es + 1) (b_read : last ≡ get_or (set es q f ++ child ∷ []) b last)
    (n_parent : next.parent ≡ last.parent) (n_index : next.index ≡ last.index) (n_count : next.count ≡ last.count) (n_first : next.first ≡ last.first)
    (n_label : next.label ≡ last.label) (n_rest : list_of next ≡ list_of last) (n_next : next.next ≡ length es) where
  -- the number of the sibling before is that of one of the entries
  longer : b < length (set es q f ++ child ∷ [])
  longer = omega (arith, b_within, length_push (set es q f) child, length-set es q f)

  -- the links of the entries that were written are those of before and the new node's
  new_links : map link_of (set (set es q f ++ child ∷ []) b next) ≡ map link_of es ++ (q, get_or (map (λ (e : Entry). e.count) es) q 0) ∷ []
  new_links =
      map-set_same link_of (set es q f ++ child ∷ []) b next last b_read (rw (n_parent, n_index) refl) longer
      ∙ map_push link_of (set es q f) child
      ∙ rw (map-set_same link_of es q f e read (rw (f_parent, f_index) refl) within, c_parent, c_index, column (λ (e : Entry). e.count) es q e 0 within read) refl

  -- the counts of the entries that were written are those of before, with one child of q more, and the new node's
  new_counts : map (λ (e : Entry). e.count) (set (set es q f ++ child ∷ []) b next) ≡ set (map (λ (e : Entry). e.count) es) q (get_or (map (λ (e : Entry). e.count) es) q 0 + 1) ++ 0 ∷ []
  new_counts =
      map-set_same (λ (e : Entry). e.count) (set es q f ++ child ∷ []) b next last b_read n_count longer
      ∙ map_push (λ (e : Entry). e.count) (set es q f) child
      ∙ rw (map-set (λ (e : Entry). e.count) es q f, c_count, f_count, column (λ (e : Entry). e.count) es q e 0 within read) refl

  -- the first children of the entries that were written are those of before, with q's as it was written, and the new node's
  new_firsts : map (λ (e : Entry). e.first) (set (set es q f ++ child ∷ []) b next) ≡ set (map (λ (e : Entry). e.first) es) q f.first ++ 0 ∷ []
  new_firsts =
      map-set_same (λ (e : Entry). e.first) (set es q f ++ child ∷ []) b next last b_read n_first longer
      ∙ map_push (λ (e : Entry). e.first) (set es q f) child
      ∙ rw (map-set (λ (e : Entry). e.first) es q f, c_first) refl

  -- the next siblings of the entries that were written are those of before, where the sibling before names the new node
  new_nexts : map (λ (e : Entry). e.next) (set (set es q f ++ child ∷ []) b next) ≡ set (map (λ (e : Entry). e.next) es ++ 0 ∷ []) b (length (map link_of es))
  new_nexts =
      map-set (λ (e : Entry). e.next) (set es q f ++ child ∷ []) b next
      ∙ rw (map_push (λ (e : Entry). e.next) (set es q f) child, map-set_same (λ (e : Entry). e.next) es q f e read f_next within, c_next, n_next, length-map es link_of) refl

  -- the labels of the entries that were written are those of before and the new node's
  new_labels : map entry_label (set (set es q f ++ child ∷ []) b next) ≡ map entry_label es ++ child.label ∷ []
  new_labels =
      map-set_same entry_label (set es q f ++ child ∷ []) b next last b_read (ap (λ l. l) n_label) longer
      ∙ map_push entry_label (set es q f) child
      ∙ rw (map-set_same entry_label es q f e read (ap (λ l. l) f_label) within) refl

  -- the lists of the entries that were written are those of before, with what is left to q, and the new node's
  new_rests : map list_of (set (set es q f ++ child ∷ []) b next) ≡ set (map list_of es) q (list_of f) ++ list_of child ∷ []
  new_rests =
      map-set_same list_of (set es q f ++ child ∷ []) b next last b_read n_rest longer
      ∙ map_push list_of (set es q f) child
      ∙ rw (map-set list_of es q f) refl

  -- the entries with one child of q more are the nodes with that node handed out
  pub nodes-handed : nodes (set (set es q f ++ child ∷ []) b next) ≡ handed (nodes es) q f.first b child.label (list_of child) (list_of f)
  nodes-handed = rw (new_links, new_counts, new_firsts, new_nexts, new_labels, new_rests) refl
