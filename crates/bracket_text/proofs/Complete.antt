-- The machine reads each text of the grammar as the tree that it spells.
use Rattle.std.proofs.Common.{◌≡◌, inl, inr, ◌∙◌, ℕ, IsTrue, List, [], ◌∷◌, ◌++◌, Option, Some, refl, sym, ap, append_assoc, option_and_then}
use Rattle.std.specs.List.{list_all}
use Rattle.mix_base.proofs.Runs.{run_then, run_byte}
use Rattle.mix_base.proofs.Lists.{append_nil}
use Rattle.mix_base.proofs.Choices.{and_parts, some_is}
use Rattle.mix_tree.specs.Forest.{Forest, none, tree, LabelledTree, forest_of}
use Rattle.bracket_text.specs.Grammar.{is_blank, IsBlanks, SpellsBrackets, SpellsRest, SpellsTrees, Spells, SpellsAtMostOne}
use Rattle.bracket_text.specs.Machine.{Frame, Mode, start, first, named, closed, State, at, leaf, after_label, run, tree_in, whole, empty, tree_of, step}
use Rattle.bracket_text.proofs.Runs.{blank_not_bare, start_blanks, first_blanks, IsNamed, named_by, named_hand, tree_blanks, tree_comma, tree_close, MayBegin, NamedAfter, whole_label}

-- the trees of a forest in a list
abbrev pub trees_of : Forest → List LabelledTree
trees_of none = []
trees_of (tree l k n) = record { label = l; kids = k } ∷ trees_of n

-- the list of a forest's trees makes that forest again
pub forest_of-trees_of : (f : Forest) → forest_of (trees_of f) ≡ f
forest_of-trees_of none = refl
forest_of-trees_of (tree l k n) = ap (tree l k) (forest_of-trees_of n)

-- a frame with more trees among its children
abbrev pub with_kids : Frame → List LabelledTree → Frame
with_kids f ts = record { label = f.label; kids = f.kids ++ ts }

-- the state after the text of trees below an open one: the last is at hand, and those before it are below the open one
pub record After (f : Frame) (o : List Frame) (ts : List LabelledTree) (s : State) : Type 0 where
  pub before : List LabelledTree
  pub last : LabelledTree
  pub mode : Mode
  pub all : ts ≡ before ++ last ∷ []
  pub hand : tree_in mode ≡ Some last
  pub is : s ≡ at (with_kids f before ∷ o) mode

-- a run leads to a state of this property
abbrev pub Ends : (State → Type 0) → Option State → Type 0
Ends P o = (s : State) × (o ≡ Some s) × P s

-- a run ends with this tree at hand
abbrev pub TreeAfter : List Frame → LabelledTree → Option State → Type 0
TreeAfter o t r = (m : Mode) × (r ≡ Some (at o m)) × (tree_in m ≡ Some t)

-- text of trees leads from a place where a tree may begin to where they stand after it
abbrev pub ReadsTrees : Forest → List ℕ → Type 0
ReadsTrees k x = (f : Frame) (o : List Frame) (m : Mode) → MayBegin m → Ends (After f o (trees_of k)) (run (at (f ∷ o) m) x)

-- a blank after a label ends it
blank_label : (o : List Frame) (l : List ℕ) (b : ℕ) → IsTrue (is_blank b) → after_label o l b ≡ Some (at o (named l))
blank_label o l b h = rw h refl

-- blanks after a label leave that label at hand
name_blanks : (a : List ℕ) (o : List Frame) (m : Mode) (l : List ℕ) → IsNamed m l → IsBlanks a → NamedAfter o l (run (at o m) a)
name_blanks [] o m l n h = (m, refl, n)
name_blanks (b ∷ a) o m l n h =
    let parts = and_parts (is_blank b) (list_all is_blank a) h in
    let more = name_blanks a o (named l) l refl parts.1 in
    (more.0, run_byte step b a (at o m) (at o (named l)) (named_by o m l b n (blank_not_bare b parts.0) ∙ blank_label o l b parts.0) ∙ more.1, more.2)

-- after a label, blanks, the opening bracket and blanks, the machine has that tree open
opened : (l a b : List ℕ) (o : List Frame) (m : Mode) → IsNamed m l → IsBlanks a → IsBlanks b → run (at o m) (a ++ 91 ∷ b) ≡ Some (at (record { label = l; kids = [] } ∷ o) first)
opened l a b o m n ha hb =
    let blanks = name_blanks a o m l n ha in
    run_then step a (91 ∷ b) (at o m) (at o blanks.0) blanks.1
    ∙ run_byte step 91 b (at o blanks.0) (at (record { label = l; kids = [] } ∷ o) first) (named_by o blanks.0 l 91 blanks.2 refl) ∙ first_blanks b _ hb

-- after the trees below an open one, blanks and the closing bracket close the tree with them below it
closes : (l c : List ℕ) (k : Forest) (o : List Frame) (s : State) → IsBlanks c → After (record { label = l; kids = [] }) o (trees_of k) s → run s (c ++ 93 ∷ []) ≡ Some (at o (closed (record { label = l; kids = k })))
closes l c k o s hc h =
    let f : Frame = with_kids (record { label = l; kids = [] }) h.before in
    let blanks = tree_blanks c (f ∷ o) h.mode h.last h.hand hc in
    ap (λ u. run u (c ++ 93 ∷ [])) h.is ∙ run_then step c (93 ∷ []) (at (f ∷ o) h.mode) (at (f ∷ o) blanks.0) blanks.1
    ∙ ap (option_and_then (λ u. run u [])) (tree_close f o blanks.0 h.last blanks.2)
    ∙ ap (λ ts. Some (at o (closed (record { label = l; kids = forest_of ts })))) (sym h.all)
    ∙ ap (λ g. Some (at o (closed (record { label = l; kids = g })))) (forest_of-trees_of k)

-- brackets round the text of children, or nothing, lead from their label to the tree with them below it
brackets_read : (l : List ℕ) (k : Forest) (x : List ℕ) (o : List Frame) (m : Mode) → IsNamed m l → ((y : List ℕ) → SpellsTrees k y → ReadsTrees k y) → SpellsBrackets k (SpellsTrees k) x
    → TreeAfter o (record { label = l; kids = k }) (run (at o m) x)
brackets_read l none x o m n reads (inl e) = (m, ap (run (at o m)) e, named_hand m l n)
brackets_read l none x o m n reads (inr (a, b, ha, hb, e)) =
    (closed (leaf l), ap (run (at o m)) e ∙ run_then step (a ++ 91 ∷ b) (93 ∷ []) (at o m) _ (opened l a b o m n ha hb), refl)
brackets_read l (tree l' k' n') x o m n reads (a, b, y, c, ha, hb, hc, hy, e) =
    let inner = reads y hy (record { label = l; kids = [] }) o first tt in
    let regrouped : a ++ 91 ∷ b ++ y ++ c ++ 93 ∷ [] ≡ (a ++ 91 ∷ b) ++ (y ++ (c ++ 93 ∷ [])) = append_assoc ((a ++ 91 ∷ b) ++ y) c (93 ∷ []) ∙ append_assoc (a ++ 91 ∷ b) y (c ++ 93 ∷ []) in (
      closed (record { label = l; kids = tree l' k' n' }),
      ap (run (at o m)) (e ∙ regrouped) ∙ run_then step (a ++ 91 ∷ b) (y ++ (c ++ 93 ∷ [])) (at o m) _ (opened l a b o m n ha hb)
          ∙ run_then step y (c ++ 93 ∷ []) _ inner.0 inner.1 ∙ closes l c (tree l' k' n') o inner.0 hc inner.2,
      refl,
    )

-- a comma, blanks around it, and other trees after the one at hand; or nothing
rest_read : (f : Frame) (o : List Frame) (m : Mode) (t : LabelledTree) (n : Forest) (x : List ℕ) → ((y : List ℕ) → SpellsTrees n y → ReadsTrees n y) → SpellsRest n (SpellsTrees n) x
    → tree_in m ≡ Some t → Ends (After f o (t ∷ trees_of n)) (run (at (with_kids f [] ∷ o) m) x)
rest_read f o m t none x reads e h =
    (at (with_kids f [] ∷ o) m, ap (run (at (with_kids f [] ∷ o) m)) e, record { before = []; last = t; mode = m; all = refl; hand = h; is = refl })
rest_read f o m t (tree l' k' n') x reads (a, b, y, ha, hb, hy, e) h =
    let blanks = tree_blanks a (with_kids f [] ∷ o) m t h ha in
    let g : Frame = record { label = f.label; kids = (f.kids ++ []) ++ t ∷ [] } in
    let inner = reads y hy g o start tt in
    let comma : run (at (with_kids f [] ∷ o) m) (a ++ 44 ∷ b) ≡ Some (at (g ∷ o) start) =
    run_then step a (44 ∷ b) _ (at (with_kids f [] ∷ o) blanks.0) blanks.1 ∙ ap (option_and_then (λ s. run s b)) (tree_comma (with_kids f []) o blanks.0 t blanks.2) ∙ start_blanks b (g ∷ o) hb in (
      inner.0,
      ap (run (at (with_kids f [] ∷ o) m)) (e ∙ refl) ∙ run_then step (a ++ 44 ∷ b) y _ _ comma ∙ inner.1,
      record {
        before = t ∷ inner.2.before;
        last = inner.2.last;
        mode = inner.2.mode;
        all = ap (λ ts. t ∷ ts) inner.2.all;
        hand = inner.2.hand;
        is = inner.2.is ∙ ap (λ ts. at (record { label = f.label; kids = ts } ∷ o) inner.2.mode) (ap (λ ts. ts ++ inner.2.before) (append_assoc f.kids [] (t ∷ [])) ∙ append_assoc f.kids (t ∷ []) inner.2.before);
      },
    )

-- the text of trees is read as those trees
pub trees_read : (k : Forest) (x : List ℕ) → SpellsTrees k x → ReadsTrees k x
trees_read none x h f o m b = absurd h
trees_read (tree l k n) x (w, y, z, hl, hk, hn, e) f o m b =
    let label = whole_label (f ∷ o) m w l b hl in
    let below = brackets_read l k y (f ∷ o) label.0 label.2 (trees_read k) hk in
    let same : at (f ∷ o) below.0 ≡ at (with_kids f [] ∷ o) below.0 = ap (λ ts. at (record { label = f.label; kids = ts } ∷ o) below.0) (sym (append_nil f.kids)) in
    let after = rest_read f o below.0 (record { label = l; kids = k }) n z (trees_read n) hn below.2 in
    (after.0, ap (run (at (f ∷ o) m)) (e ∙ append_assoc w y z) ∙ run_then step w (y ++ z) _ _ label.1 ∙ run_then step y z _ _ (below.1 ∙ ap Some same) ∙ after.1, after.2)

-- each text of the grammar is read
pub spelled_read : (x : List ℕ) (t : LabelledTree) → Spells x t → tree_of x ≡ Some t
spelled_read x t (a, y, b, ha, hb, (w, z, v, hl, hk, hn, ey), e) =
    let label = whole_label [] start w t.label tt hl in
    let below = brackets_read t.label t.kids z [] label.0 label.2 (trees_read t.kids) hk in
    let one : run empty y ≡ Some (at [] below.0) =
    ap (run empty) (ey ∙ ap (λ r. w ++ z ++ r) hn ∙ append_nil (w ++ z)) ∙ run_then step w z _ _ label.1 ∙ below.1 in
    let blanks = tree_blanks b [] below.0 t below.2 hb in
    ap (λ r. option_and_then whole (run empty r)) (e ∙ append_assoc a y b)
    ∙ ap (option_and_then whole) (run_then step a (y ++ b) _ _ (start_blanks a [] ha) ∙ run_then step y b _ _ one ∙ blanks.1) ∙ blanks.2

-- no text spells two trees
pub one_spelled : SpellsAtMostOne
one_spelled x t u s r = some_is t u (sym (spelled_read x t s) ∙ spelled_read x u r)
