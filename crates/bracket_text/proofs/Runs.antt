-- What the machine does on the parts of a text.
use Rattle.std.proofs.Common.{◌≡◌, ◌∙◌, ◌==◌, ◌||◌, ℕ, Bool, true, false, cond, IsTrue, List, [], ◌∷◌, ◌++◌, Option, Some, None, arith, refl, ap, option_and_then, option_map}
use Rattle.std.proofs.lemmas.Bool.Decides.{nat_tests}
use Rattle.std.specs.List.{list_all}
use Rattle.mix_base.proofs.Runs.{run_byte}
use Rattle.mix_base.proofs.Choices.{and_parts, some_is, none_some}
use Rattle.mix_tree.specs.Forest.{LabelledTree, forest_of}
use Rattle.mix_tree.specs.Spelling.{is_bare}
use Rattle.mix_tree.specs.LabelGrammar.{SpellsLabel}
use Rattle.mix_tree.specs.LabelMachine as spelled
use Rattle.mix_tree.proofs.LabelComplete as labels
use Rattle.bracket_text.specs.Grammar.{is_blank, IsBlanks}
use Rattle.bracket_text.specs.Machine.{Frame, Mode, start, first, spelling, named, closed, State, at, leaf, after_label, after_tree_in, or_other, begin, after, begins, step_in, step, run, tree_in}

-- no blank is a byte of a bare label
pub blank_not_bare : (b : ℕ) → IsTrue (is_blank b) → is_bare b ≡ false
blank_not_bare b h = grind (arith, nat_tests)

-- no label begins with a blank
pub begins_not_blank : (b : ℕ) → IsTrue (begins b) → is_blank b ≡ false
begins_not_blank b h = grind (arith, nat_tests)

-- no label begins with a closing bracket
pub begins_not_close : (b : ℕ) → IsTrue (begins b) → (b == 93) ≡ false
begins_not_close b h = grind (arith, nat_tests)

-- a byte with which a spelling begins begins a label
pub spelling_begins : (b : ℕ) (s : spelled.Spot) → spelled.step spelled.start b ≡ Some s → IsTrue (begins b)
spelling_begins b s e = by_cases (is_bare b) (b == 34) _ _ e
  where
    by_cases : (c d : Bool) (p q : spelled.Spot) → cond c (Some p) (cond d (Some q) None) ≡ Some s → IsTrue (c || d)
    by_cases true d p q f = refl
    by_cases false true p q f = refl
    by_cases false false p q f = none_some s f

-- blanks where a tree must come change nothing
pub start_blanks : (a : List ℕ) (o : List Frame) → IsBlanks a → run (at o start) a ≡ Some (at o start)
start_blanks [] o h = refl
start_blanks (b ∷ a) o h =
    let parts = and_parts (is_blank b) (list_all is_blank a) h in
    rw parts.0 (start_blanks a o parts.1)

-- blanks right after an opening bracket change nothing
pub first_blanks : (a : List ℕ) (o : List Frame) → IsBlanks a → run (at o first) a ≡ Some (at o first)
first_blanks [] o h = refl
first_blanks (b ∷ a) o h =
    let parts = and_parts (is_blank b) (list_all is_blank a) h in
    rw parts.0 (first_blanks a o parts.1)

-- the label is at hand in the mode
abbrev pub IsNamed : Mode → List ℕ → Type 0
IsNamed start l = ⊥
IsNamed first l = ⊥
IsNamed (spelling s) l = spelled.label_in s ≡ Some l
IsNamed (named k) l = k ≡ l
IsNamed (closed t) l = ⊥

-- where a label may end, other bytes do not go on
pub label_stops : (s : spelled.Spot) (l : List ℕ) (b : ℕ) → spelled.label_in s ≡ Some l → is_bare b ≡ false → spelled.step s b ≡ None
label_stops spelled.start l b e h = none_some l e
label_stops (spelled.in_bare k) l b e h = rw h refl
label_stops (spelled.in_quotes k) l b e h = none_some l e
label_stops (spelled.in_escape k) l b e h = none_some l e
label_stops (spelled.after_quote k) l b e h = refl

-- a byte that goes on no label, after a label at hand, is taken as one after a label
pub named_by : (o : List Frame) (m : Mode) (l : List ℕ) (b : ℕ) → IsNamed m l → is_bare b ≡ false → step_in o m b ≡ after_label o l b
named_by o start l b h n = absurd h
named_by o first l b h n = absurd h
named_by o (spelling s) l b h n = ap (or_other o (after o (spelled.label_in s) b)) (label_stops s l b h n) ∙ ap (λ k. after o k b) h
named_by o (named k) l b h n = ap (λ j. after_label o j b) h
named_by o (closed t) l b h n = absurd h

-- a label at hand is a leaf at hand
pub named_hand : (m : Mode) (l : List ℕ) → IsNamed m l → tree_in m ≡ Some (leaf l)
named_hand start l h = absurd h
named_hand first l h = absurd h
named_hand (spelling s) l h = ap (option_map leaf) h
named_hand (named k) l h = ap (λ j. Some (leaf j)) h
named_hand (closed t) l h = absurd h

-- a tree at hand is a label at hand, or a tree that has ended
pub hand_cases : {Q : Type 0} (m : Mode) (t : LabelledTree) → tree_in m ≡ Some t → ((l : List ℕ) → IsNamed m l → leaf l ≡ t → Q) → (m ≡ closed t → Q) → Q
hand_cases start t e k j = none_some t e
hand_cases first t e k j = none_some t e
hand_cases {Q = Q} (spelling s) t e k j = by_label (spelled.label_in s) refl e
  where
    by_label : (l : Option (List ℕ)) → spelled.label_in s ≡ l → option_map leaf l ≡ Some t → Q
    by_label None f g = none_some t g
    by_label (Some l) f g = k l f (some_is (leaf l) t g)
hand_cases (named l) t e k j = k l refl (some_is (leaf l) t e)
hand_cases (closed u) t e k j = j (ap closed (some_is u t e))

-- a blank after a tree: it stays the tree at hand
pub tree_blank : (o : List Frame) (m : Mode) (t : LabelledTree) (b : ℕ) → tree_in m ≡ Some t → IsTrue (is_blank b) → (n : Mode) × (step_in o m b ≡ Some (at o n)) × (tree_in n ≡ Some t)
tree_blank o m t b e h = hand_cases m t e
    (λ l is same. (named l, named_by o m l b is (blank_not_bare b h) ∙ rw h refl, ap Some same))
    (λ same. (closed t, ap (λ k. step_in o k b) same ∙ rw h refl, refl))

-- after blanks the tree at hand is still at hand
pub tree_blanks : (a : List ℕ) (o : List Frame) (m : Mode) (t : LabelledTree) → tree_in m ≡ Some t → IsBlanks a → (n : Mode) × (run (at o m) a ≡ Some (at o n)) × (tree_in n ≡ Some t)
tree_blanks [] o m t e h = (m, refl, e)
tree_blanks (b ∷ a) o m t e h =
    let parts = and_parts (is_blank b) (list_all is_blank a) h in
    let one = tree_blank o m t b e parts.0 in
    let more = tree_blanks a o one.0 t one.2 parts.1 in
    (more.0, run_byte step b a (at o m) (at o one.0) one.1 ∙ more.1, more.2)

-- a comma after a tree puts it among the children of the innermost open one, and a tree must come
pub tree_comma : (f : Frame) (o : List Frame) (m : Mode) (t : LabelledTree) → tree_in m ≡ Some t → step_in (f ∷ o) m 44 ≡ Some (at (record { label = f.label; kids = f.kids ++ t ∷ [] } ∷ o) start)
tree_comma f o m t e = hand_cases m t e
    (λ l is same. named_by (f ∷ o) m l 44 is refl ∙ ap (λ u. after_tree_in (f ∷ o) u 44) same)
    (λ same. ap (λ k. step_in (f ∷ o) k 44) same)

-- after a tree, a closing bracket puts it below the innermost open one and closes that
pub tree_close : (f : Frame) (o : List Frame) (m : Mode) (t : LabelledTree) → tree_in m ≡ Some t
    → step_in (f ∷ o) m 93 ≡ Some (at o (closed (record { label = f.label; kids = forest_of (f.kids ++ t ∷ []) })))
tree_close f o m t e = hand_cases m t e
    (λ l is same. named_by (f ∷ o) m l 93 is refl ∙ ap (λ u. after_tree_in (f ∷ o) u 93) same)
    (λ same. ap (λ k. step_in (f ∷ o) k 93) same)

-- where the bytes after a label's first lead the machine as its spelling, so do all
label_more : (o : List Frame) (s t : spelled.Spot) (b : ℕ) (x : List ℕ) (r : Option spelled.Spot) → spelled.step s b ≡ r → option_and_then (λ u. spelled.run u x) r ≡ Some t
    → ((u : spelled.Spot) → spelled.run u x ≡ Some t → run (at o (spelling u)) x ≡ Some (at o (spelling t))) → run (at o (spelling s)) (b ∷ x) ≡ Some (at o (spelling t))
label_more o s t b x None f e k = none_some t e
label_more o s t b x (Some u) f e k = run_byte step b x (at o (spelling s)) (at o (spelling u)) (ap (or_other o (after o (spelled.label_in s) b)) f) ∙ k u e

-- the bytes of a label lead the machine as they lead its spelling
pub label_run : (x : List ℕ) (o : List Frame) (s t : spelled.Spot) → spelled.run s x ≡ Some t → run (at o (spelling s)) x ≡ Some (at o (spelling t))
label_run [] o s t e = ap (λ u. Some (at o (spelling u))) (some_is s t e)
label_run (b ∷ x) o s t e = label_more o s t b x (spelled.step s b) refl e (λ u f. label_run x o u t f)

-- a mode where a tree may begin
abbrev pub MayBegin : Mode → Type 0
MayBegin start = Unit {0}
MayBegin first = Unit {0}
MayBegin (spelling s) = ⊥
MayBegin (named l) = ⊥
MayBegin (closed t) = ⊥

-- a byte with which a label begins begins one in each mode where a tree may begin
pub begin_step : (o : List Frame) (m : Mode) (b : ℕ) → MayBegin m → IsTrue (begins b) → step_in o m b ≡ begin o b
begin_step o start b m h = rw (begins_not_blank b h) refl
begin_step o first b m h = rw (begins_not_blank b h, begins_not_close b h) refl
begin_step o (spelling s) b m h = absurd m
begin_step o (named l) b m h = absurd m
begin_step o (closed t) b m h = absurd m

-- a label after which its spelling may end
abbrev pub NamedAfter : List Frame → List ℕ → Option State → Type 0
NamedAfter o l r = (m : Mode) × (r ≡ Some (at o m)) × IsNamed m l

-- a label's bytes lead the machine from its first byte on as they lead its spelling
first_byte : (o : List Frame) (m : Mode) (l x : List ℕ) (b : ℕ) (s : spelled.Spot) (r : Option spelled.Spot) → MayBegin m → spelled.step spelled.start b ≡ r → option_and_then (λ u. spelled.run u x) r ≡ Some s
    → spelled.label_in s ≡ Some l → NamedAfter o l (run (at o m) (b ∷ x))
first_byte o m l x b s None h f e k = none_some s e
first_byte o m l x b s (Some u) h f e k = (
  spelling s,
  run_byte step b x (at o m) (at o (spelling u)) (begin_step o m b h (spelling_begins b u f) ∙ ap (or_other o None) f) ∙ label_run x o u s e,
  k,
)

-- a label is read as it is spelled
pub whole_label : (o : List Frame) (m : Mode) (w l : List ℕ) → MayBegin m → SpellsLabel w l → NamedAfter o l (run (at o m) w)
whole_label o m w l h k = by_text w (labels.spelled_reads w l k)
  where
    by_text : (x : List ℕ) → labels.ReadsAs x l → NamedAfter o l (run (at o m) x)
    by_text [] (s, r, e) = none_some l (ap spelled.label_in (some_is spelled.start s r) ∙ e)
    by_text (b ∷ x) (s, r, e) = first_byte o m l x b s (spelled.step spelled.start b) h refl r e
