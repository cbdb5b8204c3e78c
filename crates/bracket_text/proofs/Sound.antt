-- What the machine has read is a prefix of a text of the grammar.
use Rattle.std.proofs.Common.{◌≡◌, inl, inr, ◌∙◌, ◌==◌, ℕ, IsTrue, List, [], ◌∷◌, ◌++◌, Option, Some, None, refl, sym, ap, subst, append_assoc, option_and_then, option_map}
use Rattle.mix_base.proofs.Lists.{append_nil}
use Rattle.mix_base.proofs.Choices.{list_all-push, number_is, some_is, none_some, Gives, either}
use Rattle.mix_tree.specs.Forest.{LabelledTree, alone, forest_of}
use Rattle.mix_tree.specs.LabelGrammar.{SpellsLabel}
use Rattle.mix_tree.specs.LabelMachine as spelled
use Rattle.mix_tree.proofs.LabelSound as labels
use Rattle.bracket_text.specs.Grammar.{is_blank, IsBlanks, SpellsBrackets, SpellsTrees, Spells}
use Rattle.bracket_text.specs.Machine.{Frame, Mode, start, first, spelling, named, closed, State, leaf, after_tree, after_tree_in, after_label, or_other, begin, after, close_empty, step_in, step, run, tree_in, whole_in, whole, empty, tree_of}

-- the text is that of one tree
abbrev pub SpellsOne : LabelledTree → List ℕ → Type 0
SpellsOne t x = SpellsTrees (alone t) x

-- the text of the trees below an open one, with the comma after each
abbrev pub KidsText : List LabelledTree → List ℕ → Type 0
KidsText [] m = m ≡ []
KidsText (t ∷ ts) m = (x c d : List ℕ) × SpellsTrees (forest_of (t ∷ ts)) x × IsBlanks c × IsBlanks d × (m ≡ x ++ c ++ 44 ∷ d)

-- the text up to where a tree may begin
abbrev pub OpenText : List Frame → List ℕ → Type 0
OpenText [] p = IsBlanks p
OpenText (f ∷ o) p =
    (q w a b m : List ℕ) × OpenText o q × SpellsLabel w f.label × IsBlanks a × IsBlanks b × KidsText f.kids m × (p ≡ q ++ (w ++ (a ++ (91 ∷ b) ++ m)))

-- the innermost open tree has no child yet
abbrev pub NoKids : List Frame → Type 0
NoKids [] = ⊥
NoKids (f ∷ o) = f.kids ≡ []

-- the text with a tree at hand
abbrev pub HandText : List Frame → LabelledTree → List ℕ → Type 0
HandText o t p = (q x a : List ℕ) × OpenText o q × SpellsOne t x × IsBlanks a × (p ≡ q ++ (x ++ a))

-- the text with a label that has ended
abbrev pub NameText : List Frame → List ℕ → List ℕ → Type 0
NameText o l p = (q w a : List ℕ) × OpenText o q × SpellsLabel w l × IsBlanks a × (p ≡ q ++ (w ++ a))

-- the text leads up to the mode below the open trees
abbrev pub ModeText : List Frame → Mode → List ℕ → Type 0
ModeText o start p = OpenText o p
ModeText o first p = OpenText o p × NoKids o
ModeText o (spelling s) p = (q w : List ℕ) × OpenText o q × labels.Writes w s × (p ≡ q ++ w)
ModeText o (named l) p = NameText o l p
ModeText o (closed t) p = HandText o t p

-- the text leads up to the state
abbrev pub StateText : List ℕ → State → Type 0
StateText p s = ModeText s.open' s.mode p

-- a text that leads up to a label that has ended leads up to a leaf at hand
pub hand_of_name : (o : List Frame) (l p : List ℕ) → NameText o l p → HandText o (leaf l) p
hand_of_name o l p (q, w, a, ho, hl, ha, e) = (q, w, a, ho, (w, [], [], hl, inl refl, refl, sym (append_nil (w ++ []) ∙ append_nil w)), ha, e)

-- a text that leads up to a label that may end leads up to that label ended
pub name_of_spelling : (o : List Frame) (s : spelled.Spot) (l p : List ℕ) → spelled.label_in s ≡ Some l → ModeText o (spelling s) p → NameText o l p
name_of_spelling o s l p f (q, w, ho, hw, e) = (q, w, [], ho, labels.label_spelled w s l hw f, refl, e ∙ ap (λ r. q ++ r) (sym (append_nil w)))

-- texts one after another are the same however they are grouped
comma_then : (c x d w g y : List ℕ) → c ++ (x ++ d ++ (w ++ (g ++ y))) ≡ (c ++ (x ++ d ++ (w ++ g))) ++ y
comma_then c x d w g y = simp append_assoc

-- one blank more after the opening bracket or after a comma
kids_blank : (ts : List LabelledTree) (c m : List ℕ) (b : ℕ) → IsTrue (is_blank b) → IsBlanks c → KidsText ts m
    → (d : List ℕ) × (n : List ℕ) × IsBlanks d × KidsText ts n × ((91 ∷ d) ++ n ≡ ((91 ∷ c) ++ m) ++ b ∷ [])
kids_blank [] c m b h hc hm =
    (c ++ b ∷ [], [], list_all-push is_blank c b hc h, refl, ap (λ r. 91 ∷ r) (append_nil (c ++ b ∷ []) ∙ ap (λ r. r ++ b ∷ []) (sym (ap (λ r. c ++ r) hm ∙ append_nil c))))
kids_blank (t ∷ ts) c m b h hc (x, d, g, hx, hd, hg, e) =
    let inner : c ++ (x ++ d ++ 44 ∷ (g ++ b ∷ [])) ≡ (c ++ (x ++ d ++ 44 ∷ g)) ++ b ∷ [] = comma_then c x d (44 ∷ []) g (b ∷ []) in
    let regrouped : (91 ∷ c) ++ (x ++ d ++ 44 ∷ (g ++ b ∷ [])) ≡ ((91 ∷ c) ++ (x ++ d ++ 44 ∷ g)) ++ b ∷ [] = ap (λ r. 91 ∷ r) inner in
    (c, x ++ d ++ 44 ∷ (g ++ b ∷ []), hc, (x, d, g ++ b ∷ [], hx, hd, list_all-push is_blank g b hg h, refl), regrouped ∙ ap (λ r. ((91 ∷ c) ++ r) ++ b ∷ []) (sym e))

-- a text up to where a tree may begin stays one with a blank added
open_blank : (o : List Frame) (p : List ℕ) (b : ℕ) → IsTrue (is_blank b) → OpenText o p → OpenText o (p ++ b ∷ [])
open_blank [] p b h ho = list_all-push is_blank p b ho h
open_blank (f ∷ o) p b h (q, w, a, c, m, ho, hl, ha, hc, hm, e) =
    let k = kids_blank f.kids c m b h hc hm in
    let out : (q ++ (w ++ (a ++ 91 ∷ c ++ m))) ++ b ∷ [] ≡ q ++ (w ++ (a ++ (((91 ∷ c) ++ m) ++ b ∷ []))) = simp append_assoc in
    (q, w, a, k.0, k.1, ho, hl, ha, k.2, k.3, ap (λ r. r ++ b ∷ []) e ∙ out ∙ ap (λ r. q ++ (w ++ (a ++ r))) (sym k.4) ∙ ap (λ r. q ++ (w ++ r)) (sym (append_assoc a (91 ∷ k.0) k.1)))

-- a text up to a tree at hand stays one with a blank added
hand_blank : (o : List Frame) (t : LabelledTree) (p : List ℕ) (b : ℕ) → IsTrue (is_blank b) → HandText o t p → HandText o t (p ++ b ∷ [])
hand_blank o t p b h (q, x, a, ho, hx, ha, e) =
    let out : (q ++ (x ++ a)) ++ b ∷ [] ≡ q ++ (x ++ (a ++ b ∷ [])) = simp append_assoc in
    (q, x, a ++ b ∷ [], ho, hx, list_all-push is_blank a b ha h, ap (λ r. r ++ b ∷ []) e ∙ out)

-- a text up to an ended label stays one with a blank added
name_blank : (o : List Frame) (l p : List ℕ) (b : ℕ) → IsTrue (is_blank b) → NameText o l p → NameText o l (p ++ b ∷ [])
name_blank o l p b h (q, w, a, ho, hl, ha, e) =
    let out : (q ++ (w ++ a)) ++ b ∷ [] ≡ q ++ (w ++ (a ++ b ∷ [])) = simp append_assoc in
    (q, w, a ++ b ∷ [], ho, hl, list_all-push is_blank a b ha h, ap (λ r. r ++ b ∷ []) e ∙ out)

-- the text of another tree after that of trees, with a comma between, spells them all
joined : (u : LabelledTree) (us : List LabelledTree) (t : LabelledTree) (y c d x : List ℕ) → SpellsTrees (forest_of (u ∷ us)) y → IsBlanks c → IsBlanks d → SpellsOne t x → SpellsTrees (forest_of (u ∷ us ++ t ∷ [])) (y ++ (c ++ 44 ∷ d) ++ x)
joined u [] t y c d x (l, k, w, hl, hk, hw, e) hc hd hx =
    let out : ((l ++ k) ++ []) ++ (c ++ 44 ∷ d) ++ x ≡ l ++ k ++ (c ++ 44 ∷ d ++ x) = simp (append_assoc, append_nil) in
    (l, k, c ++ 44 ∷ d ++ x, hl, hk, (c, d, x, hc, hd, hx, refl), ap (λ r. r ++ (c ++ 44 ∷ d) ++ x) (e ∙ ap (λ r. l ++ k ++ r) hw) ∙ out)
joined u (v ∷ vs) t y c d x (l, k, w, hl, hk, (a, b, z, ha, hb, hz, ew), e) hc hd hx =
    let rest = joined v vs t z c d x hz hc hd hx in
    let out : (l ++ k ++ (a ++ 44 ∷ b ++ z)) ++ (c ++ 44 ∷ d) ++ x ≡ l ++ k ++ (a ++ 44 ∷ b ++ (z ++ (c ++ 44 ∷ d) ++ x)) = simp append_assoc in
    (l, k, a ++ 44 ∷ b ++ (z ++ (c ++ 44 ∷ d) ++ x), hl, hk, (a, b, z ++ (c ++ 44 ∷ d) ++ x, ha, hb, rest, refl), ap (λ r. r ++ (c ++ 44 ∷ d) ++ x) (e ∙ ap (λ r. l ++ k ++ r) ew) ∙ out)

-- a tree after those below the open one is spelled with them
kids_then : (ts : List LabelledTree) (t : LabelledTree) (m x : List ℕ) → KidsText ts m → SpellsOne t x → SpellsTrees (forest_of (ts ++ t ∷ [])) (m ++ x)
kids_then [] t m x hm hx = subst (λ r. SpellsOne t (r ++ x)) (sym hm) hx
kids_then (u ∷ us) t m x (y, c, d, hy, hc, hd, e) hx =
    subst (λ r. SpellsTrees (forest_of (u ∷ us ++ t ∷ [])) (r ++ x)) (sym (e ∙ append_assoc y c (44 ∷ d))) (joined u us t y c d x hy hc hd hx)

-- the text of trees with blanks and a comma after it is that of trees with a comma after each
kids_comma : (ts : List LabelledTree) (t : LabelledTree) (m c : List ℕ) → SpellsTrees (forest_of (ts ++ t ∷ [])) m → IsBlanks c → KidsText (ts ++ t ∷ []) (m ++ c ++ 44 ∷ [])
kids_comma [] t m c hm hc = (m, c, [], hm, hc, refl, refl)
kids_comma (u ∷ us) t m c hm hc = (m, c, [], hm, hc, refl, refl)

-- the text of trees with brackets and blanks round it stands after the label of a tree with these children
brackets_of : (ts : List LabelledTree) (t : LabelledTree) (a b m c : List ℕ) → IsBlanks a → IsBlanks b → SpellsTrees (forest_of (ts ++ t ∷ [])) m → IsBlanks c
    → SpellsBrackets (forest_of (ts ++ t ∷ [])) (SpellsTrees (forest_of (ts ++ t ∷ []))) (a ++ 91 ∷ b ++ m ++ c ++ 93 ∷ [])
brackets_of [] t a b m c ha hb hm hc = (a, b, m, c, ha, hb, hc, hm, refl)
brackets_of (u ∷ us) t a b m c ha hb hm hc = (a, b, m, c, ha, hb, hc, hm, refl)

-- the parts of the text with a tree at hand below an open one
pub record Within (f : Frame) (o : List Frame) (t : LabelledTree) (p : List ℕ) : Type 0 where
  pub before : List ℕ
  pub label : List ℕ
  pub gap : List ℕ
  pub lead : List ℕ
  pub trees : List ℕ
  pub tail : List ℕ
  pub is_open : OpenText o before
  pub is_label : SpellsLabel label f.label
  pub is_gap : IsBlanks gap
  pub is_lead : IsBlanks lead
  pub are_trees : SpellsTrees (forest_of (f.kids ++ t ∷ [])) trees
  pub is_tail : IsBlanks tail
  pub text : p ≡ before ++ (label ++ ((gap ++ 91 ∷ lead) ++ (trees ++ tail)))

-- a text that leads up to a tree at hand below an open one has these parts
within : (f : Frame) (o : List Frame) (t : LabelledTree) (p : List ℕ) → HandText (f ∷ o) t p → Within f o t p
within f o t p (q, x, a, (q0, l, a0, b0, m, ho, hl, ha0, hb0, hm, e0), hx, ha, e) = record {
  before = q0;
  label = l;
  gap = a0;
  lead = b0;
  trees = m ++ x;
  tail = a;
  is_open = ho;
  is_label = hl;
  is_gap = ha0;
  is_lead = hb0;
  are_trees = kids_then f.kids t m x hm hx;
  is_tail = ha;
  text = e ∙ ap (λ r. r ++ (x ++ a)) e0 ∙ regrouped q0 l (a0 ++ 91 ∷ b0) m x a;
}
  where
    regrouped : (q l z m x a : List ℕ) → (q ++ (l ++ (z ++ m))) ++ (x ++ a) ≡ q ++ (l ++ (z ++ ((m ++ x) ++ a)))
    regrouped q l z m x a = simp append_assoc

-- a comma after a tree leads up to where a tree may begin
comma_text : (f : Frame) (o : List Frame) (t : LabelledTree) (p : List ℕ) → Within f o t p → OpenText (record { label = f.label; kids = f.kids ++ t ∷ [] } ∷ o) (p ++ 44 ∷ [])
comma_text f o t p h = (
  h.before,
  h.label,
  h.gap,
  h.lead,
  h.trees ++ h.tail ++ 44 ∷ [],
  h.is_open,
  h.is_label,
  h.is_gap,
  h.is_lead,
  kids_comma f.kids t h.trees h.tail h.are_trees h.is_tail,
  ap (λ r. r ++ 44 ∷ []) h.text ∙ regrouped h.before h.label (h.gap ++ 91 ∷ h.lead) h.trees h.tail (44 ∷ []),
)
  where
    regrouped : (q l z m a w : List ℕ) → (q ++ (l ++ (z ++ (m ++ a)))) ++ w ≡ q ++ (l ++ (z ++ (m ++ a ++ w)))
    regrouped q l z m a w = simp append_assoc

-- a closing bracket after a tree leads up to the tree round it at hand, with that tree as its last child
close_text : (f : Frame) (o : List Frame) (t : LabelledTree) (p : List ℕ) → Within f o t p → HandText o (record { label = f.label; kids = forest_of (f.kids ++ t ∷ []) }) (p ++ 93 ∷ [])
close_text f o t p h = (
  h.before,
  h.label ++ (h.gap ++ 91 ∷ h.lead ++ h.trees ++ h.tail ++ 93 ∷ []) ++ [],
  [],
  h.is_open,
  (h.label, h.gap ++ 91 ∷ h.lead ++ h.trees ++ h.tail ++ 93 ∷ [], [], h.is_label, brackets_of f.kids t h.gap h.lead h.trees h.tail h.is_gap h.is_lead h.are_trees h.is_tail, refl, refl),
  refl,
  ap (λ r. r ++ 93 ∷ []) h.text ∙ regrouped h.before h.label (h.gap ++ 91 ∷ h.lead) h.trees h.tail (93 ∷ []),
)
  where
    regrouped : (q l z m a w : List ℕ) → (q ++ (l ++ (z ++ (m ++ a)))) ++ w ≡ q ++ ((l ++ (z ++ m ++ a ++ w) ++ []) ++ [])
    regrouped q l z m a w = simp (append_assoc, append_nil)

-- a byte after a tree in brackets that fits goes on with the text
pub hand_in : (o : List Frame) (t : LabelledTree) (p : List ℕ) (b : ℕ) → HandText o t p → Gives (StateText (p ++ b ∷ [])) (after_tree_in o t b)
hand_in [] t p b h = tt
hand_in (f ∷ o) t p b h =
    let parts = within f o t p h in
    let more : Frame = record { label = f.label; kids = f.kids ++ t ∷ [] } in
    let shut : LabelledTree = record { label = f.label; kids = forest_of (f.kids ++ t ∷ []) } in
    either _ (b == 44) _ _ (λ e. subst (λ c. OpenText (more ∷ o) (p ++ c ∷ [])) (number_is b 44 e) (comma_text f o t p parts))
    (λ n. either _ (b == 93) _ _ (λ e. subst (λ c. HandText o shut (p ++ c ∷ [])) (number_is b 93 e) (close_text f o t p parts)) (λ k. tt))

-- a byte after a tree goes on with the text
hand_step : (o : List Frame) (t : LabelledTree) (p : List ℕ) (b : ℕ) → HandText o t p → Gives (StateText (p ++ b ∷ [])) (after_tree o t b)
hand_step o t p b h = either _ (is_blank b) _ _ (λ k. hand_blank o t p b k h) (λ n. hand_in o t p b h)

-- an opening bracket after a label leads up to that tree open without children
opened_text : (o : List Frame) (l p : List ℕ) → NameText o l p → ModeText (record { label = l; kids = [] } ∷ o) first (p ++ 91 ∷ [])
opened_text o l p (q, w, a, ho, hl, ha, e) =
    ((q, w, a, [], [], ho, hl, ha, refl, refl, ap (λ r. r ++ 91 ∷ []) e ∙ regrouped q w a (91 ∷ [])), refl)
  where
    regrouped : (q l a w : List ℕ) → (q ++ (l ++ a)) ++ w ≡ q ++ (l ++ ((a ++ w) ++ []))
    regrouped q l a w = simp (append_assoc, append_nil)

-- a byte after a label goes on with the text
name_step : (o : List Frame) (l p : List ℕ) (b : ℕ) → NameText o l p → Gives (StateText (p ++ b ∷ [])) (after_label o l b)
name_step o l p b h =
    let f : Frame = record { label = l; kids = [] } in
    either _ (is_blank b) _ _ (λ k. name_blank o l p b k h)
    (λ n. either _ (b == 91) _ _ (λ e. subst (λ c. ModeText (f ∷ o) first (p ++ c ∷ [])) (number_is b 91 e) (opened_text o l p h))
    (λ k. hand_step o (leaf l) p b (hand_of_name o l p h)))

-- a byte that goes on with a label, or else stands after it, goes on with the text
label_goes : (o : List Frame) (q w : List ℕ) (b : ℕ) (r : Option spelled.Spot) (other : Option State) → OpenText o q → Gives (labels.Writes (w ++ b ∷ [])) r → Gives (StateText ((q ++ w) ++ b ∷ [])) other
    → Gives (StateText ((q ++ w) ++ b ∷ [])) (or_other o other r)
label_goes o q w b None other ho hw h = h
label_goes o q w b (Some s) other ho hw h = (q, w ++ b ∷ [], ho, hw, append_assoc q w (b ∷ []))

-- the first byte of a label goes on with the text
begin_step : (o : List Frame) (p : List ℕ) (b : ℕ) → OpenText o p → Gives (StateText (p ++ b ∷ [])) (begin o b)
begin_step o p b h =
    subst (λ r. Gives (StateText (r ++ b ∷ [])) (begin o b)) (append_nil p) (label_goes o p [] b (spelled.step spelled.start b) None h (labels.step_writes [] spelled.start b refl) tt)

-- a closing bracket right after the opening one goes on with the text
close_step : (o : List Frame) (p : List ℕ) → ModeText o first p → Gives (StateText (p ++ 93 ∷ [])) (close_empty o)
close_step [] p h = tt
close_step (f ∷ o) p ((q, w, a, c, m, ho, hl, ha, hc, hm, e), bare) =
    let nothing : m ≡ [] = subst (λ ts. KidsText ts m) bare hm in
    let leaf_is : record { label = f.label; kids = forest_of f.kids } ≡ leaf f.label = ap (λ ts. record { label = f.label; kids = forest_of ts }) bare in
    let text : p ++ 93 ∷ [] ≡ (q ++ (w ++ ((a ++ 91 ∷ c) ++ []))) ++ 93 ∷ [] = ap (λ r. r ++ 93 ∷ []) (e ∙ ap (λ r. q ++ (w ++ ((a ++ 91 ∷ c) ++ r))) nothing) in
    let below : (a ++ 91 ∷ c) ++ [] ++ 93 ∷ [] ≡ a ++ 91 ∷ c ++ 93 ∷ [] = ap (λ r. r ++ 93 ∷ []) (append_nil (a ++ 91 ∷ c)) in
    subst (λ t. HandText o t (p ++ 93 ∷ [])) (sym leaf_is) (
      q,
      w ++ ((a ++ 91 ∷ c) ++ [] ++ 93 ∷ []) ++ [],
      [],
      ho,
      (w, (a ++ 91 ∷ c) ++ [] ++ 93 ∷ [], [], hl, inr (a, c, ha, hc, below), refl, refl),
      refl,
      text ∙ empty_brackets q w (a ++ 91 ∷ c) [] (93 ∷ []),
    )
  where
    empty_brackets : (q l z m w : List ℕ) → (q ++ (l ++ (z ++ m))) ++ w ≡ q ++ ((l ++ ((z ++ m) ++ w) ++ []) ++ [])
    empty_brackets q l z m w = simp (append_assoc, append_nil)

-- a byte that does not go on a label, and fits after it, goes on with the text
past_step : (o : List Frame) (s : spelled.Spot) (l : Option (List ℕ)) (p : List ℕ) (b : ℕ) → spelled.label_in s ≡ l → ModeText o (spelling s) p → Gives (StateText (p ++ b ∷ [])) (after o l b)
past_step o s None p b f h = tt
past_step o s (Some l) p b f h = name_step o l p b (name_of_spelling o s l p f h)

-- a byte that comes while a label is being spelled, and fits, goes on with the text
spelling_step : (o : List Frame) (s : spelled.Spot) (p : List ℕ) (b : ℕ) → ModeText o (spelling s) p → Gives (StateText (p ++ b ∷ [])) (step_in o (spelling s) b)
spelling_step o s p b (q, w, ho, hw, e) =
    subst (λ r. Gives (StateText (r ++ b ∷ [])) (step_in o (spelling s) b)) (sym e)
    (label_goes o q w b (spelled.step s b) (after o (spelled.label_in s) b) ho (labels.step_writes w s b hw)
    (past_step o s (spelled.label_in s) (q ++ w) b refl (q, w, ho, hw, refl)))

-- a step goes on with the text
pub step_text : (o : List Frame) (m : Mode) (p : List ℕ) (b : ℕ) → ModeText o m p → Gives (StateText (p ++ b ∷ [])) (step_in o m b)
step_text o start p b h = either _ (is_blank b) _ _ (λ k. open_blank o p b k h) (λ n. begin_step o p b h)
step_text o first p b h =
    either _ (is_blank b) _ _ (λ k. (open_blank o p b k h.0, h.1))
    (λ n. either _ (b == 93) _ _ (λ e. subst (λ c. Gives (StateText (p ++ c ∷ [])) (close_empty o)) (number_is b 93 e) (close_step o p h)) (λ k. begin_step o p b h.0))
step_text o (spelling s) p b h = spelling_step o s p b h
step_text o (named l) p b h = name_step o l p b h
step_text o (closed t) p b h = hand_step o t p b h

-- where a run from the state after a first byte goes on with the text, so does the run with that byte
after_step : (x y : List ℕ) (b : ℕ) (s : Option State) → Gives (StateText (x ++ b ∷ [])) s → ((t : State) → StateText (x ++ b ∷ []) t → Gives (StateText ((x ++ b ∷ []) ++ y)) (run t y))
    → Gives (StateText (x ++ b ∷ y)) (option_and_then (λ t. run t y) s)
after_step x y b None h k = tt
after_step x y b (Some t) h k = subst (λ z. Gives (StateText z) (run t y)) (append_assoc x (b ∷ []) y) (k t h)

-- a run goes on with the text
pub run_text : (y x : List ℕ) (s : State) → StateText x s → Gives (StateText (x ++ y)) (run s y)
run_text [] x s h = subst (λ z. StateText z s) (sym (append_nil x)) h
run_text (b ∷ y) x s h = after_step x y b (step s b) (step_text s.open' s.mode x b h) (λ t k. run_text y (x ++ b ∷ []) t k)

-- where no tree is open, a text that leads up to a mode leads up to the tree at hand, where one may end
hand_in_mode : (m : Mode) (p : List ℕ) (t : LabelledTree) → ModeText [] m p → tree_in m ≡ Some t → HandText [] t p
hand_in_mode start p t h e = none_some t e
hand_in_mode first p t h e = none_some t e
hand_in_mode (spelling s) p t h e = by_label (spelled.label_in s) refl e
  where
    by_label : (l : Option (List ℕ)) → spelled.label_in s ≡ l → option_map leaf l ≡ Some t → HandText [] t p
    by_label None f g = none_some t g
    by_label (Some l) f g = subst (λ u. HandText [] u p) (some_is _ _ g) (hand_of_name [] l p (name_of_spelling [] s l p f h))
hand_in_mode (named l) p t h e = subst (λ u. HandText [] u p) (some_is _ _ e) (hand_of_name [] l p h)
hand_in_mode (closed u) p t h e = subst (λ v. HandText [] v p) (some_is _ _ e) h

-- at the end of a text, it spells the tree that was read
whole_text : (o : List Frame) (m : Mode) (x : List ℕ) (t : LabelledTree) → ModeText o m x → whole_in o m ≡ Some t → Spells x t
whole_text [] m x t h e = let (q, y, a, hq, hy, ha, f) = hand_in_mode m x t h e in (q, y, a, hq, ha, hy, f ∙ sym (append_assoc q y a))
whole_text (f ∷ o) m x t h e = none_some t e

-- at the end of a run, the text spells the tree that was read
run_whole : (x : List ℕ) (t : LabelledTree) (r : Option State) → Gives (StateText x) r → option_and_then whole r ≡ Some t → Spells x t
run_whole x t None h e = none_some t e
run_whole x t (Some s) h e = whole_text s.open' s.mode x t h e

-- what the machine reads is spelled so
pub read_spelled : (x : List ℕ) (t : LabelledTree) → tree_of x ≡ Some t → Spells x t
read_spelled x t e = run_whole x t (run empty x) (run_text x [] empty refl) e
