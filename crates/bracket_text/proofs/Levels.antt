-- How deep the trees are that the machine has read.
use Rattle.std.proofs.Common.{◌≡◌, ◌<◌, ◌≤◌, ◌+◌, ◌∙◌, ◌==◌, ◌&&◌, max, ℕ, Bool, true, false, IsTrue, List, [], ◌∷◌, ◌++◌, Option, Some, None, refl, sym, ap, subst, arith, length, option_and_then, option_map, nat_le}
use Rattle.std.proofs.lemmas.Bool.Decides.{nat_tests}
use Rattle.mix_base.proofs.Choices.{some_is, none_some, Gives, either}
use Rattle.mix_tree.specs.Forest.{LabelledTree, forest_of}
use Rattle.mix_tree.specs.LabelMachine as spelled
use Rattle.document_store.specs.Shallow.{levels_of, levels}
use Rattle.bracket_text.specs.Grammar.{is_blank}
use Rattle.bracket_text.specs.Machine.{Frame, Mode, start, first, spelling, named, closed, State, at, leaf, after_tree, after_tree_in, after_label, or_other, begin, after, close_empty, begins, is_deep_in, step_in, step, run, tree_in, whole_in, whole}
use Rattle.bracket_text.proofs.Runs.{spelling_begins}

-- the levels of the trees that are open
abbrev pub open_levels : List Frame → ℕ
open_levels [] = 0
open_levels (f ∷ o) = max (length o + 1 + levels_of (forest_of f.kids)) (open_levels o)

-- the levels of the tree at hand, or of one that must come
abbrev pub mode_levels : List Frame → Mode → ℕ
mode_levels o start = length o + 1
mode_levels o first = 0
mode_levels o (spelling s) = length o + 1
mode_levels o (named l) = length o + 1
mode_levels o (closed t) = length o + levels t

-- the levels of the open trees and of the tree at hand
abbrev pub levels_in : List Frame → Mode → ℕ
levels_in o m = max (open_levels o) (mode_levels o m)

-- the levels of what was read
abbrev pub reached : State → ℕ
reached s = levels_in s.open' s.mode

-- a list with one tree more has the more levels of the two
levels_push : (ts : List LabelledTree) (t : LabelledTree) → levels_of (forest_of (ts ++ t ∷ [])) ≡ max (levels_of (forest_of ts)) (levels t)
levels_push [] t = omega arith
levels_push (u ∷ us) t = omega (arith, levels_push us t)

-- the state has so many levels
abbrev pub Has : ℕ → State → Type 0
Has n s = reached s ≡ n

-- a comma adds no levels
comma_levels : (f : Frame) (o : List Frame) (t : LabelledTree) → reached (at (record { label = f.label; kids = f.kids ++ t ∷ [] } ∷ o) start) ≡ levels_in (f ∷ o) (closed t)
comma_levels f o t = omega (arith, levels_push f.kids t)

-- a closing bracket after a tree adds no levels
pub close_levels : (f : Frame) (o : List Frame) (t : LabelledTree) → reached (at o (closed (record { label = f.label; kids = forest_of (f.kids ++ t ∷ []) }))) ≡ levels_in (f ∷ o) (closed t)
close_levels f o t = omega (arith, levels_push f.kids t)

-- a comma or a closing bracket after a tree adds no levels
tree_in_levels : (o : List Frame) (t : LabelledTree) (b : ℕ) → Gives (Has (levels_in o (closed t))) (after_tree_in o t b)
tree_in_levels [] t b = tt
tree_in_levels (f ∷ o) t b = either _ (b == 44) _ _ (λ e. comma_levels f o t) (λ n. either _ (b == 93) _ _ (λ e. close_levels f o t) (λ k. tt))

-- a byte after a tree adds no levels
tree_levels : (o : List Frame) (t : LabelledTree) (b : ℕ) → Gives (Has (levels_in o (closed t))) (after_tree o t b)
tree_levels o t b = either _ (is_blank b) _ _ (λ h. refl) (λ n. tree_in_levels o t b)

-- an opening bracket after a label adds no levels
open_one : (o : List Frame) (l : List ℕ) → reached (at (record { label = l; kids = [] } ∷ o) first) ≡ levels_in o (named l)
open_one o l = omega arith

-- a byte after a label adds no levels
label_levels : (o : List Frame) (l : List ℕ) (b : ℕ) → Gives (Has (levels_in o (named l))) (after_label o l b)
label_levels o l b =
    let same : levels_in o (closed (leaf l)) ≡ levels_in o (named l) = omega arith in
    either _ (is_blank b) _ _ (λ h. refl)
    (λ n. either _ (b == 91) _ _ (λ e. open_one o l) (λ k. subst (λ i. Gives (Has i) (after_tree o (leaf l) b)) same (tree_levels o (leaf l) b)))

-- a byte that ends a label adds no levels
after_levels : (o : List Frame) (l : Option (List ℕ)) (b : ℕ) → Gives (Has (max (open_levels o) (length o + 1))) (after o l b)
after_levels o None b = tt
after_levels o (Some l) b = label_levels o l b

-- a byte of a label adds no levels
spelling_levels : (o : List Frame) (r : Option spelled.Spot) (other : Option State) → Gives (Has (max (open_levels o) (length o + 1))) other → Gives (Has (max (open_levels o) (length o + 1))) (or_other o other r)
spelling_levels o None other h = h
spelling_levels o (Some s) other h = refl

-- empty brackets add no levels
empty_levels : (o : List Frame) → Gives (Has (levels_in o first)) (close_empty o)
empty_levels [] = tt
empty_levels (f ∷ o) = omega arith

-- a byte adds levels only where a label begins
pub record Stepped (o : List Frame) (m : Mode) (b : ℕ) (t : State) : Type 0 where
  pub more : levels_in o m ≤ reached t
  pub shallow : is_deep_in o m b ≡ false → levels_in o m ≤ 200 → reached t ≤ 200
  pub deep : is_deep_in o m b ≡ true → 200 < reached t

-- a byte after which there are as many levels as before adds none
same_levels : (o : List Frame) (m : Mode) (b : ℕ) (r : Option State) → is_deep_in o m b ≡ false → Gives (Has (levels_in o m)) r → Gives (Stepped o m b) r
same_levels o m b None n h = tt
same_levels o m b (Some t) n h = record { more = omega (arith, h); shallow = λ k d. omega (arith, h); deep = λ k. absurd_test (is_deep_in o m b) n k }
  where
    absurd_test : {Q : Type 0} (c : Bool) → c ≡ false → c ≡ true → Q
    absurd_test true p q = cc
    absurd_test false p q = cc

-- where the first of two tests fails, both together fail
not_deep : (c d : Bool) → c ≡ false → (c && d) ≡ false
not_deep true d h = cc
not_deep false d h = refl

-- no label begins with a blank
blank_begins : (b : ℕ) → IsTrue (is_blank b) → begins b ≡ false
blank_begins b h = grind (arith, nat_tests)

-- a label that begins adds its level at most
begun_levels : (o : List Frame) (m : Mode) (b : ℕ) → is_deep_in o m b ≡ (begins b && nat_le 200 (length o)) → levels_in o m ≤ max (open_levels o) (length o + 1) → IsTrue (begins b) → (s : spelled.Spot)
    → Stepped o m b (at o (spelling s))
begun_levels o m b e low h s = record {
  more = low;
  shallow = λ n d. let few : length o < 200 = by_test (begins b) (nat_le 200 (length o)) h (sym e ∙ n) refl in omega arith;
  deep = λ k. let many : 200 ≤ length o = by_other (begins b) (nat_le 200 (length o)) (sym e ∙ k) refl in omega arith;
}
  where
    by_test : (c d : Bool) → IsTrue c → (c && d) ≡ false → nat_le 200 (length o) ≡ d → length o < 200
    by_test false d p q r = cc
    by_test true true p q r = cc
    by_test true false p q r = grind (arith, nat_tests)

    by_other : (c d : Bool) → (c && d) ≡ true → nat_le 200 (length o) ≡ d → 200 ≤ length o
    by_other false d q r = cc
    by_other true false q r = cc
    by_other true true q r = grind (arith, nat_tests)

-- the byte with which a label may begin adds that label's level at most
begin_levels : (o : List Frame) (m : Mode) (b : ℕ) → is_deep_in o m b ≡ (begins b && nat_le 200 (length o)) → levels_in o m ≤ max (open_levels o) (length o + 1) → Gives (Stepped o m b) (begin o b)
begin_levels o m b e low = by_spot (spelled.step spelled.start b) refl
  where
    by_spot : (r : Option spelled.Spot) → spelled.step spelled.start b ≡ r → Gives (Stepped o m b) (or_other o None r)
    by_spot None f = tt
    by_spot (Some s) f = begun_levels o m b e low (spelling_begins b s f) s

-- no label begins with a closing bracket
close_begins : (b : ℕ) → (b == 93) ≡ true → begins b ≡ false
close_begins b h = grind (arith, nat_tests)

-- what a byte does to the levels
pub step_levels : (o : List Frame) (m : Mode) (b : ℕ) → Gives (Stepped o m b) (step_in o m b)
step_levels o start b =
    either _ (is_blank b) _ _ (λ h. same_levels o start b (Some (at o start)) (not_deep (begins b) _ (blank_begins b h)) refl)
    (λ n. begin_levels o start b refl (omega arith))
step_levels o first b =
    either _ (is_blank b) _ _ (λ h. same_levels o first b (Some (at o first)) (not_deep (begins b) _ (blank_begins b h)) refl)
    (λ n. either _ (b == 93) _ _ (λ e. same_levels o first b (close_empty o) (not_deep (begins b) _ (close_begins b e)) (empty_levels o))
    (λ k. begin_levels o first b refl (omega arith)))
step_levels o (spelling s) b = same_levels o (spelling s) b (step_in o (spelling s) b) refl (spelling_levels o (spelled.step s b) (after o (spelled.label_in s) b) (after_levels o (spelled.label_in s) b))
step_levels o (named l) b = same_levels o (named l) b (after_label o l b) refl (label_levels o l b)
step_levels o (closed t) b = same_levels o (closed t) b (after_tree o t b) refl (tree_levels o t b)

-- a state that a byte leads to has more levels only where a label begins
pub stepped : (s t : State) (b : ℕ) → step s b ≡ Some t → Stepped s.open' s.mode b t
stepped s t b e = by_step (step s b) e (step_levels s.open' s.mode b)
  where
    by_step : (r : Option State) → r ≡ Some t → Gives (Stepped s.open' s.mode b) r → Stepped s.open' s.mode b t
    by_step None f h = none_some t f
    by_step (Some u) f h = subst (Stepped s.open' s.mode b) (some_is u t f) h

-- where a text after a first byte takes no level away, and the byte doesn't, neither do both
run_more : (x : List ℕ) (s t : State) (b : ℕ) (r : Option State) → step s b ≡ r → option_and_then (λ u. run u x) r ≡ Some t → ((u : State) → run u x ≡ Some t → reached u ≤ reached t) → reached s ≤ reached t
run_more x s t b None f e k = none_some t e
run_more x s t b (Some u) f e k = omega (arith, (stepped s u b f).more, k u e)

-- a text takes no level away
pub run_levels : (x : List ℕ) (s t : State) → run s x ≡ Some t → reached s ≤ reached t
run_levels [] s t e = let same : reached s ≡ reached t = ap reached (some_is s t e) in omega (arith, same)
run_levels (b ∷ x) s t e = run_more x s t b (step s b) refl e (λ u f. run_levels x u t f)

-- the tree at hand has the levels of its mode
pub hand_levels : (o : List Frame) (m : Mode) (t : LabelledTree) → tree_in m ≡ Some t → mode_levels o m ≡ length o + levels t
hand_levels o start t e = none_some t e
hand_levels o first t e = none_some t e
hand_levels o (spelling s) t e = by_label (spelled.label_in s) e
  where
    by_label : (l : Option (List ℕ)) → option_map leaf l ≡ Some t → length o + 1 ≡ length o + levels t
    by_label None g = none_some t g
    by_label (Some l) g = let same : levels (leaf l) ≡ levels t = ap levels (some_is (leaf l) t g) in omega (arith, same)
hand_levels o (named l) t e = let same : levels (leaf l) ≡ levels t = ap levels (some_is (leaf l) t e) in omega (arith, same)
hand_levels o (closed u) t e = let same : levels u ≡ levels t = ap levels (some_is u t e) in omega (arith, same)

-- the tree that was read has all levels
whole_in_levels : (o : List Frame) (m : Mode) (t : LabelledTree) → whole_in o m ≡ Some t → levels t ≡ levels_in o m
whole_in_levels [] m t e = omega (arith, hand_levels [] m t e)
whole_in_levels (f ∷ o) m t e = none_some t e

-- the tree that was read has the levels of what was read
pub whole_levels : (s : State) (t : LabelledTree) → whole s ≡ Some t → levels t ≡ reached s
whole_levels s t e = whole_in_levels s.open' s.mode t e
