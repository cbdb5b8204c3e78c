-- What a run has read goes on to a text of the grammar; where it stops, no text goes on.
use Rattle.std.proofs.Common.{◌≡◌, ◌<◌, ◌≤◌, ◌∙◌, ℕ, List, [], ◌∷◌, ◌++◌, Option, Some, None, refl, sym, ap, subst, arith, append_assoc, option_and_then}
use Rattle.std.specs.Str.{IsUtf8}
use Rattle.std.proofs.lemmas.Str.{IsUtf8-nil, IsUtf8-append}
use Rattle.mix_base.proofs.Runs.{run_append, run_then, run_byte}
use Rattle.mix_base.specs.Reading.{IsPrefix}
use Rattle.mix_base.proofs.Utf8.{one_utf8}
use Rattle.mix_base.proofs.Choices.{none_some}
use Rattle.mix_tree.specs.Forest.{LabelledTree, forest_of}
use Rattle.mix_tree.specs.LabelMachine as spelled
use Rattle.mix_tree.proofs.LabelAnswers as labels
use Rattle.document_store.specs.Shallow.{levels}
use Rattle.bracket_text.specs.Grammar.{Spells, SpellsShallow}
use Rattle.bracket_text.specs.Machine.{Frame, Mode, start, first, spelling, named, closed, State, at, leaf, step, run, tree_in, whole, empty}
use Rattle.bracket_text.proofs.Runs.{label_run, named_hand, tree_close}
use Rattle.bracket_text.proofs.Sound.{read_spelled}
use Rattle.bracket_text.proofs.Complete.{spelled_read}
use Rattle.bracket_text.proofs.Levels.{reached, close_levels, hand_levels, run_levels, whole_levels}

-- ASCII bytes lead from a state to a whole tree, with no more than 200 levels where it had no more
pub record GoesOn (s : State) : Type 0 where
  pub bytes : List ℕ
  pub utf8 : IsUtf8 bytes
  pub tree : LabelledTree
  pub read : option_and_then whole (run s bytes) ≡ Some tree
  pub shallow : reached s ≤ 200 → levels tree ≤ 200

-- a state goes on where the state after some bytes does, and those bytes do not come to more than 200 levels
text_on : (x : List ℕ) (s t : State) → IsUtf8 x → run s x ≡ Some t → (reached s ≤ 200 → reached t ≤ 200) → GoesOn t → GoesOn s
text_on x s t u e k h = record {
  bytes = x ++ h.bytes;
  utf8 = IsUtf8-append x h.bytes u h.utf8;
  tree = h.tree;
  read = ap (option_and_then whole) (run_then step x h.bytes s t e) ∙ h.read;
  shallow = λ d. h.shallow (k d);
}

-- a state goes on where one byte leads from it to a state that goes on
byte_on : (b : ℕ) (s t : State) → b < 128 → step s b ≡ Some t → (reached s ≤ 200 → reached t ≤ 200) → GoesOn t → GoesOn s
byte_on b s t low e k h = text_on (b ∷ []) s t (one_utf8 b low) (run_byte step b [] s t e) k h

-- the open brackets are closed one by one
hand_on : (o : List Frame) (m : Mode) (t : LabelledTree) → tree_in m ≡ Some t → GoesOn (at o m)
hand_on [] m t e = record { bytes = []; utf8 = IsUtf8-nil; tree = t; read = e; shallow = λ d. omega (arith, whole_levels (at [] m) t e) }
hand_on (f ∷ o) m t e =
    let shut : LabelledTree = record { label = f.label; kids = forest_of (f.kids ++ t ∷ []) } in
    byte_on 93 (at (f ∷ o) m) (at o (closed shut)) (omega arith) (tree_close f o m t e) (λ d. omega (arith, close_levels f o t, hand_levels (f ∷ o) m t e))
    (hand_on o (closed shut) shut refl)

-- a label goes on to its end, and the open brackets are closed
label_on : (o : List Frame) (s : spelled.Spot) → GoesOn (at o (spelling s))
label_on o s =
    let h = labels.goes_on s in
    text_on h.bytes (at o (spelling s)) (at o (spelling h.spot)) h.utf8 (label_run h.bytes o s h.spot h.runs) (λ d. d)
    (hand_on o (spelling h.spot) (leaf h.label) (named_hand (spelling h.spot) h.label h.ends))

-- each state goes on to a whole tree
pub goes_on : (o : List Frame) (m : Mode) → GoesOn (at o m)
goes_on o start = byte_on 97 (at o start) (at o (spelling (spelled.in_bare (97 ∷ [])))) (omega arith) refl (λ d. d) (label_on o (spelled.in_bare (97 ∷ [])))
goes_on [] first = byte_on 97 (at [] first) (at [] (spelling (spelled.in_bare (97 ∷ [])))) (omega arith) refl (λ d. omega arith) (label_on [] (spelled.in_bare (97 ∷ [])))
goes_on (f ∷ o) first =
    let shut : LabelledTree = record { label = f.label; kids = forest_of f.kids } in
    byte_on 93 (at (f ∷ o) first) (at o (closed shut)) (omega arith) refl (λ d. omega arith) (hand_on o (closed shut) shut refl)
goes_on o (spelling s) = label_on o s
goes_on o (named l) = hand_on o (named l) (leaf l) refl
goes_on o (closed t) = hand_on o (closed t) t refl

-- what a run has read is a prefix
pub run_prefix : (x : List ℕ) (s : State) → IsUtf8 x → run empty x ≡ Some s → IsPrefix Spells x
run_prefix x s u e =
    let on = goes_on s.open' s.mode in
    (on.bytes, on.tree, IsUtf8-append x on.bytes u on.utf8, read_spelled (x ++ on.bytes) on.tree (ap (option_and_then whole) (run_then step x on.bytes empty s e) ∙ on.read))

-- what a run with at most 200 levels has read is a prefix of a text whose tree is not too deep
pub shallow_prefix : (x : List ℕ) (s : State) → IsUtf8 x → run empty x ≡ Some s → reached s ≤ 200 → IsPrefix SpellsShallow x
shallow_prefix x s u e d =
    let on = goes_on s.open' s.mode in
    (on.bytes, on.tree, IsUtf8-append x on.bytes u on.utf8, (read_spelled (x ++ on.bytes) on.tree (ap (option_and_then whole) (run_then step x on.bytes empty s e) ∙ on.read), on.shallow d))

-- where a run has stopped, the text is no prefix
pub stopped_prefix : (x : List ℕ) → run empty x ≡ None → IsPrefix Spells x → ⊥
stopped_prefix x e (y, t, u, h) =
    none_some t (sym (ap (option_and_then whole) (run_append step x y empty ∙ ap (option_and_then (λ s. run s y)) e)) ∙ spelled_read (x ++ y) t h)

-- a tree read from a state on has at least its levels
deep_tree : (r : Option State) (s : State) (t : LabelledTree) → option_and_then whole r ≡ Some t → ((u : State) → r ≡ Some u → reached s ≤ reached u) → reached s ≤ levels t
deep_tree None s t e k = none_some t e
deep_tree (Some u) s t e k = omega (arith, k u refl, whole_levels u t e)

-- a text in which a run has come to more than 200 levels is no prefix of one whose tree is not too deep
pub deep_prefix : (x : List ℕ) (s : State) → run empty x ≡ Some s → 200 < reached s → IsPrefix SpellsShallow x → ⊥
deep_prefix x s e d (y, t, u, h) =
    let read : option_and_then whole (run s y) ≡ Some t = sym (ap (option_and_then whole) (run_then step x y empty s e)) ∙ spelled_read (x ++ y) t h.0 in
    let least = deep_tree (run s y) s t read (λ v f. run_levels y s v f) in
    absurd (omega (arith, least, h.1))

-- a prefix of a prefix of a text of the grammar is one too
pub shorter_prefix : (x z : List ℕ) → IsPrefix Spells (x ++ z) → IsPrefix Spells x
shorter_prefix x z (y, t, u, h) = (z ++ y, t, subst IsUtf8 (append_assoc x z y) u, subst (λ w. Spells w t) (append_assoc x z y) h)
