-- A path has no more labels than its text has bytes.
use Rattle.std.proofs.Common.{◌≡◌, ◌≤◌, ◌+◌, ◌==◌, ℕ, Bool, true, false, cond, List, [], ◌∷◌, ◌++◌, refl, ap, length, arith, length-append}
use Rattle.std.specs.Str.{bytes_eq}
use Rattle.mix_tree.specs.LabelGrammar.{inside_quotes, meaning}
use Rattle.path_expr.specs.Grammar.{Spelled, word, quote, group, marked, dot, bar, Kind, a_path, a_sequence, a_repeat, an_atom, Is, text_of}
use Rattle.path_expr.specs.Form as form
use Rattle.path_expr.specs.Values as valued
use Rattle.path_expr.specs.Results.{Spells}

-- paths with one more as the last have its positions more
labels_push : (ps : List form.Form) (p : form.Form) → form.positions_of (form.paths_of (ps ++ p ∷ [])) ≡ form.positions_of (form.paths_of ps) + form.positions_in p
labels_push [] p = omega arith
labels_push (q ∷ ps) p = omega (arith, labels_push ps p)

-- a sequence has the positions of its members
joined_seq : (ps : List form.Form) → form.positions_in (form.joined form.seq ps) ≤ form.positions_of (form.paths_of ps)
joined_seq [] = omega arith
joined_seq (p ∷ []) = omega arith
joined_seq (p ∷ q ∷ ps) = omega arith

-- a choice has the positions of its members
joined_alt : (ps : List form.Form) → form.positions_in (form.joined form.alt ps) ≤ form.positions_of (form.paths_of ps)
joined_alt [] = omega arith
joined_alt (p ∷ []) = omega arith
joined_alt (p ∷ q ∷ ps) = omega arith

-- a name or _ is one position
word_labels : (b : Bool) (l : List ℕ) → form.positions_in (cond b (record { head = form.any; members = form.none }) (valued.named l)) ≡ 1
word_labels true l = refl
word_labels false l = refl

-- a mark adds no position
mark_labels : (m : ℕ) (p : form.Form) → form.positions_in (form.repeated (valued.mark_head m) p) ≡ form.positions_in p
mark_labels m p = by_cases (m == 42) (m == 43)
  where
    by_cases : (a b : Bool) → form.positions_in (form.repeated (cond a form.star (cond b form.plus form.opt)) p) ≡ form.positions_in p
    by_cases true b = omega arith
    by_cases false true = omega arith
    by_cases false false = omega arith

-- what is written has no more positions than bytes
pub record Few (p : Spelled) : Type 0 where
  pub value : form.positions_in (valued.value_of p) ≤ length (text_of p)
  pub dots : form.positions_of (form.paths_of (valued.read p).dots) ≤ length (text_of p)
  pub bars : form.positions_of (form.paths_of (valued.read p).bars) ≤ length (text_of p)

-- what is neither a sequence nor a choice has few positions, where its value has
few_alone : (p : Spelled) (w : form.Form) → valued.read p ≡ valued.alone w → form.positions_in w ≤ length (text_of p) → Few p
few_alone p w e h = record {
  value = omega (arith, h, ap (λ r. form.positions_in r.value) e);
  dots = omega (arith, h, ap (λ r. form.positions_of (form.paths_of r.dots)) e);
  bars = omega (arith, h, ap (λ r. form.positions_of (form.paths_of r.bars)) e);
}

-- an atom with its mark has few positions, where the atom has
marked_few : (p : Spelled) (m : ℕ) → form.positions_in (valued.value_of p) ≤ length (text_of p) → Few (marked p m)
marked_few p m h = few_alone (marked p m) (form.repeated (valued.mark_head m) (valued.value_of p)) refl (omega (arith, h, mark_labels m (valued.value_of p), length-append (text_of p) (m ∷ [])))

-- a sequence has few positions, where its parts have
dot_few : (p q : Spelled) → Few p → Few q → Few (dot p q)
dot_few p q h k =
    let all = labels_push (valued.read p).dots (valued.value_of q) in
    let one = joined_seq ((valued.read p).dots ++ valued.value_of q ∷ []) in
    let len = length-append (text_of p) (46 ∷ text_of q) in record {
      value = omega (arith, all, one, len, h.dots, k.value);
      dots = omega (arith, all, len, h.dots, k.value);
      bars = omega (arith, all, one, len, h.dots, k.value);
    }

-- a choice has few positions, where its parts have
bar_few : (p q : Spelled) → Few p → Few q → Few (bar p q)
bar_few p q h k =
    let all = labels_push (valued.read p).bars (valued.value_of q) in
    let one = joined_alt ((valued.read p).bars ++ valued.value_of q ∷ []) in
    let len = length-append (text_of p) (124 ∷ text_of q) in record {
      value = omega (arith, all, one, len, h.bars, k.value);
      dots = omega (arith, all, one, len, h.bars, k.value);
      bars = omega (arith, all, len, h.bars, k.value);
    }

-- all that is written has no more positions than bytes
pub few : (p : Spelled) (k : Kind) → Is p k → Few p
few (word l) k h = few_alone (word l) (valued.word_form l) refl (omega (arith, word_labels (bytes_eq l (95 ∷ [])) l, h.1))
few (quote ps) k h = few_alone (quote ps) (valued.named (meaning ps)) refl (omega (arith, length-append (34 ∷ inside_quotes ps) (34 ∷ [])))
few (group p) k h = few_alone (group p) (valued.value_of p) refl (omega (arith, (few p a_path h).value, length-append (40 ∷ text_of p) (41 ∷ [])))
few (marked p m) an_atom h = absurd h
few (marked p m) a_repeat h = marked_few p m (few p an_atom h.0).value
few (marked p m) a_sequence h = marked_few p m (few p an_atom h.0).value
few (marked p m) a_path h = marked_few p m (few p an_atom h.0).value
few (dot p q) an_atom h = absurd h
few (dot p q) a_repeat h = absurd h
few (dot p q) a_sequence h = dot_few p q (few p a_sequence h.0) (few q a_repeat h.1)
few (dot p q) a_path h = dot_few p q (few p a_sequence h.0) (few q a_repeat h.1)
few (bar p q) an_atom h = absurd h
few (bar p q) a_repeat h = absurd h
few (bar p q) a_sequence h = absurd h
few (bar p q) a_path h = bar_few p q (few p a_path h.0) (few q a_sequence h.1)

-- a path that a text is written as has no more labels than the text has bytes
pub few_positions : (x : List ℕ) (w : form.Form) → Spells x w → form.positions_in w ≤ length x
few_positions x w (p, h, e) = omega (arith, (few p a_path h.0).value, ap form.positions_in e, ap length h.1)
