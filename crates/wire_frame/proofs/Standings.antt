-- Where one stands after one text and another.
use Rattle.std.proofs.Common.{◌≡◌, ℕ, ◌<◌, List, [], ◌∷◌, length, take, drop, refl, sym, ap, ◌∙◌, arith}
use Rattle.std.proofs.lemmas.List.{take-append-drop, length-drop}
use Rattle.wire_frame.specs.Standing.{Standing, at_tree, lost, step, after}
use Rattle.wire_frame.specs.Frames.{GoesOn, PiecesAreOneText}

-- the bytes of two texts may be taken one text after the other
pub after-append : PiecesAreOneText
after-append s [] y = refl
after-append s (b ∷ x) y = after-append (step s b) x y

-- what is lost stays so
pub lost_stays : (x : List ℕ) → after lost x ≡ lost
lost_stays [] = refl
lost_stays (b ∷ x) = lost_stays x

-- after a whole reply a further byte is lost
pub whole_ends : (x : List ℕ) → after (at_tree 0) x ≡ at_tree 0 → x ≡ []
whole_ends [] e = refl
whole_ends (b ∷ x) e = let f : lost ≡ at_tree 0 = sym (lost_stays x) ∙ e in absurd cc

-- before its end a text that makes a reply whole goes on
pub goes_on_before : (s : Standing) (x : List ℕ) (n : ℕ) → after s x ≡ at_tree 0 → n < length x → GoesOn (after s (take n x))
goes_on_before s x n e short =
    let rest = drop n x in
    let parts : after (after s (take n x)) rest ≡ at_tree 0 = sym (after-append s (take n x) rest) ∙ ap (after s) (take-append-drop n x) ∙ e in
    record {
      not_whole = λ w.
          let none : rest ≡ [] = whole_ends rest (ap (λ t. after t rest) (sym w) ∙ parts) in
          omega (arith, ap length none, length-drop n x, short);
      not_lost = λ w.
          let f : lost ≡ at_tree 0 = sym (lost_stays rest) ∙ ap (λ t. after t rest) (sym w) ∙ parts in
          absurd cc;
    }
