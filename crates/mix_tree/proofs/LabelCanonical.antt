-- The canonical spelling of a label spells it.
use Rattle.std.proofs.Common.{◌≡◌, inl, inr, ◌∙◌, ◌==◌, ℕ, Bool, true, false, cond, IsTrue, List, [], ◌∷◌, ◌++◌, refl, sym, ap}
use Rattle.std.specs.List.{list_all, flat_map}
use Rattle.mix_base.proofs.Choices.{and_both, number_is}
use Rattle.mix_tree.specs.Spelling.{is_bare_label, escaped, quoted, spelling}
use Rattle.mix_tree.specs.LabelGrammar.{Piece, plain, escape, is_piece, ArePieces, inside_quotes, meaning, SpellsLabel}

-- a byte as a piece: the four escapes wherever they apply
abbrev piece_of : ℕ → Piece
piece_of b = cond (b == 34) (escape 34) (cond (b == 92) (escape 92) (cond (b == 10) (escape 110) (cond (b == 9) (escape 116) (plain b))))

-- the bytes of a label as pieces
abbrev pieces_of : List ℕ → List Piece
pieces_of [] = []
pieces_of (b ∷ l) = piece_of b ∷ pieces_of l

-- what holds of a byte's piece
record IsPieceOf (b : ℕ) (p : Piece) : Type 0 where
  pub is : IsTrue (is_piece p)
  pub written : (ps : List Piece) → inside_quotes (p ∷ ps) ≡ escaped b ++ inside_quotes ps
  pub means : (ps : List Piece) → meaning (p ∷ ps) ≡ b ∷ meaning ps

-- all that holds of a byte's piece
piece_is : (b : ℕ) → IsPieceOf b (piece_of b)
piece_is b = by_cases (b == 34) (b == 92) (b == 10) (b == 9) refl refl refl refl
  where
    by_cases : (c d e f : Bool) → (b == 34) ≡ c → (b == 92) ≡ d → (b == 10) ≡ e → (b == 9) ≡ f
        → IsPieceOf b (cond c (escape 34) (cond d (escape 92) (cond e (escape 110) (cond f (escape 116) (plain b)))))
    by_cases true d e f p q r s = record { is = refl; written = λ ps. rw p refl; means = λ ps. ap (λ k. k ∷ meaning ps) (number_is b 34 p) }
    by_cases false true e f p q r s = record { is = refl; written = λ ps. rw (p, q) refl; means = λ ps. ap (λ k. k ∷ meaning ps) (number_is b 92 q) }
    by_cases false false true f p q r s = record { is = refl; written = λ ps. rw (p, q, r) refl; means = λ ps. ap (λ k. k ∷ meaning ps) (number_is b 10 r) }
    by_cases false false false true p q r s = record { is = refl; written = λ ps. rw (p, q, r, s) refl; means = λ ps. ap (λ k. k ∷ meaning ps) (number_is b 9 s) }
    by_cases false false false false p q r s = record { is = rw (p, q) refl; written = λ ps. rw (p, q, r, s) refl; means = λ ps. refl }

-- the pieces of a label's bytes are pieces of the grammar
pieces_are : (l : List ℕ) → ArePieces (pieces_of l)
pieces_are [] = refl
pieces_are (b ∷ l) = and_both (is_piece (piece_of b)) (list_all is_piece (pieces_of l)) (piece_is b).is (pieces_are l)

-- the pieces of a label's bytes are written with the four escapes
pieces_written : (l : List ℕ) → inside_quotes (pieces_of l) ≡ flat_map escaped l
pieces_written [] = refl
pieces_written (b ∷ l) = (piece_is b).written (pieces_of l) ∙ ap (λ r. escaped b ++ r) (pieces_written l)

-- the pieces of a label's bytes mean the label
pieces_mean : (l : List ℕ) → meaning (pieces_of l) ≡ l
pieces_mean [] = refl
pieces_mean (b ∷ l) = (piece_is b).means (pieces_of l) ∙ ap (λ r. b ∷ r) (pieces_mean l)

-- a label between quotes, with its escapes, spells that label
pub quoted_spells : (l : List ℕ) → SpellsLabel (quoted l) l
quoted_spells l = inr (pieces_of l, pieces_are l, ap (λ r. 34 ∷ r ++ 34 ∷ []) (sym (pieces_written l)), pieces_mean l)

-- the canonical spelling of a label spells it
pub spelling_spells : (l : List ℕ) → SpellsLabel (spelling l) l
spelling_spells l = by_case (is_bare_label l) refl
  where
    by_case : (c : Bool) → is_bare_label l ≡ c → SpellsLabel (cond c l (quoted l)) l
    by_case true e = inl (e, refl)
    by_case false e = quoted_spells l
