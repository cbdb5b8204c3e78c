-- What is found of a label's spelling without making the label.
use Rattle.std.specs.Prelude.{◌≡◌, ℕ, ◌+◌, ◌≤◌, ◌<◌, cond, Option, Some, None, List, [], ◌∷◌, ◌++◌, length, drop, slice_range}
use Rattle.std.specs.Str.{IsUtf8, IsCharBoundary}
use Rattle.mix_tree.specs.LabelGrammar.{is_escape, escaped_byte}
use Rattle.mix_tree.specs.LabelMachine.{start, in_quotes, seen_from, got, unexpected, ends}
use Rattle.mix_tree.specs.declared.label_scan.PlainLabel.{PlainLabel}
use Rattle.mix_tree.specs.declared.label_piece.LabelPiece.{LabelPiece}
use Rattle.mix_tree.specs.declared.label_piece.LabelPiece.TheVariants.{Escape, Quote, Unexpected, Ends}

-- the bytes of the text between two places are the label that is seen at a place
pub record StandsAt (text : List ℕ) (at : ℕ) (p : PlainLabel) : Type 0 where
  pub order : p.from ≤ p.to
  pub within : p.to ≤ length text
  pub utf8 : IsUtf8 (slice_range text p.from p.to)
  pub next : at < p.end
  pub inside : p.end ≤ length text
  pub boundary : IsCharBoundary text p.end
  pub seen : seen_from start at (drop at text) ≡ got (slice_range text p.from p.to) p.end (drop p.end text)

-- the byte that is meant by one after a backslash, where that is an escape
abbrev pub escape_of : ℕ → Option ℕ
escape_of b = cond (is_escape b) (Some (escaped_byte b)) None

-- between quotes, some bytes that stand for themselves come next, and then an escape
pub record IsEscape (text : List ℕ) (at to byte : ℕ) : Type 0 where
  pub order : at ≤ to
  pub inside : to + 2 ≤ length text
  pub utf8 : IsUtf8 (slice_range text at to)
  pub ascii : byte < 128
  pub boundary : IsCharBoundary text (to + 2)
  pub seen : (l : List ℕ) → seen_from (in_quotes l) at (drop at text) ≡ seen_from (in_quotes ((l ++ slice_range text at to) ++ byte ∷ [])) (to + 2) (drop (to + 2) text)

-- between quotes, some bytes that stand for themselves come next, and then the closing quote
pub record IsQuote (text : List ℕ) (at to : ℕ) : Type 0 where
  pub order : at ≤ to
  pub inside : to + 1 ≤ length text
  pub utf8 : IsUtf8 (slice_range text at to)
  pub boundary : IsCharBoundary text (to + 1)
  pub seen : (l : List ℕ) → seen_from (in_quotes l) at (drop at text) ≡ got (l ++ slice_range text at to) (to + 1) (drop (to + 1) text)

-- the piece is what stands at a place of the text between quotes
abbrev pub IsPiece : List ℕ → ℕ → LabelPiece → Type 0
IsPiece text at (Escape to byte) = IsEscape text at to byte
IsPiece text at (Quote to) = IsQuote text at to
IsPiece text at (Unexpected i) = (l : List ℕ) → seen_from (in_quotes l) at (drop at text) ≡ unexpected i
IsPiece text at Ends = (l : List ℕ) → seen_from (in_quotes l) at (drop at text) ≡ ends
