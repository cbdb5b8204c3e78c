-- A text that has a fault has the line that the fault names.
use Rattle.std.proofs.Common.{◌≡◌, ◌≤◌, ◌<◌, ◌+◌, ◌⊎◌, ◌==◌, ◌&&◌, ℕ, Bool, true, false, cond, List, [], ◌∷◌, inl, inr, ap, length, arith}
use Rattle.std.specs.List.{count_by}
use Rattle.std.proofs.Math.Seq.{take-length}
use Rattle.std.proofs.lemmas.List.Sums.{sum_by-cons}
use Rattle.mix_words.specs.Words.{with_first}
use Rattle.mix_words.specs.Lines.{begins_with_lf, lines_of}
use Rattle.mix_catalog.specs.declared.fault.CatalogFault.{CatalogFault}
use Rattle.mix_catalog.specs.declared.fault.CatalogFault.TheVariants.{Line, Chunk, Columns, ColumnTwice, NameTwice, TooMany, OutOfMemory}
use Rattle.mix_catalog.specs.Sources.{Refuses}
use Rattle.refusal_words.specs.Catalog.{ExplainsAt, ExplainsCatalog, IsFaultPlace, LacksLine, line_at, line_of}

-- a byte more in the first line makes no line more than one
first_longer : (b : ℕ) (lines : List (List ℕ)) (n : ℕ) → length lines ≤ n + 1 → length (with_first b lines) ≤ n + 1
first_longer b [] n h = omega arith
first_longer b (line ∷ lines) n h = h

-- a text has at most one line more than lines end in it
lines_counted : (text : List ℕ) → length (lines_of text) ≤ count_by (λ b. b == 10) text + 1
lines_counted [] = omega arith
lines_counted (b ∷ bs) =
    let count = sum_by-cons (λ y. cond (y == 10) 1 0) b bs in rw count (by_case (b == 10) (b == 13 && begins_with_lf bs) (lines_counted bs))
  where
    by_case :
        (ends cr : Bool) → length (lines_of bs) ≤ count_by (λ y. y == 10) bs + 1
        → length (cond ends ([] ∷ lines_of bs) (cond cr (lines_of bs) (with_first b (lines_of bs)))) ≤ cond ends 1 0 + count_by (λ y. y == 10) bs + 1
    by_case true cr rest = omega (arith, rest)
    by_case false true rest = omega (arith, rest)
    by_case false false rest = let longer = first_longer b (lines_of bs) (count_by (λ y. y == 10) bs) rest in omega (arith, longer)

-- a text has the line of a number that isn't past its lines
has_line : (text : List ℕ) (number place : ℕ) → number ≡ place + 1 → place < length (lines_of text) → LacksLine text number → ⊥
has_line text number place e h (inl none) = omega (arith, e, none)
has_line text number place e h (inr past) =
    let counted = lines_counted text in
    let whole : line_at text (length text) ≡ count_by (λ b. b == 10) text + 1 = ap (λ t. count_by (λ b. b == 10) t + 1) (take-length text) in
    omega (arith, e, h, past, counted, whole)

-- a text that has a fault has the line that the fault names
named_line : (text : List ℕ) (fault : CatalogFault) → Refuses text fault → LacksLine text (line_of fault) → ⊥
named_line text (Line n) f = has_line text n f.place f.fault.0 f.inside
named_line text (Chunk n) f = has_line text n f.place f.fault.3.0 f.inside
named_line text (Columns n) f = has_line text n f.place f.fault.3.0 f.inside
named_line text (ColumnTwice n) f = has_line text n f.place f.fault.3.0 f.inside
named_line text (NameTwice n) f = has_line text n f.place f.fault.3.0 f.inside
named_line text (TooMany n) f = has_line text n f.place f.fault.3.0 f.inside
named_line text OutOfMemory f = by_case
  where
    by_case : LacksLine text 1 → ⊥
    by_case (inl none) = absurd (omega (arith, none))
    by_case (inr past) = omega (arith, past)

-- what explains a fault that a text has shows a place in the line that the fault names
pub in_faulty_line :
    (text : List ℕ) (fault : CatalogFault) (words : List ℕ) → Refuses text fault → ExplainsCatalog text fault words
    → ExplainsAt text (IsFaultPlace text fault) words
in_faulty_line text fault words refused h = (h.0, there h.1, h.2, h.3, h.4, h.5)
  where
    there : LacksLine text (line_of fault) ⊎ IsFaultPlace text fault h.0 → IsFaultPlace text fault h.0
    there (inl lacks) = absurd (named_line text fault refused lacks)
    there (inr is) = is
