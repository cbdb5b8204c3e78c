-- The columns of a source: spellings with commas between them and no blanks outside quotes. Those of a CSV source are labels.
use Rattle.std.specs.Prelude.{◌≡◌, ℕ, ◌+◌, Bool, true, false, ◌&&◌, not, cond, ◌==◌, List, [], ◌∷◌, ◌++◌, Option, Some, None, option_map, drop}
use Rattle.std.specs.List.{list_any}
use Rattle.std.specs.Str.{bytes_eq}
use Rattle.mix_tree.specs.LabelGrammar.{SpellsLabel}
use Rattle.mix_tree.specs.LabelMachine.{Spot, start, step, label_in}
use Rattle.mix_catalog.specs.declared.columns.Columns.{Columns}

-- what stands after one column: nothing after the last one, else a comma and the text of the others
abbrev pub SpellsOthers : {C : Type 0} → List C → (List ℕ → Type 0) → List ℕ → Type 0
SpellsOthers [] SpellsMore x = x ≡ []
SpellsOthers (c ∷ cs) SpellsMore x = (more : List ℕ) × SpellsMore more × (x ≡ 44 ∷ more)

-- the text spells one or more columns, each of them as one is spelled
abbrev pub SpellsEach : {C : Type 0} → (List ℕ → C → Type 0) → List C → List ℕ → Type 0
SpellsEach SpellsOne [] x = ⊥
SpellsEach SpellsOne (c ∷ cs) x = (spelled others : List ℕ) × SpellsOne spelled c × SpellsOthers cs (SpellsEach SpellsOne cs) others × (x ≡ spelled ++ others)

-- the text spells one or more columns of a CSV source
abbrev pub SpellsColumns : List (List ℕ) → List ℕ → Type 0
SpellsColumns labels x = SpellsEach SpellsLabel labels x

-- columns that are seen: their labels, and the place and the text after them
pub record Seen : Type 0 where
  pub labels : List (List ℕ)
  pub end : ℕ
  pub after : List ℕ

-- columns that end at a place
abbrev pub ended : List (List ℕ) → ℕ → List ℕ → Seen
ended labels i x = record { labels = labels; end = i; after = x }

-- columns with one more after them
abbrev pub with_last : List (List ℕ) → List ℕ → List (List ℕ)
with_last done l = done ++ l ∷ []

-- a byte that goes on the column at hand leads to what is seen of the rest
abbrev pub or_stop : (Spot → Option Seen) → Option Seen → Option Spot → Option Seen
or_stop goes_on stop None = stop
or_stop goes_on stop (Some t) = goes_on t

-- a byte after a column: a comma, or the byte ends the columns; there are none where no label may end
abbrev pub after_label : List (List ℕ) → (List (List ℕ) → Option Seen) → ℕ → ℕ → List ℕ → Option (List ℕ) → Option Seen
after_label done more i b x None = None
after_label done more i b x (Some l) = cond (b == 44) (more (with_last done l)) (Some (ended (with_last done l) i (b ∷ x)))

-- the columns that are seen of a text that stands at a place, after others, from a spot of a spelling on
abbrev pub columns_from : List (List ℕ) → Spot → ℕ → List ℕ → Option Seen
columns_from done s i [] = option_map (λ l. ended (with_last done l) i []) (label_in s)
columns_from done s i (b ∷ x) = or_stop (λ t. columns_from done t (i + 1) x) (after_label done (λ next. columns_from next start (i + 1) x) i b x (label_in s)) (step s b)

-- the columns that are seen at a place of a line
abbrev pub columns_at : List ℕ → ℕ → Option Seen
columns_at line at = columns_from [] start at (drop at line)

-- what was read as what is seen of the line
abbrev pub seen_of : List ℕ → Columns → Seen
seen_of line c = ended c.labels.items c.end (drop c.end line)

-- whether a comma is the first byte of a text
abbrev pub has_comma : List ℕ → Bool
has_comma [] = false
has_comma (b ∷ x) = b == 44

-- whether no column is the same as one after it
abbrev pub are_apart : List (List ℕ) → Bool
are_apart [] = true
are_apart (c ∷ cs) = not (list_any (bytes_eq c) cs) && are_apart cs
