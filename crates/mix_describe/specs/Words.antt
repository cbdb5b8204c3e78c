-- Which words ask for a description, how their call ends, and which file it may read.
use Rattle.std.specs.Prelude.{◌≡◌, ℕ, cond, List, [], ◌∷◌, Option, Some, None, codes}
use Rattle.std.specs.Str.{bytes_eq}
use Rattle.mix_io.specs.Views.{FilesView, SinkView}
use Rattle.schema_keep.specs.Views.{SchemasView}
use Rattle.mix_run.specs.Ends.{Ends}
use Rattle.mix_top.specs.Texts.{unknown_text}
use Rattle.mix_describe.specs.Describes.{Describes}

-- the file of a description, where words ask for one
abbrev pub described_of : List (List ℕ) → Option (List ℕ)
described_of [] = None
described_of (word ∷ []) = None
described_of (word ∷ a ∷ []) = cond (bytes_eq word (codes "describe")) (Some a) None
described_of (word ∷ a ∷ b ∷ words) = None

-- how the call of words ends that are to ask for a description: with its lines and its status, or they are refused
abbrev pub DescribeWordsEnd : Option (List ℕ) → FilesView → FilesView → SchemasView → SchemasView → SinkView → SinkView → ℕ → Type 0
DescribeWordsEnd (Some path) old new before after = Ends (Describes old new before after path)
DescribeWordsEnd None old new before after = Ends (λ status lines. (status ≡ 2) × (lines ≡ unknown_text))

-- the file that a call of words may read that are to ask for a description
abbrev pub DescribeMayRead : Option (List ℕ) → List ℕ → Type 0
DescribeMayRead (Some path) other = other ≡ path
DescribeMayRead None other = ⊥
