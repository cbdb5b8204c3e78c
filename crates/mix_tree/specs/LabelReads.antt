-- What reading a label at a place of a text answers.
use Rattle.std.specs.Prelude.{ℕ, ◌-◌, ◌≤◌, ◌<◌, List, length, take, drop, slice_range}
use Rattle.std.specs.Str.{IsUtf8, IsCharBoundary}
use Rattle.mix_base.specs.Reading.{IsPrefix, IsUnexpected}
use Rattle.mix_tree.specs.LabelGrammar.{SpellsLabel}
use Rattle.mix_tree.specs.LabelMachine.{Seen, got, unexpected, ends}
use Rattle.mix_tree.specs.declared.label_read.LabelRead.{LabelRead}
use Rattle.mix_tree.specs.declared.label_read.LabelRead.TheVariants.{Got, Unexpected, Ends}

-- no prefix of the text that is a text itself spells a label
abbrev pub SpellsNowhere : List ℕ → Type 0
SpellsNowhere x = (n : ℕ) (label : List ℕ) → IsUtf8 (take n x) → SpellsLabel (take n x) label → ⊥

-- the longest spelling at a place of the text, its label, and the place after it
pub record IsLongest (x : List ℕ) (from : ℕ) (label : List ℕ) (end : ℕ) : Type 0 where
  pub order : from < end
  pub inside : end ≤ length x
  pub boundary : IsCharBoundary x end
  pub utf8 : IsUtf8 (slice_range x from end)
  pub spells : SpellsLabel (slice_range x from end) label
  pub longest : (n : ℕ) (other : List ℕ) → end < n → n ≤ length x → SpellsLabel (slice_range x from n) other → ⊥

-- no label is spelled there, and this is the first byte with which no spelling goes on
pub record IsNoLabel (x : List ℕ) (from : ℕ) (at : ℕ) : Type 0 where
  pub order : from ≤ at
  pub unexpected : IsUnexpected SpellsLabel (drop from x) (at - from)
  pub nowhere : SpellsNowhere (drop from x)

-- no label is spelled there, and a spelling goes on from the end of the text
pub record IsCutLabel (x : List ℕ) (from : ℕ) : Type 0 where
  pub prefix : IsPrefix SpellsLabel (drop from x)
  pub nowhere : SpellsNowhere (drop from x)

-- the answer is that of the text at the place
abbrev pub ReadsLabel : List ℕ → ℕ → LabelRead → Type 0
ReadsLabel x from (Got label end) = IsLongest x from label end
ReadsLabel x from (Unexpected at) = IsNoLabel x from at
ReadsLabel x from Ends = IsCutLabel x from

-- the answer as what is seen of the text
abbrev pub seen_of : List ℕ → LabelRead → Seen
seen_of x (Got label end) = got label end (drop end x)
seen_of x (Unexpected at) = unexpected at
seen_of x Ends = ends
