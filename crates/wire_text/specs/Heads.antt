-- Trees as texts, one head after another.
use Rattle.std.specs.Prelude.{◌≡◌, ℕ, ◌+◌, ◌<◌, ◌≤◌, ◌^◌, List, ◌∷◌, ◌++◌, length, take, Result, Ok, Err}
use Rattle.std.specs.Borrow.{Bor}
use Rattle.std.specs.Str.{IsUtf8}
use Rattle.wire_text.specs.declared.scanning.Stop.{Stop}
use Rattle.wire_text.specs.declared.scanning.Stop.TheVariants.{Unexpected, Ends}
use Rattle.wire_text.specs.declared.utf8.LabelEnd.{LabelEnd}
use Rattle.wire_text.specs.declared.utf8.LabelEnd.TheVariants.{Whole, Wrong, Cut}
use Rattle.wire_text.specs.Wired.{Wired, count_of}
use Rattle.wire_text.specs.Bytes.{u32_bytes, trees_bytes, AreTrees}
use Rattle.wire_text.specs.Reading.{Verdict, unexpected, ends, Judges, Leads}

-- the text is so many trees
abbrev pub IsTreesText : ℕ → List ℕ → Type 0
IsTreesText n x = (o : Wired) × AreTrees o × (count_of o ≡ n) × (x ≡ trees_bytes o)

-- the text is a label of so many bytes
abbrev pub IsLabelText : ℕ → List ℕ → Type 0
IsLabelText n x = IsUtf8 x × (length x ≡ n)

-- what a stop says
abbrev pub verdict_of : Stop → Verdict
verdict_of (Unexpected left) = unexpected left
verdict_of Ends = ends

-- the text is one of the grammar, or the stop says why it isn't
abbrev pub JudgesText : {T : Type 0} → (List ℕ → Type 0) → List ℕ → Result T Stop → Type 0
JudgesText Is x (Ok u) = Is x
JudgesText Is x (Err stop) = Judges Is x (verdict_of stop)

-- a tree up to its children, or a hole, stands before the rest, and so many children come
pub record IsHead (x : List ℕ) (kids : ℕ) (rest : List ℕ) : Type 0 where
  pub prefix : List ℕ
  pub parts : x ≡ prefix ++ rest
  pub some : 0 < length prefix
  pub few : kids < 2 ^ 32
  pub leads : (n : ℕ) → Leads (IsTreesText (n + 1)) prefix (IsTreesText (kids + n))

-- the head that the text begins with, or why it begins with none
abbrev pub ReadsHead : List ℕ → Result (ℕ × Bor (List ℕ)) Stop → Type 0
ReadsHead x (Ok found) = IsHead x found.0 found.1.now
ReadsHead x (Err stop) = (n : ℕ) → Judges (IsTreesText (n + 1)) x (verdict_of stop)

-- the text begins with a label of so many bytes; or a byte is the first with which none goes on; or it ends in one
abbrev pub ReadsLabelEnd : List ℕ → ℕ → LabelEnd → Type 0
ReadsLabelEnd x n Whole = (n ≤ length x) × IsUtf8 (take n x)
ReadsLabelEnd x n (Wrong at) = (at < length x) × (at < n) × ((y : List ℕ) × IsLabelText n (take at x ++ y)) × ((y : List ℕ) → IsLabelText n (take (at + 1) x ++ y) → ⊥)
ReadsLabelEnd x n Cut = (length x < n) × ((y : List ℕ) × IsLabelText n (x ++ y))

-- a label of so many bytes, the number of children, and what follows; or why a tree's head does not go on so
abbrev pub ReadsKids : List ℕ → ℕ → Result (ℕ × Bor (List ℕ)) Stop → Type 0
ReadsKids x len (Ok found) = (label : List ℕ) × IsLabelText len label × (found.0 < 2 ^ 32) × (x ≡ label ++ (u32_bytes found.0 ++ found.1.now))
ReadsKids x len (Err stop) = (n : ℕ) → Judges (IsTreesText (n + 1)) (0 ∷ (u32_bytes len ++ x)) (verdict_of stop)
