-- What the operators of lines stand for as they are read.
use Rattle.std.specs.Prelude.{◌≡◌, ◌<◌, ℕ, nat_lt, List, [], ◌∷◌, length, map, Some}
use Rattle.std.specs.List.{AllByRecursion, list_any}
use Rattle.mix_catalog.specs.declared.source.SourceSpec.{SourceSpec}
use Rattle.plan_core.specs.PlanMade.{op_of}
use Rattle.plan_core.specs.declared.plan.Op.{Op}
use Rattle.plan_core.specs.Shapes.{shape_of}
use Rattle.plan_core.specs.Valid.{inputs_of}
use Rattle.plan_read.specs.Checks.{positions}
use Rattle.plan_read.specs.Lines.{Line}
use Rattle.plan_read.specs.Reading.{Numbered, numbered, line_read}
use Rattle.plan_read.specs.Variables.{line_vars, is_below}
use Rattle.plan_read.specs.declared.draft.Draft.{Draft}

-- the operator of a draft, with its number
abbrev pub numbered_of : Draft → Numbered
numbered_of d = numbered d.number (op_of d.op)

-- an operator that was read, with the number read before it
abbrev pub numbered_pair : ℕ × Op → Numbered
numbered_pair f = numbered f.0 (op_of f.1)

-- the operators of drafts, with their numbers
abbrev pub all_numbered : List Draft → List Numbered
all_numbered ds = map numbered_of ds

-- the numbers of the lines of drafts
abbrev pub lines_of : List Draft → List ℕ
lines_of ds = map (λ (d : Draft). d.line) ds

-- the draft has the number k, and its operator inputs of smaller numbers
abbrev pub IsPlaced : Draft → ℕ → Type 0
IsPlaced d k = (d.number ≡ k) × AllByRecursion (λ i. i < k) (inputs_of (op_of d.op))

-- the draft is what the line reads as
pub record IsDraft (names : List (List ℕ)) (sources : List SourceSpec) (l : Line) (d : Draft) : Type 0 where
  pub read : line_read names sources l.text ≡ Some (numbered_of d)
  pub line : d.line ≡ l.number
  pub long : d.is_long ≡ nat_lt 120 (positions (shape_of (op_of d.op)))
  pub low : d.is_low ≡ list_any (is_below (length names)) (line_vars l.text)

-- the drafts are what the lines read as, one by one
abbrev pub AreDrafts : List (List ℕ) → List SourceSpec → List Line → List Draft → Type 0
AreDrafts names sources [] [] = Unit {0}
AreDrafts names sources [] (d ∷ ds) = ⊥
AreDrafts names sources (l ∷ ls) [] = ⊥
AreDrafts names sources (l ∷ ls) (d ∷ ds) = IsDraft names sources l d × AreDrafts names sources ls ds
