-- The views that a plan reads, and the sources that it needs for them.
use Rattle.std.specs.Prelude.{◌≡◌, ℕ, Bool, true, false, ◌&&◌, ◌||◌, not, List, Option, Some, None, map, option_map, get_or}
use Rattle.std.specs.List.{list_any}
use Rattle.mix_io.specs.Views.{FilesView}
use Rattle.mix_catalog.specs.declared.source.SourceSpec.{SourceSpec}
use Rattle.mix_catalog.specs.Grammar.{file_of}
use Rattle.plan_core.specs.declared.plan.Plan.{Plan}
use Rattle.plan_core.specs.PlanMade.{plan_value}
use Rattle.plan_core.specs.Plans.{Operator}
use Rattle.plan_rewrite.specs.Rewritten.{operators_for}
use Rattle.view_class.specs.Reads.{reads_source}
use Rattle.xmas_rule.specs.Rules.{RuleValue}
use Rattle.mix_place.specs.Files.{IsRuleFile}

-- the operators of a view, where there is one
abbrev pub view_ops : Option Plan → Option (List Operator)
view_ops view = option_map (λ p. (plan_value p).ops) view

-- the operators of views, where there are views
abbrev pub lower_of : List (Option Plan) → List (Option (List Operator))
lower_of views = map view_ops views

-- the operators of the view at a place; none where it is not read, or where there are not so many
abbrev pub lower_at : List (Option (List Operator)) → ℕ → Option (List Operator)
lower_at lower i = get_or lower i None

-- whether a view reads a source; one that is not read itself reads none
abbrev pub reads_lower : ℕ → Option (List Operator) → Bool
reads_lower s None = false
reads_lower s (Some ops) = reads_source ops s

-- whether operators read a source, or a view does that they read
abbrev pub needs : List Operator → List (Option (List Operator)) → ℕ → Bool
needs ops lower s = reads_source ops s || list_any (reads_lower s) lower

-- whether a view reads a source that neither the operators above it nor the views before it read
abbrev pub adds : List Operator → List (Option (List Operator)) → Option (List Operator) → ℕ → Bool
adds ops lower view s = reads_lower s view && not (needs ops lower s)

-- a file was read whole and spells a rule over sources of given names, of which these are the operators of the plan, its selections moved
abbrev pub GivesView : FilesView → List (List ℕ) → SourceSpec → List Operator → Type 0
GivesView files names spec ops = (v : RuleValue) × IsRuleFile files (file_of spec.kind) names v × (ops ≡ operators_for v)

-- a view that is a source was read: where it is not to be read it has no operators, and where it is, its file gives them over sources of given names
abbrev pub IsLower : FilesView → List (List ℕ) → SourceSpec → Bool → Option (List Operator) → Type 0
IsLower files names spec read None = read ≡ false
IsLower files names spec read (Some ops) = (read ≡ true) × GivesView files names spec ops
