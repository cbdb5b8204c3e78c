-- Which sources the operators of a plan read.
use Rattle.std.specs.Prelude.{◌≡◌, ℕ, Bool, true, false, ◌==◌, List}
use Rattle.std.specs.List.{list_any}
use Rattle.browse_class.specs.Classes.{class_in}
use Rattle.browse_visit.specs.Layouts.{Layout}
use Rattle.plan_core.specs.Plans.{Operator, PlanValue}
use Rattle.plan_core.specs.Shapes.{Shape, one_source, visits_below, pairs_up, passes_on, no_events, shape_of}
use Rattle.plan_core.specs.Valid.{IsValid}
use Rattle.plan_rewrite.specs.Rewritten.{operators_for}
use Rattle.xmas_rule.specs.Rules.{RuleValue, IsAccepted}
use Rattle.view_class.specs.Named.{names_source}

-- whether a shape is that of the node of this source
abbrev pub shape_reads : ℕ → Shape → Bool
shape_reads s (one_source number out) = number == s
shape_reads s (visits_below input start path out) = false
shape_reads s (pairs_up left right tests) = false
shape_reads s (passes_on input stage) = false
shape_reads s (no_events input made) = false

-- whether an operator reads this source
abbrev pub op_reads : ℕ → Operator → Bool
op_reads s op = shape_reads s (shape_of op)

-- whether one of a plan's operators reads a source
abbrev pub reads_source : List Operator → ℕ → Bool
reads_source ops s = list_any (op_reads s) ops

-- the plan of an accepted rule, its selections moved, reads the sources that the rule names, and no others
abbrev pub ReadsNamed : Type 0
ReadsNamed = (n : ℕ) (v : RuleValue) → IsAccepted n v → (s : ℕ) → reads_source (operators_for v) s ≡ names_source v s

-- how a source is laid out that no operator of a valid plan reads doesn't matter to the plan's class
abbrev pub UnreadDontMatter : Type 0
UnreadDontMatter =
    (a b : ℕ → Layout) (p : PlanValue) → IsValid p → ((s : ℕ) → reads_source p.ops s ≡ true → a s ≡ b s) → class_in a p.ops ≡ class_in b p.ops
