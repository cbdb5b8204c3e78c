-- What the constant of a bounded plan, and of a bounded view, promises.
use Rattle.std.specs.Prelude.{◌≡◌, ◌≤◌, ℕ, true, IfSome, List, length}
use Rattle.browse_class.specs.declared.class.Class.TheVariants.{Bounded}
use Rattle.mix_catalog.specs.declared.source.SourceSpec.{SourceSpec}
use Rattle.mix_script.specs.declared.step.Way.{Way}
use Rattle.mix_session.specs.Walks.{place_toll}
use Rattle.plan_core.specs.Plans.{Operator, PlanValue}
use Rattle.plan_core.specs.Valid.{IsValid}
use Rattle.plan_rewrite.specs.Rewritten.{operators_for}
use Rattle.table_keep.specs.Views.{Declared, TablesView}
use Rattle.view_class.specs.Laid.{AreRows}
use Rattle.view_class.specs.Reads.{reads_source}
use Rattle.xmas_read.specs.Results.{names_of_sources}
use Rattle.xmas_rule.specs.Rules.{RuleValue, IsAccepted}
use Rattle.mix_run.specs.Answered.{IsTable, is_told}
use Rattle.mix_run.specs.Counts.{class_over}
use Rattle.mix_run.specs.Runs.{AreDocuments}
use Rattle.mix_run.specs.Outside.{Outside}
use Rattle.mix_run.specs.Question.{Question}

-- the values in the told rows of each table that a plan's operators read are as the catalog declares its columns
abbrev pub AreDeclared : TablesView → List Operator → List SourceSpec → Type 0
AreDeclared tables ops sources = (s : ℕ) (d : Declared) → IsTable (reads_source ops) sources s d → IfSome (tables.told d) (AreRows d.columns)

-- the class of what is asked is bounded by a number, over documents that are told: those of its files, of tables with values as declared, and of other machines
pub record IsBoundedBy (before : Outside) (q : Question) (most : ℕ) : Type 0 where
  pub documents : AreDocuments before q
  pub told : is_told before.stores q ≡ true
  pub declared : AreDeclared before.stores.tables q.ops q.sources
  pub class : class_over q.sources q.ops ≡ Bounded most

-- where the class of a valid plan is bounded, a step down or right from each place of its document costs at most the constant, over all documents that
-- its files give, all told tables with values as declared, and all told documents of other machines
abbrev pub BoundedPlans : Type 0
BoundedPlans = (before : Outside) (p : PlanValue) (q : Question) (most : ℕ) → IsValid p → q.ops ≡ p.ops → IsBoundedBy before q most
    → (way : Way) (place : List ℕ) → place_toll q.docs q.ops way place ≤ most

-- where the class of a view is bounded, a step down or right from each place of its document costs at most the constant, over all documents that its
-- files give, all told tables with values as declared, and all told documents of other machines
abbrev pub BoundedViews : Type 0
BoundedViews = (before : Outside) (v : RuleValue) (q : Question) (most : ℕ) → IsAccepted (length (names_of_sources q.sources)) v → q.ops ≡ operators_for v
    → IsBoundedBy before q most → (way : Way) (place : List ℕ) → place_toll q.docs q.ops way place ≤ most
