-- What is promised of the plans of views.
use Rattle.std.specs.Prelude.{◌≤◌, ◌^◌, ℕ, List, length}
use Rattle.mix_catalog.specs.Sources.{AreNumbered, IsCatalog}
use Rattle.mix_catalog.specs.declared.source.SourceSpec.{SourceSpec}
use Rattle.xmas_rule.specs.Rules.{RuleValue}
use Rattle.xmas_read.specs.Results.{names_of_sources, Spells}
use Rattle.plan_make.specs.Operators.{operators_of, plan_of}
use Rattle.plan_read.specs.Writable.{IsWritable}
use Rattle.plan_rewrite.specs.Rewritten.{operators_for, plan_for}

-- the plan of each rule that a text spells over the sources of a catalog is writable, and so is its rewritten plan, where it has no more operators than
-- there are variables of 32 bits
pub record ViewsAreWritable : Type 0 where
  pub made : (x : List ℕ) (sources : List SourceSpec) (r : RuleValue) → AreNumbered sources → Spells x (names_of_sources sources) r
      → length (operators_of r) ≤ 2 ^ 32 → IsWritable sources (plan_of (names_of_sources sources) r)
  pub rewritten : (x : List ℕ) (sources : List SourceSpec) (r : RuleValue) → AreNumbered sources → Spells x (names_of_sources sources) r
      → length (operators_for r) ≤ 2 ^ 32 → IsWritable sources (plan_for (names_of_sources sources) r)

-- the sources of each catalog that a text spells have names, and each is found by its name at its own place
abbrev pub CatalogsAreNumbered : Type 0
CatalogsAreNumbered = (text : List ℕ) (sources : List SourceSpec) → IsCatalog text sources → AreNumbered sources
