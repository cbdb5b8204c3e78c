-- The plan of a rule that a text spells is read again from its text, and so is its rewritten plan.
use Rattle.std.proofs.Common.{◌≤◌, ◌^◌, ℕ, List, length, arith}
use Rattle.mix_catalog.specs.declared.source.SourceSpec.{SourceSpec}
use Rattle.xmas_rule.specs.Rules.{RuleValue}
use Rattle.xmas_read.specs.Results.{names_of_sources, Spells}
use Rattle.plan_core.specs.Plans.{PlanValue}
use Rattle.plan_core.specs.Valid.{IsValid}
use Rattle.plan_make.specs.Operators.{plan_of}
use Rattle.plan_make.proofs.Validity.{plan_valid}
use Rattle.plan_read.specs.Writable.{IsWritable, WrittenPlansAreRead}
use Rattle.plan_rewrite.specs.Law.{KeepsValidity}
use Rattle.plan_rewrite.specs.Rewritten.{plan_for}
use Rattle.plan_written.specs.Again.{IsReadAgain, ViewsAreReadAgain}
use Rattle.plan_written.specs.Law.{ViewsAreWritable}
use Rattle.plan_written.proofs.Views.{spelled_is_written}

-- the plan of a rule that a text spells is valid
spelled_valid : (x : List ℕ) (sources : List (List ℕ)) (r : RuleValue) → Spells x sources r → IsValid (plan_of sources r)
spelled_valid x sources r h = plan_valid sources r (spelled_is_written x sources r h).accepted

-- what is no more than 10,000 is no more than there are variables of 32 bits
few : (n : ℕ) → n ≤ 10000 → n ≤ 2 ^ 32
few n h = omega (arith, h)

-- a writable plan of at most 10,000 operators that is valid is read again
again : WrittenPlansAreRead → (sources : List SourceSpec) (p : PlanValue) → IsWritable sources p → IsValid p → length p.ops ≤ 10000 → IsReadAgain sources p
again law sources p w v l = record { read = law.read sources p w v l; text = law.text sources p w; same = law.same sources p w v l }

-- the plans of rules that texts spell are read again, where writable plans are
pub views_again : WrittenPlansAreRead → ViewsAreWritable → KeepsValidity → ViewsAreReadAgain
views_again law written keeps = record {
  made = λ x sources r c h l.
      let names : List (List ℕ) = names_of_sources sources in again law sources (plan_of names r) (written.made x sources r c h (few _ l)) (spelled_valid x names r h) l;
  rewritten = λ x sources r c h l.
      let names : List (List ℕ) = names_of_sources sources in
      again law sources (plan_for names r) (written.rewritten x sources r c h (few _ l)) (keeps (plan_of names r) (spelled_valid x names r h)) l;
}
