-- Reading a rule's canonical text.
use Rattle.std.specs.Prelude.{◌≡◌, ℕ, List, Result, Ok, Err}
use Rattle.xmas_rule.specs.Rules.{RuleValue}
use Rattle.xmas_rule.specs.RuleMade.{rule_of}
use Rattle.xmas_rule.specs.declared.rule.Rule.{Rule}
use Rattle.xmas_read.specs.declared.fault.XmasFault.{XmasFault}
use Rattle.xmas_read.specs.Canonical.{canonical}
use Rattle.xmas_read.specs.Results.{Answers, IsWantOfMemory}

-- the answer is a rule of this value, unless memory ran out
abbrev pub IsReadAs : RuleValue → Result Rule XmasFault → Type 0
IsReadAs v (Ok r) = rule_of r ≡ v
IsReadAs v (Err e) = IsWantOfMemory e

-- a rule that is read from some text is read from its canonical text, and nothing else is
abbrev pub CanonicalIsReadAgain : Type 0
CanonicalIsReadAgain =
    (x : List ℕ) (sources : List (List ℕ)) (r : Rule) → Answers x sources (Ok r)
    → Answers (canonical sources (rule_of r)) sources (Ok r)
    × ((answer : Result Rule XmasFault) → Answers (canonical sources (rule_of r)) sources answer → IsReadAs (rule_of r) answer)
