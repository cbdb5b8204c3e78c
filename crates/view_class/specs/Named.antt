-- Which sources a rule names.
use Rattle.std.specs.Prelude.{ℕ, Bool, false, ◌==◌}
use Rattle.std.specs.List.{list_any}
use Rattle.xmas_rule.specs.declared.condition.Cond.{Cond}
use Rattle.xmas_rule.specs.declared.condition.Cond.TheVariants.{FromSource, FromVar, Compare}
use Rattle.xmas_rule.specs.Rules.{RuleValue}

-- a condition binds a variable below the document node of this source
abbrev pub is_of : ℕ → Cond → Bool
is_of s (FromSource source path var) = source == s
is_of s (FromVar start path var) = false
is_of s (Compare t) = false

-- a rule names a source
abbrev pub names_source : RuleValue → ℕ → Bool
names_source v s = list_any (is_of s) v.conds
