-- Rules of the program as values.
use Rattle.xmas_rule.specs.Rules.{RuleValue}
use Rattle.xmas_rule.specs.declared.rule.Rule.{Rule}

-- a rule of the program as a value
abbrev pub rule_of : Rule → RuleValue
rule_of r =
    record { label = r.template.label; items = r.template.items; keys = r.template.keys; conds = r.conds.items; order = r.order; names = r.names.items }
