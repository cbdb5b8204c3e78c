use Rattle.std.proofs.Common.{sym}
use Rattle.xmas_rule.specs.RuleMade.{rule_of}
use Rattle.plan_make.proofs.Joining.{no_branch}
use Rattle.plan_make.proofs.find.add_variable.Goals as goal

pub returns-then-not-item_collects : goal.returns-then-not-item_collects
returns-then-not-item_collects c =
    let scope = c.args.scope.now in
    no_branch (rule_of scope.rule.now) scope.outer.now scope.force.now c.args.level.now c.args.piece c.args.keys.now (sym c.if-not-item_collects.ensures)
