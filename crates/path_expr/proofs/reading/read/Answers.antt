use Rattle.std.proofs.Common.{rules, arith, subst, IfSome}
use Rattle.path_expr.specs.Results.{Spells}
use Rattle.path_expr.proofs.Count.{few_positions}
use Rattle.path_expr.proofs.Verdicts.{too_deep, too_many, within}
use Rattle.path_expr.proofs.reading.read.Goals as goal

pub returns-in-Some : goal.returns-in-Some
returns-in-Some c = (c.requires, too_deep _ c.in-Some.at c.in_ok-at.field-0 c.in_ok-at.ensures c.in-Some.is)

pub count_positions-count-requires : goal.count_positions-count-requires
count_positions-count-requires c =
    let spells : Spells c.args.text.now c.in-Some-2.path = subst (λ o. IfSome o (λ v. Spells c.args.text.now v)) c.in-Some-2.is c.in_ok-path.ensures.spells in
    omega (arith, few_positions _ _ spells, c.type_inv.text)

pub returns-then-count-gt-POSITIONS : goal.returns-then-count-gt-POSITIONS
returns-then-count-gt-POSITIONS c =
    let spells : Spells c.args.text.now c.in-Some-2.path = subst (λ o. IfSome o (λ v. Spells c.args.text.now v)) c.in-Some-2.is c.in_ok-path.ensures.spells in
    (c.requires, too_many _ c.in-Some-2.path _ c.in_ok-at.field-0 spells c.in_ok-at.ensures c.in_default.is c.count_positions-count.ensures.positions (search rules))

pub returns : goal.returns
returns c =
    let spells : Spells c.args.text.now c.in-Some-2.path = subst (λ o. IfSome o (λ v. Spells c.args.text.now v)) c.in-Some-2.is c.in_ok-path.ensures.spells in
    (c.requires, within _ c.in-Some-2.path c.in_ok-at.field-0 spells c.in_ok-at.ensures c.in_default.is (search rules))
