use Rattle.std.proofs.Common.{◌≡◌, ◌∙◌, cond, get_or, sym, ap}
use Rattle.path_auto.specs.Positions.{passes}
use Rattle.path_auto.specs.Sets.{row_at}
use Rattle.path_auto.proofs.Least.{row_here, row_after}
use Rattle.path_auto.proofs.auto.row_of.Goals as goal
use Rattle.path_auto.proofs.auto.row_of.Goals.{In-Some}

-- what a position gives to a step is its row, where the label may stand there
row : (c : In-Some) → row_at c.args.labels.now c.args.after.now c.args.at c.args.label.now ≡ cond (passes c.in-Some.test.now c.args.label.now) (get_or c.args.after.now c.args.at 0) 0
row c =
    row_here c.args.labels.now c.args.after.now c.args.at c.in-Some.test.now c.args.label.now c.requires c.in-Some.ensures.lookup.3.0 c.in-Some.ensures.lookup.1

pub returns-in-Some : goal.returns-in-Some
returns-in-Some c =
    sym (row (goal.at.returns-in-Some c).In-Some ∙ ap (λ p. cond p (get_or c.args.after.now c.args.at 0) 0) (sym c.passes_label.ensures ∙ c.if-passes_label.true))

pub returns-in_default : goal.returns-in_default
returns-in_default c =
    sym (row (goal.at.returns-in_default c).In-Some ∙ ap (λ p. cond p (get_or c.args.after.now c.args.at 0) 0) (sym c.passes_label.ensures ∙ c.if-passes_label.false))

pub returns-in_default-2 : goal.returns-in_default-2
returns-in_default-2 c =
    let lookup = (rw c.in_default.is at c.get.ensures.lookup) in
    sym (row_after c.args.labels.now c.args.after.now c.args.at c.args.label.now lookup.3)
