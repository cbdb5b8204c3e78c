use Rattle.std.proofs.Common.{◌∙◌, ap, sym}
use Rattle.path_auto.specs.Sets.{step_from}
use Rattle.std.specs.Int.RustNames.{bit_or}
use Rattle.path_auto.proofs.Least.{step_on, step_none}
use Rattle.path_auto.proofs.Unions.{or_zero}
use Rattle.path_auto.proofs.auto.step_table.Goals as goal

pub loop-rest-preserved : goal.loop-rest-preserved
loop-rest-preserved c =
    step_on c.args.labels.now c.args.after.now c.least.result c.loop-rest.rest c.without_least-rest.result c.loop-rest.found c.row_of-found.result c.args.label.now
    c.least.ensures (c.without_least-rest.ensures.others c.least.result c.least.ensures) c.row_of-found.ensures
    ∙ c.loop-rest.invariant

pub returns : goal.returns
returns c =
    let labels = c.args.labels.now in
    let after = c.args.after.now in
    let gone = ap (λ n. step_from labels after 0 n c.args.label.now) c.loop-rest-test.false ∙ step_none labels after 0 c.args.label.now in
    sym (or_zero c.loop-rest.found) ∙ sym (ap (bit_or c.loop-rest.found) gone) ∙ c.loop-rest.invariant
