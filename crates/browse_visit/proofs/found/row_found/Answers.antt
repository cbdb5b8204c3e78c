use Rattle.std.proofs.Common.{◌≡◌, ◌∙◌, ℕ, drop, ap, arith}
use Rattle.path_auto.specs.Automaton.{machine_of}
use Rattle.browse_visit.specs.Found.{row_found}
use Rattle.browse_visit.proofs.found.row_found.Goals as goal

pub returns : goal.returns
returns c =
    let first : c.loop-at.at ≡ 0 = omega (arith, c.loop-at-test.false) in
    c.loop-at.invariant.0 ∙ ap (λ (n : ℕ). row_found (machine_of c.args.automaton.now) c.args.labels.now c.args.states (drop n c.args.columns.now)) first
