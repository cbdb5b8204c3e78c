use Rattle.std.proofs.Common.{◌∙◌, ◌==◌, length, ap}
use Rattle.std.specs.Prelude.{not}
use Rattle.std.specs.Int.{bit_at}
use Rattle.std.specs.Int.RustNames.{bit_and}
use Rattle.path_auto.specs.Automaton.{machine_of, Table}
use Rattle.path_auto.proofs.Least.{has_position}
use Rattle.path_auto.proofs.auto.Auto.accepts.Goals as goal

pub returns : goal.returns
unfolding machine_of
returns c =
    ap (λ n. not (bit_and n c.self.inside.end == 0)) c.bits.ensures
    ∙ has_position c.args.states (length c.self.inside.labels.items) c.self.inside.end c.self.invariant.2
    ∙ ap (λ (t : Table). bit_at c.args.states (length t.labels) == 1) c.self.view_is
