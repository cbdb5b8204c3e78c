use Rattle.std.proofs.Common.{map, string_bytes, subst}
use Rattle.far_keep.specs.Views.{FarsView}
use Rattle.mix_run.specs.Outside.{outside}
use Rattle.mix_top.specs.Alone.{tables_alone}
use Rattle.mix_top.specs.Call.{CommandEnds}
use Rattle.mix_top.specs.Commands.{command_of}
use Rattle.mix_top.proofs.alone.mixq.Goals as goal

pub returns-clause-ends : goal.returns-clause-ends
returns-clause-ends g c =
    let faults = c.mixq_over-status.result.1.fars.faults in
    let after = outside (g.F.Files.view c.mixq_over-status.new.files) (tables_alone (g.T.Tables.view c.mixq_over-status.result.1.tables) faults) in (
      faults,
      subst
          (λ (fars : FarsView). CommandEnds (command_of (map string_bytes c.args.words.now)) (outside (g.F.Files.view c.args.files.now) (record { tables = g.T.Tables.view c.args.tables; fars = fars })) after
          (g.I.Input.view c.args.streams.now.input) (g.I.Input.view c.mixq_over-status.new.streams.input) (g.K.Sink.view c.args.streams.now.out) (g.K.Sink.view c.mixq_over-status.new.streams.out)
          c.mixq_over-status.result.0)
          c.new-fars.ensures c.mixq_over-status.ensures.ends,
    )
