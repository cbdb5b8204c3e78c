use Rattle.std.proofs.Common.{◌≡◌, ◌-◌, length}
use Rattle.lxp_wire.specs.Stream.{sources_of, stream_of}
use Rattle.mix_serve.proofs.Going.{IsServing}
use Rattle.mix_serve.proofs.serving.serve_pieces.Given as goal

abbrev pub invariant-pieces : goal.invariant-pieces
invariant-pieces g l =
    let view = g.S.Sources.view in
    let input = g.I.Input.view in
    let sink = g.K.Sink.view in
    record {
      came : g.S.Sources.came_from (sources_of l.fn.server) (sources_of l.server);
      long : length l.room.items ≡ 4096;
      serving : IsServing (view (sources_of l.fn.server)) (view (sources_of l.server)) (input l.fn.streams.input) (input l.streams.input) (sink l.fn.streams.out) (sink l.streams.out)
          (stream_of l.server) l.taken;
    }

abbrev pub decreases-pieces : goal.decreases-pieces
decreases-pieces g l = 1073741825 - l.taken
