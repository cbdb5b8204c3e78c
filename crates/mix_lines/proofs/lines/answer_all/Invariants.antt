use Rattle.std.proofs.Common.{◌≤◌, List}
use Rattle.mix_script.specs.Names.{held}
use Rattle.mix_lines.specs.Heard.{Heard}
use Rattle.mix_lines.specs.Written.{IsFar}
use Rattle.mix_lines.proofs.lines.answer_all.Given as goal

abbrev pub invariant-requests : goal.invariant-requests
invariant-requests g l =
    let view = g.S.Sources.view in
    let means = g.W.Walker.means in
    let sink = g.K.Sink.view in
    record {
      came : g.S.Sources.came_from l.initial.s l.s;
      count : (sink l.initial.out).faults ≤ (sink l.out).faults;
      ready : g.R.Requests.IsReady l.requests l.from;
      far : (done : List Heard) × g.R.Requests.come l.initial.requests l.initial.from l.requests l.from done
          × IsFar (means (view l.initial.s) l.initial.session.walker).course (means (view l.s) l.session.walker) (view l.initial.s) (view l.s) (held l.session.names) l.names done (sink l.initial.out).written
          (sink l.out).written l.marked;
    }

abbrev pub decreases-requests : goal.decreases-requests
decreases-requests g l = g.R.Requests.left l.requests l.from
