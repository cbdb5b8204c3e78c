use Rattle.std.proofs.Common.{◌≡◌, ◌≤◌, ◌++◌, ℕ, List, length}
use Rattle.mix_io.specs.Contents.{Appends}
use Rattle.mix_run.proofs.writing.write_lines.Given as goal

abbrev pub invariant-loop-rest : goal.invariant-loop-rest
invariant-loop-rest g l =
    let view = g.K.Sink.view in
    record {
      count : (view l.fn.out).faults ≤ (view l.out).faults;
      done : (done : List ℕ) × Appends (view l.fn.out).written (view l.out).written done × (done ++ l.rest ≡ l.text);
    }

abbrev pub decreases-loop-rest : goal.decreases-loop-rest
decreases-loop-rest g l = length l.rest
