use Rattle.std.proofs.Common.{◌≤◌}
use Rattle.mix_lines.proofs.Cutting.{IsCutting, pages_left}
use Rattle.mix_lines.proofs.reader.LineReader.next.Given as goal

abbrev pub invariant-pages : goal.invariant-pages
invariant-pages g l =
    let view = g.I.Input.view in
    record {
      count : (view l.fn.input).faults ≤ (view l.input).faults;
      cutting : IsCutting (view l.fn.input) (view l.input) l.fn.self l.self l.line.items;
    }

abbrev pub decreases-pages : goal.decreases-pages
decreases-pages g l = pages_left (g.I.Input.view l.input) l.self
