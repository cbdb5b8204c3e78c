use Rattle.std.proofs.Common.{◌-◌, drop, length, arith}
use Rattle.std.proofs.lemmas.List.{take_all, length-drop}
use Rattle.std.proofs.lemmas.Str.{IsCharBoundary-after_ascii}
use Rattle.mix_catalog.proofs.ColumnsSeen.{comma_first, comma_inside}
use Rattle.mix_catalog.proofs.columns.has_comma.Goals as goal

pub returns-in-len1-up-clause-boundary : goal.returns-in-len1-up-clause-boundary
returns-in-len1-up-clause-boundary c = λ utf8 yes.
    let line = c.args.line.now in
    let whole = take_all (length line - c.args.at) (drop c.args.at line) (omega (arith, length-drop c.args.at line)) in
    let at = comma_inside line c.args.at (comma_first (drop c.args.at line) (rw whole at yes)) in
    IsCharBoundary-after_ascii line c.args.at utf8 at.0 at.1
