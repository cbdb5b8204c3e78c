use Rattle.std.proofs.Common.{◌≡◌, ◌≤◌, take, length}
use Rattle.csv.specs.Records.{fields_of}
use Rattle.csv_wrap.proofs.records.difference.Given as goal

abbrev pub invariant-columns : goal.invariant-columns
invariant-columns l = record { same : take l.i (fields_of l.found) ≡ take l.i l.columns; within : l.i ≤ length (fields_of l.found) }
