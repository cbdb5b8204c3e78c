use Rattle.std.proofs.Common.{◌≡◌, [], true, false, rules}
use Rattle.csv.specs.Reading.{reader_state}
use Rattle.csv.specs.Records.{fields_of}
use Rattle.csv_wrap.specs.Csv.{file_records, without_marks}
use Rattle.csv_wrap.proofs.ReachFacts.{file_header}
use Rattle.csv_wrap.proofs.reading.read_header.Goals as goal

pub returns-then-not-branch-clause-refused : goal.returns-then-not-branch-clause-refused
unfolding file_records
returns-then-not-branch-clause-refused c = λ bytes h.
    let none : c.in_ok-read_next.field-0 ≡ false = search rules in
    rw none at c.in_ok-read_next.ensures (without_marks bytes) [] h

pub returns-in-None-clause-read : goal.returns-in-None-clause-read
returns-in-None-clause-read c = λ bytes h.
    let some : c.in_ok-read_next.field-0 ≡ true = search rules in
    let at = rw some at c.in_ok-read_next.ensures (without_marks bytes) [] h in
    rw c.in-None.ensures at at

pub returns-in-Some-clause-refused : goal.returns-in-Some-clause-refused
returns-in-Some-clause-refused c = λ bytes h.
    let some : c.in_ok-read_next.field-0 ≡ true = search rules in
    let at = rw some at c.in_ok-read_next.ensures (without_marks bytes) [] h in
    let prefix = file_header bytes (fields_of c.read_next.new.found) (reader_state c.read_next.new.reader) at.3 at.5 in
    (fields_of c.read_next.new.found, prefix.0, prefix.1, c.in-Some.ensures)
