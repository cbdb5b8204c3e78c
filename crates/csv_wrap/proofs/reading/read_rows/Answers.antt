use Rattle.csv_wrap.proofs.PrefixFacts.{strip_none}
use Rattle.csv_wrap.proofs.reading.read_rows.Goals as goal

pub returns : goal.returns
returns c =
    let start = rw c.without_marks.ensures at c.reader_of-reader.ensures in
    let begun = start (strip_none c.args.bytes.now) in
    record { accepted = c.rows_of.ensures.accepted c.args.bytes.now begun; full = c.rows_of.ensures.full c.args.bytes.now begun; refused = c.rows_of.ensures.refused c.args.bytes.now begun }
