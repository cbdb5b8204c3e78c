use Rattle.std.proofs.Common.{[]}
use Rattle.csv.specs.Records.{fields_of}
use Rattle.csv_wrap.specs.Csv.{without_marks}
use Rattle.csv_wrap.proofs.PrefixFacts.{strip_none}
use Rattle.catalog_draft.proofs.FirstRecords.{first_is}
use Rattle.catalog_draft.proofs.records.first_record.Goals as goal

pub returns : goal.returns
returns c =
    let bytes = c.args.bytes.now in
    let at = rw c.after_marks.ensures at c.reader_of-reader.ensures in
    first_is bytes (fields_of c.read_next.new.found) c.read_next.new.reader c.read_next.result (c.read_next.ensures (without_marks bytes) [] (at (strip_none bytes)))
