use Rattle.std.proofs.Common.{◌≡◌, ◌++◌, take}
use Rattle.csv.specs.Records.{AllText, fields_of}
use Rattle.csv_wrap.proofs.table.put_fields.Given as goal

abbrev pub invariant-fields : goal.invariant-fields
invariant-fields l = record {
  added : l.fields ≡ l.initial.fields ++ take l.i (fields_of l.found);
  text : AllText (take l.i (fields_of l.found));
}
