use Rattle.std.proofs.Common.{◌≡◌, take}
use Rattle.csv.specs.Records.{AllText, fields_of}
use Rattle.catalog_draft.proofs.records.text_fields.Given as goal

abbrev pub invariant-fields : goal.invariant-fields
invariant-fields l = record {
  added : l.labels.items ≡ take l.i (fields_of l.found);
  text : AllText (take l.i (fields_of l.found));
}
