use Rattle.std.proofs.Common.{◌≡◌, take}
use Rattle.std.specs.List.{All}
use Rattle.document_store.specs.Texts.{IsShort}
use Rattle.csv_wrap.proofs.table.copy_columns.Given as goal

abbrev pub invariant-columns : goal.invariant-columns
invariant-columns l = record {
  same : l.copies.items ≡ take l.i l.columns;
  short : All IsShort l.copies.items;
}
