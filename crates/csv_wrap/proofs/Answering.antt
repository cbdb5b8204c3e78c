-- The list that a CSV document gives for a hole answers a fill of it.
use Rattle.lxp_core.specs.declared.open_tree.HoleId.{HoleId}
use Rattle.lxp_core.specs.Fill.{Answers}
use Rattle.source_document.specs.Meaning.{without_tables}
use Rattle.csv_wrap.specs.declared.document.CsvDoc.{CsvDoc}
use Rattle.csv_wrap.specs.Document.{given, means}
use Rattle.csv_wrap.specs.Parts.{part_of}
use Rattle.csv_wrap.proofs.Given.{closed-given, forward-given, known-given, lighter-given, progress-given}
use Rattle.csv_wrap.proofs.SmallLists.{small-given}

-- what is given for a hole answers a fill of it
pub answers-given : (d : CsvDoc) (h : HoleId) → Answers (without_tables (means d)) (without_tables (means d)) h (given d h)
answers-given d h = record {
  closes = λ told. closed-given d (part_of h);
  progress = progress-given d (part_of h);
  known = known-given d (part_of h);
  lighter = lighter-given d (part_of h);
  forward = λ told. forward-given d (part_of h);
  small = λ told. small-given d (part_of h);
}
