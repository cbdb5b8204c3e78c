use Rattle.std.proofs.Common.{rules, append_assoc}
use Rattle.mix_place.proofs.refusal.catalog_line.Goals as goal

pub returns-in-Line : goal.returns-in-Line
returns-in-Line c = rw c.in-Line.is (search (rules, append_assoc))

pub returns-in-Chunk : goal.returns-in-Chunk
returns-in-Chunk c = rw c.in-Chunk.is (search (rules, append_assoc))

pub returns-in-Columns : goal.returns-in-Columns
returns-in-Columns c = rw c.in-Columns.is (search (rules, append_assoc))

pub returns-in-ColumnTwice : goal.returns-in-ColumnTwice
returns-in-ColumnTwice c = rw c.in-ColumnTwice.is (search (rules, append_assoc))

pub returns-in-NameTwice : goal.returns-in-NameTwice
returns-in-NameTwice c = rw c.in-NameTwice.is (search (rules, append_assoc))

pub returns-in-TooMany : goal.returns-in-TooMany
returns-in-TooMany c = rw c.in-TooMany.is (search (rules, append_assoc))
