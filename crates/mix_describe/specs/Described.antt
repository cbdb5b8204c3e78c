-- What a description says.
use Rattle.std.specs.Prelude.{ℕ, List}
use Rattle.mix_place.specs.declared.refusal.FileFault.{FileFault}
use Rattle.mix_describe.specs.declared.described.Described.{Described}
use Rattle.mix_describe.specs.Describes.{DescribesCsv, Refuses, RefusesSchema}

-- a description is the line with which a file is refused for a fault
abbrev pub IsRefusalOf : List ℕ → FileFault → Described → Type 0
IsRefusalOf path fault d = Refuses path fault d.status d.lines.items

-- a description is the line with which a database is refused for a reason in words
abbrev pub IsSchemaRefusal : List ℕ → List ℕ → Described → Type 0
IsSchemaRefusal path why d = RefusesSchema path why d.status d.lines.items

-- a description is that of a text as a CSV file
abbrev pub DescribesText : List ℕ → List ℕ → Described → Type 0
DescribesText path text d = DescribesCsv path text d.status d.lines.items
