-- What `count` writes after the answers, and the class of a plan.
use Rattle.std.specs.Prelude.{ℕ, List, ◌++◌, codes}
use Rattle.std.specs.Fmt.{decimal}
use Rattle.browse_class.specs.declared.class.Class.{Class}
use Rattle.browse_class.specs.Classes.{class_in}
use Rattle.mix_catalog.specs.declared.source.SourceSpec.{SourceSpec}
use Rattle.plan_core.specs.Plans.{Operator}
use Rattle.view_class.specs.Layouts.{layout_in}
use Rattle.view_class.specs.Lines.{class_line}

-- the class of a plan's operators over the sources of a catalog
abbrev pub class_over : List SourceSpec → List Operator → Class
class_over sources ops = class_in (layout_in sources) ops

-- the lines that tell the numbers of commands, fills and pages
abbrev pub number_lines : (commands fills pages : ℕ) → List ℕ
number_lines commands fills pages = codes "commands " ++ decimal commands ++ codes "\nfills " ++ decimal fills ++ codes "\npages " ++ decimal pages ++ codes "\n"

-- the lines that tell the numbers of commands, fills and pages, and the line of a class
abbrev pub count_lines : (commands fills pages : ℕ) → Class → List ℕ
count_lines commands fills pages class = number_lines commands fills pages ++ class_line class
