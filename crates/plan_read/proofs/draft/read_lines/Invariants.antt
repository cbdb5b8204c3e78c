use Rattle.std.proofs.Common.{map, take}
use Rattle.plan_read.specs.Drafts.{AreDrafts}
use Rattle.plan_read.specs.Lines.{line_of}
use Rattle.plan_read.proofs.draft.read_lines.Given as goal

abbrev pub invariant-lines : goal.invariant-lines
invariant-lines l = AreDrafts l.names l.catalog (take l.line-index (map line_of l.lines)) l.drafts.items
