-- The lines of the sources so far that the plan reads.
use Rattle.std.proofs.Common.{◌≡◌}
use Rattle.plan_core.specs.PlanMade.{plan_value}
use Rattle.view_class.specs.Reads.{reads_source}
use Rattle.view_report.specs.Sources.{source_lines}
use Rattle.view_report.proofs.sources.source_lines.Given as goal

abbrev pub invariant-loop-number : goal.invariant-loop-number
invariant-loop-number l = l.lines.items ≡ source_lines (reads_source (plan_value l.plan).ops) l.catalog l.number
