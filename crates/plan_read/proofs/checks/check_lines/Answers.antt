use Rattle.plan_read.specs.Checks.{AreFew, AreNumbered}
use Rattle.plan_read.specs.Drafts.{all_numbered}
use Rattle.plan_read.proofs.Checked.{of_all, stops_line, stops_known, stops_long, stops_low, all_known, all_short, all_ranged}
use Rattle.plan_read.proofs.checks.check_lines.Goals as goal

pub returns-in-Some : goal.returns-in-Some
returns-in-Some c = λ names specs lines drafts count. stops_line names specs lines c.args.drafts.now drafts AreFew c.in-Some.line c.in-Some.ensures

pub returns-in-Some-misnumbered : goal.returns-in-Some-misnumbered
returns-in-Some-misnumbered c = λ names specs lines drafts count.
    (let ds = c.args.drafts.now in (
      of_all AreFew ds c.in_default.ensures,
      stops_line names specs lines ds drafts (AreNumbered (all_numbered ds)) c.in-Some-misnumbered.line c.in-Some-misnumbered.ensures,
    ))

pub returns-in-Some-unknown : goal.returns-in-Some-unknown
returns-in-Some-unknown c = λ names specs lines drafts count.
    (let ds = c.args.drafts.now in (
      of_all AreFew ds c.in_default.ensures,
      of_all (AreNumbered (all_numbered ds)) ds c.in_default-misnumbered.ensures,
      stops_known names specs lines ds drafts c.args.sources c.in-Some-unknown.line count c.in-Some-unknown.ensures,
    ))

pub returns-in-Some-long_path : goal.returns-in-Some-long_path
returns-in-Some-long_path c = λ names specs lines drafts count.
    (let ds = c.args.drafts.now in (
      of_all AreFew ds c.in_default.ensures,
      of_all (AreNumbered (all_numbered ds)) ds c.in_default-misnumbered.ensures,
      all_known names specs lines ds drafts c.args.sources count c.in_default-unknown.ensures,
      stops_long names specs lines ds drafts c.in-Some-long_path.line c.in-Some-long_path.ensures,
    ))

pub returns-in-Some-low_var : goal.returns-in-Some-low_var
returns-in-Some-low_var c = λ names specs lines drafts count.
    (let ds = c.args.drafts.now in (
      of_all AreFew ds c.in_default.ensures,
      of_all (AreNumbered (all_numbered ds)) ds c.in_default-misnumbered.ensures,
      all_known names specs lines ds drafts c.args.sources count c.in_default-unknown.ensures,
      all_short names specs lines ds drafts c.in_default-long_path.ensures,
      stops_low names specs lines ds drafts c.in-Some-low_var.line c.in-Some-low_var.ensures,
    ))

pub returns : goal.returns
returns c = λ names specs lines drafts count.
    (let ds = c.args.drafts.now in
    record {
      few = of_all AreFew ds c.in_default.ensures;
      numbered = of_all (AreNumbered (all_numbered ds)) ds c.in_default-misnumbered.ensures;
      known = all_known names specs lines ds drafts c.args.sources count c.in_default-unknown.ensures;
      short = all_short names specs lines ds drafts c.in_default-long_path.ensures;
      ranged = all_ranged names specs lines ds drafts c.in_default-low_var.ensures;
    })
