use Rattle.std.proofs.Common.{◌<◌, ◌∙◌, [], map, sym, ap, arith, length, filter}
use Rattle.std.proofs.lemmas.List.{length-map, get_or-map}
use Rattle.mix_words.specs.Words.{is_name}
use Rattle.plan_read.specs.Lines.{Line, line_of}
use Rattle.plan_read.specs.Variables.{line_vars, with_new}
use Rattle.plan_read.specs.declared.lines.PlanLine.{PlanLine}
use Rattle.plan_read.proofs.NameSteps.{line_step}
use Rattle.plan_read.proofs.naming.names_in.Goals as goal

-- an empty line of number 0
abbrev none : PlanLine
none = record { number = 0; text = record { ref_ptr = (0, 0); now = [] } }

pub lines-preserved : goal.lines-preserved
lines-preserved c =
    let items = c.args.lines.now in
    let i = c.lines.line-index in
    let inside : i < length (map line_of items) = omega (arith, length-map items line_of, c.lines-test.true) in
    let same = get_or-map line_of items i none (line_of none) c.lines-test.true in
    record {
      few = c.in_ok-add_names.ensures.few;
      all = line_step (map line_of items) c.lines.names c.add_names.new.names _ i (line_of none) inside
          (c.in_ok-add_names.ensures.all ∙ ap (λ (l : Line). with_new c.lines.names (filter is_name (line_vars l.text))) (sym same)) c.lines.invariant.all;
    }
