use Rattle.std.proofs.Common.{◌<◌, ◌+◌, ◌∙◌, [], List, sym, ap, subst, arith, length, map, take, get_or, option_map}
use Rattle.std.proofs.lemmas.List.{length-map, get_or-map}
use Rattle.plan_read.specs.Drafts.{numbered_of, IsDraft, AreDrafts}
use Rattle.plan_read.specs.Lines.{Line, line_of}
use Rattle.plan_read.specs.declared.draft.Draft.{Draft}
use Rattle.plan_read.specs.declared.lines.PlanLine.{PlanLine}
use Rattle.plan_read.proofs.Drafted.{drafts_more, no_form}
use Rattle.plan_read.proofs.draft.read_lines.Goals as goal

-- an empty line of number 0
abbrev none : PlanLine
none = record { number = 0; text = record { ref_ptr = (0, 0); now = [] } }

pub returns-in_default-clause-err : goal.returns-in_default-clause-err
returns-in_default-clause-err c =
    let items = c.args.lines.now in
    let lines = map line_of items in
    let i = c.lines.line-index in
    let line = line_of (get_or items i none) in
    let inside : i < length lines = omega (arith, length-map items line_of, c.lines-test.true) in
    no_form c.args.names.now c.args.catalog.now lines i line c.lines.drafts.items inside (sym (get_or-map line_of items i none line c.lines-test.true)) c.lines.invariant
    (sym c.in_ok-draft.ensures.reads ∙ ap (option_map numbered_of) c.in_default.is)

pub lines-preserved : goal.lines-preserved
lines-preserved c =
    let names = c.args.names.now in
    let sources = c.args.catalog.now in
    let items = c.args.lines.now in
    let lines = map line_of items in
    let i = c.lines.line-index in
    let line = line_of (get_or items i none) in
    let draft = c.in-Some.draft in
    let inside : i < length lines = omega (arith, length-map items line_of, c.lines-test.true) in
    let is : IsDraft names sources line draft = record {
      read = sym c.in_ok-draft.ensures.reads ∙ ap (option_map numbered_of) c.in-Some.is;
      line = rw c.in-Some.is at c.in_ok-draft.ensures.line;
      long = rw c.in-Some.is at c.in_ok-draft.ensures.long;
      low = rw c.in-Some.is at c.in_ok-draft.ensures.low;
    } in
    subst (λ (ds : List Draft). AreDrafts names sources (take (i + 1) lines) ds) (sym c.in_ok-push.ensures.items)
    (drafts_more names sources lines i line c.lines.drafts.items draft inside c.lines.invariant
    (subst (λ (l : Line). IsDraft names sources l draft) (sym (get_or-map line_of items i none line c.lines-test.true)) is))
