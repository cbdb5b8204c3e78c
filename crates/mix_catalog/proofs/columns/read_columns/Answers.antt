use Rattle.std.proofs.Common.{◌≡◌, ◌∙◌, ◌+◌, true, false, cond, Some, sym, ap, drop, rules}
use Rattle.std.proofs.lemmas.List.{drop-drop}
use Rattle.mix_tree.specs.LabelMachine.{start}
use Rattle.mix_tree.specs.LabelReads.{seen_of}
use Rattle.mix_catalog.specs.Columns.{columns_from, ended, has_comma, with_last}
use Rattle.mix_catalog.proofs.ColumnsSeen.{column_seen, no_column_seen, unread}
use Rattle.mix_catalog.proofs.columns.read_columns.Goals as goal

pub returns-in_default-clause-seen : goal.returns-in_default-clause-seen
returns-in_default-clause-seen c =
    let seen = c.in_ok-label.ensures.seen c.loop-labels.invariant.boundary in
    sym (no_column_seen (drop c.loop-labels.from c.args.line.now) c.loop-labels.labels.items start c.loop-labels.from (unread c.args.line.now _ c.in_ok-label.field-0 seen c.in_default.not-Got)) ∙ c.loop-labels.invariant.seen

pub returns-then-not-has_comma-clause-seen : goal.returns-then-not-has_comma-clause-seen
returns-then-not-has_comma-clause-seen c =
    let line = c.args.line.now in
    let labels = c.loop-labels.labels.items in
    let end = c.in-Got.end in
    let read = c.in_ok-label.ensures.seen c.loop-labels.invariant.boundary ∙ ap (seen_of line) c.in-Got.is in
    let next = column_seen (drop c.loop-labels.from line) labels start c.loop-labels.from c.in-Got.label end (drop end line) read in
    let none : has_comma (drop c.in-Got.end c.args.line.now) ≡ false = search rules in
    ap (λ ls. Some (ended ls end (drop end line))) c.in_ok-push.ensures.items
    ∙ sym (next ∙ ap (λ t. cond t (columns_from (with_last labels c.in-Got.label) start (end + 1) (drop 1 (drop end line))) (Some (ended (with_last labels c.in-Got.label) end (drop end line)))) none)
    ∙ c.loop-labels.invariant.seen

pub loop-labels-preserved : goal.loop-labels-preserved
loop-labels-preserved c =
    let line = c.args.line.now in
    let labels = c.loop-labels.labels.items in
    let end = c.in-Got.end in
    let read = c.in_ok-label.ensures.seen c.loop-labels.invariant.boundary ∙ ap (seen_of line) c.in-Got.is in
    let next = column_seen (drop c.loop-labels.from line) labels start c.loop-labels.from c.in-Got.label end (drop end line) read in
    let found : c.has_comma.result ≡ true = search rules in
    let some : has_comma (drop c.in-Got.end c.args.line.now) ≡ true = sym c.has_comma.ensures.comma ∙ found in
    record {
      inside = c.has_comma.ensures.more found;
      boundary = c.has_comma.ensures.boundary c.requires.utf8 found;
      seen =
          ap (λ ls. columns_from ls start (end + 1) (drop (end + 1) line)) c.in_ok-push.ensures.items
          ∙ ap (λ x. columns_from (with_last labels c.in-Got.label) start (end + 1) x) (sym (drop-drop 1 end line))
          ∙ sym (next ∙ ap (λ t. cond t (columns_from (with_last labels c.in-Got.label) start (end + 1) (drop 1 (drop end line))) (Some (ended (with_last labels c.in-Got.label) end (drop end line)))) some)
          ∙ c.loop-labels.invariant.seen;
    }
