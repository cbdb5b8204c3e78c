use Rattle.std.proofs.Common.{◌∙◌, ap, sym}
use Rattle.catalog_draft.specs.Reasons.{unsaid_of}
use Rattle.catalog_draft.specs.Tables.{table_source, unless_unsaid}
use Rattle.catalog_draft.proofs.Outcomes.{noted}
use Rattle.catalog_draft.proofs.tables.write_keyed.Goals as goal

pub returns-in-Some : goal.returns-in-Some
returns-in-Some c =
    let sources = c.args.written.now.sources.items in
    let source = table_source c.args.path.now c.args.table.now c.args.key.now in
    let found = sym (c.unsaid_of.ensures ∙ ap (λ b. unsaid_of b c.in_ok-source.source) c.deref.ensures.value ∙ ap (unsaid_of sources) c.in_ok-source.ensures) ∙ c.in-Some.is in
    noted c.args.path.now c.args.table.now (unless_unsaid c.args.key.now (unsaid_of sources source)) c.in-Some.why c.args.written.now c.write_note.new.written c.write_note.result
    (ap (unless_unsaid c.args.key.now) found) c.write_note.ensures
