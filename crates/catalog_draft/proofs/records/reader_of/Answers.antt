use Rattle.std.proofs.Common.{◌∙◌, Some, ap}
use Rattle.csv_wrap.proofs.ReachFacts.{start_at}
use Rattle.catalog_draft.proofs.records.reader_of.Goals as goal

pub returns : goal.returns
returns c = λ none.
    let made = c.from_reader.ensures in
    start_at c.args.text.now c.from_reader.result
    (rw (c.flexible.ensures, c.has_headers.ensures) at made.trim ∙ c.new.ensures.trim)
    (rw (c.flexible.ensures, c.has_headers.ensures) at made.has_headers)
    made.headers
    (rw (c.flexible.ensures, c.has_headers.ensures) at made.config ∙ c.new.ensures.config)
    made.state
    (made.source ∙ ap Some none)
