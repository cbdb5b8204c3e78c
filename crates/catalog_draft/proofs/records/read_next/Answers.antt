use Rattle.csv_wrap.proofs.ReachFacts.{step_at}
use Rattle.catalog_draft.proofs.records.read_next.Goals as goal

pub returns : goal.returns
returns c = λ text rows h. step_at text rows c.args.reader.now c.read_byte_record.new.self _ c.in-Ok.more h (c.in-Ok.ensures.reads h.0 h.1) (c.in-Ok.ensures.ready h.0)
