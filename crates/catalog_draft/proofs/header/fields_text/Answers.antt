use Rattle.catalog_draft.proofs.Outcomes.{says_none}
use Rattle.catalog_draft.proofs.header.fields_text.Goals as goal

pub returns-in-None : goal.returns-in-None
returns-in-None c = rw c.in-None.is (says_none c.args.path.now c.note.result c.note.ensures)
