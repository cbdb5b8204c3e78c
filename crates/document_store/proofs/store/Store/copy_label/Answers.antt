use Rattle.std.proofs.lemmas.Str.{IsUtf8-had}
use Rattle.document_store.proofs.store.Store.copy_label.Goals as goal

pub of_text-requires : goal.of_text-requires
of_text-requires c = IsUtf8-had c.label.result.now c.label.ensures.utf8
