use Rattle.std.proofs.Common.{length, ap, arith}
use Rattle.document_store.proofs.Joined.{length-texts}
use Rattle.document_store.proofs.texts.Texts.len.Goals as goal

pub returns : goal.returns
returns c = let i = c.self.inside in omega (arith, c.len.ensures, i.ends.ok.0, length-texts i.bytes.items 0 i.ends.items, ap length c.self.view_is)
