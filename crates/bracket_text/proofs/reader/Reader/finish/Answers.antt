use Rattle.std.proofs.Common.{◌≡◌, [], sym}
use Rattle.bracket_text.proofs.Held.{no_members, named_whole, closed_whole}
use Rattle.bracket_text.proofs.reader.Reader.finish.Goals as goal

pub returns-in-Named : goal.returns-in-Named
returns-in-Named c = λ o m h.
    let empty : c.args.self.«open».items ≡ [] = no_members c.args.self.«open».items _ (sym c.if-not-is_empty.ensures) c.args.self.«open».ok.0 in
    named_whole c.args.self o m c.shut_document.result h c.in-Named.is empty c.shut_document.ensures

pub returns-in-Closed : goal.returns-in-Closed
returns-in-Closed c = λ o m h.
    let empty : c.args.self.«open».items ≡ [] = no_members c.args.self.«open».items _ (sym c.if-not-is_empty.ensures) c.args.self.«open».ok.0 in
    closed_whole c.args.self o m c.shut_document-in-Closed.result h c.in-Closed.is empty c.shut_document-in-Closed.ensures
