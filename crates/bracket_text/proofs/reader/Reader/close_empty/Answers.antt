use Rattle.bracket_text.proofs.Held.{empty_close, not_none}
use Rattle.bracket_text.proofs.reader.Reader.close_empty.Goals as goal

pub returns-then-byte-eq93 : goal.returns-then-byte-eq93
returns-then-byte-eq93 c = λ o l.
    empty_close c.shut.new.self c.args.at c.args.self.now.store c.args.self.now.«open».items o c.args.byte l c.if-byte-eq93.true (not_none c.args.self.now.«open».items _ _ c.is_empty.ensures c.if-is_empty.false c.args.self.now.«open».ok.0) c.shut.ensures
