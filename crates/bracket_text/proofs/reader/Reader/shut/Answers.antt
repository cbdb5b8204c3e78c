use Rattle.std.proofs.Common.{refl}
use Rattle.bracket_text.specs.declared.reader.Mode.TheVariants.{Closed}
use Rattle.bracket_text.proofs.Held.{shut_holds}
use Rattle.bracket_text.proofs.reader.Reader.shut.Goals as goal

pub returns : goal.returns
returns c = λ t o s.
    shut_holds (record { store = c.close.new.self; «open» = c.pop.new.self; mode = Closed }) c.args.self.now.store c.args.self.now.«open».items c.in-Some.place t.label t.kids o s c.in-Some.ensures.items c.close.ensures refl
