use Rattle.std.proofs.Common.{rules, IsTrue}
use Rattle.bracket_text.specs.Grammar.{is_blank}
use Rattle.bracket_text.proofs.Held.{start_blank, first_blank}
use Rattle.bracket_text.proofs.reader.Reader.take_byte.Goals as goal

pub returns-in-Start : goal.returns-in-Start
returns-in-Start c = λ o m h.
    let blank : IsTrue (is_blank c.args.byte) = search rules in
    start_blank c.args.self.now c.args.at o m c.args.byte h c.in-Start.is blank

pub returns-in-First : goal.returns-in-First
returns-in-First c = λ o m h.
    let blank : IsTrue (is_blank c.args.byte) = search rules in
    first_blank c.args.self.now c.args.at o m c.args.byte h c.in-First.is blank
