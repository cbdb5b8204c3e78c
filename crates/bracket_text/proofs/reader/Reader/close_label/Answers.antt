use Rattle.std.proofs.Common.{rules, ◌≡◌, ◌∙◌, ◌+◌, false, IsTrue, length, refl, sym, ap, arith}
use Rattle.bracket_text.specs.Grammar.{is_blank}
use Rattle.bracket_text.specs.declared.reader.Mode.TheVariants.{First, Named}
use Rattle.bracket_text.proofs.Held.{label_blank, label_opens}
use Rattle.bracket_text.proofs.reader.Reader.close_label.Goals as goal

pub returns-then-is_blank_byte : goal.returns-then-is_blank_byte
returns-then-is_blank_byte c = λ o l h.
    let blank : IsTrue (is_blank c.args.byte) = search rules in
    label_blank (record { store = c.args.self.now.store; «open» = c.args.self.now.«open»; mode = Named }) c.args.at o l c.args.byte h refl blank

pub returns-then-byte-eq91 : goal.returns-then-byte-eq91
returns-then-byte-eq91 c = λ o l h.
    let other : is_blank c.args.byte ≡ false = sym c.is_blank_byte.ensures ∙ c.if-is_blank_byte.false in
    let place : c.saturating_sub.result + 1 ≡ length c.args.self.now.store = omega (arith, c.saturating_sub.ensures, c.len.ensures, ap length h.nodes_are) in
    label_opens (record { store = c.args.self.now.store; «open» = c.push.new.self; mode = First }) c.args.at c.saturating_sub.result c.args.self.now.store c.args.self.now.«open».items o l c.args.byte h refl c.in_ok-push.ensures.items place refl other c.if-byte-eq91.true
