use Rattle.std.proofs.Common.{rules, ◌≡◌, ◌∙◌, false, IsTrue, refl, sym}
use Rattle.bracket_text.specs.Grammar.{is_blank}
use Rattle.bracket_text.specs.declared.reader.Mode.TheVariants.{Start, Closed}
use Rattle.bracket_text.proofs.Held.{tree_blank, tree_comma, tree_close, not_none}
use Rattle.bracket_text.proofs.reader.Reader.close_tree.Goals as goal

pub returns-then-is_blank_byte : goal.returns-then-is_blank_byte
returns-then-is_blank_byte c = λ o t l.
    let blank : IsTrue (is_blank c.args.byte) = search rules in
    tree_blank (record { store = c.args.self.now.store; «open» = c.args.self.now.«open»; mode = Closed }) c.args.at o t c.args.byte l refl blank

pub returns-then-byte-eq44 : goal.returns-then-byte-eq44
returns-then-byte-eq44 c = λ o t l.
    let other : is_blank c.args.byte ≡ false = sym c.is_blank_byte.ensures ∙ c.if-is_blank_byte.false in
    tree_comma (record { store = c.args.self.now.store; «open» = c.args.self.now.«open»; mode = Start }) c.args.at o t c.args.byte l refl other c.if-byte-eq44.true (not_none c.args.self.now.«open».items _ _ c.is_empty.ensures c.if-is_empty.false c.args.self.now.«open».ok.0)

pub returns-then-byte-eq93 : goal.returns-then-byte-eq93
returns-then-byte-eq93 c = λ o t l.
    let other : is_blank c.args.byte ≡ false = sym c.is_blank_byte.ensures ∙ c.if-is_blank_byte.false in
    tree_close c.shut.new.self c.args.at c.args.self.now.store c.args.self.now.«open».items o t c.args.byte l other c.if-byte-eq93.true (not_none c.args.self.now.«open».items _ _ c.is_empty.ensures c.if-is_empty.false c.args.self.now.«open».ok.0) c.shut.ensures
