use Rattle.std.proofs.Common.{rules, ◌∙◌, sym}
use Rattle.std.specs.Str.{IsUtf8}
use Rattle.bracket_text.proofs.AsciiTexts.{ascii_utf8}
use Rattle.bracket_text.proofs.Held.{answers, shallow, only_tree}
use Rattle.bracket_text.proofs.reading.read_document.Goals as goal

pub read-requires : goal.read-requires
read-requires c = ascii_utf8 c.args.text.now (sym c.is_ascii_text.ensures ∙ c.if-is_ascii_text.true)

pub returns-then-is_ascii_text-clause-answers : goal.returns-then-is_ascii_text-clause-answers
returns-then-is_ascii_text-clause-answers c = answers c.args.text.now c.read.result (ascii_utf8 c.args.text.now (sym c.is_ascii_text.ensures ∙ c.if-is_ascii_text.true)) c.read.ensures

pub returns-then-is_ascii_text-clause-only : goal.returns-then-is_ascii_text-clause-only
returns-then-is_ascii_text-clause-only c = λ t v s. only_tree c.args.text.now c.read.result t v c.read.ensures s

pub returns-in-Ok-clause-answers : goal.returns-in-Ok-clause-answers
returns-in-Ok-clause-answers c = let u : IsUtf8 c.args.text.now = search rules in answers c.args.text.now c.read-in-Ok.result u c.read-in-Ok.ensures

pub returns-in-Ok-clause-only : goal.returns-in-Ok-clause-only
returns-in-Ok-clause-only c = λ t v s. only_tree c.args.text.now c.read-in-Ok.result t v c.read-in-Ok.ensures s

pub returns-then-is_ascii_text-clause-shallow : goal.returns-then-is_ascii_text-clause-shallow
returns-then-is_ascii_text-clause-shallow c = shallow c.args.text.now c.read.result (ascii_utf8 c.args.text.now (sym c.is_ascii_text.ensures ∙ c.if-is_ascii_text.true)) c.read.ensures

pub returns-in-Ok-clause-shallow : goal.returns-in-Ok-clause-shallow
returns-in-Ok-clause-shallow c = let u : IsUtf8 c.args.text.now = search rules in shallow c.args.text.now c.read-in-Ok.result u c.read-in-Ok.ensures
