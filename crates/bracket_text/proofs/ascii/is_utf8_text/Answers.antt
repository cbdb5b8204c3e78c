use Rattle.bracket_text.proofs.AsciiTexts.{ascii_utf8}
use Rattle.std.proofs.Common.{◌∙◌, sym}
use Rattle.bracket_text.proofs.ascii.is_utf8_text.Goals as goal

pub returns-then-is_ascii_text : goal.returns-then-is_ascii_text
returns-then-is_ascii_text c = rw c.if-is_ascii_text.true (ascii_utf8 c.args.text.now (sym c.is_ascii_text.ensures ∙ c.if-is_ascii_text.true))
