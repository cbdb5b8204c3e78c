use Rattle.xmas_tokens.proofs.Lexemes.{path_nested, path_somewhere, path_not_cut}
use Rattle.xmas_tokens.proofs.lexeme.path_text.Goals as goal

pub returns-in-Err-TooDeep : goal.returns-in-Err-TooDeep
returns-in-Err-TooDeep c = path_nested c.args.text.now c.in-Err-TooDeep.field-0-0 (rw c.in-Err-TooDeep.field-0-is at c.in-Err-TooDeep.ensures.answers).1

pub unreachable-requires-in-Err-Unexpected : goal.unreachable-requires-in-Err-Unexpected
unreachable-requires-in-Err-Unexpected c =
    path_somewhere c.args.text.now c.in-Err-Unexpected.field-0-0 c.requires.path c.requires.utf8 (rw c.in-Err-Unexpected.field-0-is at c.in-Err-Unexpected.ensures.answers).1

pub unreachable-requires-in-Err-Ends : goal.unreachable-requires-in-Err-Ends
unreachable-requires-in-Err-Ends c = path_not_cut c.args.text.now c.requires.path (rw c.in-Err-Ends.field-0-is at c.in-Err-Ends.ensures.answers).1
