use Rattle.xmas_tokens.proofs.Lexemes.{open_utf8, close_utf8, name_of_var_utf8, quoted_lexeme, path_lexeme}
use Rattle.xmas_tokens.proofs.lexeme.read_lexeme.Goals as goal

pub label_between-requires-clause-utf8 : goal.label_between-requires-clause-utf8
label_between-requires-clause-utf8 c = open_utf8 c.args.kind c.args.text.now c.requires.written c.in-OpenTag.is

pub label_between-requires-in-CloseTag-clause-utf8 : goal.label_between-requires-in-CloseTag-clause-utf8
label_between-requires-in-CloseTag-clause-utf8 c = close_utf8 c.args.kind c.args.text.now c.requires.written c.in-CloseTag.is

pub label_between-requires-in-Var-clause-utf8 : goal.label_between-requires-in-Var-clause-utf8
label_between-requires-in-Var-clause-utf8 c = name_of_var_utf8 c.args.kind c.args.text.now c.requires.written c.in-Var.is

pub returns-in_ok-quoted_label-in-Quoted : goal.returns-in_ok-quoted_label-in-Quoted
returns-in_ok-quoted_label-in-Quoted c = quoted_lexeme c.args.kind c.args.text.now _ c.in-Quoted.is c.in_ok-quoted_label-in-Quoted.ensures

pub returns-in_ok-path_text-in-Path : goal.returns-in_ok-path_text-in-Path
returns-in_ok-path_text-in-Path c = path_lexeme c.args.kind c.args.text.now _ c.in-Path.is c.in_ok-path_text-in-Path.ensures
