use Rattle.std.proofs.Common.{◌∙◌, Some, sym, ap, arith}
use Rattle.path_expr.specs.Form.{positions_in}
use Rattle.plan_read.proofs.WordReads.{no_text_path, some_path, many_path, unexpected_path, ends_path, deep_path, long_positions}
use Rattle.plan_read.proofs.parts.read_path_word.Goals as goal

pub returns-in-Ok-clause-path : goal.returns-in-Ok-clause-path
returns-in-Ok-clause-path c = sym (some_path _ _ c.in-Ok.ensures.answers.0 c.in-Ok.ensures.answers.1)

pub returns-in-Ok-clause-few : goal.returns-in-Ok-clause-few
returns-in-Ok-clause-few c = let few = c.in-Ok.ensures.answers.1.positions in omega (arith, few)

pub returns-in-Err-NotUtf8-clause-path : goal.returns-in-Err-NotUtf8-clause-path
returns-in-Err-NotUtf8-clause-path c = sym (no_text_path _ (rw c.in-Err-NotUtf8.field-0-is at c.in-Err-NotUtf8.ensures.answers).0)

pub returns-in-Err-Unexpected-clause-path : goal.returns-in-Err-Unexpected-clause-path
returns-in-Err-Unexpected-clause-path c = sym (unexpected_path _ c.in-Err-Unexpected.field-0-0 (rw c.in-Err-Unexpected.field-0-is at c.in-Err-Unexpected.ensures.answers))

pub returns-in-Err-Ends-clause-path : goal.returns-in-Err-Ends-clause-path
returns-in-Err-Ends-clause-path c = sym (ends_path _ (rw c.in-Err-Ends.field-0-is at c.in-Err-Ends.ensures.answers))

pub returns-in-Err-TooDeep-clause-path : goal.returns-in-Err-TooDeep-clause-path
returns-in-Err-TooDeep-clause-path c = sym (deep_path _ c.in-Err-TooDeep.field-0-0 (rw c.in-Err-TooDeep.field-0-is at c.in-Err-TooDeep.ensures.answers))

pub returns-in_ok-long_path-in-Err-TooMany-clause-path : goal.returns-in_ok-long_path-in-Err-TooMany-clause-path
returns-in_ok-long_path-in-Err-TooMany-clause-path c =
    let a = rw c.in-Err-TooMany.field-0-is at c.in-Err-TooMany.ensures.answers in
    ap Some c.in_ok-long_path-in-Err-TooMany.ensures ∙ sym (many_path c.args.word.now c.in-Err-TooMany.field-0-0 a.0 a.1)

pub returns-in_ok-long_path-in-Err-TooMany-clause-few : goal.returns-in_ok-long_path-in-Err-TooMany-clause-few
returns-in_ok-long_path-in-Err-TooMany-clause-few c = let e = ap positions_in c.in_ok-long_path-in-Err-TooMany.ensures ∙ long_positions in omega (arith, e)
