use Rattle.std.proofs.Common.{◌∙◌}
use Rattle.std.proofs.lemmas.Result.{IfOk-weaker}
use Rattle.mix_script.proofs.LineForms.{no_utf8, utf8_line}
use Rattle.mix_script.proofs.line.line_step.Goals as goal

pub returns-then-not-is_utf8_text : goal.returns-then-not-is_utf8_text
returns-then-not-is_utf8_text c = no_utf8 c.args.forms c.args.line.now c.if-not-is_utf8_text.ensures

pub returns : goal.returns
returns c = IfOk-weaker c.read_utf8.result _ _ (λ step e. e ∙ utf8_line c.args.forms c.args.line.now c.if-not-is_utf8_text.ensures) c.read_utf8.ensures
