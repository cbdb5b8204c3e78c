use Rattle.std.proofs.Common.{◌∙◌, ap, sym}
use Rattle.std.specs.Prelude.{codes, ◌++◌}
use Rattle.std.proofs.lemmas.Result.{on_ok_weaker}
use Rattle.plan_core.specs.PlanMade.{op_of}
use Rattle.plan_core.specs.PlanText.{operator_text}
use Rattle.plan_core.proofs.Texts.{word_then}
use Rattle.plan_core.proofs.writing.push_op.Goals as goal

pub returns-in_ok-push_word-in-GetDescendants : goal.returns-in_ok-push_word-in-GetDescendants
returns-in_ok-push_word-in-GetDescendants c = on_ok_weaker c.push_descent.result
    (λ e. word_then _ (codes " getDescendants ") _ _ _ _ c.in_ok-push_word-in-GetDescendants.ensures e
    ∙ ap (λ op. c.args.out.now.items ++ operator_text c.args.names.now c.args.sources.now (op_of op)) (sym c.in-GetDescendants.is)) c.push_descent.ensures

pub returns-in_ok-push_word-in-CreateElement : goal.returns-in_ok-push_word-in-CreateElement
returns-in_ok-push_word-in-CreateElement c = on_ok_weaker c.push_content.result
    (λ e. word_then _ (codes " createElement ") _ _ _ _ c.in_ok-push_word-in-CreateElement.ensures e
    ∙ ap (λ op. c.args.out.now.items ++ operator_text c.args.names.now c.args.sources.now (op_of op)) (sym c.in-CreateElement.is)) c.push_content.ensures
