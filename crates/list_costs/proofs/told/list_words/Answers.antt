use Rattle.std.proofs.Common.{◌∙◌, ◌++◌, List, ap}
use Rattle.std.specs.List.{flat_map}
use Rattle.plan_core.specs.PlanMade.{plan_value}
use Rattle.list_costs.specs.declared.answer_list.AnswerList.{AnswerList}
use Rattle.list_costs.specs.Told.{heading, list_profile, said_of}
use Rattle.list_costs.proofs.SaidAlike.{all_alike}
use Rattle.list_costs.proofs.told.list_words.Goals as goal

pub returns : goal.returns
returns c =
    let plan = c.args.plan.now in
    let shapes = c.args.shapes.now in
    let reasons = c.in_ok-reasons.reasons.items in
    let typed = c.valid_plans_are_typed.ensures (plan_value plan) c.requires in
    let said = rw (c.deref-2.ensures.value, c.deref-3.ensures.value, c.deref-4.ensures.value) at c.in_ok-words.ensures in
    let lists = rw c.deref.ensures.value at c.in_ok-lists.ensures in
    record {
      reasons = reasons;
      words_are =
          said
          ∙ all_alike shapes plan typed c.in_ok-profiles.profiles c.in_ok-profiles.ensures reasons c.in_ok-lists.lists.items
          ∙ ap (λ (xs : List AnswerList). heading ++ flat_map (said_of (list_profile shapes plan) plan.ops.items reasons) xs) lists;
    }
