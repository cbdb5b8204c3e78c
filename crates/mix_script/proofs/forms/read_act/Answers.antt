use Rattle.std.proofs.Common.{◌∙◌, ap, sym}
use Rattle.std.proofs.lemmas.Result.{IfOk-weaker}
use Rattle.mix_script.specs.Forms.{act_by, either_act, id_act_of}
use Rattle.mix_script.proofs.forms.read_act.Goals as goal

pub returns-in-None : goal.returns-in-None
returns-in-None c ws are =
    let none = sym (c.in_ok-act.ensures ws are) ∙ c.in-None.is in
    IfOk-weaker c.read_id_act.result _ _
    (λ act e. e ∙ sym (ap (λ forms. act_by forms ws) c.in-WithIds.is ∙ ap (λ o. either_act o (id_act_of ws)) none)) (c.read_id_act.ensures ws are)
