use Rattle.std.proofs.Common.{◌∙◌}
use Rattle.std.proofs.lemmas.Result.{IfOk-weaker}
use Rattle.lazy_plan.proofs.bench.Bench.evidence.Goals as goal

pub returns-clause-right : goal.returns-clause-right
returns-clause-right c = λ view bench k told among.
    let tells = rw (c.deref.ensures ∙ c.c.view_is) at c.evidence.ensures.tells in
    IfOk-weaker c.evidence.result _ _ (λ places h. h view bench.bench k.of told among) tells
