use Rattle.std.proofs.Common.{◌≡◌, Result, Err, subst, sym}
use Rattle.mix_place.specs.declared.refusal.Stop.{Stop}
use Rattle.mix_place.specs.declared.refusal.Stop.TheVariants.{Refused}
use Rattle.mix_run.specs.declared.outcome.Outcome.{Outcome}
use Rattle.mix_top.specs.Stops.{IsTold}
use Rattle.mix_top.proofs.top.tell.Goals as goal

pub returns-in-Err-Refused-clause-told : goal.returns-in-Err-Refused-clause-told
returns-in-Err-Refused-clause-told g c =
    let sink = g.K.Sink.view in
    let end_is = c.in-Err-Refused.is in
    let stop_is = c.in-Err-Refused.field-0-is in
    let refusal_is = c.in-Err-Refused.refusal-is in
    let is : c.args.end ≡ Err (Refused c.in-Err-Refused.refusal) = cc in
    subst (λ (e : Result Outcome Stop). IsTold e (sink c.args.out.now) (sink c.refuse.new.out) c.refuse.result) (sym is) c.refuse.ensures.ends
