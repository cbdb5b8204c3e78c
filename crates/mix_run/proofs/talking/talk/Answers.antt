use Rattle.std.proofs.Common.{◌≡◌, Result, Err, IfErr, subst}
use Rattle.mix_place.specs.declared.refusal.Stop.{Stop}
use Rattle.mix_place.specs.declared.refusal.Stop.TheVariants.{Refused}
use Rattle.mix_reach.specs.Stores.{stores_in}
use Rattle.mix_run.specs.declared.talking.Ready.{Ready}
use Rattle.mix_run.specs.Talking.{IsTalkStop}
use Rattle.mix_run.proofs.Held.{held, refused}
use Rattle.mix_run.proofs.talking.talk.Goals as goal

pub returns-in-Ok-clause-ends : goal.returns-in-Ok-clause-ends
returns-in-Ok-clause-ends g c =
    let files = g.F.Files.view in
    let stores = stores_in g.T.Tables.view g.R.Fars.view in
    let input = g.I.Input.view in
    let sink = g.K.Sink.view in
    held (files c.args.files.now) (files c.make_ready.new.files) (stores c.args.stores) (stores c.talk_ready-end.result.1) c.args.talking.now.view.now c.args.talking.now.catalog.now c.visited_are_matches.ensures (λ p valid d. c.valid_plans_have_documents.ensures p valid d)
    (input c.args.streams.now.input) (input c.talk_ready-end.new.streams.input) (sink c.args.streams.now.out) (sink c.talk_ready-end.new.streams.out) c.in-Ok.ready c.in-Ok.ensures.ok c.talk_ready-end.result.0 c.talk_ready-end.ensures.end
    c.status_of.result c.status_of.ensures

pub returns-in-Err-Refused-clause-ends : goal.returns-in-Err-Refused-clause-ends
returns-in-Err-Refused-clause-ends g c =
    let files = g.F.Files.view in
    let sink = g.K.Sink.view in
    let end_is = c.in-Err-Refused.is in
    let stop_is = c.in-Err-Refused.field-0-is in
    let refusal_is = c.in-Err-Refused.refusal-is in
    let old = files c.args.files.now in
    let new = files c.make_ready.new.files in
    let is : c.make_ready.result ≡ Err (Refused c.in-Err-Refused.refusal) = cc in
    refused old new (stores_in g.T.Tables.view g.R.Fars.view c.args.stores) c.args.talking.now.view.now c.args.talking.now.catalog.now (g.I.Input.view c.args.streams.now.input) (sink c.args.streams.now.out) (sink c.refuse.new.out)
    c.in-Err-Refused.refusal c.refuse.result
    (subst (λ (r : Result Ready Stop). IfErr r (IsTalkStop old new c.args.talking.now.view.now c.args.talking.now.catalog.now)) is c.make_ready.ensures.err) c.refuse.ensures.ends
