use Rattle.std.proofs.Common.{◌≡◌, inl, inr, Err, IfErr, refl, string_bytes, subst}
use Rattle.mix_place.specs.declared.refusal.Stop.TheVariants.{Refused}
use Rattle.mix_run.proofs.CourseEnds.{course_ends}
use Rattle.mix_top.specs.Served.{IsServingRefused, IsServingStop, placed}
use Rattle.mix_top.proofs.serving.serve.Goals as goal

pub returns-in-Ok-clause-ends : goal.returns-in-Ok-clause-ends
returns-in-Ok-clause-ends g c =
    inr (record { place = placed c.in-Ok.held; are = c.in-Ok.ensures.ok; end = c.serve_ready-end.result.0; status_is = c.status_of.ensures; answered = c.serve_ready-end.ensures.answered })

pub returns-in-Err-Refused-clause-ends : goal.returns-in-Err-Refused-clause-ends
returns-in-Err-Refused-clause-ends g c =
    let files = g.F.Files.view in
    let sink = g.K.Sink.view in
    let end_is = c.in-Err-Refused.is in
    let stop_is = c.in-Err-Refused.field-0-is in
    let refusal_is = c.in-Err-Refused.refusal-is in
    let old = files c.args.files.now in
    let new = files c.make_ready.new.files in
    let is : c.make_ready.result ≡ Err (Refused c.in-Err-Refused.refusal) = cc in
    inl (
      refl,
      refl,
      course_ends (IsServingRefused old new c.args.catalog.now) (sink c.args.streams.now.out) (sink c.refuse.new.out) c.in-Err-Refused.refusal.status (string_bytes c.in-Err-Refused.refusal.line)
          (subst (λ r. IfErr r (IsServingStop old new c.args.catalog.now)) is c.make_ready.ensures.err) c.refuse.result c.refuse.ensures.ends,
    )
