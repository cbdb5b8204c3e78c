use Rattle.std.proofs.Common.{◌≡◌, string_bytes, subst}
use Rattle.mix_top.specs.Stops.{IsWordsStop}
use Rattle.mix_top.specs.Texts.{unknown_text}
use Rattle.mix_place.specs.declared.refusal.Stop.TheVariants.{Refused}
use Rattle.mix_run.proofs.CourseEnds.{course_ends}
use Rattle.mix_top.proofs.top.refuse_words.Goals as goal

pub returns-in-Refused-clause-ends : goal.returns-in-Refused-clause-ends
returns-in-Refused-clause-ends g c =
    let sink = g.K.Sink.view in
    let stop_is = c.in-Refused.is in
    let is : c.unknown_words.result ≡ Refused c.in-Refused.refusal = cc in
    course_ends (λ s lines. (s ≡ 2) × (lines ≡ unknown_text)) (sink c.args.out.now) (sink c.refuse.new.out) c.in-Refused.refusal.status (string_bytes c.in-Refused.refusal.line)
    (subst (IsWordsStop 2 unknown_text) is c.unknown_words.ensures) c.refuse.result c.refuse.ensures.ends
