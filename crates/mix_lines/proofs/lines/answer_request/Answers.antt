use Rattle.std.proofs.Common.{length, subst}
use Rattle.mix_script.proofs.Answering.{may_named}
use Rattle.mix_session.specs.Stepped.{LetsAll}
use Rattle.mix_lines.specs.Heard.{steps_in}
use Rattle.mix_lines.specs.Requests.{request_asks}
use Rattle.mix_lines.specs.declared.requests.Request.TheVariants.{Step}
use Rattle.mix_lines.proofs.lines.answer_request.Goals as goal

pub step-requires-clause-lets : goal.step-requires-clause-lets
step-requires-clause-lets g c =
    let course = (g.W.Walker.means (g.S.Sources.view c.args.s.now) c.args.session.now.walker).course in
    let lets : LetsAll course (steps_in (request_asks (Step c.in-Step.step))) = subst (λ r. LetsAll course (steps_in (request_asks r))) c.in-Step.is c.requires.lets in
    lets.0

pub write_line-requires : goal.write_line-requires
write_line-requires g c =
    let m = g.W.Walker.means (g.S.Sources.view c.args.s.now) c.args.session.now.walker in
    let nodes = c.requires.session.nodes in
    may_named m.course.roots m.course.MayFail (length c.args.asked.now.names.now) nodes.0 c.in-Step.step.now.client c.in-Step.step.now.act c.in_ok-answer-in-Step.answer c.requires.names
    (c.in_ok-answer-in-Step.ensures.stepped.answer.allowed nodes.0 nodes.1).0
