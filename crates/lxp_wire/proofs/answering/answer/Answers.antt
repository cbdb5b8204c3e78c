use Rattle.std.proofs.Common.{◌++◌, ◌∷◌, [], ◌∙◌, ap, sym, subst, arith, append_assoc}
use Rattle.lxp_core.proofs.Views.{keeps_same}
use Rattle.wire_text.specs.Bytes.{u32_bytes}
use Rattle.wire_text.specs.Reply.{count}
use Rattle.lxp_wire.specs.Answer.{HasAnswered}
use Rattle.lxp_wire.proofs.answering.answer.Goals as goal

pub returns-in_ok-push_u32-in-Count-clause-answered : goal.returns-in_ok-push_u32-in-Count-clause-answered
returns-in_ok-push_u32-in-Count-clause-answered g c =
    let v = g.S.Sources.view c.args.sources.now in
    let out = c.args.out.now.items in
    let n = c.count.result in
    subst (λ r. HasAnswered v v r out c.push_u32.new.out.items) (sym c.in-Count.is) (
      count n,
      c.in_ok-push_u32-in-Count.ensures ∙ ap (λ x. x ++ u32_bytes n) c.in_ok-push-in-Count.ensures.items ∙ append_assoc out (0x80 ∷ []) (u32_bytes n),
      record { keeps = keeps_same v; fills = omega arith; answers = c.count.ensures; reply = omega (arith, c.count.type_inv) },
    )
