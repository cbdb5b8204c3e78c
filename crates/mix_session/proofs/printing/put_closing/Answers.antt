use Rattle.std.proofs.Common.{◌∙◌, refl, sym}
use Rattle.mix_session.proofs.Prints.{closing_some, closing_none}
use Rattle.mix_session.proofs.printing.put_closing.Goals.{then-is_some, else-is_some}
use Rattle.mix_session.proofs.printing.put_closing.Goals as goal

pub returns : goal.returns
returns g c =
    let items = c.in_ok-push.ensures.items in (
      refl,
      elim c.if-is_some.branch [
        | then-is_some w ↦ let mark = closing_some c.args.next (sym c.is_some.ensures ∙ w.if-is_some.true) in let is = w.push-is in cc
        | else-is_some w ↦ let mark = closing_none c.args.next (sym c.is_some.ensures ∙ w.if-is_some.false) in let is = w.push-is in cc
      ],
    )
