use Rattle.std.proofs.Common.{◌∙◌, refl, sym}
use Rattle.mix_base.proofs.Lists.{append_nil}
use Rattle.mix_session.proofs.Prints.{opening_some, opening_none}
use Rattle.mix_session.proofs.printing.put_opening.Goals.{then-is_some+in_ok-push, else-is_some}
use Rattle.mix_session.proofs.printing.put_opening.Goals as goal

pub returns : goal.returns
returns g c = (
  refl,
  elim c.if-is_some.branch [
    | then-is_some+in_ok-push w ↦ let mark = opening_some c.args.first (sym c.is_some.ensures ∙ w.if-is_some.true) in let is = w.text-is in let items = w.in_ok-push.ensures.items in cc
    | else-is_some w ↦ let mark = opening_none c.args.first (sym c.is_some.ensures ∙ w.if-is_some.false) in let is = w.text-is in let none = append_nil c.args.text.now.items in cc
  ],
)
