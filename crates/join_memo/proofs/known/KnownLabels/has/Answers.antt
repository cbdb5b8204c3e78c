use Rattle.std.proofs.Common.{◌∙◌, sym, subst}
use Rattle.join_memo.specs.Places.{IsKnown}
use Rattle.join_memo.proofs.Numbers.{known_at}
use Rattle.join_memo.proofs.known.KnownLabels.has.Goals as goal

pub returns-in-Some : goal.returns-in-Some
returns-in-Some c same =
    subst (λ ns. IsKnown ns c.args.key.now c.args.number) c.self.view_is
    (known_at c.self.inside.labels.keys c.args.key.now c.in-Some.label.now c.args.number (sym c.in-Some.ensures.key) (sym c.same_label.ensures ∙ same))
