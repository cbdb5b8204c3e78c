use Rattle.std.proofs.Common.{◌∷◌, [], sym, subst}
use Rattle.lxp_remote.specs.Learned.{Learns, weights}
use Rattle.lxp_remote.proofs.Learnt.{changed_one, learns_new}
use Rattle.lxp_remote.proofs.learning.learn_hole.Goals as goal

pub returns-in-Some-2-clause-changed : goal.returns-in-Some-2-clause-changed
returns-in-Some-2-clause-changed c = λ e. changed_one (weights c.args.root.now c.args.known.now) c.args.hole.id c.args.hole.weight c.in-Some.weight (sym c.in-Some.ensures) c.if-weight-hole.false

pub returns-in_ok-put-in-None-clause-learned : goal.returns-in_ok-put-in-None-clause-learned
returns-in_ok-put-in-None-clause-learned c =
    let root = c.args.root.now in
    let h = c.args.hole in
    subst (λ es. Learns (weights root c.args.known.now) (weights root es) ((h.id, h.weight) ∷ [])) (sym c.in_ok-put-in-None.ensures.put) (learns_new root c.args.known.now h.id h.weight (sym c.in-None.ensures))
