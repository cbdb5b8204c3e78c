use Rattle.std.proofs.Common.{◌∙◌, ap}
use Rattle.view_continuations.specs.Fits.{CanStand}
use Rattle.view_continuations.specs.declared.candidate.Candidate.TheVariants.{Construct}
use Rattle.view_continuations.proofs.Keeping.{kept_next, none_kept, passed_next}
use Rattle.view_continuations.proofs.fits.fitting.Goals as goal
use Rattle.view_continuations.proofs.fits.fitting.Goals.{then-branch+in_ok-push, else-branch}

pub loop-candidate-init : goal.loop-candidate-init
loop-candidate-init c = none_kept (CanStand c.args.front.now) c.args.candidates.now c.new-fit.result.items c.new-fit.ensures.items

pub loop-candidate-preserved : goal.loop-candidate-preserved
loop-candidate-preserved c =
    let stands = CanStand c.args.front.now in
    let all = c.args.candidates.now in
    let i = c.loop-candidate.candidate-index in
    let b = c.in_ok-can_stand.field-0 in
    let before = c.loop-candidate.fit.items in
    let after = c.if-branch.fit.items in
    elim c.if-branch.branch [
      | then-branch+in_ok-push w ↦
          kept_next stands all i Construct b before after c.loop-candidate-test.true c.in_ok-can_stand.ensures w.if-branch.true c.loop-candidate.invariant
          (ap (λ v. v.items) w.fit-is ∙ w.in_ok-push.ensures.items)
      | else-branch w ↦
          passed_next stands all i Construct b before after c.loop-candidate-test.true c.in_ok-can_stand.ensures w.if-branch.false c.loop-candidate.invariant
          (ap (λ v. v.items) w.fit-is)
    ]
