use Rattle.std.proofs.Common.{◌≡◌, ℕ, ◌+◌, ◌-◌, ◌<◌, List, length, arith, ◌∙◌, ap}
use Rattle.path_auto.specs.Automaton.{machine_of}
use Rattle.browse_profile.specs.declared.profile.Profile.{Profile}
use Rattle.browse_profile.specs.Profiles.{one_skip, one_of}
use Rattle.browse_visit.specs.Visits.{tree_profile}
use Rattle.browse_visit.proofs.AnySteps.{any_step}
use Rattle.browse_visit.proofs.visit.any_leaf_profile.Goals as goal

pub loop-at-preserved : goal.loop-at-preserved
loop-at-preserved c =
    let f : List ℕ → Profile = λ x. tree_profile (machine_of c.args.automaton.now) ((machine_of c.args.automaton.now).step c.args.states x) one_skip in
    let b : c.loop-at.at < length c.args.labels.now = c.loop-at.invariant.1 in
    let x : List ℕ = c.index-labels-at-in-loop-at.result in
    let e : c.loop-at.at ≡ c.loop-at.at - 1 + 1 = omega (arith, c.loop-at-test.true) in
    let k = any_step f c.args.labels.now c.loop-at.at (c.loop-at.at - 1) c.index-labels-at-in-loop-at.result b e c.index-labels-at-in-loop-at.is in
    let one : c.tree_profile.result ≡ f x =
    c.tree_profile.ensures
    ∙ ap (λ (q : ℕ). tree_profile (machine_of c.args.automaton.now) q c.one_skip-in-loop-at.result) c.step-in-loop-at.ensures
    ∙ ap (λ (p : Profile). tree_profile (machine_of c.args.automaton.now) ((machine_of c.args.automaton.now).step c.args.states x) p) c.one_skip-in-loop-at.ensures in
    let less : c.loop-at.at - 1 < length c.args.labels.now = omega (arith, b) in (
      c.one_of-found.ensures ∙ ap (λ (p : Profile). one_of p c.loop-at.found) one ∙ ap (one_of (f x)) c.loop-at.invariant.0 ∙ k,
      less,
    )
