use Rattle.std.proofs.Common.{◌<◌, ◌+◌, ◌∙◌, ℕ, suc, List, sym, ap, subst, arith, length, take}
use Rattle.plan_core.specs.PlanMade.{op_of}
use Rattle.plan_core.specs.Plans.{Operator}
use Rattle.plan_core.specs.Valid.{kinds}
use Rattle.plan_read.specs.Checks.{ops_of, AreSound}
use Rattle.plan_read.specs.Drafts.{all_numbered}
use Rattle.plan_read.specs.Scopes.{AreScopes}
use Rattle.plan_read.proofs.Sounds.{sound_more, sound_last, taken, small_here, kinds_here, short_here}
use Rattle.plan_read.proofs.Stopping.{stops_at, next}
use Rattle.plan_read.proofs.checks.unsound.Goals as goal

pub returns-then-not-branch-clause-stops : goal.returns-then-not-branch-clause-stops
returns-then-not-branch-clause-stops c = λ numbered short scopes.
    (let ds = c.args.drafts.now in
    let ns = all_numbered ds in
    let ops = ops_of ns in
    let k = c.loop-draft.draft-index in
    let d = c.draft-item.result in
    let inside : k < length ds = omega arith in
    let so_far = c.loop-draft.invariant numbered short scopes in
    let m = c.in_ok-push.ensures (take k ops) (kinds ops) so_far.0 (small_here ds k d inside c.draft-item.is numbered) (kinds_here ds k d inside c.draft-item.is numbered) in
    let unsound = rw c.if-not-branch.true at m in
    stops_at (AreSound ns) ds k d inside c.draft-item.is so_far.1 (λ sound. unsound (sound_last ns k (suc k) (op_of d.op) (taken ds k d inside c.draft-item.is) sound)))

pub loop-draft-preserved : goal.loop-draft-preserved
loop-draft-preserved c = λ numbered short scopes.
    (let ds = c.args.drafts.now in
    let ns = all_numbered ds in
    let ops = ops_of ns in
    let k = c.loop-draft.draft-index in
    let d = c.draft-item.result in
    let inside : k < length ds = omega arith in
    let so_far = c.loop-draft.invariant numbered short scopes in
    let m = rw c.if-not-branch.false at (c.in_ok-push.ensures (take k ops) (kinds ops) so_far.0 (small_here ds k d inside c.draft-item.is numbered) (kinds_here ds k d inside c.draft-item.is numbered)) in
    let more = ap (λ (n : ℕ). take n ops) (sym (next k)) ∙ taken ds k d inside c.draft-item.is in (
      subst (λ (os : List Operator). AreScopes c.push.new.self os (kinds ops)) (sym more) m.1,
      sound_more ns k (k + 1) (op_of d.op) more (short_here ds k d inside c.draft-item.is short) so_far.1 m.0,
    ))
