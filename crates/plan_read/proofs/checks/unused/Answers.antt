use Rattle.std.proofs.Common.{◌≡◌, ◌<◌, ◌∙◌, inl, inr, ℕ, suc, sym, subst, arith, length, slice_get}
use Rattle.std.proofs.lemmas.Bool.{cases_lt}
use Rattle.plan_core.specs.Valid.{uses_of}
use Rattle.plan_read.specs.Checks.{ops_of, AreUsed}
use Rattle.plan_read.specs.Drafts.{all_numbered}
use Rattle.plan_read.proofs.Slotted.{open_unused, closed_used, slot_there}
use Rattle.plan_read.proofs.Stopping.{many_lines, many_ops, stops_at}
use Rattle.plan_read.proofs.checks.unused.Goals as goal
use Rattle.plan_read.proofs.checks.unused.Goals.{else-place-drafts-via-then-place-drafts+else-is_unused, else-place-drafts-via-else-place-drafts}

pub returns-then-is_unused : goal.returns-then-is_unused
returns-then-is_unused c = λ of scopes.
    (let ds = c.args.drafts.now in
    let ops = ops_of (all_numbered ds) in
    let k = c.loop-place.place in
    let slots = c.args.scopes.now.slots.items in
    let many = many_ops ds in
    let inside : k < length ds = omega arith in
    let before : suc k < length ops = omega (arith, many) in
    let none : uses_of ops k ≡ 0 = open_unused (slice_get slots k) (uses_of ops k) (of k) (sym c.is_unused.ensures ∙ c.if-is_unused.true) (scopes.slots.each k) in
    stops_at (AreUsed (all_numbered ds)) ds k c.index-drafts-place.result inside c.index-drafts-place.is (c.loop-place.invariant of scopes)
    (λ used. (let one : uses_of ops k ≡ 1 = used k (omega arith) before in omega (arith, none, one))))

pub loop-place-preserved : goal.loop-place-preserved
loop-place-preserved c = λ of scopes n less more.
    (let ds = c.args.drafts.now in
    let ops = ops_of (all_numbered ds) in
    let k = c.loop-place.place in
    let slots = c.args.scopes.now.slots.items in
    let many = many_ops ds in
    elim (cases_lt n k) [
      | inl l ↦ c.loop-place.invariant of scopes n l more
      | inr l ↦
          (let same : k ≡ n = omega (arith, less, l) in
          elim c.else-place-drafts.branch [
            | else-place-drafts-via-then-place-drafts+else-is_unused w ↦
                (let there : k < length slots = omega (arith, scopes.slots.many, same, more) in
                subst (λ (m : ℕ). uses_of ops m ≡ 1) same
                (closed_used (slice_get slots k) (uses_of ops k) (of k) (sym w.is_unused.ensures ∙ w.if-is_unused.false) (slot_there slots k there) (scopes.slots.each k)))
            | else-place-drafts-via-else-place-drafts w ↦ absurd (let past = w.if-place-drafts.false in omega (arith, past, many, same, more))
          ])
    ])

pub returns : goal.returns
returns c = λ of scopes n less more.
    (let l = many_lines c.args.drafts.now in c.loop-place.invariant of scopes n (omega (arith, l, less)) more)
