use Rattle.std.proofs.Common.{◌≡◌, ◌∙◌, ◌==◌, ℕ, List, false, length, sym, subst}
use Rattle.std.specs.List.{AllByRecursion, flat_map, list_any}
use Rattle.plan_core.specs.PlanMade.{op_of}
use Rattle.plan_core.specs.Valid.{inputs_of, outs_of, uses_of}
use Rattle.plan_read.specs.Scopes.{AreOuts, IsBelow}
use Rattle.plan_read.proofs.Pushed.{inputs_below, pushed, sound_after, unfit, unused_twice}
use Rattle.plan_read.proofs.scopes.Scopes.push.Goals as goal

pub returns-in_default : goal.returns-in_default
returns-in_default c = λ before of scopes small e sound.
    (let op = op_of c.args.op.now in
    let left = c.below.new.self.slots.items in
    let b = c.in_ok-below.ensures.below (length before) (uses_of before) of scopes.slots (inputs_below before op small) in
    unused_twice left before op of (subst (IsBelow left (length before) (uses_of before) of (inputs_of op)) c.in_default.is b) sound)

pub returns-then-not-fits : goal.returns-then-not-fits
returns-then-not-fits c = λ before of scopes small e sound.
    (let op = op_of c.args.op.now in
    let left = c.below.new.self.slots.items in
    let b = c.in_ok-below.ensures.below (length before) (uses_of before) of scopes.slots (inputs_below before op small) in
    let s = subst (IsBelow left (length before) (uses_of before) of (inputs_of op)) c.in-Some.is b in
    unfit left before op of c.in-Some.below c.fits.result s c.fits.ensures c.if-not-fits.true sound)

pub returns-then-not-branch : goal.returns-then-not-branch
returns-then-not-branch c = λ before of scopes small e sound.
    (let op = op_of c.args.op.now in
    let vars = flat_map outs_of before in
    let outs = subst (λ o. AreOuts o vars) (sym c.below.ensures.outs) scopes.outs in
    let fresh = λ (xs : List ℕ). AllByRecursion (λ (v : ℕ). list_any (λ w. w == v) vars ≡ false) xs in
    let m = c.in_ok-add_out.ensures.new vars outs in
    let f = rw c.if-not-branch.true at m in
    f (subst fresh (sym c.out_of.ensures) sound.new))

pub returns : goal.returns
returns c = λ before of scopes small e.
    (let op = op_of c.args.op.now in
    let left = c.below.new.self.slots.items in
    let vars = flat_map outs_of before in
    let b = c.in_ok-below.ensures.below (length before) (uses_of before) of scopes.slots (inputs_below before op small) in
    let s = subst (IsBelow left (length before) (uses_of before) of (inputs_of op)) c.in-Some.is b in
    let outs = subst (λ o. AreOuts o vars) (sym c.below.ensures.outs) scopes.outs in
    let m = rw c.if-not-branch.false at (c.in_ok-add_out.ensures.new vars outs) in
    let items = rw c.in_ok-add_out.ensures.slots at c.in_ok-push.ensures.items in (
      sound_after left before op of c.in-Some.below c.out_of.result s (sym c.fits.ensures ∙ c.if-not-fits.false) c.out_of.ensures m.0,
      pushed (record { slots = c.push.new.self; outs = c.add_out.new.self.outs }) left before op of c.in-Some.below c.in_ok-scope.scope c.out_of.result s small c.in_ok-scope.ensures e c.out_of.ensures m.1 items,
    ))
