use Rattle.std.proofs.Common.{rules, arith, ◌≡◌, ◌<◌, ◌∙◌, sym, ap, subst, length, drop}
use Rattle.std.specs.Prelude.{Ok}
use Rattle.std.proofs.lemmas.List.{take_rest}
use Rattle.lazy_walk.specs.Finding.{GoesOnTo}
use Rattle.lazy_walk.specs.Walks.{state_of}
use Rattle.lazy_walk.proofs.Following.{found_among, levels_fail, levels_go_on, steps_fail, steps_go_on}
use Rattle.lazy_walk.proofs.LeadsHere.{members_length, members_behind}
use Rattle.lazy_walk.proofs.walk.Walk.led_on.Goals as goal

pub slice_bounds-ahead-count-then-from-levels : goal.slice_bounds-ahead-count-then-from-levels
slice_bounds-ahead-count-then-from-levels g c =
    let old = state_of (g.S.Sources.view c.args.s.now) c.args.self.now in
    let mark = c.args.mark.now in
    let levels : c.deref-levels.result.now ≡ mark.data.levels = search rules in
    let members : c.deref-members.result.now ≡ mark.members.items = search rules in
    let l = members_length old mark.data.levels mark.members.items c.requires.mark.members in
    omega (arith, l, ap length levels, ap length members)

pub slice_bounds-ahead-start-then-from-levels : goal.slice_bounds-ahead-start-then-from-levels
slice_bounds-ahead-start-then-from-levels g c = slice_bounds-ahead-count-then-from-levels g c

pub child_led-requires-clause-members : goal.child_led-requires-clause-members
child_led-requires-clause-members g c =
    let old = state_of (g.S.Sources.view c.args.s.now) c.args.self.now in
    let mark = c.args.mark.now in
    let levels : c.deref-levels.result.now ≡ mark.data.levels = search rules in
    let members : c.deref-members.result.now ≡ mark.members.items = search rules in
    members_behind old c.args.from.levels mark.data.levels mark.members.items c.requires.mark.members _ _ (take_rest c.deref-levels.result.now c.args.from.levels ∙ ap (drop c.args.from.levels) levels)
    (take_rest c.deref-members.result.now c.args.from.levels ∙ ap (drop c.args.from.levels) members)

pub returns-in_err-child_led-clause-leads : goal.returns-in_err-child_led-clause-leads
returns-in_err-child_led-clause-leads g c =
    let old = state_of (g.S.Sources.view c.args.s.now) c.args.self.now in
    let new = state_of (g.S.Sources.view c.child_led.new.s) c.child_led.new.self in
    let mark = c.args.mark.now in
    let levels : c.deref-levels.result.now ≡ mark.data.levels = search rules in
    let members : c.deref-members.result.now ≡ mark.members.items = search rules in
    let less : c.args.from.levels < length mark.data.levels = omega (arith, ap length levels) in
    λ tells.
    levels_fail old c.tolled_is_document.ensures c.requires.walk.valid mark c.requires.mark c.args.from c.requires.stage new c.args.n.now less c.child_led.result
    (found_among old new c.args.n.now _ _ _ _ c.child_led.result (take_rest c.deref-levels.result.now c.args.from.levels ∙ ap (drop c.args.from.levels) levels)
    (take_rest c.deref-members.result.now c.args.from.levels ∙ ap (drop c.args.from.levels) members) (c.child_led.ensures.found.1 tells)) c.from_residual.result (λ place. search rules)

pub returns-then-from-levels-clause-leads : goal.returns-then-from-levels-clause-leads
returns-then-from-levels-clause-leads g c =
    let old = state_of (g.S.Sources.view c.args.s.now) c.args.self.now in
    let new = state_of (g.S.Sources.view c.child_led.new.s) c.child_led.new.self in
    let mark = c.args.mark.now in
    let levels : c.deref-levels.result.now ≡ mark.data.levels = search rules in
    let members : c.deref-members.result.now ≡ mark.members.items = search rules in
    let less : c.args.from.levels < length mark.data.levels = omega (arith, ap length levels) in
    let found = c.in_ok-child_led.ensures.found in
    let ahead = take_rest c.deref-levels.result.now c.args.from.levels ∙ ap (drop c.args.from.levels) levels in
    λ tells.
    subst (λ x. GoesOnTo old new c.args.n.now mark.data c.args.from (Ok x)) (sym c.passed_levels.ensures)
    (levels_go_on old c.tolled_is_document.ensures c.requires.walk.valid mark c.requires.mark c.args.from c.requires.stage new c.args.n.now less c.in_ok-child_led.field-0 (search rules)
    (found_among old new c.args.n.now _ _ _ _ (Ok c.in_ok-child_led.field-0) ahead (take_rest c.deref-members.result.now c.args.from.levels ∙ ap (drop c.args.from.levels) members) (found.1 tells)))

pub returns-in_err-child_at-clause-leads : goal.returns-in_err-child_at-clause-leads
returns-in_err-child_at-clause-leads g c =
    let old = state_of (g.S.Sources.view c.args.s.now) c.args.self.now in
    let new = state_of (g.S.Sources.view c.child_at.new.s) c.child_at.new.self in
    let mark = c.args.mark.now in
    let levels : c.deref-levels.result.now ≡ mark.data.levels = search rules in
    λ tells.
    steps_fail old c.tolled_is_document.ensures c.requires.walk.valid mark c.requires.mark c.args.from c.requires.stage new c.args.n.now (omega (arith, ap length levels)) (search rules) _ (search rules) c.child_at.result
    (c.child_at.ensures.found.1 tells) c.from_residual-in_err-child_at.result (λ place. search rules)

pub returns-clause-leads : goal.returns-clause-leads
returns-clause-leads g c =
    let old = state_of (g.S.Sources.view c.args.s.now) c.args.self.now in
    let new = state_of (g.S.Sources.view c.child_at.new.s) c.child_at.new.self in
    let mark = c.args.mark.now in
    let levels : c.deref-levels.result.now ≡ mark.data.levels = search rules in
    λ tells.
    subst (λ x. GoesOnTo old new c.args.n.now mark.data c.args.from (Ok x)) (sym c.passed_step.ensures)
    (steps_go_on old c.tolled_is_document.ensures c.requires.walk.valid mark c.requires.mark c.args.from c.requires.stage new c.args.n.now (omega (arith, ap length levels)) (search rules) _ (search rules) c.in_ok-child_at.field-0
    (c.in_ok-child_at.ensures.found.1 tells))
