use Rattle.std.proofs.Common.{◌++◌, ◌∷◌, [], subst}
use Rattle.lazy_walk.specs.Above.{rests_above, top_above, IsLedTo}
use Rattle.lazy_site.specs.Ids.{IsSite}
use Rattle.lazy_walk.specs.Walks.{state_of}
use Rattle.lazy_walk.proofs.Searching.{inside_led_nowhere, item_led}
use Rattle.lazy_walk.proofs.walk.Walk.levels_led_to.Goals as goal

pub returns-in-Inside-clause-leads : goal.returns-in-Inside-clause-leads
returns-in-Inside-clause-leads c = λ view h members y q i j at x e.
    (let st = state_of view c.args.self.now in
    let n = c.args.n.now in
    let led = subst (λ z. IsLedTo st z (rests_above n.above) (top_above n.above) (q ++ i ∷ [])) c.in-Inside.is (at.above y) in
    inside_led_nowhere st h.valid h.fixed.typed h.bench y q i j c.args.ahead.now.levels.now c.args.ahead.now.members.now x (rests_above n.above) (top_above n.above) c.in-Inside.field-0 c.in-Inside.field-1 led)

pub returns-in-Item-clause-leads : goal.returns-in-Item-clause-leads
returns-in-Item-clause-leads c = λ view h members y q i j at x.
    (let st = state_of view c.args.self.now in
    let n = c.args.n.now in
    let led = subst (λ z. IsLedTo st z (rests_above n.above) (top_above n.above) (q ++ i ∷ [])) c.in-Item.is (at.above y) in
    let site = subst (IsSite st) c.in-Item.is at.node.site in
    item_led st h.valid h.fixed.typed h.bench y q i j c.args.ahead.now.levels.now c.args.ahead.now.members.now x (rests_above n.above) (top_above n.above) c.in-Item.head c.in-Item.rest led c.levels_led.result
    (c.levels_led.ensures.leads view h site.1 members y))
