use Rattle.std.proofs.Common.{◌∙◌, sym}
use Rattle.lazy_plan.specs.Bench.{state_of}
use Rattle.lazy_site.proofs.Heads.{if_ok}
use Rattle.lazy_walk.proofs.Pushed.{inside_is, inside_spots}
use Rattle.lazy_walk.proofs.naming.place_of_node.Goals as goal

pub returns-in-Inside-Some : goal.returns-in-Inside-Some
returns-in-Inside-Some c =
    let site = c.in-Inside-Some.is-0 in
    let top = sym c.top_kept.ensures ∙ c.in-Inside-Some.is-1 in
    let n = c.args.n.now in
    let s = c.in-Inside-Some.source in
    if_ok c.place_below.result _ _
    (λ place f view h node.
    (let st = state_of view c.args.bench.now in
    let spots = inside_spots st n s c.in-Inside-Some.p c.in-Inside-Some.top site top node in
    f view h spots.0 spots.1 ∙ sym (inside_is st n s c.in-Inside-Some.p c.in-Inside-Some.top site top)))
    c.place_below.ensures
