use Rattle.std.proofs.Common.{ℕ, List, sym, subst}
use Rattle.node_text.specs.Node.{LevelValue, node, IsFormed}
use Rattle.plan_core.specs.PlanMade.{plan_value}
use Rattle.plan_evidence.specs.Named.{Names}
use Rattle.lazy_plan.specs.Bench.{documents, ops_of}
use Rattle.lazy_walk.specs.Above.{node_levels}
use Rattle.lazy_walk.specs.Walks.{state_of, plan_of}
use Rattle.lazy_site.proofs.Having.{valid_document}
use Rattle.lazy_walk.proofs.Saying.{node_formed, node_named}
use Rattle.lazy_walk.proofs.walk.Walk.node_data.Goals as goal

pub returns-clause-names : goal.returns-clause-names
returns-clause-names c =
    λ view h p at y.
    (let st = state_of view c.args.self.now in
    let n = c.args.n.now in
    let plan = plan_value (plan_of c.args.self.now) in
    let law = c.tolled_is_document.ensures plan in
    let there = valid_document plan h.fixed.typed law h.valid (documents st) in
    let said = node_named st h.valid h.fixed.typed h.bench y (law h.valid (documents st)) there n p at in
    let levels = c.in_ok-levels.ensures view h at.node in
    let inside = c.in_ok-inside.ensures view h at.node in
    subst (λ (ls : List LevelValue). Names (documents st) (ops_of st) (node ls c.in_ok-inside.inside) p) (sym levels)
    (subst (λ (q : List ℕ). Names (documents st) (ops_of st) (node (node_levels st n) q) p) (sym inside) said))

pub returns-clause-formed : goal.returns-clause-formed
returns-clause-formed c =
    let m = c.requires.node in
    let st = state_of m.0 c.args.self.now in
    let n = c.args.n.now in
    subst (λ (ls : List LevelValue). IsFormed (node ls c.in_ok-inside.inside)) (sym (c.in_ok-levels.ensures m.0 m.1 m.2))
    (subst (λ (q : List ℕ). IsFormed (node (node_levels st n) q)) (sym (c.in_ok-inside.ensures m.0 m.1 m.2)) (node_formed st n))
