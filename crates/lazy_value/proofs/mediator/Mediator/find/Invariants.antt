use Rattle.std.proofs.Common.{◌-◌, ℕ, List}
use Rattle.std.specs.Prelude.{IsTrue}
use Rattle.lazy_plan.specs.Bench.{told}
use Rattle.lazy_walk.specs.Stages.{size_of, whole_size}
use Rattle.lazy_value.specs.Finding.{IsKnown}
use Rattle.lazy_value.specs.Named.{state_of, NamedWalked, NamesAt}
use Rattle.lazy_value.proofs.OnWay.{Way}
use Rattle.lazy_value.proofs.mediator.Mediator.find.Given as goal

abbrev pub invariant-nodes : goal.invariant-nodes
invariant-nodes g l =
    let view = g.S.Sources.view in
    let old = state_of (view l.fn.s) l.fn.self in
    let now = state_of (view l.s) l.self in
    record {
      walked : NamedWalked view g.S.Sources.came_from l.fn.s l.fn.self l.s l.self;
      known : IsKnown l.self l.fn.marked.mark.data l.stage;
      way : IsTrue (told old) → (p : List ℕ) → NamesAt old l.fn.marked p → Way old now l.fn.marked.mark.data p l.stage;
    }

abbrev pub decreases-nodes : goal.decreases-nodes
decreases-nodes g l = whole_size l.fn.marked.mark.data - size_of l.stage
