use Rattle.std.proofs.Common.{◌≡◌, ◌<◌, ℕ, true, length, take}
use Rattle.std.specs.Prelude.{IsTrue}
use Rattle.plan_core.specs.Shapes.{shape_at}
use Rattle.plan_evidence.specs.Evidence.{is_on_way, ShapeHolds}
use Rattle.lazy_plan.specs.Bench.{state_of, ops_of, documents, told}
use Rattle.lazy_seek.specs.Evidenced.{reaches}
use Rattle.lazy_seek.specs.Given.{vars_below, given}
use Rattle.lazy_seek.specs.Seeks.{Sought}
use Rattle.lazy_seek.specs.Turns.{Knows}
use Rattle.lazy_seek.proofs.seeking.sought_along.Given as goal

abbrev pub invariant-loop-i : goal.invariant-loop-i
invariant-loop-i g l =
    let old = state_of (g.S.Sources.view l.fn.s) l.fn.bench in
    record {
      sought : Sought g.S.Sources.view g.S.Sources.came_from (reaches (take (length (vars_below (ops_of old) l.wanted.op l.i)) l.wanted.places.now)) l.fn.s l.fn.bench l.s l.bench;
      knows : Knows (state_of (g.S.Sources.view l.s) l.bench) (ops_of old) l.wanted l.found l.i;
      right : IsTrue (told old) → (j : ℕ) → j < l.i → is_on_way (ops_of old) l.wanted.op j ≡ true → ShapeHolds (documents old) (given (ops_of old) l.wanted.op l.wanted.places.now) (shape_at (ops_of old) j);
    }
