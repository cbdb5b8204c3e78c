-- What a bench is made of.
use Rattle.std.specs.Prelude.{◌≡◌, ◌<◌, ℕ, List, Some, length, map, slice_get}
use Rattle.std.specs.declared.alloc.Global.{Global}
use Rattle.std.specs.declared.vec.Vec.{Vec}
use Rattle.lxp_core.specs.View.{View}
use Rattle.path_expr.specs.Form.{Form}
use Rattle.path_auto.specs.Automaton.{table_of}
use Rattle.plan_core.specs.Fronts.{op_stops, op_apart}
use Rattle.plan_core.specs.Plans.{Operator}
use Rattle.plan_core.specs.Shapes.{Shape, visits_below, shape_at}
use Rattle.plan_core.specs.PlanMade.{op_of, plan_value}
use Rattle.plan_core.specs.Typed.{IsTyped}
use Rattle.plan_core.specs.Valid.{IsValid}
use Rattle.plan_forms.specs.declared.link.Link.{Link}
use Rattle.plan_forms.specs.Links.{op_links}
use Rattle.lazy_binding.specs.Sides.{AreRights}
use Rattle.lazy_binding.specs.World.{World, world}
use Rattle.lazy_binding.specs.declared.parts.Fixed.{Fixed}
use Rattle.lazy_binding.specs.declared.parts.Growing.{Growing}
use Rattle.lazy_binding.specs.declared.parts.Walk.{Walk}

-- the operators of the plan of a bench
abbrev pub operators : Fixed → List Operator
operators f = map op_of f.plan.ops.items

-- the world of a bench: what its sources mean, and what has grown
abbrev pub world_of : View → Growing → World
world_of v g = world v g.buffers.items g.seen.items g.memos.items g.walked

-- what is computed once, before any step, is right: the plan is valid, each path has its automaton, and of each operator it is told whether its groups end at the first other key, whether
-- it passes on all bindings of its input, by which link members are looked up, and which variables are those of its right side alone
pub record IsFixed (f : Fixed) : Type 0 where
  pub valid : IsValid (plan_value f.plan)
  pub typed : IsTyped (operators f)
  pub autos : (n i start : ℕ) (path : Form) (out : ℕ) → n < length (operators f) → shape_at (operators f) n ≡ visits_below i start path out
      → slice_get f.autos.items n ≡ Some (Some (table_of path))
  pub stops : f.stops.items ≡ map (op_stops (operators f)) (operators f)
  pub apart : f.apart.items ≡ map (op_apart (operators f)) (operators f)
  pub links : map (λ (of : Vec Link Global). of.items) f.links.items ≡ map (op_links (operators f)) (operators f)
  pub sides : length f.rights.items ≡ length (operators f)
  pub rights : AreRights (operators f) f.rights.items

-- the shape of the operator that is walked
abbrev pub shape_walked : Walk → Shape
shape_walked k = shape_at (operators k.fixed.now) k.op
