-- A walk of a getDescendants from binding to binding of its input, up to the first match of a visit.
use Rattle.std.proofs.Common.{◌≡◌, ◌<◌, ◌+◌, ◌++◌, ℕ, suc, Option, Some, None, length, ap, subst, arith}
use Rattle.std.specs.Prelude.{Result, Ok}
use Rattle.std.specs.declared.alloc.Global.{Global}
use Rattle.std.specs.declared.rc.Rc.{Rc}
use Rattle.lazy_descend.proofs.Searches.{comes_at}
use Rattle.lazy_descend.specs.declared.cursor.DescCursor.{DescCursor}
use Rattle.lxp_core.specs.View.{View}
use Rattle.lxp_core.specs.declared.fault.WalkFault.{WalkFault}
use Rattle.mix_tree.specs.Nodes.{Node}
use Rattle.path_auto.specs.Automaton.{machine_of, table_of}
use Rattle.path_auto.specs.Visit.{visits}
use Rattle.plan_core.specs.Events.{descendants}
use Rattle.plan_core.specs.Shapes.{shape_at, visits_below}
use Rattle.plan_core.specs.TolledRows.{row_node}
use Rattle.tree_buffer.specs.declared.spot.Spot.{Spot}
use Rattle.lazy_binding.specs.declared.parts.Growing.{Growing}
use Rattle.lazy_binding.specs.declared.position.Position.{Position}
use Rattle.lazy_binding.specs.Cursors.{ahead, binding, number}
use Rattle.lazy_binding.specs.Parts.{operators, shape_walked, world_of}
use Rattle.lazy_binding.specs.Reading.{Found}
use Rattle.lazy_binding.specs.World.{bound_of, docs_of, match_ahead, match_number}
use Rattle.lazy_binding.proofs.Stay.{cursors_kept}
use Rattle.lazy_steps.specs.declared.path_scan.PathScan.{PathScan}
use Rattle.lazy_steps.specs.declared.visits.Visit.{Visit}
use Rattle.lazy_steps.specs.Steps.{CanStep, FindsVisit, Finds, Ran, visit_events, visit_number}
use Rattle.lazy_steps.specs.Visits.{SoughtBeside, StandsAtFirst, StandsAtNext}
use Rattle.lazy_steps.proofs.Goes.{Goes, goes_then, ran_then}
use Rattle.lazy_steps.proofs.PairSteps.{can_then}
use Rattle.lazy_steps.proofs.VisitSteps.{first_sought, next_sought, start_at, start_goes, start_ran, visit_found, visit_ran, visit_then}

-- from position c of the input a walk has come to its position x, with no match before x
pub record ScanCame {S : Type 0} (view : S → View) (came_from : S → S → Type 0) (k : PathScan) (c : Position) (s : S) (g : Growing) (t : S) (h : Growing) (x : Position) : Type 0 where
  pub came : came_from s t
  pub goes : Goes (world_of (view s) g) (world_of (view t) h) (operators k.walk.fixed.now) k.walk.op
      (visit_events (world_of (view s) g) (operators k.walk.fixed.now) k.input k.start k.path.now k.out c) (visit_events (world_of (view t) h) (operators k.walk.fixed.now) k.input k.start k.path.now k.out x)
      (visit_number (world_of (view s) g) (operators k.walk.fixed.now) k.input c) (visit_number (world_of (view t) h) (operators k.walk.fixed.now) k.input x)
  pub can : CanStep (view t) h k.walk.fixed.now k.input x

module _ {S : Type 0} {view : S → View} {came_from : S → S → Type 0} (after : (a b c : S) → came_from a b → came_from b c → came_from a c) (k : PathScan) (op : k.walk.op < length (operators k.walk.fixed.now))
    (is : shape_walked k.walk ≡ visits_below k.input k.start k.path.now k.out) {c x : Position} {s t : S} {g h : Growing} (z : ScanCame view came_from k c s g t h x) {u : S} {j : Growing}
    (ran : Ran view came_from (operators k.walk.fixed.now) k.input (ahead (world_of (view t) h) (operators k.walk.fixed.now) k.input x) t h u j) where
  -- a further call of the input leaves what the walk leaves
  pub scan_over : Ran view came_from (operators k.walk.fixed.now) k.walk.op (visit_events (world_of (view s) g) (operators k.walk.fixed.now) k.input k.start k.path.now k.out c) s g u j
  scan_over = ran_then after z.came z.goes (start_ran k.input k.start k.path.now k.out op is x z.can ran)

  -- the call came to a binding of the input, and the first match was sought of the visit from its node
  module _ (y : Position) (f : Finds (world_of (view t) h) (world_of (view u) j) (operators k.walk.fixed.now) k.input (shape_at (operators k.walk.fixed.now) k.input)
      (ahead (world_of (view t) h) (operators k.walk.fixed.now) k.input x) (number (world_of (view t) h) (operators k.walk.fixed.now) k.input x) y)
      (src : ℕ) (spot : Spot) (node : Found (world_of (view u) j) (operators k.walk.fixed.now) k.input y k.start src spot)
      (v : Visit) (made : v ≡ record { fixed = k.walk.fixed; auto = v.auto; source = src }) (auto : machine_of v.auto.now ≡ machine_of (table_of k.path.now))
      {w : S} {l : Growing} (r : Result (Option (Rc Position Global)) WalkFault) (stands : StandsAtFirst view came_from v spot y u j w l r) where
    -- what was sought, over the places of the visit from the node
    sought : SoughtBeside view came_from (operators k.walk.fixed.now) (machine_of (table_of k.path.now)) src
        (visits (docs_of (world_of (view u) j)) k.path.now (row_node (binding (world_of (view u) j) (operators k.walk.fixed.now) k.input y) k.start)) (suc (bound_of (world_of (view u) j))) y u j w l r
    sought =
        first_sought k.path.now (machine_of v.auto.now) auto (row_node (binding (world_of (view u) j) (operators k.walk.fixed.now) k.input y) k.start) src spot node.node y r
        (subst (λ (i : Visit). StandsAtFirst view came_from i spot y u j w l r) made stands)

    -- the input can step from the binding to which it came
    at : CanStep (view u) j k.walk.fixed.now k.input y
    at = start_at k.input k.start k.path.now k.out op is x z.can ran y f

    -- the node of the binding is of the source that is visited
    of_source : (row_node (binding (world_of (view u) j) (operators k.walk.fixed.now) k.input y) k.start).source ≡ src
    of_source = ap (λ (i : Node). i.source) node.node

    -- a call of the visit leaves what the walk leaves
    pub scan_ran : Ran view came_from (operators k.walk.fixed.now) k.walk.op (visit_events (world_of (view s) g) (operators k.walk.fixed.now) k.input k.start k.path.now k.out c) s g w l
    scan_ran =
        ran_then after (after s t u z.came ran.came) (start_goes k.input k.start k.path.now k.out op is x z.can ran y f z.goes)
        (visit_ran k.input k.start k.path.now k.out op is y at f.row src of_source node.read _ sought.asked)

    -- after a visit from the input's binding fewer bindings of the input are ahead
    pub scan_falls : number (world_of (view w) l) (operators k.walk.fixed.now) k.input y < number (world_of (view t) h) (operators k.walk.fixed.now) k.input x
    scan_falls =
        let stays = cursors_kept (world_of (view u) j) (world_of (view w) l) sought.asked.kept (operators k.walk.fixed.now) ran.bench k.input y f.cursor in
        omega (arith, f.falls, stays.number_is)

    -- the events that are ahead once the input has come to its binding: those of the visit from there, and those of its later bindings
    came_to : Goes (world_of (view s) g) (world_of (view u) j) (operators k.walk.fixed.now) k.walk.op (visit_events (world_of (view s) g) (operators k.walk.fixed.now) k.input k.start k.path.now k.out c)
        (descendants (docs_of (world_of (view u) j)) k.start k.path.now k.out (binding (world_of (view u) j) (operators k.walk.fixed.now) k.input y) ++ visit_events (world_of (view u) j) (operators k.walk.fixed.now) k.input k.start k.path.now k.out y)
        (visit_number (world_of (view s) g) (operators k.walk.fixed.now) k.input c) (visit_number (world_of (view u) j) (operators k.walk.fixed.now) k.input y + suc (bound_of (world_of (view u) j)))
    came_to = start_goes k.input k.start k.path.now k.out op is x z.can ran y f z.goes

    -- the first match of a visit ends the walk
    pub scan_ends : (p : Rc Position Global) → r ≡ Ok (Some p) → FindsVisit view came_from k.walk k.input k.start k.path.now k.out c s g w l (Ok (Some p))
    scan_ends p e =
        let hit = subst (λ (i : Result (Option (Rc Position Global)) WalkFault). SoughtBeside view came_from (operators k.walk.fixed.now) (machine_of (table_of k.path.now)) src
        (visits (docs_of (world_of (view u) j)) k.path.now (row_node (binding (world_of (view u) j) (operators k.walk.fixed.now) k.input y) k.start)) (suc (bound_of (world_of (view u) j))) y u j w l i) e sought in record {
          ran = scan_ran;
          cause = tt;
          answer = comes_at came_to.comes
              (visit_found k.input k.start k.path.now k.out op is y at f.row src of_source node.read _ sought.asked _ hit.answer.0 hit.answer.1 p.value {u = hit.answer.2.0} hit.answer.2.1);
        }

    -- after a visit without a match the walk goes on from the binding of the input
    pub scan_goes_on : r ≡ Ok None → ScanCame view came_from k c s g w l y
    scan_goes_on e =
        let none = subst (λ (i : Result (Option (Rc Position Global)) WalkFault). SoughtBeside view came_from (operators k.walk.fixed.now) (machine_of (table_of k.path.now)) src
        (visits (docs_of (world_of (view u) j)) k.path.now (row_node (binding (world_of (view u) j) (operators k.walk.fixed.now) k.input y) k.start)) (suc (bound_of (world_of (view u) j))) y u j w l i) e sought in record {
          came = after s u w (after s t u z.came ran.came) sought.asked.came;
          goes = goes_then came_to (visit_then k.input k.start k.path.now k.out op is y at f.row src of_source node.read _ sought.asked (suc (bound_of (world_of (view u) j))) none.answer);
          can = can_then at (view w) l sought.asked.bench sought.asked.kept;
        }

-- what a call of a visit after a match leaves and answers, by the path of the getDescendants
pub later_sought : {S : Type 0} {view : S → View} {came_from : S → S → Type 0} {s t : S} {g h : Growing} (k : PathScan) (src : ℕ) (d : DescCursor) (x : Position)
    (v : Visit) → v ≡ record { fixed = k.walk.fixed; auto = v.auto; source = src } → machine_of v.auto.now ≡ machine_of (table_of k.path.now)
    → (r : Result (Option (Rc Position Global)) WalkFault) → StandsAtNext view came_from v d x s g t h r
    → SoughtBeside view came_from (operators k.walk.fixed.now) (machine_of (table_of k.path.now)) src (match_ahead (world_of (view s) g) src (machine_of (table_of k.path.now)) d) (match_number (world_of (view s) g) src d) x s g t h r
later_sought {S} {view} {came_from} {s} {t} {g} {h} k src d x v made auto r stands =
    next_sought (machine_of v.auto.now) (machine_of (table_of k.path.now)) auto src d (match_number (world_of (view s) g) src d) x r
    (subst (λ (i : Visit). StandsAtNext view came_from i d x s g t h r) made stands)
