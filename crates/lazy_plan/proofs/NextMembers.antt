-- What a call for the next member of a group that ends with its input answers.
use Rattle.std.proofs.Common.{◌≡◌, ◌-◌, ℕ, suc, Bool, true, false, List, Some, ◌∙◌, sym, ap, subst, arith}
use Rattle.std.specs.Prelude.{not}
use Rattle.std.specs.declared.alloc.Global.{Global}
use Rattle.std.specs.declared.rc.Rc.{Rc}
use Rattle.mix_base.specs.Events.{finds, found, cost}
use Rattle.mix_tree.specs.declared.var.Key.{Key}
use Rattle.plan_core.specs.declared.plan.Piece.{Piece}
use Rattle.plan_core.specs.declared.plan.Plan.{Plan}
use Rattle.plan_core.specs.Plans.{Operator}
use Rattle.plan_core.specs.PlanMade.{plan_value}
use Rattle.plan_core.specs.ByNumber.{op_at}
use Rattle.plan_core.specs.Shapes.{Shape, passes_on, first_by_keys, shape_at}
use Rattle.plan_core.specs.Events.{passing}
use Rattle.plan_core.specs.TolledRows.{key_values, same_values}
use Rattle.lazy_descend.specs.Searches as Searches
use Rattle.lazy_descend.specs.Searches.{FindsNone}
use Rattle.lazy_descend.proofs.Searches.{still_told}
use Rattle.lazy_binding.specs.declared.position.Position.{Position, First'}
use Rattle.lazy_binding.specs.Bench.{IsBench}
use Rattle.lazy_binding.specs.Cursors.{gathers_by, binding, ahead, size, IsIn}
use Rattle.plan_forms.specs.Forms.{form, gathers_groups, input_at, keys_of}
use Rattle.lazy_binding.specs.Gathering.{IsNextMember}
use Rattle.lazy_binding.specs.World.{World, docs_of, IsFound}
use Rattle.lazy_binding.proofs.FoundMembers.{found_next}
use Rattle.lazy_binding.proofs.Stay.{cursors_kept, size_kept}
use Rattle.lazy_plan.specs.Bench.{told_by, AsksAtMost}
use Rattle.lazy_steps.specs.Gathers.{members_after}
use Rattle.lazy_plan.specs.Groups.{stops_at, group_ahead, IsGroup, members_of}
use Rattle.lazy_steps.specs.Steps.{Asks, telling}
use Rattle.lazy_steps.proofs.Goes.{tells_on}
use Rattle.lazy_plan.proofs.GatheredMembers.{whole_is}
use Rattle.lazy_plan.proofs.GroupSteps.{group_shape, group_stops}

module _ (a : World) (p : Plan) (op m place : ℕ) (first at : Position) (is : form (op_at (plan_value p).ops op) ≡ gathers_groups)
    (among : stops_at (plan_value p).ops op ≡ false) (bench : IsBench a (plan_value p).ops) (g : IsGroup (record { world = a; plan = p }) op m first at place) where
  -- the operators of the plan of a bench
  abbrev ops : List Operator
  ops = (plan_value p).ops

  -- the input of the groupBy
  abbrev i : ℕ
  i = input_at ops op

  -- the keys of the groupBy
  abbrev keys : List Key
  keys = keys_of (op_at ops op)

  -- what the groupBy makes of a group
  abbrev pub next_made : Piece × ℕ
  next_made = (group_shape (op_at ops op) is).0

  -- the shape of the operator
  pub next_shape : shape_at ops op ≡ passes_on i (first_by_keys keys (Some next_made))
  next_shape = (group_shape (op_at ops op) is).1

  -- the groups of the operator end with its input
  pub next_gathers : gathers_by ops (passes_on i (first_by_keys keys (Some next_made))) ≡ true
  next_gathers = ap not (sym (group_stops ops (op_at ops op) is) ∙ among)

  -- some position that is shared
  some : Rc (Unit {0}) Global
  some = record { ptr = (g.placed among).0.ptr; value = tt }

  -- the first member of the group was found at its place
  pub first_found : IsFound a op m 0 first
  first_found = (subst (λ (z : Shape). IsIn a ops op z (First' some first m)) next_shape (g.begins some)).11 next_gathers

  -- the events of the group are those that have the keys of its first member
  events_are : (w : World) (x : Position) → group_ahead (record { world = w; plan = p }) op first x ≡ members_after w ops i keys first x
  events_are w x = ap (λ (v : Bool). passing v (λ row. same_values (key_values (docs_of w) keys (binding w ops i first)) (key_values (docs_of w) keys row)) (ahead w ops i x)) among

  -- where none of the events after a member is of its group, the group has no more members
  pub next_none : FindsNone (telling a ops) (members_after a ops i keys first at) → FindsNone (telling a ops) (group_ahead (record { world = a; plan = p }) op first at)
  next_none h t = ap found (events_are a at) ∙ h t

  module _ (b : World) (k : Asks a b ops op (members_after a ops i keys first at)) where
    -- what a call for the next member asks is within the cost of the group's events
    pub next_lazy : AsksAtMost (record { world = a; plan = p }) (record { world = b; plan = p }) (cost (group_ahead (record { world = a; plan = p }) op first at))
    next_lazy t f = (let x = k.lazy t f in let y = ap cost (events_are a at) in omega (arith, x, y))

    -- the member that was found at the next place is the next one
    pub next_found : IsBench b ops → (d : Position) → IsFound b op m (suc place) d
        → Searches.Finds (told_by (record { world = a; plan = p })) (members_of (record { world = b; plan = p }) op m first (suc place)) (group_ahead (record { world = a; plan = p }) op first at) (size a ops i - place) d
    next_found late d f = record {
      cursor = (
        record { of = next.cursor; row = next.stands },
        record {
          begins = λ u. (cursors_kept a b k.kept ops bench op (First' u first m) (g.begins u)).cursor;
          member = λ s. (let x : true ≡ false = sym s ∙ among in cc);
          few = (let x = next.few in omega (arith, x));
          placed = λ s. f;
        },
      );
      row = tt;
      falls = (let x = next.few in let s = size_kept a b k.kept ops bench i in omega (arith, x, s));
      found = λ t.
          ap found (events_are a at)
          ∙ ap found (sym (whole_is ops op i keys next_made next_shape next_gathers a bench m place first at first_found (g.placed among) b late k.kept))
          ∙ next.found (still_told (tells_on k.kept ops) t)
          ∙ ap (finds (binding b ops i d)) (sym (events_are b d));
    }
      where
        next : IsNextMember b ops i keys (binding b ops i first) at (suc place) d
        next = found_next b ops op i keys (Some next_made) (late.gathered op i keys (Some next_made) next_shape next_gathers) m first (k.kept.found op m 0 first first_found)
            at place (k.kept.found op m place at (g.placed among)) d f
