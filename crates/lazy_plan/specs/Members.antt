-- What a call for the next member of a gathered group leaves and answers.
use Rattle.std.specs.Prelude.{suc, Option, Result, IfOk, MatchOption}
use Rattle.std.specs.declared.alloc.Global.{Global}
use Rattle.std.specs.declared.rc.Rc.{Rc}
use Rattle.lxp_core.specs.View.{View}
use Rattle.lxp_core.specs.declared.fault.WalkFault.{WalkFault}
use Rattle.lazy_descend.specs.Searches.{FindsNone}
use Rattle.lazy_binding.specs.declared.parts.Growing.{Growing}
use Rattle.lazy_binding.specs.declared.position.Position.{Position}
use Rattle.lazy_binding.specs.Parts.{operators, world_of}
use Rattle.lazy_binding.specs.World.{IsFound}
use Rattle.lazy_steps.specs.declared.gather_steps.Gather.{Gather}
use Rattle.lazy_plan.specs.declared.groups.GroupFrom.{GroupFrom}
use Rattle.lazy_steps.specs.Steps.{telling, Ran, HasCause}
use Rattle.lazy_steps.specs.Gathers.{members_after}

-- what a call for the member at the next place of a group leaves and answers: none comes after the present one, or it was found there
pub record NextWalked {S : Type 0} (view : S → View) (came_from : S → S → Type 0) (k : Gather) (g : GroupFrom) (s : S) (old : Growing) (s' : S) (new : Growing)
    (result : Result (Option (Rc Position Global)) WalkFault) : Type 0 where
  pub ran : Ran view came_from (operators k.walk.fixed.now) k.walk.op
      (members_after (world_of (view s) old) (operators k.walk.fixed.now) k.input k.keys.now g.first.now g.at.now) s old s' new
  pub cause : HasCause (operators k.walk.fixed.now) (view s) (view s') result
  pub answer : IfOk result (λ r. MatchOption r
      (FindsNone (telling (world_of (view s) old) (operators k.walk.fixed.now)) (members_after (world_of (view s) old) (operators k.walk.fixed.now) k.input k.keys.now g.first.now g.at.now))
      (λ d. IsFound (world_of (view s') new) k.walk.op g.number (suc g.place) d.value))
