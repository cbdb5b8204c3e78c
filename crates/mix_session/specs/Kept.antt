-- What walkers keep where there is no call, and over two.
use Rattle.std.proofs.Common.{refl, ◌∙◌, arith}
use Rattle.lxp_core.specs.View.{View}
use Rattle.tree_buffer.specs.declared.buffer.Buffer.{Buffer}
use Rattle.lazy_plan.proofs.Benches.{keeps_on}
use Rattle.lazy_value.specs.declared.mediator.Mediator.{Mediator}
use Rattle.lazy_value.specs.Named.{state_of}
use Rattle.mix_session.specs.Walks.{SourceKept, PlanKept}

-- a buffer goes on from a state to that same state
pub source_kept_same : (v : View) (b : Buffer) → SourceKept v b v b
source_kept_same v b = record {
  number = refl;
  told = refl;
  forward = refl;
  document = refl;
  more = omega arith;
  spot = λ x h. h;
  place = λ x h. refl;
  label = λ x h. refl;
  below = λ x h. omega arith;
  after = λ x h. omega arith;
  children = λ x h k. k;
  siblings = λ x h k. k;
}

-- a buffer that goes on to a second state and from there to a third goes on from the first to the third
pub source_kept_twice : (v : View) (b : Buffer) (v' : View) (b' : Buffer) (v'' : View) (b'' : Buffer) → SourceKept v b v' b' → SourceKept v' b' v'' b'' → SourceKept v b v'' b''
source_kept_twice v b v' b' v'' b'' first second = record {
  number = second.number ∙ first.number;
  told = second.told ∙ first.told;
  forward = second.forward ∙ first.forward;
  document = second.document ∙ first.document;
  more = omega (arith, second.more, first.more);
  spot = λ x h. second.spot x (first.spot x h);
  place = λ x h. second.place x (first.spot x h) ∙ first.place x h;
  label = λ x h. second.label x (first.spot x h) ∙ first.label x h;
  below = λ x h. omega (arith, second.below x (first.spot x h), first.below x h);
  after = λ x h. omega (arith, second.after x (first.spot x h), first.after x h);
  children = λ x h all. second.children x (first.spot x h) (first.children x h all);
  siblings = λ x h all. second.siblings x (first.spot x h) (first.siblings x h all);
}

-- a mediator keeps from a state to that same state all that its calls keep
pub plan_kept_same : (v : View) (m : Mediator) → PlanKept v m v m
plan_kept_same v m = record {
  kept = keeps_on.same (state_of v m);
  stay = record { named = λ n h. h; place = λ n p h. h; left = λ n h. omega arith; height = λ n h. omega arith };
  owed = λ n p. omega arith;
}

-- what a mediator keeps to a second state and from there to a third it keeps from the first to the third
pub plan_kept_twice : (v : View) (m : Mediator) (v' : View) (m' : Mediator) (v'' : View) (m'' : Mediator) → PlanKept v m v' m' → PlanKept v' m' v'' m'' → PlanKept v m v'' m''
plan_kept_twice v m v' m' v'' m'' first second = record {
  kept = keeps_on.twice (state_of v m) (state_of v' m') (state_of v'' m'') first.kept second.kept;
  stay = record {
    named = λ n h. second.stay.named n (first.stay.named n h);
    place = λ n p h. second.stay.place n p (first.stay.place n p h);
    left = λ n h. omega (arith, second.stay.left n (first.stay.named n h), first.stay.left n h);
    height = λ n h. omega (arith, second.stay.height n (first.stay.named n h), first.stay.height n h);
  };
  owed = λ n p. omega (arith, second.owed n p, first.owed n p);
}
