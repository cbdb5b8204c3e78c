-- What is noted of a sorted list that the code made.
use mathlib.Core.Former.{Count}
use Rattle.std.proofs.Common.{◌≡◌, ◌⊎◌, inl, inr, ℕ, zero, suc, List, refl, ◌∙◌, sym, ap}
use Rattle.std.specs.declared.alloc.Global.{Global}
use Rattle.std.specs.declared.rc.Rc.{Rc}
use Rattle.std.specs.declared.vec.Vec.{Vec}
use Rattle.plan_core.specs.declared.plan.Op.{Op}
use Rattle.plan_core.specs.declared.plan.Op.TheVariants as op
use Rattle.plan_core.specs.PlanMade.{op_of}
use Rattle.plan_core.specs.Plans.{Operator}
use Rattle.plan_core.specs.Shapes.{Shape, one_source, visits_below, pairs_up, Stage, passes_on, no_events, shape_of, shape_at}
use Rattle.lazy_binding.specs.declared.position.Position.{Position, Start, Sorted', Row_of-Position-Sorted-0-1 as Row, end_of-Position-Sorted-0-1 as no_more, more_of-Position-Sorted-0-1 as one_more}
use Rattle.lazy_binding.specs.declared.position.Position.TheVariants.{Sorted}
use Rattle.lazy_binding.specs.Reading.{nth, below}
use Rattle.lazy_evidence.specs.Noted.{Spots, noted, noted_nth}

-- the sorted list of a position
abbrev list_of : Position → (m : Count) × Row m
list_of (Sorted' q m row k) = (_, row)
list_of c = (_, no_more)

-- nothing is noted of the position before all events
pub noted_start : (ops : List Operator) (n : ℕ) (f : Shape) (spots : Spots) → noted ops n f Start spots ≡ spots
noted_start ops n (one_source s out) spots = refl
noted_start ops n (visits_below i start path out) spots = refl
noted_start ops n (pairs_up l r tests) spots = refl
noted_start ops n (passes_on i stage) spots = refl
noted_start ops n (no_events i made) spots = refl

-- what is noted at an index of a sorted list is what is noted of the position there
noted_there : (ops : List Operator) (i : ℕ) {m : _} (row : Row m) (k : ℕ) (spots : Spots) → noted_nth ops i row k spots ≡ noted ops i (shape_at ops i) (nth row k) spots
noted_there ops i no_more k spots = sym (noted_start ops i (shape_at ops i) spots)
noted_there ops i (one_more q c rest) zero spots = refl
noted_there ops i (one_more q c rest) (suc k) spots = noted_there ops i rest k spots

module _ (list : Rc (Vec (Rc Position Global) Global) Global) (k : ℕ) (here : Position) (is : here ≡ Sorted list k) where
  -- what is noted of a position in a sorted list is what is noted of the position under it
  pub list_noted : (ops : List Operator) (n i : ℕ) (stage : Stage) → shape_at ops n ≡ passes_on i stage → (spots : Spots) → noted ops n (shape_at ops n) here spots ≡ noted ops i (shape_at ops i) (below here) spots
  list_noted ops n i stage e spots =
      ap (λ (f : Shape). noted ops n f here spots) e ∙ ap (λ (c : Position). noted ops n (passes_on i stage) c spots) is
      ∙ made ∙ ap (λ (c : Position). noted ops i (shape_at ops i) (below c) spots) (sym is)
    where
      made : noted ops n (passes_on i stage) (Sorted list k) spots ≡ noted ops i (shape_at ops i) (below (Sorted list k)) spots
      made = (let l = list_of (Sorted list k) in noted_there ops i l.1 k spots)

-- an operator with one input passes its bindings through a stage
pub one_input : (o : Op) (i : ℕ) → ((x : _) × (o ≡ op.Select i x)) ⊎ ((x : _) × (y : ℕ) × (o ≡ op.Concatenate i x y)) ⊎ ((x : _) × (y : ℕ) × (z : ℕ) × (o ≡ op.CreateElement i x y z)) ⊎ ((x : _) × (o ≡ op.Project i x))
    ⊎ ((x : _) × (y : _) × (z : ℕ) × (o ≡ op.GroupBy i x y z)) ⊎ ((x : ℕ) × (y : _) × (o ≡ op.OrderBy i x y)) → (stage : Stage) × (shape_of (op_of o) ≡ passes_on i stage)
one_input o i (inl h) = (_, ap (λ z. shape_of (op_of z)) h.1)
one_input o i (inr (inl h)) = (_, ap (λ z. shape_of (op_of z)) h.2)
one_input o i (inr (inr (inl h))) = (_, ap (λ z. shape_of (op_of z)) h.3)
one_input o i (inr (inr (inr (inl h)))) = (_, ap (λ z. shape_of (op_of z)) h.1)
one_input o i (inr (inr (inr (inr (inl h))))) = (_, ap (λ z. shape_of (op_of z)) h.3)
one_input o i (inr (inr (inr (inr (inr h))))) = (_, ap (λ z. shape_of (op_of z)) h.2)
