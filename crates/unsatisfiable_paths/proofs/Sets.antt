-- Which sets of sorts have none, and lists that have none.
use Rattle.std.proofs.Common.{◌≡◌, inl, inr, true, false, List, [], ◌∷◌, ◌++◌, refl, ap, ◌∙◌}
use Rattle.std.specs.Prelude.{Bool, not, ◌||◌}
use Rattle.std.specs.List.{flat_map, list_any}
use Rattle.mix_base.specs.Ascents.{Among}
use Rattle.browse_visit.specs.declared.shape.Shape.{Shape}
use Rattle.browse_visit.specs.declared.shape.Sort.{Sort}
use Rattle.browse_visit.specs.declared.shape.Sort.TheVariants.{Document, Root, Row, Value, MaybeValue, Leaf, Anything}
use Rattle.browse_visit.specs.declared.shape.Sorts.{Sorts}
use Rattle.browse_visit.specs.Layouts.{Layout}
use Rattle.browse_visit.specs.Shapes.{sort_layout, has_sort, all_sorts}
use Rattle.browse_visit.specs.SortSet.{IsSet}
use Rattle.unsatisfiable_paths.specs.Unsatisfiable.{has_any, no_layouts}

-- where a member of a list passes a test, one does
member_any : {X : Type 0} (p : X → Bool) (xs : List X) (x : X) → Among x xs → p x ≡ true → list_any p xs ≡ true
member_any p [] x m h = absurd m
member_any p (y ∷ ys) x (inl e) h = let t : p y ≡ true = rw (← e) h in rw t refl
member_any p (y ∷ ys) x (inr m) h = let r = member_any p ys x m h in elim (p y) as (λ w. (w || list_any p ys) ≡ true) [ true ↦ refl | false ↦ r ]

-- where one of a list passes a test, that is a member
any_member : {X : Type 0} (p : X → Bool) (xs : List X) → list_any p xs ≡ true → (x : X) × Among x xs × (p x ≡ true)
any_member p [] h = cc
any_member {X} p (y ∷ ys) h =
    elim (p y) as (λ w. p y ≡ w → (w || list_any p ys) ≡ true → (x : X) × Among x (y ∷ ys) × (p x ≡ true)) [
      | true ↦ λ t g. (y, inl refl, t)
      | false ↦ λ t g. (let r = any_member p ys g in (r.0, inr r.1, r.2))
    ] refl h

-- each sort is among all
all_among : (s : Sort) → Among s all_sorts
all_among Document = inl refl
all_among Root = inr (inl refl)
all_among Row = inr (inr (inl refl))
all_among Value = inr (inr (inr (inl refl)))
all_among MaybeValue = inr (inr (inr (inr (inl refl))))
all_among Leaf = inr (inr (inr (inr (inr (inl refl)))))
all_among Anything = inr (inr (inr (inr (inr (inr (inl refl))))))

-- a set of no layouts has no sort
no_layout : (shape : Shape) (k : Sorts) → IsSet shape k [] → has_any k ≡ true → ⊥
no_layout shape k set h = let s = any_member (has_sort k) all_sorts h in set.out (sort_layout shape s.0) (s.0, s.2, refl)

-- a set has no layouts where it has no sort
pub none_same : (shape : Shape) (k : Sorts) (gs : List Layout) → IsSet shape k gs → no_layouts gs ≡ not (has_any k)
none_same shape k [] set =
    elim (has_any k) as (λ w. has_any k ≡ w → true ≡ not w) [ true ↦ λ t. absurd (no_layout shape k set t) | false ↦ λ t. refl ] refl
none_same shape k (g ∷ gs) set =
    let s = set.into g (inl refl) in
    let t : has_any k ≡ true = member_any (has_sort k) all_sorts s.0 (all_among s.0) s.1 in
    rw t refl

-- where there are no layouts, their list is empty
pub is_nil : (gs : List Layout) → no_layouts gs ≡ true → gs ≡ []
is_nil [] h = refl
is_nil (g ∷ gs) h = cc

-- of two lists that have no members together, the first has none
left_nil : {X : Type 0} (xs ys : List X) → (xs ++ ys) ≡ [] → xs ≡ []
left_nil [] ys h = refl
left_nil (x ∷ xs) ys h = cc

-- nor has the second
right_nil : {X : Type 0} (xs ys : List X) → (xs ++ ys) ≡ [] → ys ≡ []
right_nil [] ys h = h
right_nil (x ∷ xs) ys h = cc

-- where the members of a list give nothing together, none gives anything by itself
pub gives_none : {X Y : Type 0} (f : X → List Y) (xs : List X) (x : X) → flat_map f xs ≡ [] → Among x xs → f x ≡ []
gives_none f [] x h m = absurd m
gives_none f (y ∷ ys) x h (inl e) = ap f e ∙ left_nil (f y) (flat_map f ys) h
gives_none f (y ∷ ys) x h (inr m) = gives_none f ys x (right_nil (f y) (flat_map f ys) h) m
