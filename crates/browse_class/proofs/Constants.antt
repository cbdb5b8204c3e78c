-- Every toll of a plan's document is at most the plan's constant.
use Rattle.std.proofs.Common.{◌≡◌, ℕ, zero, suc, ◌<◌, List, [], ◌∷◌, refl, sym, ap, subst, ◌∙◌, arith, length}
use Rattle.std.specs.Prelude.{Option, Some, None}
use Rattle.std.specs.List.{AllByRecursion, last_or}
use Rattle.mix_base.specs.Events.{skip, bind, Find, nothing, finds, found}
use Rattle.mix_tree.specs.Nodes.{Documents}
use Rattle.plan_core.specs.Beside.{EachBinding}
use Rattle.plan_core.specs.ByNumber.{op_at}
use Rattle.plan_core.specs.Events.{RowEvents, events, first_row, element_alone, tolled_destroyed, tolled_document}
use Rattle.plan_core.specs.Plans.{Operator, source, get_descendants, join, over, tuple_destroy, PlanValue}
use Rattle.plan_core.specs.Shapes.{Made, a_list_of, an_element_of, Stage, filters, extends, first_by_keys, one_group, in_order, Shape, one_source, visits_below, pairs_up, passes_on, no_events, shape_of, shape_at}
use Rattle.plan_core.specs.Tolled.{Tolled, ends as the_end, item, toll, trees_below, trees_after, trees_from, tolled_at}
use Rattle.plan_core.specs.TolledRows.{TolledValue, of_source, element, trees, TolledRow, tolled_value}
use Rattle.plan_core.specs.Typed.{IsTyped}
use Rattle.plan_core.specs.Valid.{Kind, a_node, an_element, a_list, Kinds, kinds, IsValid}
use Rattle.browse_profile.specs.declared.profile.Profile.{Profile}
use Rattle.browse_profile.specs.Bounds.{Within, larger}
use Rattle.browse_profile.specs.Profiles.{greatest}
use Rattle.browse_visit.specs.Layouts.{Layout, AreLaid}
use Rattle.browse_class.specs.Bound.{IsValue, IsBound}
use Rattle.browse_class.specs.Cheap.{IsCheap, AtMost, IsWithin}
use Rattle.browse_class.specs.Classes.{made_bound, stage_bound, shape_bound, op_bound, all_bounds, constant, AllTollsWithin}
use Rattle.browse_class.specs.Facts.{Facts, facts}
use Rattle.browse_class.proofs.Sound.{IsShapeWithin, events_as_known}
use Rattle.browse_class.proofs.StageSteps.{IsMadeWithin, IsStageWithin}
use Rattle.browse_class.proofs.Tolls.{value_of, within_zero}

-- a bound that is at least the greater of two is at least the first
larger_left : (x y n : Option ℕ) → AtMost (larger x y) n → AtMost x n
larger_left x y None h = tt
larger_left None y (Some n) h = h
larger_left (Some a) None (Some n) h = absurd h
larger_left (Some a) (Some b) (Some n) h = omega (arith, h)

-- a bound that is at least the greater of two is at least the second
larger_right : (x y n : Option ℕ) → AtMost (larger x y) n → AtMost y n
larger_right x y None h = tt
larger_right None y (Some n) h = absurd h
larger_right (Some a) None (Some n) h = h
larger_right (Some a) (Some b) (Some n) h = omega (arith, h)

-- the four bounds of a profile are within what bounds the greatest of them
greatest_within : (p : Profile) (n : Option ℕ) → AtMost (greatest p) n → IsWithin n p
greatest_within p n h =
    let front = larger_left (larger p.lead p.between) (larger p.trail p.none) n h in
    let back = larger_right (larger p.lead p.between) (larger p.trail p.none) n h in
    record {
      lead = larger_left p.lead p.between n front;
      between = larger_right p.lead p.between n front;
      trail = larger_left p.trail p.none n back;
      none = larger_right p.trail p.none n back;
    }

-- the list of a new element stays within what bounds its greatest number
made_within : (made : Made) (f : Facts) (n : Option ℕ) → AtMost (made_bound made f) n → IsMadeWithin n made f
made_within (a_list_of pieces) f n h = tt
made_within (an_element_of label list) f n h = greatest_within (f.lists list) n h

-- the list of a new element that a stage makes stays within what bounds its greatest number
stage_within : (stage : Stage) (f : Facts) (n : Option ℕ) → AtMost (stage_bound stage f) n → IsStageWithin n stage f
stage_within (filters test) f n h = tt
stage_within (extends out made) f n h = made_within made f n h
stage_within (first_by_keys keys group) f n h = tt
stage_within (one_group piece out) f n h = tt
stage_within (in_order v desc) f n h = tt

-- the list of a new element that a shape makes stays within what bounds its greatest number
shape_within : (shape : Shape) (of : ℕ → Facts) (n : Option ℕ) → AtMost (shape_bound shape of) n → IsShapeWithin n shape of
shape_within (one_source s out) of n h = tt
shape_within (visits_below input start path out) of n h = tt
shape_within (pairs_up left right tests) of n h = tt
shape_within (passes_on input stage) of n h = stage_within stage (of input) n h
shape_within (no_events input made) of n h = tt

-- the new element's list of each operator stays within what bounds all operators
pub all_within : (ops : List Operator) (of : ℕ → Facts) (n : Option ℕ) → AtMost (all_bounds ops of) n → (i : ℕ) → i < length ops → IsShapeWithin n (shape_at ops i) of
all_within [] of n h i b = absurd (omega (arith, b))
all_within (op ∷ ops) of n h zero b = shape_within (shape_of op) of n (larger_left (op_bound op of) (all_bounds ops of) n h)
all_within (op ∷ ops) of n h (suc i) b = all_within ops of n (larger_right (op_bound op of) (all_bounds ops of) n h) i (omega (arith, b))

-- 1 is within a bound that is at least 1
least : (n : Option ℕ) → AtMost (Some 1) n → Within 1 n
least None h = tt
least (Some n) h = h

-- what bounds all operators is at least 1
pub one_within : (ops : List Operator) (of : ℕ → Facts) (n : Option ℕ) → AtMost (all_bounds ops of) n → Within 1 n
one_within [] of n h = least n h
one_within (op ∷ ops) of n h = one_within ops of n (larger_right (op_bound op of) (all_bounds ops of) n h)

-- the trees after the first of a cheap list are cheap
cheap_after : (most : Option ℕ) (f : Tolled) → IsCheap most f → IsCheap most (trees_after f)
cheap_after most (the_end t) h = within_zero most
cheap_after most (item t label kids rest) h = h.2

-- the trees below the first of a cheap list are cheap
cheap_below : (most : Option ℕ) (f : Tolled) → IsCheap most f → IsCheap most (trees_below f)
cheap_below most (the_end t) h = within_zero most
cheap_below most (item t label kids rest) h = h.1

-- the trees from an index on of a cheap list are cheap
cheap_from : (most : Option ℕ) (k : ℕ) (f : Tolled) → IsCheap most f → IsCheap most (trees_from k f)
cheap_from most zero f h = h
cheap_from most (suc k) f h = cheap_from most k (trees_after f) (cheap_after most f h)

-- the trees at a place of a cheap list are cheap
cheap_at : (most : Option ℕ) (f : Tolled) (place : List ℕ) → IsCheap most f → IsCheap most (tolled_at f place)
cheap_at most f [] h = h
cheap_at most f (k ∷ place) h = cheap_at most (trees_from k (trees_below f)) place (cheap_from most k (trees_below f) (cheap_below most f h))

-- the toll of the first of a cheap list is within the bound
cheap_toll : (most : Option ℕ) (f : Tolled) → IsCheap most f → Within (toll f) most
cheap_toll most (the_end t) h = h
cheap_toll most (item t label kids rest) h = h.0

-- the first binding is as each is
first_bound : (P : TolledRow → Type 0) (es : RowEvents) (row : TolledRow) (rest : RowEvents) → EachBinding P es → found es ≡ finds row rest → P row
first_bound P [] row rest b e = cc
first_bound P (skip ∷ es) row rest b e = first_bound P es row rest b e
first_bound P (bind a ∷ es) row rest b e = (let s : a ≡ row = cc in subst P s b.0)

-- the last of some operators is one of them
last_at : (ops : List Operator) (first last : Operator) → last_or (Some first) ops ≡ Some last → (n : ℕ) × (n < suc (length ops)) × (op_at (first ∷ ops) n ≡ last)
last_at [] first last e = (0, omega arith, (let s : first ≡ last = cc in s))
last_at (op ∷ ops) first last e = (let r = last_at ops op last e in (suc r.0, omega (arith, r.1), r.2))

module _ (docs : Documents) (most : Option ℕ) where
  -- a made element, as a list of it alone, is cheap
  alone_cheap : (gs : List Layout) (p : Profile) (x : TolledValue) → IsValue docs most an_element gs p x → IsCheap most (element_alone x)
  alone_cheap gs p (of_source n) h = absurd h
  alone_cheap gs p (element label kids) h = (within_zero most, h, within_zero most)
  alone_cheap gs p (trees f) h = absurd h

  -- the element in the first binding that is found is cheap, where each binding's is
  found_cheap : (ks : Kinds) (f : Facts) (es : RowEvents) (made : ℕ) → ks made ≡ Some an_element → EachBinding (IsBound docs most ks f) es → (r : Find TolledRow) → found es ≡ r → IsCheap most (element_alone (tolled_value (first_row r) made))
  found_cheap ks f es made e b nothing h = within_zero most
  found_cheap ks f es made e b (finds row rest) h =
      alone_cheap (f.layouts made) (f.lists made) (tolled_value row made) (value_of docs most ks f row (first_bound (IsBound docs most ks f) es row rest b h) made an_element e)

module _ (shapes : ℕ → Layout) (docs : Documents) (laid : AreLaid shapes docs) (most : Option ℕ) (p : PlanValue) (valid : IsValid p) (typed : IsTyped p.ops) (bounded : AtMost (constant shapes p.ops) most) where
  -- the document that the last operator makes is cheap
  last_cheap : (last : Option Operator) → last_or None p.ops ≡ last → IsCheap most (tolled_destroyed (events docs p.ops) last)
  last_cheap None e = within_zero most
  last_cheap (Some (source s out)) e = within_zero most
  last_cheap (Some (get_descendants input start path out)) e = within_zero most
  last_cheap (Some (join left right tests)) e = within_zero most
  last_cheap (Some (over input op)) e = within_zero most
  last_cheap (Some (tuple_destroy input made)) e = at_last p.ops refl e
    where
      at_last : (all : List Operator) → all ≡ p.ops → last_or None all ≡ Some (tuple_destroy input made) → IsCheap most (element_alone (tolled_value (first_row (found (events docs p.ops input))) made))
      at_last [] same e = cc
      at_last (op ∷ rest) same e =
          let l = last_at rest op (tuple_destroy input made) e in
          let n : ℕ = l.0 in
          let b : l.0 < length p.ops = subst (λ (z : List Operator). l.0 < length z) same l.1 in
          let is : op_at p.ops l.0 ≡ tuple_destroy input made = ap (λ (z : List Operator). op_at z l.0) (sym same) ∙ l.2 in
          let fit = subst (λ (o : Operator). Rattle.plan_core.specs.Valid.IsFit o (kinds p.ops)) is (typed.fit l.0 b) in
          let smaller = subst (λ (o : Operator). AllByRecursion (λ i. i < n) (Rattle.plan_core.specs.Valid.inputs_of o)) is (typed.inputs l.0 b) in
          let c : input < length p.ops = omega (arith, smaller.0, b) in
          let known =
          events_as_known shapes docs laid most (one_within p.ops (facts shapes p.ops) most bounded) p valid typed (λ i h. all_within p.ops (facts shapes p.ops) most bounded i h) input c in
          found_cheap docs most (kinds p.ops input) (facts shapes p.ops input) (events docs p.ops input) made fit known.bound (found (events docs p.ops input)) refl

  -- every toll of the plan's document is within the bound
  pub document_cheap : IsCheap most (tolled_document docs p.ops)
  document_cheap = last_cheap (last_or None p.ops) refl

module _ (shapes : ℕ → Layout) (docs : Documents) (laid : AreLaid shapes docs) (most : ℕ) (p : PlanValue) (valid : IsValid p) (typed : IsTyped p.ops) (bounded : AtMost (constant shapes p.ops) (Some most)) where
  -- each toll is at most the constant
  pub tolls_within : AllTollsWithin most docs p.ops
  tolls_within place =
      let cheap = document_cheap shapes docs laid (Some most) p valid typed bounded in (
        cheap_toll (Some most) (trees_below (tolled_at (tolled_document docs p.ops) place)) (cheap_below (Some most) (tolled_at (tolled_document docs p.ops) place) (cheap_at (Some most) (tolled_document docs p.ops) place cheap)),
        cheap_toll (Some most) (trees_after (tolled_at (tolled_document docs p.ops) place)) (cheap_after (Some most) (tolled_at (tolled_document docs p.ops) place) (cheap_at (Some most) (tolled_document docs p.ops) place cheap)),
      )
