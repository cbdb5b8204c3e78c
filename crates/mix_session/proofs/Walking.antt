-- Calls of a walker, one after another.
use Rattle.std.proofs.Common.{◌≡◌, ◌∙◌, ◌+◌, ◌≤◌, ℕ, zero, suc, List, [], ◌∷◌, Option, Some, None, option_map, Result, Ok, Err, refl, ap, subst, arith}
use Rattle.std.specs.Prelude.{OnOk}
use Rattle.mix_tree.specs.Forest.{Forest, first_kids, after_first, from}
use Rattle.mix_tree.specs.Place.{trees_at, next_place}
use Rattle.mix_base.proofs.Risen.{risen_before}
use Rattle.lxp_core.specs.declared.fault.WalkFault.{WalkFault}
use Rattle.lxp_core.specs.declared.fault.WalkFault.TheVariants.{Failed, OutOfMemory}
use Rattle.mix_script.specs.declared.step.Way.{Way}
use Rattle.mix_session.specs.declared.walker.Found.{Found}
use Rattle.mix_session.specs.declared.walker.Found.TheVariants as found
use Rattle.mix_session.specs.Meaning.{Course, Meaning, GoesOn, Stays}
use Rattle.mix_session.specs.Seeking.{HasCause, UnlessFault}
use Rattle.mix_session.specs.Printing.{place_toll, FailsBy, IsPaidFor}

-- a course that goes on and goes on again goes on from the first to the last
pub goes_on_twice : {W : Type 0} {c d e : Course W} → GoesOn c d → GoesOn d e → GoesOn c e
goes_on_twice g h = record {
  roots = h.roots ∙ g.roots;
  may = λ s m. g.may s (h.may s m);
  document = λ t one. h.document t (g.document t one);
  tolls = λ tolls. h.tolls (g.tolls tolls);
  trail = h.trail ∙ g.trail;
  at = h.at ∙ g.at;
  root_toll = omega (arith, h.root_toll, g.root_toll);
  toll = λ way x. omega (arith, h.toll way x, g.toll way x);
  tells = λ k. h.tells (g.tells k);
  follows = λ k. h.follows (g.follows k);
  names = λ node p k. g.names node p (h.names node p k);
  named = λ node p k. h.named node p (g.named node p k);
  reach = λ node. omega (arith, h.reach node, g.reach node);
  charge = λ p. omega (arith, h.charge p, g.charge p);
}

-- what stays over each of two calls stays over both
pub stays_twice : {V W : Type 0} {m m' m'' : Meaning V W} → Stays m m' → Stays m' m'' → Stays m m''
stays_twice g h = record {
  ready = h.ready;
  course = goes_on_twice g.course h.course;
  node = λ n k. h.node n (g.node n k);
  place = λ n p k. h.place n p (g.place n p k);
  told = λ n x k. h.told n x (g.told n x k);
  walked = λ n k. h.walked n (g.walked n k);
  owes = λ n p k. omega (arith, h.owes n p (g.place n p k), g.owes n p k);
  left = λ n k. omega (arith, h.left n (g.node n k), g.left n k);
  height = λ n k. omega (arith, h.height n (g.node n k), g.height n k);
}

-- no toll of a place rose on a course that goes on
pub place_toll_less : {W : Type 0} (c d : Course W) → GoesOn c d → (way : Way) (p : List ℕ) → place_toll d way p ≤ place_toll c way p
place_toll_less c d g way p =
    let same = ap (λ at. d.toll way (at p)) g.at in let less = g.toll way (c.at p) in omega (arith, same, less)

-- where a fault has a cause since a later call, it has it since an earlier one
pub cause_before : {V W : Type 0} (c d : Course W) → GoesOn c d → (before mid after : ℕ → ℕ) → ((s : ℕ) → before s ≤ mid s) → (r : Found V) → HasCause d.MayFail mid after r → HasCause c.MayFail before after r
cause_before c d g before mid after rises (found.Node n) h = tt
cause_before c d g before mid after rises found.None h = tt
cause_before c d g before mid after rises (found.Fault s) h = (g.may s h.0, risen_before (before s) (mid s) (after s) (rises s) h.1)

-- the trees at the next place are those after the first
pub trees_at-next : (f : Forest) (p q : List ℕ) → next_place p ≡ Some q → trees_at f q ≡ after_first (trees_at f p)
trees_at-next f [] q e = cc
trees_at-next f (i ∷ []) q e = let is : (i + 1) ∷ [] ≡ q = some_is ((i + 1) ∷ []) q e in subst (λ r. trees_at f r ≡ after_first (trees_at f (i ∷ []))) is (one_more i (first_kids f))
  where
    some_is : (x y : List ℕ) → Some x ≡ Some y → x ≡ y
    some_is x y h = cc

    one_more : (k : ℕ) (g : Forest) → from (k + 1) g ≡ after_first (from k g)
    one_more zero g = refl
    one_more (suc k) g = let e : suc k + 1 ≡ suc (k + 1) = omega arith in ap (λ n. from n g) e ∙ one_more k (after_first g)
trees_at-next f (i ∷ j ∷ p) q e = deeper (next_place (j ∷ p)) (λ r z. trees_at-next (from i (first_kids f)) (j ∷ p) r z) refl e
  where
    deeper : (o : Option (List ℕ)) → ((r : List ℕ) → next_place (j ∷ p) ≡ Some r → trees_at (from i (first_kids f)) r ≡ after_first (trees_at f (i ∷ j ∷ p)))
        → next_place (j ∷ p) ≡ o → option_map (λ r. i ∷ r) o ≡ Some q → trees_at f q ≡ after_first (trees_at f (i ∷ j ∷ p))
    deeper None more h k = cc
    deeper (Some r) more h k = let is : i ∷ r ≡ q = cc in subst (λ x. trees_at f x ≡ after_first (trees_at f (i ∷ j ∷ p))) is (more r h)

-- a course goes on where there is no call
pub goes_on_same : {W : Type 0} (c : Course W) → GoesOn c c
goes_on_same c = record {
  roots = refl;
  may = λ s h. h;
  document = λ t h. h;
  tolls = λ h. h;
  trail = refl;
  at = refl;
  root_toll = omega arith;
  toll = λ way x. omega arith;
  tells = λ h. h;
  follows = λ h. h;
  names = λ node p h. h;
  named = λ node p h. h;
  reach = λ node. omega arith;
  charge = λ p. omega arith;
}

-- where there is no call, all that a walker means stays
pub stays_same : {V W : Type 0} (m : Meaning V W) → m.IsReady → Stays m m
stays_same m ready = record {
  ready = ready;
  course = goes_on_same m.course;
  node = λ n h. h;
  place = λ n p h. h;
  told = λ n x h. h;
  walked = λ n h. h;
  owes = λ n p h. omega arith;
  left = λ n h. omega arith;
  height = λ n h. omega arith;
}

-- where a refusal has a cause since a later call, it has it since an earlier one
pub fails_before : {V W X : Type 0} {m m' : Meaning V W} → Stays m m' → (before mid after : ℕ → ℕ) → ((s : ℕ) → before s ≤ mid s) → (r : Result X WalkFault) → FailsBy m'.course.MayFail mid after r → FailsBy m.course.MayFail before after r
fails_before stays before mid after rises (Ok x) h = tt
fails_before stays before mid after rises (Err (Failed s)) h = (stays.course.may s h.0, risen_before (before s) (mid s) (after s) (rises s) h.1)
fails_before stays before mid after rises (Err OutOfMemory) h = tt

-- for what nothing was owed after a call, nothing is owed after a later one
pub still_paid : {V W : Type 0} {m m' m'' : Meaning V W} → Stays m m' → Stays m' m'' → (n : V) → IsPaidFor m m' n → IsPaidFor m m'' n
still_paid stays later n paid tolls p at = let free = paid tolls p at in let less = later.owes n p (stays.place n p at) in omega (arith, free, less)

-- what is so is so where no source failed
pub unless_fault : {V : Type 0} (Holds : Type 0) (r : Found V) → Holds → UnlessFault Holds r
unless_fault Holds (found.Node n) h = h
unless_fault Holds found.None h = h
unless_fault Holds (found.Fault s) h = tt

-- what is so is so where a call was answered
pub on_ok : {X E : Type 0} (r : Result X E) (Holds : Type 0) → Holds → OnOk r Holds
on_ok (Ok x) Holds h = h
on_ok (Err e) Holds h = tt
