-- Several turns, one after another, and what they cost.
use Rattle.std.proofs.Common.{◌≡◌, ◌<◌, ◌≤◌, ◌+◌, ℕ, suc, false, ◌∙◌, sym, ap, arith}
use Rattle.std.specs.Prelude.{IsTrue}
use Rattle.lazy_descend.specs.Searches.{TellsOn}
use Rattle.lazy_descend.proofs.Searches.{still_told, still_forward}
use Rattle.lxp_core.specs.View.{View}
use Rattle.plan_core.specs.Tolled.{Tolled, toll, is_item, paid, dearer}
use Rattle.lazy_plan.specs.declared.bench.Bench.{Bench}
use Rattle.lazy_plan.specs.Bench.{BenchState, state_of, IsBenchOf, told_by, told, forward, fills_of, KeepsBench, AsksAtMost, BenchRan}
use Rattle.lazy_plan.proofs.Benches.{keeps_on}
use Rattle.lazy_site.specs.Ids.{IsRest, rest_trees, weight}
use Rattle.lazy_site.specs.Steps.{Walked, StandsFor, GoesOn}
use Rattle.lazy_site.specs.declared.sites.Site.{Site}
use Rattle.lazy_site.specs.declared.sites.Rest.{Rest}
use Rattle.lazy_site.proofs.Laws.{dearer_zero, dearer_twice, toll_dearer, is_item_dearer, paid_dearer}
use Rattle.lazy_site.proofs.Keep.{IsRest-kept, rest_trees-kept, weight-kept}

-- sources tell on over calls
pub tells_on : {a b : BenchState} → KeepsBench a b → TellsOn (told_by a) (told_by b)
tells_on k = record { told = k.told; forward = k.forward }

-- of trees the later ones are left, after a toll that was paid
pub record Paid (a b : BenchState) (f g : Tolled) : Type 0 where
  pub kept : KeepsBench a b
  pub trees : IsTrue (told a) → (t : ℕ) × (f ≡ dearer t g) × (IsTrue (forward a) → fills_of b ≤ fills_of a + t)

-- before any turn all trees are left, and no toll was paid
pub paid_start : (a : BenchState) (f : Tolled) → Paid a a f f
paid_start a f = record { kept = keeps_on.same a; trees = λ y. (0, sym (dearer_zero f), λ w. omega arith) }

module _ {a b c : BenchState} {f g : Tolled} (p : Paid a b f g) where
  -- what is asked for the toll of the later trees is within that of all
  pub paid_asks : KeepsBench b c → AsksAtMost b c (toll g) → AsksAtMost a c (toll f)
  paid_asks k h y w =
      let q = p.trees y in
      let e = ap toll q.1 in let d = toll_dearer q.0 g in let i = q.2 w in let j = h (still_told (tells_on p.kept) y) (still_forward (tells_on p.kept) w) in
      omega (arith, e, d, i, j)

  -- an identifier that stands for the first of the later trees stands for the first of all
  pub paid_at : (n : Site) → StandsFor b c g n → StandsFor a c f n
  paid_at n h = record {
    node = h.node;
    here = λ y. (let q = p.trees y in h.here (still_told (tells_on p.kept) y) ∙ sym (ap paid q.1 ∙ paid_dearer q.0 g));
    tree = λ y. (let q = p.trees y in ap is_item q.1 ∙ is_item_dearer q.0 g ∙ h.tree (still_told (tells_on p.kept) y));
  }

  -- a rest that goes on for the later trees is left of all, and what coming to it cost was paid
  pub paid_on : KeepsBench b c → (w : ℕ) (r : Rest) → GoesOn b c g w r → Paid a c f (rest_trees c r)
  paid_on k w r h = record {
    kept = keeps_on.twice a b c p.kept k;
    trees = λ y. (let q = p.trees y in let z = h.trees (still_told (tells_on p.kept) y) in (
      q.0 + z.0,
      q.1 ∙ ap (dearer q.0) z.1 ∙ dearer_twice q.0 z.0 (rest_trees c r),
      λ v. (let i = q.2 v in let j = z.2 (still_forward (tells_on p.kept) v) in omega (arith, i, j)),
    ));
  }

module _ {a b : BenchState} {f g : Tolled} (p : Paid a b f g) where
  -- where there is no later tree, there is none of all
  pub paid_over : (IsTrue (told b) → is_item g ≡ false) → IsTrue (told a) → is_item f ≡ false
  paid_over h y = let q = p.trees y in ap is_item q.1 ∙ is_item_dearer q.0 g ∙ h (still_told (tells_on p.kept) y)

-- where no call was made, nothing was asked and the bench is as it was
pub walked_same : {S : Type 0} {view : S → View} {came_from : S → S → Type 0} → ((s : S) → came_from s s) → (s : S) (b : Bench) → IsBenchOf (view s) b → (most : ℕ) → Walked view came_from s b s b most
walked_same {S} {view} same s b h most = record { came = same s; bench = h; kept = keeps_on.same (state_of (view s) b); asks = λ y w. omega arith }

-- a call of a bench that asks at most so many fills leaves what a walk of so many leaves
pub walked_ran : {S : Type 0} {view : S → View} {came_from : S → S → Type 0} {s t : S} {b c : Bench} → BenchRan view came_from s b t c → (most : ℕ) → AsksAtMost (state_of (view s) b) (state_of (view t) c) most
    → Walked view came_from s b t c most
walked_ran ran most asks = record { came = ran.came; bench = ran.bench; kept = ran.kept; asks = asks }

-- what two calls leave, where the first left later trees
pub walked_then : {S : Type 0} {view : S → View} {came_from : S → S → Type 0} → ((x y z : S) → came_from x y → came_from y z → came_from x z) → {s t u : S} {b c d : Bench} {f g : Tolled}
    → came_from s t → Paid (state_of (view s) b) (state_of (view t) c) f g → Walked view came_from t c u d (toll g) → Walked view came_from s b u d (toll f)
walked_then {S} {view} after {s} {t} {u} {b} {c} {d} came paid walked = record {
  came = after s t u came walked.came;
  bench = walked.bench;
  kept = keeps_on.twice (state_of (view s) b) (state_of (view t) c) (state_of (view u) d) paid.kept walked.kept;
  asks = paid_asks paid walked.kept walked.asks;
}

-- a walk goes on with a rest of the same trees
pub on_same : (s : BenchState) (f : Tolled) (w : ℕ) (r : Rest) → IsRest s r → weight s r < w → f ≡ rest_trees s r → GoesOn s s f w r
on_same s f w r h l e = record { rest = h; falls = l; trees = λ y. (0, e ∙ sym (dearer_zero (rest_trees s r)), λ v. omega arith) }

-- where a list is at its end after a toll, what is after it goes on for its trees
pub on_end : (a b : BenchState) (k : KeepsBench a b) (m : ℕ) → AsksAtMost a b m → (f : Tolled) (r : Rest) → IsRest a r → (IsTrue (told a) → f ≡ dearer m (rest_trees a r)) → GoesOn a b f (suc (weight a r)) r
on_end a b k m asks f r h e = record {
  rest = IsRest-kept a b k r h;
  falls = (let z = weight-kept a b k r h in omega (arith, z));
  trees = λ y. (m, e y ∙ ap (dearer m) (sym (rest_trees-kept a b k r h)), λ v. asks y v);
}

-- a node that stands for the first of trees stands for it before a toll too
pub at_after : (a b : BenchState) → KeepsBench a b → (m : ℕ) (f g : Tolled) → (IsTrue (told a) → f ≡ dearer m g) → (n : Site) → StandsFor b b g n → StandsFor a b f n
at_after a b k m f g e n h = record {
  node = h.node;
  here = λ y. h.here (still_told (tells_on k) y) ∙ sym (ap paid (e y) ∙ paid_dearer m g);
  tree = λ y. ap is_item (e y) ∙ is_item_dearer m g ∙ h.tree (still_told (tells_on k) y);
}
