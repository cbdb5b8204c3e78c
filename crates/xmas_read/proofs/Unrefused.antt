-- A tree without a refusal, fact by fact.
use Rattle.std.proofs.Common.{◌≡◌, ◌∙◌, ℕ, Bool, true, false, nat_lt, cond, ◌||◌, List, [], ◌∷◌, ◌++◌, Option, Some, None, refl, ap, sym, length}
use Rattle.std.specs.List.{list_any, AllByRecursion}
use Rattle.xmas_read.specs.declared.fault.Large.{Large}
use Rattle.xmas_read.specs.declared.fault.XmasFault.{XmasFault}
use Rattle.xmas_read.specs.declared.fault.XmasFault.TheVariants as fault
use Rattle.xmas_text.specs.declared.cond.CondText.{CondText}
use Rattle.xmas_read.specs.Tree.{Tree, bound_names, template_vars, order_vars, items_in}
use Rattle.xmas_read.specs.Refusals.{different_vars, is_nested, has_many, has_path, differing_in, unknown_sources, bound_again, unbound_vars, unbound_in, unbound, outer_keys, loose_items, first_place, too_large, first_of, size_refusals, scope_refusals, template_refusals, refusals}
use Rattle.xmas_read.proofs.Templates.{both_none}
use Rattle.xmas_read.proofs.NamePlaces.{neither}
use Rattle.xmas_read.proofs.Acceptance.{no_place, both_pass}
use Rattle.xmas_read.proofs.CleanItems.{none_both}

-- what holds of a tree without a refusal
pub record Unrefused (sources : List (List ℕ)) (t : Tree) : Type 0 where
  pub items : nat_lt 1000 (items_in t.template.contents) ≡ false
  pub vars : nat_lt 60 (different_vars t) ≡ false
  pub conds : nat_lt 100 (length t.conds) ≡ false
  pub nested : list_any (has_path is_nested) t.conds ≡ false
  pub many : list_any (has_path has_many) t.conds ≡ false
  pub tags : differing_in t.template ≡ []
  pub known : unknown_sources sources t.conds ≡ []
  pub again : bound_again [] t.conds ≡ []
  pub shown : unbound_vars (bound_names t.conds) (template_vars t.template) ≡ []
  pub used : unbound_in (bound_names t.conds) [] t.conds ≡ []
  pub sorted : unbound_vars (bound_names t.conds) (order_vars t.order) ≡ []
  pub outer : outer_keys t.template.group ≡ []
  pub loose : loose_items (bound_names t.conds) [] t.template.contents ≡ []

-- where a test for size and other refusals give none, the test fails, and the others give none
not_large : (b : Bool) (what : Large) (os : List (Option XmasFault)) → first_of (too_large b what ∷ os) ≡ None → (b ≡ false) × (first_of os ≡ None)
not_large true what os h = cc
not_large false what os h = (refl, h)

-- where a test for size fails and other refusals give none, they give none with the test before them
pass_size : (b : Bool) (what : Large) (os : List (Option XmasFault)) → b ≡ false → first_of os ≡ None → first_of (too_large b what ∷ os) ≡ None
pass_size true what os e h = cc
pass_size false what os e h = h

-- where there are no places for a refusal and there are no other refusals, there is none
pass_place : (f : ℕ → XmasFault) (places : List ℕ) (os : List (Option XmasFault)) → places ≡ [] → first_of os ≡ None → first_of (first_place f places ∷ os) ≡ None
pass_place f [] os e h = h
pass_place f (at ∷ places) os e h = cc

-- where there are no refusals in either of two lists, there is none in both together
pass_both : (xs ys : List (Option XmasFault)) → first_of xs ≡ None → first_of ys ≡ None → first_of (xs ++ ys) ≡ None
pass_both [] ys h k = k
pass_both (None ∷ xs) ys h k = pass_both xs ys h k
pass_both (Some e ∷ xs) ys h k = cc

-- where none passes, each fails
pub any_none : (p : CondText → Bool) (cs : List CondText) → list_any p cs ≡ false → AllByRecursion (λ c. p c ≡ false) cs
any_none p [] h = tt
any_none p (c ∷ cs) h = let q = neither (p c) (list_any p cs) h in (q.0, any_none p cs q.1)

-- a tree that has no refusal holds all facts that one without a refusal does
pub unrefused : (sources : List (List ℕ)) (t : Tree) → first_of (refusals sources t) ≡ None → Unrefused sources t
unrefused sources t h =
    let names = bound_names t.conds in
    let later = both_pass (size_refusals t) (scope_refusals sources t ++ template_refusals t) h in
    let parts = both_pass (scope_refusals sources t) (template_refusals t) later.1 in
    let items = not_large (nat_lt 1000 (items_in t.template.contents)) _ _ later.0 in
    let vars = not_large (nat_lt 60 (different_vars t)) _ _ items.1 in
    let conds = not_large (nat_lt 100 (length t.conds)) _ _ vars.1 in
    let nested = not_large (list_any (has_path is_nested) t.conds) _ _ conds.1 in
    let many = not_large (list_any (has_path has_many) t.conds) _ _ nested.1 in
    let tags = no_place (λ at. fault.TagDiffers at) (differing_in t.template) _ parts.0 in
    let unknown = no_place (λ at. fault.UnknownSource at) (unknown_sources sources t.conds) _ tags.1 in
    let again = no_place (λ at. fault.BoundTwice at) (bound_again [] t.conds) _ unknown.1 in
    let free = no_place (λ at. fault.Unbound at) (unbound t) _ again.1 in
    let outer = no_place (λ at. fault.OuterGroup at) (outer_keys t.template.group) _ parts.1 in
    let loose = no_place (λ at. fault.Loose at) (loose_items names [] t.template.contents) _ outer.1 in
    let uses = both_none (unbound_vars names (template_vars t.template) ++ unbound_in names [] t.conds) (unbound_vars names (order_vars t.order)) free.0 in
    let bodies = both_none (unbound_vars names (template_vars t.template)) (unbound_in names [] t.conds) uses.0 in
    record {
      items = items.0;
      vars = vars.0;
      conds = conds.0;
      nested = nested.0;
      many = many.0;
      tags = tags.0;
      known = unknown.0;
      again = again.0;
      shown = bodies.0;
      used = bodies.1;
      sorted = uses.1;
      outer = outer.0;
      loose = loose.0;
    }

-- a tree of which all facts of one without a refusal hold has no refusal
pub none_refused : (sources : List (List ℕ)) (t : Tree) → Unrefused sources t → first_of (refusals sources t) ≡ None
none_refused sources t u =
    let names = bound_names t.conds in
    let bodies = none_both (unbound_vars names (template_vars t.template)) (unbound_in names [] t.conds) u.shown u.used in
    let free = none_both (unbound_vars names (template_vars t.template) ++ unbound_in names [] t.conds) (unbound_vars names (order_vars t.order)) bodies u.sorted in
    pass_both (size_refusals t) (scope_refusals sources t ++ template_refusals t)
    (pass_size _ _ _ u.items (pass_size _ _ _ u.vars (pass_size _ _ _ u.conds (pass_size _ _ _ u.nested (pass_size _ _ _ u.many refl)))))
    (pass_both (scope_refusals sources t) (template_refusals t)
    (pass_place _ _ _ u.tags (pass_place _ _ _ u.known (pass_place _ _ _ u.again (pass_place _ _ _ free refl))))
    (pass_place _ _ _ u.outer (pass_place _ _ _ u.loose refl)))
