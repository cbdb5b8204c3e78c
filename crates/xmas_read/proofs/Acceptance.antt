-- A rule that comes of a text is accepted.
use Rattle.std.proofs.Common.{◌≡◌, ◌∙◌, ◌+◌, ◌<◌, ◌≤◌, ℕ, Bool, true, false, cond, List, [], ◌∷◌, ◌++◌, Option, Some, None, Result, Ok, Err, refl, ap, sym, subst, length, map, arith, nat_lt, option_map, IfOk}
use Rattle.std.proofs.lemmas.Bool.Decides.{nat_tests}
use Rattle.std.proofs.lemmas.List.{length-append}
use Rattle.xmas_text.specs.Groups.{GroupForm}
use Rattle.xmas_text.specs.declared.var.KeyText.{KeyText}
use Rattle.xmas_text.specs.Grammar.{Conds, one, also, Rule, conds_text}
use Rattle.xmas_text.specs.Parsed.{RuleForm, cond_at, conds_at, parsed, conds_place}
use Rattle.xmas_text.specs.Results.{SpellsWithin}
use Rattle.xmas_rule.specs.Rules.{RuleValue, IsAccepted}
use Rattle.xmas_rule.specs.RuleMade.{rule_of}
use Rattle.xmas_rule.specs.declared.rule.Rule.{Rule as MadeRule}
use Rattle.xmas_read.specs.declared.fault.XmasFault.{XmasFault}
use Rattle.xmas_read.specs.declared.fault.XmasFault.TheVariants as fault
use Rattle.xmas_read.specs.Tree.{Tree, form_of_tree, bound_names, template_vars, contents_vars, group_vars, order_vars}
use Rattle.xmas_read.specs.Value.{key_value, own_keys, items_value, rule_value}
use Rattle.xmas_read.specs.Refusals.{unless, first_in, first_place, first_of, size_refusals, scope_refusals, template_refusals, refusals, or_rule, checked, unbound_vars, unbound_in, unbound, bound_again, outer_keys, loose_items, unknown_sources, differing_in}
use Rattle.xmas_read.specs.Results.{Answers}
use Rattle.xmas_read.proofs.Templates.{both_none, unless_none, unbound_append, template_accepted}
use Rattle.xmas_read.proofs.Bodies.{conds_bound, all_bound, conds_compared, order_accepted, some_bound}
use Rattle.xmas_read.proofs.Limits.{conds_sourced, conds_few}
use Rattle.xmas_read.proofs.NamePlaces.{among_themselves}

-- where places of a refusal and other refusals give none, there are no such places, and the others give none
pub no_place : (f : ℕ → XmasFault) (places : List ℕ) (os : List (Option XmasFault)) → first_of (first_place f places ∷ os) ≡ None → (places ≡ []) × (first_of os ≡ None)
no_place f [] os h = (refl, h)
no_place f (at ∷ places) os h = cc

-- where two lists together have no first refusal, neither of them has one
pub both_pass : (xs ys : List (Option XmasFault)) → first_of (xs ++ ys) ≡ None → (first_of xs ≡ None) × (first_of ys ≡ None)
both_pass [] ys h = (refl, h)
both_pass (None ∷ xs) ys h = both_pass xs ys h
both_pass (Some e ∷ xs) ys h = cc

-- a tree of which a rule comes has no refusal, and the rule is its value
pub no_refusal : (sources : List (List ℕ)) (t : Tree) (v : RuleValue) → checked sources t ≡ Ok v → (first_of (refusals sources t) ≡ None) × (rule_value sources t ≡ v)
no_refusal sources t v h = by (first_of (refusals sources t)) refl h
  where
    by : (o : Option XmasFault) → first_of (refusals sources t) ≡ o → or_rule o (rule_value sources t) ≡ Ok v → (first_of (refusals sources t) ≡ None) × (rule_value sources t ≡ v)
    by None e k = (e, cc)
    by (Some d) e k = cc

-- where the outer element has no keys, the keys of its group label are none
no_keys : (names : List (List ℕ)) (g : Option GroupForm) → outer_keys g ≡ [] → own_keys names [] g ≡ []
no_keys names None h = refl
no_keys names (Some g) h = by g.keys (unless_none (nat_lt (length g.keys) 1) g.at h)
  where
    by : (ks : List KeyText) → nat_lt (length ks) 1 ≡ true → map (key_value names) ks ≡ []
    by [] e = refl
    by (k ∷ ks) e = absurd (grind (arith, nat_tests))

-- a list that has members has members with others after them
grows : {X : Type 0} (xs ys : List X) → 0 < length xs → 0 < length (xs ++ ys)
grows xs ys h = omega (arith, h, length-append xs ys)

-- a written rule has a condition
conds_some : (at : ℕ) (cs : Conds) → 0 < length (conds_at at cs)
conds_some at (one g c) = omega arith
conds_some at (also cs g h c) = grows (conds_at at cs) (cond_at (at + length (conds_text cs) + length g + 3 + length h) c ∷ []) (conds_some at cs)

-- the tree of a text has a condition
pub tree_conds : (x : List ℕ) (t : Tree) → SpellsWithin x (form_of_tree t) → 0 < length t.conds
tree_conds x t w = subst (λ (f : RuleForm). 0 < length f.conds) w.tree (conds_some (conds_place w.written) w.written.conds)

-- the value of a tree of a text is accepted, if it has no refusal
value_accepted : (x : List ℕ) (sources : List (List ℕ)) (t : Tree) → SpellsWithin x (form_of_tree t) → first_of (refusals sources t) ≡ None → IsAccepted (length sources) (rule_value sources t)
value_accepted x sources t w h =
    let names = bound_names t.conds in
    let later = both_pass (size_refusals t) (scope_refusals sources t ++ template_refusals t) h in
    let parts = both_pass (scope_refusals sources t) (template_refusals t) later.1 in
    let tags = no_place (λ at. fault.TagDiffers at) (differing_in t.template) _ parts.0 in
    let unknown = no_place (λ at. fault.UnknownSource at) (unknown_sources sources t.conds) _ tags.1 in
    let again = no_place (λ at. fault.BoundTwice at) (bound_again [] t.conds) _ unknown.1 in
    let free = no_place (λ at. fault.Unbound at) (unbound t) _ again.1 in
    let outer = no_place (λ at. fault.OuterGroup at) (outer_keys t.template.group) _ parts.1 in
    let loose = no_place (λ at. fault.Loose at) (loose_items names [] t.template.contents) _ outer.1 in
    let uses = both_none (unbound_vars names (template_vars t.template) ++ unbound_in names [] t.conds) (unbound_vars names (order_vars t.order)) free.0 in
    let bodies = both_none (unbound_vars names (template_vars t.template)) (unbound_in names [] t.conds) uses.0 in
    let vars = unbound_append names (contents_vars t.template.contents) (group_vars t.template.group) bodies.0 in
    record {
      sourced = conds_sourced sources names t.conds unknown.0;
      few_positions = conds_few x sources names t w;
      bound = conds_bound sources names [] t.conds tt (among_themselves names) again.0 bodies.1;
      all = λ v. all_bound sources t.conds again.0 bodies.1 v;
      some = some_bound [] t.conds (tree_conds x t w) bodies.1;
      compared = conds_compared sources names [] t.conds bodies.1;
      ordered = order_accepted names t.order uses.1;
      shown = template_accepted names [] t.template.contents vars.0 loose.0;
      made_once = no_keys names t.template.group outer.0;
    }

-- a rule that comes of the tree of a text is accepted
pub accepted_of : (x : List ℕ) (sources : List (List ℕ)) (t : Tree) (v : RuleValue) → SpellsWithin x (form_of_tree t) → checked sources t ≡ Ok v → IsAccepted (length sources) v
accepted_of x sources t v w h = let p = no_refusal sources t v h in subst (IsAccepted (length sources)) p.1 (value_accepted x sources t w p.0)

-- a rule that is read is accepted
pub accepted_answer : (x : List ℕ) (sources : List (List ℕ)) (result : Result MadeRule XmasFault) → Answers x sources result → IfOk result (λ r. IsAccepted (length sources) (rule_of r))
accepted_answer x sources (Ok r) (u, (t, w, h)) = accepted_of x sources t (rule_of r) w h
accepted_answer x sources (Err e) a = tt
