-- The plan of an accepted rule uses what is held, and so does its rewritten plan.
use Rattle.std.proofs.Common.{◌≡◌, ℕ, zero, suc, ◌+◌, List, [], ◌∷◌, ◌++◌, length, refl, ◌∙◌, sym, ap, subst, arith}
use Rattle.std.specs.List.{flat_map}
use Rattle.std.proofs.lemmas.Grind.{flat_map-append}
use Rattle.mix_base.proofs.Lists.{append_nil}
use Rattle.xmas_rule.specs.Rules.{RuleValue, IsAccepted, variables}
use Rattle.plan_core.specs.Plans.{Operator, get_descendants, join, over, tuple_destroy}
use Rattle.plan_core.specs.Valid.{outs_of, unary_outs, AreDistinct}
use Rattle.plan_evidence.specs.Held.{UsesHeld}
use Rattle.plan_make.specs.Operators.{body_tree, body_next, rule_tree}
use Rattle.plan_make.specs.Translation.{template_var}
use Rattle.plan_make.specs.Trees.{Tree, begin, descend, both, above, under, numbered}
use Rattle.plan_make.proofs.TreeParts.{tree_outs}
use Rattle.plan_make.proofs.Validity.{plan_valid}
use Rattle.plan_rewrite.specs.Rewritten.{rewritten}
use Rattle.plan_rewrite.proofs.OwnTree.{rewritten-tree}
use Rattle.plan_uses.specs.Law.{ViewsUseHeld}
use Rattle.plan_uses.proofs.Bodies.{body_used}
use Rattle.plan_uses.proofs.Moved.{rewritten_uses}
use Rattle.plan_uses.proofs.Templates.{template_used}
use Rattle.plan_uses.proofs.Trees.{TreeUses, ended_uses}

-- the numbered operators of a tree bind anew what the tree binds anew
numbered_outs : (t : Tree) (i : ℕ) → flat_map outs_of (numbered i t) ≡ tree_outs t
unfolding tree_outs
numbered_outs (begin s out) i = refl
numbered_outs (descend t start path out) i =
    flat_map-append outs_of (numbered i t) (get_descendants (i + under t) start path out ∷ []) ∙ ap (λ (z : List ℕ). z ++ out ∷ []) (numbered_outs t i)
numbered_outs (both l r tests) i =
    let m : ℕ = i + suc (under l) in
    let j : List Operator = join (i + under l) (m + under r) tests ∷ [] in
    flat_map-append outs_of (numbered i l) (numbered m r ++ j)
    ∙ ap (λ (z : List ℕ). z ++ flat_map outs_of (numbered m r ++ j)) (numbered_outs l i)
    ∙ ap (λ (z : List ℕ). tree_outs l ++ z) (flat_map-append outs_of (numbered m r) j ∙ append_nil (flat_map outs_of (numbered m r)) ∙ numbered_outs r m)
numbered_outs (above t op) i =
    flat_map-append outs_of (numbered i t) (over (i + under t) op ∷ []) ∙ ap (λ (z : List ℕ). z ++ flat_map outs_of (over (i + under t) op ∷ [])) (numbered_outs t i)
    ∙ ap (λ (z : List ℕ). tree_outs t ++ z) (append_nil (unary_outs op))

-- so many empty names
abbrev names : ℕ → List (List ℕ)
names zero = []
names (suc n) = [] ∷ names n

-- there are as many as were asked for
names-length : (n : ℕ) → length (names n) ≡ n
names-length zero = refl
names-length (suc n) = let h = names-length n in omega (arith, h)

-- the tree of an accepted rule's plan binds no variable anew twice
rule_distinct : (sources : ℕ) (r : RuleValue) → IsAccepted sources r → AreDistinct (tree_outs (rule_tree r))
rule_distinct sources r a =
    let t : Tree = rule_tree r in
    let end : List Operator = tuple_destroy (under t) (template_var (body_tree r) (body_next r) r.items) ∷ [] in
    subst AreDistinct (flat_map-append outs_of (numbered 0 t) end ∙ append_nil (flat_map outs_of (numbered 0 t)) ∙ numbered_outs t 0)
    (plan_valid (names sources) r (subst (λ (n : ℕ). IsAccepted n r) (sym (names-length sources)) a)).distinct

-- the tree of an accepted rule's plan uses what is held
rule_uses : (sources : ℕ) (r : RuleValue) → IsAccepted sources r → TreeUses (rule_tree r)
rule_uses sources r a = template_used (variables r) (body_next r) (body_tree r) r.label r.items (body_used sources r a) (omega arith) a.some a.shown

-- the plans of views use what is held
pub views_use : ViewsUseHeld
views_use = record {
  made = λ sources r a. ended_uses (rule_tree r) (template_var (body_tree r) (body_next r) r.items) (rule_uses sources r a);
  rewritten = λ sources r a.
      subst UsesHeld (sym (rewritten-tree (rule_tree r) (template_var (body_tree r) (body_next r) r.items)))
      (ended_uses (rewritten (rule_tree r)) (template_var (body_tree r) (body_next r) r.items) (rewritten_uses (rule_tree r) (rule_uses sources r a) (rule_distinct sources r a)));
}
