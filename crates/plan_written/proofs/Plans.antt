-- The plan of a rule that a text spells is writable, and so is its rewritten plan.
use Rattle.std.proofs.Common.{◌≡◌, ◌∙◌, ◌<◌, ◌≤◌, ◌+◌, ◌^◌, ℕ, suc, List, [], ◌∷◌, length, length-append, refl, ap, sym, subst, arith}
use Rattle.std.specs.List.{AllByRecursion, flat_map}
use Rattle.mix_base.specs.Ascents.{Among}
use Rattle.mix_base.proofs.Ascents.{each_among}
use Rattle.mix_base.proofs.Firsts.{each_weaker}
use Rattle.mix_catalog.specs.Sources.{AreNumbered}
use Rattle.mix_catalog.specs.declared.source.SourceSpec.{SourceSpec}
use Rattle.xmas_rule.specs.Rules.{RuleValue}
use Rattle.xmas_read.specs.Results.{names_of_sources}
use Rattle.plan_core.specs.Plans.{Operator, tuple_destroy, PlanValue}
use Rattle.plan_core.specs.Valid.{outs_of, IsValid}
use Rattle.plan_make.specs.Operators.{body_tree, body_next, rule_tree, operators_of, plan_of}
use Rattle.plan_make.specs.Translation.{outer_build, template_var}
use Rattle.plan_make.specs.Trees.{Tree, under, numbered}
use Rattle.plan_make.proofs.Numbering.{numbered-length}
use Rattle.plan_make.proofs.TreeParts.{tree_outs, ended}
use Rattle.plan_make.proofs.Validity.{plan_valid}
use Rattle.plan_read.specs.Writable.{vars_of, AreNames, IsWritable}
use Rattle.plan_rewrite.specs.Law.{KeepsValidity}
use Rattle.plan_rewrite.specs.Rewritten.{rewritten, operators_for, plan_for}
use Rattle.plan_rewrite.proofs.OwnTree.{rewritten-tree}
use Rattle.plan_written.proofs.Bodies.{body_made}
use Rattle.plan_written.proofs.Counts.{IsCounted}
use Rattle.plan_written.proofs.Names.{are_names}
use Rattle.plan_written.proofs.Outs.{ended_outs, outs_few, rewritten_outs}
use Rattle.plan_written.proofs.Templates.{IsMade, template_made}
use Rattle.plan_written.proofs.Trees.{IsWrittenTree, HasWrittenParts, ended_written, rewritten_written}
use Rattle.plan_written.proofs.Used.{valid_vars, outs_named}
use Rattle.plan_written.proofs.Views.{IsSpelled}

-- the operators of a tree and a tupleDestroy are two more than those below the last one of the tree
ended_length : (t : Tree) (v : ℕ) → length (ended t v) ≡ suc (suc (under t))
ended_length t v = let a = length-append (numbered 0 t) (tuple_destroy (under t) v ∷ []) in let b = numbered-length t 0 in omega (arith, a, b)

-- a valid plan over the sources of a catalog is writable, where its operators are those of a written tree that binds each variable of a spelled rule
tree_writable : (sources : List SourceSpec) (r : RuleValue) (p : PlanValue) (t : Tree) (v n : ℕ) → AreNumbered sources → IsSpelled (length (names_of_sources sources)) r → p.sources ≡ names_of_sources sources
    → p.names ≡ r.names → p.ops ≡ ended t v → IsValid p → IsWrittenTree t → IsCounted 0 (tree_outs t) n → ((u : ℕ) → u < length r.names → Among u (tree_outs t)) → length p.ops ≤ 2 ^ 32 → IsWritable sources p
tree_writable sources r p t v n catalog s from names ops valid written counted binds short =
    let outs : flat_map outs_of p.ops ≡ tree_outs t = ap (λ (os : List Operator). flat_map outs_of os) ops ∙ ended_outs t v in
    let count = counted.count in
    let few = outs_few t in
    let long : length p.ops ≡ suc (suc (under t)) = ap (λ (os : List Operator). length os) ops ∙ ended_length t v in
    record {
      catalog = catalog;
      of_catalog = from;
      names = subst AreNames (sym names) (are_names r.names s.named s.apart);
      said = λ u l. outs_named p.ops u (subst (Among u) (sym outs) (binds u (subst (λ (ns : List (List ℕ)). u < length ns) names l)));
      vars = each_weaker (λ u. Among u (flat_map outs_of p.ops)) (λ u. u < 2 ^ 32) (λ u a. let b = each_among (λ u. u < n) (tree_outs t) counted.below u (subst (Among u) outs a) in omega (arith, b, count, few, long, short)) (vars_of p.ops) (valid_vars p valid);
      parts = subst (AllByRecursion HasWrittenParts) (sym ops) (ended_written t v written);
    }

-- the operators of the plan of a written rule make a written tree
rule_made : (sources : ℕ) (r : RuleValue) → IsSpelled sources r → IsMade (body_tree r) (rule_tree r) ((outer_build (body_tree r) (body_next r) r.items).next + 2)
rule_made sources r s = template_made (body_tree r) (body_next r) r.label r.items (body_made sources r s.accepted s.written).made s.written.label s.written.items

-- the plan of a rule that a text spells is writable
pub plan_writable : (sources : List SourceSpec) (r : RuleValue) → AreNumbered sources → IsSpelled (length (names_of_sources sources)) r → length (operators_of r) ≤ 2 ^ 32 → IsWritable sources (plan_of (names_of_sources sources) r)
plan_writable sources r catalog s short =
    let names : List (List ℕ) = names_of_sources sources in
    let m = rule_made (length names) r s in
    let b = body_made (length names) r s.accepted s.written in
    tree_writable sources r (plan_of names r) (rule_tree r) (template_var (body_tree r) (body_next r) r.items) ((outer_build (body_tree r) (body_next r) r.items).next + 2) catalog s refl refl refl
    (plan_valid names r s.accepted) m.written m.counted (λ u l. m.keeps u (b.binds u l)) short

-- the rewritten plan of a rule that a text spells is writable, where rewriting keeps plans valid
pub rewritten_writable : KeepsValidity → (sources : List SourceSpec) (r : RuleValue) → AreNumbered sources → IsSpelled (length (names_of_sources sources)) r → length (operators_for r) ≤ 2 ^ 32
    → IsWritable sources (plan_for (names_of_sources sources) r)
rewritten_writable keeps sources r catalog s short =
    let names : List (List ℕ) = names_of_sources sources in
    let t : Tree = rule_tree r in
    let v : ℕ = template_var (body_tree r) (body_next r) r.items in
    let n : ℕ = (outer_build (body_tree r) (body_next r) r.items).next + 2 in
    let m = rule_made (length names) r s in
    let b = body_made (length names) r s.accepted s.written in
    let same = rewritten_outs t in
    tree_writable sources r (plan_for names r) (rewritten t) v n catalog s refl refl (rewritten-tree t v) (keeps (plan_of names r) (plan_valid names r s.accepted)) (rewritten_written t m.written)
    (subst (λ (vs : List ℕ). IsCounted 0 vs n) (sym same) m.counted) (λ u l. subst (Among u) (sym same) (m.keeps u (b.binds u l))) short
