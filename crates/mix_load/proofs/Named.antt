-- The finished document of the view of people's names is what a mediator of its plan walks.
use Rattle.std.proofs.Common.{◌≡◌, ◌∙◌, ℕ, zero, suc, true, false, arith, List, Some, cond, nat_lt, refl, ap, sym, subst, length}
use Rattle.std.specs.List.{list_all}
use Rattle.std.proofs.Math.Path.{fun_ext}
use Rattle.std.proofs.lemmas.Bool.Decides.{nat_tests}
use Rattle.mix_tree.specs.Forest.{LabelledTree, none}
use Rattle.mix_tree.specs.Nodes.{Documents}
use Rattle.mix_mount.specs.declared.mount.Mount.{Mount}
use Rattle.mix_mount.specs.Mounts.{IsAlone, Mounting, document, is_told, mount_at, view_of}
use Rattle.plan_core.specs.Plans.{Operator}
use Rattle.plan_core.specs.Plans as plan
use Rattle.plan_core.specs.Events.{visited, VisitedAreMatches}
use Rattle.plan_make.specs.Law.{MeansRule}
use Rattle.plan_make.specs.Operators.{body_next, body_tree, operators_of, rule_tree}
use Rattle.plan_make.specs.Translation.{template_var}
use Rattle.plan_rewrite.specs.Rewritten.{operators_for}
use Rattle.plan_rewrite.proofs.OwnTree.{rewritten-tree}
use Rattle.lazy_plan.specs.Bench.{ops_of, documents}
use Rattle.lazy_binding.specs.World.{reads}
use Rattle.lazy_value.specs.declared.mediator.Mediator.{Mediator}
use Rattle.lazy_value.specs.Named.{state_of}
use Rattle.mix_session.specs.Walks.{IsDocument}
use Rattle.mix_load.specs.People.{people_tree}
use Rattle.mix_load.specs.View.{names_rule}
use Rattle.mix_load.specs.Visit.{people_documents, AreNames}

-- the view has no comparison, so its plan stays as it is when selections are moved
plan_stays : operators_for names_rule ≡ operators_of names_rule
plan_stays = rewritten-tree (rule_tree names_rule) (template_var (body_tree names_rule) (body_next names_rule) names_rule.items)

module _ (x : Mounting) (m : Mediator) (count : ℕ) (only : IsAlone x (people_tree count)) where
  -- the sources' documents are those of the people
  same_documents : documents (state_of (view_of x) m) ≡ people_documents count
  same_documents = fun_ext at
    where
      at : (s : ℕ) → documents (state_of (view_of x) m) s ≡ people_documents count s
      at zero = ap (λ (d : List Mount). cond (nat_lt 0 (length d)) (document x.tables (mount_at d 0)) none) only.only ∙ only.given
      at (suc s) =
          let past : nat_lt (suc s) 1 ≡ false = grind (arith, nat_tests) in
          ap (λ (d : List Mount). cond (nat_lt (suc s) (length d)) (document x.tables (mount_at d (suc s))) none) only.only ∙ rw past refl

  -- the plan reads what is mounted alone
  reads_only : list_all (reads (view_of x).told) (operators_for names_rule) ≡ true
  reads_only =
      ap (λ (ops : List Operator). list_all (reads (view_of x).told) ops) plan_stays
      ∙ ap (λ (d : List Mount). list_all (reads (λ s. is_told x.tables (mount_at d s))) (operators_of names_rule)) only.only
      ∙ rw only.told refl

  -- the finished document is there, and is what the mediator walks
  pub names_document : (ops : List Operator) → ops_of (state_of (view_of x) m) ≡ ops → ops ≡ operators_for names_rule → MeansRule ops names_rule → VisitedAreMatches
      → ((d : Documents) → (t : LabelledTree) × (plan.document (visited d) ops ≡ Some t)) → (t : LabelledTree) × AreNames count t × IsDocument (state_of (view_of x) m) t
  names_document ops same made means visits has =
      let st = state_of (view_of x) m in
      let docs = people_documents count in
      let found = has docs in
      let t : LabelledTree = found.0 in (
        t,
        (means (visited docs) t (visits docs)).1 found.1,
        (
          subst (λ (o : List Operator). list_all (reads (view_of x).told) o ≡ true) (sym (same ∙ made)) reads_only,
          subst (λ (o : List Operator). plan.document (visited (documents st)) o ≡ Some t) (sym same)
              (subst (λ (d : Documents). plan.document (visited d) ops ≡ Some t) (sym same_documents) found.1),
        ),
      )
