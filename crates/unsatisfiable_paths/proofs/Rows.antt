-- Bindings whose nodes lie in the sources that are known of their variables.
use Rattle.std.proofs.Common.{◌≡◌, ℕ, true, false, cond, List, [], ◌∷◌, ◌++◌, refl, ap, subst, ◌∙◌}
use Rattle.std.specs.Prelude.{◌==◌, Option, Some, None}
use Rattle.std.proofs.lemmas.Bool.{eqb-true}
use Rattle.mix_base.specs.Events.{skip, bind}
use Rattle.mix_tree.specs.Keys.{has_var}
use Rattle.mix_tree.specs.Nodes.{Documents, label_at}
use Rattle.mix_tree.specs.Comparisons.{passes}
use Rattle.mix_tree.specs.declared.var.Key.{Key}
use Rattle.plan_core.specs.Beside.{EachBinding}
use Rattle.plan_core.specs.Events.{RowEvents, extended, made_value, kept_row, stage_events}
use Rattle.plan_core.specs.Fronts.{are_contiguous}
use Rattle.plan_core.specs.Shapes.{Made, a_list_of, an_element_of, Stage, filters, extends, first_by_keys, one_group, in_order}
use Rattle.plan_core.specs.TolledRows.{TolledValue, of_source, element, trees, TolledRow, source_node, tolled_value, row_node, tolled_restrict}
use Rattle.plan_core.specs.Unary.{comes_before}
use Rattle.plan_core.specs.Valid.{Kind, a_node, a_list, Kinds, no_kinds, with_kind, kept, either_kind, made_kind, stage_kinds}
use Rattle.plan_core.proofs.Bindings.{binding_each_row, binding_only, binding_distinct, binding_sorted}
use Rattle.plan_core.proofs.BoundRows.{restrict_value}
use Rattle.browse_profile.specs.declared.profile.Profile.{Profile}
use Rattle.browse_visit.specs.Layouts.{Layout, IsLaidAt}
use Rattle.browse_class.specs.Bound.{IsValue, HasValue, IsBound}
use Rattle.browse_class.specs.Facts.{Facts}

-- the trees below the node that a value is are laid out as its layouts say
value_laid : (docs : Documents) (gs : List Layout) (p : Profile) (x : TolledValue) → IsValue docs None a_node gs p x → IsLaidAt docs gs (source_node x)
value_laid docs gs p (of_source n) h = h
value_laid docs gs p (element label kids) h = absurd h
value_laid docs gs p (trees f) h = absurd h

-- in a binding that is as is known, the trees below the node of a variable are laid out as its layouts say
pub row_laid : (docs : Documents) (ks : Kinds) (f : Facts) (v : ℕ) → ks v ≡ Some a_node → (row : TolledRow) → IsBound docs None ks f row → IsLaidAt docs (f.layouts v) (row_node row v)
row_laid docs ks f v e row h = value_laid docs (f.layouts v) (f.lists v) (tolled_value row v) (of_node (ks v) e (h v []))
  where
    of_node : (k : Option Kind) → k ≡ Some a_node → HasValue docs None k (f.layouts v) (f.lists v) row [] v → IsValue docs None a_node (f.layouts v) (f.lists v) (tolled_value row v)
    of_node k e h = (subst (λ (j : Option Kind). HasValue docs None j (f.layouts v) (f.lists v) row [] v) e h).1

-- two things that hold of each binding hold of it together
pub binding_both : (P Q : TolledRow → Type 0) (es : RowEvents) → EachBinding P es → EachBinding Q es → EachBinding (λ row. P row × Q row) es
binding_both P Q [] h g = tt
binding_both P Q (skip ∷ es) h g = binding_both P Q es h g
binding_both P Q (bind row ∷ es) h g = ((h.0, g.0), binding_both P Q es h.1 g.1)

-- what is made of a binding is no node
made_differs : (made : Made) → made_kind made ≡ a_node → ⊥
made_differs (a_list_of pieces) e = cc
made_differs (an_element_of label list) e = cc

-- a list is no node
list_differs : a_list ≡ a_node → ⊥
list_differs e = cc

-- a variable that is bound to a node is of that kind
some_node : (k : Kind) → Some k ≡ Some a_node → k ≡ a_node
some_node k e = cc

module _ (source_of : ℕ → ℕ) where
  -- the nodes of a binding lie in the sources of their variables
  abbrev pub InSource : Kinds → TolledRow → Type 0
  InSource ks row = (v : ℕ) → ks v ≡ Some a_node → (row_node row v).source ≡ source_of v

  -- so do those of a binding with one variable more whose node lies in its source, if it is one
  pub with_more : (ks : Kinds) (out : ℕ) (k : Kind) (x : TolledValue) (row : TolledRow) → (k ≡ a_node → (source_node x).source ≡ source_of out) → InSource ks row → InSource (with_kind out k ks) ((out, x) ∷ row)
  with_more ks out k x row own h v e =
      elim (out == v) as (λ w. (out == v) ≡ w → cond w (Some k) (ks v) ≡ Some a_node → (source_node (cond w x (tolled_value row v))).source ≡ source_of v) [
        | true ↦ λ t g. own (some_node k g) ∙ ap source_of (eqb-true out v t)
        | false ↦ λ t g. h v g
      ] refl e

  -- so do those of the variables of keys
  restricted : (ks : Kinds) (keys : List Key) (row : TolledRow) → InSource ks row → InSource (kept keys ks) (tolled_restrict keys row)
  restricted ks keys row h v e =
      elim (has_var keys v) as (λ w. has_var keys v ≡ w → cond w (ks v) None ≡ Some a_node → (row_node (tolled_restrict keys row) v).source ≡ source_of v) [
        | true ↦ λ t g. ap (λ (x : TolledValue). (source_node x).source) (restrict_value keys row v t) ∙ h v g
        | false ↦ λ t g. cc
      ] refl e

  -- so do those of a pair of bindings, the left of which is as is known
  pub pair_in : (docs : Documents) (kl kr : Kinds) (f : Facts) (a b : TolledRow) → IsBound docs None kl f a → InSource kl a → InSource kr b → InSource (λ v. either_kind (kl v) (kr v)) (a ++ b)
  pair_in docs kl kr f a b bound h g v e =
      elim (kl v) as (λ w. kl v ≡ w → HasValue docs None w (f.layouts v) (f.lists v) a b v → either_kind w (kr v) ≡ Some a_node → (row_node (a ++ b) v).source ≡ source_of v) [
        | None ↦ λ t x q. ap (λ (y : TolledValue). (source_node y).source) x ∙ g v q
        | Some j ↦ λ t x q. ap (λ (y : TolledValue). (source_node y).source) x.0 ∙ h v (t ∙ q)
      ] refl (bound v b) e

  -- so do those of each binding after a stage
  pub stage_in : (docs : Documents) (ks : Kinds) (vars : List ℕ) (stage : Stage) (es : RowEvents) → EachBinding (InSource ks) es → EachBinding (InSource (stage_kinds stage ks)) (stage_events docs vars stage es)
  stage_in docs ks vars (filters test) es h = binding_only (InSource ks) (λ row. passes docs test (row_node row)) es h
  stage_in docs ks vars (extends out made) es h =
      binding_each_row (InSource ks) (InSource (with_kind out (made_kind made) ks)) (extended docs out made)
      (λ row r. with_more ks out (made_kind made) (made_value docs made row) row (λ e. absurd (made_differs made e)) r) es h
  stage_in docs ks vars (first_by_keys keys None) es h =
      binding_distinct (InSource ks) (InSource (kept keys ks)) docs keys (kept_row docs keys (are_contiguous keys vars) None) (λ row rest r. restricted ks keys row r) [] es h
  stage_in docs ks vars (first_by_keys keys (Some group)) es h =
      binding_distinct (InSource ks) (InSource (with_kind group.1 a_list (kept keys ks))) docs keys (kept_row docs keys (are_contiguous keys vars) (Some group))
      (λ row rest r. with_more (kept keys ks) group.1 a_list _ (tolled_restrict keys row) (λ e. absurd (list_differs e)) (restricted ks keys row r)) [] es h
  stage_in docs ks vars (one_group piece out) es h = (with_more no_kinds out a_list _ [] (λ e. absurd (list_differs e)) (λ v e. cc), tt)
  stage_in docs ks vars (in_order v desc) es h = binding_sorted (InSource ks) (λ a b. comes_before desc (label_at docs (row_node a v)) (label_at docs (row_node b v))) es h
