-- Views that were placed, as views over the sources that are no views.
use Rattle.std.proofs.Common.{◌≡◌, ◌+◌, ◌<◌, inl, inr, ℕ, zero, suc, List, [], ◌∷◌, Option, Some, None, arith, subst, sym, length, get_or}
use Rattle.std.specs.List.{AllByRecursion}
use Rattle.std.proofs.lemmas.List.{length-map}
use Rattle.std.proofs.lemmas.Option.{slice_get_cases}
use Rattle.mix_io.specs.Views.{FilesView}
use Rattle.mix_catalog.specs.declared.source.SourceSpec.{SourceSpec}
use Rattle.mix_catalog.specs.Sources.{base_of}
use Rattle.plan_core.specs.declared.plan.Plan.{Plan}
use Rattle.plan_core.specs.PlanMade.{plan_value}
use Rattle.plan_core.specs.Plans.{Operator}
use Rattle.plan_core.specs.Valid.{HasSource}
use Rattle.view_stack.specs.Steps.{IsPlanOver}
use Rattle.mix_place.specs.Placed.{ArePlaced, IsViewPlaced, Placed, view_number}
use Rattle.mix_place.specs.Views.{view_ops}
use Rattle.mix_run.proofs.ReadTables.{plan_within}

-- what holds of each of some views, by its place, holds of all
all_of : (P : Option Plan → Type 0) (views : List (Option Plan)) → ((i : ℕ) → i < length views → P (get_or views i None)) → AllByRecursion P views
all_of P [] h = tt
all_of P (view ∷ views) h = (h zero (omega arith), all_of P views (λ i less. h (suc i) (omega (arith, less))))

module _ (files : FilesView) (ops : List Operator) (sources : List SourceSpec) (p : Placed) (h : ArePlaced files ops sources p) where
  -- there are as many views as sources after those that are no views
  all_views : length (base_of sources) + length p.views ≡ length sources
  all_views = (let w = h.lower.1 in let l = length-map p.views view_ops in omega (arith, w, l))

  -- a view that was placed is one over the sources that are no views
  over_base : (spec : SourceSpec) (view : Option Plan) → IsViewPlaced files (base_of sources) spec view → IsPlanOver (length (base_of sources)) view
  over_base spec None is = tt
  over_base spec (Some q) is = (is.1.valid, subst (λ (n : ℕ). AllByRecursion (HasSource n) (plan_value q).ops) (length-map (base_of sources) (λ (s : SourceSpec). s.name)) (plan_within (base_of sources) (plan_value q) is.1))

  -- views that were placed are views over as many sources as are mounted, and with these they are all sources
  pub stackable : (n : ℕ) → n ≡ length p.docs → AllByRecursion (IsPlanOver n) p.views × (n + length p.views ≡ length sources)
  stackable n many =
      let c = h.mounted.count in
      let v = all_views in
      let same : n ≡ length (base_of sources) = omega (arith, many, c) in (
        subst (λ (k : ℕ). AllByRecursion (IsPlanOver k) p.views) (sym same) (all_of (IsPlanOver (length (base_of sources))) p.views each),
        omega (arith, same, v),
      )
    where
      each : (i : ℕ) → i < length p.views → IsPlanOver (length (base_of sources)) (get_or p.views i None)
      each i less =
          elim (slice_get_cases sources (view_number sources i)).1 as (λ _. IsPlanOver (length (base_of sources)) (get_or p.views i None)) [
            | inl found ↦ over_base found.0 (get_or p.views i None) (h.views i found.0 found.2)
            | inr past ↦ absurd (let w = past.0 in let v = all_views in omega (arith, w, v, less))
          ]
