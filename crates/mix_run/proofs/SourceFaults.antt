-- How often sources that are reached failed: as often as what stands where their kinds say.
use Rattle.std.proofs.Common.{false, ◌≡◌, ◌∙◌, inl, inr, ℕ, true, List, Option, Some, ap, sym, arith, slice_get}
use Rattle.mix_io.specs.Views.{FilesView}
use Rattle.mix_catalog.specs.declared.source.SourceSpec.{SourceSpec}
use Rattle.mix_catalog.specs.Sources.{base_of}
use Rattle.mix_mount.specs.declared.mount.Mount.{Mount}
use Rattle.mix_mount.specs.Mounts.{faults, mount_at, view_of as mount_view}
use Rattle.mix_mount.proofs.Laws.{in_memory_unfailed, table_failed}
use Rattle.mix_reach.specs.Reach.{CameFrom, Reaching, document_at as source_at, site_at, view_of}
use Rattle.mix_reach.specs.Stores.{stores_of}
use Rattle.mix_reach.specs.declared.site.Site.{Site}
use Rattle.mix_reach.specs.declared.site.Site.TheVariants.{Here, Far}
use Rattle.plan_core.specs.Plans.{Operator}
use Rattle.plan_core.specs.declared.plan.Plan.{Plan}
use Rattle.mix_place.specs.Documents.{far_in}
use Rattle.mix_place.specs.Mounting.{site_by}
use Rattle.mix_place.specs.Placed.{ArePlaced}
use Rattle.mix_place.specs.Views.{lower_of, needs}
use Rattle.mix_place.proofs.SourceKinds.{each_is_one, far_is_apart, file_is_apart, table_is_apart}
use Rattle.mix_run.specs.Answered.{far_faults, spec_faults, table_faults}
use Rattle.mix_run.specs.Running.{placed_of}
use Rattle.mix_run.proofs.Mounts.{site_is, table_mounted}

module _ (files : FilesView) (a b : Reaching) (came : CameFrom a b) (ops : List Operator) (sources : List SourceSpec) (views : List (Option Plan)) (place : ArePlaced files ops sources (placed_of a views)) where
  -- before and after, a source that is needed failed as often as what stands where its kind says
  failed_at : (s : ℕ) (spec : SourceSpec) → slice_get (base_of sources) s ≡ Some spec → needs ops (lower_of views) s ≡ true → (site : Site) → site_by (far_in spec.kind) ≡ site
      → ((view_of a).faults s ≡ (source_at (mount_view a.mounted) a.fars s site).faults) × ((view_of b).faults s ≡ (source_at (mount_view b.mounted) b.fars s site).faults)
  failed_at s spec at read site is =
      let here = site_is files ops sources (placed_of a views) place s spec at read ∙ is in (
        ap (λ (x : Site). (source_at (mount_view a.mounted) a.fars s x).faults) here,
        ap (λ (x : Site). (source_at (mount_view b.mounted) b.fars s x).faults) (ap (λ (sites : List Site). site_at sites s) came.sites ∙ here),
      )

  -- a mount failed after as often as the same mount that was there before
  faults_after : (s : ℕ) → faults b.mounted.tables (mount_at b.mounted.docs s) ≡ faults b.mounted.tables (mount_at a.mounted.docs s)
  faults_after s = ap (λ (docs : List Mount). faults b.mounted.tables (mount_at docs s)) came.mounted.docs

  -- before and after, a source that is needed failed as often as its table, or as the source at another machine; a file never did
  pub spec_failed : (s : ℕ) (spec : SourceSpec) → slice_get (base_of sources) s ≡ Some spec → needs ops (lower_of views) s ≡ true
      → ((view_of a).faults s ≡ spec_faults (stores_of a) (Some spec)) × ((view_of b).faults s ≡ spec_faults (stores_of b) (Some spec))
  spec_failed s spec at read =
      elim (each_is_one spec.kind) as (λ _. ((view_of a).faults s ≡ spec_faults (stores_of a) (Some spec)) × ((view_of b).faults s ≡ spec_faults (stores_of b) (Some spec))) [
        | inl file ↦ (
            let apart = file_is_apart spec.kind file in
            let at_site = failed_at s spec at read Here (ap site_by apart.1) in
            let in_memory = (((place.mounted.each s spec at).read read).file file).in_memory in
            let old = at_site.0 ∙ in_memory_unfailed a.mounted.tables (mount_at a.mounted.docs s) in_memory in
            let new = at_site.1 ∙ faults_after s ∙ in_memory_unfailed b.mounted.tables (mount_at a.mounted.docs s) in_memory in
            let ta = ap (table_faults a.mounted.tables) apart.0 in
            let tb = ap (table_faults b.mounted.tables) apart.0 in
            let fa = ap (far_faults a.fars) apart.1 in
            let fb = ap (far_faults b.fars) apart.1 in
            (omega (arith, old, ta, fa), omega (arith, new, tb, fb))
            )
        | inr (inl table) ↦ (
            let d = table.0 in
            let apart = table_is_apart spec.kind d table.1 in
            let at_site = failed_at s spec at read Here (ap site_by apart.1) in
            let own = table_mounted files ops sources (placed_of a views) place s spec d at read table.1 in
            let old = at_site.0 ∙ table_failed a.mounted.tables (mount_at a.mounted.docs s) d own in
            let new = at_site.1 ∙ faults_after s ∙ table_failed b.mounted.tables (mount_at a.mounted.docs s) d own in
            let ta = ap (table_faults a.mounted.tables) table.1 in
            let tb = ap (table_faults b.mounted.tables) table.1 in
            let fa = ap (far_faults a.fars) apart.1 in
            let fb = ap (far_faults b.fars) apart.1 in
            (omega (arith, old, ta, fa), omega (arith, new, tb, fb))
            )
        | inr (inr (inl far)) ↦ (
            let at_site = failed_at s spec at read (Far far.0) (ap site_by far.1) in
            let old = at_site.0 in
            let new = at_site.1 in
            let apart = (far_is_apart spec.kind far.0 far.1).1 in
            let ta = ap (table_faults a.mounted.tables) apart in
            let tb = ap (table_faults b.mounted.tables) apart in
            let fa = ap (far_faults a.fars) far.1 in
            let fb = ap (far_faults b.fars) far.1 in
            (omega (arith, old, ta, fa), omega (arith, new, tb, fb))
            )
        | inr (inr (inr view)) ↦ absurd (let z : false ≡ true = sym (((place.mounted.each s spec at).read read).other) ∙ view in cc)
      ]
