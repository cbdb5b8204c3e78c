-- Sources that are opened over stores, and that hand them back.
use Rattle.std.proofs.Common.{◌≡◌, ◌∙◌, List, Option, ap}
use Rattle.far_keep.specs.Views.{FarsView}
use Rattle.mix_mount.specs.declared.mount.Mount.{Mount}
use Rattle.mix_mount.specs.declared.mounted.Mounted.{Mounted}
use Rattle.mix_mount.specs.Mounts.{docs_of, tables_of}
use Rattle.mix_reach.specs.Reach.{reaching_in}
use Rattle.mix_reach.specs.Stores.{StoresView, stores_in, stores_of}
use Rattle.mix_reach.specs.declared.reached.Reached.{Reached}
use Rattle.mix_reach.specs.declared.site.Site.{Site}
use Rattle.mix_reach.specs.declared.stores.Stores.{Stores}
use Rattle.table_keep.specs.Views.{TablesView}
use Rattle.plan_core.specs.declared.plan.Plan.{Plan}
use Rattle.mix_place.specs.Placed.{Placed}
use Rattle.mix_run.specs.Running.{placed_of}

-- documents, their sites and views over them, as sources that were made ready
abbrev at_sites : List (Option Plan) → List Mount → List Site → Placed
at_sites views docs sites = record { docs = docs; sites = sites; views = views }

-- tables and sources of other machines, as what stores mean
abbrev beside : TablesView → FarsView → StoresView
beside tables fars = record { tables = tables; fars = fars }

module _ {T R : Type 0} (view : T → TablesView) (far : R → FarsView) where
  -- sources that were opened are placed as what was made ready
  pub placed_new : (place : Placed) (mounted : Mounted T) (r : Reached T R) → docs_of mounted ≡ place.docs → r.mounted ≡ mounted → r.sites.items ≡ place.sites → placed_of (reaching_in view far r) place.views ≡ place
  placed_new place mounted r docs is sites = ap (λ (ds : List Mount). at_sites place.views ds r.sites.items) (ap (λ (m : Mounted T). docs_of m) is ∙ docs) ∙ ap (λ (ss : List Site). at_sites place.views place.docs ss) sites

  -- sources that were opened are over the stores that were given
  pub stores_new : (stores : Stores T R) (mounted : Mounted T) (r : Reached T R) → tables_of mounted ≡ stores.tables → r.mounted ≡ mounted → r.fars ≡ stores.fars
      → stores_of (reaching_in view far r) ≡ stores_in view far stores
  stores_new stores mounted r tables is fars =
      ap (λ (t : TablesView). beside t (far r.fars)) (ap (λ (m : Mounted T). view (tables_of m)) is ∙ ap view tables) ∙ ap (λ (f : R). beside (view stores.tables) (far f)) fars

  -- the stores that sources hand back are those that they were over at last
  pub parts_over : (r : Reached T R) (parts : Mounted T × R) (tables : T) → parts ≡ (r.mounted, r.fars) → tables ≡ tables_of parts.0
      → stores_in view far (record { tables = tables; fars = parts.1 }) ≡ stores_of (reaching_in view far r)
  parts_over r parts tables is are =
      ap (λ (t : T). beside (view t) (far parts.1)) are ∙ ap (λ (p : Mounted T × R). beside (view (tables_of p.0)) (far p.1)) is
