-- Laws on what is mounted: which sources never fail, and a source that is alone.
use Rattle.std.proofs.Common.{◌≡◌, ◌∙◌, ℕ, zero, suc, true, List, Some, None, ap}
use Rattle.lxp_core.specs.declared.open_tree.HoleId.{HoleId}
use Rattle.lxp_core.specs.View.{document as document_of}
use Rattle.mix_tree.specs.Forest.{Forest, LabelledTree, alone}
use Rattle.table_keep.specs.Views.{TablesView, Declared}
use Rattle.source_document.specs.Meaning.{faults_of}
use Rattle.mix_mount.specs.declared.mount.Mount.{Mount}
use Rattle.mix_mount.specs.Mounts.{CameFrom, IsAlone, Mounting, document, faults, forest_kept, is_told, mount_at, root_hole, table_of, told_kept, view_of}

-- a document in memory never failed
pub in_memory_unfailed : (v : TablesView) (m : Mount) → table_of m ≡ None → faults v m ≡ 0
in_memory_unfailed v m h = ap (faults_of v) h

-- the mount of a table failed as often as its table
pub table_failed : (v : TablesView) (m : Mount) (d : Declared) → table_of m ≡ Some d → faults v m ≡ v.faults d
table_failed v m d h = ap (faults_of v) h

module _ (a : Mounting) (t : LabelledTree) (one : IsAlone a t) where
  -- a source that is alone tells its document
  pub alone_told : (view_of a).told 0 ≡ true
  alone_told = ap (λ (docs : List Mount). is_told a.tables (mount_at docs 0)) one.only ∙ one.told

  -- the document of a source that is alone is the given tree
  pub alone_given : document_of (view_of a) 0 ≡ alone t
  alone_given = ap (λ (docs : List Mount). document a.tables (mount_at docs 0)) one.only ∙ one.given

  -- where a source is alone, neither it nor any other source ever failed
  pub alone_unfailed : (s : ℕ) → (view_of a).faults s ≡ 0
  alone_unfailed zero = ap (λ (docs : List Mount). faults a.tables (mount_at docs 0)) one.only ∙ in_memory_unfailed a.tables one.mount one.in_memory
  alone_unfailed (suc s) = ap (λ (docs : List Mount). faults a.tables (mount_at docs (suc s))) one.only

  -- a source that is alone stays alone
  pub alone_kept : (b : Mounting) → CameFrom a b → IsAlone b t
  alone_kept b came = record {
    mount = one.mount;
    only = came.docs ∙ one.only;
    in_memory = one.in_memory;
    told = told_kept a.tables b.tables came.tables one.mount ∙ one.told;
    given = ap (λ (f : HoleId → Forest). f (root_hole one.mount)) (forest_kept a.tables b.tables came.tables one.mount) ∙ one.given;
  }
