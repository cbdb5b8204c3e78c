-- What sources are to a plan: they tell what it needs where all documents are told, and stand for the documents of the sources that it needs.
use Rattle.mix_catalog.specs.Sources.{base_of}
use Rattle.plan_core.specs.declared.plan.Plan.{Plan}
use Rattle.std.proofs.Common.{Bool, ◌≡◌, ◌∙◌, ◌+◌, ◌<◌, inl, inr, ℕ, true, false, List, [], Option, Some, None, IfSome, refl, sym, subst, ap, cond, nat_lt, arith, length, is_some, unwrap_or, slice_get}
use Rattle.std.proofs.lemmas.Bool.Decides.{nat_tests}
use Rattle.std.proofs.lemmas.List.{length-map}
use Rattle.std.proofs.lemmas.Option.{same_Some, slice_get_within, slice_get_cases}
use Rattle.mix_io.specs.Views.{FilesView}
use Rattle.mix_tree.specs.Forest.{Forest, none, alone}
use Rattle.mix_catalog.specs.declared.source.SourceSpec.{SourceSpec}
use Rattle.mix_mount.specs.declared.mount.Mount.{Mount}
use Rattle.mix_mount.specs.declared.mount.Mount.TheVariants.{Table}
use Rattle.mix_mount.specs.declared.mounted.Mounted.{Mounted}
use Rattle.mix_mount.specs.Mounts.{IsAlone, document, is_told, mount_at, mounted_in, table_of, view_of as mount_view}
use Rattle.mix_reach.specs.Reach.{Reaching, document_at as source_at, site_at, view_of}
use Rattle.mix_reach.specs.Stores.{StoresView, stores_of}
use Rattle.mix_reach.specs.declared.site.Site.{Site}
use Rattle.mix_reach.specs.declared.site.Site.TheVariants.{Here, Far}
use Rattle.far_keep.specs.declared.far_source.FarSource.{FarSource}
use Rattle.table_keep.specs.declared.no_tables.NoTables.{NoTables}
use Rattle.table_keep.specs.Untold.{no_tables_view}
use Rattle.table_keep.specs.Views.{Declared, TablesView}
use Rattle.table_wrap.specs.declared.document.TableDoc.{TableDoc}
use Rattle.table_wrap.specs.Document.{columns_of, declared_in, declared_of, name_of}
use Rattle.table_wrap.specs.Document as table
use Rattle.table_wrap.specs.Rows.{table_tree}
use Rattle.plan_core.specs.Plans.{Operator}
use Rattle.xmas_read.specs.Results.{names_of_sources}
use Rattle.mix_run.specs.Answered.{all_told, is_far_told, is_spec_told, is_table_told}
use Rattle.mix_place.specs.Documents.{far_in}
use Rattle.mix_run.specs.Runs.{HasDocument}
use Rattle.mix_place.specs.Mounted.{IsMounted}
use Rattle.mix_place.specs.Mounting.{IsMountedSpec, site_by}
use Rattle.mix_place.specs.Placed.{ArePlaced, Placed}
use Rattle.mix_run.specs.Outside.{outside}
use Rattle.mix_run.specs.Running.{document_at, documents_of, placed_of}
use Rattle.mix_place.proofs.SourceKinds.{each_is_one, file_is_apart, table_is_apart}
use Rattle.mix_run.proofs.ReadTables.{spec_told_at, told_parts}
use Rattle.mix_place.proofs.Bases.{base_whole}
use Rattle.mix_place.specs.Views.{lower_of, needs}

-- a catalog has as many names as sources
pub count_names : (sources : List SourceSpec) → length (names_of_sources sources) ≡ length sources
count_names sources = length-map sources (λ (s : SourceSpec). s.name)

-- a number that is smaller tests as smaller
less_test : (s n : ℕ) → s < n → nat_lt s n ≡ true
less_test s n h = grind (arith, nat_tests)

-- the document that is mounted for a table is that of the table's rows, where they are told
rows_law : (tables : TablesView) (doc : TableDoc) (name : List ℕ) → name_of doc ≡ name
    → IfSome (tables.told (declared_of doc)) (λ rows. table.document tables doc ≡ alone (table_tree name (columns_of doc) rows))
rows_law tables doc name named =
    elim (tables.told (declared_of doc)) as (λ o. IfSome o (λ rows. alone (table_tree (name_of doc) (columns_of doc) (unwrap_or o [])) ≡ alone (table_tree name (columns_of doc) rows)))
    [ None ↦ tt | Some rows ↦ ap (λ (n : List ℕ). alone (table_tree n (columns_of doc) rows)) named ]

-- what is mounted for a table is the document of its rows, where they are told
rows_by : (files : FilesView) (tables : TablesView) (spec : SourceSpec) (m : Mount) (d : Declared) → IsMountedSpec files spec m → declared_in spec.kind ≡ Some d
    → IfSome (tables.told d) (λ rows. document tables m ≡ alone (table_tree spec.name d.columns rows))
rows_by files tables spec m d h e =
    let k = h.table d e in
    let same : declared_of k.doc ≡ d = same_Some (declared_of k.doc) d (sym k.declares ∙ e) in
    let At : Declared → Mount → Type 0 = λ c x. IfSome (tables.told c) (λ rows. document tables x ≡ alone (table_tree spec.name c.columns rows)) in
    subst (λ (x : Mount). At d x) (sym k.is) (subst (λ (c : Declared). At c (Table k.doc)) same (rows_law tables k.doc spec.name k.name))

module _ (files : FilesView) (ops : List Operator) (sources : List SourceSpec) (p : Placed) (h : ArePlaced files ops sources p) where
  -- whether a source is needed
  abbrev pub is_needed : ℕ → Bool
  is_needed = needs ops (lower_of p.views)

  -- where a source is that is needed, its kind says
  pub site_is : (s : ℕ) (spec : SourceSpec) → slice_get (base_of sources) s ≡ Some spec → is_needed s ≡ true → site_at p.sites s ≡ site_by (far_in spec.kind)
  site_is s spec at read = h.sites s spec at ∙ ap (λ b. cond b (site_by (far_in spec.kind)) Here) read

  -- what is mounted, and what is told at other machines, are the documents of the sources that are needed
  pub documents_placed : (stores : StoresView) (s : ℕ) (spec : SourceSpec) → slice_get (base_of sources) s ≡ Some spec → HasDocument (outside files stores) is_needed s spec (documents_of stores p s)
  documents_placed stores s spec at =
      let within = slice_get_within (base_of sources) s spec at in
      let count = h.mounted.count in
      let less : s < length p.docs = omega (arith, within, count) in
      let m = mount_at p.docs s in
      let is : documents_of stores p s ≡ document_at stores (site_at p.sites s) m = ap (λ b. cond b (document_at stores (site_at p.sites s) m) none) (less_test s (length p.docs) less) in
      let at_site = λ (site : Site) (same : site_at p.sites s ≡ site). is ∙ ap (λ (x : Site). document_at stores x m) same in (
        (λ read. record {
          file = λ e.
              let f = ((h.mounted.each s spec at).read read).file e in
              (f.tree, f.document_is, at_site Here (site_is s spec at read ∙ ap site_by (file_is_apart spec.kind e).1) ∙ f.given stores.tables);
          rows = λ d e. subst (λ (f : Forest). IfSome (stores.tables.told d) (λ rows. f ≡ alone (table_tree spec.name d.columns rows)))
              (sym (at_site Here (site_is s spec at read ∙ ap site_by (table_is_apart spec.kind d e).1)))
              (rows_by files stores.tables spec m d ((h.mounted.each s spec at).read read) e);
          far = λ far e told. at_site (Far far) (site_is s spec at read ∙ ap site_by e);
        }),
        (λ unread. at_site Here (h.sites s spec at ∙ ap (λ b. cond b (site_by (far_in spec.kind)) Here) unread)
            ∙ ap (λ (x : Mount). document stores.tables x) ((h.mounted.each s spec at).unread unread)),
      )

  -- what is mounted for a table that is needed is that table
  pub table_mounted : (s : ℕ) (spec : SourceSpec) (d : Declared) → slice_get (base_of sources) s ≡ Some spec → is_needed s ≡ true → declared_in spec.kind ≡ Some d → table_of (mount_at p.docs s) ≡ Some d
  table_mounted s spec d at read declares =
      let k = ((h.mounted.each s spec at).read read).table d declares in
      ap table_of k.is ∙ sym k.declares ∙ declares

-- what is mounted for a file is told, and for a table where its rows are
told_here : (files : FilesView) (tables : TablesView) (spec : SourceSpec) (m : Mount) → IsMountedSpec files spec m → far_in spec.kind ≡ None → is_table_told tables (declared_in spec.kind) ≡ true → is_told tables m ≡ true
told_here files tables spec m h here t =
    elim (each_is_one spec.kind) as (λ _. is_told tables m ≡ true) [
      | inl e ↦ (h.file e).told tables
      | inr (inl found) ↦ (
          let k = h.table found.0 found.1 in
          let rows : is_some (tables.told (declared_of k.doc)) ≡ true = subst (λ (o : Option Declared). is_table_told tables o ≡ true) k.declares t in
          ap (λ (x : Mount). is_told tables x) k.is ∙ rows
          )
      | inr (inr (inl found)) ↦ absurd (let z : None ≡ Some found.0 = sym here ∙ found.1 in cc)
      | inr (inr (inr view)) ↦ absurd (let z : false ≡ true = sym h.other ∙ view in cc)
    ]

module _ (files : FilesView) (ops : List Operator) (sources : List SourceSpec) (x : Reaching) (views : List (Option Plan)) (h : ArePlaced files ops sources (placed_of x views)) where
  -- a source is told, and begins no list with a hole, where what stands at its site is told
  told_there : (s : ℕ) (spec : SourceSpec) → IsMountedSpec files spec (mount_at x.mounted.docs s) → is_spec_told (stores_of x) spec ≡ true → (o : Option FarSource) → far_in spec.kind ≡ o
      → ((source_at (mount_view x.mounted) x.fars s (site_by o)).told ≡ true) × ((source_at (mount_view x.mounted) x.fars s (site_by o)).forward ≡ true)
  told_there s spec m t None e = (told_here files x.mounted.tables spec (mount_at x.mounted.docs s) m e (told_parts (stores_of x) spec t).0, refl)
  told_there s spec m t (Some far) e =
      let told : x.fars.told far ≡ true = subst (λ (o : Option FarSource). is_far_told x.fars o ≡ true) e (told_parts (stores_of x) spec t).1 in
      (told, told)

  -- each source that is needed and no view is told and forward, where all documents that are needed are told
  pub read_there : all_told (stores_of x) (needs ops (lower_of views)) sources ≡ true → (s : ℕ) → s < length (base_of sources) → needs ops (lower_of views) s ≡ true
      → ((view_of x).told s ≡ true) × ((view_of x).forward s ≡ true)
  read_there all s less read =
      let place : s ≡ 0 + s = omega arith in
      elim (slice_get_cases (base_of sources) s).1 as (λ _. ((view_of x).told s ≡ true) × ((view_of x).forward s ≡ true)) [
        | inl found ↦ (
            let spec : SourceSpec = found.0 in
            let here = site_is files ops sources (placed_of x views) h s spec found.2 read in
            let there = told_there s spec ((h.mounted.each s spec found.2).read read)
            (spec_told_at (stores_of x) (needs ops (lower_of views)) 0 sources all s spec (base_whole sources h.last s spec found.2).0 (subst (λ (k : ℕ). needs ops (lower_of views) k ≡ true) place read)) (far_in spec.kind) refl in (
              ap (λ (site : Site). (source_at (mount_view x.mounted) x.fars s site).told) here ∙ there.0,
              ap (λ (site : Site). (source_at (mount_view x.mounted) x.fars s site).forward) here ∙ there.1,
            )
            )
        | inr past ↦ absurd (let p = past.0 in omega (arith, p, less))
      ]

-- a document that was mounted alone is alone
pub mounted_alone : {files : FilesView} {path : List ℕ} {m : Mounted NoTables} → (h : IsMounted files path m) → IsAlone (mounted_in no_tables_view m) h.file.tree
mounted_alone {m = m} h = record {
  mount = h.mount;
  only = h.only;
  in_memory = h.file.in_memory;
  told = h.file.told (no_tables_view m.tables);
  given = h.file.given (no_tables_view m.tables);
}
