-- The documents of a run are laid out as its catalog says, so its steps cost at most the constant.
use Rattle.std.proofs.Common.{Bool, ◌≡◌, ◌∙◌, ◌≤◌, ◌+◌, ℕ, true, false, cond, IsTrue, IfSome, is_some, List, Option, Some, None, refl, sym, subst, ap, arith, slice_get, map}
use Rattle.mix_tree.specs.Forest.{Forest, alone}
use Rattle.mix_catalog.specs.declared.source.SourceKind.{SourceKind}
use Rattle.mix_catalog.specs.declared.source.SourceKind.TheVariants.{Bracket, Csv, Table, Remote, Json, View}
use Rattle.mix_catalog.specs.declared.source.SourceSpec.{SourceSpec}
use Rattle.mix_catalog.specs.Grammar.{is_view}
use Rattle.std.specs.List.{list_any}
use Rattle.std.proofs.lemmas.Bool.{or_left}
use Rattle.mix_place.specs.Views.{needs, reads_lower}
use Rattle.browse_class.specs.Classes.{BoundedTolls, class_in}
use Rattle.browse_visit.specs.Layouts.{IsLaid, Layout, any_trees}
use Rattle.mix_script.specs.declared.step.Way.{Way}
use Rattle.mix_script.specs.declared.step.Way.TheVariants.{Down, Right}
use Rattle.mix_session.specs.Walks.{place_toll}
use Rattle.plan_make.specs.Law.{HasValidPlan}
use Rattle.plan_make.specs.Operators.{plan_of}
use Rattle.plan_rewrite.specs.Law.{KeepsValidity}
use Rattle.plan_rewrite.specs.Rewritten.{plan_for}
use Rattle.table_keep.specs.Rows.{Row}
use Rattle.table_keep.specs.Views.{Declared}
use Rattle.table_wrap.specs.Document.{declared_in}
use Rattle.table_wrap.specs.Rows.{table_tree}
use Rattle.view_class.specs.Laid.{AreRows, FilesAreLaid, TablesAreLaid}
use Rattle.view_class.specs.Layouts.{declared_column, kind_layout, layout_in, layout_there, rows_layout, spec_layout}
use Rattle.view_class.specs.Reads.{UnreadDontMatter, reads_source}
use Rattle.xmas_read.specs.Results.{names_of_sources}
use Rattle.plan_core.specs.Plans.{Operator}
use Rattle.mix_run.specs.Answered.{all_told, is_table_told}
use Rattle.mix_run.specs.Bounded.{AreDeclared, BoundedPlans, BoundedViews}
use Rattle.mix_run.specs.Runs.{HasDocument, IsDocumentOf}
use Rattle.mix_place.specs.Documents.{StandsFor, is_file_of}
use Rattle.mix_run.specs.Outside.{Outside}
use Rattle.mix_run.proofs.ReadTables.{spec_told_at, told_parts}

module _ (files : FilesAreLaid) (tables : TablesAreLaid) (before : Outside) (ops : List Operator) (sources : List SourceSpec) (declared : AreDeclared before.stores.tables ops sources) where
  -- the rows of a table that is told
  rows_laid : (name : List ℕ) (d : Declared) (f : Forest) (rows : Option (List Row)) → is_some rows ≡ true → IfSome rows (AreRows d.columns)
      → IfSome rows (λ r. f ≡ alone (table_tree name d.columns r)) → IsLaid (rows_layout name (map declared_column d.columns)) f
  rows_laid name d f None told are is = absurd (let z : false ≡ true = told in cc)
  rows_laid name d f (Some r) told are is = subst (λ (x : Forest). IsLaid (rows_layout name (map declared_column d.columns)) x) (sym is) (tables name d.columns r are)

  -- the document of a source that the rule names is laid out as its kind says
  kind_laid : (s : ℕ) (spec : SourceSpec) (f : Forest) → slice_get sources s ≡ Some spec → IsTrue (reads_source ops s) → is_table_told before.stores.tables (declared_in spec.kind) ≡ true → (is_view spec.kind ≡ false → IsDocumentOf before spec f)
      → (k : SourceKind) → spec.kind ≡ k → IsLaid (kind_layout spec.name k) f
  kind_laid s spec f at read told is (Bracket file deep) e = tt
  kind_laid s spec f at read told is (Csv file columns) e =
      let own = (is (ap is_view e)).file (ap is_file_of e) in
      let Stands : SourceKind → Type 0 = λ k. StandsFor spec.name k own.1.text own.0 in
      let held = subst Stands e own.1.stands in
      subst (λ (x : Forest). IsLaid (kind_layout spec.name (Csv file columns)) x) (sym (own.2 ∙ ap alone held.2)) (files spec.name columns held.0 held.1.1)
  kind_laid s spec f at read told is (Table file table key columns) e =
      let d : Declared = record { file = file; table = table; key = key; columns = columns } in
      let declares : declared_in spec.kind ≡ Some d = ap declared_in e in
      rows_laid spec.name d f (before.stores.tables.told d) (subst (λ (o : Option Declared). is_table_told before.stores.tables o ≡ true) declares told)
      (declared s d (record { spec = spec; there = at; read = read; declares = declares })) ((is (ap is_view e)).rows d declares)
  kind_laid s spec f at read told is (Remote replies requests number) e = tt
  kind_laid s spec f at read told is (Json file) e = tt
  kind_laid s spec f at read told is (View file) e = tt

  -- the layout of a source that the plan reads, and of another one any
  abbrev read_layout : ℕ → Layout
  read_layout s = cond (reads_source ops s) (layout_in sources s) any_trees

  -- the document of the source at a number is laid out as the catalog says
  there_laid : (chosen : ℕ → Bool) → ((s : ℕ) → reads_source ops s ≡ true → chosen s ≡ true) → (s : ℕ) (f : Forest) → (all_told before.stores chosen sources ≡ true)
      → ((spec : SourceSpec) → slice_get sources s ≡ Some spec → is_view spec.kind ≡ false → HasDocument before chosen s spec f) → IsLaid (read_layout s) f
  there_laid chosen wider s f all has =
      elim (slice_get sources s) as (λ o. slice_get sources s ≡ o → IsLaid (cond (reads_source ops s) (layout_there o) any_trees) f) [
        | None ↦ λ e. elim (reads_source ops s) as (λ b. IsLaid (cond b any_trees any_trees) f) [ true ↦ tt | false ↦ tt ]
        | Some spec ↦ (λ e.
            elim (reads_source ops s) as (λ b. reads_source ops s ≡ b → IsLaid (cond b (spec_layout spec) any_trees) f) [
              | true ↦ (λ read.
                  let place : s ≡ 0 + s = omega arith in
                  kind_laid s spec f e read (told_parts before.stores spec (spec_told_at before.stores chosen 0 sources all s spec e (subst (λ (k : ℕ). chosen k ≡ true) place (wider s read)))).0
                  (λ no. (has spec e no).0 (wider s read)) spec.kind refl)
              | false ↦ λ unread. tt
            ] refl)
      ] refl

-- where the class is bounded, each step costs at most the constant
pub bounded_plans : BoundedTolls → FilesAreLaid → TablesAreLaid → UnreadDontMatter → BoundedPlans
bounded_plans tolls files tables unread before p q most valid made is way place =
    let layouts = read_layout files tables before q.ops q.sources is.declared in
    let same = unread layouts (layout_in q.sources) p valid (λ s read. ap (λ b. cond b (layout_in q.sources s) any_trees) (ap (λ (ops : List Operator). reads_source ops s) made ∙ read)) in
    let class = same ∙ ap (λ (ops : List Operator). class_in (layout_in q.sources) ops) (sym made) ∙ is.class in
    let within = tolls layouts p most valid class q.docs (λ s.
    there_laid files tables before q.ops q.sources is.declared (needs q.ops q.lower) (λ k read. or_left (reads_source q.ops k) (list_any (reads_lower k) q.lower) read) s (q.docs s) is.told
    (λ spec e no. subst (λ (f : Forest). HasDocument before (needs q.ops q.lower) s spec f) (sym (is.documents.same s spec e no)) (is.documents.below s spec e no))) in
    subst (λ (ops : List Operator). place_toll q.docs ops way place ≤ most) (sym made) (by_way way (within place).0 (within place).1)
  where
    by_way : (w : Way) → place_toll q.docs p.ops Down place ≤ most → place_toll q.docs p.ops Right place ≤ most → place_toll q.docs p.ops w place ≤ most
    by_way Down down right = down
    by_way Right down right = right

-- where the tolls of valid plans are bounded, those of the plans of views are bounded too
pub bounded_views : HasValidPlan → KeepsValidity → BoundedPlans → BoundedViews
bounded_views valid keeps bounded before v q most accepted made is =
    let names = names_of_sources q.sources in bounded before (plan_for names v) q most (keeps (plan_of names v) (valid names v accepted)) made is
