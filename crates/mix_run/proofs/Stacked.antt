-- What a stack of views over sources is to what is asked of a run, where the sources stand in for others that are reached.
use Rattle.std.proofs.Common.{◌≡◌, ◌∙◌, ◌+◌, ◌-◌, ◌*◌, ◌^◌, ◌<◌, ◌≤◌, inl, inr, min, ℕ, Bool, true, false, ◌&&◌, cond, List, Option, Some, None, refl, ap, sym, subst, arith, length, option_map, slice_get, get_or}
use Rattle.std.specs.List.{AllByRecursion, list_all, list_any}
use Rattle.std.proofs.Math.Path.{fun_ext}
use Rattle.std.proofs.lemmas.Bool.{cases_lt, or_left, or_right}
use Rattle.std.proofs.lemmas.List.{length-map}
use Rattle.std.proofs.lemmas.Option.{slice_get_cases, slice_get_within}
use Rattle.mix_base.specs.Counts.{HasRisenBy}
use Rattle.mix_io.specs.Views.{FilesView}
use Rattle.mix_tree.specs.Nodes.{Documents}
use Rattle.mix_catalog.specs.declared.source.SourceSpec.{SourceSpec}
use Rattle.mix_catalog.specs.Sources.{base_of}
use Rattle.lxp_core.specs.View.{Keeps}
use Rattle.far_keep.specs.declared.far_source.FarSource.{FarSource}
use Rattle.mix_loop.specs.Loops.{StandIn}
use Rattle.mix_reach.specs.Reach.{Reaching, came_keeps, view_of as reached}
use Rattle.mix_reach.specs.Stores.{stores_of}
use Rattle.mix_place.specs.Documents.{is_file_of}
use Rattle.mix_place.specs.Placed.{ArePlaced, IsViewPlaced, view_number}
use Rattle.mix_place.specs.Views.{IsLower, lower_at, lower_of, needs, reads_lower, view_ops}
use Rattle.mix_place.proofs.Bases.{base_there}
use Rattle.mix_place.proofs.SourceKinds.{each_is_one, far_is_apart, file_is_apart, table_is_apart}
use Rattle.table_keep.specs.Views.{Declared}
use Rattle.plan_core.specs.declared.plan.Plan.{Plan}
use Rattle.plan_core.specs.PlanMade.{plan_value}
use Rattle.plan_core.specs.Plans.{Operator, document}
use Rattle.plan_core.specs.Events.{visited}
use Rattle.plan_core.specs.Valid.{HasSource}
use Rattle.lazy_plan.specs.Bench.{ops_of, documents}
use Rattle.lazy_plan.specs.Bench as bench
use Rattle.lazy_binding.specs.Cursors.{IsRead}
use Rattle.lazy_binding.specs.World.{reads}
use Rattle.lazy_walk.specs.declared.walk.Walk.{Walk}
use Rattle.lazy_walk.specs.Walks.{plan_of, state_of as walk_state}
use Rattle.lazy_value.specs.declared.mediator.Mediator.{Mediator}
use Rattle.lazy_value.specs.Named.{state_of}
use Rattle.mix_script.specs.Transcript.{Finished}
use Rattle.mix_script.specs.declared.step.Step.{Step}
use Rattle.view_class.specs.Reads.{reads_source}
use Rattle.view_stack.specs.Stacks.{Stacking, faults, is_forward, is_told as view_told, names, plans_of, sum_below, view_at, view_of}
use Rattle.xmas_read.specs.Results.{names_of_sources}
use Rattle.view_stack.specs.Steps.{AreOpen, AsksEach, Bounds, CostsAtMost}
use Rattle.mix_run.specs.Answered.{IsFar, IsTable, MayFail, far_faults, faults_below, is_told, spec_faults, table_faults}
use Rattle.mix_run.specs.Question.{AreCheap, IsPlanDocument, Question}
use Rattle.mix_run.specs.Running.{all_documents, placed_of, question_of}
use Rattle.mix_run.proofs.Answering.{IsOver}
use Rattle.mix_run.proofs.Mounts.{read_there}
use Rattle.mix_run.proofs.Places.{less_is, more_is, ops_at}
use Rattle.mix_run.proofs.ReadTables.{all_pass, is_read, plan_within, read_below}
use Rattle.mix_run.proofs.SourceFaults.{spec_failed}
use Rattle.mix_run.proofs.Sums.{RoseAtLeast, names_read, rose_at_least, stopped_rose, sums_rose}
use Rattle.mix_run.proofs.StackedDocuments.{documents_all, documents_below}
use Rattle.mix_run.proofs.StackedViews.{any_at, asked_by, far_no_view, file_no_view, lower_is, own_multiple, plan_at, plan_inside, some_ops, table_no_view, walk_ops}

module _ (files : FilesView) (a b : Reaching) (k k' : Stacking) (sources : List SourceSpec) (ops : List Operator) (place : ArePlaced files ops sources (placed_of a (plans_of k.views)))
    (within : AllByRecursion (HasSource (length sources)) ops) (keeps : Keeps k.base k'.base) (stand : StandIn k.base k'.base a b) (plans : plans_of k'.views ≡ plans_of k.views) where
  -- the plans of the views
  abbrev views : List (Option Plan)
  views = plans_of k.views

  -- the operators of the views
  abbrev lower : List (Option (List Operator))
  lower = lower_of views

  -- the sources that are no views
  abbrev base : List SourceSpec
  base = base_of sources

  -- there are as many sources below as no views
  counted : k.base.count ≡ length base
  counted = stand.tells.count ∙ place.mounted.count

  counted' : k'.base.count ≡ length base
  counted' = keeps.count ∙ counted

  -- a view of the later state has the plan of the same view of the earlier one
  still : (i : ℕ) → walk_ops (view_at k'.views i) ≡ walk_ops (view_at k.views i)
  still i = sym (lower_is k'.views i) ∙ ap (λ (p : List (Option Plan)). lower_at (lower_of p) i) plans ∙ lower_is k.views i

  -- WHAT IS READ

  -- there are as many views as sources after those that are no views
  all_views : length base + length views ≡ length sources
  all_views = (let h = place.lower.1 in let l = length-map views view_ops in omega (arith, h, l))

  -- the view at a place is a source of the catalog
  spec_of : (i : ℕ) → i < length views → (spec : SourceSpec) × (slice_get sources (view_number sources i) ≡ Some spec)
  spec_of i less =
      elim (slice_get_cases sources (view_number sources i)).1 as (λ _. (spec : SourceSpec) × (slice_get sources (view_number sources i) ≡ Some spec)) [
        | inl found ↦ (found.0, found.2)
        | inr past ↦ absurd (let p = past.0 in let h = all_views in omega (arith, p, h, less))
      ]

  -- a view's plan is over the sources that are no views
  plan_over : (i : ℕ) (p : Plan) → get_or views i None ≡ Some p → AllByRecursion (HasSource (length base)) (plan_value p).ops
  plan_over i p e =
      let spec = spec_of i (plan_inside views i p e) in
      let placed = subst (λ (r : Option Plan). IsViewPlaced files base spec.0 r) e (place.views i spec.0 spec.1) in
      let names = length-map base (λ (s : SourceSpec). s.name) in
      subst (λ (n : ℕ). AllByRecursion (HasSource n) (plan_value p).ops) names (plan_within base (plan_value p) placed.1)

  -- a source that a view reads is needed, and is no view
  lower_needs : (i : ℕ) (p : Plan) → get_or views i None ≡ Some p → (s : ℕ) → reads_source (plan_value p).ops s ≡ true → (needs ops lower s ≡ true) × (s < length base)
  lower_needs i p e s read = (
    or_right (reads_source ops s) (list_any (reads_lower s) lower) (any_at s lower i (plan_value p).ops (ops_at views i ∙ ap view_ops e) read),
    read_below (length base) (plan_value p).ops (plan_over i p e) s read,
  )

  -- a view that the plan reads is mounted
  mounted_view : (i : ℕ) → i < length views → reads_source ops (view_number sources i) ≡ true → (m : Walk) × (view_at k.views i ≡ Some m)
  mounted_view i less read =
      let spec = spec_of i less in
      let own = place.lower.0.each i spec.0 (let l = length-map views view_ops in omega (arith, less, l)) spec.1 in
      let at : lower_at lower i ≡ walk_ops (view_at k.views i) = lower_is k.views i in
      so (view_at k.views i) (subst (λ (r : Option (List Operator)). IsLower files (names_of_sources base) spec.0 (reads_source ops (view_number sources i)) r) at own)
    where
      so : (r : Option Walk) → IsLower files (names_of_sources base) (spec_of i less).0 (reads_source ops (view_number sources i)) (walk_ops r) → (m : Walk) × (r ≡ Some m)
      so None is = absurd (let z : true ≡ false = sym read ∙ is in cc)
      so (Some m) is = (m, refl)

  module _ (steps : List Step) (f : Finished) where
    -- what is asked
    abbrev q : Question
    q = question_of (stores_of a) (placed_of a views) sources ops steps f

    module _ (all : is_told (stores_of a) q ≡ true) where
      -- a source below that is needed is told and forward
      below_told : (s : ℕ) → s < length base → needs ops lower s ≡ true → (k.base.told s ≡ true) × (k.base.forward s ≡ true)
      below_told s less need =
          let h = read_there files ops sources a views place all s less need in
          (stand.tells.told s ∙ h.0, stand.tells.forward s ∙ h.1)

      -- a view's sources are told and forward
      pub opens : AreOpen k.base views
      opens = λ i p e. (
        all_pass k.base.told (plan_value p).ops (λ s read. (let n = lower_needs i p e s read in (below_told s n.1 n.0).0)),
        all_pass k.base.forward (plan_value p).ops (λ s read. (let n = lower_needs i p e s read in (below_told s n.1 n.0).1)),
      )

      -- a view that is mounted is told and forward
      view_open : (i : ℕ) (m : Walk) → view_at k.views i ≡ Some m → (view_told k.base (view_at k.views i) ≡ true) × (is_forward k.base (view_at k.views i) ≡ true)
      view_open i m e =
          let h = opens i (plan_of m) (plan_at k.views i ∙ ap (option_map plan_of) e) in
          (ap (view_told k.base) e ∙ h.0, ap (is_forward k.base) e ∙ both (bench.told (walk_state k.base m)) (bench.forward (walk_state k.base m)) h.0 h.1)
        where
          both : (x y : Bool) → x ≡ true → y ≡ true → (x && y) ≡ true
          both true true p r = refl
          both true false p r = absurd (let z : false ≡ true = r in cc)
          both false y p r = absurd (let z : false ≡ true = p in cc)

      -- a source of the stack that the plan reads is told and forward
      read_open : (s : ℕ) → reads_source ops s ≡ true → ((view_of k).told s ≡ true) × ((view_of k).forward s ≡ true)
      read_open s read =
          elim (cases_lt s k.base.count) as (λ _. ((view_of k).told s ≡ true) × ((view_of k).forward s ≡ true)) [
            | inl low ↦ (
                let c = counted in
                let test = less_is s k.base.count low in
                let h = below_told s (omega (arith, low, c)) (or_left (reads_source ops s) (list_any (reads_lower s) lower) read) in (
                  ap (λ b. cond b (k.base.told s) (view_told k.base (view_at k.views (s - k.base.count)))) test ∙ h.0,
                  ap (λ b. cond b (k.base.forward s) (is_forward k.base (view_at k.views (s - k.base.count)))) test ∙ h.1,
                )
                )
            | inr high ↦ (
                let c = counted in
                let v = all_views in
                let less = read_below (length sources) ops within s read in
                let i : ℕ = s - k.base.count in
                let here : s ≡ view_number sources i = omega (arith, high, c) in
                let m = mounted_view i (omega (arith, less, v, c, high)) (subst (λ (n : ℕ). reads_source ops n ≡ true) here read) in
                let test = more_is s k.base.count high in
                let h = view_open i m.0 m.1 in (
                  ap (λ b. cond b (k.base.told s) (view_told k.base (view_at k.views i))) test ∙ h.0,
                  ap (λ b. cond b (k.base.forward s) (is_forward k.base (view_at k.views i))) test ∙ h.1,
                )
                )
          ]

    -- WHAT FAILED

    -- a source of the stack that is no view failed as often as it did below
    failed_below : (s times : ℕ) → s < length base → HasRisenBy times ((view_of k).faults s) ((view_of k').faults s) → HasRisenBy times ((reached a).faults s) ((reached b).faults s)
    failed_below s times less rose =
        let c = counted in
        let c' = counted' in
        let old = ap (λ t. cond t (k.base.faults s) (faults k.base (view_at k.views (s - k.base.count)))) (less_is s k.base.count (omega (arith, less, c))) in
        let new = ap (λ t. cond t (k'.base.faults s) (faults k'.base (view_at k'.views (s - k'.base.count)))) (less_is s k'.base.count (omega (arith, less, c'))) in
        stand.faults s times (subst (λ (n : ℕ). HasRisenBy times n (k'.base.faults s)) old (subst (λ (n : ℕ). HasRisenBy times ((view_of k).faults s) n) new rose))

    -- a source that is needed and no view failed as often as its table, or as the source at another machine
    spec_rose : (s times : ℕ) (spec : SourceSpec) → slice_get base s ≡ Some spec → needs ops lower s ≡ true → HasRisenBy times ((view_of k).faults s) ((view_of k').faults s)
        → HasRisenBy times (spec_faults (stores_of a) (Some spec)) (spec_faults (stores_of b) (Some spec))
    spec_rose s times spec at need rose =
        let h = spec_failed files a b stand.came ops sources views place s spec at need in
        subst (λ (n : ℕ). HasRisenBy times n (spec_faults (stores_of b) (Some spec))) h.0
        (subst (λ (n : ℕ). HasRisenBy times ((reached a).faults s) n) h.1 (failed_below s times (slice_get_within base s spec at) rose))

    -- a table failed as often as its source
    tables : (s times : ℕ) (d : Declared) → IsTable (reads_source ops) sources s d → HasRisenBy times ((view_of k).faults s) ((view_of k').faults s)
        → HasRisenBy times (a.mounted.tables.faults d) (b.mounted.tables.faults d)
    tables s times d i rose =
        let at = base_there sources place.last s i.spec i.there (table_no_view i.spec.kind d i.declares) in
        let h = spec_rose s times i.spec at (or_left (reads_source ops s) (list_any (reads_lower s) lower) i.read) rose in
        let apart = (table_is_apart i.spec.kind d i.declares).1 in
        let ta = ap (table_faults a.mounted.tables) i.declares in
        let tb = ap (table_faults b.mounted.tables) i.declares in
        let fa = ap (far_faults a.fars) apart in
        let fb = ap (far_faults b.fars) apart in
        omega (arith, h, ta, tb, fa, fb)

    -- a source of another machine failed as often as its source
    fars : (s times : ℕ) (far : FarSource) → IsFar (reads_source ops) sources s far → HasRisenBy times ((view_of k).faults s) ((view_of k').faults s)
        → HasRisenBy times (a.fars.faults far) (b.fars.faults far)
    fars s times far i rose =
        let at = base_there sources place.last s i.spec i.there (far_no_view i.spec.kind far i.declares) in
        let h = spec_rose s times i.spec at (or_left (reads_source ops s) (list_any (reads_lower s) lower) i.read) rose in
        let apart = (far_is_apart i.spec.kind far i.declares).1 in
        let ta = ap (table_faults a.mounted.tables) apart in
        let tb = ap (table_faults b.mounted.tables) apart in
        let fa = ap (far_faults a.fars) i.declares in
        let fb = ap (far_faults b.fars) i.declares in
        omega (arith, h, ta, tb, fa, fb)

    -- where a source is a file, it never failed
    file_unfailed : (s times : ℕ) (spec : SourceSpec) → slice_get base s ≡ Some spec → needs ops lower s ≡ true → is_file_of spec.kind ≡ true → HasRisenBy times ((view_of k).faults s) ((view_of k').faults s) → times ≡ 0
    file_unfailed s times spec at need file rose =
        let h = spec_rose s times spec at need rose in
        let apart = file_is_apart spec.kind file in
        let ta = ap (table_faults a.mounted.tables) apart.0 in
        let tb = ap (table_faults b.mounted.tables) apart.0 in
        let fa = ap (far_faults a.fars) apart.1 in
        let fb = ap (far_faults b.fars) apart.1 in
        omega (arith, h, ta, tb, fa, fb)

    -- a source that the plan reads and that failed is a table, at another machine, or a view
    failed : (s times : ℕ) → HasRisenBy times ((view_of k).faults s) ((view_of k').faults s) → IsRead ops s → (times ≡ 0 → ⊥) → MayFail (reads_source ops) sources s
    failed s times rose is some =
        let read = is_read ops s is in
        let less = read_below (length sources) ops within s read in
        let need = or_left (reads_source ops s) (list_any (reads_lower s) lower) read in
        elim (slice_get_cases sources s).1 as (λ _. MayFail (reads_source ops) sources s) [
          | inl found ↦ (
              let spec : SourceSpec = found.0 in
              elim (each_is_one spec.kind) as (λ _. MayFail (reads_source ops) sources s) [
                | inl file ↦ absurd (some (file_unfailed s times spec (base_there sources place.last s spec found.2 (file_no_view spec.kind file)) need file rose))
                | inr (inl table) ↦ inl (table.0, record { spec = spec; there = found.2; read = read; declares = table.1 })
                | inr (inr (inl far)) ↦ inr (inl (far.0, record { spec = spec; there = found.2; read = read; declares = far.1 }))
                | inr (inr (inr view)) ↦ inr (inr (record { spec = spec; there = found.2; read = read; view = view }))
              ]
              )
          | inr past ↦ absurd (let p = past.0 in omega (arith, p, less))
        ]

    -- what a source below that is needed failed more often rose at least as much at what stands where its kind says
    source_rose : (s : ℕ) → s < length base → needs ops lower s ≡ true
        → RoseAtLeast (k.base.faults s) (k'.base.faults s) (spec_faults (stores_of a) (slice_get base s)) (spec_faults (stores_of b) (slice_get base s))
    source_rose s less need =
        elim (slice_get_cases base s).1 as (λ _. RoseAtLeast (k.base.faults s) (k'.base.faults s) (spec_faults (stores_of a) (slice_get base s)) (spec_faults (stores_of b) (slice_get base s))) [
          | inl found ↦ (
              let spec : SourceSpec = found.0 in
              let h = spec_failed files a b stand.came ops sources views place s spec found.2 need in
              subst (λ (r : Option SourceSpec). RoseAtLeast (k.base.faults s) (k'.base.faults s) (spec_faults (stores_of a) r) (spec_faults (stores_of b) r)) (sym found.2)
              (subst (λ (n : ℕ). RoseAtLeast (k.base.faults s) (k'.base.faults s) n (spec_faults (stores_of b) (Some spec))) h.0
              (subst (λ (n : ℕ). RoseAtLeast (k.base.faults s) (k'.base.faults s) ((reached a).faults s) n) h.1
              (rose_at_least (k.base.faults s) (k'.base.faults s) ((reached a).faults s) ((reached b).faults s) (stand.faults s) (stand.earlier s) (keeps.faults s) ((came_keeps a b stand.came).faults s))))
              )
          | inr past ↦ absurd (let p = past.0 in omega (arith, p, less))
        ]

    -- a view failed as often as what the sources that it reads stand for
    views_rose : (i times : ℕ) (lops : List Operator) → lower_at lower i ≡ Some lops → HasRisenBy times ((view_of k).faults (view_number sources i)) ((view_of k').faults (view_number sources i))
        → HasRisenBy times (faults_below (stores_of a) sources lops) (faults_below (stores_of b) sources lops)
    views_rose i times lops e rose =
        let c = counted in
        let c' = counted' in
        let s : ℕ = view_number sources i in
        let m = some_ops (view_at k.views i) lops (sym (lower_is k.views i) ∙ e) in
        let m' = some_ops (view_at k'.views i) lops (still i ∙ sym (lower_is k.views i) ∙ e) in
        let place : s - k.base.count ≡ i = omega (arith, c) in
        let place' : s - k'.base.count ≡ i = omega (arith, c') in
        let old : (view_of k).faults s ≡ min (sum_below (reads_source lops) k.base.faults (length base)) (2 ^ 64 - 1) =
        ap (λ t. cond t (k.base.faults s) (faults k.base (view_at k.views (s - k.base.count)))) (more_is s k.base.count (omega (arith, c)))
        ∙ ap (λ n. faults k.base (view_at k.views n)) place ∙ ap (faults k.base) m.1
        ∙ ap (λ (o : List Operator). min (sum_below (names o) k.base.faults k.base.count) (2 ^ 64 - 1)) m.2
        ∙ ap (λ (f : ℕ → Bool). min (sum_below f k.base.faults k.base.count) (2 ^ 64 - 1)) (names_read lops)
        ∙ ap (λ n. min (sum_below (reads_source lops) k.base.faults n) (2 ^ 64 - 1)) c in
        let new : (view_of k').faults s ≡ min (sum_below (reads_source lops) k'.base.faults (length base)) (2 ^ 64 - 1) =
        ap (λ t. cond t (k'.base.faults s) (faults k'.base (view_at k'.views (s - k'.base.count)))) (more_is s k'.base.count (omega (arith, c')))
        ∙ ap (λ n. faults k'.base (view_at k'.views n)) place' ∙ ap (faults k'.base) m'.1
        ∙ ap (λ (o : List Operator). min (sum_below (names o) k'.base.faults k'.base.count) (2 ^ 64 - 1)) m'.2
        ∙ ap (λ (f : ℕ → Bool). min (sum_below f k'.base.faults k'.base.count) (2 ^ 64 - 1)) (names_read lops)
        ∙ ap (λ n. min (sum_below (reads_source lops) k'.base.faults n) (2 ^ 64 - 1)) c' in
        stopped_rose times (sum_below (reads_source lops) k.base.faults (length base)) (sum_below (reads_source lops) k'.base.faults (length base)) (faults_below (stores_of a) sources lops) (faults_below (stores_of b) sources lops)
        (sums_rose (reads_source lops) k.base.faults k'.base.faults (λ n. spec_faults (stores_of a) (slice_get base n)) (λ n. spec_faults (stores_of b) (slice_get base n)) (length base)
        (λ n less read. source_rose n less (or_right (reads_source ops n) (list_any (reads_lower n) lower) (any_at n lower i lops e read))))
        (subst (λ (n : ℕ). HasRisenBy times n (min (sum_below (reads_source lops) k'.base.faults (length base)) (2 ^ 64 - 1))) old
        (subst (λ (n : ℕ). HasRisenBy times ((view_of k).faults s) n) new rose))

    -- WHAT WAS ASKED

    module _ (none_below : a.fills ≡ 0) (none_asked : k.fills ≡ 0) (lazy : (most : ℕ) → Bounds k.base views most → AreOpen k.base views → AsksEach k k' most) (most_fills : b.fills ≤ 2 ^ 64 - 1) where
      -- what is cheap of the question bounds the steps of the views
      bounds : (most : ℕ) → AreCheap q most → Bounds k.base views most
      bounds most cheap = record {
        one = cheap.one;
        steps = λ i p e. subst (λ (d : Documents). CostsAtMost d (plan_value p).ops most) (sym (documents_below a k stand.tells)) (cheap.steps i (plan_value p).ops (ops_at views i ∙ ap view_ops e));
      }

      -- where all is told, so many fills of the stack ask at most as many of what is reached as a step of a view costs, for each
      fills : is_told (stores_of a) q ≡ true → (most asked : ℕ) → AreCheap q most → k'.fills ≤ asked → b.fills ≤ most * asked
      fills all most asked cheap less = so (lazy most (bounds most cheap) (opens all))
        where
          start : (f m x : ℕ) → f ≡ 0 → m * f + x ≡ x
          start f m x e = ap (λ n. m * n + x) e ∙ zero_times m x
            where
              zero_times : (m x : ℕ) → m * 0 + x ≡ x
              zero_times m x = omega arith

          so : AsksEach k k' most → b.fills ≤ most * asked
          so (inl h) =
              let s = stand.fills in
              let z = start k.fills most k'.base.fills none_asked in
              asked_by b.fills k'.fills asked most (reach b.fills k'.base.fills k.base.fills (most * k'.fills) (most * k.fills) s none_below h z) less
            where
              reach : (bf n o x y : ℕ) → bf + o ≤ a.fills + n → a.fills ≡ 0 → n + y ≤ o + x → y + n ≡ n → bf ≤ x
              reach bf n o x y s z h e = omega (arith, s, z, h, e)
          so (inr h) = (let own = own_multiple most asked cheap.one in omega (arith, h, own, less, most_fills))

      -- the stack is to what is asked what sources have to be that are walked
      pub over : (m : Mediator) → ops_of (state_of (view_of k) m) ≡ ops → IsPlanDocument (all_documents (stores_of a) (placed_of a views)) ops f.tree → IsOver (view_of k) (view_of k') (state_of (view_of k) m) a b q
      over m is document_is =
          let docs : documents (state_of (view_of k) m) ≡ all_documents (stores_of a) (placed_of a views) = fun_ext (documents_all a k stand.tells) in
          record {
            ops = is;
            docs = docs;
            told = λ all. (
              (
                subst (λ (o : List Operator). list_all (reads (view_of k).told) o ≡ true) (sym is) (all_pass (view_of k).told ops (λ s read. (read_open all s read).0)),
                subst (λ (d : Documents). document (visited d) (ops_of (state_of (view_of k) m)) ≡ Some f.tree) (sym docs)
                    (subst (λ (o : List Operator). document (visited (all_documents (stores_of a) (placed_of a views))) o ≡ Some f.tree) (sym is) document_is),
              ),
              subst (λ (o : List Operator). list_all (reads (view_of k).forward) o ≡ true) (sym is) (all_pass (view_of k).forward ops (λ s read. (read_open all s read).1)),
            );
            failed = failed;
            tables = tables;
            fars = fars;
            views = views_rose;
            unasked = none_asked;
            fills = fills;
          }
