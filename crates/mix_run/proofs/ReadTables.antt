-- Sources that a plan's operators read, and whether their documents are told.
use Rattle.std.proofs.Common.{◌≡◌, ◌+◌, ◌<◌, ◌||◌, not, ℕ, zero, suc, Bool, true, false, List, [], ◌∷◌, Some, refl, subst, arith, length, slice_get, eq-eqb}
use Rattle.std.specs.List.{AllByRecursion, list_all, list_any}
use Rattle.std.proofs.lemmas.Bool.{or_left, or_right}
use Rattle.std.proofs.lemmas.Bool.Decides.{nat_tests}
use Rattle.std.proofs.lemmas.Option.{same_Some, slice_get_within}
use Rattle.mix_base.proofs.Choices.{and_both, and_parts}
use Rattle.mix_catalog.specs.declared.source.SourceSpec.{SourceSpec}
use Rattle.mix_reach.specs.Stores.{StoresView}
use Rattle.table_wrap.specs.Document.{declared_in}
use Rattle.xmas_read.specs.Results.{names_of_sources}
use Rattle.plan_core.specs.Plans.{Operator, PlanValue}
use Rattle.plan_core.specs.Shapes.{Shape, one_source, visits_below, pairs_up, passes_on, no_events, shape_of, shape_at}
use Rattle.plan_core.specs.Valid.{HasSource, ReadsSource}
use Rattle.lazy_binding.specs.Cursors.{IsRead, source_number}
use Rattle.lazy_binding.specs.World.{reads, shape_reads as passes}
use Rattle.mix_run.specs.Answered.{is_far_told, is_spec_told, is_table_told, told_from}
use Rattle.mix_place.specs.Documents.{far_in}
use Rattle.mix_place.specs.Plans.{IsPlanOver}
use Rattle.view_class.specs.Reads.{op_reads, reads_source, shape_reads}

-- the source that a shape reads passes a test which all sources pass that are read
shape_passes : (p : ℕ → Bool) (f : Shape) → ((s : ℕ) → shape_reads s f ≡ true → p s ≡ true) → passes p f ≡ true
shape_passes p (one_source s out) h = h s (eq-eqb s s refl)
shape_passes p (visits_below input start path out) h = refl
shape_passes p (pairs_up left right tests) h = refl
shape_passes p (passes_on input stage) h = refl
shape_passes p (no_events input made) h = refl

-- each source that operators read passes a test, where all pass it that they read
pub all_pass : (p : ℕ → Bool) (ops : List Operator) → ((s : ℕ) → reads_source ops s ≡ true → p s ≡ true) → list_all (reads p) ops ≡ true
all_pass p [] h = refl
all_pass p (op ∷ ops) h =
    and_both (reads p op) (list_all (reads p) ops)
    (shape_passes p (shape_of op) (λ s e. h s (or_left (op_reads s op) (list_any (op_reads s) ops) e)))
    (all_pass p ops (λ s e. h s (or_right (op_reads s op) (list_any (op_reads s) ops) e)))

-- a shape reads the source whose number it has
number_reads : (f : Shape) (s : ℕ) → source_number f ≡ Some s → shape_reads s f ≡ true
number_reads (one_source number out) s e = eq-eqb number s (same_Some number s e)
number_reads (visits_below input start path out) s e = cc
number_reads (pairs_up left right tests) s e = cc
number_reads (passes_on input stage) s e = cc
number_reads (no_events input made) s e = cc

-- the source that the operator of a number reads is one that the operators read
at_reads : (ops : List Operator) (n : ℕ) → n < length ops → (s : ℕ) → source_number (shape_at ops n) ≡ Some s → reads_source ops s ≡ true
at_reads [] n h s e = absurd (omega (arith, h))
at_reads (op ∷ ops) zero h s e = or_left (op_reads s op) (list_any (op_reads s) ops) (number_reads (shape_of op) s e)
at_reads (op ∷ ops) (suc n) h s e = or_right (op_reads s op) (list_any (op_reads s) ops) (at_reads ops n (omega (arith, h)) s e)

-- a source that a bench says to be read is one that the operators read
pub is_read : (ops : List Operator) (s : ℕ) → IsRead ops s → reads_source ops s ≡ true
is_read ops s r = at_reads ops r.number r.within s r.is

-- a source that a shape reads is below a bound of the shape's source
shape_below : (n s : ℕ) (f : Shape) → ReadsSource n f → shape_reads s f ≡ true → s < n
shape_below n s (one_source number out) h e = (let same : number ≡ s = grind (arith, nat_tests, e) in omega (arith, h, same))
shape_below n s (visits_below input start path out) h e = (let z : false ≡ true = e in cc)
shape_below n s (pairs_up left right tests) h e = (let z : false ≡ true = e in cc)
shape_below n s (passes_on input stage) h e = (let z : false ≡ true = e in cc)
shape_below n s (no_events input made) h e = (let z : false ≡ true = e in cc)

-- a source that operators read is below a bound of their sources
pub read_below : (n : ℕ) (ops : List Operator) → AllByRecursion (HasSource n) ops → (s : ℕ) → reads_source ops s ≡ true → s < n
read_below n [] h s e = (let z : false ≡ true = e in cc)
read_below n (op ∷ ops) h s e =
    (elim (op_reads s op) as (λ b. op_reads s op ≡ b → (b || reads_source ops s) ≡ true → s < n) [
      | true ↦ λ is _. shape_below n s (shape_of op) h.0 is
      | false ↦ λ _ rest. read_below n ops h.1 s rest
    ]) refl e

-- the sources of a plan over a catalog are below the number of the catalog's names
pub plan_within : (sources : List SourceSpec) (p : PlanValue) → IsPlanOver sources p → AllByRecursion (HasSource (length (names_of_sources sources))) p.ops
plan_within sources p over = subst (λ (names : List (List ℕ)). AllByRecursion (HasSource (length names)) p.ops) over.names over.valid.sources

-- what holds where something is read holds where it is
read_told : (b c : Bool) → b ≡ true → not b || c ≡ true → c ≡ true
read_told true c e h = h
read_told false c e h = (let z : false ≡ true = e in cc)

-- where all documents of chosen sources are told, each is
pub spec_told_at : (stores : StoresView) (chosen : ℕ → Bool) (n : ℕ) (sources : List SourceSpec) → told_from stores chosen n sources ≡ true → (s : ℕ) (spec : SourceSpec) → slice_get sources s ≡ Some spec
    → chosen (n + s) ≡ true → is_spec_told stores spec ≡ true
spec_told_at stores chosen n [] h s spec e read = absurd (let w = slice_get_within [] s spec e in omega (arith, w))
spec_told_at stores chosen n (x ∷ xs) h zero spec e read =
    let parts = and_parts (not (chosen n) || is_spec_told stores x) (told_from stores chosen (n + 1) xs) h in
    let place : n + 0 ≡ n = omega arith in
    let this : chosen n ≡ true = subst (λ (k : ℕ). chosen k ≡ true) place read in
    subst (λ (y : SourceSpec). is_spec_told stores y ≡ true) (same_Some x spec e) (read_told (chosen n) (is_spec_told stores x) this parts.0)
spec_told_at stores chosen n (x ∷ xs) h (suc s) spec e read =
    let parts = and_parts (not (chosen n) || is_spec_told stores x) (told_from stores chosen (n + 1) xs) h in
    let place : n + suc s ≡ n + 1 + s = omega arith in
    spec_told_at stores chosen (n + 1) xs parts.1 s spec e (subst (λ (k : ℕ). chosen k ≡ true) place read)

-- where the document of a source is told, its rows are where it is a table, and its document where it is at another machine
pub told_parts : (stores : StoresView) (spec : SourceSpec) → is_spec_told stores spec ≡ true → (is_table_told stores.tables (declared_in spec.kind) ≡ true) × (is_far_told stores.fars (far_in spec.kind) ≡ true)
told_parts stores spec h = and_parts (is_table_told stores.tables (declared_in spec.kind)) (is_far_told stores.fars (far_in spec.kind)) h
