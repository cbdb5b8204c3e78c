use Rattle.std.proofs.Common.{◌≡◌, ◌∙◌, ◌+◌, ℕ, Bool, true, List, Option, Some, ap, sym, subst, refl, arith, length, slice_get, ◌++◌, ◌∷◌, []}
use Rattle.std.proofs.lemmas.Result.{err_from_is_err_and}
use Rattle.std.proofs.lemmas.List.{length-append, length-map, map-append}
use Rattle.plan_core.specs.declared.plan.Plan.{Plan}
use Rattle.plan_core.specs.PlanMade.{plan_value}
use Rattle.plan_core.specs.Plans.{Operator}
use Rattle.mix_catalog.specs.declared.source.SourceSpec.{SourceSpec}
use Rattle.mix_catalog.specs.Grammar.{file_of}
use Rattle.mix_catalog.specs.Sources.{base_of}
use Rattle.view_class.specs.Reads.{reads_source}
use Rattle.xmas_read.specs.Results.{names_of_sources}
use Rattle.mix_place.specs.Placed.{AreLower, IsLowerStop, IsViewFileBefore, ViewsMayRead, view_number}
use Rattle.mix_place.specs.Reading.{ReadsAmong}
use Rattle.mix_place.specs.Views.{IsLower, lower_of, view_ops}
use Rattle.mix_place.proofs.Bases.{base_short}
use Rattle.mix_place.proofs.MountLaws.{steady_twice}
use Rattle.mix_place.proofs.ReadingLaws.{reads_twice}
use Rattle.mix_place.proofs.ViewLaws.{IsOwnFile, lower_before, lower_stop_at, lower_more, lower_none, own_may, reads_views, views_stop}
use Rattle.mix_place.proofs.viewing.load_views.Goals as goal

pub returns-in_err-load_lower-clause-reads : goal.returns-in_err-load_lower-clause-reads
returns-in_err-load_lower-clause-reads g c =
    let view = g.F.Files.view in
    let old = view c.args.files.now in
    let ops = (plan_value c.args.plan.now).ops in
    let sources = c.args.catalog.now in
    let i : ℕ = length c.loop-n.views.items in
    let spec = c.spec.result.now in
    let lower = lower_of c.loop-n.views.items in
    let there : slice_get sources (view_number sources i) ≡ Some spec = subst (λ (n : ℕ). slice_get sources n ≡ Some spec) c.loop-n.invariant.number c.spec.ensures.spec in
    let e : c.reads_source-read.result ≡ reads_source ops (view_number sources i) = c.reads_source-read.ensures ∙ ap (reads_source ops) c.loop-n.invariant.number in
    let names : List (List ℕ) = names_of_sources (base_of sources) in
    let own : ReadsAmong (IsOwnFile ops sources i spec there) (view c.loop-n.files) (view c.load_lower.new.files) =
    subst (λ (b : Bool). ReadsAmong (λ path. (b ≡ true) × (path ≡ file_of spec.kind)) (view c.loop-n.files) (view c.load_lower.new.files)) e c.in_err-load_lower.ensures.reads in
    let may = reads_twice (ViewsMayRead old ops sources) old (view c.loop-n.files) (view c.load_lower.new.files) c.loop-n.invariant.may
    (own_may ops sources i spec there old (view c.loop-n.files) lower c.loop-n.invariant.steady c.loop-n.invariant.lower (view c.load_lower.new.files) own) in
    may

pub returns-in_err-load_lower-clause-err : goal.returns-in_err-load_lower-clause-err
returns-in_err-load_lower-clause-err g c =
    let view = g.F.Files.view in
    let old = view c.args.files.now in
    let ops = (plan_value c.args.plan.now).ops in
    let sources = c.args.catalog.now in
    let i : ℕ = length c.loop-n.views.items in
    let spec = c.spec.result.now in
    let lower = lower_of c.loop-n.views.items in
    let there : slice_get sources (view_number sources i) ≡ Some spec = subst (λ (n : ℕ). slice_get sources n ≡ Some spec) c.loop-n.invariant.number c.spec.ensures.spec in
    let e : c.reads_source-read.result ≡ reads_source ops (view_number sources i) = c.reads_source-read.ensures ∙ ap (reads_source ops) c.loop-n.invariant.number in
    let names : List (List ℕ) = names_of_sources (base_of sources) in
    let own : ReadsAmong (IsOwnFile ops sources i spec there) (view c.loop-n.files) (view c.load_lower.new.files) =
    subst (λ (b : Bool). ReadsAmong (λ path. (b ≡ true) × (path ≡ file_of spec.kind)) (view c.loop-n.files) (view c.load_lower.new.files)) e c.in_err-load_lower.ensures.reads in
    let may = reads_twice (ViewsMayRead old ops sources) old (view c.loop-n.files) (view c.load_lower.new.files) c.loop-n.invariant.may
    (own_may ops sources i spec there old (view c.loop-n.files) lower c.loop-n.invariant.steady c.loop-n.invariant.lower (view c.load_lower.new.files) own) in
    let p = err_from_is_err_and c.from_residual-in_err-load_lower.result c.from_residual-in_err-load_lower.ensures.1 in
    rw (p.1, p.2) (views_stop ops sources i spec there old (view c.loop-n.files) lower c.loop-n.invariant.steady c.loop-n.invariant.lower (view c.load_lower.new.files) _ c.loop-n.invariant.reads
    (lower_stop_at (view c.loop-n.files) (view c.load_lower.new.files) (names_of_sources c.in_ok-base.base) names spec c.reads_source-read.result _ _ (ap names_of_sources c.in_ok-base.ensures.base) e c.in_err-load_lower.ensures.err) own)

pub returns-in_err-push-clause-reads : goal.returns-in_err-push-clause-reads
returns-in_err-push-clause-reads g c =
    let view = g.F.Files.view in
    let old = view c.args.files.now in
    let ops = (plan_value c.args.plan.now).ops in
    let sources = c.args.catalog.now in
    let i : ℕ = length c.loop-n.views.items in
    let spec = c.spec.result.now in
    let lower = lower_of c.loop-n.views.items in
    let there : slice_get sources (view_number sources i) ≡ Some spec = subst (λ (n : ℕ). slice_get sources n ≡ Some spec) c.loop-n.invariant.number c.spec.ensures.spec in
    let e : c.reads_source-read.result ≡ reads_source ops (view_number sources i) = c.reads_source-read.ensures ∙ ap (reads_source ops) c.loop-n.invariant.number in
    let names : List (List ℕ) = names_of_sources (base_of sources) in
    let own : ReadsAmong (IsOwnFile ops sources i spec there) (view c.loop-n.files) (view c.load_lower.new.files) =
    subst (λ (b : Bool). ReadsAmong (λ path. (b ≡ true) × (path ≡ file_of spec.kind)) (view c.loop-n.files) (view c.load_lower.new.files)) e c.in_ok-load_lower.ensures.reads in
    let may = reads_twice (ViewsMayRead old ops sources) old (view c.loop-n.files) (view c.load_lower.new.files) c.loop-n.invariant.may
    (own_may ops sources i spec there old (view c.loop-n.files) lower c.loop-n.invariant.steady c.loop-n.invariant.lower (view c.load_lower.new.files) own) in
    may

pub loop-n-preserved : goal.loop-n-preserved
loop-n-preserved g c =
    let view = g.F.Files.view in
    let old = view c.args.files.now in
    let ops = (plan_value c.args.plan.now).ops in
    let sources = c.args.catalog.now in
    let i : ℕ = length c.loop-n.views.items in
    let spec = c.spec.result.now in
    let lower = lower_of c.loop-n.views.items in
    let there : slice_get sources (view_number sources i) ≡ Some spec = subst (λ (n : ℕ). slice_get sources n ≡ Some spec) c.loop-n.invariant.number c.spec.ensures.spec in
    let e : c.reads_source-read.result ≡ reads_source ops (view_number sources i) = c.reads_source-read.ensures ∙ ap (reads_source ops) c.loop-n.invariant.number in
    let names : List (List ℕ) = names_of_sources (base_of sources) in
    let own : ReadsAmong (IsOwnFile ops sources i spec there) (view c.loop-n.files) (view c.load_lower.new.files) =
    subst (λ (b : Bool). ReadsAmong (λ path. (b ≡ true) × (path ≡ file_of spec.kind)) (view c.loop-n.files) (view c.load_lower.new.files)) e c.in_ok-load_lower.ensures.reads in
    let may = reads_twice (ViewsMayRead old ops sources) old (view c.loop-n.files) (view c.load_lower.new.files) c.loop-n.invariant.may
    (own_may ops sources i spec there old (view c.loop-n.files) lower c.loop-n.invariant.steady c.loop-n.invariant.lower (view c.load_lower.new.files) own) in
    let mid = view c.loop-n.files in
    let lower_view : Option Plan = c.in_ok-load_lower.field-0 in
    let more : length (c.loop-n.views.items ++ lower_view ∷ []) ≡ i + 1 = length-append c.loop-n.views.items (lower_view ∷ []) in
    let new_lower : lower_of (c.loop-n.views.items ++ lower_view ∷ []) ≡ lower ++ view_ops lower_view ∷ [] = map-append view_ops c.loop-n.views.items (lower_view ∷ []) in
    let is : IsLower mid names spec (reads_source ops (view_number sources i)) (view_ops lower_view) =
    subst (λ (b : Bool). IsLower mid names spec b (view_ops lower_view)) e (subst (λ (base : List SourceSpec). IsLower mid (names_of_sources base) spec c.reads_source-read.result (view_ops lower_view)) c.in_ok-base.ensures.base c.in_ok-load_lower.ensures.ok) in
    let number = c.loop-n.invariant.number in
    rw c.in_ok-push.ensures.items (record {
      steady = steady_twice old mid (view c.load_lower.new.files) c.loop-n.invariant.steady (record { keeps = c.in_ok-load_lower.ensures.keeps; faults = c.in_ok-load_lower.ensures.steady });
      number = omega (arith, number, more);
      within = (let t = c.loop-n-test.true in let e' = c.len-n-end.ensures.len in let s = c.loop-n.auto.n-end in omega (arith, t, e', s));
      lower = subst (λ (n : ℕ). AreLower old ops sources n (lower_of (c.loop-n.views.items ++ lower_view ∷ []))) (sym more)
          (subst (λ (l : List (Option (List Operator))). AreLower old ops sources (i + 1) l) (sym new_lower)
          (lower_more old ops sources i lower spec (view_ops lower_view) c.loop-n.invariant.lower there (lower_before old mid names spec (reads_source ops (view_number sources i)) (view_ops lower_view) c.loop-n.invariant.steady.keeps is)));
      may = may;
      reads = subst (λ (n : ℕ). ReadsAmong (IsViewFileBefore ops sources n) old (view c.load_lower.new.files)) (sym more) (reads_views ops sources i spec there old mid (view c.load_lower.new.files) c.loop-n.invariant.reads own);
    })

pub returns-clause-reads : goal.returns-clause-reads
returns-clause-reads g c = c.loop-n.invariant.may

pub returns-clause-ok : goal.returns-clause-ok
returns-clause-ok g c =
    let sources = c.args.catalog.now in
    let views = c.loop-n.views.items in
    let l : length (lower_of views) ≡ length views = length-map views view_ops in
    let number = c.loop-n.invariant.number in
    let w = c.loop-n.invariant.within in
    let a = c.loop-n-test.false in
    let e = c.len-n-end.ensures.len in
    let s = c.loop-n.auto.n-end in (
      subst (λ (n : ℕ). AreLower (g.F.Files.view c.args.files.now) (plan_value c.args.plan.now).ops sources n (lower_of views)) (sym l) c.loop-n.invariant.lower,
      omega (arith, l, number, w, a, e, s),
    )

pub loop-n-init : goal.loop-n-init
loop-n-init g c =
    let base_is = c.in_ok-base.ensures.base in
    let sources = c.args.catalog.now in
    let len : c.len-n.result ≡ length (base_of sources) = c.len-n.ensures.len ∙ ap (λ (l : List SourceSpec). length l) base_is in
    let short = base_short sources in
    rw c.new-views.ensures.items (record {
      steady = record { keeps = record { told = λ p. refl; furthest = λ p. omega arith; faults = λ p. omega arith }; faults = λ p. refl };
      number = omega (arith, len);
      within = omega (arith, len, short);
      lower = lower_none (g.F.Files.view c.args.files.now) (plan_value c.args.plan.now).ops sources;
      may = λ path unset. refl;
      reads = λ path unset. refl;
    })
