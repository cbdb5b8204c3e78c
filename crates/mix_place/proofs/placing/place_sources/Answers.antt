use Rattle.std.proofs.Common.{◌≡◌, ◌∙◌, ◌+◌, ℕ, Bool, true, List, Option, Some, ap, inl, sym, subst, refl, arith, length, slice_get, ◌++◌, ◌∷◌, []}
use Rattle.std.proofs.lemmas.Result.{err_from_is_err_and}
use Rattle.std.proofs.lemmas.List.{length-append, length-map, map-append}
use Rattle.plan_core.specs.declared.plan.Plan.{Plan}
use Rattle.plan_core.specs.PlanMade.{plan_value}
use Rattle.plan_core.specs.Plans.{Operator}
use Rattle.mix_catalog.specs.declared.source.SourceSpec.{SourceSpec}
use Rattle.mix_catalog.specs.Grammar.{file_of}
use Rattle.mix_catalog.specs.Sources.{base_of}
use Rattle.view_class.specs.Reads.{reads_source}
use Rattle.xmas_read.specs.Results.{names_of_sources}
use Rattle.mix_io.proofs.Keeps.{keeps_files_twice}
use Rattle.mix_mount.specs.declared.mount.Mount.{Mount}
use Rattle.mix_place.specs.Chosen.{ChosenMayRead}
use Rattle.mix_place.specs.Mounting.{AreChosenMounted, AreMountedBeside, AreSites, IsMountStop}
use Rattle.mix_place.specs.Placed.{AreLower, AreReadTo, IsFileUpTo, IsLowerStop, IsPlaceStop, IsViewPlaced, SourceMayRead, view_number}
use Rattle.mix_place.specs.Reading.{IsFileBefore, ReadsAmong}
use Rattle.mix_place.specs.Views.{IsLower, adds, lower_of, needs, view_ops}
use Rattle.mix_place.proofs.MountLaws.{is_steady, steady_twice}
use Rattle.mix_place.proofs.Needs.{chosen_accepted, mounted_wider, needs_none}
use Rattle.mix_place.proofs.PlaceLaws.{mounted_still, view_placed_before}
use Rattle.mix_place.proofs.Bases.{base_short}
use Rattle.mix_place.proofs.ReadingLaws.{reads_twice, reads_wider}
use Rattle.std.proofs.lemmas.Option.{slice_get_within}
use Rattle.mix_place.proofs.ViewLaws.{ArePlacedTo, IsOwnFile, added_may, added_stops, lower_before, lower_more, lower_none, lower_stop_at, mount_stop_at, placed_more, reads_up_to, view_may, view_stops}
use Rattle.mix_place.proofs.placing.place_sources.Goals as goal

pub mount_sources-requires : goal.mount_sources-requires
mount_sources-requires g c = (c.requires.0, c.args.catalog.now, c.requires.1, c.in_ok-base.ensures.base)

pub returns-in_err-lower-clause-reads : goal.returns-in_err-lower-clause-reads
returns-in_err-lower-clause-reads g c =
    let view = g.F.Files.view in
    let old = view c.args.files.now in
    let ops = (plan_value c.args.plan.now).ops in
    let sources = c.args.catalog.now in
    let i : ℕ = length c.loop-n.views.items in
    let spec = c.spec.result.now in
    let lower = lower_of c.loop-n.views.items in
    let there : slice_get sources (view_number sources i) ≡ Some spec = subst (λ (n : ℕ). slice_get sources n ≡ Some spec) c.loop-n.invariant.number c.spec.ensures.spec in
    let e : c.reads_source-read.result ≡ reads_source ops (view_number sources i) = c.reads_source-read.ensures ∙ ap (reads_source ops) c.loop-n.invariant.number in
    let names : List (List ℕ) = names_of_sources (base_of sources) in
    let mid = view c.loop-n.files in
    let late = view c.load_lower.new.files in
    let own : ReadsAmong (IsOwnFile ops sources i spec there) mid late = subst (λ (b : Bool). ReadsAmong (λ path. (b ≡ true) × (path ≡ file_of spec.kind)) mid late) e c.in_err-lower.ensures.reads in
    let are : AreReadTo old ops sources i lower = record { views = c.loop-n.invariant.lower; accepted = chosen_accepted old (needs ops lower) (base_of sources) (length (base_of sources)) c.loop-n.docs.items c.loop-n.invariant.mounted } in
    let may_view = reads_twice (SourceMayRead old ops sources) old mid late c.loop-n.invariant.may (view_may ops sources i spec there old mid lower c.loop-n.invariant.steady are late own) in
    may_view

pub returns-in_err-lower-clause-err : goal.returns-in_err-lower-clause-err
returns-in_err-lower-clause-err g c =
    let view = g.F.Files.view in
    let old = view c.args.files.now in
    let ops = (plan_value c.args.plan.now).ops in
    let sources = c.args.catalog.now in
    let i : ℕ = length c.loop-n.views.items in
    let spec = c.spec.result.now in
    let lower = lower_of c.loop-n.views.items in
    let there : slice_get sources (view_number sources i) ≡ Some spec = subst (λ (n : ℕ). slice_get sources n ≡ Some spec) c.loop-n.invariant.number c.spec.ensures.spec in
    let e : c.reads_source-read.result ≡ reads_source ops (view_number sources i) = c.reads_source-read.ensures ∙ ap (reads_source ops) c.loop-n.invariant.number in
    let names : List (List ℕ) = names_of_sources (base_of sources) in
    let mid = view c.loop-n.files in
    let late = view c.load_lower.new.files in
    let own : ReadsAmong (IsOwnFile ops sources i spec there) mid late = subst (λ (b : Bool). ReadsAmong (λ path. (b ≡ true) × (path ≡ file_of spec.kind)) mid late) e c.in_err-lower.ensures.reads in
    let are : AreReadTo old ops sources i lower = record { views = c.loop-n.invariant.lower; accepted = chosen_accepted old (needs ops lower) (base_of sources) (length (base_of sources)) c.loop-n.docs.items c.loop-n.invariant.mounted } in
    let may_view = reads_twice (SourceMayRead old ops sources) old mid late c.loop-n.invariant.may (view_may ops sources i spec there old mid lower c.loop-n.invariant.steady are late own) in
    let p = err_from_is_err_and c.from_residual-in_err-lower.result c.from_residual-in_err-lower.ensures.1 in
    rw (p.1, p.2) (view_stops ops sources i spec there old mid lower c.loop-n.invariant.steady are late _ c.loop-n.invariant.reads
    (lower_stop_at mid late (names_of_sources c.in_ok-base.base) names spec c.reads_source-read.result _ _ (ap names_of_sources c.in_ok-base.ensures.base) e c.in_err-lower.ensures.err) own)

pub returns-in_err-mount_more-clause-err : goal.returns-in_err-mount_more-clause-err
returns-in_err-mount_more-clause-err g c =
    let view = g.F.Files.view in
    let old = view c.args.files.now in
    let ops = (plan_value c.args.plan.now).ops in
    let sources = c.args.catalog.now in
    let i : ℕ = length c.loop-n.views.items in
    let spec = c.spec.result.now in
    let lower = lower_of c.loop-n.views.items in
    let there : slice_get sources (view_number sources i) ≡ Some spec = subst (λ (n : ℕ). slice_get sources n ≡ Some spec) c.loop-n.invariant.number c.spec.ensures.spec in
    let e : c.reads_source-read.result ≡ reads_source ops (view_number sources i) = c.reads_source-read.ensures ∙ ap (reads_source ops) c.loop-n.invariant.number in
    let names : List (List ℕ) = names_of_sources (base_of sources) in
    let mid = view c.loop-n.files in
    let late = view c.load_lower.new.files in
    let own : ReadsAmong (IsOwnFile ops sources i spec there) mid late = subst (λ (b : Bool). ReadsAmong (λ path. (b ≡ true) × (path ≡ file_of spec.kind)) mid late) e c.in_ok-lower.ensures.reads in
    let are : AreReadTo old ops sources i lower = record { views = c.loop-n.invariant.lower; accepted = chosen_accepted old (needs ops lower) (base_of sources) (length (base_of sources)) c.loop-n.docs.items c.loop-n.invariant.mounted } in
    let may_view = reads_twice (SourceMayRead old ops sources) old mid late c.loop-n.invariant.may (view_may ops sources i spec there old mid lower c.loop-n.invariant.steady are late own) in
    let base_is = c.in_ok-base.ensures.base in
    let lower_view : Option Plan = c.in_ok-lower.lower in
    let o = view_ops lower_view in
    let is_mid : IsLower mid names spec (reads_source ops (view_number sources i)) o =
    subst (λ (b : Bool). IsLower mid names spec b o) e (subst (λ (base : List SourceSpec). IsLower mid (names_of_sources base) spec c.reads_source-read.result o) base_is c.in_ok-lower.ensures.ok) in
    let is = lower_before old mid names spec (reads_source ops (view_number sources i)) o c.loop-n.invariant.steady.keeps is_mid in
    let still = steady_twice old mid late c.loop-n.invariant.steady (record { keeps = c.in_ok-lower.ensures.keeps; faults = c.in_ok-lower.ensures.steady }) in
    let new = view c.mount_more.new.files in
    let chosen_is : adds ops (lower_of c.as_slice.result.now) o ≡ adds ops lower o = ap (λ (vs : List (Option Plan)). adds ops (lower_of vs) o) c.as_slice.ensures.value in
    let p = err_from_is_err_and c.from_residual-in_err-mount_more.result c.from_residual-in_err-mount_more.ensures.1 in
    rw (p.1, p.2) (added_stops ops sources i spec there old mid lower c.loop-n.invariant.steady are o is late new _ still c.loop-n.invariant.reads own
    (mount_stop_at late new (adds ops (lower_of c.as_slice.result.now) o) (adds ops lower o) c.in_ok-base.base (base_of sources) _ chosen_is base_is c.in_err-mount_more.ensures.err))

pub returns-in_err-mount_more-clause-reads : goal.returns-in_err-mount_more-clause-reads
returns-in_err-mount_more-clause-reads g c =
    let view = g.F.Files.view in
    let old = view c.args.files.now in
    let ops = (plan_value c.args.plan.now).ops in
    let sources = c.args.catalog.now in
    let i : ℕ = length c.loop-n.views.items in
    let spec = c.spec.result.now in
    let lower = lower_of c.loop-n.views.items in
    let there : slice_get sources (view_number sources i) ≡ Some spec = subst (λ (n : ℕ). slice_get sources n ≡ Some spec) c.loop-n.invariant.number c.spec.ensures.spec in
    let e : c.reads_source-read.result ≡ reads_source ops (view_number sources i) = c.reads_source-read.ensures ∙ ap (reads_source ops) c.loop-n.invariant.number in
    let names : List (List ℕ) = names_of_sources (base_of sources) in
    let mid = view c.loop-n.files in
    let late = view c.load_lower.new.files in
    let own : ReadsAmong (IsOwnFile ops sources i spec there) mid late = subst (λ (b : Bool). ReadsAmong (λ path. (b ≡ true) × (path ≡ file_of spec.kind)) mid late) e c.in_ok-lower.ensures.reads in
    let are : AreReadTo old ops sources i lower = record { views = c.loop-n.invariant.lower; accepted = chosen_accepted old (needs ops lower) (base_of sources) (length (base_of sources)) c.loop-n.docs.items c.loop-n.invariant.mounted } in
    let may_view = reads_twice (SourceMayRead old ops sources) old mid late c.loop-n.invariant.may (view_may ops sources i spec there old mid lower c.loop-n.invariant.steady are late own) in
    let base_is = c.in_ok-base.ensures.base in
    let lower_view : Option Plan = c.in_ok-lower.lower in
    let o = view_ops lower_view in
    let is_mid : IsLower mid names spec (reads_source ops (view_number sources i)) o =
    subst (λ (b : Bool). IsLower mid names spec b o) e (subst (λ (base : List SourceSpec). IsLower mid (names_of_sources base) spec c.reads_source-read.result o) base_is c.in_ok-lower.ensures.ok) in
    let is = lower_before old mid names spec (reads_source ops (view_number sources i)) o c.loop-n.invariant.steady.keeps is_mid in
    let still = steady_twice old mid late c.loop-n.invariant.steady (record { keeps = c.in_ok-lower.ensures.keeps; faults = c.in_ok-lower.ensures.steady }) in
    let new = view c.mount_more.new.files in
    let chosen_is : adds ops (lower_of c.as_slice.result.now) o ≡ adds ops lower o = ap (λ (vs : List (Option Plan)). adds ops (lower_of vs) o) c.as_slice.ensures.value in
    let reads : ReadsAmong (ChosenMayRead late (adds ops lower o) (base_of sources)) late new = subst (λ (base : List SourceSpec). ReadsAmong (ChosenMayRead late (adds ops lower o) base) late new) base_is (subst (λ (f : ℕ → Bool). ReadsAmong (ChosenMayRead late f c.in_ok-base.base) late new) chosen_is c.in_err-mount_more.ensures.reads) in
    let may = reads_twice (SourceMayRead old ops sources) old late new may_view (added_may ops sources i spec there old mid lower c.loop-n.invariant.steady are o is late new still.keeps reads) in
    may

pub loop-n-preserved : goal.loop-n-preserved
loop-n-preserved g c =
    let view = g.F.Files.view in
    let old = view c.args.files.now in
    let ops = (plan_value c.args.plan.now).ops in
    let sources = c.args.catalog.now in
    let i : ℕ = length c.loop-n.views.items in
    let spec = c.spec.result.now in
    let lower = lower_of c.loop-n.views.items in
    let there : slice_get sources (view_number sources i) ≡ Some spec = subst (λ (n : ℕ). slice_get sources n ≡ Some spec) c.loop-n.invariant.number c.spec.ensures.spec in
    let e : c.reads_source-read.result ≡ reads_source ops (view_number sources i) = c.reads_source-read.ensures ∙ ap (reads_source ops) c.loop-n.invariant.number in
    let names : List (List ℕ) = names_of_sources (base_of sources) in
    let mid = view c.loop-n.files in
    let late = view c.load_lower.new.files in
    let own : ReadsAmong (IsOwnFile ops sources i spec there) mid late = subst (λ (b : Bool). ReadsAmong (λ path. (b ≡ true) × (path ≡ file_of spec.kind)) mid late) e c.in_ok-lower.ensures.reads in
    let are : AreReadTo old ops sources i lower = record { views = c.loop-n.invariant.lower; accepted = chosen_accepted old (needs ops lower) (base_of sources) (length (base_of sources)) c.loop-n.docs.items c.loop-n.invariant.mounted } in
    let may_view = reads_twice (SourceMayRead old ops sources) old mid late c.loop-n.invariant.may (view_may ops sources i spec there old mid lower c.loop-n.invariant.steady are late own) in
    let base_is = c.in_ok-base.ensures.base in
    let lower_view : Option Plan = c.in_ok-lower.lower in
    let o = view_ops lower_view in
    let is_mid : IsLower mid names spec (reads_source ops (view_number sources i)) o =
    subst (λ (b : Bool). IsLower mid names spec b o) e (subst (λ (base : List SourceSpec). IsLower mid (names_of_sources base) spec c.reads_source-read.result o) base_is c.in_ok-lower.ensures.ok) in
    let is = lower_before old mid names spec (reads_source ops (view_number sources i)) o c.loop-n.invariant.steady.keeps is_mid in
    let still = steady_twice old mid late c.loop-n.invariant.steady (record { keeps = c.in_ok-lower.ensures.keeps; faults = c.in_ok-lower.ensures.steady }) in
    let new = view c.mount_more.new.files in
    let chosen_is : adds ops (lower_of c.as_slice.result.now) o ≡ adds ops lower o = ap (λ (vs : List (Option Plan)). adds ops (lower_of vs) o) c.as_slice.ensures.value in
    let reads : ReadsAmong (ChosenMayRead late (adds ops lower o) (base_of sources)) late new = subst (λ (base : List SourceSpec). ReadsAmong (ChosenMayRead late (adds ops lower o) base) late new) base_is (subst (λ (f : ℕ → Bool). ReadsAmong (ChosenMayRead late f c.in_ok-base.base) late new) chosen_is c.in_ok-mount_more.ensures.reads) in
    let may = reads_twice (SourceMayRead old ops sources) old late new may_view (added_may ops sources i spec there old mid lower c.loop-n.invariant.steady are o is late new still.keeps reads) in
    let all = c.loop-n.views.items ++ lower_view ∷ [] in
    let more : length all ≡ i + 1 = length-append c.loop-n.views.items (lower_view ∷ []) in
    let new_lower : lower_of all ≡ lower ++ o ∷ [] = map-append view_ops c.loop-n.views.items (lower_view ∷ []) in
    let number = c.loop-n.invariant.number in
    let beside : AreMountedBeside old (adds ops lower o) (base_of sources) c.loop-n.docs.items c.mount_more.new.docs.items =
    mounted_still old late (adds ops lower o) (base_of sources) c.loop-n.docs.items c.mount_more.new.docs.items still.keeps
    (subst (λ (base : List SourceSpec). AreMountedBeside late (adds ops lower o) base c.loop-n.docs.items c.mount_more.new.docs.items) base_is (subst (λ (f : ℕ → Bool). AreMountedBeside late f c.in_ok-base.base c.loop-n.docs.items c.mount_more.new.docs.items) chosen_is c.in_ok-mount_more.ensures.ok)) in
    let read : ReadsAmong (IsFileBefore (adds ops lower o) (base_of sources) (length (base_of sources))) late new =
    subst (λ (base : List SourceSpec). ReadsAmong (IsFileBefore (adds ops lower o) base (length base)) late new) base_is (subst (λ (f : ℕ → Bool). ReadsAmong (IsFileBefore f c.in_ok-base.base (length c.in_ok-base.base)) late new) chosen_is c.in_ok-mount_more.ensures.read) in
    rw c.in_ok-push.ensures.items (record {
      steady = steady_twice old late new still (record { keeps = c.in_ok-mount_more.ensures.keeps; faults = c.in_ok-mount_more.ensures.steady });
      number = omega (arith, number, more);
      within = (let t = c.loop-n-test.true in let e' = c.len-n-end.ensures.len in let s = c.loop-n.auto.n-end in omega (arith, t, e', s));
      lower = subst (λ (n : ℕ). AreLower old ops sources n (lower_of all)) (sym more)
          (subst (λ (l : List (Option (List Operator))). AreLower old ops sources (i + 1) l) (sym new_lower) (lower_more old ops sources i lower spec o c.loop-n.invariant.lower there is));
      plans = placed_more old sources c.loop-n.views.items spec lower_view c.loop-n.invariant.plans there
          (view_placed_before old mid (base_of sources) spec lower_view c.loop-n.invariant.steady.keeps
          (subst (λ (base : List SourceSpec). IsViewPlaced mid base spec lower_view) base_is c.in_ok-lower.ensures.plan));
      mounted = subst (λ (l : List (Option (List Operator))). AreChosenMounted old (needs ops l) (base_of sources) c.mount_more.new.docs.items) (sym new_lower)
          (mounted_wider old ops lower o (base_of sources) c.loop-n.docs.items c.mount_more.new.docs.items c.loop-n.invariant.mounted beside);
      may = may;
      reads = subst (λ (n : ℕ). ReadsAmong (IsFileUpTo ops sources n (lower_of all)) old new) (sym more)
          (subst (λ (l : List (Option (List Operator))). ReadsAmong (IsFileUpTo ops sources (i + 1) l) old new) (sym new_lower)
          (reads_up_to ops sources i spec there old mid lower c.loop-n.invariant.steady are o is late new c.loop-n.invariant.reads own read));
    })

pub returns-in_err-push-clause-reads : goal.returns-in_err-push-clause-reads
returns-in_err-push-clause-reads g c =
    let view = g.F.Files.view in
    let old = view c.args.files.now in
    let ops = (plan_value c.args.plan.now).ops in
    let sources = c.args.catalog.now in
    let i : ℕ = length c.loop-n.views.items in
    let spec = c.spec.result.now in
    let lower = lower_of c.loop-n.views.items in
    let there : slice_get sources (view_number sources i) ≡ Some spec = subst (λ (n : ℕ). slice_get sources n ≡ Some spec) c.loop-n.invariant.number c.spec.ensures.spec in
    let e : c.reads_source-read.result ≡ reads_source ops (view_number sources i) = c.reads_source-read.ensures ∙ ap (reads_source ops) c.loop-n.invariant.number in
    let names : List (List ℕ) = names_of_sources (base_of sources) in
    let mid = view c.loop-n.files in
    let late = view c.load_lower.new.files in
    let own : ReadsAmong (IsOwnFile ops sources i spec there) mid late = subst (λ (b : Bool). ReadsAmong (λ path. (b ≡ true) × (path ≡ file_of spec.kind)) mid late) e c.in_ok-lower.ensures.reads in
    let are : AreReadTo old ops sources i lower = record { views = c.loop-n.invariant.lower; accepted = chosen_accepted old (needs ops lower) (base_of sources) (length (base_of sources)) c.loop-n.docs.items c.loop-n.invariant.mounted } in
    let may_view = reads_twice (SourceMayRead old ops sources) old mid late c.loop-n.invariant.may (view_may ops sources i spec there old mid lower c.loop-n.invariant.steady are late own) in
    let base_is = c.in_ok-base.ensures.base in
    let lower_view : Option Plan = c.in_ok-lower.lower in
    let o = view_ops lower_view in
    let is_mid : IsLower mid names spec (reads_source ops (view_number sources i)) o =
    subst (λ (b : Bool). IsLower mid names spec b o) e (subst (λ (base : List SourceSpec). IsLower mid (names_of_sources base) spec c.reads_source-read.result o) base_is c.in_ok-lower.ensures.ok) in
    let is = lower_before old mid names spec (reads_source ops (view_number sources i)) o c.loop-n.invariant.steady.keeps is_mid in
    let still = steady_twice old mid late c.loop-n.invariant.steady (record { keeps = c.in_ok-lower.ensures.keeps; faults = c.in_ok-lower.ensures.steady }) in
    let new = view c.mount_more.new.files in
    let chosen_is : adds ops (lower_of c.as_slice.result.now) o ≡ adds ops lower o = ap (λ (vs : List (Option Plan)). adds ops (lower_of vs) o) c.as_slice.ensures.value in
    let reads : ReadsAmong (ChosenMayRead late (adds ops lower o) (base_of sources)) late new = subst (λ (base : List SourceSpec). ReadsAmong (ChosenMayRead late (adds ops lower o) base) late new) base_is (subst (λ (f : ℕ → Bool). ReadsAmong (ChosenMayRead late f c.in_ok-base.base) late new) chosen_is c.in_ok-mount_more.ensures.reads) in
    let may = reads_twice (SourceMayRead old ops sources) old late new may_view (added_may ops sources i spec there old mid lower c.loop-n.invariant.steady are o is late new still.keeps reads) in
    may

pub returns-clause-reads : goal.returns-clause-reads
returns-clause-reads g c = c.loop-n.invariant.may

pub returns-in_err-sites-clause-reads : goal.returns-in_err-sites-clause-reads
returns-in_err-sites-clause-reads g c = c.loop-n.invariant.may

pub loop-n-init : goal.loop-n-init
loop-n-init g c =
    let view = g.F.Files.view in
    let old = view c.args.files.now in
    let new = view c.mount_sources.new.files in
    let base_is = c.in_ok-base.ensures.base in
    let sources = c.args.catalog.now in
    let ops = (plan_value c.args.plan.now).ops in
    let len : c.len-n.result ≡ length (base_of sources) = c.len-n.ensures.len ∙ ap (λ (l : List SourceSpec). length l) base_is in
    let short = base_short sources in
    let reads : ReadsAmong (ChosenMayRead old (reads_source ops) (base_of sources)) old new = subst (λ (base : List SourceSpec). ReadsAmong (ChosenMayRead old (reads_source ops) base) old new) base_is c.in_ok-docs.ensures.reads in
    let read : ReadsAmong (IsFileBefore (reads_source ops) (base_of sources) (length (base_of sources))) old new =
    subst (λ (base : List SourceSpec). ReadsAmong (IsFileBefore (reads_source ops) base (length base)) old new) base_is c.in_ok-docs.ensures.read in
    rw c.new-views.ensures.items (record {
      steady = record { keeps = c.in_ok-docs.ensures.keeps; faults = c.in_ok-docs.ensures.steady };
      number = omega (arith, len);
      within = omega (arith, len, short);
      lower = lower_none old ops sources;
      plans = λ i spec less. absurd (omega (arith, less));
      mounted = subst (λ (f : ℕ → Bool). AreChosenMounted old f (base_of sources) c.in_ok-docs.docs.items) (sym (needs_none ops))
          (subst (λ (base : List SourceSpec). AreChosenMounted old (reads_source ops) base c.in_ok-docs.docs.items) base_is c.in_ok-docs.ensures.ok);
      may = reads_wider (ChosenMayRead old (reads_source ops) (base_of sources)) (SourceMayRead old ops sources) old new (λ path h. inl h) reads;
      reads = reads_wider (IsFileBefore (reads_source ops) (base_of sources) (length (base_of sources))) (IsFileUpTo ops sources 0 []) old new
          (λ path h. inl (subst (λ (f : ℕ → Bool). IsFileBefore f (base_of sources) (length (base_of sources)) path) (sym (needs_none ops)) h)) read;
    })

pub returns-clause-ok : goal.returns-clause-ok
returns-clause-ok g c =
    let old = g.F.Files.view c.args.files.now in
    let base_is = c.in_ok-base.ensures.base in
    let sources = c.args.catalog.now in
    let ops = (plan_value c.args.plan.now).ops in
    let views = c.loop-n.views.items in
    let l : length (lower_of views) ≡ length views = length-map views view_ops in
    let number = c.loop-n.invariant.number in
    let w = c.loop-n.invariant.within in
    let a = c.loop-n-test.false in
    let e = c.len-n-end.ensures.len in
    let s = c.loop-n.auto.n-end in
    let whole : view_number sources (length (lower_of views)) ≡ length sources = omega (arith, l, number, w, a, e, s) in
    record {
      mounted = c.loop-n.invariant.mounted;
      sites = subst (λ (base : List SourceSpec). AreSites (needs ops (lower_of views)) base c.in_ok-sites.sites.items) base_is
          (subst (λ (vs : List (Option Plan)). AreSites (needs ops (lower_of vs)) c.in_ok-base.base c.in_ok-sites.sites.items) c.deref.ensures.value c.in_ok-sites.ensures);
      last = c.len-n-end.ensures.last;
      lower = (subst (λ (n : ℕ). AreLower old ops sources n (lower_of views)) (sym l) c.loop-n.invariant.lower, whole);
      views = λ i spec at. c.loop-n.invariant.plans i spec (let i' = slice_get_within sources (view_number sources i) spec at in omega (arith, i', l, whole)) at;
    }
