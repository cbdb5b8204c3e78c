-- Which sources are needed, one view after another, and what is mounted for them.
use Rattle.std.proofs.Common.{◌≡◌, ◌∙◌, ◌+◌, ◌<◌, ◌≤◌, inl, inr, IsTrue, ℕ, Bool, true, false, ◌&&◌, ◌||◌, not, List, [], ◌∷◌, ◌++◌, Option, Some, None, refl, ap, sym, subst, arith, length, set, slice_get, get_or}
use Rattle.std.specs.List.{list_any}
use Rattle.std.proofs.Math.Path.{fun_ext}
use Rattle.std.proofs.lemmas.Bool.{cases_lt}
use Rattle.std.proofs.lemmas.List.{get_or-set_other, get_or-set_same, length-set}
use Rattle.std.proofs.lemmas.List.Folds.{list_any-append}
use Rattle.std.proofs.lemmas.Option.{same_Some, slice_get_within}
use Rattle.mix_io.specs.Views.{FilesView, KeepsFiles}
use Rattle.mix_catalog.specs.declared.source.SourceSpec.{SourceSpec}
use Rattle.mix_mount.specs.declared.mount.Mount.{Mount}
use Rattle.mix_mount.specs.declared.mount.Mount.TheVariants.{Absent}
use Rattle.mix_mount.specs.Mounts.{mount_at}
use Rattle.plan_core.specs.Plans.{Operator}
use Rattle.plan_core.specs.declared.plan.Plan.{Plan}
use Rattle.view_class.specs.Reads.{reads_source}
use Rattle.mix_place.specs.Chosen.{AreAccepted, every}
use Rattle.mix_place.specs.Mounting.{AreChosenMounted, AreMountedBeside, IsMountBeside, IsMountFor, IsMountWhere, IsMountedSpec, put_in}
use Rattle.mix_place.specs.Views.{adds, lower_of, needs, reads_lower, view_ops}
use Rattle.mix_place.proofs.MountLaws.{mounted_before, spec_mounted}

-- WHICH SOURCES ARE NEEDED

-- nothing more is chosen by what is never so
or_never : (b : Bool) → (b || false) ≡ b
or_never true = refl
or_never false = refl

-- without views, the sources that are needed are those that are read
pub needs_none : (ops : List Operator) → needs ops [] ≡ reads_source ops
needs_none ops = fun_ext (λ s. or_never (reads_source ops s))

-- a choice between three is one between the first two, or the third
or_three : (a b c : Bool) → (a || (b || (c || false))) ≡ ((a || b) || c)
or_three true b c = refl
or_three false true c = refl
or_three false false true = refl
or_three false false false = refl

-- a view of plans reads a source exactly where its operators do
pub any_lower : (s : ℕ) (views : List (Option Plan)) → list_any (reads_lower s) (lower_of views) ≡ list_any (λ view. reads_lower s (view_ops view)) views
any_lower s [] = refl
any_lower s (view ∷ views) = ap (λ b. reads_lower s (view_ops view) || b) (any_lower s views)

-- with one view more, the sources that are needed are those that were before, and those that the view reads
pub needs_more : (ops : List Operator) (lower : List (Option (List Operator))) (view : Option (List Operator)) (s : ℕ) → needs ops (lower ++ view ∷ []) s ≡ (needs ops lower s || reads_lower s view)
needs_more ops lower view s =
    ap (λ b. reads_source ops s || b) (list_any-append (reads_lower s) lower (view ∷ [])) ∙ or_three (reads_source ops s) (list_any (reads_lower s) lower) (reads_lower s view)

-- what holds of a later spec of a mount held of it before
pub spec_before : (old mid : FilesView) (spec : SourceSpec) (m : Mount) → KeepsFiles old mid → IsMountedSpec mid spec m → IsMountedSpec old spec m
spec_before old mid spec m keeps h = (mounted_before old mid every 0 spec m keeps (spec_mounted mid 0 spec m h)).read refl

-- WHAT IS MOUNTED BESIDE WHAT WAS

-- of the first n sources those that are chosen are mounted beside what was mounted before
pub record AreBesideTo (files : FilesView) (chosen : ℕ → Bool) (sources : List SourceSpec) (n : ℕ) (before after : List Mount) : Type 0 where
  pub count : length after ≡ length before
  pub each : (s : ℕ) (spec : SourceSpec) → s < n → slice_get sources s ≡ Some spec → IsMountBeside files chosen s spec (mount_at before s) (mount_at after s)
  pub later : (s : ℕ) → n ≤ s → mount_at after s ≡ mount_at before s

-- before the first source, all is mounted as it was
pub beside_none : (files : FilesView) (chosen : ℕ → Bool) (sources : List SourceSpec) (before : List Mount) → AreBesideTo files chosen sources 0 before before
beside_none files chosen sources before = record { count = refl; each = λ s spec h. absurd (omega arith); later = λ s h. refl }

-- true is not false
pub two_truths : (b : Bool) → b ≡ true → b ≡ false → ⊥
two_truths true e f = (let z : true ≡ false = f in cc)
two_truths false e f = (let z : false ≡ true = e in cc)

module _ (old mid : FilesView) (chosen : ℕ → Bool) (sources : List SourceSpec) (n : ℕ) (before docs : List Mount) (spec : SourceSpec) (keeps : KeepsFiles old mid) (h : AreBesideTo old chosen sources n before docs)
    (there : slice_get sources n ≡ Some spec) (room : n < length docs) where
  -- where the next source is not chosen, all is as it was up to it
  unchosen : chosen n ≡ false → AreBesideTo old chosen sources (n + 1) before docs
  unchosen unset = record {
    count = h.count;
    each = λ s other less at.
        elim (cases_lt s n) as (λ _. IsMountBeside old chosen s other (mount_at before s) (mount_at docs s)) [
          | inl low ↦ h.each s other low at
          | inr high ↦ (
              let e : n ≡ s = omega (arith, less, high) in
              subst (λ (k : ℕ). IsMountBeside old chosen k other (mount_at before k) (mount_at docs k)) e
              ((λ is. absurd (two_truths (chosen n) is unset)), (λ _. h.later n (omega arith)))
              )
        ];
    later = λ s past. h.later s (omega (arith, past));
  }

  -- where the next source is chosen and mounted, it is mounted beside the others
  chosen_one : (m : Mount) → chosen n ≡ true → IsMountedSpec mid spec m → AreBesideTo old chosen sources (n + 1) before (set docs n m)
  chosen_one m is_set is = record {
    count = length-set docs n m ∙ h.count;
    each = λ s other less at.
        elim (cases_lt s n) as (λ _. IsMountBeside old chosen s other (mount_at before s) (mount_at (set docs n m) s)) [
          | inl low ↦ (
              let apart : s ≡ n → ⊥ = λ e. omega (arith, low, e) in
              subst (λ (x : Mount). IsMountBeside old chosen s other (mount_at before s) x) (sym (get_or-set_other docs n s m Absent apart)) (h.each s other low at)
              )
          | inr high ↦ (
              let e : n ≡ s = omega (arith, less, high) in
              subst (λ (k : ℕ). slice_get sources k ≡ Some other → IsMountBeside old chosen k other (mount_at before k) (mount_at (set docs n m) k)) e this at
              )
        ];
    later = λ s past. (let apart : s ≡ n → ⊥ = λ e. omega (arith, past, e) in get_or-set_other docs n s m Absent apart) ∙ h.later s (omega (arith, past));
  }
    where
      this : {other : SourceSpec} → slice_get sources n ≡ Some other → IsMountBeside old chosen n other (mount_at before n) (mount_at (set docs n m) n)
      this {other} at = (
        (λ _.
            subst (λ (x : Mount). IsMountedSpec old other x) (sym (get_or-set_same docs n m Absent room))
            (subst (λ (x : SourceSpec). IsMountedSpec old x m) (same_Some spec other (sym there ∙ at)) (spec_before old mid spec m keeps is))),
        (λ unset. absurd (two_truths (chosen n) is_set unset)),
      )

  -- with what the next source comes to, the sources up to it are mounted beside what was
  pub beside_more : (r : Option Mount) → IsMountWhere mid (chosen n) spec r → AreBesideTo old chosen sources (n + 1) before (put_in docs n r)
  beside_more None unset = unchosen unset
  beside_more (Some m) is = chosen_one m is.0 is.1

-- where as many sources as there are were mounted beside what was, all are
pub all_beside : (files : FilesView) (chosen : ℕ → Bool) (sources : List SourceSpec) (n : ℕ) (before after : List Mount) → n ≡ length sources → AreBesideTo files chosen sources n before after → AreMountedBeside files chosen sources before after
all_beside files chosen sources n before after e h = record {
  count = h.count;
  each = λ s spec at. h.each s spec (let w = slice_get_within sources s spec at in omega (arith, w, e)) at;
}

-- the chosen sources that were mounted beside others are accepted
pub beside_accepted : (files : FilesView) (chosen : ℕ → Bool) (sources : List SourceSpec) (n : ℕ) (before after : List Mount) → AreBesideTo files chosen sources n before after → AreAccepted files chosen sources n
beside_accepted files chosen sources n before after h = λ k spec less at is file. let f = ((h.each k spec less at).0 is).file file in (f.tree, f.document_is)

-- what is mounted for chosen sources is accepted
pub chosen_accepted : (files : FilesView) (chosen : ℕ → Bool) (sources : List SourceSpec) (n : ℕ) (docs : List Mount) → AreChosenMounted files chosen sources docs → AreAccepted files chosen sources n
chosen_accepted files chosen sources n docs h = λ k spec less at is file. let f = ((h.each k spec at).read is).file file in (f.tree, f.document_is)

-- WITH ONE VIEW MORE

module _ (files : FilesView) (ops : List Operator) (lower : List (Option (List Operator))) (view : Option (List Operator)) (sources : List SourceSpec) where
  -- by whether a source was needed before and the view reads it, it is mounted as is needed with the view
  wider_by : (spec : SourceSpec) (before after : Mount) (n r w : Bool) → w ≡ (n || r) → (IsTrue n → IsMountedSpec files spec before) × (n ≡ false → before ≡ Absent)
      → (IsTrue (r && not n) → IsMountedSpec files spec after) × ((r && not n) ≡ false → after ≡ before) → (IsTrue w → IsMountedSpec files spec after) × (w ≡ false → after ≡ Absent)
  wider_by spec before after true true w e was is = ((λ _. subst (IsMountedSpec files spec) (sym (is.1 refl)) (was.0 refl)), (λ unset. absurd (two_truths w e unset)))
  wider_by spec before after true false w e was is = ((λ _. subst (IsMountedSpec files spec) (sym (is.1 refl)) (was.0 refl)), (λ unset. absurd (two_truths w e unset)))
  wider_by spec before after false true w e was is = ((λ _. is.0 refl), (λ unset. absurd (two_truths w e unset)))
  wider_by spec before after false false w e was is = ((λ is_set. absurd (two_truths w is_set e)), (λ _. is.1 refl ∙ was.1 refl))

  -- where what a view adds was mounted beside what was needed before, what is needed with the view is mounted
  pub mounted_wider : (before after : List Mount) → AreChosenMounted files (needs ops lower) sources before → AreMountedBeside files (adds ops lower view) sources before after
      → AreChosenMounted files (needs ops (lower ++ view ∷ [])) sources after
  mounted_wider before after was is = record {
    count = is.count ∙ was.count;
    each = λ s spec at.
        let w = wider_by spec (mount_at before s) (mount_at after s) (needs ops lower s) (reads_lower s view) (needs ops (lower ++ view ∷ []) s) (needs_more ops lower view s)
        ((was.each s spec at).read, (was.each s spec at).unread) (is.each s spec at) in
        record { read = w.0; unread = w.1 };
  }
