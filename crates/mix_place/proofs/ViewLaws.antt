-- The views of a catalog, read one after another, with the sources that they add.
use Rattle.std.proofs.Common.{◌≡◌, ◌⊎◌, ◌∙◌, ◌+◌, ◌<◌, inl, inr, IsTrue, ℕ, Bool, true, false, ◌&&◌, ◌||◌, List, [], ◌∷◌, ◌++◌, Option, Some, None, refl, ap, sym, subst, arith, length, slice_get, get_or, string_bytes}
use Rattle.std.proofs.lemmas.Bool.{cases_lt, or_left, or_right}
use Rattle.std.proofs.lemmas.List.{get_or_append_left, length-append}
use Rattle.std.proofs.Math.Seq.{get_or-append_seam}
use Rattle.std.proofs.lemmas.Option.{same_Some, slice_get_within}
use Rattle.mix_io.specs.Views.{FilesView, KeepsFiles}
use Rattle.mix_catalog.specs.declared.source.SourceSpec.{SourceSpec}
use Rattle.mix_catalog.specs.Grammar.{file_of}
use Rattle.mix_catalog.specs.Sources.{base_of}
use Rattle.plan_core.specs.Plans.{Operator}
use Rattle.plan_core.specs.declared.plan.Plan.{Plan}
use Rattle.view_class.specs.Reads.{reads_source}
use Rattle.xmas_read.specs.Results.{names_of_sources}
use Rattle.mix_place.specs.Causes.{IsNoRule}
use Rattle.mix_place.specs.Chosen.{ChosenMayRead}
use Rattle.mix_place.specs.Mounting.{IsMountStop}
use Rattle.mix_place.specs.Placed.{IsViewPlaced, AreLower, AreReadTo, IsFileUpTo, IsLowerStop, IsPlaceStop, IsViewFileBefore, IsViewRead, IsViewsStop, SourceMayRead, ViewsMayRead, view_number}
use Rattle.mix_place.specs.Reading.{IsFileBefore, IsFileFor, ReadsAmong}
use Rattle.mix_place.specs.Views.{GivesView, IsLower, adds, lower_at, needs, reads_lower}
use Rattle.mix_place.specs.declared.refusal.Stop.{Stop}
use Rattle.mix_place.specs.declared.refusal.Stop.TheVariants.{Refused, SinkFailed, OutOfMemory}
use Rattle.mix_place.proofs.ChosenLaws.{source_may_before}
use Rattle.mix_place.proofs.Earlier.{rule_before, source_refused_after}
use Rattle.mix_place.proofs.LoadLaws.{refused_after}
use Rattle.mix_place.proofs.MountLaws.{IsSteady}
use Rattle.mix_place.proofs.Needs.{needs_more, two_truths}
use Rattle.mix_place.proofs.ReadingLaws.{reads_more, reads_twice, reads_wider}

-- the operators that a view gives later it gave before
pub lower_before : (old mid : FilesView) (names : List (List ℕ)) (spec : SourceSpec) (read : Bool) (view : Option (List Operator)) → KeepsFiles old mid → IsLower mid names spec read view → IsLower old names spec read view
lower_before old mid names spec read None keeps h = h
lower_before old mid names spec read (Some ops) keeps h = (h.0, (h.1.0, rule_before old mid (file_of spec.kind) names h.1.0 keeps h.1.1, h.1.2))

-- what is said of a view that is to be read is so under equal names and by an equal test
pub lower_stop_at : (mid new : FilesView) (names names' : List (List ℕ)) (spec : SourceSpec) (read read' : Bool) (stop : Stop) → names ≡ names' → read ≡ read' → IsLowerStop mid new names spec read stop → IsLowerStop mid new names' spec read' stop
lower_stop_at mid new names names' spec read read' stop e f h =
    subst (λ (b : Bool). IsLowerStop mid new names' spec b stop) f (subst (λ (n : List (List ℕ)). IsLowerStop mid new n spec read stop) e h)

-- where the mounting of sources stopped, that of equal ones by an equal choice did
pub mount_stop_at : (late new : FilesView) (chosen chosen' : ℕ → Bool) (base base' : List SourceSpec) (stop : Stop) → chosen ≡ chosen' → base ≡ base' → IsMountStop late new chosen base stop → IsMountStop late new chosen' base' stop
mount_stop_at late new chosen chosen' base base' stop f e h = subst (λ (b : List SourceSpec). IsMountStop late new chosen' b stop) e (subst (λ (c : ℕ → Bool). IsMountStop late new c base stop) f h)

-- before the first view none was read
pub lower_none : (files : FilesView) (ops : List Operator) (sources : List SourceSpec) → AreLower files ops sources 0 []
lower_none files ops sources = record { count = refl; each = λ i spec h. absurd (omega arith) }

-- with the next view, the views up to it were read
pub lower_more : (files : FilesView) (ops : List Operator) (sources : List SourceSpec) (n : ℕ) (lower : List (Option (List Operator))) (spec : SourceSpec) (view : Option (List Operator)) → AreLower files ops sources n lower
    → slice_get sources (view_number sources n) ≡ Some spec → IsLower files (names_of_sources (base_of sources)) spec (reads_source ops (view_number sources n)) view
    → AreLower files ops sources (n + 1) (lower ++ view ∷ [])
lower_more files ops sources n lower spec view h there is = record {
  count = (let l = length-append lower (view ∷ []) in let c = h.count in omega (arith, l, c));
  each = λ i other less at.
      elim (cases_lt i n) as (λ _. At i other (lower_at (lower ++ view ∷ []) i)) [
        | inl low ↦ (
            let c = h.count in
            let inside : i < length lower = omega (arith, low, c) in
            subst (λ (x : Option (List Operator)). At i other x) (sym (get_or_append_left lower (view ∷ []) None i inside)) (h.each i other low at)
            )
        | inr high ↦ (
            let e : n ≡ i = omega (arith, less, high) in
            subst (λ (k : ℕ). slice_get sources (view_number sources k) ≡ Some other → At k other (lower_at (lower ++ view ∷ []) k)) e last at
            )
      ];
}
  where
    At : ℕ → SourceSpec → Option (List Operator) → Type 0
    At i other r = IsLower files (names_of_sources (base_of sources)) other (reads_source ops (view_number sources i)) r

    last : {other : SourceSpec} → slice_get sources (view_number sources n) ≡ Some other → At n other (lower_at (lower ++ view ∷ []) n)
    last {other} at =
        let place : lower_at (lower ++ view ∷ []) n ≡ view = subst (λ (k : ℕ). get_or (lower ++ view ∷ []) k None ≡ view) h.count (get_or-append_seam lower view [] None) in
        subst (λ (x : Option (List Operator)). At n other x) (sym place) (subst (λ (x : SourceSpec). At n x view) (same_Some spec other (sym there ∙ at)) is)

module _ (ops : List Operator) (sources : List SourceSpec) (n : ℕ) (spec : SourceSpec) (there : slice_get sources (view_number sources n) ≡ Some spec) where
  -- the next view is to be read, and a path is that of its file
  abbrev pub IsOwnFile : List ℕ → Type 0
  IsOwnFile path = (reads_source ops (view_number sources n) ≡ true) × (path ≡ file_of spec.kind)

  -- the files of views before one and its own are those of the views before the next
  own_more : (path : List ℕ) → IsOwnFile path → IsViewFileBefore ops sources (n + 1) path
  own_more path is = (n, spec, omega arith, record { there = there; read = is.0 }, is.1)

  -- the files of views before one are among those before the next
  before_more : (path : List ℕ) → IsViewFileBefore ops sources n path → IsViewFileBefore ops sources (n + 1) path
  before_more path is = (is.0, is.1, further is.0 is.2, is.3, is.4)
    where
      further : (i : ℕ) → i < n → i < n + 1
      further i less = omega (arith, less)

  -- where the files of the views before one and then its own were read, those of the views before the next were
  pub reads_views : (old mid new : FilesView) → ReadsAmong (IsViewFileBefore ops sources n) old mid → ReadsAmong IsOwnFile mid new → ReadsAmong (IsViewFileBefore ops sources (n + 1)) old new
  reads_views old mid new before now =
      let May = IsViewFileBefore ops sources (n + 1) in
      reads_twice May old mid new (reads_wider (IsViewFileBefore ops sources n) May old mid before_more before) (reads_wider IsOwnFile May mid new own_more now)

  module _ (old mid : FilesView) (lower : List (Option (List Operator))) (steady : IsSteady old mid) (are : AreLower old ops sources n lower) where
    -- where the file of the next view is refused, the reading of the views stops
    pub views_stop : (new : FilesView) (stop : Stop) → ReadsAmong (IsViewFileBefore ops sources n) old mid
        → IsLowerStop mid new (names_of_sources (base_of sources)) spec (reads_source ops (view_number sources n)) stop → ReadsAmong IsOwnFile mid new → IsViewsStop old new ops sources stop
    views_stop new (Refused r) before stop now = record {
      place = n;
      spec = spec;
      lower = lower;
      is = record { there = there; read = stop.0 };
      earlier = are;
      refused = refused_after (λ p. ⊥ ⊎ IsViewFileBefore ops sources n p) (IsNoRule (names_of_sources (base_of sources))) old mid new (file_of spec.kind) _ _ steady.keeps steady.faults
          (reads_wider (IsViewFileBefore ops sources n) (λ p. ⊥ ⊎ IsViewFileBefore ops sources n p) old mid (λ p is. inr is) before) stop.1 (λ p unset. now p (λ is. unset is.1));
    }
    views_stop new SinkFailed before stop now = absurd stop.1
    views_stop new OutOfMemory before stop now = tt

    -- the file of the next view may be read
    pub own_may : (new : FilesView) → ReadsAmong IsOwnFile mid new → ReadsAmong (ViewsMayRead old ops sources) mid new
    own_may new now = reads_wider IsOwnFile (ViewsMayRead old ops sources) mid new (λ path is. (n, spec, record { there = there; read = is.0 }, is.1, lower, are)) now

  module _ (old mid : FilesView) (lower : List (Option (List Operator))) (steady : IsSteady old mid) (are : AreReadTo old ops sources n lower) where
    -- the file of the next view may be read for a plan
    pub view_may : (new : FilesView) → ReadsAmong IsOwnFile mid new → ReadsAmong (SourceMayRead old ops sources) mid new
    view_may new now =
        reads_wider IsOwnFile (SourceMayRead old ops sources) mid new
        (λ path is. inr (record { place = n; spec = spec; lower = lower; is = record { there = there; read = is.0 }; earlier = are; may = inl is.1 })) now

    -- where the file of the next view is refused, the placing of the sources stops
    pub view_stops : (new : FilesView) (stop : Stop) → ReadsAmong (IsFileUpTo ops sources n lower) old mid
        → IsLowerStop mid new (names_of_sources (base_of sources)) spec (reads_source ops (view_number sources n)) stop → ReadsAmong IsOwnFile mid new → IsPlaceStop old new ops sources stop
    view_stops new (Refused r) before stop now =
        inr (record {
          place = n;
          spec = spec;
          lower = lower;
          is = record { there = there; read = stop.0 };
          earlier = are;
          refused = inl (
              refused_after (λ p. ⊥ ⊎ IsFileUpTo ops sources n lower p) (IsNoRule (names_of_sources (base_of sources))) old mid new (file_of spec.kind) _ _ steady.keeps steady.faults
              (reads_wider (IsFileUpTo ops sources n lower) (λ p. ⊥ ⊎ IsFileUpTo ops sources n lower p) old mid (λ p is. inr is) before) stop.1 (λ p unset. now p (λ is. unset is.1)));
        })
    view_stops new SinkFailed before stop now = absurd stop.1
    view_stops new OutOfMemory before stop now = tt

    module _ (view : Option (List Operator)) (is : IsLower old (names_of_sources (base_of sources)) spec (reads_source ops (view_number sources n)) view) where
      -- a view that adds a source is read
      read_by : (s : ℕ) (read : Bool) (view : Option (List Operator)) → IsLower old (names_of_sources (base_of sources)) spec read view → IsTrue (adds ops lower view s) → read ≡ true
      read_by s read None is more = absurd (two_truths false more refl)
      read_by s read (Some lops) is more = is.0

      -- the files of the sources that the view adds may be read for a plan
      pub added_may : (late new : FilesView) → KeepsFiles old late → ReadsAmong (ChosenMayRead late (adds ops lower view) (base_of sources)) late new → ReadsAmong (SourceMayRead old ops sources) late new
      added_may late new keeps now =
          reads_wider (ChosenMayRead late (adds ops lower view) (base_of sources)) (SourceMayRead old ops sources) late new
          (λ path may.
          inr (record {
            place = n;
            spec = spec;
            lower = lower;
            is = record { there = there; read = read_by may.0 (reads_source ops (view_number sources n)) view is may.3.0 };
            earlier = are;
            may = inr (view, is, source_may_before old late (adds ops lower view) (base_of sources) keeps path may);
          }))
          now

      -- where the file of a source is refused that the view adds, the placing of the sources stops
      pub added_stops : (late new : FilesView) (stop : Stop) → IsSteady old late → ReadsAmong (IsFileUpTo ops sources n lower) old mid → ReadsAmong IsOwnFile mid late
          → IsMountStop late new (adds ops lower view) (base_of sources) stop → IsPlaceStop old new ops sources stop
      added_stops late new (Refused r) still before own stop =
          let Before : List ℕ → Type 0 = λ p. (⊥ ⊎ IsFileUpTo ops sources n lower p) ⊎ (p ≡ file_of spec.kind) in
          inr (record {
            place = n;
            spec = spec;
            lower = lower;
            is = record { there = there; read = read_by stop.number (reads_source ops (view_number sources n)) view is stop.read };
            earlier = are;
            refused = inr (
              view,
              is,
              source_refused_after Before old late new (adds ops lower view) (base_of sources) r.status (string_bytes r.line) still
                  (reads_twice Before old mid late (reads_wider (IsFileUpTo ops sources n lower) Before old mid (λ p h. inl (inr h)) before)
                  (reads_wider IsOwnFile Before mid late (λ p h. inr h.1) own)) stop,
            );
          })
      added_stops late new SinkFailed still before own stop = absurd stop
      added_stops late new OutOfMemory still before own stop = tt

      -- a source that was needed before is needed with the view
      needed_still : (s : ℕ) → IsTrue (needs ops lower s) → IsTrue (needs ops (lower ++ view ∷ []) s)
      needed_still s h = needs_more ops lower view s ∙ or_left (needs ops lower s) (reads_lower s view) h

      -- a source that the view adds is needed with it
      needed_more : (s : ℕ) → IsTrue (adds ops lower view s) → IsTrue (needs ops (lower ++ view ∷ []) s)
      needed_more s h = needs_more ops lower view s ∙ or_right (needs ops lower s) (reads_lower s view) (first (reads_lower s view) _ h)
        where
          first : (a b : Bool) → (a && b) ≡ true → a ≡ true
          first true b e = refl
          first false b e = absurd (let z : false ≡ true = e in cc)

      -- the files before a number of sources that are chosen are those of a wider choice
      wider_files : (A B : ℕ → Bool) → ((s : ℕ) → IsTrue (A s) → IsTrue (B s)) → (base : List SourceSpec) (k : ℕ) (path : List ℕ) → IsFileBefore A base k path → IsFileBefore B base k path
      wider_files A B w base k path h = (h.0, h.1, h.2, h.3, (w h.0 h.4.0, h.4.1))

      -- where all files before a view, its own and those of the sources that it adds were read, all files before the next view were
      pub reads_up_to : (late new : FilesView) → ReadsAmong (IsFileUpTo ops sources n lower) old mid → ReadsAmong IsOwnFile mid late
          → ReadsAmong (IsFileBefore (adds ops lower view) (base_of sources) (length (base_of sources))) late new → ReadsAmong (IsFileUpTo ops sources (n + 1) (lower ++ view ∷ [])) old new
      reads_up_to late new before own more =
          let May = IsFileUpTo ops sources (n + 1) (lower ++ view ∷ []) in
          let base = base_of sources in
          reads_twice May old late new
          (reads_twice May old mid late
          (reads_wider (IsFileUpTo ops sources n lower) May old mid
          (λ path h. elim h [ inl file ↦ inl (wider_files (needs ops lower) (needs ops (lower ++ view ∷ [])) needed_still base (length base) path file) | inr file ↦ inr (before_more path file) ]) before)
          (reads_wider IsOwnFile May mid late (λ path h. inr (own_more path h)) own))
          (reads_wider (IsFileBefore (adds ops lower view) base (length base)) May late new
          (λ path h. inl (wider_files (adds ops lower view) (needs ops (lower ++ view ∷ [])) needed_more base (length base) path h)) more)

-- of the first views each that is read has its plan
abbrev pub ArePlacedTo : FilesView → List SourceSpec → List (Option Plan) → Type 0
ArePlacedTo files sources views = (i : ℕ) (spec : SourceSpec) → i < length views → slice_get sources (view_number sources i) ≡ Some spec → IsViewPlaced files (base_of sources) spec (get_or views i None)

-- with the plan of the next view, each view up to it that is read has its plan
pub placed_more : (files : FilesView) (sources : List SourceSpec) (views : List (Option Plan)) (spec : SourceSpec) (view : Option Plan) → ArePlacedTo files sources views → slice_get sources (view_number sources (length views)) ≡ Some spec
    → IsViewPlaced files (base_of sources) spec view → ArePlacedTo files sources (views ++ view ∷ [])
placed_more files sources views spec view h there is = λ i other less at.
    let l = length-append views (view ∷ []) in
    elim (cases_lt i (length views)) as (λ _. IsViewPlaced files (base_of sources) other (get_or (views ++ view ∷ []) i None)) [
      | inl low ↦ subst (λ (x : Option Plan). IsViewPlaced files (base_of sources) other x) (sym (get_or_append_left views (view ∷ []) None i low)) (h i other low at)
      | inr high ↦ (
          let e : length views ≡ i = omega (arith, less, high, l) in
          subst (λ (k : ℕ). slice_get sources (view_number sources k) ≡ Some other → IsViewPlaced files (base_of sources) other (get_or (views ++ view ∷ []) k None)) e last at
          )
    ]
  where
    last : {other : SourceSpec} → slice_get sources (view_number sources (length views)) ≡ Some other → IsViewPlaced files (base_of sources) other (get_or (views ++ view ∷ []) (length views) None)
    last {other} at =
        subst (λ (x : Option Plan). IsViewPlaced files (base_of sources) other x) (sym (get_or-append_seam views view [] None))
        (subst (λ (x : SourceSpec). IsViewPlaced files (base_of sources) x view) (same_Some spec other (sym there ∙ at)) is)
