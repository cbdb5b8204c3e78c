-- The checks of operators together.
use Rattle.std.proofs.Common.{◌≡◌, ◌∙◌, ℕ, false, List, sym, subst, length, take}
use Rattle.std.specs.List.{AllByRecursion}
use Rattle.mix_catalog.specs.declared.source.SourceSpec.{SourceSpec}
use Rattle.plan_read.specs.Checks.{AreKnown, AreShort, AreRanged}
use Rattle.plan_read.specs.Drafts.{all_numbered, lines_of, AreDrafts}
use Rattle.plan_read.specs.Lines.{Line}
use Rattle.plan_read.specs.Results.{numbers_of}
use Rattle.plan_read.specs.Stops.{StopsAt}
use Rattle.plan_read.specs.declared.draft.Draft.{Draft}
use Rattle.plan_read.proofs.Drafted.{drafts_numbers, drafts_short, short_drafts, drafts_ranged, ranged_drafts, stops_as}
use Rattle.plan_read.proofs.Stopping.{many_lines, many_numbered}

-- drafts are as many as operators with their numbers
pub as_many : (ds : List Draft) → length (lines_of ds) ≡ length (all_numbered ds)
as_many ds = many_lines ds ∙ sym (many_numbered ds)

-- what holds of all drafts holds of all operators
pub of_all : (P : ℕ → Type 0) (ds : List Draft) → P (length (lines_of ds)) → P (length (all_numbered ds))
of_all P ds h = subst P (as_many ds) h

module _ (names : List (List ℕ)) (specs : List SourceSpec) (lines : List Line) (ds : List Draft) (drafts : AreDrafts names specs lines ds) where
  -- what stops to hold at a draft stops to hold at the draft's line
  pub stops_line : (P : ℕ → Type 0) (line : ℕ) → StopsAt P (lines_of ds) line → StopsAt P (numbers_of lines) line
  stops_line P line s = stops_as P P (lines_of ds) (numbers_of lines) line (λ k h. h) (λ k h. h) (drafts_numbers names specs lines ds drafts) s

  -- the first draft with an unknown source stands at the first line with one
  pub stops_known : (count line : ℕ) → length specs ≡ count → StopsAt (AreKnown count (all_numbered ds)) (lines_of ds) line → StopsAt (AreKnown (length specs) (all_numbered ds)) (numbers_of lines) line
  stops_known count line e s =
      stops_as (AreKnown count (all_numbered ds)) (AreKnown (length specs) (all_numbered ds)) (lines_of ds) (numbers_of lines) line
      (λ k h. subst (λ (n : ℕ). AreKnown n (all_numbered ds) k) (sym e) h) (λ k h. subst (λ (n : ℕ). AreKnown n (all_numbered ds) k) e h) (drafts_numbers names specs lines ds drafts) s

  -- the first long draft stands at the first line with a long path
  pub stops_long : (line : ℕ) → StopsAt (λ k. AllByRecursion (λ (d : Draft). d.is_long ≡ false) (take k ds)) (lines_of ds) line → StopsAt (AreShort (all_numbered ds)) (numbers_of lines) line
  stops_long line s =
      stops_as (λ k. AllByRecursion (λ (d : Draft). d.is_long ≡ false) (take k ds)) (AreShort (all_numbered ds)) (lines_of ds) (numbers_of lines) line
      (λ k h. drafts_short names specs lines ds k drafts h) (λ k h. short_drafts names specs lines ds k drafts h) (drafts_numbers names specs lines ds drafts) s

  -- the first low draft stands at the first line with a variable out of range
  pub stops_low : (line : ℕ) → StopsAt (λ k. AllByRecursion (λ (d : Draft). d.is_low ≡ false) (take k ds)) (lines_of ds) line → StopsAt (AreRanged (length names) lines) (numbers_of lines) line
  stops_low line s =
      stops_as (λ k. AllByRecursion (λ (d : Draft). d.is_low ≡ false) (take k ds)) (AreRanged (length names) lines) (lines_of ds) (numbers_of lines) line
      (λ k h. drafts_ranged names specs lines ds k drafts h) (λ k h. ranged_drafts names specs lines ds k drafts h) (drafts_numbers names specs lines ds drafts) s

  -- where all drafts have known sources, all operators have
  pub all_known : (count : ℕ) → length specs ≡ count → AreKnown count (all_numbered ds) (length (lines_of ds)) → AreKnown (length specs) (all_numbered ds) (length (all_numbered ds))
  all_known count e h = subst (λ (n : ℕ). AreKnown n (all_numbered ds) (length (all_numbered ds))) (sym e) (of_all (AreKnown count (all_numbered ds)) ds h)

  -- where no draft is long, all paths are short
  pub all_short : AllByRecursion (λ (d : Draft). d.is_long ≡ false) (take (length (lines_of ds)) ds) → AreShort (all_numbered ds) (length (all_numbered ds))
  all_short h = drafts_short names specs lines ds (length (all_numbered ds)) drafts (of_all (λ k. AllByRecursion (λ (d : Draft). d.is_long ≡ false) (take k ds)) ds h)

  -- where no draft is low, all variables are in range
  pub all_ranged : AllByRecursion (λ (d : Draft). d.is_low ≡ false) (take (length (lines_of ds)) ds) → AreRanged (length names) lines (length (all_numbered ds))
  all_ranged h = drafts_ranged names specs lines ds (length (all_numbered ds)) drafts (of_all (λ k. AllByRecursion (λ (d : Draft). d.is_low ≡ false) (take k ds)) ds h)
