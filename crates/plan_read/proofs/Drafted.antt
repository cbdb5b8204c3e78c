-- Drafts and the lines that they are of.
use Rattle.std.proofs.Common.{◌≡◌, ◌<◌, ◌≤◌, ◌+◌, ◌∙◌, ◌||◌, ◌++◌, ℕ, zero, suc, Bool, true, false, List, [], ◌∷◌, None, refl, sym, ap, subst, arith, length, take, get_or, nat_lt}
use Rattle.std.specs.List.{AllByRecursion, list_any}
use Rattle.std.proofs.lemmas.Bool.Decides.{nat_tests}
use Rattle.std.proofs.lemmas.List.{take_more, length-map, get_or-map}
use Rattle.mix_base.proofs.Choices.{none_some}
use Rattle.mix_catalog.specs.declared.source.SourceSpec.{SourceSpec}
use Rattle.plan_core.specs.PlanMade.{op_of}
use Rattle.plan_core.specs.Shapes.{shape_of}
use Rattle.plan_read.specs.Checks.{AreSpelled, positions, IsShort, AreShort, AreRanged}
use Rattle.plan_read.specs.Drafts.{numbered_of, all_numbered, lines_of, IsDraft, AreDrafts}
use Rattle.plan_read.specs.Grammar.{SpellsLine, SpellLines}
use Rattle.plan_read.specs.Lines.{Line}
use Rattle.plan_read.specs.Reading.{Numbered, line_read}
use Rattle.plan_read.specs.Results.{numbers_of}
use Rattle.plan_read.specs.Stops.{StopsAt}
use Rattle.plan_read.specs.Variables.{line_vars, is_below}
use Rattle.plan_read.specs.declared.draft.Draft.{Draft}
use Rattle.plan_read.proofs.ReadLines.{spelled_reads}
use Rattle.plan_read.proofs.SpelledLines.{line_spelled}
use Rattle.plan_read.proofs.Stopping.{each_last}

module _ (names : List (List ℕ)) (sources : List SourceSpec) where
  -- drafts of lines, and a draft of one line more, are together drafts of all of them
  drafts_append : (ls : List Line) (ds : List Draft) (l : Line) (d : Draft) → AreDrafts names sources ls ds → IsDraft names sources l d → AreDrafts names sources (ls ++ l ∷ []) (ds ++ d ∷ [])
  drafts_append [] [] l d a h = (h, tt)
  drafts_append [] (e ∷ ds) l d a h = absurd a
  drafts_append (m ∷ ls) [] l d a h = absurd a
  drafts_append (m ∷ ls) (e ∷ ds) l d a h = (a.0, drafts_append ls ds l d a.1 h)

  -- drafts of the lines before a place, and a draft of the line there, are drafts of the lines up to and with that one
  pub drafts_more : (ls : List Line) (i : ℕ) (l : Line) (ds : List Draft) (d : Draft) → i < length ls → AreDrafts names sources (take i ls) ds → IsDraft names sources (get_or ls i l) d
      → AreDrafts names sources (take (i + 1) ls) (ds ++ d ∷ [])
  drafts_more ls i l ds d h a e = subst (λ ms. AreDrafts names sources ms (ds ++ d ∷ [])) (sym (take_more ls i l h)) (drafts_append (take i ls) ds (get_or ls i l) d a e)

  -- lines with drafts spell operators
  drafts_each : (ls : List Line) (ds : List Draft) → AreDrafts names sources ls ds → AllByRecursion (λ (l : Line). (n : Numbered) × SpellsLine names sources l.text n) ls
  drafts_each [] ds a = tt
  drafts_each (l ∷ ls) [] a = absurd a
  drafts_each (l ∷ ls) (d ∷ ds) a = ((numbered_of d, line_spelled names sources l.text (numbered_of d) a.0.read), drafts_each ls ds a.1)

  -- a line that is read as nothing is the first that spells no operator
  pub no_form : (ls : List Line) (i : ℕ) (l : Line) (ds : List Draft) → i < length ls → l ≡ get_or ls i l → AreDrafts names sources (take i ls) ds → line_read names sources l.text ≡ None
      → StopsAt (AreSpelled names sources ls) (numbers_of ls) l.number
  no_form ls i l ds h e a none = record {
    place = i;
    inside = (let m = length-map ls (λ (k : Line). k.number) in omega (arith, m, h));
    number = get_or-map (λ (k : Line). k.number) ls i l 0 h ∙ ap (λ (k : Line). k.number) (sym e);
    before = drafts_each (take i ls) ds a;
    stops = λ s. (let last = subst (λ (k : Line). (n : Numbered) × SpellsLine names sources k.text n) (sym e) (each_last (λ (k : Line). (n : Numbered) × SpellsLine names sources k.text n) ls i l h s) in
        none_some last.0 (sym none ∙ spelled_reads names sources l.text last.0 last.1));
  }

  -- lines spell the operators of their drafts
  pub drafts_spelled : (ls : List Line) (ds : List Draft) → AreDrafts names sources ls ds → SpellLines names sources ls (all_numbered ds)
  drafts_spelled [] [] a = tt
  drafts_spelled [] (d ∷ ds) a = absurd a
  drafts_spelled (l ∷ ls) [] a = absurd a
  drafts_spelled (l ∷ ls) (d ∷ ds) a = (line_spelled names sources l.text (numbered_of d) a.0.read, drafts_spelled ls ds a.1)

  -- drafts have the numbers of their lines
  pub drafts_numbers : (ls : List Line) (ds : List Draft) → AreDrafts names sources ls ds → lines_of ds ≡ numbers_of ls
  drafts_numbers [] [] a = refl
  drafts_numbers [] (d ∷ ds) a = absurd a
  drafts_numbers (l ∷ ls) [] a = absurd a
  drafts_numbers (l ∷ ls) (d ∷ ds) a = ap (λ n. n ∷ lines_of ds) a.0.line ∙ ap (λ r. l.number ∷ r) (drafts_numbers ls ds a.1)

  -- a draft that isn't long has a short path
  not_long : (l : Line) (d : Draft) → IsDraft names sources l d → d.is_long ≡ false → IsShort (shape_of (op_of d.op))
  not_long l d h e = let f : nat_lt 120 (positions (shape_of (op_of d.op))) ≡ false = sym h.long ∙ e in few (positions (shape_of (op_of d.op))) f
    where
      few : (n : ℕ) → nat_lt 120 n ≡ false → n ≤ 120
      few n e = grind (arith, nat_tests, e)

  -- a draft with a short path isn't long
  is_short : (l : Line) (d : Draft) → IsDraft names sources l d → IsShort (shape_of (op_of d.op)) → d.is_long ≡ false
  is_short l d h e = h.long ∙ few (positions (shape_of (op_of d.op))) e
    where
      few : (n : ℕ) → n ≤ 120 → nat_lt 120 n ≡ false
      few n e = grind (arith, nat_tests, e)

  -- drafts of which none is long have short paths
  pub drafts_short : (ls : List Line) (ds : List Draft) (k : ℕ) → AreDrafts names sources ls ds → AllByRecursion (λ (d : Draft). d.is_long ≡ false) (take k ds) → AreShort (all_numbered ds) k
  drafts_short ls ds zero a h = tt
  drafts_short ls [] (suc k) a h = tt
  drafts_short [] (d ∷ ds) (suc k) a h = absurd a
  drafts_short (l ∷ ls) (d ∷ ds) (suc k) a h = (not_long l d a.0 h.0, drafts_short ls ds k a.1 h.1)

  -- drafts with short paths aren't long
  pub short_drafts : (ls : List Line) (ds : List Draft) (k : ℕ) → AreDrafts names sources ls ds → AreShort (all_numbered ds) k → AllByRecursion (λ (d : Draft). d.is_long ≡ false) (take k ds)
  short_drafts ls ds zero a h = tt
  short_drafts ls [] (suc k) a h = tt
  short_drafts [] (d ∷ ds) (suc k) a h = absurd a
  short_drafts (l ∷ ls) (d ∷ ds) (suc k) a h = (is_short l d a.0 h.0, short_drafts ls ds k a.1 h.1)

  -- where a test holds of none, it fails of each
  none_below : (p : List ℕ → Bool) (xs : List (List ℕ)) → list_any p xs ≡ false → AllByRecursion (λ x. p x ≡ false) xs
  none_below p [] h = tt
  none_below p (x ∷ xs) h = (left (p x) (list_any p xs) h, none_below p xs (right (p x) (list_any p xs) h))
    where
      left : (a b : Bool) → (a || b) ≡ false → a ≡ false
      left true b h = h
      left false b h = refl

      right : (a b : Bool) → (a || b) ≡ false → b ≡ false
      right true b h = absurd (true_false h)
        where
          true_false : ◌≡◌ {A = Bool} true false → ⊥
          true_false h = cc
      right false b h = h

  -- where a test fails of each, it holds of none
  below_none : (p : List ℕ → Bool) (xs : List (List ℕ)) → AllByRecursion (λ x. p x ≡ false) xs → list_any p xs ≡ false
  below_none p [] h = refl
  below_none p (x ∷ xs) h = ap (λ b. b || list_any p xs) h.0 ∙ below_none p xs h.1

  -- drafts of which none is low are of lines whose variables are in range
  pub drafts_ranged : (ls : List Line) (ds : List Draft) (k : ℕ) → AreDrafts names sources ls ds → AllByRecursion (λ (d : Draft). d.is_low ≡ false) (take k ds) → AreRanged (length names) ls k
  drafts_ranged ls ds zero a h = tt
  drafts_ranged [] [] (suc k) a h = tt
  drafts_ranged [] (d ∷ ds) (suc k) a h = absurd a
  drafts_ranged (l ∷ ls) [] (suc k) a h = absurd a
  drafts_ranged (l ∷ ls) (d ∷ ds) (suc k) a h = (none_below (is_below (length names)) (line_vars l.text) (sym a.0.low ∙ h.0), drafts_ranged ls ds k a.1 h.1)

  -- drafts of lines whose variables are in range aren't low
  pub ranged_drafts : (ls : List Line) (ds : List Draft) (k : ℕ) → AreDrafts names sources ls ds → AreRanged (length names) ls k → AllByRecursion (λ (d : Draft). d.is_low ≡ false) (take k ds)
  ranged_drafts ls ds zero a h = tt
  ranged_drafts [] [] (suc k) a h = tt
  ranged_drafts [] (d ∷ ds) (suc k) a h = absurd a
  ranged_drafts (l ∷ ls) [] (suc k) a h = absurd a
  ranged_drafts (l ∷ ls) (d ∷ ds) (suc k) a h = (a.0.low ∙ below_none (is_below (length names)) (line_vars l.text) h.0, ranged_drafts ls ds k a.1 h.1)

-- where two properties are the same, and two lists of numbers, the first stops to hold where the second does
pub stops_as : (P Q : ℕ → Type 0) (xs ys : List ℕ) (line : ℕ) → ((k : ℕ) → P k → Q k) → ((k : ℕ) → Q k → P k) → xs ≡ ys → StopsAt P xs line → StopsAt Q ys line
stops_as P Q xs ys line f g e s = record {
  place = s.place;
  inside = subst (λ (zs : List ℕ). s.place < length zs) e s.inside;
  number = subst (λ (zs : List ℕ). get_or zs s.place 0 ≡ line) e s.number;
  before = f s.place s.before;
  stops = λ q. s.stops (g (suc s.place) q);
}
