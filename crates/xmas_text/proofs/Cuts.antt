-- Where a scan stands outside quotes, what it has passed is UTF-8.
use Rattle.std.proofs.Common.{◌≡◌, ◌∙◌, ◌+◌, ◌<◌, ◌≤◌, ℕ, zero, suc, Bool, true, false, List, [], ◌∷◌, ◌++◌, Option, Some, None, option_map, option_and_then, refl, sym, ap, subst, arith, length, nat_lt, take, drop, slice_index}
use Rattle.std.proofs.lemmas.Bool.Decides.{nat_tests}
use Rattle.std.proofs.lemmas.List.{take-append-drop}
use Rattle.std.proofs.lemmas.Str.{IsUtf8-nil}
use Rattle.std.specs.Str.{IsUtf8}
use Rattle.mix_base.specs.Runs.{LeadsTo}
use Rattle.mix_base.proofs.Runs.{run_append, take_next, scan_after, scan_prefix as scan_prefix_by}
use Rattle.mix_base.proofs.Choices.{Gives, some_is, none_some}
use Rattle.mix_base.proofs.Utf8.{utf8_after}
use Rattle.path_expr.proofs.Shapes.{IsHigh, is_high}
use Rattle.xmas_tokens.specs.declared.lexer.Part.{Part}
use Rattle.xmas_text.specs.declared.scan.Scan.{Scan}
use Rattle.xmas_text.specs.Machine.{State, step, run, start}
use Rattle.xmas_tokens.specs.Parts.{part_step, first_part}
use Rattle.xmas_text.specs.Scans.{scan_of, may_now, with_part, settled, begun, or_begun, scan_step}
use Rattle.xmas_text.proofs.Runs.{Stands, run_stands, start_stands}
use Rattle.xmas_tokens.proofs.Quotes.{InQuotes, IsHigher, is_higher, high_part, no_token, quotes_go_on}
use Rattle.xmas_text.proofs.Steps.{step_scan}

-- a scan that stands where the machine stands
abbrev pub ScansTo : List ℕ → Scan → Type 0
ScansTo = LeadsTo step scan_of start

-- a scan goes on as the machine does, where that stands at a text
alike : (x : List ℕ) (t : State) (b : ℕ) → Stands x t → option_map scan_of (step t b) ≡ scan_step (scan_of t) b
alike x t b h = step_scan x t.spot t.gap t.lex b h

-- a state that a run came to stands
stood : (x : List ℕ) (t : State) → run start x ≡ Some t → Stands x t
stood x t r = subst (Gives (Stands x)) r (run_stands x [] start start_stands)

-- what a scan keeps after one more byte of a text is what its step makes of that byte
pub scan_more : (x : List ℕ) (i : ℕ) (s : Scan) → i < length x → ScansTo (take i x) s → option_map scan_of (run start (take (i + 1) x)) ≡ scan_step s (slice_index x i)
scan_more x i s h e = scan_prefix_by step scan_of scan_step start x i s (λ t b r. alike (take i x) t b (stood (take i x) t r)) h e

-- a scan that goes on with the next byte of a text still stands where the machine does
pub scan_next : (x : List ℕ) (i : ℕ) (s t : Scan) → i < length x → ScansTo (take i x) s → scan_step s (slice_index x i) ≡ Some t → ScansTo (take (i + 1) x) t
scan_next x i s t h e n = scan_more x i s h e ∙ n

-- between tokens no scan goes on with a byte that is not ASCII
high_between : (o : Option Scan) (b : ℕ) → 128 ≤ b → IsHigh b → IsHigher b → Gives (λ t. InQuotes t.part) (begun o b)
high_between None b l h k = tt
high_between (Some s) b l h k = rw k.blank (none_of (first_part (may_now s) b) (no_token (may_now s) b l h k))
  where
    none_of : (o : Option Part) → o ≡ None → Gives (λ t. InQuotes t.part) (option_map (with_part s) o)
    none_of None e = tt
    none_of (Some p) e = none_some p (sym e)

-- a byte that is not ASCII leads a scan inside quotes or nowhere, by what the token at hand does
high_by : (s : Scan) (b : ℕ) (o : Option Part) → 128 ≤ b → IsHigh b → IsHigher b → Gives InQuotes o → Gives (λ t. InQuotes t.part) (or_begun s b o)
high_by s b None l h k e = high_between (settled s) b l h k
high_by s b (Some p) l h k e = e

-- a byte that is not ASCII stands inside quotes
high_step : (s : Scan) (b : ℕ) → 128 ≤ b → Gives (λ t. InQuotes t.part) (scan_step s b)
high_step s b l = high_by s b (part_step s.part b) l (is_high b l) (is_higher b l) (high_part s.part b l (is_high b l) (is_higher b l))

-- what stands after a byte that is not ASCII stands inside quotes
high_after : (o : Option State) (x : List ℕ) (b : ℕ) (s : Scan) → 128 ≤ b → Gives (Stands x) o → option_map scan_of (option_and_then (λ t. run t (b ∷ [])) o) ≡ Some s → InQuotes s.part
high_after None x b s l h e = none_some s e
high_after (Some t) x b s l h e = subst (Gives (λ u. InQuotes u.part)) (sym (scan_after step scan_of scan_step (Some t) (scan_of t) b (λ u r. alike x u b (subst (Stands x) (some_is _ _ r) h)) refl) ∙ e) (high_step (scan_of t) b l)

-- outside quotes a character ends
cut_after : (x y : List ℕ) (b : ℕ) (s : Scan) → IsUtf8 ((x ++ b ∷ []) ++ y) → ScansTo (x ++ b ∷ []) s → (InQuotes s.part → ⊥) → IsUtf8 (x ++ b ∷ [])
cut_after x y b s u e n = by_case (nat_lt b 128) refl
  where
    by_case : (low : Bool) → nat_lt b 128 ≡ low → IsUtf8 (x ++ b ∷ [])
    by_case true k = (utf8_after x y b (grind (arith, nat_tests)) u).0
    by_case false k =
        let high : 128 ≤ b = grind (arith, nat_tests) in
        absurd (n (high_after (run start x) x b s high (run_stands x [] start start_stands) (ap (option_map scan_of) (sym (run_append step x (b ∷ []) start)) ∙ e)))

-- what a scan outside quotes has passed is UTF-8
pub prefix_utf8 : (x : List ℕ) (i : ℕ) (s : Scan) → IsUtf8 x → i ≤ length x → ScansTo (take i x) s → (InQuotes s.part → ⊥) → IsUtf8 (take i x)
prefix_utf8 x zero s u h e n = IsUtf8-nil
prefix_utf8 x (suc j) s u h e n =
    let more : suc j ≡ j + 1 = omega arith in
    let parts : take (suc j) x ≡ take j x ++ slice_index x j ∷ [] = ap (λ k. take k x) more ∙ take_next x j (omega arith) in
    let whole : (take j x ++ slice_index x j ∷ []) ++ drop (suc j) x ≡ x = ap (λ r. r ++ drop (suc j) x) (sym parts) ∙ take-append-drop (suc j) x in
    subst IsUtf8 (sym parts) (cut_after (take j x) (drop (suc j) x) (slice_index x j) s (subst IsUtf8 (sym whole) u) (subst (λ y. ScansTo y s) parts e) n)

-- a scan that stops stands outside quotes
pub stops_outside : (s : Scan) (b : ℕ) → scan_step s b ≡ None → InQuotes s.part → ⊥
stops_outside s b e q = quotes_go_on s.part b q (none_by (part_step s.part b) e)
  where
    none_by : (o : Option Part) → or_begun s b o ≡ None → o ≡ None
    none_by None e = refl
    none_by (Some p) e = none_some (with_part s p) (sym e)
