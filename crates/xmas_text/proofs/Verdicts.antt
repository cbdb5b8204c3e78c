-- What a scan says of a text.
use Rattle.std.proofs.Common.{◌≡◌, ◌∙◌, ◌+◌, ◌<◌, ◌≤◌, ℕ, Bool, true, false, List, [], Option, Some, None, Result, Ok, Err, option_map, option_and_then, refl, sym, ap, subst, arith, length, nat_lt, take, slice_index}
use Rattle.std.proofs.lemmas.Bool.Decides.{nat_tests}
use Rattle.std.specs.Str.{IsUtf8}
use Rattle.mix_base.specs.Reading.{IsPrefix, IsUnexpected, IsCut}
use Rattle.mix_base.proofs.Runs.{kept_none}
use Rattle.mix_base.proofs.Choices.{Gives, some_is, none_some}
use Rattle.xmas_text.specs.declared.scan.Scan.{Scan}
use Rattle.xmas_text.specs.Grammar.{Rule, Writes}
use Rattle.xmas_text.specs.Levels.{levels}
use Rattle.xmas_tokens.specs.Tokens.{Token}
use Rattle.xmas_text.specs.Spots.{Spot, cond_done, sorted, stage_of}
use Rattle.xmas_tokens.specs.Lexer.{Lex, between, marking, angle, opening, slash, closing, naming, dollar, varying, quoting, escaping, pathing, ready, comparing, token_in}
use Rattle.xmas_text.specs.Machine.{State, run, rule_at, rule_after, whole_in, whole, start, read_of}
use Rattle.xmas_text.specs.Results.{Spells, IsTooDeep, Scans}
use Rattle.xmas_text.specs.Ends.{EndsBy, EndsSo}
use Rattle.xmas_text.specs.declared.fault.TextFault.{TextFault}
use Rattle.xmas_text.specs.Scans.{levels_at, scan_of, settled, scan_step, may_end_at}
use Rattle.xmas_text.proofs.Runs.{Stands, run_stands, start_stands, read_writes}
use Rattle.xmas_text.proofs.Complete.{writes_read}
use Rattle.xmas_text.proofs.Prefixes.{run_prefix, stopped_prefix}
use Rattle.xmas_text.proofs.Steps.{rest_by, rest_in, rest, rest_scan}
use Rattle.xmas_text.proofs.Cuts.{ScansTo, scan_more, prefix_utf8, stops_outside}

-- what a scan has passed is a prefix, from an option
scan_prefix_at : (x : List ℕ) (s : Scan) (o : Option State) → IsUtf8 x → run start x ≡ o → option_map scan_of o ≡ Some s → IsPrefix Spells x
scan_prefix_at x s None u r e = none_some s e
scan_prefix_at x s (Some t) u r e = run_prefix x t u r

-- what a scan has passed is a prefix
pub scan_prefix : (x : List ℕ) (s : Scan) → IsUtf8 x → ScansTo x s → IsPrefix Spells x
scan_prefix x s u e = scan_prefix_at x s (run start x) u refl e

-- where a scan stops, the byte is unexpected
pub scan_unexpected : (x : List ℕ) (i : ℕ) (s : Scan) → IsUtf8 x → i < length x → ScansTo (take i x) s → scan_step s (slice_index x i) ≡ None → IsUnexpected Spells x i
scan_unexpected x i s u h e n = record {
  inside = h;
  prefix = scan_prefix (take i x) s (prefix_utf8 x i s u (omega arith) e (stops_outside s (slice_index x i) n)) e;
  wrong =
      stopped_prefix (take (i + 1) x) (kept_none scan_of (run start (take (i + 1) x)) (scan_more x i s h e ∙ n));
}

-- the rule that ends after a token is the one at the state in which the token ends
rule_rest : (s : Spot) (g : List ℕ) (o : Option Token) → rule_after s g o ≡ option_and_then (λ u. rule_at u.spot u.gap) (rest_by s g o)
rule_rest s g None = refl
rule_rest s g (Some t) = refl

-- a rule ends where the token at hand does
pub whole_rest : (s : Spot) (g : List ℕ) (l : Lex) → whole_in s g l ≡ option_and_then (λ u. rule_at u.spot u.gap) (rest_in s g l)
whole_rest s g between = refl
whole_rest s g (marking m done r) = rule_rest s g (token_in (marking m done r))
whole_rest s g (angle o c) = refl
whole_rest s g (opening l) = refl
whole_rest s g slash = refl
whole_rest s g (closing l) = refl
whole_rest s g (naming l) = rule_rest s g (token_in (naming l))
whole_rest s g dollar = refl
whole_rest s g (varying l) = rule_rest s g (token_in (varying l))
whole_rest s g (quoting ps) = refl
whole_rest s g (escaping ps) = refl
whole_rest s g (pathing p) = rule_rest s g (token_in (pathing p))
whole_rest s g (ready t) = rule_rest s g (token_in (ready t))
whole_rest s g (comparing k) = rule_rest s g (token_in (comparing k))

-- the rule has as many levels as have been read at the spot
abbrev RuleOf : Spot → Rule → Type 0
RuleOf s r = levels r.template ≡ levels_at s

-- at a stage where a rule may end, the spot has a rule of its levels
pub may_end_rule : (s : Spot) (g : List ℕ) → may_end_at (stage_of s) ≡ true → (r : Rule) × (rule_at s g ≡ Some r) × RuleOf s r
may_end_rule (cond_done h cs) g e = (_, refl, refl)
may_end_rule (sorted h cs o) g e = (_, refl, refl)
may_end_rule s g e = cc

-- at a stage where no rule may end, the spot has no rule
no_end_rule : (s : Spot) (g : List ℕ) → may_end_at (stage_of s) ≡ false → rule_at s g ≡ None
no_end_rule (cond_done h cs) g e = cc
no_end_rule (sorted h cs o) g e = cc
no_end_rule s g e = refl

-- the text is a rule's, which is too deep or not as the scan says
abbrev pub Ends : List ℕ → Scan → Type 0
Ends x b = (r : Rule) × Writes x r × (nat_lt 20 (levels r.template) ≡ b.deep)

-- what is read where a scan may end, from where its token ends
ends_rest : (x : List ℕ) (t : State) (b : Scan) (o : Option State) → run start x ≡ Some t → rest t ≡ o → option_map scan_of o ≡ Some b → may_end_at b.stage ≡ true → Ends x b
ends_rest x t b None r e h m = none_some b h
ends_rest x t b (Some u) r e h m =
    let same : scan_of u ≡ b = some_is _ _ h in
    let rule = may_end_rule u.spot u.gap (ap (λ v. may_end_at v.stage) same ∙ m) in
    let read : read_of x ≡ Some rule.0 = ap (option_and_then whole) r ∙ whole_rest t.spot t.gap t.lex ∙ ap (option_and_then (λ v. rule_at v.spot v.gap)) e ∙ rule.1 in
    (rule.0, read_writes x rule.0 read, ap (λ n. nat_lt 20 n) rule.2 ∙ ap (λ v. v.deep) same)

-- what is read where a scan may end, from an option
ends_at : (x : List ℕ) (s b : Scan) (o : Option State) → Gives (Stands x) o → run start x ≡ o → option_map scan_of o ≡ Some s → settled s ≡ Some b → may_end_at b.stage ≡ true → Ends x b
ends_at x s b None k r e h m = none_some s e
ends_at x s b (Some t) k r e h m = ends_rest x t b (rest t) r refl (rest_scan x t.spot t.gap t.lex k ∙ ap settled (some_is _ _ e) ∙ h) m

-- where a scan may end, the text is a rule's
pub scan_ends : (x : List ℕ) (s b : Scan) → ScansTo x s → settled s ≡ Some b → may_end_at b.stage ≡ true → Ends x b
scan_ends x s b e h m = ends_at x s b (run start x) (run_stands x [] start start_stands) refl e h m

-- no rule may end after what is settled
abbrev pub NoEnd : Option Scan → Type 0
NoEnd None = Unit {0}
NoEnd (Some b) = may_end_at b.stage ≡ false

-- nothing is read where a scan may not end, from where its token ends
cut_rest : (x : List ℕ) (t : State) (o : Option State) → run start x ≡ Some t → rest t ≡ o → NoEnd (option_map scan_of o) → read_of x ≡ None
cut_rest x t None r e n = ap (option_and_then whole) r ∙ whole_rest t.spot t.gap t.lex ∙ ap (option_and_then (λ v. rule_at v.spot v.gap)) e
cut_rest x t (Some u) r e n = ap (option_and_then whole) r ∙ whole_rest t.spot t.gap t.lex ∙ ap (option_and_then (λ v. rule_at v.spot v.gap)) e ∙ no_end_rule u.spot u.gap n

-- nothing is read where a scan may not end, from an option
cut_at : (x : List ℕ) (s : Scan) (o : Option State) → Gives (Stands x) o → run start x ≡ o → option_map scan_of o ≡ Some s → NoEnd (settled s) → read_of x ≡ None
cut_at x s None k r e n = none_some s e
cut_at x s (Some t) k r e n = cut_rest x t (rest t) r refl (subst NoEnd (sym (rest_scan x t.spot t.gap t.lex k ∙ ap settled (some_is _ _ e))) n)

-- where a scan may not end, the text is cut
pub scan_cut : (x : List ℕ) (s : Scan) → IsUtf8 x → ScansTo x s → NoEnd (settled s) → IsCut Spells x
scan_cut x s u e n = record {
  prefix = scan_prefix x s u e;
  none = λ v (r, h, k). none_some r (sym (cut_at x s (run start x) (run_stands x [] start start_stands) refl e n) ∙ writes_read x r h);
}

-- a rule that the scan finds within the limit
pub within_scan : (x : List ℕ) (b : Scan) → Ends x b → b.deep ≡ false → (r : Rule) × Writes x r × (levels r.template ≤ 20)
within_scan x b (r, w, e) d =
    let n : nat_lt 20 (levels r.template) ≡ false = e ∙ d in
    (r, w, grind (arith, nat_tests))

-- a text of a rule that the scan finds too deep is too deep
pub deep_scan : (x : List ℕ) (b : Scan) → Ends x b → b.deep ≡ true → IsTooDeep x
deep_scan x b (r, w, e) d =
    let n : nat_lt 20 (levels r.template) ≡ true = e ∙ d in
    (r, w, grind (arith, nat_tests))

-- what is said of a text that a scan has passed, by whether a rule may end there
ends_by : {X : Type 0} (x : List ℕ) (s b : Scan) (may deep : Bool) (r : Result X TextFault) → IsUtf8 x → ScansTo x s → settled s ≡ Some b → may_end_at b.stage ≡ may → b.deep ≡ deep → EndsBy may deep r → Scans x r
ends_by x s b false d r u e h m k w = subst (Scans x) (sym w) (u, scan_cut x s u e (subst NoEnd (sym h) m))
ends_by x s b true true r u e h m k w = subst (Scans x) (sym w) (u, deep_scan x b (scan_ends x s b e h m) k)
ends_by x s b true false (Ok v) u e h m k w = within_scan x b (scan_ends x s b e h m) k
ends_by x s b true false (Err f) u e h m k w = absurd w

-- what is said of a text that a scan has passed is right, by where the token at hand ends
ends_where : {X : Type 0} (x : List ℕ) (s : Scan) (o : Option Scan) (r : Result X TextFault) → IsUtf8 x → ScansTo x s → settled s ≡ o → EndsSo o r → Scans x r
ends_where x s None r u e h w = subst (Scans x) (sym w) (u, scan_cut x s u e (subst NoEnd (sym h) tt))
ends_where x s (Some b) r u e h w = ends_by x s b (may_end_at b.stage) b.deep r u e h refl refl w

-- what is said of a text that a scan has passed whole
pub ends_scan : {X : Type 0} (x : List ℕ) (s : Scan) (r : Result X TextFault) → IsUtf8 x → ScansTo x s → EndsSo (settled s) r → Scans x r
ends_scan x s r u e w = ends_where x s (settled s) r u e refl w
