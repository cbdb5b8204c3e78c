-- A scan goes as the machine does.
use Rattle.std.proofs.Common.{◌≡◌, ◌∙◌, ℕ, suc, Bool, true, false, cond, List, [], ◌∷◌, ◌++◌, Option, Some, None, option_map, option_and_then, refl, sym, ap, arith, length, nat_lt}
use Rattle.std.proofs.lemmas.Bool.Decides.{nat_tests}
use Rattle.mix_base.proofs.Choices.{some_is, none_some}
use Rattle.xmas_text.specs.declared.stage.Stage.{Stage}
use Rattle.xmas_text.specs.declared.scan.Scan.{Scan}
use Rattle.xmas_tokens.specs.Lexical.{is_blank}
use Rattle.xmas_tokens.specs.Tokens.{Token, kind_of}
use Rattle.xmas_text.specs.Stages.{may_come}
use Rattle.xmas_text.specs.Spots.{Frame, Spot, has_blank, is_inside, stage_of, frames_of, takes, shift}
use Rattle.xmas_tokens.specs.Lexer.{Lex, between, marking, angle, opening, slash, closing, naming, dollar, varying, quoting, escaping, pathing, ready, comparing, lex_step, token_in, begin}
use Rattle.xmas_text.specs.Machine.{State, at, with_lex, next, after, or_after, step_in}
use Rattle.xmas_tokens.specs.Parts.{part_of, kind_in, first_part}
use Rattle.xmas_text.specs.Scans.{levels_at, scan_of, scan_after, with_part, between_step, settled, begun, or_begun, scan_step}
use Rattle.xmas_text.proofs.Runs.{Stands}
use Rattle.xmas_tokens.proofs.Ended.{token_ended}
use Rattle.xmas_text.proofs.Moves.{Moves, moves, may_group_of}
use Rattle.xmas_tokens.proofs.Parts.{step_part, kind_part, begin_part}

-- some element is open where their number is above 0
inside_count : (o : List Frame) → is_inside o ≡ nat_lt 0 (length o)
inside_count [] = refl
inside_count (f ∷ o) = positive (length o)
  where
    positive : (n : ℕ) → true ≡ nat_lt 0 (suc n)
    positive n = grind (arith, nat_tests)

-- a gap with one more byte has a blank
blank_more : (g : List ℕ) (b : ℕ) → has_blank (g ++ b ∷ []) ≡ true
blank_more [] b = refl
blank_more (c ∷ g) b = refl

-- two choices by one boolean are scanned alike where their sides are
either : (b : Bool) (x y : Option State) (v w : Option Scan) → option_map scan_of x ≡ v → option_map scan_of y ≡ w → option_map scan_of (cond b x y) ≡ cond b v w
either true x y v w h k = h
either false x y v w h k = k

-- a state in which a token has begun is scanned as the scan with the token's part
with_lex_scan : (s : Spot) (g : List ℕ) (o : Option Lex) → option_map scan_of (with_lex s g o) ≡ option_map (with_part (scan_of (at s g between))) (option_map part_of o)
with_lex_scan s g None = refl
with_lex_scan s g (Some l) = refl

-- the scan that keeps the same but for a blank
blank_scan : (s : Spot) (g : List ℕ) (b : ℕ) → Some (scan_of (at s (g ++ b ∷ []) between)) ≡ Some (record { stage = stage_of s; depth = length (frames_of s); deep = nat_lt 20 (levels_at s); gap = true; part = part_of between })
blank_scan s g b = ap (λ q. Some (record { stage = stage_of s; depth = length (frames_of s); deep = nat_lt 20 (levels_at s); gap = q; part = part_of between })) (blank_more g b)

-- a byte between tokens leads the scan as it leads the state
pub next_scan : (s : Spot) (g : List ℕ) (b : ℕ) → option_map scan_of (next s g b) ≡ between_step (scan_of (at s g between)) b
next_scan s g b =
    either (is_blank b) _ _ _ _ (blank_scan s g b)
    (with_lex_scan s g (begin (takes s g) b)
    ∙ ap (option_map (with_part (scan_of (at s g between))))
    (begin_part (takes s g) b ∙ ap (λ i. first_part (λ k. may_come (stage_of s) i (has_blank g) k) b) (inside_count (frames_of s))))

-- the state between tokens that a token ends in, where one may end; between tokens the state itself
abbrev pub rest_by : Spot → List ℕ → Option Token → Option State
rest_by s g None = None
rest_by s g (Some t) = Some (at (shift s g t) [] between)

-- the state between tokens in which the token at hand ends, where one may end
abbrev pub rest_in : Spot → List ℕ → Lex → Option State
rest_in s g between = Some (at s g between)
rest_in s g (marking m done rest) = rest_by s g (token_in (marking m done rest))
rest_in s g (angle o c) = None
rest_in s g (opening l) = None
rest_in s g slash = None
rest_in s g (closing l) = None
rest_in s g (naming l) = rest_by s g (token_in (naming l))
rest_in s g dollar = None
rest_in s g (varying l) = rest_by s g (token_in (varying l))
rest_in s g (quoting ps) = None
rest_in s g (escaping ps) = None
rest_in s g (pathing p) = rest_by s g (token_in (pathing p))
rest_in s g (ready t) = rest_by s g (token_in (ready t))
rest_in s g (comparing k) = rest_by s g (token_in (comparing k))

-- the state between tokens in which a state's token ends, where one may end
abbrev pub rest : State → Option State
rest t = rest_in t.spot t.gap t.lex

-- a scan between tokens, with no blank before it
abbrev fresh : Stage → ℕ → Bool → Scan
fresh s n deep = record { stage = s; depth = n; deep = deep; gap = false; part = part_of between }

-- two scans between tokens are the same where their stages, depths and levels are
fresh_same : (p q : Stage) (m n : ℕ) (c d : Bool) → p ≡ q → m ≡ n → c ≡ d → fresh p m c ≡ fresh q n d
fresh_same p q m n c d h k l = ap (λ u. fresh u m c) h ∙ ap (λ u. fresh q u c) k ∙ ap (λ u. fresh q n u) l

-- the scan after a token that may come
shift_scan : (s : Spot) (g : List ℕ) (l : Lex) (t : Token) → Moves s g t → scan_of (at (shift s g t) [] between) ≡ scan_after (scan_of (at s g l)) (kind_of t)
shift_scan s g l t m = fresh_same _ _ _ _ _ _ m.stage m.depth m.deep

-- the state in which a token ends, where the token is given as an option, is scanned as the scan after its kind
rest_scan_by : (x : List ℕ) (s : Spot) (g : List ℕ) (l : Lex) (o : Option Token) → token_in l ≡ o → Stands x (at s g l) → option_map scan_of (rest_by s g o) ≡ option_map (scan_after (scan_of (at s g l))) (option_map kind_of o)
rest_scan_by x s g l None e h = refl
rest_scan_by x s g l (Some t) e h = ap Some (shift_scan s g l t (moves s g t (may_group_of s h.spot) (token_ended (takes s g) l t h.lex h.offered e).taken))

-- the state in which the token at hand ends is scanned as the scan after the kind that the part at hand has
rest_token : (x : List ℕ) (s : Spot) (g : List ℕ) (l : Lex) → Stands x (at s g l) → option_map scan_of (rest_by s g (token_in l)) ≡ option_map (scan_after (scan_of (at s g l))) (kind_in (part_of l))
rest_token x s g l h = rest_scan_by x s g l (token_in l) refl h ∙ ap (option_map (scan_after (scan_of (at s g l)))) (kind_part l h.lex)

-- the state in which the token at hand ends is scanned as the scan after it
pub rest_scan : (x : List ℕ) (s : Spot) (g : List ℕ) (l : Lex) → Stands x (at s g l) → option_map scan_of (rest_in s g l) ≡ settled (scan_of (at s g l))
rest_scan x s g between h = refl
rest_scan x s g (marking m done r) h = rest_token x s g (marking m done r) h
rest_scan x s g (angle o c) h = refl
rest_scan x s g (opening l) h = refl
rest_scan x s g slash h = refl
rest_scan x s g (closing l) h = refl
rest_scan x s g (naming l) h = rest_token x s g (naming l) h
rest_scan x s g dollar h = refl
rest_scan x s g (varying l) h = rest_token x s g (varying l) h
rest_scan x s g (quoting ps) h = refl
rest_scan x s g (escaping ps) h = refl
rest_scan x s g (pathing p) h = rest_token x s g (pathing p) h
rest_scan x s g (ready t) h = rest_token x s g (ready t) h
rest_scan x s g (comparing k) h = rest_token x s g (comparing k) h

-- a byte after a token leads on from the state in which the token ends
after_rest : (s : Spot) (g : List ℕ) (o : Option Token) (b : ℕ) → after s g o b ≡ option_and_then (λ u. next u.spot u.gap b) (rest_by s g o)
after_rest s g None b = refl
after_rest s g (Some t) b = refl

-- a byte that does not go on with the token at hand leads on from the state in which that token ends
pub step_rest : (s : Spot) (g : List ℕ) (l : Lex) (b : ℕ) → lex_step l b ≡ None → step_in s g l b ≡ option_and_then (λ u. next u.spot u.gap b) (rest_in s g l)
step_rest s g between b e = refl
step_rest s g (marking m done r) b e = ap (or_after s g (marking m done r) b) e ∙ after_rest s g (token_in (marking m done r)) b
step_rest s g (angle o c) b e = ap (or_after s g (angle o c) b) e
step_rest s g (opening l) b e = ap (or_after s g (opening l) b) e
step_rest s g slash b e = ap (or_after s g slash b) e
step_rest s g (closing l) b e = ap (or_after s g (closing l) b) e
step_rest s g (naming l) b e = ap (or_after s g (naming l) b) e ∙ after_rest s g (token_in (naming l)) b
step_rest s g dollar b e = ap (or_after s g dollar b) e
step_rest s g (varying l) b e = ap (or_after s g (varying l) b) e ∙ after_rest s g (token_in (varying l)) b
step_rest s g (quoting ps) b e = ap (or_after s g (quoting ps) b) e
step_rest s g (escaping ps) b e = ap (or_after s g (escaping ps) b) e
step_rest s g (pathing p) b e = ap (or_after s g (pathing p) b) e ∙ after_rest s g (token_in (pathing p)) b
step_rest s g (ready t) b e = ap (or_after s g (ready t) b) e ∙ after_rest s g (token_in (ready t)) b
step_rest s g (comparing k) b e = ap (or_after s g (comparing k) b) e ∙ after_rest s g (token_in (comparing k)) b

-- a byte that goes on with the token at hand leads to the state with the longer token
pub step_on : (s : Spot) (g : List ℕ) (l k : Lex) (b : ℕ) → lex_step l b ≡ Some k → step_in s g l b ≡ Some (at s g k)
step_on s g between k b e = none_some k e
step_on s g (marking m done r) k b e = ap (or_after s g (marking m done r) b) e
step_on s g (angle p q) k b e = ap (or_after s g (angle p q) b) e
step_on s g (opening l) k b e = ap (or_after s g (opening l) b) e
step_on s g slash k b e = ap (or_after s g slash b) e
step_on s g (closing l) k b e = ap (or_after s g (closing l) b) e
step_on s g (naming l) k b e = ap (or_after s g (naming l) b) e
step_on s g dollar k b e = ap (or_after s g dollar b) e
step_on s g (varying l) k b e = ap (or_after s g (varying l) b) e
step_on s g (quoting ps) k b e = ap (or_after s g (quoting ps) b) e
step_on s g (escaping ps) k b e = ap (or_after s g (escaping ps) b) e
step_on s g (pathing p) k b e = ap (or_after s g (pathing p) b) e
step_on s g (comparing j) k b e = ap (or_after s g (comparing j) b) e
step_on s g (ready t) k b e = ap (or_after s g (ready t) b) e

-- a byte after a state between tokens is scanned as the byte after that state's scan
next_begun : (o : Option State) (b : ℕ) → ((t : State) → o ≡ Some t → t.lex ≡ between) → option_map scan_of (option_and_then (λ u. next u.spot u.gap b) o) ≡ begun (option_map scan_of o) b
next_begun None b h = refl
next_begun (Some t) b h = next_scan t.spot t.gap b ∙ ap (λ l. between_step (scan_of (at t.spot t.gap l)) b) (sym (h t refl))

-- where a token has ended, none is at hand
rest_by_between : (s : Spot) (g : List ℕ) (o : Option Token) (t : State) → rest_by s g o ≡ Some t → t.lex ≡ between
rest_by_between s g None t e = none_some t e
rest_by_between s g (Some u) t e = ap (λ v. v.lex) (sym (some_is _ _ e))

-- where the token at hand has ended, no token is at hand
pub rest_between : (s : Spot) (g : List ℕ) (l : Lex) (t : State) → rest_in s g l ≡ Some t → t.lex ≡ between
rest_between s g between t e = ap (λ v. v.lex) (sym (some_is _ _ e))
rest_between s g (marking m done r) t e = rest_by_between s g (token_in (marking m done r)) t e
rest_between s g (angle o c) t e = none_some t e
rest_between s g (opening l) t e = none_some t e
rest_between s g slash t e = none_some t e
rest_between s g (closing l) t e = none_some t e
rest_between s g (naming l) t e = rest_by_between s g (token_in (naming l)) t e
rest_between s g dollar t e = none_some t e
rest_between s g (varying l) t e = rest_by_between s g (token_in (varying l)) t e
rest_between s g (quoting ps) t e = none_some t e
rest_between s g (escaping ps) t e = none_some t e
rest_between s g (pathing p) t e = rest_by_between s g (token_in (pathing p)) t e
rest_between s g (ready u) t e = rest_by_between s g (token_in (ready u)) t e
rest_between s g (comparing k) t e = rest_by_between s g (token_in (comparing k)) t e

-- one more byte leads the scan as it leads the state, by whether the token at hand goes on
step_scan_by : (x : List ℕ) (s : Spot) (g : List ℕ) (l : Lex) (b : ℕ) (o : Option Lex) → lex_step l b ≡ o → Stands x (at s g l) → option_map scan_of (step_in s g l b) ≡ or_begun (scan_of (at s g l)) b (option_map part_of o)
step_scan_by x s g l b None e h =
    ap (option_map scan_of) (step_rest s g l b e) ∙ next_begun (rest_in s g l) b (rest_between s g l) ∙ ap (λ q. begun q b) (rest_scan x s g l h)
step_scan_by x s g l b (Some k) e h = ap (option_map scan_of) (step_on s g l k b e)

-- one more byte leads the scan as it leads the state
pub step_scan : (x : List ℕ) (s : Spot) (g : List ℕ) (l : Lex) (b : ℕ) → Stands x (at s g l) → option_map scan_of (step_in s g l b) ≡ scan_step (scan_of (at s g l)) b
step_scan x s g l b h = step_scan_by x s g l b (lex_step l b) refl h ∙ ap (or_begun (scan_of (at s g l)) b) (step_part l b h.lex)
