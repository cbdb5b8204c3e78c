-- Reading rules byte by byte: tokens, each after blanks, and where they stand.
use Rattle.std.specs.Prelude.{ℕ, cond, List, [], ◌∷◌, ◌++◌, Option, Some, None, option_and_then}
use Rattle.mix_base.specs.Runs.{run_by}
use Rattle.xmas_tokens.specs.Lexical.{is_blank}
use Rattle.xmas_text.specs.Grammar.{unordered, Rule}
use Rattle.xmas_tokens.specs.Tokens.{Token}
use Rattle.xmas_text.specs.Spots.{Spot, beginning, cond_done, sorted, takes, shift}
use Rattle.xmas_tokens.specs.Lexer.{Lex, between, marking, angle, opening, slash, closing, naming, dollar, varying, quoting, escaping, pathing, ready, comparing, lex_step, token_in, begin}

-- where the token at hand stands, the blanks before it, and what has been read of it
pub record State : Type 0 where
  pub spot : Spot
  pub gap : List ℕ
  pub lex : Lex

-- the state at a spot after a gap, with a token at hand
abbrev pub at : Spot → List ℕ → Lex → State
at s g l = record { spot = s; gap = g; lex = l }

-- the state in which a token has begun, where one has
abbrev pub with_lex : Spot → List ℕ → Option Lex → Option State
with_lex s g None = None
with_lex s g (Some l) = Some (at s g l)

-- the state after a byte between tokens, where the machine goes on
abbrev pub next : Spot → List ℕ → ℕ → Option State
next s g b = cond (is_blank b) (Some (at s (g ++ b ∷ []) between)) (with_lex s g (begin (takes s g) b))

-- the state after a byte that follows a token, where one ends
abbrev pub after : Spot → List ℕ → Option Token → ℕ → Option State
after s g None b = None
after s g (Some t) b = next (shift s g t) [] b

-- the state after a byte that goes on with the token at hand, or else stands after that token
abbrev pub or_after : Spot → List ℕ → Lex → ℕ → Option Lex → Option State
or_after s g l b None = after s g (token_in l) b
or_after s g l b (Some k) = Some (at s g k)

-- the state after one more byte, at a spot after a gap with a token at hand
abbrev pub step_in : Spot → List ℕ → Lex → ℕ → Option State
step_in s g between b = next s g b
step_in s g (marking m done rest) b = or_after s g (marking m done rest) b (lex_step (marking m done rest) b)
step_in s g (angle o c) b = or_after s g (angle o c) b (lex_step (angle o c) b)
step_in s g (opening l) b = or_after s g (opening l) b (lex_step (opening l) b)
step_in s g slash b = or_after s g slash b (lex_step slash b)
step_in s g (closing l) b = or_after s g (closing l) b (lex_step (closing l) b)
step_in s g (naming l) b = or_after s g (naming l) b (lex_step (naming l) b)
step_in s g dollar b = or_after s g dollar b (lex_step dollar b)
step_in s g (varying l) b = or_after s g (varying l) b (lex_step (varying l) b)
step_in s g (quoting ps) b = or_after s g (quoting ps) b (lex_step (quoting ps) b)
step_in s g (escaping ps) b = or_after s g (escaping ps) b (lex_step (escaping ps) b)
step_in s g (pathing p) b = or_after s g (pathing p) b (lex_step (pathing p) b)
step_in s g (ready t) b = or_after s g (ready t) b (lex_step (ready t) b)
step_in s g (comparing k) b = or_after s g (comparing k) b (lex_step (comparing k) b)

-- the state after one more byte
abbrev pub step : State → ℕ → Option State
step s b = step_in s.spot s.gap s.lex b

-- the state after a text, where the machine goes on so far
abbrev pub run : State → List ℕ → Option State
run = run_by step

-- the rule that has been read, where it may end at the spot
abbrev pub rule_at : Spot → List ℕ → Option Rule
rule_at (cond_done r cs) g = Some (record { lead = r.lead; template = r.template; gap = r.gap; conds = cs; order = unordered; tail = g })
rule_at (sorted r cs o) g = Some (record { lead = r.lead; template = r.template; gap = r.gap; conds = cs; order = o; tail = g })
rule_at s g = None

-- the rule that ends after a token, where one ends
abbrev pub rule_after : Spot → List ℕ → Option Token → Option Rule
rule_after s g None = None
rule_after s g (Some t) = rule_at (shift s g t) []

-- the rule that has been read, where it may end
abbrev pub whole_in : Spot → List ℕ → Lex → Option Rule
whole_in s g between = rule_at s g
whole_in s g (marking m done rest) = rule_after s g (token_in (marking m done rest))
whole_in s g (angle o c) = None
whole_in s g (opening l) = None
whole_in s g slash = None
whole_in s g (closing l) = None
whole_in s g (naming l) = rule_after s g (token_in (naming l))
whole_in s g dollar = None
whole_in s g (varying l) = rule_after s g (token_in (varying l))
whole_in s g (quoting ps) = None
whole_in s g (escaping ps) = None
whole_in s g (pathing p) = rule_after s g (token_in (pathing p))
whole_in s g (ready t) = rule_after s g (token_in (ready t))
whole_in s g (comparing k) = rule_after s g (token_in (comparing k))

-- the rule that a state has read whole, where one may end
abbrev pub whole : State → Option Rule
whole s = whole_in s.spot s.gap s.lex

-- the state before a text
abbrev pub start : State
start = at beginning [] between

-- the rule that the machine reads
abbrev pub read_of : List ℕ → Option Rule
read_of x = option_and_then whole (run start x)
