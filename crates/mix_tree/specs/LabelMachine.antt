-- Reading a label's spelling byte by byte.
use Rattle.std.specs.Prelude.{ℕ, ◌+◌, cond, ◌==◌, List, [], ◌∷◌, ◌++◌, Option, Some, None}
use Rattle.mix_base.specs.Runs.{run_by}
use Rattle.mix_tree.specs.Spelling.{is_bare}
use Rattle.mix_tree.specs.LabelGrammar.{is_escape, escaped_byte}

-- where in a spelling a byte stands, with the label so far
pub data Spot : Type 0 where
  start : Spot
  in_bare : List ℕ → Spot
  in_quotes : List ℕ → Spot
  in_escape : List ℕ → Spot
  after_quote : List ℕ → Spot

-- the spot after one more byte, where a spelling goes on so
abbrev pub step : Spot → ℕ → Option Spot
step start b = cond (is_bare b) (Some (in_bare (b ∷ []))) (cond (b == 34) (Some (in_quotes [])) None)
step (in_bare l) b = cond (is_bare b) (Some (in_bare (l ++ b ∷ []))) None
step (in_quotes l) b = cond (b == 34) (Some (after_quote l)) (cond (b == 92) (Some (in_escape l)) (Some (in_quotes (l ++ b ∷ []))))
step (in_escape l) b = cond (is_escape b) (Some (in_quotes (l ++ escaped_byte b ∷ []))) None
step (after_quote l) b = None

-- the spot after a text, where a spelling goes on with all of it
abbrev pub run : Spot → List ℕ → Option Spot
run = run_by step

-- the label, where a spelling may end
abbrev pub label_in : Spot → Option (List ℕ)
label_in start = None
label_in (in_bare l) = Some l
label_in (in_quotes l) = None
label_in (in_escape l) = None
label_in (after_quote l) = Some l

-- what is seen of a text: a label with the place after it and the text from there on, a byte that does not fit, or the end
pub data Seen : Type 0 where
  got : List ℕ → ℕ → List ℕ → Seen
  unexpected : ℕ → Seen
  ends : Seen

-- a byte that does not go on ends the label, or does not fit
abbrev pub seen_at : ℕ → List ℕ → Option (List ℕ) → Seen
seen_at i x None = unexpected i
seen_at i x (Some l) = got l i x

-- what is seen at the end of a text: the label that ends there, or that the text ends too early
abbrev pub seen_at_end : ℕ → Option (List ℕ) → Seen
seen_at_end i None = ends
seen_at_end i (Some l) = got l i []

-- a byte that goes on leads to what is seen of the rest
abbrev pub or_stop : (Spot → Seen) → Seen → Option Spot → Seen
or_stop goes_on stop None = stop
or_stop goes_on stop (Some t) = goes_on t

-- what is seen of a text that stands at a place, from a spot on
abbrev pub seen_from : Spot → ℕ → List ℕ → Seen
seen_from s i [] = seen_at_end i (label_in s)
seen_from s i (b ∷ x) = or_stop (λ t. seen_from t (i + 1) x) (seen_at i (b ∷ x) (label_in s)) (step s b)
