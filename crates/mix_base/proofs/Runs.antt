-- Laws of runs and scans, for every machine that reads byte by byte.
use Rattle.std.proofs.Common.{◌≡◌, ◌∙◌, ◌+◌, ◌<◌, ℕ, List, [], ◌∷◌, ◌++◌, Option, Some, None, option_and_then, option_map, refl, sym, ap, length, take, slice_index}
use Rattle.std.proofs.lemmas.List.{take_more}
use Rattle.mix_base.specs.Runs.{run_by, LeadsTo}
use Rattle.mix_base.proofs.Choices.{some_is, none_some}

module _ {S : Type 0} (step : S → ℕ → Option S) where
  -- where a run over two parts goes over one and then the other, so does the run that follows a first byte
  after : (x y : List ℕ) → ((t : S) → run_by step t (x ++ y) ≡ option_and_then (λ u. run_by step u y) (run_by step t x)) → (o : Option S)
      → option_and_then (λ t. run_by step t (x ++ y)) o ≡ option_and_then (λ t. run_by step t y) (option_and_then (λ t. run_by step t x) o)
  after x y h None = refl
  after x y h (Some t) = h t

  -- a run over two parts goes over the first and from there over the second
  pub run_append : (x y : List ℕ) (s : S) → run_by step s (x ++ y) ≡ option_and_then (λ t. run_by step t y) (run_by step s x)
  run_append [] y s = refl
  run_append (b ∷ x) y s = after x y (λ t. run_append x y t) (step s b)

  -- a run goes on from where it came to
  pub run_then : (x y : List ℕ) (s t : S) → run_by step s x ≡ Some t → run_by step s (x ++ y) ≡ run_by step t y
  run_then x y s t e = run_append x y s ∙ ap (option_and_then (λ u. run_by step u y)) e

  -- a run begins with a step
  pub run_byte : (b : ℕ) (y : List ℕ) (s t : S) → step s b ≡ Some t → run_by step s (b ∷ y) ≡ run_by step t y
  run_byte b y s t e = ap (option_and_then (λ u. run_by step u y)) e

  -- a run over one byte alone is its step
  pub run_one : (o : Option S) → option_and_then (λ t. run_by step t []) o ≡ o
  run_one None = refl
  run_one (Some t) = refl

-- a prefix with one byte more is the prefix and that byte
pub take_next : (x : List ℕ) (i : ℕ) → i < length x → take (i + 1) x ≡ take i x ++ slice_index x i ∷ []
take_next x i h = take_more x i 0 h

-- a state of which nothing is kept is none
pub kept_none : {S T : Type 0} (kept : S → T) (o : Option S) → option_map kept o ≡ None → o ≡ None
kept_none kept None e = refl
kept_none kept (Some s) e = none_some _ (sym e)

-- a scan that keeps something of a machine's state, and goes on by that alone where the machine stands in such a state
module _ {S T : Type 0} (step : S → ℕ → Option S) (kept : S → T) (scan : T → ℕ → Option T) where
  -- where the machine stands in a state, or in none, a scan that keeps something of it goes on with a byte as the machine does
  pub scan_after : (o : Option S) (t : T) (b : ℕ) → ((s : S) → o ≡ Some s → option_map kept (step s b) ≡ scan (kept s) b) → option_map kept o ≡ Some t
      → option_map kept (option_and_then (λ s. run_by step s (b ∷ [])) o) ≡ scan t b
  scan_after None t b alike e = none_some t e
  scan_after (Some s) t b alike e = ap (option_map kept) (run_one step (step s b)) ∙ alike s refl ∙ ap (λ u. scan u b) (some_is _ _ e)

  -- after a text, a scan goes on with one byte more as the machine does
  pub scan_more : (first : S) (x : List ℕ) (t : T) (b : ℕ) → ((s : S) → run_by step first x ≡ Some s → option_map kept (step s b) ≡ scan (kept s) b)
      → LeadsTo step kept first x t → option_map kept (run_by step first (x ++ b ∷ [])) ≡ scan t b
  scan_more first x t b alike e = ap (option_map kept) (run_append step x (b ∷ []) first) ∙ scan_after (run_by step first x) t b alike e

  -- after a prefix of a text, a scan goes on with the next byte as the machine does
  pub scan_prefix : (first : S) (x : List ℕ) (i : ℕ) (t : T) → ((s : S) (b : ℕ) → run_by step first (take i x) ≡ Some s → option_map kept (step s b) ≡ scan (kept s) b)
      → i < length x → LeadsTo step kept first (take i x) t → option_map kept (run_by step first (take (i + 1) x)) ≡ scan t (slice_index x i)
  scan_prefix first x i t alike h e =
      ap (λ y. option_map kept (run_by step first y)) (take_next x i h) ∙ scan_more first (take i x) t (slice_index x i) (λ s. alike s (slice_index x i)) e
