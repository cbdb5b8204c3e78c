-- Machines that read a text byte by byte, and scans that keep less than a machine's whole state.
use Rattle.std.specs.Prelude.{◌≡◌, ℕ, List, [], ◌∷◌, Option, Some, None, option_and_then, option_map}

-- the state that a text leads to; none where the machine doesn't go on with one of its bytes
abbrev pub run_by : {S : Type 0} → (S → ℕ → Option S) → S → List ℕ → Option S
run_by step s [] = Some s
run_by step s (b ∷ x) = option_and_then (λ t. run_by step t x) (step s b)

-- the text leads to a state of which this is kept
abbrev pub LeadsTo : {S T : Type 0} → (S → ℕ → Option S) → (S → T) → S → List ℕ → T → Type 0
LeadsTo step kept first x t = option_map kept (run_by step first x) ≡ Some t
