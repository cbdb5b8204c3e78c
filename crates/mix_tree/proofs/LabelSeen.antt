-- What is seen of a text, from where it was seen.
use Rattle.std.proofs.Common.{◌≡◌, ◌+◌, ◌∙◌, ℕ, List, [], ◌∷◌, ◌++◌, Option, Some, None, refl, ap, arith, length}
use Rattle.mix_base.proofs.Runs.{run_byte}
use Rattle.mix_tree.specs.LabelMachine.{Spot, step, run, label_in, Seen, got, unexpected, ends, seen_at, seen_at_end, or_stop, seen_from}

-- a spelling does not go on from the spot with the text
abbrev pub Stops : Spot → List ℕ → Type 0
Stops t [] = Unit {0}
Stops t (b ∷ y) = step t b ≡ None

-- a label, and the text after it, with which it does not go on
pub record SawLabel (s : Spot) (i : ℕ) (x : List ℕ) (l : List ℕ) (j : ℕ) (y : List ℕ) : Type 0 where
  pub spelled : List ℕ
  pub spot : Spot
  pub parts : x ≡ spelled ++ y
  pub runs : run s spelled ≡ Some spot
  pub label : label_in spot ≡ Some l
  pub place : j ≡ i + length spelled
  pub stops : Stops spot y

-- the text stops at a byte with which no spelling goes on
pub record SawStop (s : Spot) (i : ℕ) (x : List ℕ) (j : ℕ) : Type 0 where
  pub prefix : List ℕ
  pub byte : ℕ
  pub rest : List ℕ
  pub spot : Spot
  pub parts : x ≡ prefix ++ byte ∷ rest
  pub runs : run s prefix ≡ Some spot
  pub label : label_in spot ≡ None
  pub place : j ≡ i + length prefix
  pub stops : step spot byte ≡ None

-- the text ends within a spelling
abbrev pub SawEnd : Spot → List ℕ → Type 0
SawEnd s x = (t : Spot) × (run s x ≡ Some t) × (label_in t ≡ None)

-- what was seen is so of the text: a label, a byte that does not fit, or an end within a spelling
abbrev pub Saw : Spot → ℕ → List ℕ → Seen → Type 0
Saw s i x (got l j y) = SawLabel s i x l j y
Saw s i x (unexpected j) = SawStop s i x j
Saw s i x ends = SawEnd s x

-- what is seen at the end of a text is so of the text
at_end : (s : Spot) (i : ℕ) (o : Option (List ℕ)) → label_in s ≡ o → Saw s i [] (seen_at_end i o)
at_end s i None e = (s, refl, e)
at_end s i (Some l) e = record { spelled = []; spot = s; parts = refl; runs = refl; label = e; place = omega arith; stops = tt }

-- what was seen after a first byte was seen from it on
saw_more : (s t : Spot) (i b : ℕ) (x : List ℕ) (z : Seen) → step s b ≡ Some t → Saw t (i + 1) x z → Saw s i (b ∷ x) z
saw_more s t i b x (got l j y) e h = record {
  spelled = b ∷ h.spelled;
  spot = h.spot;
  parts = ap (λ r. b ∷ r) h.parts;
  runs = run_byte step b h.spelled s t e ∙ h.runs;
  label = h.label;
  place = omega (arith, h.place);
  stops = h.stops;
}
saw_more s t i b x (unexpected j) e h = record {
  prefix = b ∷ h.prefix;
  byte = h.byte;
  rest = h.rest;
  spot = h.spot;
  parts = ap (λ r. b ∷ r) h.parts;
  runs = run_byte step b h.prefix s t e ∙ h.runs;
  label = h.label;
  place = omega (arith, h.place);
  stops = h.stops;
}
saw_more s t i b x ends e (u, r, l) = (u, run_byte step b x s t e ∙ r, l)

-- what is seen at a byte is so of the text from that byte on
at_byte : (s : Spot) (i b : ℕ) (x : List ℕ) (o : Option Spot) (p : Option (List ℕ)) → step s b ≡ o → label_in s ≡ p → ((t : Spot) → Saw t (i + 1) x (seen_from t (i + 1) x))
    → Saw s i (b ∷ x) (or_stop (λ t. seen_from t (i + 1) x) (seen_at i (b ∷ x) p) o)
at_byte s i b x None None e f h = record { prefix = []; byte = b; rest = x; spot = s; parts = refl; runs = refl; label = f; place = omega arith; stops = e }
at_byte s i b x None (Some l) e f h = record { spelled = []; spot = s; parts = refl; runs = refl; label = f; place = omega arith; stops = e }
at_byte s i b x (Some t) p e f h = saw_more s t i b x (seen_from t (i + 1) x) e (h t)

-- what is seen of a text is so of the text
pub saw : (x : List ℕ) (s : Spot) (i : ℕ) → Saw s i x (seen_from s i x)
saw [] s i = at_end s i (label_in s) refl
saw (b ∷ x) s i = at_byte s i b x (step s b) (label_in s) refl refl (λ t. saw x t (i + 1))
