-- The labels that a path writes, and one that it does not write.
use Rattle.std.specs.Prelude.{ℕ, List, [], ◌∷◌, ◌++◌, Option, Some, None}

-- the labels that the tests of a path write
abbrev pub written : List (Option (List ℕ)) → List (List ℕ)
written [] = []
written (None ∷ ts) = written ts
written (Some l ∷ ts) = l ∷ written ts

-- the bytes of labels, one label after another
abbrev pub all_bytes : List (List ℕ) → List ℕ
all_bytes [] = []
all_bytes (l ∷ ls) = l ++ all_bytes ls

-- a label that is longer than each of these
abbrev pub other_label : List (List ℕ) → List ℕ
other_label ls = 97 ∷ all_bytes ls

-- the labels that stand for all
abbrev pub sample_labels : List (Option (List ℕ)) → List (List ℕ)
sample_labels ts = written ts ++ other_label (written ts) ∷ []
