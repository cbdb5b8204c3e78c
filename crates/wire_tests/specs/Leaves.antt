-- What a source of one leaf means.
use Rattle.std.specs.Prelude.{◌≡◌, ℕ, ◌≤◌, ◌<◌, true, List, [], ◌∷◌, refl}
use Rattle.std.specs.Str.{bytes_eq}
use Rattle.std.proofs.Common.{arith}
use Rattle.mix_tree.specs.Forest.{none, tree}
use Rattle.lxp_core.specs.View.{View, Keeps}
use Rattle.wire_tests.specs.declared.leaf.Leaf.{Leaf}

-- the words of the hole that stands for the document
abbrev pub root_words : List ℕ
root_words = 0 ∷ 0 ∷ 7 ∷ []

-- a source of one leaf
abbrev pub leaf_view : Leaf → View
leaf_view l = record {
  count = 1;
  root = λ s. record { words = root_words };
  told = λ s. true;
  knows = λ s h. bytes_eq h.words root_words;
  forest = λ s h. tree (99 ∷ []) none none;
  weight = λ s h. 1;
  forward = λ s. true;
  small = λ s. true;
  fills = l.fills;
  faults = λ s. 0;
}

-- the count did not fall
abbrev pub CameFrom : Leaf → Leaf → Type 0
CameFrom old new = old.fills ≤ new.fills

-- a state came from itself
pub came_same : (a : Leaf) → CameFrom a a
came_same a = omega arith

-- a state that came from one which came from a third came from that third
pub came_after : (a b c : Leaf) → CameFrom a b → CameFrom b c → CameFrom a c
came_after a b c x y = omega (arith, x, y)

-- what came from a state keeps it
pub came_keeps : (a b : Leaf) → CameFrom a b → Keeps (leaf_view a) (leaf_view b)
came_keeps a b x = record {
  count = refl;
  root = λ s. refl;
  told = λ s. refl;
  forward = λ s. refl;
  small = λ s. refl;
  knows = λ s h k. k;
  forest = λ s h k. refl;
  weight = λ s h k. refl;
  fills = x;
  faults = λ s. omega arith;
}

-- the hole of the document is known
pub root_is_known : (a : Leaf) (s : ℕ) → s < 1 → bytes_eq root_words root_words ≡ true
root_is_known a s h = refl

-- the lists of a leaf are small
pub is_small : (a : Leaf) (s : ℕ) → s < 1 → true ≡ true
is_small a s h = refl
