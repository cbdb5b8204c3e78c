-- A buffer's nodes when the sources go on.
use Rattle.std.proofs.Common.{◌≡◌, ℕ, zero, suc, ◌<◌, List, [], ◌∷◌, length, get_or, set, refl, ap, sym, ◌∙◌, arith}
use Rattle.mix_tree.specs.Forest.{none, tree}
use Rattle.lxp_core.specs.Open.{Open, nil, weight_of}
use Rattle.lxp_core.specs.View.{View, Keeps, document}
use Rattle.tree_buffer.specs.Fills.{IsRefined}
use Rattle.tree_buffer.specs.Document.{document_node}
use Rattle.tree_buffer.specs.Nodes.{Nodes, place, places}
use Rattle.tree_buffer.specs.Sourced.{Sourced, Moved}
use Rattle.tree_buffer.proofs.Fills.{stays}
use Rattle.tree_buffer.proofs.Held.{held-le}

-- what relates each list to itself, and one list to its new one, relates each list to the one at its place once that one is written
pub set_relates : (R : Open → Open → Type 0) (os : List Open) (q : ℕ) (o : Open) → R (get_or os q nil) o → ((i : ℕ) → R (get_or os i nil) (get_or os i nil)) → (i : ℕ) → R (get_or os i nil) (get_or (set os q o) i nil)
set_relates R [] q o at all i = all i
set_relates R (x ∷ os) zero o at all zero = at
set_relates R (x ∷ os) zero o at all (suc i) = all (suc i)
set_relates R (x ∷ os) (suc q) o at all zero = all zero
set_relates R (x ∷ os) (suc q) o at all (suc i) = set_relates R os q o at (λ j. all (suc j)) i

module _ (v v' : View) (n : ℕ) (m : Nodes) (os : List Open) (s : Sourced v n m) (keeps : Keeps v v')
    (e : length os ≡ length m.rests) (refined : (i : ℕ) → IsRefined v v' n (get_or m.rests i nil) (get_or os i nil)) where
  -- where the lists are refined, the nodes go on
  pub moved_again : Moved (weight_of (v.weight n)) m (weight_of (v'.weight n)) (record m { rests = os })
  moved_again = record {
    more = omega arith;
    links = λ i within. refl;
    places = λ i within. refl;
    labels = λ i within. refl;
    lighter = λ i k within.
        omega (
          arith,
          (refined i).lighter,
          held-le (weight_of (v.weight n)) (weight_of (v'.weight n)) (place m.links i) k (places m.links) m.rests os e (λ j. (refined j).lighter),
        );
    whole = λ i within. (refined i).whole;
  }

  -- the document of a source is the same after a call
  pub same_document : document v' n ≡ document v n
  same_document = ap (v'.forest n) (keeps.root n) ∙ keeps.forest n (v.root n) s.root

  -- the document node of a source is the same after a call
  same_node : document_node v' n ≡ document_node v n
  same_node = ap (λ f. tree [] f none) same_document

  -- the root hole weighs the same
  same_weight : v'.weight n (v'.root n) ≡ v.weight n (v.root n)
  same_weight = ap (v'.weight n) (keeps.root n) ∙ keeps.weight n (v.root n) s.root

  -- the new view means the sources of the nodes with their new lists
  pub sourced_again : (0 < length m.links) → Sourced v' n (record m { rests = os })
  sourced_again some = record {
    number = omega (arith, s.number, keeps.count);
    root = ap (v'.knows n) (keeps.root n) ∙ keeps.knows n (v.root n) s.root;
    rests = e ∙ s.rests;
    labels = s.labels;
    known = λ i. (refined i).known;
    apart = λ i. (refined i).apart;
    lighter = omega (arith, moved_again.lighter 0 0 some, s.lighter, same_weight);
    closes = λ told i within.
        rw same_node (s.closes (sym (keeps.told n) ∙ told) i within ∙ sym ((refined i).closes (sym (keeps.told n) ∙ told)));
    stands = λ told i within. rw same_node (s.stands (sym (keeps.told n) ∙ told) i within);
  }

-- the lists of nodes that no fill touched are refined to themselves
pub all_stay : (v v' : View) (n : ℕ) (m : Nodes) → Sourced v n m → Keeps v v' → (i : ℕ) → IsRefined v v' n (get_or m.rests i nil) (get_or m.rests i nil)
all_stay v v' n m s keeps i = stays v v' n (get_or m.rests i nil) keeps (s.known i) (s.apart i)

-- where one list is refined by fills, each list is refined to what is there after them
pub one_refined : (v v' : View) (n : ℕ) (m : Nodes) (q : ℕ) (o : Open) → Sourced v n m → Keeps v v' → IsRefined v v' n (get_or m.rests q nil) o → (i : ℕ) → IsRefined v v' n (get_or m.rests i nil) (get_or (set m.rests q o) i nil)
one_refined v v' n m q o s keeps at = set_relates (IsRefined v v' n) m.rests q o at (all_stay v v' n m s keeps)

-- nodes that nothing touched have moved to themselves
pub moved_same : (w : Open → ℕ) (m : Nodes) → Moved w m w m
moved_same w m = record {
  more = omega arith;
  links = λ i within. refl;
  places = λ i within. refl;
  labels = λ i within. refl;
  lighter = λ i k within. omega arith;
  whole = λ i within e. e;
}

-- nodes that go on and go on again go on from the first to the last
pub moved_twice : (w x y : Open → ℕ) (m n o : Nodes) → Moved w m x n → Moved x n y o → Moved w m y o
moved_twice w x y m n o a b = record {
  more = omega (arith, a.more, b.more);
  links = λ i within. b.links i (omega (arith, a.more, within)) ∙ a.links i within;
  places = λ i within. b.places i (omega (arith, a.more, within)) ∙ a.places i within;
  labels = λ i within. b.labels i (omega (arith, a.more, within)) ∙ a.labels i within;
  lighter = λ i k within. omega (arith, b.lighter i k (omega (arith, a.more, within)), a.lighter i k within);
  whole = λ i within e. b.whole i (omega (arith, a.more, within)) (a.whole i within e);
}
