-- What an answer says of the document, and of the two numbers.
use Rattle.std.proofs.Common.{◌≡◌, ◌∙◌, ℕ, ◌+◌, ◌<◌, ◌≤◌, true, false, List, [], ◌∷◌, ◌++◌, Option, Some, None, length, get_or, sym, ap, arith}
use Rattle.std.specs.Prelude.{IfSome, MatchOption, is_some, unwrap_or}
use Rattle.mix_tree.specs.Forest.{Forest, none, first_label, first_kids, after_first}
use Rattle.mix_tree.specs.Place.{trees_at, has_place, child_place, next_place}
use Rattle.mix_tree.proofs.Places.{trees_at-child}
use Rattle.lxp_core.specs.Open.{nil}
use Rattle.lxp_core.specs.View.{View, Keeps}
use Rattle.tree_buffer.specs.declared.buffer.Buffer.{Buffer}
use Rattle.tree_buffer.specs.declared.spot.Spot.{Spot}
use Rattle.tree_buffer.specs.Document.{document_node, has_next}
use Rattle.tree_buffer.specs.Nodes.{place, IsChild}
use Rattle.tree_buffer.specs.Weights.{weight_from}
use Rattle.tree_buffer.specs.Buffer.{nodes_of, IsSpot, place_of, weigh, below, after, trees_from, IsSourcesOf, IsChildSpot, IsNextSpot}
use Rattle.tree_buffer.specs.Advance.{Advances}
use Rattle.tree_buffer.proofs.Calls.{still_told, still_node}
use Rattle.tree_buffer.proofs.Documents.{trees_at-next, next_place-push, no_next, no_tree}
use Rattle.tree_buffer.proofs.Spots.{child_lighter, child_told, none_told}

-- two states of a buffer of which the second goes on from the first, and the children of a node there
module _ {v v' : View} {b b' : Buffer} (keeps : Keeps v v') (s : IsSourcesOf v b) (s' : IsSourcesOf v' b') (goes : Advances v b v' b') (q k : ℕ) (within : q < length (nodes_of b).links) where
  -- where a child was handed out, the document had one
  pub exact_child : (c : ℕ) → IsChild (nodes_of b').links q k c → v.told b.number ≡ true → has_place (document_node v b.number) (place (nodes_of b).links q ++ k ∷ []) ≡ true
  exact_child c h told =
      rw (← still_node s keeps goes, ← goes.moved.places q within) (child_told (nodes_of b') b'.linked v' b'.number q k c s'.sourced (still_told s keeps goes ∙ told) h)

  -- where no child was handed out at an index and none is left, the document has none there
  pub exact_none : get_or (nodes_of b').counts q 0 ≡ k → get_or (nodes_of b').rests q nil ≡ nil → v.told b.number ≡ true → has_place (document_node v b.number) (place (nodes_of b).links q ++ k ∷ []) ≡ false
  exact_none e empty told =
      rw (← still_node s keeps goes, ← goes.moved.places q within, ← e)
      (none_told (nodes_of b') b'.linked v' b'.number q s'.sourced (still_told s keeps goes ∙ told) (omega (arith, within, goes.moved.more)) empty)

  -- a child with what lies below and after it weighs at most what the children from its index on weighed
  pub less_child : (c : Spot) → IsChild (nodes_of b').links q k c.number → 1 + below v' b' c + after v' b' c ≤ weight_from (weigh v b) (nodes_of b) q k
  less_child c h =
      omega (arith, child_lighter (nodes_of b') b'.linked (weigh v' b') q k c.number s'.sourced.rests h, goes.moved.lighter q k within)

-- an exact answer of `down` stands for the children
pub down_trees : (f : Forest) (b : Buffer) (x : Spot) (p : List ℕ) → place_of b x ≡ p → (r : Option Spot) → IfSome r (IsChildSpot b x 0)
    → is_some r ≡ has_place f (child_place p) → trees_from f b r ≡ first_kids (trees_at f p)
down_trees f b x p at None h exact = sym (no_tree (first_kids (trees_at f p)) (ap (λ t. is_some (first_label t)) (sym (trees_at-child f p)) ∙ sym exact))
down_trees f b x p at (Some c) h exact = ap (trees_at f) (h.place ∙ ap child_place at) ∙ trees_at-child f p

-- an exact answer of `right` stands for the trees after
pub right_trees : (f : Forest) (b : Buffer) (x : Spot) (p : List ℕ) → after_first f ≡ none → place_of b x ≡ p → (r : Option Spot) → IfSome r (IsNextSpot b x)
    → is_some r ≡ has_next f p → trees_from f b r ≡ after_first (trees_at f p)
right_trees f b x p alone at None h exact = sym (no_next f p alone (sym exact))
right_trees f b x p alone at (Some q) h exact = trees_at-next f p (place_of b q) (h.place ∙ ap next_place at)

-- a spot at the next place is the next child of each spot whose child this one is
pub next_spot : (b : Buffer) (p q : Spot) → IsSpot b q → Some (place_of b q) ≡ next_place (place_of b p) → IsNextSpot b p q
next_spot b p q spot place = record {
  spot = spot;
  place = place;
  child = λ u k own. record { spot = spot; place = ap (λ o. unwrap_or o []) (place ∙ ap next_place own.place ∙ next_place-push (place_of b u) k) };
}

-- what holds where an option is None holds of one that has no value
pub none_from : {X : Type 0} (r : Option X) (P : Type 0) (Q : X → Type 0) → MatchOption r P Q → is_some r ≡ false → P
none_from None P Q h e = h
none_from (Some x) P Q h e = cc
