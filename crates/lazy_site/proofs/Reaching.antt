-- What one step inside a source comes to.
use Rattle.std.proofs.Common.{◌≡◌, ℕ, true, false, List, Option, refl, ◌∙◌, ap}
use Rattle.mix_tree.specs.Forest.{Forest, none, tree, first_kids, after_first}
use Rattle.mix_tree.specs.Nodes.{label_of_first}
use Rattle.tree_buffer.specs.declared.spot.Spot.{Spot}
use Rattle.plan_core.specs.Tolled.{item, charged, toll, is_item, paid}
use Rattle.lazy_plan.specs.Bench.{BenchState, AsksAtMost, IsSpotFor}
use Rattle.lazy_site.specs.Steps.{StandsFor}
use Rattle.lazy_site.specs.declared.sites.Site.TheVariants.{Inside}

-- a step inside a source costs one
pub asks_charged : (a b : BenchState) (f : Forest) → AsksAtMost a b 1 → AsksAtMost a b (toll (charged f))
asks_charged a b none k = k
asks_charged a b (tree x d r) k = k

-- a list of trees, the first of them reached already
charged_paid : (f : Forest) → (f ≡ none → ⊥) → item 0 (label_of_first f) (charged (first_kids f)) (charged (after_first f)) ≡ paid (charged f)
charged_paid none h = absurd (h refl)
charged_paid (tree x d r) h = refl

-- trees with tolls of a source have a first one where there are trees
charged_some : (f : Forest) → (f ≡ none → ⊥) → is_item (charged f) ≡ true
charged_some none h = absurd (h refl)
charged_some (tree x d r) h = refl

-- where a source has no trees, there are none with tolls
pub charged_none : (f : Forest) → f ≡ none → is_item (charged f) ≡ false
charged_none f e = ap (λ (g : Forest). is_item (charged g)) e

-- the node at a spot stands for the first of these trees
pub spot_stands : (a b : BenchState) (s : ℕ) (f : Forest) (there : Option (List ℕ)) (top : ℕ) (q : Spot) → IsSpotFor a b s f there top q → StandsFor a b (charged f) (Inside s q)
spot_stands a b s f there top q h = record {
  node = h.spot;
  here = λ y. ap (λ (g : Forest). item 0 (label_of_first g) (charged (first_kids g)) (charged (after_first g))) (h.trees y) ∙ charged_paid f (h.some y);
  tree = λ y. charged_some f (h.some y);
}
