-- A visit whose turn it is: whether it holds of the nodes that the places give.
use Rattle.std.proofs.Common.{◌≡◌, ℕ, ◌<◌, ◌≤◌, true, cond, List, [], ◌∷◌, ◌++◌, refl, sym, ap, subst, ◌∙◌, arith, length}
use Rattle.std.specs.Prelude.{Bool, Some, slice_get}
use Rattle.mix_base.proofs.Choices.{some_is}
use Rattle.mix_tree.specs.Nodes.{Node}
use Rattle.path_expr.specs.Form.{Form}
use Rattle.path_expr.specs.Matches.{IsMatch}
use Rattle.lxp_core.specs.View.{View}
use Rattle.tree_buffer.specs.declared.spot.Spot.{Spot}
use Rattle.plan_core.specs.Shapes.{Shape, visits_below, shape_at}
use Rattle.plan_evidence.specs.Evidence.{ShapeHolds}
use Rattle.lazy_binding.specs.World.{place_in}
use Rattle.lazy_plan.specs.declared.bench.Bench.{Bench}
use Rattle.lazy_plan.specs.Bench.{BenchState, ops_of, documents, node_at}
use Rattle.lazy_seek.specs.declared.evidence.Turn.{Turn}
use Rattle.lazy_seek.specs.Given.{next_given}
use Rattle.lazy_seek.specs.Reach.{reach}
use Rattle.lazy_seek.specs.Seeks.{Sought, StandsAt, LeadsBy}
use Rattle.lazy_seek.specs.Turns.{nodes_wanted, shape_reach, turn_reach, TurnHolds}

-- what lies behind a front reaches no further than both together
reach_behind : (f r : List ℕ) → reach r ≤ reach (f ++ r)
reach_behind [] r = omega arith
reach_behind (i ∷ f) r = (let h = reach_behind f r in omega (arith, h))

-- the place that was read is the one that stands there
pub place_is : (places : List (List ℕ)) (n i : ℕ) (p q : List ℕ) → i ≡ n → slice_get places n ≡ Some p → slice_get places i ≡ Some q → q ≡ p
place_is places n i p q e h g = some_is q p (sym g ∙ ap (λ (m : ℕ). slice_get places m) e ∙ h)

-- what asks at most so many fills asks at most more
pub sought_within : {S : Type 0} {view : S → View} {came_from : S → S → Type 0} (m k : ℕ) (s t : S) (b c : Bench) → Sought view came_from m s b t c → m ≤ k → Sought view came_from k s b t c
sought_within m k s t b c h l = record { ran = h.ran; asks = λ x y. (let a = h.asks x y in omega (arith, a, l)) }

module _ (a : BenchState) (t : Turn) (input start out : ℕ) (path : Form) (e : shape_at (ops_of a) t.op ≡ visits_below input start path out) where
  -- the place at which the visit's node is wanted
  abbrev pub next : List ℕ
  next = next_given (ops_of a) t.wanted.op t.wanted.places.now t.op

  -- a visit on the way reaches to the next place
  pub visit_reach : t.on_way ≡ true → turn_reach (ops_of a) t ≡ reach next
  visit_reach on = ap (λ (x : Bool). cond x (shape_reach (shape_at (ops_of a) t.op) next) 0) on ∙ ap (λ (f : Shape). shape_reach f next) e

  -- the rest of the next place is within that
  pub rest_within : t.on_way ≡ true → (front rest : List ℕ) → front ++ rest ≡ next → reach rest ≤ turn_reach (ops_of a) t
  rest_within on front rest same = (let h = reach_behind front rest in let g = ap reach same in let z = visit_reach on in omega (arith, h, g, z))

  module _ (given : nodes_wanted (ops_of a) t.wanted out ≡ record { source = (nodes_wanted (ops_of a) t.wanted start).source; place = next }) where
    -- where a visit holds, its node is a match from the start's node
    match_of : TurnHolds a t → IsMatch (documents a) path (nodes_wanted (ops_of a) t.wanted start) (record { source = (nodes_wanted (ops_of a) t.wanted start).source; place = next })
    match_of h =
        subst (IsMatch (documents a) path (nodes_wanted (ops_of a) t.wanted start)) given
        (subst (λ (f : Shape). ShapeHolds (documents a) (nodes_wanted (ops_of a) t.wanted) f) e h)

    -- where the start's place is no proper front of the next place, the visit doesn't hold
    pub no_front : (front : List ℕ) → front ≡ (nodes_wanted (ops_of a) t.wanted start).place → ((rest : List ℕ) → 0 < length rest → front ++ rest ≡ next → ⊥) → TurnHolds a t → ⊥
    no_front front same h g = (let m = match_of g in h m.1.way m.1.below (ap (λ (q : List ℕ). q ++ m.1.way) same ∙ m.1.place))

    module _ (s : ℕ) (x : Spot) (is : node_at a s x ≡ nodes_wanted (ops_of a) t.wanted start) (rest : List ℕ) (same : place_in a.world s x ++ rest ≡ next) where
      -- where the visit holds, its path leads to the next place
      pub leads_of : TurnHolds a t → LeadsBy a path s (place_in a.world s x) (place_in a.world s x ++ rest)
      leads_of h =
          subst (LeadsBy a path s (place_in a.world s x)) (sym same)
          (subst (λ (m : Node). IsMatch (documents a) path m (record { source = m.source; place = next })) (sym is) (match_of h)).1

      -- where the path leads to the next place, the visit holds
      pub holds_by : LeadsBy a path s (place_in a.world s x) (place_in a.world s x ++ rest) → TurnHolds a t
      holds_by l =
          let m : IsMatch (documents a) path (node_at a s x) (record { source = s; place = next }) = (refl, subst (LeadsBy a path s (place_in a.world s x)) same l) in
          subst (λ (f : Shape). ShapeHolds (documents a) (nodes_wanted (ops_of a) t.wanted) f) (sym e)
          (subst (IsMatch (documents a) path (nodes_wanted (ops_of a) t.wanted start)) (sym given)
          (subst (λ (n : Node). IsMatch (documents a) path n (record { source = n.source; place = next })) is m))

      -- a spot that stands at the next place stands for the visit's node
      pub out_node : (d : BenchState) (y : Spot) → StandsAt a d s (place_in a.world s x ++ rest) y → node_at d s y ≡ nodes_wanted (ops_of a) t.wanted out
      out_node d y h =
          ap (λ (q : List ℕ). record { source = s; place = q }) (h.place_is ∙ same)
          ∙ ap (λ (n : Node). record { source = n.source; place = next }) is ∙ sym given

      -- the source of the visit's node
      pub out_source : s ≡ (nodes_wanted (ops_of a) t.wanted out).source
      out_source = ap (λ (n : Node). n.source) is ∙ ap (λ (n : Node). n.source) (sym given)
