-- The levels of a list, pushed one after another, and the place of a node below another.
use Rattle.std.proofs.Common.{◌≡◌, ◌-◌, ℕ, zero, suc, List, [], ◌∷◌, ◌++◌, append_assoc, drop, take, length, refl, ◌∙◌, sym, ap, subst, arith}
use Rattle.std.specs.Prelude.{Some, map, min}
use Rattle.std.specs.declared.alloc.Global.{Global}
use Rattle.std.specs.declared.rc.Rc.{Rc}
use Rattle.std.proofs.lemmas.List.{drop_min, map_push, take_rest}
use Rattle.node_text.specs.Node.{LevelValue, level}
use Rattle.plan_evidence.specs.Remains.{levels_through, levels_of, numbers_in}
use Rattle.tree_buffer.specs.declared.spot.Spot.{Spot}
use Rattle.lazy_binding.specs.World.{place_in}
use Rattle.lazy_binding.specs.declared.position.Position.{Position}
use Rattle.lazy_plan.specs.Bench.{BenchState, IsSpotAt}
use Rattle.lazy_walk.specs.Above.{top_above, HasTop, inside_with, place_from, node_inside}
use Rattle.lazy_site.specs.Ids.{IsSite}
use Rattle.lazy_walk.specs.Places.{IsNode}
use Rattle.lazy_site.specs.Standing.{remains}
use Rattle.lazy_walk.specs.declared.ids.WalkedNode.{WalkedNode}
use Rattle.lazy_site.specs.declared.sites.Rest.{Rest, Pieces'}
use Rattle.lazy_site.specs.declared.sites.Site.TheVariants.{Inside}
use Rattle.lazy_site.specs.declared.ways.Ways.{Ways}

-- a level to a piece without places
abbrev pub plain_level : ℕ → LevelValue
plain_level n = level n []

-- the levels through pieces of which one is the last
through_last : (tuple : List (List ℕ)) (ns : List ℕ) (n : ℕ) → levels_through tuple (ns ++ n ∷ []) ≡ map plain_level ns ++ level n tuple ∷ []
through_last tuple [] n = refl
through_last tuple (m ∷ []) n = refl
through_last tuple (m ∷ k ∷ ns) n = ap (λ (ls : List LevelValue). level m [] ∷ ls) (through_last tuple (k ∷ ns) n)

module _ (st : BenchState) where
  -- where pieces up to one are passed, that one is the last in which a walk stands
  number_more : {r up : Rest} {op next : ℕ} {at : Position} {ways : Ways} {q : Rc (Unit {0}) Global} → r ≡ Pieces' op at next ways q up → (next ≡ 0 → ⊥)
      → numbers_in (remains st r) ≡ numbers_in (remains st up) ++ (next - 1) ∷ []
  number_more {up = up} {op = op} {next = next} {at = at} {ways = ways} {q = q} e h = ap (λ (x : Rest). numbers_in (remains st x)) e ∙ by_next next h
    where
      by_next : (n : ℕ) → (n ≡ 0 → ⊥) → numbers_in (remains st (Pieces' op at n ways q up)) ≡ numbers_in (remains st up) ++ (n - 1) ∷ []
      by_next zero z = absurd (z refl)
      by_next (suc n) z = let s : n ≡ suc n - 1 = omega arith in ap (λ (m : ℕ). numbers_in (remains st up) ++ m ∷ []) s

  -- after the levels to a concatenation, a level to its piece comes
  pub piece_pushed : {r up : Rest} {op next : ℕ} {at : Position} {ways : Ways} {q : Rc (Unit {0}) Global} → r ≡ Pieces' op at next ways q up → (next ≡ 0 → ⊥)
      → (old mid new : List LevelValue) (tuple : List (List ℕ)) → mid ≡ old ++ map plain_level (numbers_in (remains st up)) → tuple ≡ [] → new ≡ mid ++ level (next - 1) tuple ∷ []
      → new ≡ old ++ map plain_level (numbers_in (remains st r))
  piece_pushed {r = r} {up = up} {next = next} e h old mid new tuple m t n =
      n ∙ ap (λ (x : List (List ℕ)). mid ++ level (next - 1) x ∷ []) t ∙ ap (λ (x : List LevelValue). x ++ plain_level (next - 1) ∷ []) m
      ∙ append_assoc old (map plain_level (numbers_in (remains st up))) (plain_level (next - 1) ∷ [])
      ∙ ap (λ (x : List LevelValue). old ++ x) (sym (map_push plain_level (numbers_in (remains st up)) (next - 1)) ∙ ap (map plain_level) (sym (number_more e h)))

  -- after the levels to a concatenation, the level to its last piece, with its places, comes
  pub last_pushed : {r up : Rest} {op next : ℕ} {at : Position} {ways : Ways} {q : Rc (Unit {0}) Global} → r ≡ Pieces' op at next ways q up → (next ≡ 0 → ⊥)
      → (old mid new : List LevelValue) (tuple : List (List ℕ)) → mid ≡ old ++ map plain_level (numbers_in (remains st up)) → new ≡ mid ++ level (next - 1) tuple ∷ []
      → new ≡ old ++ levels_of tuple (remains st r)
  last_pushed {r = r} {up = up} {next = next} e h old mid new tuple m n =
      n ∙ ap (λ (x : List LevelValue). x ++ level (next - 1) tuple ∷ []) m
      ∙ append_assoc old (map plain_level (numbers_in (remains st up))) (level (next - 1) tuple ∷ [])
      ∙ ap (λ (x : List LevelValue). old ++ x) (sym (through_last tuple (numbers_in (remains st up)) (next - 1)) ∙ ap (levels_through tuple) (sym (number_more e h)))

-- what is taken of a place after another one's length
pub way_below : (start top steps p way new : List ℕ) (passed : ℕ) → start ≡ top → steps ≡ p → passed ≡ min (length start) (length steps) → way ≡ [] → new ≡ way ++ take (length steps - passed) (drop passed steps)
    → new ≡ drop (length top) p
way_below start top steps p way new passed a b m w n =
    n ∙ ap (λ (x : List ℕ). x ++ take (length steps - passed) (drop passed steps)) w ∙ take_rest steps passed ∙ ap (λ (k : ℕ). drop k steps) m ∙ drop_min (length start) steps
    ∙ ap (λ (x : List ℕ). drop (length x) steps) a ∙ ap (drop (length top)) b

module _ (st : BenchState) (n : WalkedNode) (s : ℕ) (x t : Spot) (e : n.site ≡ Inside s x) (f : top_above n.above ≡ Some t) where
  -- the spots of a node inside a source and of the top of its subtree are the source's
  pub inside_spots : IsNode st n → IsSpotAt st s t × IsSpotAt st s x
  inside_spots h = (subst (HasTop st (Inside s x)) f (subst (λ z. HasTop st z (top_above n.above)) e h.top), subst (IsSite st) e h.site)

  -- the place below the top is what its place has after the top's
  pub inside_is : node_inside st n ≡ drop (length (place_in st.world s t)) (place_in st.world s x)
  inside_is = ap (λ z. inside_with st z (top_above n.above)) e ∙ ap (place_from st s x) f
