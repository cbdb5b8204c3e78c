-- How far the document goes on below an identifier: numbers by which walks down end.
use Rattle.std.specs.Prelude.{ℕ, suc, ◌+◌, ◌<◌, ◌≤◌, max, length, Option, MatchOption}
use Rattle.lazy_binding.specs.World.{roots_weight}
use Rattle.lazy_plan.specs.Bench.{BenchState, ops_of, below_at, after_at}
use Rattle.lazy_site.specs.declared.sites.Head.{Head}
use Rattle.lazy_site.specs.declared.sites.Head.TheVariants.{Whole, Built, Leaf, Text}
use Rattle.lazy_site.specs.declared.sites.Origin.{Origin}
use Rattle.lazy_site.specs.declared.sites.Origin.TheVariants.{Node, Element, Joined, All, Group as Same}
use Rattle.lazy_site.specs.declared.sites.Rest.{Rest, End, Pieces', Members', Group'}
use Rattle.lazy_site.specs.declared.sites.Site.{Site}
use Rattle.lazy_site.specs.declared.sites.Site.TheVariants.{Root, Inside, Item}
use Rattle.lazy_site.specs.declared.sites.Turn.{Turn}
use Rattle.lazy_site.specs.declared.sites.Turn.TheVariants.{Over, At, On}

-- RANKS: THE OPERATORS THAT MAKE THE ELEMENTS OF A LIST HAVE SMALLER NUMBERS

-- a number above those of the operators that make the elements of the value of an origin
abbrev pub origin_rank : Origin → ℕ
origin_rank (Node s p) = 0
origin_rank (Element op at) = suc op
origin_rank (Joined op at) = op
origin_rank (All op) = op
origin_rank (Same op c number) = op

-- a number above that of the operator that makes a node, where it is an element
abbrev pub head_rank : Head → ℕ
head_rank (Whole s p) = 0
head_rank (Built op at) = suc op
head_rank (Leaf s p) = 0
head_rank (Text op index) = 0

-- a number above those of the operators that make the elements that come after a node
abbrev pub rest_rank : Rest → ℕ
rest_rank End = 0
rest_rank (Pieces' op at next ways q up) = max op (rest_rank up)
rest_rank (Members' op at q up) = max op (rest_rank up)
rest_rank (Group' op first number at place q up) = max op (rest_rank up)

-- an identifier stands at a member of a list that the plan makes, in which no rank is greater than k
abbrev pub IsRanked : ℕ → Site → Type 0
IsRanked k Root = ⊥
IsRanked k (Inside s p) = ⊥
IsRanked k (Item head rest) = (head_rank head ≤ k) × (rest_rank rest.value ≤ k)

-- a call answers no node, or a member of a list that the plan makes, in which no rank is greater than k
abbrev pub GivesRanked : ℕ → Option Site → Type 0
GivesRanked k r = MatchOption r (Unit {0}) (IsRanked k)

-- a turn leaves nothing, or a member or a rest of a list in which no rank is greater than k
abbrev pub TurnsRanked : ℕ → Turn → Type 0
TurnsRanked k Over = Unit {0}
TurnsRanked k (At n) = IsRanked k n
TurnsRanked k (On r) = rest_rank r.value ≤ k

-- a turn over trees of this rank, with a rest after them, leaves nothing of a greater rank than these have
abbrev pub KeepsRank : ℕ → Rest → Turn → Type 0
KeepsRank rank after t = (k : ℕ) → rank ≤ k → rest_rank after ≤ k → TurnsRanked k t

-- HEIGHTS

-- a weight that what lies below a node of any source does not exceed
abbrev pub roots_of : BenchState → ℕ
roots_of st = roots_weight st.world.view st.world.view.count

-- a number of an identifier that no call raises, that falls with each step down, and that no step to the right raises
abbrev pub site_height : BenchState → Site → ℕ
site_height st Root = roots_of st + length (ops_of st)
site_height st (Inside s p) = below_at st s p + after_at st s p
site_height st (Item head rest) = roots_of st + max (head_rank head) (rest_rank rest.value)

-- the height of the node that was found, where one was, is below this
abbrev pub IsLower : ℕ → BenchState → Option Site → Type 0
IsLower height st r = MatchOption r (Unit {0}) (λ n. site_height st n < height)

-- the height of the node that was found, where one was, is not above this
abbrev pub IsNoHigher : ℕ → BenchState → Option Site → Type 0
IsNoHigher height st r = MatchOption r (Unit {0}) (λ n. site_height st n ≤ height)
