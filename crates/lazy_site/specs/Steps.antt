-- What steps over a document come to.
use Rattle.std.specs.Prelude.{◌≡◌, ℕ, ◌+◌, ◌<◌, ◌≤◌, false, IsTrue, Option, MatchOption}
use Rattle.lazy_descend.specs.Searches.{Finds}
use Rattle.lxp_core.specs.View.{View}
use Rattle.plan_core.specs.Events.{RowEvents}
use Rattle.plan_core.specs.Tolled.{Tolled, dearer, paid, is_item}
use Rattle.lazy_plan.specs.declared.bench.Bench.{Bench}
use Rattle.lazy_binding.specs.declared.position.Position.{Position}
use Rattle.lazy_plan.specs.Bench.{BenchState, state_of, IsBenchOf, told_by, told, forward, fills_of, KeepsBench, AsksAtMost}
use Rattle.lazy_plan.specs.Groups.{members_of}
use Rattle.lazy_site.specs.Ids.{here, IsSite, rest_trees, IsRest, weight, left, site_left}
use Rattle.lazy_site.specs.declared.sites.Site.{Site}
use Rattle.lazy_site.specs.declared.sites.Rest.{Rest}
use Rattle.lazy_site.specs.declared.sites.Turn.{Turn}
use Rattle.lazy_site.specs.declared.sites.Turn.TheVariants.{Over, At, On}

-- what a call of at most so many fills leaves, whatever it answers
pub record Walked {S : Type 0} (view : S → View) (came_from : S → S → Type 0) (s : S) (b : Bench) (s' : S) (b' : Bench) (most : ℕ) : Type 0 where
  pub came : came_from s s'
  pub bench : IsBenchOf (view s') b'
  pub kept : KeepsBench (state_of (view s) b) (state_of (view s') b')
  pub asks : AsksAtMost (state_of (view s) b) (state_of (view s') b') most

-- an identifier stands for the first of these trees, with the others after it
pub record StandsFor (old new : BenchState) (f : Tolled) (n : Site) : Type 0 where
  pub node : IsSite new n
  pub here : IsTrue (told old) → here new n ≡ paid f
  pub tree : IsTrue (told old) → IsTrue (is_item f)

-- a call answers that these trees are none, or an identifier that stands for the first of them
abbrev pub Reaches : BenchState → BenchState → Tolled → Option Site → Type 0
Reaches old new f r = MatchOption r (IsTrue (told old) → is_item f ≡ false) (StandsFor old new f)

-- an earlier identifier stands for the same tree, with the same trees after it, and its number did not rise
pub record Stays (old new : BenchState) (n : Site) : Type 0 where
  pub node : IsSite new n
  pub here : here new n ≡ here old n
  pub left : site_left new n ≤ site_left old n

-- each earlier identifier stands for the same tree, with the same trees after it, and its number did not rise
abbrev pub KeepsSites : BenchState → BenchState → Type 0
KeepsSites old new = (n : Site) → IsSite old n → Stays old new n

-- a rest is one of these trees, fewer lists and pieces than this are to be entered in it, and coming to it cost what its toll allows
pub record GoesOn (old new : BenchState) (f : Tolled) (w : ℕ) (r : Rest) : Type 0 where
  pub rest : IsRest new r
  pub falls : weight new r < w
  pub trees : IsTrue (told old) → (t : ℕ) × (f ≡ dearer t (rest_trees new r)) × (IsTrue (forward old) → fills_of new ≤ fills_of old + t)

-- what one turn over these trees comes to: there is none, an identifier stands for the first, or a rest of them goes on
abbrev pub Turns : BenchState → BenchState → Tolled → ℕ → Turn → Type 0
Turns old new f w Over = IsTrue (told old) → is_item f ≡ false
Turns old new f w (At n) = StandsFor old new f n
Turns old new f w (On r) = GoesOn old new f w r.value

-- after one turn fewer trees are left than a number where a node was found, and no more than that number where a rest goes on
abbrev pub Falls : ℕ → BenchState → Turn → Type 0
Falls w st Over = Unit {0}
Falls w st (At n) = site_left st n < w
Falls w st (On r) = left st r.value ≤ w

-- a cursor stands at the first binding of these events of a group, as the member at this place
abbrev pub IsMember : BenchState → BenchState → ℕ → ℕ → Position → ℕ → RowEvents → ℕ → Position → Type 0
IsMember old new op number first place es top c = Finds (told_by old) (members_of new op number first place) es top c
