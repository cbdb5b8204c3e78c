-- What following levels comes to.
use Rattle.std.specs.Prelude.{◌≡◌, ◌+◌, ◌∷◌, ℕ, IsTrue, List, Option, None, MatchOption}
use Rattle.node_text.specs.Node.{LevelValue, NodeValue}
use Rattle.plan_forms.specs.Forms.{piece_at}
use Rattle.lazy_plan.specs.Bench.{BenchState, ops_of, documents, told}
use Rattle.lazy_seek.specs.Reach.{reach}
use Rattle.lazy_follow.specs.declared.ends.TreeAt.{TreeAt}
use Rattle.lazy_follow.specs.declared.evidence.Evidence.{Evidence}
use Rattle.lazy_follow.specs.declared.following.Ahead.{Ahead}
use Rattle.lazy_follow.specs.declared.following.Trail.{Trail}
use Rattle.lazy_follow.specs.declared.mark.Mark.{Mark}
use Rattle.lazy_follow.specs.declared.members.Group.{Group}
use Rattle.lazy_follow.specs.Ends.{stand_of}
use Rattle.lazy_follow.specs.Following.{Follows, FollowsTree, IsFollowedBy, IsFollowed, Ending, tree_ending, ending, text_ending}
use Rattle.lazy_follow.specs.Levels.{IsListIn}
use Rattle.lazy_follow.specs.Marks.{levels_reach, AreMembers, IsShown, IsMarkOf, HasEnd}

-- how far the levels and the place below reach that are ahead
abbrev pub ahead_reach : Ahead → ℕ
ahead_reach a = levels_reach a.levels.now + reach a.inside.now

-- what was found on the way of levels is there: for each the evidence of a member, if it leads to one, and what the node at the end shows
pub record IsTrail (st : BenchState) (levels : List LevelValue) (t : Trail) : Type 0 where
  pub members : AreMembers st levels t.members.items
  pub shown : IsShown st t.shown

-- over told sources levels and a place below can't be followed, or they can; what was found on the way is there, and they end at it
abbrev pub GivesTrail : BenchState → BenchState → List LevelValue → List ℕ → Type 0 → Option Ending → Option Trail → Type 0
GivesTrail old new levels p followed end r =
    MatchOption r (IsTrue (told old) → followed → ⊥) (λ t. IsTrail new levels t × (IsTrue (told old) → followed) × HasEnd new end p t.members.items t.shown)

-- what is found where what is ahead is followed from the list that an operator makes
abbrev pub GivesFromList : (old new : BenchState) → (places : List (List ℕ)) → (from : Group) → IsListIn old places from → Ahead → Option Trail → Type 0
GivesFromList old new places from h a r =
    let s = stand_of places from.here.now in let levels = a.levels.now in let p = a.inside.now in
    GivesTrail old new levels p (Follows (documents old) (ops_of old) s h.list levels p) (ending (ops_of old) s h.list levels) r

-- what is found where what is ahead is followed from the tree of a piece
abbrev pub GivesFromPiece : BenchState → BenchState → List (List ℕ) → TreeAt → Ahead → Option Trail → Type 0
GivesFromPiece old new places t a r =
    let s = stand_of places t.here.now in let x = piece_at (ops_of old) t.op t.index in let levels = a.levels.now in let p = a.inside.now in
    GivesTrail old new levels p (FollowsTree (documents old) (ops_of old) (λ there inner. Follows (documents old) (ops_of old) there inner levels p) s x levels p)
    (tree_ending (ops_of old) (λ there inner. ending (ops_of old) there inner levels) s x levels) r

-- what is found where what is ahead is followed from the outer element
abbrev pub GivesFromOuter : BenchState → BenchState → Ahead → Option Trail → Type 0
GivesFromOuter old new a r =
    let levels = a.levels.now in let p = a.inside.now in
    GivesTrail old new levels p (IsFollowedBy (documents old) (ops_of old) levels p) (text_ending (ops_of old) levels) r

-- a trail with one level more in front of it, which leads to a member or to none
abbrev pub GoesBefore : Option Evidence → Option Trail → Option Trail → Type 0
GoesBefore m t r = MatchOption t (r ≡ None) (λ x. MatchOption r ⊥ (λ y. (y.members.items ≡ m ∷ x.members.items) × (y.shown ≡ x.shown)))

-- over told sources a text can't be followed, or it can; its mark is there
abbrev pub GivesMark : BenchState → BenchState → NodeValue → Option Mark → Type 0
GivesMark old new d r =
    MatchOption r (IsTrue (told old) → IsFollowed (documents old) (ops_of old) d → ⊥) (λ m. IsMarkOf new d m × (IsTrue (told old) → IsFollowed (documents old) (ops_of old) d))
