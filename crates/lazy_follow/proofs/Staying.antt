-- What a mark holds stays.
use Rattle.std.proofs.Common.{◌≡◌, ◌<◌, ℕ, List, [], ◌∷◌, Option, Some, None, ◌∙◌, sym, subst, length}
use Rattle.std.specs.Prelude.{IsTrue}
use Rattle.mix_tree.specs.Nodes.{Node}
use Rattle.node_text.specs.Node.{LevelValue}
use Rattle.plan_core.specs.declared.plan.Plan.{Plan}
use Rattle.plan_core.specs.ByNumber.{op_at}
use Rattle.plan_core.specs.PlanMade.{plan_value}
use Rattle.plan_core.specs.Shapes.{shape_at}
use Rattle.plan_evidence.specs.Named.{maker, element_list}
use Rattle.plan_forms.specs.Forms.{form, makes_element, is_text, piece_at}
use Rattle.lazy_plan.specs.Bench.{BenchState, ops_of, KeepsBench}
use Rattle.lazy_seek.specs.Given.{given}
use Rattle.lazy_seek.specs.declared.places.NodeAt.{NodeAt}
use Rattle.lazy_follow.specs.declared.evidence.Evidence.{Evidence}
use Rattle.lazy_follow.specs.declared.mark.Shown.{Shown}
use Rattle.lazy_follow.specs.declared.mark.Shown.TheVariants.{Whole, Leaf, Element, Text}
use Rattle.lazy_follow.specs.Choosing.{HasPiece}
use Rattle.lazy_follow.specs.Following.{Ending, text_ending}
use Rattle.lazy_follow.specs.Marks.{AreMembers, IsShown, node_under, ShowsBelow, HasEnd, MarksStay}
use Rattle.lazy_follow.specs.Spotted.{StandsFor}
use Rattle.lazy_follow.proofs.Groups.{spotted_on}

module _ (a b : BenchState) (kept : KeepsBench a b) where
  -- evidence of members stays
  members_on : (levels : List LevelValue) (members : List (Option Evidence)) → AreMembers a levels members → AreMembers b levels members
  members_on [] [] h = h
  members_on [] (m ∷ members) h = h
  members_on (l ∷ levels) [] h = h
  members_on (l ∷ levels) (None ∷ members) h = (h.0, members_on levels members h.1)
  members_on (l ∷ levels) (Some e ∷ members) h = (spotted_on a b kept l.tuple e h.0, members_on levels members h.1)

  -- what a node shows stays
  shown_on : (s : Shown) → IsShown a s → IsShown b s
  shown_on (Whole x) h = (kept.spots x.source x.spot h).spot
  shown_on (Leaf x) h = (kept.spots x.source x.spot h).spot
  shown_on (Element n) h = subst (λ (q : Plan). (n < length (plan_value q).ops) × (form (op_at (plan_value q).ops n) ≡ makes_element)) (sym kept.plan) h
  shown_on (Text n index) h = subst (λ (q : Plan). HasPiece (plan_value q).ops n index × IsTrue (is_text (piece_at (plan_value q).ops n index))) (sym kept.plan) h

  -- a spot that stands for a node stands for it still
  stands_on : (n : Node) (x : NodeAt) → StandsFor a n x → StandsFor b n x
  stands_on n x h = (let s = kept.spots x.source x.spot h.spot in record { spot = s.spot; node = s.node ∙ h.node })

  -- what a node shows at the end of levels, it shows there still
  shows_on : (e : Ending) (p : List ℕ) (s : Shown) → ShowsBelow a e p s → ShowsBelow b e p s
  shows_on e p (Whole x) h = (
    h.0,
    h.1,
    subst (λ (q : Plan). element_list (maker (plan_value q).ops h.0) ≡ None) (sym kept.plan) h.2,
    subst (λ (q : Plan). StandsFor b (node_under (given (plan_value q).ops e.stand.op e.stand.places h.0) p) x) (sym kept.plan)
        (stands_on (node_under (given (ops_of a) e.stand.op e.stand.places h.0) p) x h.3),
  )
  shows_on e p (Leaf x) h = (
    h.0,
    h.1,
    subst (λ (q : Plan). StandsFor b (given (plan_value q).ops e.stand.op e.stand.places h.0) x) (sym kept.plan) (stands_on (given (ops_of a) e.stand.op e.stand.places h.0) x h.2),
    h.3,
  )
  shows_on e p (Element n) h = (h.0, h.1, subst (λ (q : Plan). maker (plan_value q).ops h.0 ≡ shape_at (plan_value q).ops n) (sym kept.plan) h.2, h.3)
  shows_on e p (Text n index) h = (subst (λ (q : Plan). piece_at (plan_value q).ops n index ≡ e.piece) (sym kept.plan) h.0, h.1)

  -- where levels have an end, they have it still
  end_on : (o : Option Ending) (p : List ℕ) (members : List (Option Evidence)) (s : Shown) → HasEnd a o p members s → HasEnd b o p members s
  end_on None p members s h = h
  end_on (Some e) p members s h = record { shows = shows_on e p s h.shows; inputs = h.inputs }

  -- the levels of a text end where they did
  pub text_end : (levels : List LevelValue) (p : List ℕ) (members : List (Option Evidence)) (s : Shown) → HasEnd b (text_ending (ops_of a) levels) p members s
      → HasEnd b (text_ending (ops_of b) levels) p members s
  text_end levels p members s h = subst (λ (q : Plan). HasEnd b (text_ending (plan_value q).ops levels) p members s) (sym kept.plan) h

-- what a mark holds stays
pub marks_stay : MarksStay
marks_stay a b kept m h =
    let levels = m.data.levels in
    let members = m.members.items in
    record {
      members = members_on a b kept levels members h.members;
      shown = shown_on a b kept m.shown h.shown;
      ends = text_end a b kept levels m.data.inside members m.shown (end_on a b kept (text_ending (ops_of a) levels) m.data.inside members m.shown h.ends);
    }
