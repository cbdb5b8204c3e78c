-- Members of the groups that stand in a list.
use Rattle.std.proofs.Common.{◌≡◌, ◌∙◌, ℕ, List, Some, length, ap}
use Rattle.std.specs.Prelude.{slice_get}
use Rattle.mix_base.specs.Events.{without_skips}
use Rattle.mix_tree.specs.Nodes.{Documents}
use Rattle.mix_tree.specs.declared.var.Key.{Key}
use Rattle.plan_core.specs.declared.plan.Piece.{Piece}
use Rattle.plan_core.specs.declared.plan.Piece.TheVariants.{Var as var_piece}
use Rattle.plan_core.specs.Events.{RowEvents}
use Rattle.plan_core.specs.Plans.{PlanValue}
use Rattle.plan_core.specs.TolledRows.{TolledRow}
use Rattle.plan_core.specs.Typed.{IsTyped}
use Rattle.plan_core.specs.Valid.{kinds, IsPiece, IsValid}
use Rattle.plan_evidence.specs.Named.{Listing, of_group, members, Reached}
use Rattle.plan_evidence.specs.Remains.{Remains, members_left, IsAround, whole, a_piece, StandsAt, at_member}
use Rattle.plan_evidence.proofs.Aparts.{at_index}
use Rattle.plan_evidence.proofs.Counts.{get_after}
use Rattle.plan_evidence.proofs.Makers.{number_of}
use Rattle.plan_evidence.proofs.NamedNodes.{list_value}
use Rattle.plan_evidence.proofs.Shown.{IsLow, IsRow, IsListOf}

module _ (p : PlanValue) (valid : IsValid p) (typed : IsTyped p.ops) (docs : Documents) (n : ℕ) (here : Reached) (sound : IsRow docs p.ops n here.row) where
  -- what a list uses is bound, and made by operators below a number
  record IsListed (list : Listing) : Type 0 where
    low : ℕ
    listed : IsListOf docs p.ops low n list

  -- so is what a list uses that stands in such a one
  listed_in : {list inner : Listing} {r : Remains} (m : ℕ) → IsListOf docs p.ops m n list → IsAround docs p.ops here.row list r inner → IsListed inner
  listed_in m listed whole = record { low = m; listed = listed }
  listed_in {inner = inner} m listed (a_piece {pieces = pieces} {n = x} {v = v} up same get is) =
      let o = listed_in m listed up in
      let bound = (at_index (λ q. IsPiece (kinds p.ops n) q × IsLow docs p.ops o.low q) pieces x (var_piece v) o.listed get).0 in
      record { low = number_of p.ops v; listed = (list_value p valid typed docs n here.row sound v inner bound is).is_listed }

  -- a group of which a binding is a member, in a list over the binding at hand
  pub record IsMemberHere (input : ℕ) (keys : List Key) (piece : Piece) (row : TolledRow) : Type 0 where
    pub low : ℕ
    pub group : IsListOf docs p.ops low n (of_group input keys piece)
    pub index : ℕ
    pub at : slice_get (members docs p.ops input keys here.row) index ≡ Some row

  -- a walk that stands at a member of a group stands at one of its members
  pub member_here : {list : Listing} {around : Remains} {input : ℕ} {keys : List Key} {piece q : Piece} {ahead : RowEvents} {row : TolledRow} (m : ℕ) → IsListOf docs p.ops m n list
      → StandsAt docs p.ops here.row list (members_left input keys piece ahead around) row q → IsMemberHere input keys piece row
  member_here {ahead = ahead} {row = row} m listed (at_member up before is) =
      let o = listed_in m listed up in
      record {
        low = o.low;
        group = o.listed;
        index = length before;
        at = ap (λ (rs : List TolledRow). slice_get rs (length before)) is ∙ get_after before row (without_skips ahead);
      }
