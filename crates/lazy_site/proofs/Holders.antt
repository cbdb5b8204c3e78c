-- Where no walk over a list stands, and over which cursor the node is made at which it does; and the binding in which an open list stands.
use Rattle.std.proofs.Common.{◌≡◌, ◌∙◌, ℕ, Bool, true, cond, List, [], ◌∷◌, ◌++◌, Some, None, length, length-append, append_assoc, refl, sym, ap, arith}
use Rattle.std.specs.List.{filter}
use Rattle.mix_base.specs.Events.{without_skips}
use Rattle.mix_tree.specs.Nodes.{Documents}
use Rattle.plan_core.specs.declared.plan.Piece.{Piece}
use Rattle.plan_core.specs.Events.{events}
use Rattle.plan_core.specs.Plans.{Operator}
use Rattle.plan_core.specs.TolledRows.{TolledRow, key_values, same_values}
use Rattle.plan_evidence.specs.Named.{Listing}
use Rattle.plan_evidence.specs.Remains.{Remains, StandsAt, at_piece, at_member, nothing_left, members_left}
use Rattle.lazy_binding.specs.declared.position.Position.{Position}
use Rattle.lazy_plan.specs.Bench.{BenchState, ops_of, documents, IsCursor, binding_at}
use Rattle.lazy_site.specs.Ids.{IsRest}
use Rattle.lazy_site.specs.Levels.{HasList, IsOpen, of_root, of_member}
use Rattle.lazy_site.specs.Standing.{IsHolder, hand_op, hand_at, IsStanding, IsLeftOf, some_pieces, some_members}
use Rattle.lazy_site.specs.declared.sites.Head.{Head}
use Rattle.lazy_site.specs.declared.sites.Rest.{Rest, End, Pieces', Members', Group'}

-- a filter through which all pass leaves all
pub filter_all : (test : TolledRow → Bool) → ((r : TolledRow) → test r ≡ true) → (rows : List TolledRow) → filter test rows ≡ rows
filter_all test h [] = refl
filter_all test h (r ∷ rows) =
    ap (λ (w : Bool). cond w (r ∷ filter test rows) (filter test rows)) (h r) ∙ ap (λ (rs : List TolledRow). r ∷ rs) (filter_all test h rows)

module _ (docs : Documents) (ops : List Operator) (here : TolledRow) where
  -- no walk stands where nothing is left
  pub not_gone : {list : Listing} {r : Remains} {row : TolledRow} {piece : Piece} → StandsAt docs ops here list r row piece → r ≡ nothing_left → ⊥
  not_gone (at_piece up same get single) e = cc
  not_gone (at_member up before are) e = cc

  -- no walk stands at a member while all are left
  pub not_all : {list : Listing} {input : ℕ} {piece q : Piece} {around : Remains} {row : TolledRow} → StandsAt docs ops here list (members_left input [] piece (events docs ops input) around) row q → ⊥
  not_all {input = input} {row = row} (at_member up before are) =
      let rows : List TolledRow = without_skips (events docs ops input) in
      let all = ap (λ (rs : List TolledRow). length rs) (sym (filter_all (λ r. same_values (key_values docs [] here) (key_values docs [] r)) (λ r. refl) rows) ∙ are) in
      absurd (omega (arith, all, length-append before (row ∷ rows)))

  -- where a walk over a list stands, what comes after is left of the list
  pub left_there : {list : Listing} {r : Remains} {row : TolledRow} {piece : Piece} → StandsAt docs ops here list r row piece → IsLeftOf docs ops here list r
  left_there (at_piece up same get single) = some_pieces up same
  left_there (at_member {ahead = ahead} {there = row} up before are) = some_members up (before ++ row ∷ []) (are ∙ sym (append_assoc before (row ∷ []) (without_skips ahead)))

module _ (st : BenchState) where
  -- the binding in which the list of an element stands is a holder's, and has it
  pub open_holder : {rests : List Rest} {q : List ℕ} {n v : ℕ} {c : Position} {list : Listing} → IsOpen st rests q n c v list → IsHolder st n c × HasList st n v list
  open_holder (of_root h o row e has) = (h, has)
  open_holder (of_member up i s j index own e has h) = (h, has)

  -- the node before a rest is made over a cursor
  pub hand_cursor : (n : ℕ) (c : Position) → IsHolder st n c → (list : Listing) (head : Head) (r : Rest) → IsRest st r → IsStanding st n c list head r → IsCursor st (hand_op st n r) (hand_at c r)
  hand_cursor n c h list head End i s = h.cursor
  hand_cursor n c h list head (Pieces' op at next ways q up) i s = h.cursor
  hand_cursor n c h list head (Members' op None q up) i s = absurd (not_all (documents st) (ops_of st) (binding_at st n c) s.stands)
  hand_cursor n c h list head (Members' op (Some d) q up) i s = i.1
  hand_cursor n c h list head (Group' op first number at place q up) i s = i.1.cursor
