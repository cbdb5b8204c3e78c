-- Where an identifier stands in a list is the same after a call.
use Rattle.std.proofs.Common.{◌≡◌, ◌<◌, ℕ, List, [], ◌++◌, Some, length, refl, ◌∙◌, sym, ap, subst}
use Rattle.std.specs.Prelude.{IsTrue, slice_get}
use Rattle.mix_base.proofs.EventLaws.{found-some}
use Rattle.mix_base.specs.Events.{finds, found, without_skips}
use Rattle.mix_tree.specs.Nodes.{Documents}
use Rattle.mix_tree.specs.declared.var.Key.{Key}
use Rattle.plan_core.specs.declared.plan.Piece.{Piece}
use Rattle.plan_core.specs.ByNumber.{op_at}
use Rattle.plan_core.specs.Events.{RowEvents}
use Rattle.plan_core.specs.Plans.{Operator}
use Rattle.plan_core.specs.TolledRows.{TolledRow}
use Rattle.plan_evidence.specs.Named.{Listing, of_group}
use Rattle.plan_evidence.specs.Remains.{Remains, pieces_left, members_left, IsAround, StandsAt, at_member}
use Rattle.plan_forms.specs.Forms.{input_at, keys_of, pieces_of, piece_of}
use Rattle.lazy_plan.specs.Bench.{BenchState, ops_of, documents, told, binding_at, KeepsBench}
use Rattle.lazy_plan.specs.Groups.{group_ahead}
use Rattle.lazy_binding.specs.declared.position.Position.{Position}
use Rattle.lazy_site.specs.Ids.{ahead_from, IsRest}
use Rattle.lazy_site.specs.Standing.{remains, AreBelow, AreBefore, IsHolder, IsLeftOf, some_members, IsLeftIn}
use Rattle.lazy_site.specs.Ways.{IsBelow}
use Rattle.lazy_site.specs.declared.sites.Rest.{Rest, End, Pieces', Members', Group'}
use Rattle.lazy_site.proofs.Along.{below-kept}
use Rattle.lazy_site.proofs.Keep.{ops_kept, input_kept, events_kept, binding_kept, ahead_from-kept, group_ahead-kept}
use Rattle.lazy_site.proofs.Listings.{around_left}

-- where members are left of a list, they stand in it, with some before them
members_stand : {docs : Documents} {ops : List Operator} {here : TolledRow} {list : Listing} {input : ℕ} {keys : List Key} {piece : Piece} {ahead : RowEvents} {around : Remains}
    → IsLeftOf docs ops here list (members_left input keys piece ahead around)
    → IsAround docs ops here list around (of_group input keys piece) × ((before : List TolledRow) × AreBefore docs ops here input keys ahead before)
members_stand (some_members up before are) = (up, (before, are))

-- where members are left of a list, the next one that is found stands in it, before the later ones
next_member_stands : {docs : Documents} {ops : List Operator} {here : TolledRow} {list : Listing} {input : ℕ} {keys : List Key} {piece : Piece} {around : Remains} (es later : RowEvents) (row : TolledRow)
    → IsLeftOf docs ops here list (members_left input keys piece es around) → found es ≡ finds row later → StandsAt docs ops here list (members_left input keys piece later around) row piece
next_member_stands es later row l e =
    let s = members_stand l in at_member s.0 s.1.0 (s.1.1 ∙ ap (λ (rows : List TolledRow). s.1.0 ++ rows) (found-some es row later e))

module _ (a b : BenchState) (k : KeepsBench a b) where
  -- what is left of a list is the same after a call
  pub remains-kept : (r : Rest) → IsRest a r → remains b r ≡ remains a r
  remains-kept End h = refl
  remains-kept (Pieces' op at next ways q up) h =
      ap (λ (ops : List Operator). pieces_left (pieces_of (op_at ops op)) (binding_at b (input_at (ops_of b) op) at) next (remains b up)) (ops_kept a b k)
      ∙ ap (λ (row : TolledRow). pieces_left (pieces_of (op_at (ops_of a) op)) row next (remains b up)) (binding_kept a b k op at h.0.cursor)
      ∙ ap (pieces_left (pieces_of (op_at (ops_of a) op)) (binding_at a (input_at (ops_of a) op) at) next) (remains-kept up h.3)
  remains-kept (Members' op at q up) h =
      ap (λ (ops : List Operator). members_left (input_at ops op) [] (piece_of ops op) (ahead_from b (input_at (ops_of b) op) at) (remains b up)) (ops_kept a b k)
      ∙ ap (λ (es : RowEvents). members_left (input_at (ops_of a) op) [] (piece_of (ops_of a) op) es (remains b up)) (ahead_from-kept a b k op at h.1)
      ∙ ap (members_left (input_at (ops_of a) op) [] (piece_of (ops_of a) op) (ahead_from a (input_at (ops_of a) op) at)) (remains-kept up h.2)
  remains-kept (Group' op first number at place q up) h =
      ap (λ (ops : List Operator). members_left (input_at ops op) (keys_of (op_at ops op)) (piece_of ops op) (group_ahead b op first at) (remains b up)) (ops_kept a b k)
      ∙ ap (λ (es : RowEvents). members_left (input_at (ops_of a) op) (keys_of (op_at (ops_of a) op)) (piece_of (ops_of a) op) es (remains b up)) (group_ahead-kept a b k op first at h.0 h.1)
      ∙ ap (members_left (input_at (ops_of a) op) (keys_of (op_at (ops_of a) op)) (piece_of (ops_of a) op) (group_ahead a op first at)) (remains-kept up h.3)

  -- sources that are told after a call were told before it
  pub told_before : IsTrue (told b) → IsTrue (told a)
  told_before y = sym k.told ∙ y

  module _ (n : ℕ) (c : Position) (h : IsHolder a n c) where
    -- the binding of a cursor is the same after a call
    row_kept : binding_at b n c ≡ binding_at a n c
    row_kept = (k.cursors n c h.cursor).binding

    -- a cursor whose binding is among its operator's is so after a call
    pub IsHolder-kept : IsHolder b n c
    IsHolder-kept = record {
      within = subst (λ (ops : List Operator). n < length ops) (sym (ops_kept a b k)) h.within;
      cursor = (k.cursors n c h.cursor).cursor;
      among = λ y. (let z = h.among (told_before y) in (z.0, ap (λ (es : RowEvents). slice_get (without_skips es) z.0) (events_kept a b k n) ∙ z.1 ∙ ap Some (sym row_kept)));
    }

    -- concatenations that are left are over cursors below after a call
    pub AreBelow-kept : (r : Rest) → AreBelow a n c r → AreBelow b n c r
    AreBelow-kept End l = tt
    AreBelow-kept (Pieces' op at next ways q up) l =
        (subst (λ (i : ℕ). IsBelow b n c i at) (sym (input_kept a b k op)) (below-kept a b k n c h.cursor (input_at (ops_of a) op) at l.0), AreBelow-kept up l.1)
    AreBelow-kept (Members' op at q up) l = AreBelow-kept up l
    AreBelow-kept (Group' op first number at place q up) l = AreBelow-kept up l

    -- what is left of a list is so after a call
    pub IsLeftIn-kept : (list : Listing) (r : Rest) → IsRest a r → IsLeftIn a n c list r → IsLeftIn b n c list r
    IsLeftIn-kept list r i l = record {
      below = AreBelow-kept r l.below;
      left = λ y.
          subst (λ (docs : Documents). IsLeftOf docs (ops_of b) (binding_at b n c) list (remains b r)) (sym k.documents)
          (subst (λ (ops : List Operator). IsLeftOf (documents a) ops (binding_at b n c) list (remains b r)) (sym (ops_kept a b k))
          (subst (λ (row : TolledRow). IsLeftOf (documents a) (ops_of a) row list (remains b r)) (sym row_kept)
          (subst (λ (x : Remains). IsLeftOf (documents a) (ops_of a) (binding_at a n c) list x) (sym (remains-kept r i)) (l.left (told_before y)))));
    }

    module _ (list : Listing) (op : ℕ) (keys : List Operator → List Key) (es : RowEvents) (row : TolledRow) (up : Rest) (i : IsRest a up) where
      -- a member that stands in a list stands there after a call
      pub member-kept : StandsAt (documents a) (ops_of a) (binding_at a n c) list (members_left (input_at (ops_of a) op) (keys (ops_of a)) (piece_of (ops_of a) op) es (remains a up)) row (piece_of (ops_of a) op)
          → StandsAt (documents b) (ops_of b) (binding_at b n c) list (members_left (input_at (ops_of b) op) (keys (ops_of b)) (piece_of (ops_of b) op) es (remains b up)) row (piece_of (ops_of b) op)
      member-kept s =
          subst (λ (docs : Documents). StandsAt docs (ops_of b) (binding_at b n c) list (members_left (input_at (ops_of b) op) (keys (ops_of b)) (piece_of (ops_of b) op) es (remains b up)) row (piece_of (ops_of b) op)) (sym k.documents)
          (subst (λ (ops : List Operator). StandsAt (documents a) ops (binding_at b n c) list (members_left (input_at ops op) (keys ops) (piece_of ops op) es (remains b up)) row (piece_of ops op)) (sym (ops_kept a b k))
          (subst (λ (x : TolledRow). StandsAt (documents a) (ops_of a) x list (members_left (input_at (ops_of a) op) (keys (ops_of a)) (piece_of (ops_of a) op) es (remains b up)) row (piece_of (ops_of a) op)) (sym row_kept)
          (subst (λ (x : Remains). StandsAt (documents a) (ops_of a) (binding_at a n c) list (members_left (input_at (ops_of a) op) (keys (ops_of a)) (piece_of (ops_of a) op) es x) row (piece_of (ops_of a) op)) (sym (remains-kept up i)) s)))

  module _ (n : ℕ) (c : Position) (h : IsHolder a n c) (list : Listing) (op : ℕ) (up : Rest) (i : IsRest a up) (es : RowEvents) (r : Rest) (g : IsLeftIn a n c list r) where
    -- after the last member the rest is left of the list
    pub members_over_in : (keys : List Key) → remains a r ≡ members_left (input_at (ops_of a) op) keys (piece_of (ops_of a) op) es (remains a up) → AreBelow a n c up → (x : Rest) → x ≡ up → IsLeftIn b n c list x
    members_over_in keys e below x z =
        subst (IsLeftIn b n c list) (sym z)
        (IsLeftIn-kept n c h list up i (record {
          below = below;
          left = λ y. around_left (documents a) (ops_of a) (binding_at a n c) (members_stand (subst (IsLeftOf (documents a) (ops_of a) (binding_at a n c) list) e (g.left y))).0;
        }))

    -- the next member that is found stands in the list, before the later ones
    pub members_next_in : (keys : List Operator → List Key) → remains a r ≡ members_left (input_at (ops_of a) op) (keys (ops_of a)) (piece_of (ops_of a) op) es (remains a up) → (row : TolledRow) (later : RowEvents)
        → (IsTrue (told a) → found es ≡ finds row later) → IsTrue (told b)
        → StandsAt (documents b) (ops_of b) (binding_at b n c) list (members_left (input_at (ops_of b) op) (keys (ops_of b)) (piece_of (ops_of b) op) later (remains b up)) row (piece_of (ops_of b) op)
    members_next_in keys e row later f y =
        let t = told_before y in
        member-kept n c h list op keys later row up i (next_member_stands es later row (subst (IsLeftOf (documents a) (ops_of a) (binding_at a n c) list) e (g.left t)) (f t))
