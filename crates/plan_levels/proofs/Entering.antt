-- A tree of a list is entered in one way, and levels enter one tree.
use Rattle.std.proofs.Common.{◌≡◌, ℕ, zero, suc, ◌+◌, ◌<◌, Some, None, List, [], ◌∷◌, refl, sym, ap, subst, ◌∙◌, arith, length}
use Rattle.std.specs.Prelude.{slice_get}
use Rattle.std.proofs.lemmas.Option.{slice_get_within}
use Rattle.mix_base.proofs.Choices.{some_is, none_some}
use Rattle.mix_base.specs.Events.{without_skips}
use Rattle.mix_tree.specs.Forest.{none, joined}
use Rattle.mix_tree.specs.Nodes.{Documents, label_at, kids_at}
use Rattle.mix_tree.specs.declared.var.Key.{Key}
use Rattle.node_text.specs.Node.{LevelValue}
use Rattle.plan_core.specs.declared.plan.Piece.{Piece}
use Rattle.plan_core.specs.declared.plan.Piece.TheVariants.{Var as var_piece, LabelOf as label_piece, Text as text_piece}
use Rattle.plan_core.specs.Events.{events}
use Rattle.plan_core.specs.Plans.{Operator, PlanValue}
use Rattle.plan_core.specs.TolledRows.{TolledRow, tolled_value}
use Rattle.plan_core.specs.Typed.{IsTyped}
use Rattle.plan_core.specs.Valid.{Kind, a_node, an_element, a_list, kinds, IsPiece, IsSinglePiece, IsValid}
use Rattle.plan_core.proofs.Typed.{valid_is_typed}
use Rattle.plan_evidence.specs.Held.{held}
use Rattle.plan_evidence.specs.Named.{Listing, of_pieces, of_group, list_of, IsSingle, before_piece, members, Reached, IsMember, Picks, of_member, of_piece, of_list_member}
use Rattle.plan_evidence.specs.Opened.{Enters, by_one, by_pieces}
use Rattle.plan_evidence.specs.Remains.{Remains, IsAround, whole, a_piece, IsListIn}
use Rattle.plan_evidence.proofs.Aparts.{at_index, each_without, one_index, members_apart}
use Rattle.plan_evidence.proofs.HeldApart.{held_apart}
use Rattle.plan_evidence.proofs.Makers.{number_of}
use Rattle.plan_evidence.proofs.NamedNodes.{list_value, members_ones, one_shown}
use Rattle.plan_evidence.proofs.Once.{rows_agree}
use Rattle.plan_evidence.proofs.Shown.{shown, before_shown, list_trees, IsGroup, IsIn, IsLow, IsRow, IsListOf}
use Rattle.plan_evidence.proofs.Sounds.{all_sound}
use Rattle.plan_evidence.proofs.TreeLists.{count}
use Rattle.plan_levels.specs.Entered.{numbers_of, AreAlike, EnteredOnce, LevelsEnterOnce}
use Rattle.plan_levels.proofs.Located.{in_joined, located, ones_count}

-- the variable of a piece that is one's value; 0 for another
piece_var : Piece → ℕ
piece_var (var_piece v) = v
piece_var (label_piece v) = 0
piece_var (text_piece label) = 0

-- pieces that are the values of two variables are alike where the variables are
var_once : (v w : ℕ) → var_piece v ≡ var_piece w → v ≡ w
unfolding piece_var
var_once v w e = ap piece_var e

-- the input of a group's listing; 0 for one of pieces
group_input : Listing → ℕ
group_input (of_pieces pieces) = 0
group_input (of_group n keys piece) = n

-- the keys of a group's listing; none for one of pieces
group_keys : Listing → List Key
group_keys (of_pieces pieces) = []
group_keys (of_group n keys piece) = keys

-- the piece of a group's listing; some piece for one of pieces
group_piece : Listing → Piece
group_piece (of_pieces pieces) = var_piece 0
group_piece (of_group n keys piece) = piece

-- the pieces of a listing of pieces; none for that of a group
own_pieces : Listing → List Piece
own_pieces (of_pieces pieces) = pieces
own_pieces (of_group n keys piece) = []

-- no list is of pieces and of a group
pub not_both : (pieces : List Piece) (n : ℕ) (keys : List Key) (piece : Piece) → of_pieces pieces ≡ of_group n keys piece → ⊥
not_both pieces n keys piece e = cc

-- groups whose listings are the same have the same input, keys and piece
pub group_same : (n m : ℕ) (keys own : List Key) (x y : Piece) → of_group n keys x ≡ of_group m own y → (n ≡ m) × (keys ≡ own) × (x ≡ y)
unfolding group_input group_keys group_piece
group_same n m keys own x y e = (ap group_input e, ap group_keys e, ap group_piece e)

-- lists of the same pieces have the same listings
pieces_same : (ps qs : List Piece) → of_pieces ps ≡ of_pieces qs → ps ≡ qs
unfolding own_pieces
pieces_same ps qs e = ap own_pieces e

module _ (ops : List Operator) where
  -- a piece that is no list isn't the value of a variable that holds one
  pub no_list : (pieces : List Piece) (a b v : ℕ) (q : Piece) (list : Listing) → slice_get pieces a ≡ Some q → IsSingle ops q → slice_get pieces b ≡ Some (var_piece v) → list_of ops v ≡ Some list → a ≡ b → ⊥
  no_list pieces a b v q list get s get' lo e =
      let same : q ≡ var_piece v = some_is q (var_piece v) (sym get ∙ ap (slice_get pieces) e ∙ get') in
      none_some list (sym (subst (IsSingle ops) same s) ∙ lo)

  -- the variables of one piece have one listing
  pub one_listing : (pieces : List Piece) (a b v w : ℕ) (list other : Listing) → slice_get pieces a ≡ Some (var_piece v) → slice_get pieces b ≡ Some (var_piece w) → list_of ops v ≡ Some list → list_of ops w ≡ Some other
      → a ≡ b → list ≡ other
  one_listing pieces a b v w list other get get' lo lo' e =
      let vars : v ≡ w = var_once v w (some_is (var_piece v) (var_piece w) (sym get ∙ ap (slice_get pieces) e ∙ get')) in
      some_is list other (sym lo ∙ ap (list_of ops) vars ∙ lo')

module _ (p : PlanValue) (valid : IsValid p) (typed : IsTyped p.ops) (docs : Documents) (n : ℕ) (row : TolledRow) (sound : IsRow docs p.ops n row) where
  -- a bound piece that is no list is a single one of the operator
  single : (q : Piece) → IsPiece (kinds p.ops n) q → IsSingle p.ops q → IsSinglePiece (kinds p.ops n) q
  single (var_piece v) bound s = (bound.0, bound.1, no_list)
    where
      no_list : bound.0 ≡ a_list → ⊥
      no_list e = (let h : IsIn docs p.ops (kinds p.ops n) (held p.ops n) row v a_list = subst (IsIn docs p.ops (kinds p.ops n) (held p.ops n) row v) e (sound v bound.0 bound.1) in none_some h.listing (sym s ∙ h.is_listing))
  single (label_piece v) bound s = bound
  single (text_piece label) bound s = tt

  -- so many trees does a piece show
  abbrev size : Piece → ℕ
  size q = count (shown docs row q)

  -- a piece that is no list shows one tree
  one_tree : (q : Piece) → IsPiece (kinds p.ops n) q → IsSingle p.ops q → size q ≡ 1
  one_tree q bound s = ap count (one_shown p valid typed docs n q (single q bound s) row sound).2

  module _ (m : ℕ) (pieces : List Piece) (listed : IsListOf docs p.ops m n (of_pieces pieces)) where
    -- a piece of the list is bound
    bound_at : (a : ℕ) (q : Piece) → slice_get pieces a ≡ Some q → IsPiece (kinds p.ops n) q
    bound_at a q e = (at_index (λ q. IsPiece (kinds p.ops n) q × IsLow docs p.ops m q) pieces a q listed e).0

    -- a tree of a piece is one of the list
    in_list : (a i : ℕ) (q : Piece) → slice_get pieces a ≡ Some q → i < size q → before_piece docs pieces row a + i < count (list_trees docs p.ops (of_pieces pieces) row)
    in_list a i q e u =
        let b = before_shown docs row pieces a in
        let c = in_joined (shown docs row) pieces a i q e u in
        omega (arith, b, c)

    -- a tree of the list is one of one piece, at one index
    one_piece : (a b i k : ℕ) (x y : Piece) → slice_get pieces a ≡ Some x → slice_get pieces b ≡ Some y → i < size x → k < size y → before_piece docs pieces row a + i ≡ before_piece docs pieces row b + k
        → (a ≡ b) × (i ≡ k)
    one_piece a b i k x y e g u w z =
        let c = before_shown docs row pieces a in
        let d = before_shown docs row pieces b in
        located (shown docs row) pieces a b i k x y e g u w (omega (arith, z, c, d))

    -- where so many trees of one piece and of another are at the same index over two like bindings, the pieces are one, and the indexes among their trees
    met : (a b i k : ℕ) (x y : Piece) (here other : Reached) → here.row ≡ row → other.row ≡ row → slice_get pieces a ≡ Some x → slice_get pieces b ≡ Some y → i < size x → k < size y
        → before_piece docs pieces here.row a + i ≡ before_piece docs pieces other.row b + k → (a ≡ b) × (i ≡ k)
    met a b i k x y here other e f get get' u w z =
        let c = ap (λ r. before_piece docs pieces r a) e in
        let d = ap (λ r. before_piece docs pieces r b) f in
        one_piece a b i k x y get get' u w (omega (arith, z, c, d))

  -- a member of a group is one of its trees
  member_in : (low i : ℕ) (keys : List Key) (q : Piece) → IsListOf docs p.ops low n (of_group i keys q) → (here there : Reached) (places : List (List ℕ)) (j : ℕ) → here.row ≡ row
      → IsMember docs p.ops i keys here places j there → j < count (list_trees docs p.ops (of_group i keys q) row)
  member_in low i keys q g here there places j e x =
      let at : slice_get (members docs p.ops i keys row) j ≡ Some there.row = subst (λ r. slice_get (members docs p.ops i keys r) j ≡ Some there.row) e x.at in
      let w = slice_get_within (members docs p.ops i keys row) j there.row at in
      let c = ones_count (λ r. shown docs r q) (members docs p.ops i keys row) (members_ones p valid typed docs i g.within keys row q g.single) in
      omega (arith, w, c)

  module _ (m : ℕ) (pieces : List Piece) (g : IsListOf docs p.ops m n (of_pieces pieces)) (a v : ℕ) (get : slice_get pieces a ≡ Some (var_piece v)) where
    -- a list among the pieces is of what is bound
    inner_listed : (inner : Listing) → list_of p.ops v ≡ Some inner → IsListOf docs p.ops (number_of p.ops v) n inner
    inner_listed inner lo = (list_value p valid typed docs n row sound v inner (bound_at m pieces g a (var_piece v) get) lo).is_listed

    -- so many trees as it shows
    inner_size : (inner : Listing) → list_of p.ops v ≡ Some inner → size (var_piece v) ≡ count (list_trees docs p.ops inner row)
    inner_size inner lo = ap count (list_value p valid typed docs n row sound v inner (bound_at m pieces g a (var_piece v) get) lo).shows

    -- a member of a group among the pieces is one of the piece's trees
    member_size : (i : ℕ) (keys : List Key) (q : Piece) → list_of p.ops v ≡ Some (of_group i keys q) → (here there : Reached) (places : List (List ℕ)) (j : ℕ) → here.row ≡ row
        → IsMember docs p.ops i keys here places j there → j < size (var_piece v)
    member_size i keys q lo here there places j e x =
        let b = member_in (number_of p.ops v) i keys q (inner_listed (of_group i keys q) lo) here there places j e x in
        let c = inner_size (of_group i keys q) lo in
        omega (arith, b, c)

  -- what is listed in a list is of what is bound
  pub around_listed : {list inner : Listing} {r : Remains} (m : ℕ) → IsListOf docs p.ops m n list → IsAround docs p.ops row list r inner → (low : ℕ) × IsListOf docs p.ops low n inner
  around_listed m g whole = (m, g)
  around_listed {inner = inner} m g (a_piece {pieces = pieces} {n = x} {v = v} up same get lo) =
      let o = around_listed m g up in (number_of p.ops v, inner_listed o.0 pieces o.1 x v get inner lo)

  -- a tree that levels enter is one of the list
  within : {here there : Reached} {list : Listing} {ls : List LevelValue} {j : ℕ} {x : Piece} (m : ℕ) → IsListOf docs p.ops m n list → here.row ≡ row → Enters docs p.ops here list ls j there x
      → j < count (list_trees docs p.ops list row)
  within {here = here} {there = there} m g e (by_one {j = j} (of_member {n = i} {keys = keys} {piece = q} {l = l} z x)) = member_in m i keys q g here there l.tuple j e x
  within m g e (by_one (of_piece {pieces = pieces} {l = l} {piece = q} get t s)) =
      let one = one_tree q (bound_at m pieces g l.piece q get) s in
      let a = in_list m pieces g l.piece 0 q get (omega (arith, one)) in
      let z = ap (λ r. before_piece docs pieces r l.piece) e in
      omega (arith, a, z)
  within {here = here} {there = there} m g e (by_one (of_list_member {pieces = pieces} {v = v} {n = i} {j = j} {keys = keys} {piece = q} {l = l} get lo x)) =
      let b = member_size m pieces g l.piece v get i keys q lo here there l.tuple j e x in
      let a = in_list m pieces g l.piece j (var_piece v) get b in
      let z = ap (λ r. before_piece docs pieces r l.piece) e in
      omega (arith, a, z)
  within m g e (by_pieces {pieces = pieces} {inner = inner} {l = l} {v = v} {i = i} get t lo more) =
      let b = within (number_of p.ops v) (inner_listed m pieces g l.piece v get (of_pieces inner) lo) e more in
      let c = inner_size m pieces g l.piece v get (of_pieces inner) lo in
      let a = in_list m pieces g l.piece i (var_piece v) get (omega (arith, b, c)) in
      let z = ap (λ r. before_piece docs pieces r l.piece) e in
      omega (arith, a, z)

  -- the bindings at one index of one group are the same
  same_member : (i j c k : ℕ) (keys own : List Key) (here other there also : Reached) (ps qs : List (List ℕ)) → here.row ≡ row → other.row ≡ row → c ≡ k → keys ≡ own → i ≡ j
      → IsMember docs p.ops c keys here ps i there → IsMember docs p.ops k own other qs j also → there.row ≡ also.row
  same_member i j c k keys own here other there also ps qs e f inputs same z x y =
      let at : slice_get (members docs p.ops c keys row) i ≡ Some there.row = subst (λ r. slice_get (members docs p.ops c keys r) i ≡ Some there.row) e x.at in
      let there_at : slice_get (members docs p.ops k own row) j ≡ Some also.row = subst (λ r. slice_get (members docs p.ops k own r) j ≡ Some also.row) f y.at in
      let lists : members docs p.ops c keys row ≡ members docs p.ops k own row = ap (λ d. members docs p.ops d keys row) inputs ∙ ap (λ ks. members docs p.ops k ks row) same in
      some_is there.row also.row (sym at ∙ ap (slice_get (members docs p.ops c keys row)) z ∙ ap (λ rs. slice_get rs j) lists ∙ there_at)

  -- levels that enter at one index enter alike
  alike : {here other there also : Reached} {list : Listing} {ls ms : List LevelValue} {i j : ℕ} {x y : Piece} (m : ℕ) → IsListOf docs p.ops m n list → here.row ≡ row → other.row ≡ row → i ≡ j
      → Enters docs p.ops here list ls i there x → Enters docs p.ops other list ms j also y → AreAlike ls ms there also x y
  alike {here = here} {other = other} {there = there} {also = also} m g e f z (by_one {j = i} (of_member {n = c} {keys = keys} {l = l} o x)) (by_one {j = j} (of_member {l = l'} o' y)) =
      record { numbers = ap (λ a. a ∷ []) (o ∙ sym o'); row = same_member i j c c keys keys here other there also l.tuple l'.tuple e f refl refl z x y; piece = refl }
  alike {here = here} {other = other} m g e f z (by_one (of_piece {pieces = pieces} {l = l} {piece = q} get t s)) (by_one (of_piece {l = l'} {piece = q'} get' t' s')) =
      let one = one_tree q (bound_at m pieces g l.piece q get) s in
      let two = one_tree q' (bound_at m pieces g l'.piece q' get') s' in
      let r = met m pieces g l.piece l'.piece 0 0 q q' here other e f get get' (omega (arith, one)) (omega (arith, two)) (omega (arith, z)) in
      record { numbers = ap (λ a. a ∷ []) r.0; row = e ∙ sym f; piece = some_is q q' (sym get ∙ ap (slice_get pieces) r.0 ∙ get') }
  alike {here = here} {other = other} {also = also} m g e f z (by_one (of_piece {pieces = pieces} {l = l} {piece = q} get t s)) (by_one (of_list_member {v = w} {n = k} {j = j} {keys = own} {piece = y} {l = l'} get' lo x)) =
      let one = one_tree q (bound_at m pieces g l.piece q get) s in
      let u = member_size m pieces g l'.piece w get' k own y lo other also l'.tuple j f x in
      let r = met m pieces g l.piece l'.piece 0 j q (var_piece w) here other e f get get' (omega (arith, one)) u (omega (arith, z)) in
      absurd (no_list p.ops pieces l.piece l'.piece w q (of_group k own y) get s get' lo r.0)
  alike {here = here} {other = other} m g e f z (by_one (of_piece {pieces = pieces} {l = l} {piece = q} get t s)) (by_pieces {inner = inner} {l = l'} {v = w} {i = k} get' t' lo more) =
      let one = one_tree q (bound_at m pieces g l.piece q get) s in
      let b = within (number_of p.ops w) (inner_listed m pieces g l'.piece w get' (of_pieces inner) lo) f more in
      let c = inner_size m pieces g l'.piece w get' (of_pieces inner) lo in
      let r = met m pieces g l.piece l'.piece 0 k q (var_piece w) here other e f get get' (omega (arith, one)) (omega (arith, b, c)) (omega (arith, z)) in
      absurd (no_list p.ops pieces l.piece l'.piece w q (of_pieces inner) get s get' lo r.0)
  alike {here = here} {other = other} {there = there} m g e f z (by_one (of_list_member {pieces = pieces} {v = v} {n = c} {j = i} {keys = keys} {piece = x} {l = l} get lo a)) (by_one (of_piece {l = l'} {piece = q} get' t s)) =
      let one = one_tree q (bound_at m pieces g l'.piece q get') s in
      let u = member_size m pieces g l.piece v get c keys x lo here there l.tuple i e a in
      let r = met m pieces g l.piece l'.piece i 0 (var_piece v) q here other e f get get' u (omega (arith, one)) (omega (arith, z)) in
      absurd (no_list p.ops pieces l'.piece l.piece v q (of_group c keys x) get' s get lo (sym r.0))
  alike {here = here} {other = other} {there = there} {also = also} m g e f z (by_one (of_list_member {pieces = pieces} {v = v} {n = c} {j = i} {keys = keys} {piece = x} {l = l} get lo a)) (by_one (of_list_member {v = w} {n = k} {j = j} {keys = own} {piece = y} {l = l'} get' lo' b)) =
      let u = member_size m pieces g l.piece v get c keys x lo here there l.tuple i e a in
      let w' = member_size m pieces g l'.piece w get' k own y lo' other also l'.tuple j f b in
      let r = met m pieces g l.piece l'.piece i j (var_piece v) (var_piece w) here other e f get get' u w' z in
      let same = group_same c k keys own x y (one_listing p.ops pieces l.piece l'.piece v w (of_group c keys x) (of_group k own y) get get' lo lo' r.0) in
      record { numbers = ap (λ a. a ∷ []) r.0; row = same_member i j c k keys own here other there also l.tuple l'.tuple e f same.0 same.1 r.1 a b; piece = same.2 }
  alike {here = here} {other = other} {there = there} m g e f z (by_one (of_list_member {pieces = pieces} {v = v} {n = c} {j = i} {keys = keys} {piece = x} {l = l} get lo a)) (by_pieces {inner = inner} {l = l'} {v = w} {i = k} get' t' lo' more) =
      let u = member_size m pieces g l.piece v get c keys x lo here there l.tuple i e a in
      let b = within (number_of p.ops w) (inner_listed m pieces g l'.piece w get' (of_pieces inner) lo') f more in
      let d = inner_size m pieces g l'.piece w get' (of_pieces inner) lo' in
      let r = met m pieces g l.piece l'.piece i k (var_piece v) (var_piece w) here other e f get get' u (omega (arith, b, d)) z in
      absurd (not_both inner c keys x (sym (one_listing p.ops pieces l.piece l'.piece v w (of_group c keys x) (of_pieces inner) get get' lo lo' r.0)))
  alike {here = here} {other = other} m g e f z (by_pieces {pieces = pieces} {inner = inner} {l = l} {v = v} {i = i} get t lo more) (by_one (of_piece {l = l'} {piece = q} get' t' s)) =
      let one = one_tree q (bound_at m pieces g l'.piece q get') s in
      let b = within (number_of p.ops v) (inner_listed m pieces g l.piece v get (of_pieces inner) lo) e more in
      let c = inner_size m pieces g l.piece v get (of_pieces inner) lo in
      let r = met m pieces g l.piece l'.piece i 0 (var_piece v) q here other e f get get' (omega (arith, b, c)) (omega (arith, one)) (omega (arith, z)) in
      absurd (no_list p.ops pieces l'.piece l.piece v q (of_pieces inner) get' s get lo (sym r.0))
  alike {here = here} {other = other} {also = also} m g e f z (by_pieces {pieces = pieces} {inner = inner} {l = l} {v = v} {i = i} get t lo more) (by_one (of_list_member {v = w} {n = k} {j = j} {keys = own} {piece = y} {l = l'} get' lo' a)) =
      let u = member_size m pieces g l'.piece w get' k own y lo' other also l'.tuple j f a in
      let b = within (number_of p.ops v) (inner_listed m pieces g l.piece v get (of_pieces inner) lo) e more in
      let c = inner_size m pieces g l.piece v get (of_pieces inner) lo in
      let r = met m pieces g l.piece l'.piece i j (var_piece v) (var_piece w) here other e f get get' (omega (arith, b, c)) u z in
      absurd (not_both inner k own y (one_listing p.ops pieces l.piece l'.piece v w (of_pieces inner) (of_group k own y) get get' lo lo' r.0))
  alike {here = here} {other = other} {also = also} {y = y} m g e f z (by_pieces {pieces = pieces} {inner = inner} {l = l} {ls = ls} {v = v} {i = i} get t lo more) (by_pieces {inner = inner'} {l = l'} {ls = ms} {v = w} {i = k} get' t' lo' more') =
      let listed = inner_listed m pieces g l.piece v get (of_pieces inner) lo in
      let b = within (number_of p.ops v) listed e more in
      let c = inner_size m pieces g l.piece v get (of_pieces inner) lo in
      let b' = within (number_of p.ops w) (inner_listed m pieces g l'.piece w get' (of_pieces inner') lo') f more' in
      let c' = inner_size m pieces g l'.piece w get' (of_pieces inner') lo' in
      let r = met m pieces g l.piece l'.piece i k (var_piece v) (var_piece w) here other e f get get' (omega (arith, b, c)) (omega (arith, b', c')) z in
      let same = one_listing p.ops pieces l.piece l'.piece v w (of_pieces inner) (of_pieces inner') get get' lo lo' r.0 in
      let a = alike (number_of p.ops v) listed e f r.1 more (subst (λ o. Enters docs p.ops other o ms k also y) (sym same) more') in
      record { numbers = ap (λ (ns : List ℕ). l.piece ∷ ns) a.numbers ∙ ap (λ (k : ℕ). k ∷ numbers_of ms) r.0; row = a.row; piece = a.piece }

  -- the same places are of one member of a group
  member_once : (low i : ℕ) (keys : List Key) (q : Piece) → IsListOf docs p.ops low n (of_group i keys q) → (here other there also : Reached) (places : List (List ℕ)) (j k : ℕ) → here.row ≡ row → other.row ≡ row
      → IsMember docs p.ops i keys here places j there → IsMember docs p.ops i keys other places k also → j ≡ k
  member_once low i keys q g here other there also places j k e f x y =
      let apart = members_apart docs (held p.ops i) p.ops i keys row (held_apart p valid docs i g.within) in
      let agree = rows_agree p valid docs i g.within there.nodes also.nodes x.evidence.right y.evidence.right (x.evidence.written ∙ sym y.evidence.written) there.row also.row x.of y.of in
      let at : slice_get (members docs p.ops i keys row) j ≡ Some there.row = subst (λ r. slice_get (members docs p.ops i keys r) j ≡ Some there.row) e x.at in
      let there_at : slice_get (members docs p.ops i keys row) k ≡ Some also.row = subst (λ r. slice_get (members docs p.ops i keys r) k ≡ Some also.row) f y.at in
      one_index docs (held p.ops i) (members docs p.ops i keys row) apart j k there.row also.row at there_at agree

  -- without a level nothing is entered
  no_levels : {here there : Reached} {list : Listing} {j : ℕ} {x : Piece} → Enters docs p.ops here list [] j there x → ⊥
  no_levels x = elim x [ ]

  -- the same levels enter at one index
  once : {here other there also : Reached} {list : Listing} {ls : List LevelValue} {i j : ℕ} {x y : Piece} (m : ℕ) → IsListOf docs p.ops m n list → here.row ≡ row → other.row ≡ row
      → Enters docs p.ops here list ls i there x → Enters docs p.ops other list ls j also y → i ≡ j
  once {here = here} {other = other} {there = there} {also = also} m g e f (by_one {j = i} (of_member {n = c} {keys = keys} {piece = q} {l = l} o x)) (by_one {j = j} (of_member o' y)) =
      member_once m c keys q g here other there also l.tuple i j e f x y
  once m g e f (by_one (of_piece {pieces = pieces} {l = l} get t s)) (by_one (of_piece get' t' s')) = ap (λ r. before_piece docs pieces r l.piece) (e ∙ sym f)
  once m g e f (by_one (of_piece {pieces = pieces} {l = l} {piece = q} get t s)) (by_one (of_list_member {v = w} {n = k} {keys = own} {piece = y} get' lo x)) =
      absurd (no_list p.ops pieces l.piece l.piece w q (of_group k own y) get s get' lo refl)
  once m g e f (by_one (of_list_member {pieces = pieces} {v = v} {n = c} {keys = keys} {piece = x} {l = l} get lo a)) (by_one (of_piece {piece = q} get' t s)) =
      absurd (no_list p.ops pieces l.piece l.piece v q (of_group c keys x) get' s get lo refl)
  once {here = here} {other = other} {there = there} {also = also} m g e f (by_one (of_list_member {pieces = pieces} {v = v} {n = c} {j = i} {keys = keys} {piece = x} {l = l} get lo a)) (by_one (of_list_member {v = w} {n = k} {j = j} {keys = own} {piece = y} get' lo' b)) =
      let same = group_same c k keys own x y (one_listing p.ops pieces l.piece l.piece v w (of_group c keys x) (of_group k own y) get get' lo lo' refl) in
      let b' : IsMember docs p.ops c keys other l.tuple j also =
      subst (λ (ks : List Key). IsMember docs p.ops c ks other l.tuple j also) (sym same.1) (subst (λ d. IsMember docs p.ops d own other l.tuple j also) (sym same.0) b) in
      let r = member_once (number_of p.ops v) c keys x (inner_listed m pieces g l.piece v get (of_group c keys x) lo) here other there also l.tuple i j e f a b' in
      ap (λ z. before_piece docs pieces z l.piece + i) (e ∙ sym f) ∙ ap (λ z. before_piece docs pieces other.row l.piece + z) r
  once m g e f (by_one x) (by_pieces get t lo more) = absurd (no_levels more)
  once m g e f (by_pieces get t lo more) (by_one x) = absurd (no_levels more)
  once {other = other} {also = also} {y = y} m g e f (by_pieces {pieces = pieces} {inner = inner} {l = l} {ls = ls} {v = v} {i = i} get t lo more) (by_pieces {inner = inner'} {v = w} {i = k} get' t' lo' more') =
      let same = one_listing p.ops pieces l.piece l.piece v w (of_pieces inner) (of_pieces inner') get get' lo lo' refl in
      let r = once (number_of p.ops v) (inner_listed m pieces g l.piece v get (of_pieces inner) lo) e f more (subst (λ o. Enters docs p.ops other o ls k also y) (sym same) more') in
      ap (λ z. before_piece docs pieces z l.piece + i) (e ∙ sym f) ∙ ap (λ z. before_piece docs pieces other.row l.piece + z) r

module _ (p : PlanValue) (valid : IsValid p) (docs : Documents) (here : Reached) (v : ℕ) (list : Listing) (in_row : IsListIn docs p.ops here.row v list) where
  -- each value of the binding is as its kind says
  pub sound_row : IsRow docs p.ops in_row.op here.row
  sound_row =
      at_index (IsRow docs p.ops in_row.op) (without_skips (events docs p.ops in_row.op)) in_row.index here.row
      (each_without (IsRow docs p.ops in_row.op) (events docs p.ops in_row.op) (all_sound p valid (valid_is_typed p valid) docs in_row.op in_row.within)) in_row.binding

  -- what the list uses is bound
  pub list_listed : IsListOf docs p.ops (number_of p.ops v) in_row.op list
  list_listed = (list_value p valid (valid_is_typed p valid) docs in_row.op here.row sound_row v list (a_list, in_row.kind) in_row.listing).is_listed

-- levels that lead to one index enter alike
pub enters_alike : EnteredOnce
enters_alike p valid docs here other v list in_row e ls ms j there also x y a b =
    alike p valid (valid_is_typed p valid) docs in_row.op here.row (sound_row p valid docs here v list in_row) (number_of p.ops v) (list_listed p valid docs here v list in_row) refl e refl a b

-- the same levels lead to one index
pub levels_once : LevelsEnterOnce
levels_once p valid docs here other v list in_row e ls i j there also x y a b =
    once p valid (valid_is_typed p valid) docs in_row.op here.row (sound_row p valid docs here v list in_row) (number_of p.ops v) (list_listed p valid docs here v list in_row) refl e a b
