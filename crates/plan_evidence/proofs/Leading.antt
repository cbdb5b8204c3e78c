-- What is left of a list leads to the tree at which its walk stands.
use Rattle.std.proofs.Common.{◌≡◌, ℕ, suc, ◌+◌, Some, List, [], ◌∷◌, ◌++◌, map, drop, refl, sym, ap, subst, ◌∙◌, arith, length}
use Rattle.std.specs.Prelude.{slice_get}
use Rattle.mix_base.proofs.Choices.{none_some}
use Rattle.mix_base.specs.Events.{without_skips}
use Rattle.mix_tree.specs.Forest.{none, joined}
use Rattle.mix_tree.specs.Nodes.{Documents, label_at, kids_at}
use Rattle.node_text.specs.Node.{LevelValue, level}
use Rattle.plan_core.specs.declared.plan.Piece.{Piece}
use Rattle.plan_core.specs.declared.plan.Piece.TheVariants.{Var as var_piece, LabelOf as label_piece, Text as text_piece}
use Rattle.plan_core.specs.Events.{events}
use Rattle.plan_core.specs.Plans.{PlanValue}
use Rattle.plan_core.specs.Tolled.{ends}
use Rattle.plan_core.specs.TolledRows.{TolledRow, row_node}
use Rattle.plan_core.specs.Typed.{IsTyped}
use Rattle.plan_core.specs.Valid.{Kind, a_node, an_element, a_list, kinds, IsPiece, IsValid}
use Rattle.plan_core.proofs.Typed.{valid_is_typed}
use Rattle.plan_evidence.specs.Held.{held}
use Rattle.plan_evidence.specs.Named.{Listing, of_pieces, of_group, list_of, IsSingle, count_trees, before_piece, members, Reached, IsMember, of_member, of_piece, of_list_member}
use Rattle.plan_evidence.specs.Opened.{Enters, by_one, by_pieces}
use Rattle.plan_evidence.specs.Remains.{Remains, nothing_left, pieces_left, trees_left, numbers_in, levels_through, levels_of, IsAround, whole, a_piece, StandsAt, at_piece, at_member, HasTuple, RemainsLead}
use Rattle.plan_evidence.proofs.Aparts.{at_index, each_without}
use Rattle.plan_evidence.proofs.Counts.{each_drop, get_after, piece_count, items_count, collected_count, count_split, ones_split}
use Rattle.plan_evidence.proofs.Makers.{number_of}
use Rattle.plan_evidence.proofs.NamedNodes.{list_value, members_ones}
use Rattle.plan_evidence.proofs.Shown.{shown, shown_by, before_shown, list_trees, IsLow, IsIn, IsRow, IsListOf}
use Rattle.plan_evidence.proofs.Sounds.{all_sound}
use Rattle.plan_evidence.proofs.TreeLists.{count, IsOne, AreOnes}

-- the levels of pieces alone
abbrev plain_levels : List ℕ → List LevelValue
plain_levels ns = map (λ n. level n []) ns

-- the tuple of levels through pieces stands at the last of them
through_last : (tuple : List (List ℕ)) (ns : List ℕ) (n : ℕ) → plain_levels ns ++ level n tuple ∷ [] ≡ levels_through tuple (ns ++ n ∷ [])
through_last tuple [] n = refl
through_last tuple (a ∷ []) n = refl
through_last tuple (a ∷ b ∷ ns) n = ap (λ (ls : List LevelValue). level a [] ∷ ls) (through_last tuple (b ∷ ns) n)

-- levels through pieces and then through one more
levels_further : (ns : List ℕ) (n : ℕ) (ls : List LevelValue) → plain_levels ns ++ level n [] ∷ ls ≡ plain_levels (ns ++ n ∷ []) ++ ls
levels_further [] n ls = refl
levels_further (a ∷ ns) n ls = ap (λ (ms : List LevelValue). level a [] ∷ ms) (levels_further ns n ls)

module _ (p : PlanValue) (valid : IsValid p) (typed : IsTyped p.ops) (docs : Documents) (n : ℕ) (here : Reached) (sound : IsRow docs p.ops n here.row) where
  -- to what levels lead in a list of pieces, those through the pieces around it and then these lead in the list around it; and so to a member of a group
  abbrev IsLifted : Listing → Remains → ℕ → Listing → Type 0
  IsLifted list r k (of_pieces pieces) =
      (ls : List LevelValue) (j : ℕ) (there : Reached) (piece : Piece) → Enters docs p.ops here (of_pieces pieces) ls j there piece
      → Enters docs p.ops here list (plain_levels (numbers_in r) ++ ls) (k + j) there piece
  IsLifted list r k (of_group i keys piece) =
      (tuple : List (List ℕ)) (j : ℕ) (there : Reached) → IsMember docs p.ops i keys here tuple j there
      → Enters docs p.ops here list (levels_through tuple (numbers_in r)) (k + j) there piece

  -- a list that stands in another, with what is left around it: so many trees are before it
  record StandsIn (list : Listing) (r : Remains) (inner : Listing) : Type 0 where
    before : ℕ
    low : ℕ
    listed : IsListOf docs p.ops low n inner
    counts : count (list_trees docs p.ops list here.row) ≡ before + (count (list_trees docs p.ops inner here.row) + count_trees (trees_left docs r))
    lifted : IsLifted list r before inner

  -- a list stands in itself
  whole_lifted : (list : Listing) → IsLifted list nothing_left 0 list
  whole_lifted (of_pieces pieces) = λ ls j there piece e.
      let z : j ≡ 0 + j = omega arith in
      subst (λ i. Enters docs p.ops here (of_pieces pieces) ls i there piece) z e
  whole_lifted (of_group i keys piece) = λ tuple j there m.
      let z : j ≡ 0 + j = omega arith in
      subst (λ t. Enters docs p.ops here (of_group i keys piece) (level 0 tuple ∷ []) t there piece) z (by_one (of_member refl m))

  -- a list that is a piece of another stands where that does
  piece_lifted : (list inner : Listing) (around : Remains) (pieces : List Piece) (row : TolledRow) (x v k : ℕ) → slice_get pieces x ≡ Some (var_piece v) → list_of p.ops v ≡ Some inner
      → IsLifted list around k (of_pieces pieces) → IsLifted list (pieces_left pieces row (suc x) around) (k + before_piece docs pieces here.row x) inner
  piece_lifted list (of_pieces inner) around pieces row x v k get is lifted = λ ls j there piece e.
      let b : ℕ = before_piece docs pieces here.row x in
      let z : k + (b + j) ≡ (k + b) + j = omega arith in
      subst (λ ms. Enters docs p.ops here list ms ((k + b) + j) there piece) (levels_further (numbers_in around) x ls)
      (subst (λ i. Enters docs p.ops here list (plain_levels (numbers_in around) ++ level x [] ∷ ls) i there piece) z
      (lifted (level x [] ∷ ls) (b + j) there piece (by_pieces {l = level x []} get refl is e)))
  piece_lifted list (of_group i keys piece) around pieces row x v k get is lifted = λ tuple j there m.
      let b : ℕ = before_piece docs pieces here.row x in
      let z : k + (b + j) ≡ (k + b) + j = omega arith in
      subst (λ ms. Enters docs p.ops here list ms ((k + b) + j) there piece) (through_last tuple (numbers_in around) x)
      (subst (λ i. Enters docs p.ops here list (plain_levels (numbers_in around) ++ level x tuple ∷ []) i there piece) z
      (lifted (level x tuple ∷ []) (b + j) there piece (by_one (of_list_member {l = level x tuple} get is m))))

  -- where a list stands
  stands_in : {list inner : Listing} {r : Remains} (m : ℕ) → IsListOf docs p.ops m n list → IsAround docs p.ops here.row list r inner → StandsIn list r inner
  stands_in {list = list} m listed whole = record { before = 0; low = m; listed = listed; counts = omega arith; lifted = whole_lifted list }
  stands_in {list = list} {inner = inner} m listed (a_piece {around = around} {pieces = pieces} {row = row} {n = x} {v = v} up same get is) =
      let o = stands_in m listed up in
      let bound = (at_index (λ q. IsPiece (kinds p.ops n) q × IsLow docs p.ops o.low q) pieces x (var_piece v) o.listed get).0 in
      let shows = list_value p valid typed docs n here.row sound v inner bound is in
      let a = o.counts in
      let b = count_split (shown docs here.row) pieces x (var_piece v) get in
      let c = ap count shows.shows in
      let d = before_shown docs here.row pieces x in
      let e = items_count docs here.row row (drop (suc x) pieces) (trees_left docs around) (each_drop (λ q. _) (suc x) pieces same) in
      record {
        before = o.before + before_piece docs pieces here.row x;
        low = number_of p.ops v;
        listed = shows.is_listed;
        counts = omega (arith, a, b, c, d, e);
        lifted = piece_lifted list inner around pieces row x v o.before get is o.lifted;
      }

  -- a piece that is no list shows one tree
  single_one : (q : Piece) → IsPiece (kinds p.ops n) q → IsSingle p.ops q → IsOne (shown docs here.row q)
  single_one (var_piece v) bound s = by_kind bound.0 (sound v bound.0 bound.1)
    where
      by_kind : (k : Kind) → IsIn docs p.ops (kinds p.ops n) (held p.ops n) here.row v k → IsOne (shown docs here.row (var_piece v))
      by_kind a_node x = (label_at docs x.node, kids_at docs x.node, ap (λ z. shown_by docs z) x.is_value)
      by_kind an_element x = (x.label, _, ap (λ z. shown_by docs z) x.is_value)
      by_kind a_list x = none_some x.listing (sym s ∙ x.is_listing)
  single_one (label_piece v) bound s = (label_at docs (row_node here.row v), none, refl)
  single_one (text_piece label) bound s = (label, none, refl)

  -- the levels of the tree at which a walk stands lead to it
  leads : {list : Listing} {r : Remains} {piece : Piece} (m : ℕ) → IsListOf docs p.ops m n list → (there : Reached) (row : TolledRow) → row ≡ there.row → StandsAt docs p.ops here.row list r row piece
      → (tuple : List (List ℕ)) → HasTuple docs p.ops here r tuple there → (j : ℕ) → count (list_trees docs p.ops list here.row) ≡ j + suc (count_trees (trees_left docs r))
      → Enters docs p.ops here list (levels_of tuple r) j there piece
  leads {list = list} {piece = piece} m listed there z t (at_piece {around = around} {pieces = pieces} {row = row} {n = x} up same get single) tuple h j e =
      let o = stands_in m listed up in
      let bound = (at_index (λ q. IsPiece (kinds p.ops n) q × IsLow docs p.ops o.low q) pieces x piece o.listed get).0 in
      let a = o.counts in
      let b = count_split (shown docs here.row) pieces x piece get in
      let c = ap count (single_one piece bound single).2 in
      let d = before_shown docs here.row pieces x in
      let f = items_count docs here.row row (drop (suc x) pieces) (trees_left docs around) (each_drop (λ q. _) (suc x) pieces same) in
      let y : o.before + before_piece docs pieces here.row x ≡ j = omega (arith, a, b, c, d, e, f) in
      subst (λ (u : Reached). Enters docs p.ops here list (levels_of tuple (pieces_left pieces row (suc x) around)) j u piece) (sym h.1)
      (subst (λ i. Enters docs p.ops here list (levels_of tuple (pieces_left pieces row (suc x) around)) i here piece) y
      (subst (λ ls. Enters docs p.ops here list ls (o.before + before_piece docs pieces here.row x) here piece)
      (ap (λ u. plain_levels (numbers_in around) ++ level x u ∷ []) (sym h.0) ∙ through_last tuple (numbers_in around) x)
      (o.lifted (level x [] ∷ []) (before_piece docs pieces here.row x) here piece (by_one (of_piece {l = level x []} get refl single)))))
  leads {list = list} {piece = piece} m listed there row t (at_member {around = around} {input = i} {keys = keys} {ahead = ahead} up before is) tuple h j e =
      let o = stands_in m listed up in
      let g = o.listed in
      let rows : List TolledRow = before ++ row ∷ without_skips ahead in
      let ones : AreOnes (λ r. shown docs r piece) rows = subst (AreOnes (λ r. shown docs r piece)) is (members_ones p valid typed docs i g.within keys here.row piece g.single) in
      let a = o.counts in
      let b = ap (λ (rs : List TolledRow). count (joined (λ r. shown docs r piece) rs)) is in
      let c = ones_split (λ r. shown docs r piece) before row (without_skips ahead) ones in
      let d = collected_count docs piece ahead (trees_left docs around) in
      let y : o.before + length before ≡ j = omega (arith, a, b, c, d, e) in
      let get : slice_get (members docs p.ops i keys here.row) (length before) ≡ Some there.row =
      ap (λ (rs : List TolledRow). slice_get rs (length before)) is ∙ get_after before row (without_skips ahead) ∙ ap Some t in
      subst (λ i. Enters docs p.ops here list (levels_through tuple (numbers_in around)) i there piece) y
      (o.lifted tuple (length before) there (record { evidence = h.evidence; same_group = h.same_group; of = h.of; at = get }))

-- the levels that what is left tells lead to the tree at which a walk stands
pub remains_lead : RemainsLead
remains_lead p valid docs here there v list in_row r piece stands tuple h j e =
    let typed = valid_is_typed p valid in
    let n : ℕ = in_row.op in
    let sound : IsRow docs p.ops n here.row =
    at_index (IsRow docs p.ops n) (without_skips (events docs p.ops n)) in_row.index here.row (each_without (IsRow docs p.ops n) (events docs p.ops n) (all_sound p valid typed docs n in_row.within)) in_row.binding in
    let shows = list_value p valid typed docs n here.row sound v list (a_list, in_row.kind) in_row.listing in
    let a = piece_count docs (var_piece v) here.row (ends 0) in
    let b = ap count shows.shows in
    leads p valid typed docs n here sound (number_of p.ops v) shows.is_listed there there.row refl stands tuple h j (omega (arith, a, b, e))
