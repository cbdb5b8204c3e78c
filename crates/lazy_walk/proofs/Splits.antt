-- The levels of a text cut after those that lead to the first tree, and the evidence behind them.
use Rattle.std.proofs.Common.{◌≡◌, ◌∙◌, ℕ, suc, ◌+◌, List, [], ◌∷◌, ◌++◌, Option, Some, None, refl, sym, ap, subst, length, drop}
use Rattle.std.specs.Prelude.{slice_get, MatchOption, option_and_then, option_map}
use Rattle.std.specs.List.{last_or}
use Rattle.mix_base.proofs.Choices.{some_is}
use Rattle.mix_tree.specs.Nodes.{Documents}
use Rattle.node_text.specs.Node.{LevelValue}
use Rattle.plan_core.specs.declared.plan.Piece.{Piece}
use Rattle.plan_core.specs.declared.plan.Piece.TheVariants.{Var as var_piece, LabelOf as label_piece, Text as text_piece}
use Rattle.plan_core.specs.Plans.{Operator}
use Rattle.plan_evidence.specs.Named.{maker, element_list, list_of, outer_of, Listing, of_pieces, of_group, Reached, IsSingle, of_member, of_piece, of_list_member, Ends, Leads, to_tree, to_element, to_pieces, before_piece}
use Rattle.plan_evidence.specs.Opened.{Enters, by_one, by_pieces}
use Rattle.plan_levels.specs.Entered.{numbers_of}
use Rattle.lazy_follow.specs.declared.evidence.Evidence.{Evidence}
use Rattle.lazy_follow.specs.Following.{Choice, nothing, a_tree, a_member, a_list_among, choice, piece_choice, value_choice, list_in, Stand, Ending, before, tree_ending, choice_ending, ending, outer_ending, text_ending}
use Rattle.lazy_follow.specs.Marks.{member_ops}
use Rattle.lazy_walk.specs.Finding.{outer_listing}
use Rattle.lazy_walk.specs.Leading.{IsOfChosen, list_behind, number_choice, AreOfChosen}
use Rattle.lazy_walk.proofs.OneWay.{chooses_list, chooses_group, chooses_whole, split}

-- WHERE LEVELS LEAD

-- the first of two places that are the same, and the others
pub heads : (a b : ℕ) (xs ys : List ℕ) → a ∷ xs ≡ b ∷ ys → (a ≡ b) × (xs ≡ ys)
heads a b xs ys e = (let h : a ≡ b = cc in h, let t : xs ≡ ys = cc in t)

module _ (docs : Documents) (ops : List Operator) where
  -- the levels behind those that lead to a tree go on in the list of the element that it is, or the place below ends at it
  abbrev pub GoOn : Reached → Piece → List LevelValue → List ℕ → List ℕ → Type 0
  GoOn there piece [] inside path = (path ≡ inside) × Ends docs ops there.row piece inside
  GoOn there piece (l ∷ ls) inside path =
      (v : ℕ) × (u : ℕ) × (inner : Listing) × (piece ≡ var_piece v) × (element_list (maker ops v) ≡ Some u) × (list_of ops u ≡ Some inner) × Leads docs ops there inner (l ∷ ls) inside path

  -- levels that lead to a place lead by the first of them to a tree, and by the others on from there
  pub record IsCut (here : Reached) (list : Listing) (levels : List LevelValue) (inside path : List ℕ) : Type 0 where
    pub front : List LevelValue
    pub behind : List LevelValue
    pub is : levels ≡ front ++ behind
    pub index : ℕ
    pub there : Reached
    pub piece : Piece
    pub enters : Enters docs ops here list front index there piece
    pub way : List ℕ
    pub place : path ≡ index ∷ way
    pub goes_on : GoOn there piece behind inside way

  -- without levels nothing is led to
  no_leads : {here : Reached} {list : Listing} {inside path : List ℕ} → Leads docs ops here list [] inside path → ⊥
  no_leads x = elim x [ ]

  -- what leads on by some levels goes on by them
  going : (there : Reached) (ls : List LevelValue) (inside path : List ℕ) (v u : ℕ) (inner : Listing) → element_list (maker ops v) ≡ Some u → list_of ops u ≡ Some inner → Leads docs ops there inner ls inside path → GoOn there (var_piece v) ls inside path
  going there [] inside path v u inner e i x = absurd (no_leads x)
  going there (l ∷ ls) inside path v u inner e i x = (v, u, inner, refl, e, i, x)

  pub cut : {here : Reached} {list : Listing} {ls : List LevelValue} {inside path : List ℕ} → Leads docs ops here list ls inside path → IsCut here list ls inside path
  cut (to_tree {there = there} {l = l} {j = j} {piece = piece} {p = p} pick ends) =
      record { front = l ∷ []; behind = []; is = refl; index = j; there = there; piece = piece; enters = by_one pick; way = p; place = refl; goes_on = (refl, ends) }
  cut (to_element {there = there} {inner = inner} {l = l} {ls = ls} {j = j} {v = v} {u = u} {p = p} {q = q} pick e i more) =
      record { front = l ∷ []; behind = ls; is = refl; index = j; there = there; piece = var_piece v; enters = by_one pick; way = q; place = refl; goes_on = going there ls p q v u inner e i more }
  cut {here = here} {inside = inside} (to_pieces {pieces = pieces} {inner = inner} {l = l} {v = v} {i = i} {q = q} get t lo more) =
      let x = cut more in
      let parts : (i ≡ x.index) × (q ≡ x.way) = heads i x.index q x.way x.place in
      record {
        front = l ∷ x.front;
        behind = x.behind;
        is = ap (λ (ls : List LevelValue). l ∷ ls) x.is;
        index = before_piece docs pieces here.row l.piece + x.index;
        there = x.there;
        piece = x.piece;
        enters = by_pieces get t lo x.enters;
        way = x.way;
        place = ap (λ (k : ℕ). (before_piece docs pieces here.row l.piece + k) ∷ q) parts.0 ∙ ap (λ (w : List ℕ). (before_piece docs pieces here.row l.piece + x.index) ∷ w) parts.1;
        goes_on = x.goes_on;
      }

-- THE LIST BEHIND LEVELS

-- the list in which levels go on behind those of some numbers, by what these choose
abbrev pub after_numbers : List Operator → Option Listing → List ℕ → Option Listing
after_numbers ops o [] = o
after_numbers ops None (n ∷ ns) = None
after_numbers ops (Some list) (n ∷ ns) = after_numbers ops (list_behind ops (number_choice ops list n)) ns

-- EVIDENCE BEHIND

module _ (docs : Documents) (ops : List Operator) where
  -- a piece that is a single tree is chosen as one
  chooses_tree : (pieces : List Piece) (n : ℕ) (x : Piece) → slice_get pieces n ≡ Some x → IsSingle ops x → number_choice ops (of_pieces pieces) n ≡ a_tree x
  chooses_tree pieces n (var_piece v) get single = ap (piece_choice ops []) get ∙ ap (value_choice v []) single
  chooses_tree pieces n (label_piece v) get single = ap (piece_choice ops []) get
  chooses_tree pieces n (text_piece label) get single = ap (piece_choice ops []) get

  -- levels to a tree go on in the list that the tree is
  pub entered_list : {here there : Reached} {list : Listing} {ls : List LevelValue} {j : ℕ} {piece : Piece} → Enters docs ops here list ls j there piece → after_numbers ops (Some list) (numbers_of ls) ≡ list_in ops piece
  entered_list (by_one (of_member {n = n} {keys = keys} {piece = x} {l = l} o m)) = ap (list_behind ops) (chooses_whole ops n keys x l.piece o)
  entered_list (by_one (of_piece {pieces = pieces} {l = l} {piece = x} get t single)) = ap (list_behind ops) (chooses_tree pieces l.piece x get single)
  entered_list (by_one (of_list_member {pieces = pieces} {v = v} {n = n} {keys = keys} {piece = x} {l = l} get lo m)) = ap (list_behind ops) (chooses_group ops pieces l.piece v n keys x get lo)
  entered_list (by_pieces {pieces = pieces} {inner = inner} {l = l} {ls = ls} {v = v} get t lo more) =
      ap (λ c. after_numbers ops (list_behind ops c) (numbers_of ls)) (chooses_list ops pieces inner l.piece v get lo) ∙ entered_list more

  -- the evidence behind that of levels to a tree is chosen from the tree's list on
  pub chosen_behind : {here there : Reached} {list : Listing} {ls : List LevelValue} {j : ℕ} {piece : Piece} → Enters docs ops here list ls j there piece → (behind : List LevelValue) (ms : List (Option Evidence))
      → AreOfChosen ops (Some list) (ls ++ behind) ms → AreOfChosen ops (list_in ops piece) behind (drop (length ls) ms)
  chosen_behind (by_one (of_member {n = n} {keys = keys} {piece = x} {l = l} o m)) behind ms h =
      let s = split ops (of_group n keys x) (a_member n keys x) l behind ms (chooses_whole ops n keys x l.piece o) h in
      subst (λ (es : List (Option Evidence)). AreOfChosen ops (list_in ops x) behind (drop 1 es)) (sym s.is) s.go_on
  chosen_behind (by_one (of_piece {pieces = pieces} {l = l} {piece = x} get t single)) behind ms h =
      let s = split ops (of_pieces pieces) (a_tree x) l behind ms (chooses_tree pieces l.piece x get single) h in
      subst (λ (es : List (Option Evidence)). AreOfChosen ops (list_in ops x) behind (drop 1 es)) (sym s.is) s.go_on
  chosen_behind (by_one (of_list_member {pieces = pieces} {v = v} {n = n} {keys = keys} {piece = x} {l = l} get lo m)) behind ms h =
      let s = split ops (of_pieces pieces) (a_member n keys x) l behind ms (chooses_group ops pieces l.piece v n keys x get lo) h in
      subst (λ (es : List (Option Evidence)). AreOfChosen ops (list_in ops x) behind (drop 1 es)) (sym s.is) s.go_on
  chosen_behind {piece = x} (by_pieces {pieces = pieces} {inner = inner} {l = l} {ls = ls} {v = v} get t lo more) behind ms h =
      let s = split ops (of_pieces pieces) (a_list_among inner) l (ls ++ behind) ms (chooses_list ops pieces inner l.piece v get lo) h in
      subst (λ (es : List (Option Evidence)). AreOfChosen ops (list_in ops x) behind (drop (suc (length ls)) es)) (sym s.is) (chosen_behind more behind s.others s.go_on)

-- THE EVIDENCE OF A MARK

module _ (ops : List Operator) where
  -- what a level chooses of a list, if anything, its number alone does
  number_alone : (list : Listing) (l : LevelValue) (c : Choice) → choice ops list l ≡ c → (c ≡ nothing → ⊥) → number_choice ops list l.piece ≡ c
  number_alone (of_group n keys piece) l c e f = e
  number_alone (of_pieces pieces) l c e f = by_places l.tuple (slice_get pieces l.piece) e
    where
      by_value : (v : ℕ) (p : List ℕ) (places : List (List ℕ)) (o : Option Listing) → value_choice v (p ∷ places) o ≡ c → value_choice v [] o ≡ c
      by_value v p places None e = absurd (f (sym e))
      by_value v p places (Some (of_pieces inner)) e = absurd (f (sym e))
      by_value v p places (Some (of_group n keys piece)) e = e

      by_places : (places : List (List ℕ)) (o : Option Piece) → piece_choice ops places o ≡ c → piece_choice ops [] o ≡ c
      by_places [] o e = e
      by_places (p ∷ places) None e = absurd (f (sym e))
      by_places (p ∷ places) (Some (label_piece v)) e = absurd (f (sym e))
      by_places (p ∷ places) (Some (text_piece label)) e = absurd (f (sym e))
      by_places (p ∷ places) (Some (var_piece v)) e = by_value v p places (list_of ops v) e

  -- where a first level is put before an end, that is there
  ended : (first : Option ℕ) (o : Option Ending) (e : Ending) → option_map (before first) o ≡ Some e → (d : Ending) × (o ≡ Some d) × (e.inputs ≡ first ∷ d.inputs)
  ended first None e h = cc
  ended first (Some d) e h = (d, refl, sym (ap (λ (x : Ending). x.inputs) (some_is (before first d) e h)))

  -- evidence with these operators is some with the first of them, and some with the others
  record HasFirst (ms : List (Option Evidence)) (first : Option ℕ) (others : List (Option ℕ)) : Type 0 where
    member : Option Evidence
    rest : List (Option Evidence)
    is : ms ≡ member ∷ rest
    op : option_map (λ (e : Evidence). e.op) member ≡ first
    ops_of_rest : member_ops rest ≡ others

  has_first : (ms : List (Option Evidence)) (first : Option ℕ) (others inputs : List (Option ℕ)) → member_ops ms ≡ inputs → inputs ≡ first ∷ others → HasFirst ms first others
  has_first [] first others inputs h e = (let z : ◌≡◌ {A = List (Option ℕ)} [] (first ∷ others) = h ∙ e in cc)
  has_first (m ∷ ms) first others inputs h e =
      let z : option_map (λ (e : Evidence). e.op) m ∷ member_ops ms ≡ first ∷ others = h ∙ e in
      let a : option_map (λ (e : Evidence). e.op) m ≡ first = cc in
      let b : member_ops ms ≡ others = cc in
      record { member = m; rest = ms; is = refl; op = a; ops_of_rest = b }

  -- evidence of an operator is of a member that is chosen of its bindings
  of_member_op : (n : ℕ) (m : Option Evidence) → option_map (λ (e : Evidence). e.op) m ≡ Some n → MatchOption m ⊥ (λ e. e.op ≡ n)
  of_member_op n None h = cc
  of_member_op n (Some e) h = some_is e.op n h

  -- without levels any evidence will do
  none_chosen : (o : Option Listing) (ms : List (Option Evidence)) → AreOfChosen ops o [] ms
  none_chosen None ms = tt
  none_chosen (Some list) ms = tt

  -- where no list is, any evidence will do
  abbrev Behind : List LevelValue → Type 0
  Behind ls = (there : Stand) (inner : Listing) (ms : List (Option Evidence)) (e : Ending) → ending ops there inner ls ≡ Some e → member_ops ms ≡ e.inputs → AreOfChosen ops (Some inner) ls ms

  -- the evidence behind a tree is of what the levels there choose
  tree_chosen : (ls : List LevelValue) → Behind ls → (here : Stand) (piece : Piece) (ms : List (Option Evidence)) (e : Ending) → tree_ending ops (λ there inner. ending ops there inner ls) here piece ls ≡ Some e → member_ops ms ≡ e.inputs
      → AreOfChosen ops (list_in ops piece) ls ms
  tree_chosen [] f here piece ms e h g = none_chosen (list_in ops piece) ms
  tree_chosen (l ∷ ls) f here piece ms e h g = by_list (list_in ops piece) h
    where
      by_list : (o : Option Listing) → option_and_then (λ inner. ending ops here inner (l ∷ ls)) o ≡ Some e → AreOfChosen ops o (l ∷ ls) ms
      by_list None h = tt
      by_list (Some inner) h = f here inner ms e h g

  -- where levels have an end, and the operators of evidence are those that it says, the evidence is of what the levels choose
  pub ending_chosen : (ls : List LevelValue) → Behind ls
  ending_chosen [] here list ms e h g = tt
  ending_chosen (l ∷ ls) here list ms e h g = by_choice (λ there inner ms e h g. ending_chosen ls there inner ms e h g) (choice ops list l) refl h
    where
      goes : (c : Choice) (first : Option ℕ) (d : Ending) → number_choice ops list l.piece ≡ c → e.inputs ≡ first ∷ d.inputs → ((m : Option Evidence) → option_map (λ (e : Evidence). e.op) m ≡ first → IsOfChosen c m)
          → ((rest : List (Option Evidence)) → member_ops rest ≡ d.inputs → AreOfChosen ops (list_behind ops c) ls rest) → AreOfChosen ops (Some list) (l ∷ ls) ms
      goes c first d z i own more =
          let x = has_first ms first d.inputs e.inputs g i in
          subst (λ (es : List (Option Evidence)). AreOfChosen ops (Some list) (l ∷ ls) es) (sym x.is)
          (subst (λ k. IsOfChosen k x.member) (sym z) (own x.member x.op), subst (λ k. AreOfChosen ops (list_behind ops k) ls x.rest) (sym z) (more x.rest x.ops_of_rest))

      by_choice : Behind ls → (c : Choice) → choice ops list l ≡ c → choice_ending ops (λ there inner. ending ops there inner ls) here l.tuple c ls ≡ Some e → AreOfChosen ops (Some list) (l ∷ ls) ms
      by_choice more nothing z h = cc
      by_choice more (a_tree piece) z h =
          let x = ended None (tree_ending ops (λ there inner. ending ops there inner ls) here piece ls) e h in
          goes (a_tree piece) None x.0 (number_alone list l (a_tree piece) z (λ f. cc)) x.2 (λ m f. tt) (λ rest f. tree_chosen ls more here piece rest x.0 x.1 f)
      by_choice more (a_member n keys piece) z h =
          let x = ended (Some n) (tree_ending ops (λ there inner. ending ops there inner ls) (record { op = n; places = l.tuple }) piece ls) e h in
          goes (a_member n keys piece) (Some n) x.0 (number_alone list l (a_member n keys piece) z (λ f. cc)) x.2 (λ m f. of_member_op n m f)
          (λ rest f. tree_chosen ls more (record { op = n; places = l.tuple }) piece rest x.0 x.1 f)
      by_choice more (a_list_among inner) z h =
          let x = ended None (ending ops here (of_pieces inner) ls) e h in
          goes (a_list_among inner) None x.0 (number_alone list l (a_list_among inner) z (λ f. cc)) x.2 (λ m f. tt) (λ rest f. more here (of_pieces inner) rest x.0 x.1 f)

  -- the evidence of a mark's levels is of what they choose from the outer element's list on
  pub text_chosen : (ls : List LevelValue) (ms : List (Option Evidence)) (e : Ending) → text_ending ops ls ≡ Some e → member_ops ms ≡ e.inputs → AreOfChosen ops (outer_listing ops) ls ms
  text_chosen ls ms e h g = by_outer (outer_of (last_or None ops)) h
    where
      by_outer : (o : Option (ℕ × ℕ)) → option_and_then (λ o. outer_ending ops o ls) o ≡ Some e → AreOfChosen ops (option_and_then (λ o. list_in ops (var_piece o.1)) o) ls ms
      by_outer None h = tt
      by_outer (Some o) h = tree_chosen ls (ending_chosen ls) (record { op = o.0; places = [] }) (var_piece o.1) ms e h g
