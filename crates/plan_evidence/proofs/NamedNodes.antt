-- What a text names is a node of the plan's document.
use Rattle.std.proofs.Common.{◌≡◌, ℕ, ◌+◌, ◌<◌, true, List, [], ◌∷◌, refl, sym, ap, subst, ◌∙◌, arith, length}
use Rattle.std.specs.Prelude.{Some, slice_get, is_some}
use Rattle.std.specs.List.{AllByRecursion}
use Rattle.mix_base.proofs.Choices.{some_is, none_some}
use Rattle.mix_base.proofs.Firsts.{each_filter, each_weaker}
use Rattle.mix_base.specs.Events.{without_skips, found}
use Rattle.mix_tree.specs.Forest.{Forest, LabelledTree, none, tree, from, joined, alone}
use Rattle.mix_tree.specs.Nodes.{Documents, label_at, kids_at}
use Rattle.mix_tree.specs.Place.{has_place}
use Rattle.mix_tree.specs.declared.var.Key.{Key}
use Rattle.node_text.specs.Node.{LevelValue}
use Rattle.plan_core.specs.declared.plan.Piece.{Piece}
use Rattle.plan_core.specs.declared.plan.Piece.TheVariants.{Var as var_piece, LabelOf as label_piece, Text as text_piece}
use Rattle.plan_core.specs.Events.{events, first_row, TolledIsDocument}
use Rattle.plan_core.specs.Plans.{PlanValue}
use Rattle.plan_core.specs.Tolled.{plain}
use Rattle.plan_core.specs.TolledRows.{TolledRow, TolledValue, of_source, element, trees, tolled_value, key_values, same_values, row_node}
use Rattle.plan_core.specs.Typed.{IsTyped}
use Rattle.plan_core.specs.Valid.{Kind, a_node, an_element, a_list, kinds, IsPiece, IsSinglePiece, IsValid}
use Rattle.plan_core.proofs.Typed.{valid_is_typed}
use Rattle.plan_evidence.specs.Held.{held}
use Rattle.plan_evidence.specs.Named.{maker, Listing, of_pieces, of_group, element_list, list_of, before_piece, members, Reached, Picks, of_member, of_piece, of_list_member, IsBelow, Ends, Leads, to_tree, to_element, to_pieces, NamesBy, HasPlaceIn, NamesNodes}
use Rattle.plan_evidence.proofs.Aparts.{at_index, each_without}
use Rattle.plan_evidence.proofs.Makers.{number_of, element_no_list}
use Rattle.plan_evidence.proofs.Outers.{outer_is}
use Rattle.plan_evidence.proofs.Shown.{shown, shown_by, before_shown, list_trees, IsLow, IsElementIn, IsIn, IsRow, IsListOf}
use Rattle.plan_evidence.proofs.Sounds.{all_sound, single_piece}
use Rattle.plan_evidence.proofs.TreeLists.{IsOne, AreOnes, place_label, label_member, label_one}

-- whether there is a place below a tree isn't told by its label
pub any_label : (l m : List ℕ) (f : Forest) (q : List ℕ) → has_place (tree l f none) q ≡ has_place (tree m f none) q
any_label l m f [] = refl
any_label l m f (i ∷ q) = refl

module _ (p : PlanValue) (valid : IsValid p) (typed : IsTyped p.ops) (docs : Documents) where
  -- a list's value shows what its listing says, and that uses what is bound
  pub record ShowsList (n : ℕ) (row : TolledRow) (v : ℕ) (list : Listing) : Type 0 where
    pub shows : shown_by docs (tolled_value row v) ≡ list_trees docs p.ops list row
    pub is_listed : IsListOf docs p.ops (number_of p.ops v) n list

  -- the value of a variable that holds a list shows what its listing says
  pub list_value : (n : ℕ) (row : TolledRow) → IsRow docs p.ops n row → (v : ℕ) (list : Listing) → IsPiece (kinds p.ops n) (var_piece v) → list_of p.ops v ≡ Some list → ShowsList n row v list
  list_value n row sound v list bound e = by_kind bound.0 (sound v bound.0 bound.1)
    where
      by_kind : (k : Kind) → IsIn docs p.ops (kinds p.ops n) (held p.ops n) row v k → ShowsList n row v list
      by_kind a_node h = none_some list (sym h.no_list ∙ e)
      by_kind an_element h = none_some list (sym (element_no_list (maker p.ops v) h.inner h.is_inner) ∙ e)
      by_kind a_list h =
          let same : h.listing ≡ list = some_is h.listing list (sym h.is_listing ∙ e) in
          record {
            shows = ap (shown_by docs) h.is_value ∙ h.shows ∙ ap (λ z. list_trees docs p.ops z row) same;
            is_listed = subst (IsListOf docs p.ops (number_of p.ops v) n) same h.is_listed;
          }

  -- the value of a variable that an operator makes as an element is one
  pub element_value : (n : ℕ) (row : TolledRow) → IsRow docs p.ops n row → (v u : ℕ) → IsPiece (kinds p.ops n) (var_piece v) → element_list (maker p.ops v) ≡ Some u → IsElementIn docs p.ops (kinds p.ops n) row v
  element_value n row sound v u bound e = by_kind bound.0 (sound v bound.0 bound.1)
    where
      by_kind : (k : Kind) → IsIn docs p.ops (kinds p.ops n) (held p.ops n) row v k → IsElementIn docs p.ops (kinds p.ops n) row v
      by_kind a_node h = none_some u (sym h.no_element ∙ e)
      by_kind an_element h = h
      by_kind a_list h = none_some h.listing (sym (element_no_list (maker p.ops v) u e) ∙ h.is_listing)

  -- a single piece shows one tree
  pub one_shown : (n : ℕ) (q : Piece) → IsSinglePiece (kinds p.ops n) q → (row : TolledRow) → IsRow docs p.ops n row → IsOne (shown docs row q)
  one_shown n (var_piece v) h row sound = by_kind h.0 h.2 (sound v h.0 h.1)
    where
      by_kind : (k : Kind) → (k ≡ a_list → ⊥) → IsIn docs p.ops (kinds p.ops n) (held p.ops n) row v k → IsOne (shown_by docs (tolled_value row v))
      by_kind a_node s x = (label_at docs x.node, kids_at docs x.node, ap (shown_by docs) x.is_value)
      by_kind an_element s x = (x.label, plain x.kids, ap (shown_by docs) x.is_value)
      by_kind a_list s x = absurd (s refl)
  one_shown n (label_piece v) h row sound = (label_at docs (row_node row v), none, refl)
  one_shown n (text_piece label) h row sound = (label, none, refl)

  -- each value of each member of a group is as its kind says
  pub members_sound : (n : ℕ) → n < length p.ops → (keys : List Key) (row : TolledRow) → AllByRecursion (IsRow docs p.ops n) (members docs p.ops n keys row)
  members_sound n b keys row =
      each_filter (IsRow docs p.ops n) (λ r. same_values (key_values docs keys row) (key_values docs keys r)) (without_skips (events docs p.ops n)) (each_without (IsRow docs p.ops n) (events docs p.ops n) (all_sound p valid typed docs n b))

  -- a group's piece shows one tree over each of its members
  pub members_ones : (n : ℕ) → n < length p.ops → (keys : List Key) (row : TolledRow) (q : Piece) → IsSinglePiece (kinds p.ops n) q → AreOnes (λ r. shown docs r q) (members docs p.ops n keys row)
  members_ones n b keys row q h = each_weaker (IsRow docs p.ops n) (λ r. IsOne (shown docs r q)) (one_shown n q h) (members docs p.ops n keys row) (members_sound n b keys row)

  -- PICKED TREES

  -- what a level picks of a list: a piece over a binding of an operator, whose places have the labels of those of the list from the tree's index on
  pub record IsPicked (here : Reached) (list : Listing) (j : ℕ) (there : Reached) (q : Piece) : Type 0 where
    pub number : ℕ
    pub within : number < length p.ops
    pub sound : IsRow docs p.ops number there.row
    pub bound : IsPiece (kinds p.ops number) q
    pub labels : (r : List ℕ) → has_place (shown docs there.row q) r ≡ true
        → place_label (from j (list_trees docs p.ops list here.row)) r ≡ place_label (shown docs there.row q) r

  -- a piece's places have the labels of those of the pieces' list, behind the trees of the pieces before it
  pub piece_labels : (row : TolledRow) (pieces : List Piece) (k : ℕ) (q : Piece) (i : ℕ) (r : List ℕ) → slice_get pieces k ≡ Some q → has_place (from i (shown docs row q)) r ≡ true
      → place_label (from (before_piece docs pieces row k + i) (joined (shown docs row) pieces)) r ≡ place_label (from i (shown docs row q)) r
  piece_labels row pieces k q i r e h =
      ap (λ c. place_label (from (c + i) (joined (shown docs row) pieces)) r) (before_shown docs row pieces k) ∙ label_member (shown docs row) pieces k q i r e h

  -- a piece's places are those of the pieces' list, behind the trees of the pieces before it
  pub piece_places : (row : TolledRow) (pieces : List Piece) (k : ℕ) (q : Piece) (i : ℕ) (r : List ℕ) → slice_get pieces k ≡ Some q → has_place (from i (shown docs row q)) r ≡ true
      → has_place (from (before_piece docs pieces row k + i) (joined (shown docs row) pieces)) r ≡ true
  piece_places row pieces k q i r e h = ap is_some (piece_labels row pieces k q i r e h) ∙ h

  -- what a level picks of a list is there
  pub picked : {here there : Reached} {list : Listing} {l : LevelValue} {j : ℕ} {q : Piece} (n m : ℕ) → n < length p.ops → IsRow docs p.ops n here.row → IsListOf docs p.ops m n list → Picks docs p.ops here list l j there q
      → IsPicked here list j there q
  picked {here = here} {there = there} n m b sound g (of_member {n = i} {j = j} {keys = keys} {piece = q} z x) = record {
    number = i;
    within = g.within;
    sound = at_index (IsRow docs p.ops i) (members docs p.ops i keys here.row) j there.row (members_sound i g.within keys here.row) x.at;
    bound = single_piece p valid typed docs (kinds p.ops i) q g.single;
    labels = λ r h. label_one (λ s. shown docs s q) (members docs p.ops i keys here.row) j there.row r (members_ones i g.within keys here.row q g.single) x.at h;
  }
  picked {here = here} n m b sound g (of_piece {pieces = pieces} {l = l} {piece = q} e t s) = record {
    number = n;
    within = b;
    sound = sound;
    bound = (at_index (λ q. IsPiece (kinds p.ops n) q × IsLow docs p.ops m q) pieces l.piece q g e).0;
    labels = λ r h.
        (let z : before_piece docs pieces here.row l.piece + 0 ≡ before_piece docs pieces here.row l.piece = omega arith in
        sym (ap (λ c. place_label (from c (joined (shown docs here.row) pieces)) r) z) ∙ piece_labels here.row pieces l.piece q 0 r e h);
  }
  picked {here = here} {there = there} n m b sound g (of_list_member {pieces = pieces} {v = v} {n = i} {j = j} {keys = keys} {piece = q} {l = l} e t x) =
      let bound = (at_index (λ q. IsPiece (kinds p.ops n) q × IsLow docs p.ops m q) pieces l.piece (var_piece v) g e).0 in
      let list = list_value n here.row sound v (of_group i keys q) bound t in
      let group = list.is_listed in
      record {
        number = i;
        within = group.within;
        sound = at_index (IsRow docs p.ops i) (members docs p.ops i keys here.row) j there.row (members_sound i group.within keys here.row) x.at;
        bound = single_piece p valid typed docs (kinds p.ops i) q group.single;
        labels = λ r h.
            (let ones = members_ones i group.within keys here.row q group.single in
            let own = label_one (λ s. shown docs s q) (members docs p.ops i keys here.row) j there.row r ones x.at h in
            let shows = ap (λ f. place_label (from j f) r) list.shows in
            piece_labels here.row pieces l.piece (var_piece v) j r e (ap is_some (shows ∙ own) ∙ h) ∙ shows ∙ own);
      }

  -- the places of what a level picks are those of the list from the tree's index on
  pub picked_place : (here : Reached) (list : Listing) (j : ℕ) (there : Reached) (q : Piece) → IsPicked here list j there q → (r : List ℕ) → has_place (shown docs there.row q) r ≡ true
      → has_place (from j (list_trees docs p.ops list here.row)) r ≡ true
  picked_place here list j there q x r h = ap is_some (x.labels r h) ∙ h

  -- where levels end at a value, the place below is there
  value_ends : (x : TolledValue) (q : List ℕ) → IsBelow docs p.ops x q → has_place (shown_by docs x) q ≡ true
  value_ends (of_source n) q h = h
  value_ends (element label kids) q h = ap (λ r. has_place (tree label (plain kids) none) r) h
  value_ends (trees f) q h = absurd h

  -- where levels end at a piece, the place below is there
  pub piece_ends : (row : TolledRow) (x : Piece) (q : List ℕ) → Ends docs p.ops row x q → has_place (shown docs row x) q ≡ true
  piece_ends row (var_piece v) q h = value_ends (tolled_value row v) q h
  piece_ends row (label_piece v) q h = ap (λ r. has_place (tree (label_at docs (row_node row v)) none none) r) h
  piece_ends row (text_piece label) q h = ap (λ r. has_place (tree label none none) r) h

  -- the trees of a list have a node at a place, counted from the list
  abbrev pub HasIn : Forest → List ℕ → Type 0
  HasIn f q = has_place (tree [] f none) q ≡ true

  -- below an element are the places of its list
  pub element_places : (n : ℕ) (row : TolledRow) → IsRow docs p.ops n row → (v : ℕ) (x : IsElementIn docs p.ops (kinds p.ops n) row v) (list : Listing) → list_of p.ops x.inner ≡ Some list → (q : List ℕ)
      → has_place (shown docs row (var_piece v)) q ≡ has_place (tree [] (list_trees docs p.ops list row) none) q
  element_places n row sound v x list e q =
      ap (λ z. has_place (shown_by docs z) q) x.is_value ∙ any_label x.label [] (plain x.kids) q
      ∙ ap (λ f. has_place (tree [] f none) q) (x.shows ∙ (list_value n row sound x.inner list (a_list, x.bound) e).shows)

  -- where levels and a place below lead in a list, there is a node
  pub leads_there : {here : Reached} {list : Listing} {ls : List LevelValue} {inside q : List ℕ} (n m : ℕ) → n < length p.ops → IsRow docs p.ops n here.row → IsListOf docs p.ops m n list → Leads docs p.ops here list ls inside q
      → HasIn (list_trees docs p.ops list here.row) q
  leads_there {here = here} {list = list} n m b sound g (to_tree {there = there} {j = j} {piece = x} {p = q} y e) = picked_place here list j there x (picked n m b sound g y) q (piece_ends there.row x q e)
  leads_there {here = here} {list = outside} n m b sound g (to_element {there = there} {inner = inner} {j = j} {v = v} {u = u} {q = q} y f l r) =
      let c = picked n m b sound g y in
      let x = element_value c.number there.row c.sound v u c.bound f in
      let same : u ≡ x.inner = some_is u x.inner (sym f ∙ x.is_inner) in
      let is : list_of p.ops x.inner ≡ Some inner = ap (list_of p.ops) (sym same) ∙ l in
      let list = list_value c.number there.row c.sound x.inner inner (a_list, x.bound) is in
      picked_place here outside j there (var_piece v) c q
      (element_places c.number there.row c.sound v x inner is q ∙ leads_there c.number (number_of p.ops x.inner) c.within c.sound list.is_listed r)
  leads_there {here = here} {ls = l ∷ ls} n m b sound g (to_pieces {pieces = pieces} {inner = inner} {v = v} {i = i} {q = q} e t f r) =
      let bound = (at_index (λ q. IsPiece (kinds p.ops n) q × IsLow docs p.ops m q) pieces l.piece (var_piece v) g e).0 in
      let list = list_value n here.row sound v (of_pieces inner) bound f in
      piece_places here.row pieces l.piece (var_piece v) i q e
      (ap (λ z. has_place (from i z) q) list.shows ∙ leads_there n (number_of p.ops v) b sound list.is_listed r)

  -- THE DOCUMENT

  module _ (tolled : TolledIsDocument p) where
    -- what levels and a place below name is a node of the document
    by_levels : (ls : List LevelValue) (inside a : List ℕ) → NamesBy docs p.ops ls inside a → HasPlaceIn docs p.ops a
    by_levels [] inside a x =
        let o = outer_is p valid typed tolled docs in
        let t : LabelledTree = record { label = o.is_element.label; kids = plain o.is_element.kids } in
        (t, o.is_document, ap (has_place (alone t)) x.1)
    by_levels (l ∷ ls) inside a x =
        let o = outer_is p valid typed tolled docs in
        let t : LabelledTree = record { label = o.is_element.label; kids = plain o.is_element.kids } in
        let r = x.is_outer in
        let pairs : ◌≡◌ {A = ℕ × ℕ} (o.input, o.outer) (r.input, r.outer) = some_is (o.input, o.outer) (r.input, r.outer) (sym o.is_outer ∙ r.is_outer) in
        let input : o.input ≡ r.input = ap (λ z. z.0) pairs in
        let outer : o.outer ≡ r.outer = ap (λ z. z.1) pairs in
        let row : first_row (found (events docs p.ops o.input)) ≡ x.here.row = ap (λ n. first_row (found (events docs p.ops n))) input ∙ sym r.is_row in
        let list : o.is_element.inner ≡ r.list = some_is o.is_element.inner r.list (sym o.is_element.is_inner ∙ ap (λ v. element_list (maker p.ops v)) outer ∙ r.is_list) in
        let is : list_of p.ops o.is_element.inner ≡ Some x.inner = ap (list_of p.ops) list ∙ r.is_inner in
        let first : TolledRow = first_row (found (events docs p.ops o.input)) in
        let shows = list_value o.input first o.sound o.is_element.inner x.inner (a_list, o.is_element.bound) is in
        let kids : plain o.is_element.kids ≡ list_trees docs p.ops x.inner x.here.row = o.is_element.shows ∙ shows.shows ∙ ap (list_trees docs p.ops x.inner) row in
        let there = leads_there o.input (number_of p.ops o.is_element.inner) o.within (subst (IsRow docs p.ops o.input) row o.sound) shows.is_listed x.leads in
        (t, o.is_document, ap (λ f. has_place (tree o.is_element.label f none) a) kids ∙ any_label o.is_element.label [] (list_trees docs p.ops x.inner x.here.row) a ∙ there)

-- what a text names is a node of a valid plan's document, where that is its document with tolls, without them
pub names_nodes : ((p : PlanValue) → TolledIsDocument p) → NamesNodes
names_nodes tolled p valid docs d a x = by_levels p valid (valid_is_typed p valid) docs (tolled p) d.levels d.inside a x
