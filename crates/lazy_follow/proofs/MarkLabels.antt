-- What a mark shows has the label of the node that its text names.
use Rattle.std.proofs.Common.{◌≡◌, ℕ, true, List, [], ◌∷◌, Option, Some, None, refl, sym, ap, subst, ◌∙◌, arith}
use Rattle.std.specs.Prelude.{IsTrue, is_some, option_and_then, option_map}
use Rattle.mix_base.proofs.Choices.{some_is, none_some}
use Rattle.mix_base.specs.Events.{found}
use Rattle.mix_tree.specs.Forest.{Forest, LabelledTree, none, tree, alone, first_label, first_tree, from}
use Rattle.mix_tree.specs.Nodes.{Documents, Node, label_of_first, label_at, kids_at}
use Rattle.mix_tree.specs.Place.{trees_at, has_place, tree_at}
use Rattle.mix_tree.proofs.Places.{trees_at-append}
use Rattle.node_text.specs.Node.{LevelValue}
use Rattle.plan_core.specs.ByNumber.{op_at}
use Rattle.plan_core.specs.declared.plan.Piece.{Piece}
use Rattle.plan_core.specs.declared.plan.Piece.TheVariants.{Var as var_piece, LabelOf as label_piece, Text as text_piece}
use Rattle.plan_core.specs.Events.{events, first_row, visited, TolledIsDocument}
use Rattle.plan_core.specs.PlanMade.{plan_value}
use Rattle.plan_core.specs.Plans.{Operator, source, get_descendants, join, over, tuple_destroy, PlanValue, document}
use Rattle.plan_core.specs.Unary.{select, order_by, project, group_by, concatenate, create_element}
use Rattle.plan_core.specs.Shapes.{shape_of, shape_at}
use Rattle.plan_core.specs.Tolled.{plain}
use Rattle.plan_core.specs.TolledRows.{TolledRow, TolledValue}
use Rattle.plan_core.specs.Typed.{IsTyped}
use Rattle.plan_core.specs.Valid.{Kind, a_node, an_element, a_list, kinds, IsSinglePiece, IsValid}
use Rattle.plan_core.proofs.Typed.{valid_is_typed}
use Rattle.plan_evidence.specs.Held.{held, AreOf, UsesHeld}
use Rattle.plan_evidence.specs.Named.{maker, Listing, of_pieces, element_list, list_of, Reached, IsBelow, Ends, Leads, to_tree, to_element, to_pieces, LeadsFromOuter, NamesBy}
use Rattle.plan_evidence.proofs.NamedNodes.{list_value, element_value, element_places, leads_there, piece_ends, piece_labels, picked as picked_tree}
use Rattle.plan_evidence.proofs.Outers.{outer_is}
use Rattle.plan_evidence.proofs.Shown.{element_label, shown, shown_by, list_trees, IsElementIn, IsIn, IsRow}
use Rattle.plan_evidence.proofs.TreeLists.{place_label}
use Rattle.plan_forms.specs.Forms.{is_text, label_in, text_of}
use Rattle.lazy_plan.specs.Bench.{BenchState, documents, node_at, ops_of}
use Rattle.lazy_follow.specs.declared.evidence.Evidence.{Evidence}
use Rattle.lazy_follow.specs.declared.mark.Shown.{Shown}
use Rattle.lazy_follow.specs.declared.mark.Shown.TheVariants.{Whole, Leaf, Element, Text}
use Rattle.lazy_follow.specs.Following.{a_list_among, list_in, Stand, nodes_at, Ending, before, tree_ending, ending, outer_ending, text_ending}
use Rattle.lazy_follow.specs.Marks.{IsShown, node_under, ShowsBelow, shown_label, IsEnd, HasEnd, MarksShow}
use Rattle.lazy_follow.proofs.Endings.{element_lists}
use Rattle.lazy_follow.proofs.FollowedLeads.{no_root, piece_bound}
use Rattle.lazy_follow.proofs.FromOuter.{ends_there}
use Rattle.lazy_follow.proofs.LeadsFollowed.{picked, among_choice, from_outer}
use Rattle.lazy_follow.proofs.ReachedRows.{IsAt, IsKnown, list_known, inner_known, node_there, label_given}
use Rattle.lazy_follow.proofs.ToldLists.{IsToldPiece}
use Rattle.lazy_follow.proofs.Trails.{choice_ends}

-- LABELS BELOW A NODE

-- where there is a first tree, its label is that of the first
first_there : (f : Forest) → is_some (first_label f) ≡ true → first_label f ≡ Some (label_of_first f)
first_there none h = (let z : ⊥ = cc in absurd z)
first_there (tree label kids rest) h = refl

-- the label at a place below a node, which is there, is that of the node there
node_label : (docs : Documents) (n : Node) (q : List ℕ) → has_place (tree (label_at docs n) (kids_at docs n) none) q ≡ true
    → place_label (tree (label_at docs n) (kids_at docs n) none) q ≡ Some (label_at docs (node_under n q))
node_label docs n [] h = sym (ap (λ (f : Forest). Some (label_of_first f)) (trees_at-append (tree [] (docs n.source) none) n.place []))
node_label docs n (i ∷ q) h =
    let top : Forest = tree [] (docs n.source) none in
    first_there (trees_at (trees_at top n.place) (i ∷ q)) h ∙ sym (ap (λ (f : Forest). Some (label_of_first f)) (trees_at-append top n.place (i ∷ q)))

-- a list of trees whose first has a label has a first tree with that label
labelled : (f : Forest) (label : List ℕ) → first_label f ≡ Some label → (u : LabelledTree) × (first_tree f ≡ Some u) × (label ≡ u.label)
labelled none label e = none_some label e
labelled (tree l kids rest) label e = (record { label = l; kids = kids }, refl, sym (some_is l label e))

-- the label that an operator gives its elements is that of its shape
shape_label : (o : Operator) → element_label (shape_of o) ≡ label_in o
shape_label (source s out) = refl
shape_label (get_descendants i start path out) = refl
shape_label (join l r tests) = refl
shape_label (over i (select test)) = refl
shape_label (over i (order_by u desc)) = refl
shape_label (over i (project keys)) = refl
shape_label (over i (group_by [] piece out)) = refl
shape_label (over i (group_by (k ∷ keys) piece out)) = refl
shape_label (over i (concatenate pieces out)) = refl
shape_label (over i (create_element label list out)) = refl
shape_label (tuple_destroy i made) = refl

-- the variable of a piece
abbrev variable : Piece → ℕ
variable (var_piece v) = v
variable (label_piece v) = v
variable (text_piece label) = 0

-- the label at a place below a tree is that at the same place below another with the same children
below_root : (place : List ℕ) → (place ≡ [] → ⊥) → (label : List ℕ) (f g : Forest) → f ≡ g → place_label (tree label f none) place ≡ place_label (tree [] g none) place
below_root [] some label f g e = absurd (some refl)
below_root (i ∷ q) some label f g e = ap (λ (f : Forest). place_label (from i f) q) e

-- no levels lead to no tree
some_levels : {docs : Documents} {ops : List Operator} {here : Reached} {list : Listing} {ls : List LevelValue} {q place : List ℕ} → Leads docs ops here list ls q place → ls ≡ [] → ⊥
some_levels (to_tree y e) z = cc
some_levels (to_element y f g r) z = cc
some_levels (to_pieces e t g r) z = cc

module _ (p : PlanValue) (valid : IsValid p) (typed : IsTyped p.ops) (uses : UsesHeld p.ops) (docs : Documents) where
  -- WHERE LEVELS END

  -- levels end at a tree over a binding that was reached, and the label at the place to which they lead with a place below is that at the place below the tree
  record IsEndAt (s : Stand) (row : TolledRow) (list : Listing) (ls : List LevelValue) (q place : List ℕ) : Type 0 where
    end : Ending
    end_row : TolledRow
    at : IsAt p valid typed uses docs end.stand end_row
    single : IsSinglePiece (kinds p.ops end.stand.op) end.piece
    told : IsToldPiece p valid typed docs end.stand.op end.piece
    is_end : ending p.ops s list ls ≡ Some end
    below : Ends docs p.ops end_row end.piece q
    label : place_label (tree [] (list_trees docs p.ops list row) none) place ≡ place_label (shown docs end_row end.piece) q

  -- levels into the list of an element end where they do in that list
  element_ends : (t : Stand) (v u : ℕ) (inner : Listing) (ls : List LevelValue) → (ls ≡ [] → ⊥) → element_list (maker p.ops v) ≡ Some u → list_of p.ops u ≡ Some inner
      → tree_ending p.ops (λ there x. ending p.ops there x ls) t (var_piece v) ls ≡ ending p.ops t inner ls
  element_ends t v u inner [] some f g = absurd (some refl)
  element_ends t v u inner (l ∷ ls) some f g =
      let e : list_in p.ops (var_piece v) ≡ Some inner = ap (option_and_then (list_of p.ops)) f ∙ g in
      ap (option_and_then (λ (x : Listing). ending p.ops t x (l ∷ ls))) e

  -- below an element are the labels of its list
  element_labels : (n : ℕ) (row : TolledRow) → IsRow docs p.ops n row → (v : ℕ) (x : IsElementIn docs p.ops (kinds p.ops n) row v) (list : Listing) → list_of p.ops x.inner ≡ Some list
      → (place : List ℕ) → (place ≡ [] → ⊥) → place_label (shown docs row (var_piece v)) place ≡ place_label (tree [] (list_trees docs p.ops list row) none) place
  element_labels n row sound v x list e [] some = absurd (some refl)
  element_labels n row sound v x list e (i ∷ q) some =
      ap (λ (z : TolledValue). place_label (shown_by docs z) (i ∷ q)) x.is_value
      ∙ ap (λ (f : Forest). place_label (from i f) q) (x.shows ∙ (list_value p valid typed docs n row sound x.inner list (a_list, x.bound) e).shows)

  -- what leads from a list to a place has its label
  ends_at : {here : Reached} {list : Listing} {ls : List LevelValue} {q place : List ℕ} (s : Stand) → IsAt p valid typed uses docs s here.row → AreOf docs p.ops s.op here.nodes here.row
      → IsKnown p valid typed uses docs s.op list → Leads docs p.ops here list ls q place → IsEndAt s here.row list ls q place
  ends_at s at of known (to_tree {there = there} {piece = x} {p = q} pick ends) =
      let r = picked p valid typed uses docs [] q s at of known pick in
      let b = at.early in
      let c = picked_tree p valid typed docs s.op known.below (omega (arith, b)) at.sound known.listed pick in
      record {
        end = record { inputs = r.input ∷ []; stand = r.stand; piece = x };
        end_row = there.row;
        at = r.at;
        single = r.single;
        told = r.told;
        is_end = sym r.ends;
        below = ends;
        label = c.labels q (piece_ends p valid typed docs there.row x q ends);
      }
  ends_at s at of known (to_element {there = there} {inner = inner} {ls = ls} {v = v} {u = u} {p = q} {q = place} pick f g leads) =
      let r = picked p valid typed uses docs ls q s at of known pick in
      let b = at.early in
      let d = r.at.early in
      let n : ℕ = r.stand.op in
      let c = picked_tree p valid typed docs s.op known.below (omega (arith, b)) at.sound known.listed pick in
      let k = inner_known p valid typed uses docs n v u (omega (arith, d)) there.row r.at.sound (r.single.0, r.single.1) f inner g in
      let e = ends_at r.stand r.at r.of k leads in
      let x = element_value p valid typed docs n there.row r.at.sound v u (r.single.0, r.single.1) f in
      let is : list_of p.ops x.inner ≡ Some inner = ap (list_of p.ops) (sym (some_is u x.inner (sym f ∙ x.is_inner))) ∙ g in
      let has = element_places p valid typed docs n there.row r.at.sound v x inner is place ∙ leads_there p valid typed docs n k.below (omega (arith, d)) r.at.sound k.listed leads in
      let some : place ≡ [] → ⊥ = λ z. no_root (subst (Leads docs p.ops there inner ls q) z leads) in
      record {
        end = before r.input e.end;
        end_row = e.end_row;
        at = e.at;
        single = e.single;
        told = e.told;
        is_end = sym r.ends ∙ ap (option_map (before r.input)) (element_ends r.stand v u inner ls (some_levels leads) f g ∙ e.is_end);
        below = e.below;
        label = c.labels place has ∙ element_labels n there.row r.at.sound v x inner is place some ∙ e.label;
      }
  ends_at {here = here} s at of known (to_pieces {pieces = pieces} {inner = inner} {l = l} {ls = ls} {v = v} {i = i} {p = q} {q = place} e t g leads) =
      let b = at.early in
      let bound = piece_bound p valid typed uses docs s pieces known l.piece (var_piece v) e in
      let k = list_known p valid typed uses docs s.op v (omega (arith, b)) here.row at.sound bound (of_pieces inner) g in
      let r = ends_at s at of k leads in
      let list = list_value p valid typed docs s.op here.row at.sound v (of_pieces inner) bound g in
      let has = leads_there p valid typed docs s.op k.below (omega (arith, b)) at.sound k.listed leads in
      let shows : place_label (from i (shown docs here.row (var_piece v))) place ≡ place_label (from i (list_trees docs p.ops (of_pieces inner) here.row)) place =
      ap (λ (f : Forest). place_label (from i f) place) list.shows in
      record {
        end = before None r.end;
        end_row = r.end_row;
        at = r.at;
        single = r.single;
        told = r.told;
        is_end =
            sym (choice_ends docs p.ops s (of_pieces pieces) l ls q (a_list_among inner) (among_choice p valid typed uses docs pieces inner l v e t g))
            ∙ ap (option_map (before None)) r.is_end;
        below = r.below;
        label = piece_labels p valid typed docs here.row pieces l.piece (var_piece v) i place e (ap is_some shows ∙ has) ∙ shows ∙ r.label;
      }

module _ (st : BenchState) (valid : IsValid (plan_value st.plan)) (typed : IsTyped (ops_of st)) (uses : UsesHeld (ops_of st)) where
  -- the documents of the sources
  abbrev docs : Documents
  docs = documents st

  module _ (s : Stand) (row : TolledRow) (at : IsAt (plan_value st.plan) valid typed uses docs s row) (q : List ℕ) where
    -- WHAT IS SHOWN

    -- the nodes that the places of a stand give
    abbrev nodes : ℕ → Node
    nodes = nodes_at docs (ops_of st) s

    -- the label at the place below the tree of a piece
    abbrev Has : Piece → List ℕ → Type 0
    Has x label = place_label (shown docs row x) q ≡ Some label

    -- a variable's value is of a kind that is no list, and as that says
    abbrev IsOfKind : ℕ → Kind → Type 0
    IsOfKind v k = (kinds (ops_of st) s.op v ≡ Some k) × (k ≡ a_list → ⊥) × IsIn docs (ops_of st) (kinds (ops_of st) s.op) (held (ops_of st) s.op) row v k

    -- a node below a variable's node has the label at the place below it
    node_shown : (v u : ℕ) → v ≡ u → (k : Kind) → IsOfKind v k → IsToldPiece (plan_value st.plan) valid typed docs s.op (var_piece v) → Ends docs (ops_of st) row (var_piece v) q
        → element_list (maker (ops_of st) u) ≡ None → (node : Node) → node ≡ node_under (nodes u) q → Has (var_piece v) (label_at docs node)
    node_shown v u same a_node x told ends bare node is =
        let y = x.2 in
        let has = subst (λ (z : TolledValue). IsBelow docs (ops_of st) z q) y.is_value ends in
        ap (λ (z : TolledValue). place_label (shown_by docs z) q) y.is_value ∙ node_label docs y.node q has
        ∙ ap (λ (n : Node). Some (label_at docs (node_under n q))) (sym (node_there (plan_value st.plan) valid typed uses docs s row at v x.0 told y.node y.is_value))
        ∙ ap (λ (w : ℕ). Some (label_at docs (node_under (nodes w) q))) same ∙ ap (λ (n : Node). Some (label_at docs n)) (sym is)
    node_shown v u same an_element x told ends bare node is =
        let y = x.2 in
        none_some y.inner (sym bare ∙ sym (ap (λ (w : ℕ). element_list (maker (ops_of st) w)) same) ∙ y.is_inner)
    node_shown v u same a_list x told ends bare node is = absurd (x.1 refl)

    -- an element has the label of the operator that makes it
    element_shown : (v u : ℕ) → v ≡ u → (k : Kind) → IsOfKind v k → q ≡ [] → (n : ℕ) → maker (ops_of st) u ≡ shape_at (ops_of st) n → IsShown st (Element n)
        → Has (var_piece v) (label_in (op_at (ops_of st) n))
    element_shown v u same a_node x empty n made there =
        let y = x.2 in
        let l = element_lists (op_at (ops_of st) n) there.1 in
        none_some l.0 (sym y.no_element ∙ ap (λ (w : ℕ). element_list (maker (ops_of st) w)) same ∙ ap element_list made ∙ l.1)
    element_shown v u same an_element x empty n made there =
        let y = x.2 in
        ap (place_label (shown docs row (var_piece v))) empty ∙ ap (λ (z : TolledValue). place_label (shown_by docs z) []) y.is_value
        ∙ ap (λ (l : List ℕ). Some l) (sym y.is_label ∙ ap (λ (w : ℕ). element_label (maker (ops_of st) w)) same ∙ ap element_label made ∙ shape_label (op_at (ops_of st) n))
    element_shown v u same a_list x empty n made there = absurd (x.1 refl)

    -- what is shown of the place below the tree of a piece has the label there
    shows_label : (x : Piece) → IsSinglePiece (kinds (ops_of st) s.op) x → IsToldPiece (plan_value st.plan) valid typed docs s.op x → Ends docs (ops_of st) row x q
        → (inputs : List (Option ℕ)) (y : Shown) → IsShown st y → ShowsBelow st (record { inputs = inputs; stand = s; piece = x }) q y → Has x (shown_label st y)
    shows_label (var_piece v) single told ends inputs (Whole y) there h =
        node_shown v h.0 (ap variable h.1) single.0 (single.1, single.2, at.sound v single.0 single.1) told ends h.2 (node_at st y.source y.spot) h.3.node
    shows_label (var_piece v) single told ends inputs (Leaf y) there h = (let z = h.1 in let f : ⊥ = cc in absurd f)
    shows_label (var_piece v) single told ends inputs (Element n) there h =
        element_shown v h.0 (ap variable h.1) single.0 (single.1, single.2, at.sound v single.0 single.1) h.3 n h.2 there
    shows_label (var_piece v) single told ends inputs (Text n index) there h =
        (let z = subst (λ (x : Piece). IsTrue (is_text x)) h.0 there.1 in let f : ⊥ = cc in absurd f)
    shows_label (label_piece v) single told ends inputs (Whole y) there h = (let z = h.1 in let f : ⊥ = cc in absurd f)
    shows_label (label_piece v) single told ends inputs (Leaf y) there h =
        ap (place_label (shown docs row (label_piece v))) ends
        ∙ ap (λ (l : List ℕ). Some l) (sym (label_given (plan_value st.plan) valid typed uses docs s row at v told))
        ∙ ap (λ (w : ℕ). Some (label_at docs (nodes w))) (ap variable h.1) ∙ ap (λ (n : Node). Some (label_at docs n)) (sym h.2.node)
    shows_label (label_piece v) single told ends inputs (Element n) there h = (let z = h.1 in let f : ⊥ = cc in absurd f)
    shows_label (label_piece v) single told ends inputs (Text n index) there h =
        (let z = subst (λ (x : Piece). IsTrue (is_text x)) h.0 there.1 in let f : ⊥ = cc in absurd f)
    shows_label (text_piece label) single told ends inputs (Whole y) there h = (let z = h.1 in let f : ⊥ = cc in absurd f)
    shows_label (text_piece label) single told ends inputs (Leaf y) there h = (let z = h.1 in let f : ⊥ = cc in absurd f)
    shows_label (text_piece label) single told ends inputs (Element n) there h = (let z = h.1 in let f : ⊥ = cc in absurd f)
    shows_label (text_piece label) single told ends inputs (Text n index) there h =
        ap (place_label (shown docs row (text_piece label))) ends ∙ ap (λ (x : Piece). Some (text_of x)) (sym h.0)

  -- THE DOCUMENT

  -- a node of a document has a label
  abbrev IsLabelled : LabelledTree → List ℕ → List ℕ → Type 0
  IsLabelled t place label = (u : LabelledTree) × (tree_at t place ≡ Some u) × (label ≡ u.label)

  -- what is shown of the tree of an element has the element's label
  outer_shows : (row : TolledRow) (n v : ℕ) → (x : IsElementIn docs (ops_of st) (kinds (ops_of st) n) row v) → (e : Ending) → e.piece ≡ var_piece v → (q : List ℕ) (y : Shown) → IsShown st y
      → ShowsBelow st e q y → shown_label st y ≡ x.label
  outer_shows row n v x e is q (Whole y) there h =
      let same : v ≡ h.0 = ap variable (sym is ∙ h.1) in
      none_some x.inner (sym h.2 ∙ sym (ap (λ (w : ℕ). element_list (maker (ops_of st) w)) same) ∙ x.is_inner)
  outer_shows row n v x e is q (Leaf y) there h = (let z = sym is ∙ h.1 in let f : ⊥ = cc in absurd f)
  outer_shows row n v x e is q (Element m) there h =
      let same : v ≡ h.0 = ap variable (sym is ∙ h.1) in
      sym (shape_label (op_at (ops_of st) m)) ∙ sym (ap element_label h.2) ∙ sym (ap (λ (w : ℕ). element_label (maker (ops_of st) w)) same) ∙ x.is_label
  outer_shows row n v x e is q (Text m index) there h =
      (let z = subst (λ (x : Piece). IsTrue (is_text x)) (h.0 ∙ is) there.1 in let f : ⊥ = cc in absurd f)

  module _ (tolled : TolledIsDocument (plan_value st.plan)) (t : LabelledTree) (is : document (visited docs) (ops_of st) ≡ Some t) where
    -- the root has the label that is shown where there are no levels
    root_label : (inside place : List ℕ) → NamesBy docs (ops_of st) [] inside place → (members : List (Option Evidence)) (y : Shown) → IsShown st y
        → HasEnd st (text_ending (ops_of st) []) inside members y → IsLabelled t place (shown_label st y)
    root_label inside place named members y there h =
        let o = outer_is (plan_value st.plan) valid typed tolled docs in
        let x = o.is_element in
        let d : LabelledTree = record { label = x.label; kids = plain x.kids } in
        let end : Ending = record { inputs = []; stand = record { op = o.input; places = [] }; piece = var_piece o.outer } in
        let here : IsEnd st end inside members y =
        subst (λ (e : Option Ending). HasEnd st e inside members y) (ap (option_and_then (λ (o : ℕ × ℕ). outer_ending (ops_of st) o [])) o.is_outer) h in
        let label = outer_shows (first_row (found (events docs (ops_of st) o.input))) o.input o.outer x end refl inside y there here.shows in
        subst (λ (u : LabelledTree). IsLabelled u place (shown_label st y)) (some_is d t (sym o.is_document ∙ is))
        (d, ap (λ (q : List ℕ). tree_at d q) named.1, label)

    -- the labels of a document at places below its root are those of the outer element's list
    list_label : (l : LevelValue) (ls : List LevelValue) (inside place : List ℕ) (x : LeadsFromOuter docs (ops_of st) (l ∷ ls) inside place)
        → place_label (alone t) place ≡ place_label (tree [] (list_trees docs (ops_of st) x.inner x.here.row) none) place
    list_label l ls inside place x =
        let o = outer_is (plan_value st.plan) valid typed tolled docs in
        let r = x.is_outer in
        let first : TolledRow = first_row (found (events docs (ops_of st) o.input)) in
        let pairs : ◌≡◌ {A = ℕ × ℕ} (o.input, o.outer) (r.input, r.outer) = some_is (o.input, o.outer) (r.input, r.outer) (sym o.is_outer ∙ r.is_outer) in
        let row : first ≡ x.here.row = ap (λ (z : ℕ × ℕ). first_row (found (events docs (ops_of st) z.0))) pairs ∙ sym r.is_row in
        let list : o.is_element.inner ≡ r.list =
        some_is o.is_element.inner r.list (sym o.is_element.is_inner ∙ ap (λ (z : ℕ × ℕ). element_list (maker (ops_of st) z.1)) pairs ∙ r.is_list) in
        let listed : list_of (ops_of st) o.is_element.inner ≡ Some x.inner = ap (list_of (ops_of st)) list ∙ r.is_inner in
        let shows = list_value (plan_value st.plan) valid typed docs o.input first o.sound o.is_element.inner x.inner (a_list, o.is_element.bound) listed in
        let kids : plain o.is_element.kids ≡ list_trees docs (ops_of st) x.inner x.here.row = o.is_element.shows ∙ shows.shows ∙ ap (list_trees docs (ops_of st) x.inner) row in
        let d : LabelledTree = record { label = o.is_element.label; kids = plain o.is_element.kids } in
        let same : d ≡ t = some_is d t (sym o.is_document ∙ is) in
        ap (λ (u : LabelledTree). place_label (alone u) place) (sym same)
        ∙ below_root place (λ z. no_root (subst (Leads docs (ops_of st) x.here x.inner (l ∷ ls) inside) z x.leads)) o.is_element.label (plain o.is_element.kids)
        (list_trees docs (ops_of st) x.inner x.here.row) kids

    -- a node below the root has the label that is shown at the end of its levels
    levels_label : (l : LevelValue) (ls : List LevelValue) (inside place : List ℕ) → LeadsFromOuter docs (ops_of st) (l ∷ ls) inside place → (members : List (Option Evidence)) (y : Shown)
        → IsShown st y → HasEnd st (text_ending (ops_of st) (l ∷ ls)) inside members y → IsLabelled t place (shown_label st y)
    levels_label l ls inside place x members y there h =
        let r = x.is_outer in
        let w = from_outer (plan_value st.plan) valid typed uses docs tolled x.here x.inner r in
        let e = ends_at (plan_value st.plan) valid typed uses docs {here = x.here} (record { op = r.input; places = [] }) w.at w.of w.known x.leads in
        let in_list : list_in (ops_of st) (var_piece r.outer) ≡ Some x.inner = ap (option_and_then (list_of (ops_of st))) r.is_list ∙ r.is_inner in
        let ends = sym (ends_there docs (ops_of st) r.input r.outer r.is_outer l ls r.input refl x.inner in_list) ∙ e.is_end in
        let here : IsEnd st e.end inside members y = subst (λ (z : Option Ending). HasEnd st z inside members y) ends h in
        let label = shows_label e.end.stand e.end_row e.at inside e.end.piece e.single e.told e.below e.end.inputs y there here.shows in
        labelled (trees_at (alone t) place) (shown_label st y) (list_label l ls inside place x ∙ e.label ∙ label)

    -- what a text names has the label that is shown at its end
    text_label : (levels : List LevelValue) (inside place : List ℕ) → NamesBy docs (ops_of st) levels inside place → (members : List (Option Evidence)) (y : Shown) → IsShown st y
        → HasEnd st (text_ending (ops_of st) levels) inside members y → IsLabelled t place (shown_label st y)
    text_label [] inside place named members y there h = root_label inside place named members y there h
    text_label (l ∷ ls) inside place named members y there h = levels_label l ls inside place named members y there h

-- what a mark shows has the label of the node that its text names, where the document is that with tolls, without them
pub marks_show : ((p : PlanValue) → TolledIsDocument p) → MarksShow
marks_show tolled st valid uses told m h place named t is =
    text_label st valid (valid_is_typed (plan_value st.plan) valid) uses (tolled (plan_value st.plan)) t is m.data.levels m.data.inside place named m.members.items m.shown h.shown h.ends
