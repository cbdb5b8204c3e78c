-- A text names at most one node of a valid plan's document.
use Rattle.std.proofs.Common.{◌≡◌, ◌⊎◌, inl, inr, ℕ, suc, ◌<◌, ◌+◌, true, false, cond, List, [], ◌∷◌, refl, sym, ap, subst, ◌∙◌, arith, length}
use Rattle.std.specs.Prelude.{◌==◌, Some, None, slice_get}
use Rattle.std.specs.List.{list_any}
use Rattle.mix_base.proofs.Choices.{some_is, none_some}
use Rattle.mix_base.specs.Ascents.{Among}
use Rattle.mix_base.specs.Events.{found}
use Rattle.mix_tree.specs.Nodes.{Documents}
use Rattle.mix_tree.specs.declared.var.Key.{Key}
use Rattle.node_text.specs.Node.{LevelValue}
use Rattle.plan_core.specs.declared.plan.Piece.{Piece}
use Rattle.plan_core.specs.declared.plan.Piece.TheVariants.{Var as var_piece, LabelOf as label_piece, Text as text_piece}
use Rattle.plan_core.specs.Events.{events, first_row}
use Rattle.plan_core.specs.Plans.{Operator, PlanValue}
use Rattle.plan_core.specs.Shapes.{a_list_of, an_element_of, filters, extends, first_by_keys, one_group, in_order, Shape, one_source, visits_below, pairs_up, passes_on, no_events, shape_of, shape_at}
use Rattle.plan_core.specs.Typed.{IsTyped}
use Rattle.plan_core.specs.Valid.{shape_inputs, outs_of, IsValid}
use Rattle.plan_core.proofs.Fresh.{smaller}
use Rattle.plan_core.proofs.Typed.{valid_is_typed}
use Rattle.plan_evidence.specs.Held.{held}
use Rattle.plan_evidence.specs.Named.{maker, Listing, of_pieces, of_group, listing, element_list, list_of, IsSingle, before_piece, members, Reached, IsMember, Picks, of_member, of_piece, of_list_member, Leads, to_tree, to_element, to_pieces, LeadsFromOuter, NamesBy, NamesAtMostOne}
use Rattle.plan_evidence.proofs.Aparts.{one_index, members_apart}
use Rattle.plan_evidence.proofs.HeldApart.{held_apart}
use Rattle.plan_evidence.proofs.Once.{rows_agree}

-- the shape that binds a variable anew is that of an operator, or, where none binds it, one without bindings
pub maker_at : (ops : List Operator) (v : ℕ) → (maker ops v ≡ no_events 0 0) ⊎ ((k : ℕ) × (k < length ops) × (maker ops v ≡ shape_at ops k))
maker_at [] v = inl refl
maker_at (op ∷ ops) v =
    elim (list_any (λ w. w == v) (outs_of op)) as (λ t. (cond t (shape_of op) (maker ops v) ≡ no_events 0 0) ⊎ ((k : ℕ) × (k < length (op ∷ ops)) × (cond t (shape_of op) (maker ops v) ≡ shape_at (op ∷ ops) k))) [
      | true ↦ inr (0, omega arith, refl)
      | false ↦ later (maker_at ops v)
    ]
  where
    later : (maker ops v ≡ no_events 0 0) ⊎ ((k : ℕ) × (k < length ops) × (maker ops v ≡ shape_at ops k)) → (maker ops v ≡ no_events 0 0) ⊎ ((k : ℕ) × (k < length (op ∷ ops)) × (maker ops v ≡ shape_at (op ∷ ops) k))
    later (inl e) = inl e
    later (inr r) = (let b = r.1 in inr (suc r.0, omega (arith, b), r.2))

-- the number of the input of a group's listing; 0 for one of pieces
group_input : Listing → ℕ
group_input (of_pieces pieces) = 0
group_input (of_group n keys piece) = n

-- the keys of a group's listing; none for one of pieces
group_keys : Listing → List Key
group_keys (of_pieces pieces) = []
group_keys (of_group n keys piece) = keys

-- the piece of a group's listing; some piece for one of pieces
group_piece : Listing → Piece
group_piece (of_pieces pieces) = var_piece 0
group_piece (of_group n keys piece) = piece

-- the input of the listing of a group is that of the shape that makes it
listing_input : (f : Shape) (n : ℕ) (keys : List Key) (piece : Piece) → listing f ≡ Some (of_group n keys piece) → Among n (shape_inputs f)
unfolding group_input
listing_input (one_source s out) n keys piece e = none_some _ e
listing_input (visits_below i start path out) n keys piece e = none_some _ e
listing_input (pairs_up l r tests) n keys piece e = none_some _ e
listing_input (passes_on i (filters test)) n keys piece e = none_some _ e
listing_input (passes_on i (extends out (a_list_of pieces))) n keys piece e = cc
listing_input (passes_on i (extends out (an_element_of label list))) n keys piece e = none_some _ e
listing_input (passes_on i (first_by_keys own None)) n keys piece e = none_some _ e
listing_input (passes_on i (first_by_keys own (Some g))) n keys piece e = inl (sym (ap group_input (some_is (of_group i own g.0) (of_group n keys piece) e)))
listing_input (passes_on i (one_group q out)) n keys piece e = inl (sym (ap group_input (some_is (of_group i [] q) (of_group n keys piece) e)))
listing_input (passes_on i (in_order v desc)) n keys piece e = none_some _ e
listing_input (no_events i made) n keys piece e = none_some _ e

-- the variable of a piece that is one's value; 0 for another
piece_var : Piece → ℕ
piece_var (var_piece v) = v
piece_var (label_piece v) = 0
piece_var (text_piece label) = 0

module _ (p : PlanValue) (valid : IsValid p) (docs : Documents) where
  -- the plan's operators are typed
  typed : IsTyped p.ops
  typed = valid_is_typed p valid

  -- the input of a group's listing is one of the plan's operators
  InPlan : Listing → Type 0
  InPlan (of_pieces pieces) = Unit {0}
  InPlan (of_group n keys piece) = n < length p.ops

  -- the input of the listing of a group that a variable holds is one of the plan's operators
  group_in : (v n : ℕ) (keys : List Key) (piece : Piece) → list_of p.ops v ≡ Some (of_group n keys piece) → n < length p.ops
  group_in v n keys piece e = elim (maker_at p.ops v) [
    | inl m ↦ none_some (of_group n keys piece) (sym (ap listing m) ∙ e)
    | inr r ↦
        (let a = listing_input (shape_at p.ops r.0) n keys piece (sym (ap listing r.2) ∙ e) in
        let s = smaller p valid typed n r.0 r.1 a in let b = r.1 in omega (arith, s, b))
  ]

  -- the listing of a list that a variable holds has its input, if any, in the plan
  list_in : (v : ℕ) (list : Listing) → list_of p.ops v ≡ Some list → InPlan list
  unfolding InPlan
  list_in v (of_pieces pieces) e = tt
  list_in v (of_group n keys piece) e = group_in v n keys piece e

  -- the same places are evidence of one member of a group
  member_once : (n i j : ℕ) (keys : List Key) (h k s t : Reached) (places : List (List ℕ)) → n < length p.ops → h.row ≡ k.row → IsMember docs p.ops n keys h places i s → IsMember docs p.ops n keys k places j t
      → (i ≡ j) × (s.row ≡ t.row)
  member_once n i j keys h k s t places b e x y =
      let apart = held_apart p valid docs n b in
      let agree = rows_agree p valid docs n b s.nodes t.nodes x.evidence.right y.evidence.right (x.evidence.written ∙ sym y.evidence.written) s.row t.row x.of y.of in
      let there : slice_get (members docs p.ops n keys h.row) j ≡ Some t.row = subst (λ r. slice_get (members docs p.ops n keys r) j ≡ Some t.row) (sym e) y.at in
      let index = one_index docs (held p.ops n) (members docs p.ops n keys h.row) (members_apart docs (held p.ops n) p.ops n keys h.row apart) i j s.row t.row x.at there agree in
      (index, some_is s.row t.row (sym x.at ∙ ap (slice_get (members docs p.ops n keys h.row)) index ∙ there))

  -- there is one piece at an index
  piece_once : (pieces : List Piece) (n : ℕ) (x y : Piece) → slice_get pieces n ≡ Some x → slice_get pieces n ≡ Some y → x ≡ y
  piece_once pieces n x y e f = some_is x y (sym e ∙ f)

  -- two trees that levels pick have the same index, and are made of the same piece over the same binding
  record Alike (i j : ℕ) (s t : Reached) (x y : Piece) : Type 0 where
    pub index : i ≡ j
    pub row : s.row ≡ t.row
    pub piece : x ≡ y

  -- pieces that are the values of two variables are alike where the variables are
  var_once : (v w : ℕ) → var_piece v ≡ var_piece w → v ≡ w
  unfolding piece_var
  var_once v w e = ap piece_var e

  -- a piece that is a single tree is no list
  single_group : (v : ℕ) (piece : Piece) (list : Listing) → piece ≡ var_piece v → IsSingle p.ops piece → list_of p.ops v ≡ Some list → ⊥
  single_group v piece list e h g = none_some list (sym (subst (IsSingle p.ops) e h) ∙ g)

  -- the same places pick alike of one group
  of_members : (n i j : ℕ) (keys : List Key) (h k s t : Reached) (piece : Piece) (places : List (List ℕ)) → n < length p.ops → h.row ≡ k.row → IsMember docs p.ops n keys h places i s
      → IsMember docs p.ops n keys k places j t → Alike i j s t piece piece
  of_members n i j keys h k s t piece places b e m m' = (let r = member_once n i j keys h k s t places b e m m' in record { index = r.0; row = r.1; piece = refl })

  -- the same number picks alike of the same pieces over one binding
  of_one_piece : (pieces : List Piece) (n : ℕ) (h k : Reached) (x y : Piece) → h.row ≡ k.row → slice_get pieces n ≡ Some x → slice_get pieces n ≡ Some y
      → Alike (before_piece docs pieces h.row n) (before_piece docs pieces k.row n) h k x y
  of_one_piece pieces n h k x y e g g' = record { index = ap (λ r. before_piece docs pieces r n) e; row = e; piece = piece_once pieces n x y g g' }

  -- the same number and the same places pick alike of the lists among the same pieces over one binding
  of_lists : (pieces : List Piece) (c v w n m i j : ℕ) (keys own : List Key) (x y : Piece) (h k s t : Reached) (places : List (List ℕ)) → h.row ≡ k.row → slice_get pieces c ≡ Some (var_piece v)
      → list_of p.ops v ≡ Some (of_group n keys x) → IsMember docs p.ops n keys h places i s → slice_get pieces c ≡ Some (var_piece w) → list_of p.ops w ≡ Some (of_group m own y)
      → IsMember docs p.ops m own k places j t → Alike (before_piece docs pieces h.row c + i) (before_piece docs pieces k.row c + j) s t x y
  unfolding group_input group_keys group_piece
  of_lists pieces c v w n m i j keys own x y h k s t places e g lg a g' lg' b =
      let same : v ≡ w = var_once v w (piece_once pieces c (var_piece v) (var_piece w) g g') in
      let lists : of_group n keys x ≡ of_group m own y = some_is (of_group n keys x) (of_group m own y) (sym lg ∙ ap (list_of p.ops) same ∙ lg') in
      let inputs : n ≡ m = ap group_input lists in
      let all_keys : keys ≡ own = ap group_keys lists in
      let b' : IsMember docs p.ops n keys k places j t = subst (λ z. IsMember docs p.ops n z k places j t) (sym all_keys) (subst (λ z. IsMember docs p.ops z own k places j t) (sym inputs) b) in
      let r = member_once n i j keys h k s t places (group_in v n keys x lg) e a b' in
      record {
        index = ap (λ z. before_piece docs pieces z c + i) e ∙ ap (λ z. before_piece docs pieces k.row c + z) r.0;
        row = r.1;
        piece = ap group_piece lists;
      }

  -- no piece is both a single tree and a list
  not_both : (pieces : List Piece) (c v : ℕ) (x : Piece) (list : Listing) {Q : Type 0} → slice_get pieces c ≡ Some x → IsSingle p.ops x → slice_get pieces c ≡ Some (var_piece v) → list_of p.ops v ≡ Some list → Q
  not_both pieces c v x list g q g' lg = absurd (single_group v x list (piece_once pieces c x (var_piece v) g g') q lg)

  -- one level picks one tree of a list over one binding
  picks_once : {h k s t : Reached} {list : Listing} {l : LevelValue} {i j : ℕ} {x y : Piece} → InPlan list → h.row ≡ k.row → Picks docs p.ops h list l i s x → Picks docs p.ops k list l j t y → Alike i j s t x y
  unfolding InPlan
  picks_once b e (of_member z m) (of_member z' m') = of_members _ _ _ _ _ _ _ _ _ _ b e m m'
  picks_once b e (of_piece g t q) (of_piece g' t' q') = of_one_piece _ _ _ _ _ _ e g g'
  picks_once {list = of_pieces pieces} {l = l} b e (of_piece g t q) (of_list_member g' lg m) = not_both pieces l.piece _ _ _ g q g' lg
  picks_once {list = of_pieces pieces} {l = l} b e (of_list_member g lg m) (of_piece g' t' q') = not_both pieces l.piece _ _ _ g' q' g lg
  picks_once b e (of_list_member g lg m) (of_list_member g' lg' m') = of_lists _ _ _ _ _ _ _ _ _ _ _ _ _ _ _ _ _ e g lg m g' lg' m'

  -- one level picks one tree of equal lists over one binding
  picks_alike : {h k s t : Reached} {list other : Listing} {l : LevelValue} {i j : ℕ} {x y : Piece} → InPlan list → h.row ≡ k.row → list ≡ other → Picks docs p.ops h list l i s x
      → Picks docs p.ops k other l j t y → Alike i j s t x y
  picks_alike {k = k} {t = t} {l = l} {j = j} {y = y} b e o a c = picks_once b e a (subst (λ z. Picks docs p.ops k z l j t y) (sym o) c)

  -- where a level picks a tree of pieces, its piece isn't itself a list of pieces
  not_pieces : {h s : Reached} {pieces : List Piece} {l : LevelValue} {i : ℕ} {x : Piece} (w : ℕ) (inner : List Piece) → Picks docs p.ops h (of_pieces pieces) l i s x
      → slice_get pieces l.piece ≡ Some (var_piece w) → list_of p.ops w ≡ Some (of_pieces inner) → ⊥
  not_pieces {pieces = pieces} {l = l} w inner (of_piece g t q) g' lo = not_both pieces l.piece w _ (of_pieces inner) g q g' lo
  not_pieces {pieces = pieces} {l = l} w inner (of_list_member g lg m) g' lo = lists _ _ _ _ (piece_once pieces l.piece _ (var_piece w) g g') lg
    where
      lists : (v n : ℕ) (keys : List Key) (y : Piece) → var_piece v ≡ var_piece w → list_of p.ops v ≡ Some (of_group n keys y) → ⊥
      lists v n keys y e lg =
          let same : of_group n keys y ≡ of_pieces inner = some_is (of_group n keys y) (of_pieces inner) (sym lg ∙ ap (list_of p.ops) (var_once v w e) ∙ lo) in
          let f : ⊥ = cc in f

  -- without a level nothing leads anywhere
  pub no_levels : {h : Reached} {list : Listing} {q r : List ℕ} → Leads docs p.ops h list [] q r → ⊥
  no_levels x = elim x [ ]

  -- a place in a list, with so many trees more before it
  shifted : ℕ → List ℕ → List ℕ
  shifted n [] = []
  shifted n (i ∷ q) = (n + i) ∷ q

  -- the pieces of a listing of pieces; none for that of a group
  pieces_of : Listing → List Piece
  pieces_of (of_pieces pieces) = pieces
  pieces_of (of_group n keys piece) = []

  -- levels and a place below lead from equal lists over one binding to one place
  leads_once : {h k : Reached} {list other : Listing} {ls : List LevelValue} {inside a b : List ℕ} → InPlan list → h.row ≡ k.row → list ≡ other → Leads docs p.ops h list ls inside a
      → Leads docs p.ops k other ls inside b → a ≡ b
  unfolding shifted pieces_of InPlan
  leads_once i e o (to_tree {p = q} x u) (to_tree y w) = ap (λ n. n ∷ q) (picks_alike i e o x y).index
  leads_once i e o (to_tree x u) (to_element y f g r) = absurd (no_levels r)
  leads_once i e o (to_tree x u) (to_pieces f t g r) = absurd (no_levels r)
  leads_once i e o (to_element x f g r) (to_tree y w) = absurd (no_levels r)
  leads_once i e o (to_element {inner = inner} {j = j} {v = v} {u = u} {q = q} x f g r) (to_element {inner = inner'} {j = j'} {v = v'} {u = u'} {q = q'} y f' g' r') =
      let z = picks_alike i e o x y in
      let vars : v ≡ v' = var_once v v' z.piece in
      let lists : u ≡ u' = some_is u u' (sym f ∙ ap (λ w. element_list (maker p.ops w)) vars ∙ f') in
      let inners : inner ≡ inner' = some_is inner inner' (sym g ∙ ap (list_of p.ops) lists ∙ g') in
      ap (λ n. n ∷ q) z.index ∙ ap (λ (r : List ℕ). j' ∷ r) (leads_once (list_in u inner g) z.row inners r r')
  leads_once {h = h} {list = list} {ls = l ∷ ls} i e o (to_element {there = there} {j = j} {v = v} x f g r) (to_pieces {pieces = pieces} {inner = inner} {v = w} f' t g' r') =
      absurd (not_pieces {h = h} {pieces = pieces} {l = l} w inner (subst (λ z. Picks docs p.ops h z l j there (var_piece v)) o x) f' g')
  leads_once i e o (to_pieces f t g r) (to_tree y w) = absurd (no_levels r)
  leads_once {k = k} {other = other} {ls = l ∷ ls} i e o (to_pieces {pieces = pieces} {inner = inner} {v = w} f t g r) (to_element {there = there} {j = j} {v = v} y f' g' r') =
      absurd (not_pieces {h = k} {pieces = pieces} {l = l} w inner (subst (λ z. Picks docs p.ops k z l j there (var_piece v)) (sym o) y) f g)
  leads_once {h = h} {k = k} {ls = l ∷ ls} b e o (to_pieces {pieces = pieces} {inner = inner} {v = v} {i = i} {q = q} f t g r) (to_pieces {pieces = pieces'} {inner = inner'} {v = v'} {i = i'} {q = q'} f' t' g' r') =
      further h k l v v' i i' pieces pieces' inner inner' q q' e (ap pieces_of o) f f' g g'
      (λ inners. leads_once {list = of_pieces inner} tt e inners r r')
    where
      further : (h k : Reached) (l : LevelValue) (v v' i i' : ℕ) (pieces pieces' inner inner' : List Piece) (q q' : List ℕ) → h.row ≡ k.row → pieces ≡ pieces' → slice_get pieces l.piece ≡ Some (var_piece v)
          → slice_get pieces' l.piece ≡ Some (var_piece v') → list_of p.ops v ≡ Some (of_pieces inner) → list_of p.ops v' ≡ Some (of_pieces inner')
          → (of_pieces inner ≡ of_pieces inner' → (i ∷ q) ≡ (i' ∷ q'))
          → (before_piece docs pieces h.row l.piece + i) ∷ q ≡ (before_piece docs pieces' k.row l.piece + i') ∷ q'
      further h k l v v' i i' pieces pieces' inner inner' q q' e o f f' g g' more =
          let vars : v ≡ v' = var_once v v' (some_is (var_piece v) (var_piece v') (sym f ∙ ap (λ ps. slice_get ps l.piece) o ∙ f')) in
          let inners : of_pieces inner ≡ of_pieces inner' = some_is (of_pieces inner) (of_pieces inner') (sym g ∙ ap (list_of p.ops) vars ∙ g') in
          ap (shifted (before_piece docs pieces h.row l.piece)) (more inners) ∙ ap (λ r. shifted (before_piece docs pieces r l.piece) (i' ∷ q')) e
          ∙ ap (λ ps. shifted (before_piece docs ps k.row l.piece) (i' ∷ q')) o

-- equal pairs of numbers have equal parts
both_are : (a c b d : ℕ) → ◌≡◌ {A = ℕ × ℕ} (a, b) (c, d) → (a ≡ c) × (b ≡ d)
both_are a c b d e = (ap (λ x. x.0) e, ap (λ x. x.1) e)

module _ (p : PlanValue) (valid : IsValid p) (docs : Documents) where
  -- levels and a place below lead from the outer element to one place
  from_outer : (ls : List LevelValue) (inside a b : List ℕ) → LeadsFromOuter docs p.ops ls inside a → LeadsFromOuter docs p.ops ls inside b → a ≡ b
  from_outer ls inside a b x y =
      let o = x.is_outer in
      let u = y.is_outer in
      let pairs : ◌≡◌ {A = ℕ × ℕ} (o.input, o.outer) (u.input, u.outer) = some_is (o.input, o.outer) (u.input, u.outer) (sym o.is_outer ∙ u.is_outer) in
      let outers = both_are o.input u.input o.outer u.outer pairs in
      let lists : o.list ≡ u.list = some_is o.list u.list (sym o.is_list ∙ ap (λ w. element_list (maker p.ops w)) outers.1 ∙ u.is_list) in
      let inners : x.inner ≡ y.inner = some_is x.inner y.inner (sym o.is_inner ∙ ap (list_of p.ops) lists ∙ u.is_inner) in
      let rows : x.here.row ≡ y.here.row = o.is_row ∙ ap (λ n. first_row (found (events docs p.ops n))) outers.0 ∙ sym u.is_row in
      leads_once p valid docs (list_in p valid docs o.list x.inner o.is_inner) rows inners x.leads y.leads

  -- levels and a place below name one place at most
  by_levels : (ls : List LevelValue) (inside a b : List ℕ) → NamesBy docs p.ops ls inside a → NamesBy docs p.ops ls inside b → a ≡ b
  by_levels [] inside a b x y = x.1 ∙ sym y.1
  by_levels (l ∷ ls) inside a b x y = from_outer (l ∷ ls) inside a b x y

-- a text names at most one node of a valid plan's document
pub names_one : NamesAtMostOne
names_one p valid docs d a b x y = by_levels p valid docs d.levels d.inside a b x y
