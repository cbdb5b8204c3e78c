-- Which keys tell what a list is made of: those that an operator holds tell the nodes among its lists' pieces, and the groups of which these are.
use Rattle.std.proofs.Common.{◌≡◌, ◌⊎◌, inl, inr, ℕ, zero, suc, ◌<◌, true, false, cond, List, [], ◌∷◌, ◌++◌, Option, Some, None, refl, sym, ap, subst, ◌∙◌, arith, length}
use Rattle.std.specs.Prelude.{◌==◌}
use Rattle.std.specs.List.{flat_map, AllByRecursion}
use Rattle.std.proofs.lemmas.Bool.{and_parts, and_from, eqb-true}
use Rattle.std.proofs.lemmas.List.Folds.{list_all-append}
use Rattle.mix_base.proofs.Choices.{some_is, none_some}
use Rattle.mix_base.specs.Ascents.{Among}
use Rattle.mix_tree.specs.Keys.{has_var, stands}
use Rattle.mix_tree.specs.Nodes.{Documents}
use Rattle.mix_tree.specs.declared.var.Key.{Key}
use Rattle.mix_tree.specs.declared.var.Key.TheVariants.{Node as node_key, LabelOf as label_key}
use Rattle.plan_core.specs.declared.plan.Piece.{Piece}
use Rattle.plan_core.specs.declared.plan.Piece.TheVariants.{Var as var_piece, LabelOf as label_piece, Text as text_piece}
use Rattle.plan_core.specs.Fronts.{covers}
use Rattle.plan_core.specs.Plans.{PlanValue}
use Rattle.plan_core.specs.Shapes.{a_list_of, an_element_of, filters, extends, first_by_keys, one_group, in_order, Shape, one_source, visits_below, pairs_up, passes_on, no_events, shape_at}
use Rattle.plan_core.specs.TolledRows.{key_value, same_value, same_values}
use Rattle.plan_core.specs.Typed.{IsTyped}
use Rattle.plan_core.specs.Valid.{Kind, a_node, a_list, Kinds, no_kinds, with_kind, kept, made_kind, either_kind, shape_kinds, shape_inputs, shape_outs, kinds, AreNodes, IsPiece, IsShapeFit, IsValid}
use Rattle.plan_core.proofs.Fresh.{smaller, kinds-is}
use Rattle.plan_core.proofs.KeyValues.{covered_same}
use Rattle.plan_evidence.specs.Held.{piece_uses, kind_uses, shape_held, held, node_values, ShapeUses, UsesHeld}
use Rattle.plan_evidence.specs.Named.{Listing, of_pieces, of_group, listing, list_of}
use Rattle.plan_evidence.proofs.Evident.{list_is_no_node}
use Rattle.plan_evidence.proofs.HeldApart.{held-of}
use Rattle.plan_evidence.proofs.Makers.{made_by}
use Rattle.plan_evidence.proofs.Shown.{Tell}
use Rattle.plan_evidence.proofs.Sounds.{single_piece}
use Rattle.lazy_follow.specs.Scope.{InScope}
use Rattle.lazy_follow.proofs.Scopes.{input_scope, scoped}

-- KEYS

module _ (docs : Documents) where
  -- keys with others after them tell the first
  tell_first : (keys more : List Key) → Tell docs (keys ++ more) keys
  tell_first [] more a b e = refl
  tell_first (k ∷ keys) more a b e =
      let s = and_parts (same_value (key_value docs a k) (key_value docs b k)) (same_values (node_values docs (keys ++ more) a) (node_values docs (keys ++ more) b)) e in
      and_from (same_value (key_value docs a k) (key_value docs b k)) (same_values (node_values docs keys a) (node_values docs keys b)) s.0 (tell_first keys more a b s.1)

  -- keys with others before them tell the last
  tell_last : (keys more : List Key) → Tell docs (keys ++ more) more
  tell_last [] more a b e = e
  tell_last (k ∷ keys) more a b e =
      tell_last keys more a b (and_parts (same_value (key_value docs a k) (key_value docs b k)) (same_values (node_values docs (keys ++ more) a) (node_values docs (keys ++ more) b)) e).1

-- keys that cover two lists of keys together cover each of the two
covers_parts : (keys own more : List Key) → covers keys (own ++ more) ≡ true → (covers keys own ≡ true) × (covers keys more ≡ true)
covers_parts keys own more h = and_parts (covers keys own) (covers keys more) (sym (list_all-append (stands keys) own more) ∙ h)

-- a variable that holds a list, after one was bound anew, is that one, or held a list before
with_list : (out v : ℕ) (k : Kind) (ks : Kinds) → with_kind out k ks v ≡ Some a_list → (v ≡ out) ⊎ (ks v ≡ Some a_list)
with_list out v k ks e =
    (elim (out == v) as (λ t. (out == v) ≡ t → cond t (Some k) (ks v) ≡ Some a_list → (v ≡ out) ⊎ (ks v ≡ Some a_list)) [
      | true ↦ λ q g. inl (sym (eqb-true out v q))
      | false ↦ λ q g. inr g
    ]) refl e

-- what keys of nodes keep is no list
kept_list : (keys : List Key) (ks : Kinds) (v : ℕ) → AreNodes keys ks → kept keys ks v ≡ Some a_list → ⊥
kept_list keys ks v nodes e =
    (elim (has_var keys v) as (λ t. has_var keys v ≡ t → cond t (ks v) None ≡ Some a_list → ⊥) [
      | true ↦ λ q g. list_is_no_node (some_is a_list a_node (sym g ∙ nodes v q))
      | false ↦ λ q g. none_some a_list g
    ]) refl e

module _ (p : PlanValue) (valid : IsValid p) (typed : IsTyped p.ops) (docs : Documents) where
  -- WHERE A LIST WAS MADE

  -- an input of a shape binds a variable to a list, and the keys that the shape holds tell those that the input holds
  record FromTold (f : Shape) (v : ℕ) : Type 0 where
    input : ℕ
    among : Among input (shape_inputs f)
    tells : Tell docs (shape_held f (held p.ops)) (held p.ops input)
    bound : kinds p.ops input v ≡ Some a_list

  -- a variable that holds a list is bound anew by a shape, or by an input whose held keys are told by the shape's
  from_told : (f : Shape) → IsShapeFit f (kinds p.ops) → (v : ℕ) → shape_kinds f (kinds p.ops) v ≡ Some a_list → Among v (shape_outs f) ⊎ FromTold f v
  from_told (one_source s out) fit v e = elim (with_list out v a_node no_kinds e) [ inl x ↦ inl (inl x) | inr g ↦ none_some a_list g ]
  from_told (visits_below i start path out) fit v e = elim (with_list out v a_node (kinds p.ops i) e) [
    | inl x ↦ inl (inl x)
    | inr g ↦ inr (record { input = i; among = inl refl; tells = tell_first docs (held p.ops i) (node_key out ∷ []); bound = g })
  ]
  from_told (pairs_up l r tests) fit v e = sides (kinds p.ops l v) (kinds p.ops r v) refl refl e
    where
      sides : (j k : Option Kind) → kinds p.ops l v ≡ j → kinds p.ops r v ≡ k → either_kind j k ≡ Some a_list → Among v [] ⊎ FromTold (pairs_up l r tests) v
      sides None k x y g = inr (record { input = r; among = inr (inl refl); tells = tell_last docs (held p.ops l) (held p.ops r); bound = y ∙ g })
      sides (Some j) k x y g = inr (record { input = l; among = inl refl; tells = tell_first docs (held p.ops l) (held p.ops r); bound = x ∙ g })
  from_told (passes_on i (filters test)) fit v e = inr (record { input = i; among = inl refl; tells = λ a b h. h; bound = e })
  from_told (passes_on i (extends out made)) fit v e = elim (with_list out v (made_kind made) (kinds p.ops i) e) [
    | inl x ↦ inl (inl x)
    | inr g ↦ inr (record { input = i; among = inl refl; tells = λ a b h. h; bound = g })
  ]
  from_told (passes_on i (first_by_keys keys None)) fit v e = absurd (kept_list keys (kinds p.ops i) v fit e)
  from_told (passes_on i (first_by_keys keys (Some group))) fit v e = elim (with_list group.1 v a_list (kept keys (kinds p.ops i)) e) [
    | inl x ↦ inl (inl x)
    | inr g ↦ absurd (kept_list keys (kinds p.ops i) v fit.0 g)
  ]
  from_told (passes_on i (one_group piece out)) fit v e = elim (with_list out v a_list no_kinds e) [ inl x ↦ inl (inl x) | inr g ↦ none_some a_list g ]
  from_told (passes_on i (in_order u desc)) fit v e = inr (record { input = i; among = inl refl; tells = λ a b h. h; bound = e })
  from_told (no_events i made) fit v e = none_some a_list e

  -- an operator made a variable's list, and the keys that operator n holds tell those that it holds
  record MadeIn (n v : ℕ) : Type 0 where
    op : ℕ
    within : op < length p.ops
    made : Among v (shape_outs (shape_at p.ops op))
    tells : Tell docs (held p.ops n) (held p.ops op)

  -- a list in an operator below a number was made by one whose held keys are told by the operator's
  made_in : (c n v : ℕ) → n < c → n < length p.ops → kinds p.ops n v ≡ Some a_list → MadeIn n v
  made_in zero n v l b e = absurd (omega (arith, l))
  made_in (suc c) n v l b e =
      elim (from_told (shape_at p.ops n) (typed.fit n b) v (sym (ap (λ (ks : Kinds). ks v) (kinds-is p valid typed n b)) ∙ e)) [
        | inl a ↦ record { op = n; within = b; made = a; tells = λ c d h. h }
        | inr x ↦
            (let s = smaller p valid typed x.input n b x.among in
            let r = made_in c x.input v (omega (arith, s, l)) (omega (arith, s, b)) x.bound in
            let t : Tell docs (held p.ops n) (held p.ops x.input) = subst (λ (keys : List Key). Tell docs keys (held p.ops x.input)) (sym (held-of p.ops n (typed.inputs n b))) x.tells in
            record { op = r.op; within = r.within; made = r.made; tells = λ d e h. r.tells d e (t d e h) })
      ]

  -- LISTS THAT ARE TOLD

  -- the keys that operator n holds tell the node that a piece is, if it is one, and its label, if it is one
  abbrev pub IsToldPiece : ℕ → Piece → Type 0
  IsToldPiece n (var_piece v) = kinds p.ops n v ≡ Some a_node → Tell docs (held p.ops n) (node_key v ∷ [])
  IsToldPiece n (label_piece v) = Tell docs (held p.ops n) (label_key v ∷ [])
  IsToldPiece n (text_piece label) = Unit {0}

  -- a group's input, which isn't the last operator, holds keys that tell the group's keys and the node that its piece is
  pub record IsToldGroup (input : ℕ) (own : List Key) (piece : Piece) : Type 0 where
    pub early : suc input < length p.ops
    pub told : Tell docs (held p.ops input) own
    pub told_piece : IsToldPiece input piece

  -- of a list in a binding of operator n, the nodes among the pieces are told by the keys that are held
  abbrev pub IsToldList : ℕ → Listing → Type 0
  IsToldList n (of_pieces pieces) = AllByRecursion (IsToldPiece n) pieces
  IsToldList n (of_group input own piece) = IsToldGroup input own piece

  -- a piece of what operator i binds is told in an operator that binds all of it and tells the keys that it holds, where these cover the piece
  piece_told : (n i : ℕ) → InScope p.ops n i → Tell docs (held p.ops n) (held p.ops i) → (x : Piece) → IsPiece (kinds p.ops i) x
      → covers (held p.ops i) (piece_uses (kinds p.ops i) x) ≡ true → IsToldPiece n x
  piece_told n i scope tell (var_piece v) bound c = λ e a b h.
      (let k : bound.0 ≡ a_node = some_is bound.0 a_node (sym (scope v bound.0 bound.1) ∙ e) in
      let is : kinds p.ops i v ≡ Some a_node = bound.1 ∙ ap (λ (x : Kind). Some x) k in
      let own : covers (held p.ops i) (node_key v ∷ []) ≡ true = sym (ap (λ (o : Option Kind). covers (held p.ops i) (kind_uses v o)) is) ∙ c in
      covered_same docs (held p.ops i) (node_key v ∷ []) a b own (tell a b h))
  piece_told n i scope tell (label_piece v) bound c = λ a b h. covered_same docs (held p.ops i) (label_key v ∷ []) a b c (tell a b h)
  piece_told n i scope tell (text_piece label) bound c = tt

  -- pieces are told as each of them is
  pieces_told : (n i : ℕ) → InScope p.ops n i → Tell docs (held p.ops n) (held p.ops i) → (xs : List Piece) → AllByRecursion (IsPiece (kinds p.ops i)) xs
      → covers (held p.ops i) (flat_map (piece_uses (kinds p.ops i)) xs) ≡ true → AllByRecursion (IsToldPiece n) xs
  pieces_told n i scope tell [] bound c = tt
  pieces_told n i scope tell (x ∷ xs) bound c =
      let c' = covers_parts (held p.ops i) (piece_uses (kinds p.ops i) x) (flat_map (piece_uses (kinds p.ops i)) xs) c in
      (piece_told n i scope tell x bound.0 c'.0, pieces_told n i scope tell xs bound.1 c'.1)

  module _ (uses : UsesHeld p.ops) where
    -- a list that an operator made is told in a binding of operator n
    told_by : (n v : ℕ) → n < length p.ops → kinds p.ops n v ≡ Some a_list → (r : MadeIn n v) (f : Shape) → shape_at p.ops r.op ≡ f → IsShapeFit f (kinds p.ops)
        → ShapeUses (kinds p.ops) (held p.ops) f
        → (list : Listing) → listing f ≡ Some list → IsToldList n list
    told_by n v b k r (one_source s out) e fit u list g = none_some list g
    told_by n v b k r (visits_below i start path out) e fit u list g = none_some list g
    told_by n v b k r (pairs_up i j tests) e fit u list g = none_some list g
    told_by n v b k r (passes_on i (filters test)) e fit u list g = none_some list g
    told_by n v b k r (passes_on i (extends out (an_element_of label inner))) e fit u list g = none_some list g
    told_by n v b k r (passes_on i (first_by_keys own None)) e fit u list g = none_some list g
    told_by n v b k r (passes_on i (in_order w desc)) e fit u list g = none_some list g
    told_by n v b k r (no_events i made) e fit u list g = none_some list g
    told_by n v b k r (passes_on i (extends out (a_list_of pieces))) e fit u list g =
        let scope = scoped p valid typed r.op r.within v r.made n a_list b list_is_no_node k in
        let below = input_scope p valid typed r.op r.within (passes_on i (extends out (a_list_of pieces))) e i refl in
        let same : held p.ops r.op ≡ held p.ops i = held-of p.ops r.op (typed.inputs r.op r.within) ∙ ap (λ (h : Shape). shape_held h (held p.ops)) e in
        let tell : Tell docs (held p.ops n) (held p.ops i) = subst (Tell docs (held p.ops n)) same r.tells in
        subst (IsToldList n) (some_is (of_pieces pieces) list g) (pieces_told n i (λ w j h. scope w j (below w j h)) tell pieces fit u)
    told_by n v b k r (passes_on i (first_by_keys own (Some group))) e fit u list g =
        let c = covers_parts (held p.ops i) own (piece_uses (kinds p.ops i) group.0) u in
        subst (IsToldList n) (some_is (of_group i own group.0) list g)
        (record {
          early = (let s = input_low in let w = r.within in omega (arith, s, w));
          told = λ a d h. covered_same docs (held p.ops i) own a d c.0 h;
          told_piece = piece_told i i (λ w j h. h) (λ a d h. h) group.0 (single_piece p valid typed docs (kinds p.ops i) group.0 fit.1) c.1;
        })
      where
        input_low : i < r.op
        input_low = smaller p valid typed i r.op r.within (subst (λ (h : Shape). Among i (shape_inputs h)) (sym e) (inl refl))
    told_by n v b k r (passes_on i (one_group piece out)) e fit u list g =
        subst (IsToldList n) (some_is (of_group i [] piece) list g)
        (record {
          early = (let s = input_low in let w = r.within in omega (arith, s, w));
          told = λ a d h. refl;
          told_piece = piece_told i i (λ w j h. h) (λ a d h. h) piece (single_piece p valid typed docs (kinds p.ops i) piece fit) u;
        })
      where
        input_low : i < r.op
        input_low = smaller p valid typed i r.op r.within (subst (λ (h : Shape). Among i (shape_inputs h)) (sym e) (inl refl))

    -- a list in a binding of operator n is told by the keys that the operator holds
    pub told_list : (n v : ℕ) → n < length p.ops → kinds p.ops n v ≡ Some a_list → (list : Listing) → list_of p.ops v ≡ Some list → IsToldList n list
    told_list n v b k list e =
        let r = made_in (suc n) n v (omega arith) b k in
        let m = made_by p valid typed v r.op r.within r.made in
        told_by n v b k r (shape_at p.ops r.op) refl (typed.fit r.op r.within) (uses r.op r.within) list (sym (ap listing m.is_maker) ∙ e)
