-- Each value of each binding of an operator of a valid plan is as its kind says.
use Rattle.std.proofs.Common.{◌≡◌, inl, inr, ℕ, zero, suc, ◌<◌, true, false, cond, List, [], ◌∷◌, ◌++◌, refl, sym, ap, subst, ◌∙◌, arith, length}
use Rattle.std.specs.Prelude.{Bool, ◌==◌, Option, Some, None}
use Rattle.std.specs.List.{AllByRecursion, filter}
use Rattle.std.proofs.lemmas.Bool.{and_parts, and_from, eqb-true}
use Rattle.std.proofs.lemmas.Bool.Decides.{nat_tests}
use Rattle.mix_base.specs.Ascents.{Among}
use Rattle.mix_base.proofs.Ascents.{each_among}
use Rattle.mix_base.proofs.Choices.{some_is, none_some}
use Rattle.mix_base.proofs.Firsts.{each_weaker}
use Rattle.mix_base.specs.Events.{without_skips}
use Rattle.mix_tree.specs.Comparisons.{passes}
use Rattle.mix_tree.specs.Forest.{joined}
use Rattle.mix_tree.specs.Keys.{has_var}
use Rattle.mix_tree.specs.Nodes.{Documents, Node, document_node}
use Rattle.mix_tree.specs.declared.var.Key.{Key}
use Rattle.mix_tree.specs.declared.var.Key.TheVariants.{Node as node_key}
use Rattle.path_auto.specs.Visit.{visits}
use Rattle.plan_core.specs.declared.plan.Piece.{Piece}
use Rattle.plan_core.specs.declared.plan.Piece.TheVariants.{Var as var_piece, LabelOf as label_piece, Text as text_piece}
use Rattle.plan_core.specs.Beside.{EachBinding, StandsFirst}
use Rattle.plan_core.specs.ByNumber.{op_at}
use Rattle.plan_core.specs.Events.{RowEvents, passes_all, descendants, pairs, each_row, extended, made_value, kept_row, group_row, group_after, shape_events, events}
use Rattle.plan_core.specs.Fronts.{are_contiguous, front}
use Rattle.plan_core.specs.Plans.{PlanValue}
use Rattle.plan_core.specs.Shapes.{a_list_of, an_element_of, Stage, filters, extends, first_by_keys, one_group, in_order, Shape, one_source, visits_below, pairs_up, passes_on, no_events, shape_at}
use Rattle.plan_core.specs.Tolled.{Tolled, ends, plain}
use Rattle.plan_core.specs.TolledRows.{TolledRow, TolledValue, of_source, trees, key_value, key_values, same_value, same_values, row_node, tolled_value, tolled_restrict, all_items, piece_items, collected}
use Rattle.plan_core.specs.Typed.{IsTyped}
use Rattle.plan_core.specs.Valid.{Kind, a_node, an_element, a_list, Kinds, no_kinds, with_kind, kept, either_kind, shape_kinds, shape_inputs, shape_outs, kinds, AreNodes, IsPiece, IsSinglePiece, IsStageFit, IsShapeFit, IsValid}
use Rattle.plan_core.proofs.Bindings.{binding_expand, binding_nodes, binding_each_row, binding_only, binding_distinct, binding_sorted}
use Rattle.plan_core.proofs.BoundRows.{IsBound, value_own, value_after, fresh_differs, restrict_value, keys_restrict, nodes_with, nodes_kept}
use Rattle.plan_core.proofs.Fresh.{sides_fresh, kinds-is}
use Rattle.plan_core.proofs.Fronted.{events_contiguous}
use Rattle.plan_core.proofs.Numbers.{events-of}
use Rattle.plan_evidence.specs.Held.{shape_held, held, node_values}
use Rattle.plan_evidence.specs.Named.{of_pieces, of_group, listing, element_list}
use Rattle.plan_evidence.proofs.Evident.{each_both}
use Rattle.plan_evidence.proofs.GroupRows.{agrees, collected_shown, group_shown, stand_first, each_group}
use Rattle.plan_evidence.proofs.HeldApart.{held-of, anew, known_below}
use Rattle.plan_evidence.proofs.Makers.{number_of, IsMadeBy, made_by, number_low}
use Rattle.plan_evidence.proofs.Shown.{shown, shown_by, piece_shown, pieces_shown, Tell, list_trees, IsLow, IsListed, IsNodeIn, IsIn, IsSound, IsRow, IsWithin, keys_stay, listed_stays, list_stays, value_stays, element_label}

-- KEYS THAT TELL

module _ (docs : Documents) where
  -- keys with others after them tell the first
  tell_left : (keys more : List Key) → Tell docs (keys ++ more) keys
  tell_left [] more a b e = refl
  tell_left (k ∷ keys) more a b e =
      let s = and_parts (same_value (key_value docs a k) (key_value docs b k)) (same_values (node_values docs (keys ++ more) a) (node_values docs (keys ++ more) b)) e in
      and_from (same_value (key_value docs a k) (key_value docs b k)) (same_values (node_values docs keys a) (node_values docs keys b)) s.0 (tell_left keys more a b s.1)

  -- keys with others before them tell the last
  tell_right : (keys more : List Key) → Tell docs (keys ++ more) more
  tell_right [] more a b e = e
  tell_right (k ∷ keys) more a b e =
      tell_right keys more a b (and_parts (same_value (key_value docs a k) (key_value docs b k)) (same_values (node_values docs (keys ++ more) a) (node_values docs (keys ++ more) b)) e).1

-- ONE VARIABLE MORE

-- a variable that a binding has first has its value
value_here : (out : ℕ) (x : TolledValue) (row : TolledRow) → tolled_value ((out, x) ∷ row) out ≡ x
value_here out x row = (let own : (out == out) ≡ true = grind (arith, nat_tests) in ap (λ t. cond t x (tolled_value row out)) own)

module _ (p : PlanValue) (docs : Documents) (ks : Kinds) (keys keys' : List Key) (row : TolledRow) (out : ℕ) (kind : Kind) (x : TolledValue) (fresh : ks out ≡ None) where
  -- a binding with a new variable binds all that it did before to the same values
  within_with : IsWithin docs p.ops ks row (with_kind out kind ks) ((out, x) ∷ row)
  within_with v k e =
      let d = fresh_differs ks out v k fresh e in (ap (λ t. cond t (Some kind) (ks v)) d ∙ e, ap (λ t. cond t x (tolled_value row v)) d)

  -- each value of a binding with a new variable is as its kind says, where the new one is and each was
  sound_with : Tell docs keys' keys → IsSound docs p.ops ks keys row → IsIn docs p.ops (with_kind out kind ks) keys' ((out, x) ∷ row) out kind → IsSound docs p.ops (with_kind out kind ks) keys' ((out, x) ∷ row)
  sound_with tell sound new v k e =
      (elim (out == v) as (λ w. (out == v) ≡ w → cond w (Some kind) (ks v) ≡ Some k → IsIn docs p.ops (with_kind out kind ks) keys' ((out, x) ∷ row) v k) [
        | true ↦ λ t g.
            subst (λ j. IsIn docs p.ops (with_kind out kind ks) keys' ((out, x) ∷ row) v j) (some_is kind k g)
            (subst (λ u. IsIn docs p.ops (with_kind out kind ks) keys' ((out, x) ∷ row) u kind) (eqb-true out v t) new)
        | false ↦ λ t g. value_stays docs p.ops ks keys row (with_kind out kind ks) keys' ((out, x) ∷ row) within_with tell v k g (sound v k g)
      ]) refl e

module _ (p : PlanValue) (docs : Documents) (ks : Kinds) (keys : List Key) (row : TolledRow) (sound : IsSound docs p.ops ks keys row) (own : List Key) (nodes : AreNodes own ks) where
  -- each value of a binding cut to the variables of keys of nodes is as its kind says
  restrict_sound : IsSound docs p.ops (kept own ks) own (tolled_restrict own row)
  restrict_sound v k e =
      (elim (has_var own v) as (λ w. has_var own v ≡ w → cond w (ks v) None ≡ Some k → IsIn docs p.ops (kept own ks) own (tolled_restrict own row) v k) [
        | true ↦ λ t g.
            (let n = nodes v t in
            let h = sound v a_node n in
            subst (λ j. IsIn docs p.ops (kept own ks) own (tolled_restrict own row) v j) (some_is a_node k (sym n ∙ g))
            (record { node = h.node; is_value = restrict_value own row v t ∙ h.is_value; no_list = h.no_list; no_element = h.no_element }))
        | false ↦ λ t g. none_some k g
      ]) refl e

module _ (p : PlanValue) (docs : Documents) (kl kr : Kinds) (own more : List Key) (l r : TolledRow) (bound : IsBound kl l) (fresh : (v : ℕ) (k : Kind) → kr v ≡ Some k → kl v ≡ None) where
  -- the kinds of the variables that either side binds
  abbrev both_kinds : Kinds
  both_kinds v = either_kind (kl v) (kr v)

  -- each value of a pair of bindings is as its kind says, where each of both sides is
  pair_sound : IsSound docs p.ops kl own l → IsSound docs p.ops kr more r → IsSound docs p.ops both_kinds (own ++ more) (l ++ r)
  pair_sound left right v k e = sides (kl v) (kr v) refl refl e
    where
      in_left : IsWithin docs p.ops kl l both_kinds (l ++ r)
      in_left u j g = (ap (λ z. either_kind z (kr u)) g, value_own kl l bound u j g r)

      in_right : IsWithin docs p.ops kr r both_kinds (l ++ r)
      in_right u j g = (let f = fresh u j g in (ap (λ z. either_kind z (kr u)) f ∙ g, value_after kl l bound u f r))

      sides : (i j : Option Kind) → kl v ≡ i → kr v ≡ j → either_kind i j ≡ Some k → IsIn docs p.ops both_kinds (own ++ more) (l ++ r) v k
      sides None j f g h = value_stays docs p.ops kr more r both_kinds (own ++ more) (l ++ r) in_right (tell_right docs own more) v k (g ∙ h) (right v k (g ∙ h))
      sides (Some i) j f g h = value_stays docs p.ops kl own l both_kinds (own ++ more) (l ++ r) in_left (tell_left docs own more) v k (f ∙ h) (left v k (f ∙ h))

module _ (p : PlanValue) (valid : IsValid p) (typed : IsTyped p.ops) (docs : Documents) where
  -- each value of each binding of operator n is as its kind says
  abbrev pub AreSound : ℕ → Type 0
  AreSound n = EachBinding (IsRow docs p.ops n) (events docs p.ops n)

  -- a node that an operator binds anew is as its kind says
  node_made : (n out : ℕ) (new : Node) (row : TolledRow) → IsMadeBy p valid typed out n → listing (shape_at p.ops n) ≡ None → element_list (shape_at p.ops n) ≡ None
      → IsNodeIn docs p.ops ((out, of_source new) ∷ row) out
  node_made n out new row m l e = record {
    node = new;
    is_value = value_here out (of_source new) row;
    no_list = ap listing m.is_maker ∙ l;
    no_element = ap element_list m.is_maker ∙ e;
  }

  -- a single piece is a piece
  pub single_piece : (ks : Kinds) (q : Piece) → IsSinglePiece ks q → IsPiece ks q
  single_piece ks (var_piece v) h = (h.0, h.1)
  single_piece ks (label_piece v) h = h
  single_piece ks (text_piece label) h = tt

  -- the variable of a piece that an operator binds is made by one below another of a higher number
  pub piece_low : (n m : ℕ) → n < length p.ops → n < m → (q : Piece) → IsPiece (kinds p.ops n) q → IsLow docs p.ops m q
  piece_low n m b s (var_piece v) h = (let r = number_low p valid typed n v h.0 b h.1 in omega (arith, r, s))
  piece_low n m b s (label_piece v) h = tt
  piece_low n m b s (text_piece label) h = tt

  -- a list of pieces that an operator makes over a binding is as its kind says
  list_made : (n i : ℕ) → n < length p.ops → i < length p.ops → i < n → (out : ℕ) (pieces : List Piece) → shape_at p.ops n ≡ passes_on i (extends out (a_list_of pieces)) → kinds p.ops i out ≡ None
      → AllByRecursion (IsPiece (kinds p.ops i)) pieces → (row : TolledRow) → IsIn docs p.ops (with_kind out a_list (kinds p.ops i)) (held p.ops i) (extended docs out (a_list_of pieces) row) out a_list
  list_made n i b l s out pieces is fresh fit row =
      let m = made_by p valid typed out n b (subst (λ (f : Shape). Among out (shape_outs f)) (sym is) (inl refl)) in
      let c = m.number in
      let x : TolledValue = made_value docs (a_list_of pieces) row in
      let w = within_with p docs (kinds p.ops i) (held p.ops i) (held p.ops i) row out a_list x fresh in
      let g : IsListed docs p.ops (number_of p.ops out) (kinds p.ops i) (held p.ops i) (of_pieces pieces) =
      each_weaker (IsPiece (kinds p.ops i)) (λ q. IsPiece (kinds p.ops i) q × IsLow docs p.ops (number_of p.ops out) q) (λ q h. (h, piece_low i (number_of p.ops out) l (omega (arith, c, s)) q h)) pieces fit in
      let t : Tell docs (held p.ops i) (held p.ops i) = λ d e h. h in
      record {
        items = all_items docs pieces row (ends 0);
        listing = of_pieces pieces;
        is_value = value_here out x row;
        is_listing = ap listing m.is_maker ∙ ap listing is;
        is_listed = listed_stays docs p.ops (kinds p.ops i) (held p.ops i) row (with_kind out a_list (kinds p.ops i)) (held p.ops i) ((out, x) ∷ row) w t (number_of p.ops out) (of_pieces pieces) g;
        shows =
            pieces_shown docs row pieces
            ∙ list_stays docs p.ops (kinds p.ops i) (held p.ops i) row (with_kind out a_list (kinds p.ops i)) (held p.ops i) ((out, x) ∷ row) w t (number_of p.ops out) (of_pieces pieces) g;
      }

  -- an element that an operator makes over a binding is as its kind says
  element_made : (n i : ℕ) → n < length p.ops → i < length p.ops → i < n → (out : ℕ) (label : List ℕ) (inner : ℕ) → shape_at p.ops n ≡ passes_on i (extends out (an_element_of label inner)) → kinds p.ops i out ≡ None
      → kinds p.ops i inner ≡ Some a_list → (row : TolledRow) → IsIn docs p.ops (with_kind out an_element (kinds p.ops i)) (held p.ops i) (extended docs out (an_element_of label inner) row) out an_element
  element_made n i b l s out label inner is fresh fit row =
      let m = made_by p valid typed out n b (subst (λ (f : Shape). Among out (shape_outs f)) (sym is) (inl refl)) in
      let c = m.number in
      let x : TolledValue = made_value docs (an_element_of label inner) row in
      let w = within_with p docs (kinds p.ops i) (held p.ops i) (held p.ops i) row out an_element x fresh inner a_list fit in
      let r = number_low p valid typed i inner a_list l fit in
      record {
        label = label;
        kids = piece_items docs (var_piece inner) row (ends 0);
        inner = inner;
        is_value = value_here out x row;
        is_label = ap element_label m.is_maker ∙ ap element_label is;
        is_inner = ap element_list m.is_maker ∙ ap element_list is;
        bound = w.0;
        low = omega (arith, c, s, r);
        shows = piece_shown docs row (var_piece inner) ∙ sym (ap (shown_by docs) w.1);
      }

  -- the list of a group that an operator makes is as its kind says, where it has the trees of the input's bindings that agree with it by the keys
  group_made : (n i : ℕ) → n < length p.ops → i < length p.ops → i < n → (out : ℕ) (own : List Key) (piece : Piece) → Among out (shape_outs (shape_at p.ops n))
      → listing (shape_at p.ops n) ≡ Some (of_group i own piece) → IsSinglePiece (kinds p.ops i) piece → (ks : Kinds) → AreNodes own ks → (held_keys : List Key) → Tell docs held_keys own → AreNodes own (kinds p.ops i)
      → (row : TolledRow) (items : Tolled) → plain items ≡ list_trees docs p.ops (of_group i own piece) ((out, trees items) ∷ row)
      → IsIn docs p.ops ks held_keys ((out, trees items) ∷ row) out a_list
  group_made n i b l s out own piece among is single ks nodes held_keys here there row items shows =
      let m = made_by p valid typed out n b among in
      let c = m.number in
      record {
        items = items;
        listing = of_group i own piece;
        is_value = value_here out (trees items) row;
        is_listing = ap listing m.is_maker ∙ is;
        is_listed = record { within = l; low = omega (arith, c, s); single = single; nodes = nodes; told_here = here; nodes_there = there };
        shows = shows;
      }

  -- all bindings agree by no keys
  all_agree : (rows : List TolledRow) → filter (λ r. true) rows ≡ rows
  all_agree [] = refl
  all_agree (row ∷ rows) = ap (λ (rs : List TolledRow). row ∷ rs) (all_agree rows)

  -- each value of what a groupBy makes of the first of a group is as its kind says
  group_sound : (n i : ℕ) → n < length p.ops → i < length p.ops → i < n → (own : List Key) (group : Piece × ℕ) → shape_at p.ops n ≡ passes_on i (first_by_keys own (Some group)) → kinds p.ops i group.1 ≡ None
      → AreNodes own (kinds p.ops i) → IsSinglePiece (kinds p.ops i) group.0 → (stops : Bool) (row : TolledRow) (rest : RowEvents) → IsRow docs p.ops i row
      → (stops ≡ true → StandsFirst docs own row rest) → filter (agrees docs own row) (without_skips (events docs p.ops i)) ≡ row ∷ filter (agrees docs own row) (without_skips rest)
      → IsSound docs p.ops (with_kind group.1 a_list (kept own (kinds p.ops i))) own (group_row docs own stops group.0 group.1 row rest)
  group_sound n i b l s own group is fresh nodes single stops row rest sound first all =
      let items : Tolled = piece_items docs group.0 row (collected docs group.0 (group_after docs own stops row rest) (ends 0)) in
      let ks : Kinds = kept own (kinds p.ops i) in
      let cut : TolledRow = tolled_restrict own row in
      let free : ks group.1 ≡ None = elim (has_var own group.1) as (λ w. cond w (kinds p.ops i group.1) None ≡ None) [ true ↦ fresh | false ↦ refl ] in
      let kept_nodes : AreNodes own ks = nodes_kept (kinds p.ops i) own nodes in
      let w = within_with p docs ks own own cut group.1 a_list (trees items) free in
      let same = keys_stay docs p.ops ks own cut (with_kind group.1 a_list ks) own ((group.1, trees items) ∷ cut) w (λ d e h. h) own kept_nodes in
      let cut_same = keys_restrict docs own row in
      sound_with p docs ks own own cut group.1 a_list (trees items) free (λ d e h. h) (restrict_sound p docs (kinds p.ops i) (held p.ops i) row sound own nodes)
      (group_made n i b l s group.1 own group.0 (subst (λ (f : Shape). Among group.1 (shape_outs f)) (sym is) (inl refl)) (ap listing is) single (with_kind group.1 a_list ks)
      (nodes_with ks own group.1 a_list kept_nodes free) own (λ d e h. h) nodes cut items
      (group_shown docs own stops group.0 row rest first
      ∙ ap (joined (λ r. shown docs r group.0)) (sym all)
      ∙ ap (λ z. joined (λ r. shown docs r group.0) (filter (λ r. same_values z (key_values docs own r)) (without_skips (events docs p.ops i)))) (sym (same ∙ cut_same))))

  -- no variables are bound where there are none
  none_sound : IsSound docs p.ops no_kinds [] []
  none_sound v k e = none_some k e

  -- each value of each binding of a stage is as its kind says, where each of its input's is
  stage_sound : (n : ℕ) → n < length p.ops → (i : ℕ) → i < length p.ops → i < n → (stage : Stage) → shape_at p.ops n ≡ passes_on i stage → IsStageFit (kinds p.ops i) stage
      → AreSound i
      → EachBinding (IsSound docs p.ops (shape_kinds (passes_on i stage) (kinds p.ops)) (shape_held (passes_on i stage) (held p.ops))) (shape_events docs (front p.ops) (passes_on i stage) (events docs p.ops))
  stage_sound n b i l s (filters test) is fit h = binding_only (IsRow docs p.ops i) (λ row. passes docs test (row_node row)) (events docs p.ops i) h
  stage_sound n b i l s (extends out (a_list_of pieces)) is fit h =
      let fresh = anew p valid n b (passes_on i (extends out (a_list_of pieces))) is i out (inl refl) (inl refl) in
      binding_each_row (IsRow docs p.ops i) (IsSound docs p.ops (with_kind out a_list (kinds p.ops i)) (held p.ops i)) (extended docs out (a_list_of pieces))
      (λ row x. sound_with p docs (kinds p.ops i) (held p.ops i) (held p.ops i) row out a_list (made_value docs (a_list_of pieces) row) fresh (λ d e g. g) x (list_made n i b l s out pieces is fresh fit row))
      (events docs p.ops i) h
  stage_sound n b i l s (extends out (an_element_of label inner)) is fit h =
      let fresh = anew p valid n b (passes_on i (extends out (an_element_of label inner))) is i out (inl refl) (inl refl) in
      binding_each_row (IsRow docs p.ops i) (IsSound docs p.ops (with_kind out an_element (kinds p.ops i)) (held p.ops i)) (extended docs out (an_element_of label inner))
      (λ row x. sound_with p docs (kinds p.ops i) (held p.ops i) (held p.ops i) row out an_element (made_value docs (an_element_of label inner) row) fresh (λ d e g. g) x (element_made n i b l s out label inner is fresh fit row))
      (events docs p.ops i) h
  stage_sound n b i l s (first_by_keys own None) is fit h =
      binding_distinct (IsRow docs p.ops i) (IsSound docs p.ops (kept own (kinds p.ops i)) own) docs own (kept_row docs own (are_contiguous own (front p.ops i).vars) None)
      (λ row rest x. restrict_sound p docs (kinds p.ops i) (held p.ops i) row x own fit) [] (events docs p.ops i) h
  stage_sound n b i l s (first_by_keys own (Some group)) is fit h =
      let stops : Bool = are_contiguous own (front p.ops i).vars in
      let fresh = anew p valid n b (passes_on i (first_by_keys own (Some group))) is i group.1 (inl refl) (inl refl) in
      each_group docs own (kept_row docs own stops (Some group)) (without_skips (events docs p.ops i)) (IsRow docs p.ops i) (IsSound docs p.ops (with_kind group.1 a_list (kept own (kinds p.ops i))) own)
      (λ row rest. stops ≡ true → StandsFirst docs own row rest)
      (λ row rest x first all. group_sound n i b l s own group is fresh fit.0 fit.1 stops row rest x first all)
      [] [] (events docs p.ops i) tt refl h (stand_first docs own (front p.ops i).vars (events docs p.ops i) (events_contiguous p valid docs i))
  stage_sound n b i l s (one_group piece out) is fit h =
      let items : Tolled = collected docs piece (events docs p.ops i) (ends 0) in (
        sound_with p docs no_kinds [] [] [] out a_list (trees items) refl (λ d e g. g) none_sound
            (group_made n i b l s out [] piece (subst (λ (f : Shape). Among out (shape_outs f)) (sym is) (inl refl)) (ap listing is) fit (with_kind out a_list no_kinds) (λ v t. cc) [] (λ d e g. g) (λ v t. cc) [] items
            (collected_shown docs piece (events docs p.ops i) ∙ ap (joined (λ r. shown docs r piece)) (sym (all_agree (without_skips (events docs p.ops i)))))),
        tt,
      )
  stage_sound n b i l s (in_order v desc) is fit h = binding_sorted (IsRow docs p.ops i) _ (events docs p.ops i) h

  -- each value of each binding of a shape is as its kind says, where each of its inputs' is
  shape_sound : (n : ℕ) → n < length p.ops → (f : Shape) → shape_at p.ops n ≡ f → IsShapeFit f (kinds p.ops)
      → ((i : ℕ) → Among i (shape_inputs f) → i < n) → ((i : ℕ) → Among i (shape_inputs f) → AreSound i)
      → EachBinding (IsSound docs p.ops (shape_kinds f (kinds p.ops)) (shape_held f (held p.ops))) (shape_events docs (front p.ops) f (events docs p.ops))
  shape_sound n b (one_source s out) is fit l h =
      let m = made_by p valid typed out n b (subst (λ (f : Shape). Among out (shape_outs f)) (sym is) (inl refl)) in (
        sound_with p docs no_kinds [] (node_key out ∷ []) [] out a_node (of_source (document_node s)) refl (λ d e g. refl) none_sound (node_made n out (document_node s) [] m (ap listing is) (ap element_list is)),
        tt,
      )
  shape_sound n b (visits_below i start path out) is fit l h =
      let m = made_by p valid typed out n b (subst (λ (f : Shape). Among out (shape_outs f)) (sym is) (inl refl)) in
      let fresh = anew p valid n b (visits_below i start path out) is i out (inl refl) (inl refl) in
      let Q : TolledRow → Type 0 = IsSound docs p.ops (with_kind out a_node (kinds p.ops i)) (held p.ops i ++ node_key out ∷ []) in
      binding_expand (IsRow docs p.ops i) Q (descendants docs start path out)
      (λ row x.
      binding_nodes Q out (row_node row start) row
      (λ place. sound_with p docs (kinds p.ops i) (held p.ops i) (held p.ops i ++ node_key out ∷ []) row out a_node (of_source (record { source = (row_node row start).source; place = place })) fresh
      (tell_left docs (held p.ops i) (node_key out ∷ [])) x (node_made n out (record { source = (row_node row start).source; place = place }) row m (ap listing is) (ap element_list is)))
      (visits docs path (row_node row start)))
      (events docs p.ops i) (h i (inl refl))
  shape_sound n b (pairs_up i j tests) is fit l h =
      let si = l i (inl refl) in
      let Q : TolledRow → Type 0 = IsSound docs p.ops (λ v. either_kind (kinds p.ops i v) (kinds p.ops j v)) (held p.ops i ++ held p.ops j) in
      binding_expand (λ row. IsBound (kinds p.ops i) row × IsRow docs p.ops i row) Q (pairs docs tests (events docs p.ops j))
      (λ row x.
      binding_only Q (passes_all docs tests) (each_row (λ r. row ++ r) (events docs p.ops j))
      (binding_each_row (IsRow docs p.ops j) Q (λ r. row ++ r)
      (λ r y. pair_sound p docs (kinds p.ops i) (kinds p.ops j) (held p.ops i) (held p.ops j) row r x.0 (λ v k e. sides_fresh p valid typed n i j v k b (ap shape_inputs is) e) x.1 y)
      (events docs p.ops j) (h j (inr (inl refl)))))
      (events docs p.ops i)
      (each_both (IsBound (kinds p.ops i)) (IsRow docs p.ops i) (events docs p.ops i) (known_below p valid docs (suc i) i (omega arith) (omega (arith, si, b))).bound (h i (inl refl)))
  shape_sound n b (passes_on i stage) is fit l h = (let s = l i (inl refl) in stage_sound n b i (omega (arith, s, b)) s stage is fit (h i (inl refl)))
  shape_sound n b (no_events i made) is fit l h = tt

  -- each value of each binding of the operators below a number is as its kind says
  sound_under : (k n : ℕ) → n < k → n < length p.ops → AreSound n
  sound_under zero n h b = absurd (omega (arith, h))
  sound_under (suc k) n h b =
      let f : Shape = shape_at p.ops n in
      let inputs = typed.inputs n b in
      let low : (i : ℕ) → Among i (shape_inputs f) → i < n = λ i a. each_among (λ i. i < n) (shape_inputs f) inputs i a in
      let is = shape_sound n b f refl (typed.fit n b) low (λ i a. (let s = low i a in sound_under k i (omega (arith, s, h)) (omega (arith, s, b)))) in
      subst (λ (ks : Kinds). EachBinding (IsSound docs p.ops ks (held p.ops n)) (events docs p.ops n)) (sym (kinds-is p valid typed n b))
      (subst (λ (keys : List Key). EachBinding (IsSound docs p.ops (shape_kinds f (kinds p.ops)) keys) (events docs p.ops n)) (sym (held-of p.ops n inputs))
      (subst (EachBinding (IsSound docs p.ops (shape_kinds f (kinds p.ops)) (shape_held f (held p.ops)))) (sym (events-of docs p.ops n (op_at p.ops n) refl inputs)) is))

  -- each value of each binding of an operator is as its kind says
  pub all_sound : (n : ℕ) → n < length p.ops → AreSound n
  all_sound n b = sound_under (suc n) n (omega arith) b
