-- Turns over the pieces of a concatenation.
use Rattle.std.specs.declared.rc.Rc.{Rc}
use Rattle.std.proofs.Common.{Global, drop-cons, add-one, ◌≡◌, ◌<◌, ◌≤◌, ◌+◌, ℕ, suc, List, [], ◌∷◌, length, drop, refl, ◌∙◌, sym, ap, subst, arith}
use Rattle.std.specs.Prelude.{slice_index_or}
use Rattle.plan_core.specs.declared.plan.Piece.{Piece}
use Rattle.plan_core.specs.declared.plan.Piece.TheVariants.{Var as var_piece, LabelOf as label_piece, Text as text_piece}
use Rattle.plan_core.specs.ByNumber.{op_at}
use Rattle.plan_core.specs.Tolled.{Tolled, item, is_item, paid}
use Rattle.plan_core.specs.TolledRows.{TolledValue, tolled_value, value_trees, piece_items, all_items}
use Rattle.lazy_plan.specs.Bench.{BenchState, ops_of, documents, binding_at, size_of}
use Rattle.lazy_binding.specs.declared.position.Position.{Position}
use Rattle.plan_forms.specs.Forms.{input_at, pieces_of, piece_at, makes_list}
use Rattle.lazy_site.specs.Sizes.{piece_count, pieces_count, size, extent}
use Rattle.lazy_site.specs.Ids.{pieces_trees, Stands, IsOrigin, value_of, head_label, head_trees, IsRest, rest_trees, weight, left, pieces_size, pieces_extent}
use Rattle.lazy_site.specs.Origins.{origin_size, origin_extent, IsOriginOf, IsHeadOf}
use Rattle.lazy_site.specs.Steps.{StandsFor, GoesOn, Turns, Falls}
use Rattle.lazy_site.specs.Ways.{IsWays}
use Rattle.lazy_site.specs.Calls.{TurnsPieces}
use Rattle.lazy_site.specs.declared.sites.PiecesFrom.{PiecesFrom}
use Rattle.lazy_site.specs.declared.ways.Ways.{Ways}
use Rattle.lazy_site.proofs.Laws.{dearer_zero}
use Rattle.std.proofs.lemmas.List.{drop_all}
use Rattle.lazy_site.specs.declared.sites.Head.{Head}
use Rattle.lazy_site.specs.declared.sites.Origin.{Origin}
use Rattle.lazy_site.specs.declared.sites.Rest.{Rest, Pieces'}
use Rattle.lazy_site.specs.declared.sites.Site.TheVariants.{Item}
use Rattle.lazy_site.specs.declared.sites.Turn.{Turn}
use Rattle.lazy_site.specs.declared.sites.Turn.TheVariants.{Over, At, On}

-- a turn below a smaller number is one below a greater
turns_more : (a b : BenchState) (f : Tolled) (v w : ℕ) (t : Turn) → v ≤ w → Turns a b f v t → Turns a b f w t
turns_more a b f v w Over l h = h
turns_more a b f v w (At n) l h = h
turns_more a b f v w (On r) l h = record { rest = h.rest; falls = (let z = h.falls in omega (arith, z, l)); trees = h.trees }

-- fewer trees left than a number are fewer than any greater one
falls_more : (b : BenchState) (v w : ℕ) (t : Turn) → v ≤ w → Falls v b t → Falls w b t
falls_more b v w Over l h = tt
falls_more b v w (At n) l h = omega (arith, l, h)
falls_more b v w (On r) l h = omega (arith, l, h)

-- the elements from index i on are that at i and those from i + 1 on
one_on : {X : Type 0} (xs : List X) (i : ℕ) (d : X) → i < length xs → drop i xs ≡ slice_index_or xs i d ∷ drop (i + 1) xs
one_on xs i d h = rw add-one (drop-cons xs i d h)

module _ (st : BenchState) (op next : ℕ) (at : Position) (up : Rest) (there : next < length (pieces_of (op_at (ops_of st) op))) (s : Stands st op makes_list at) (h : IsRest st up) (q : Rc (Unit {0}) Global)
    (ways : Ways) (along : IsWays st (input_at (ops_of st) op) at ways) where
  -- the pieces from an index on are the piece there and those from the next index on
  pieces_on : drop next (pieces_of (op_at (ops_of st) op)) ≡ piece_at (ops_of st) op next ∷ drop (next + 1) (pieces_of (op_at (ops_of st) op))
  pieces_on = one_on (pieces_of (op_at (ops_of st) op)) next (text_piece []) there

  -- the trees of the pieces from an index on are those of the piece there and of the later ones
  trees_on : pieces_trees st op at next (rest_trees st up) ≡ piece_items (documents st) (piece_at (ops_of st) op next) (binding_at st (input_at (ops_of st) op) at) (pieces_trees st op at (next + 1) (rest_trees st up))
  trees_on = ap (λ (ps : List Piece). all_items (documents st) ps (binding_at st (input_at (ops_of st) op) at) (rest_trees st up)) pieces_on

  -- the count of the pieces from an index on is that of the piece there and of the later ones
  count_on : (of : ℕ → ℕ) → pieces_count of (drop next (pieces_of (op_at (ops_of st) op))) ≡ piece_count of (piece_at (ops_of st) op next) + pieces_count of (drop (next + 1) (pieces_of (op_at (ops_of st) op)))
  count_on of = ap (pieces_count of) pieces_on

  -- what is after this one is a rest
  pub rest_on : IsRest st (Pieces' op at (next + 1) ways q up)
  rest_on = (s, omega (arith, there), along, h)

  module _ (v : ℕ) (origin : Origin) (input : ℕ) (i : input ≡ input_at (ops_of st) op) (p : piece_at (ops_of st) op next ≡ var_piece v) (o : IsOriginOf st input at v origin) where
    values_on : value_trees (documents st) (value_of st origin) (rest_trees st (Pieces' op at (next + 1) ways q up)) ≡ pieces_trees st op at next (rest_trees st up)
    values_on = sym (trees_on
        ∙ ap (λ (x : Piece). piece_items (documents st) x (binding_at st (input_at (ops_of st) op) at) (pieces_trees st op at (next + 1) (rest_trees st up))) p
        ∙ ap (λ (x : TolledValue). value_trees (documents st) x (pieces_trees st op at (next + 1) (rest_trees st up))) (ap (λ (n : ℕ). tolled_value (binding_at st n at) v) (sym i) ∙ o.value))

    -- a turn into the value of a piece is one over the pieces
    var_turns : (t : Turn) → Turns st st (value_trees (documents st) (value_of st origin) (rest_trees st (Pieces' op at (next + 1) ways q up))) (suc (origin_size st origin + weight st (Pieces' op at (next + 1) ways q up))) t
        → Turns st st (pieces_trees st op at next (rest_trees st up)) (suc (pieces_size st op next + weight st up)) t
    var_turns t w =
        let c = count_on (λ v. suc (size (ops_of st) (input_at (ops_of st) op) v)) in
        let d = ap (piece_count (λ v. suc (size (ops_of st) (input_at (ops_of st) op) v))) p in
        let e : origin_size st origin ≤ size (ops_of st) (input_at (ops_of st) op) v = subst (λ (n : ℕ). origin_size st origin ≤ size (ops_of st) n v) i o.size in
        turns_more st st (pieces_trees st op at next (rest_trees st up)) _ _ t (omega (arith, c, d, e))
        (subst (λ (f : Tolled). Turns st st f (suc (origin_size st origin + weight st (Pieces' op at (next + 1) ways q up))) t) values_on w)

    -- a turn into the value of a variable, with the other pieces after it as a rest, is a turn over the pieces
    pub var_turned : (x : Rest) → x ≡ Pieces' op at (next + 1) ways q up → (t : Turn)
        → (IsOrigin st origin → IsRest st x → Turns st st (value_trees (documents st) (value_of st origin) (rest_trees st x)) (suc (origin_size st origin + weight st x)) t)
        → Turns st st (pieces_trees st op at next (rest_trees st up)) (suc (pieces_size st op next + weight st up)) t
    var_turned x e t f =
        var_turns t (subst (λ (r : Rest). Turns st st (value_trees (documents st) (value_of st origin) (rest_trees st r)) (suc (origin_size st origin + weight st r)) t) e
        (f o.origin (subst (λ (r : Rest). IsRest st r) (sym e) rest_on)))

    var_falls : (t : Turn) → Falls (origin_extent st origin + left st (Pieces' op at (next + 1) ways q up)) st t
        → Falls (pieces_extent st op next + left st up) st t
    var_falls t w =
        let c = count_on (extent (size_of st) (ops_of st) (input_at (ops_of st) op)) in
        let d = ap (piece_count (extent (size_of st) (ops_of st) (input_at (ops_of st) op))) p in
        let e : origin_extent st origin ≤ extent (size_of st) (ops_of st) (input_at (ops_of st) op) v = subst (λ (n : ℕ). origin_extent st origin ≤ extent (size_of st) (ops_of st) n v) i o.extent in
        falls_more st _ _ t (omega (arith, c, d, e)) w

    -- after a turn into the value of a variable, with the other pieces after it as a rest, as many trees are left as after one over the pieces
    pub var_fallen : (x : Rest) → x ≡ Pieces' op at (next + 1) ways q up → (t : Turn) → (IsOrigin st origin → IsRest st x → Falls (origin_extent st origin + left st x) st t)
        → Falls (pieces_extent st op next + left st up) st t
    var_fallen x e t f =
        var_falls t (subst (λ (r : Rest). Falls (origin_extent st origin + left st r) st t) e (f o.origin (subst (λ (r : Rest). IsRest st r) (sym e) rest_on)))

  module _ (x : Head) (k : IsHeadOf st op next at x) where
    -- the tree of a piece that is no list is the first of the pieces
    pub head_stands : (r : Rc Rest Global) → r.value ≡ Pieces' op at (next + 1) ways q up → StandsFor st st (pieces_trees st op at next (rest_trees st up)) (Item x r)
    head_stands r e =
        let z = trees_on ∙ k.trees (pieces_trees st op at (next + 1) (rest_trees st up)) in
        record {
          node = (k.head, subst (λ (w : Rest). IsRest st w) (sym e) rest_on);
          here = λ y. ap (λ (w : Rest). item 0 (head_label st x) (head_trees st x) (rest_trees st w)) e ∙ sym (ap paid z);
          tree = λ y. ap is_item z;
        }

    pub head_falls : ((v : ℕ) → piece_at (ops_of st) op next ≡ var_piece v → ⊥) → (r : Rest) → r ≡ Pieces' op at (next + 1) ways q up
        → left st r < pieces_extent st op next + left st up
    head_falls other r e =
        let c = count_on (extent (size_of st) (ops_of st) (input_at (ops_of st) op)) in
        let l = ap (left st) e in
        let d = one (piece_at (ops_of st) op next) other in
        omega (arith, c, d, l)
      where
        one : (p : Piece) → ((v : ℕ) → p ≡ var_piece v → ⊥) → piece_count (extent (size_of st) (ops_of st) (input_at (ops_of st) op)) p ≡ 1
        one (var_piece v) f = absurd (f v refl)
        one (label_piece v) f = refl
        one (text_piece l) f = refl

-- a piece that is not after the last one
pub there_is : (n m r k : ℕ) → n ≤ m → r ≡ k → k ≡ m → (n ≡ r → ⊥) → n < m
there_is n m r k l e p d = omega (arith, l, e, p, d)

-- a turn over a rest is one over the pieces that it begins with
pub rest_turns : (st : BenchState) (x : Rest) (from : PiecesFrom) (ways : Ways) (q : _) (up : Rest) (t : Turn) → x ≡ Pieces' from.op from.at.now from.next ways q up → IsRest st x
    → TurnsPieces st from ways up t → Turns st st (rest_trees st x) (weight st x) t
rest_turns st x from ways q up t e h f =
    let k = subst (λ (r : Rest). IsRest st r) e h in
    subst (λ (r : Rest). Turns st st (rest_trees st r) (weight st r) t) (sym e) (f (record { stands = k.0; next = k.1; along = k.2; after = k.3 }))

-- after the last piece of a concatenation comes what is after them all
pub over_pieces : (st : BenchState) (op next : ℕ) (at : Position) (up r : Rest) → next ≡ length (pieces_of (op_at (ops_of st) op)) → r ≡ up → IsRest st up
    → GoesOn st st (pieces_trees st op at next (rest_trees st up)) (suc (pieces_size st op next + weight st up)) r
over_pieces st op next at up r n e h =
    let none : drop next (pieces_of (op_at (ops_of st) op)) ≡ [] = drop_all next (pieces_of (op_at (ops_of st) op)) (omega (arith, n)) in
    let w = ap (weight st) e in
    record {
      rest = subst (IsRest st) (sym e) h;
      falls = omega (arith, w);
      trees = λ t. (
        0,
        ap (λ (ps : List Piece). all_items (documents st) ps (binding_at st (input_at (ops_of st) op) at) (rest_trees st up)) none
            ∙ ap (rest_trees st) (sym e) ∙ sym (dearer_zero (rest_trees st r)),
        λ f. omega arith,
      );
    }
