-- What operators bind anew, list and are made of, as levels choose by it.
use Rattle.std.proofs.Common.{◌≡◌, ℕ, zero, suc, ◌<◌, ◌≤◌, true, false, cond, List, [], ◌∷◌, Option, Some, None, refl, sym, ap, subst, ◌∙◌, arith, length}
use Rattle.std.specs.Prelude.{Bool, ◌==◌, IfSome, slice_get, slice_index_or}
use Rattle.std.specs.List.{AllByRecursion, list_any}
use Rattle.std.proofs.lemmas.Bool.{eqb-true}
use Rattle.std.proofs.lemmas.Bool.Decides.{nat_tests}
use Rattle.std.specs.declared.alloc.Global.{Global}
use Rattle.std.specs.declared.vec.Vec.{Vec}
use Rattle.mix_base.proofs.Choices.{some_is}
use Rattle.mix_tree.specs.declared.var.Key.{Key}
use Rattle.mix_tree.specs.declared.var.Var.{Var}
use Rattle.node_text.specs.Node.{LevelValue}
use Rattle.plan_core.specs.declared.plan.Op.{Op}
use Rattle.plan_core.specs.declared.plan.Op.TheVariants as op
use Rattle.plan_core.specs.declared.plan.Piece.{Piece}
use Rattle.plan_core.specs.declared.plan.Piece.TheVariants.{Var as var_piece, Text as text_piece}
use Rattle.plan_core.specs.ByNumber.{op_at}
use Rattle.plan_core.specs.PlanMade.{op_of}
use Rattle.plan_core.specs.Plans.{Operator, source, get_descendants, join, over, tuple_destroy, PlanValue}
use Rattle.plan_core.specs.Unary.{select, order_by, project, group_by, concatenate, create_element}
use Rattle.plan_core.specs.Shapes.{shape_of, shape_at}
use Rattle.plan_core.specs.Typed.{IsTyped}
use Rattle.plan_core.specs.Valid.{Kind, a_list, AreNodes, Kinds, kinds, outs_of, IsFit, inputs_of, IsPiece, IsSinglePiece, IsValid}
use Rattle.plan_core.proofs.Groups.{fit_group}
use Rattle.plan_evidence.specs.Named.{Listing, of_pieces, of_group, maker, listing, element_list, list_of}
use Rattle.plan_evidence.proofs.Makers.{number_of, number_low}
use Rattle.plan_forms.specs.Forms.{pieces_of, piece_at, input_of, input_at, keys_of, IsWritten}
use Rattle.lazy_follow.proofs.Nodes.{get_there, get_past}
use Rattle.lazy_follow.specs.Choosing.{HasPiece, MakesPieces, MakesGroups, NoneMakes, IsListBy}
use Rattle.lazy_follow.specs.Following.{Choice, nothing, a_tree, a_member, a_list_among, without_places, value_choice, piece_choice, choice}

-- WHICH OPERATOR BINDS A VARIABLE ANEW

-- the first operator that binds a variable anew is its maker
pub maker_first : (ops : List Operator) (v i : ℕ) → i < length ops → NoneMakes ops i v → list_any (λ w. w == v) (outs_of (op_at ops i)) ≡ true → maker ops v ≡ shape_at ops i
maker_first [] v i b n e = absurd (omega (arith, b))
maker_first (o ∷ ops) v zero b n e = ap (λ (t : Bool). cond t (shape_of o) (maker ops v)) e
maker_first (o ∷ ops) v (suc i) b n e =
    ap (λ (t : Bool). cond t (shape_of o) (maker ops v)) (n 0 (omega arith)) ∙ maker_first ops v i (omega (arith, b)) (λ j l. n (suc j) (omega (arith, l))) e

-- the operator of a variable's number binds it anew
number_binds : (ops : List Operator) (v : ℕ) → number_of ops v < length ops → list_any (λ w. w == v) (outs_of (op_at ops (number_of ops v))) ≡ true
number_binds [] v b = absurd (omega (arith, b))
number_binds (o ∷ ops) v b =
    (elim (list_any (λ w. w == v) (outs_of o)) as (λ t. list_any (λ w. w == v) (outs_of o) ≡ t → list_any (λ w. w == v) (outs_of (op_at (o ∷ ops) (cond t 0 (suc (number_of ops v))))) ≡ true) [
      | true ↦ λ e. e
      | false ↦ λ e.
          (let z : number_of (o ∷ ops) v ≡ suc (number_of ops v) = ap (λ (t : Bool). cond t 0 (suc (number_of ops v))) e in
          number_binds ops v (omega (arith, z, b)))
    ]) refl

-- a variable that an operator binds is made by one of no greater number
pub made_below : (p : PlanValue) → IsValid p → IsTyped p.ops → (i k v : ℕ) (kind : Kind) → i < k → k ≤ length p.ops → kinds p.ops i v ≡ Some kind → NoneMakes p.ops k v → ⊥
made_below p valid typed i k v kind l b e n =
    let low = number_low p valid typed i v kind (omega (arith, l, b)) e in
    let x : true ≡ false = sym (number_binds p.ops v (omega (arith, low, l, b))) ∙ n (number_of p.ops v) (omega (arith, low, l)) in
    let f : ⊥ = cc in f

-- WHAT OPERATORS LIST

-- the list of a groupBy, be there keys or none
group_lists : (input : ℕ) (keys : List Key) (piece : Piece) (out : ℕ) → listing (shape_of (over input (group_by keys piece out))) ≡ Some (of_group input keys piece)
group_lists input [] piece out = refl
group_lists input (k ∷ keys) piece out = refl

-- no groupBy makes elements
group_written : (input : ℕ) (keys : List Key) (piece : Piece) (out : ℕ) → IsWritten (over input (group_by keys piece out))
group_written input [] piece out = λ e. (let f : ⊥ = cc in f)
group_written input (k ∷ keys) piece out = λ e. (let f : ⊥ = cc in f)

module _ (ops : List Operator) (n : ℕ) (within : n < length ops) where
  -- a groupBy makes groups
  pub group_makes : (input : ℕ) (keys : List Key) (piece : Piece) (out : ℕ) → op_at ops n ≡ over input (group_by keys piece out) → MakesGroups ops n
  group_makes input keys piece out e = record {
    within = within;
    listed =
        ap (λ (o : Operator). listing (shape_of o)) e ∙ group_lists input keys piece out
        ∙ ap (λ (o : Operator). Some (of_group (input_of o) (keys_of o) (slice_index_or (pieces_of o) 0 (text_piece [])))) (sym e);
    has_piece = record {
      within = within;
      there = subst (λ (o : Operator). 0 < length (pieces_of o)) (sym e) (omega arith);
      written = subst IsWritten (sym e) (group_written input keys piece out);
    };
  }

  -- a concatenate makes lists of its pieces
  pub pieces_makes : (input : ℕ) (pieces : List Piece) (out : ℕ) → op_at ops n ≡ over input (concatenate pieces out) → MakesPieces ops n
  pieces_makes input pieces out e = record { within = within; listed = ap (λ (o : Operator). listing (shape_of o)) e ∙ ap (λ (o : Operator). Some (of_pieces (pieces_of o))) (sym e) }

-- an operator that is neither a groupBy nor a concatenate makes no list
pub no_list : (o : Op) → ((i : ℕ) (keys : Vec Key Global) (x : Piece) (v : Var) → o ≡ op.GroupBy i keys x v → ⊥) → ((i : ℕ) (pieces : Vec Piece Global) (v : Var) → o ≡ op.Concatenate i pieces v → ⊥) → listing (shape_of (op_of o)) ≡ None
no_list (op.Source s v) g c = refl
no_list (op.GetDescendants i v path u) g c = refl
no_list (op.Select i t) g c = refl
no_list (op.Join l r ts) g c = refl
no_list (op.Project i keys) g c = refl
no_list (op.GroupBy i keys x v) g c = absurd (g i keys x v refl)
no_list (op.OrderBy i v desc) g c = refl
no_list (op.Concatenate i pieces v) g c = absurd (c i pieces v refl)
no_list (op.CreateElement i label list v) g c = refl
no_list (op.TupleDestroy i v) g c = refl

-- an operator that is no createElement makes no element
pub no_element : (o : Op) → ((i : ℕ) (label : List ℕ) (list out : Var) → o ≡ op.CreateElement i label list out → ⊥) → element_list (shape_of (op_of o)) ≡ None
no_element (op.Source s v) c = refl
no_element (op.GetDescendants i v path u) c = refl
no_element (op.Select i t) c = refl
no_element (op.Join l r ts) c = refl
no_element (op.Project i keys) c = refl
no_element (op.GroupBy i keys x v) c = none keys.items
  where
    none : (ks : List Key) → element_list (shape_of (over i (group_by ks x v))) ≡ None
    none [] = refl
    none (k ∷ ks) = refl
no_element (op.OrderBy i v desc) c = refl
no_element (op.Concatenate i pieces v) c = refl
no_element (op.CreateElement i label list v) c = absurd (c i label list v refl)
no_element (op.TupleDestroy i v) c = refl

-- PIECES

-- the member of a list at an index is as each
at_place : {X : Type 0} (P : X → Type 0) (xs : List X) (i : ℕ) (d : X) → AllByRecursion P xs → i < length xs → P (slice_index_or xs i d)
at_place P [] i d h b = absurd (omega (arith, b))
at_place P (x ∷ xs) zero d h b = h.0
at_place P (x ∷ xs) (suc i) d h b = at_place P xs i d h.1 (omega (arith, b))

-- a single piece that is a variable's value is bound
single_bound : (ks : Kinds) (v : ℕ) → IsSinglePiece ks (var_piece v) → (k : Kind) × (ks v ≡ Some k)
single_bound ks v h = (h.0, h.1)

-- a piece of an operator is of a variable that its input binds, and the input is below it
pub piece_bound : (o : Operator) (of : ℕ → Kinds) (index v : ℕ) → IsFit o of → index < length (pieces_of o) → IsWritten o → slice_index_or (pieces_of o) index (text_piece []) ≡ var_piece v
    → (k : Kind) × (of (input_of o) v ≡ Some k)
piece_bound (source s out) of index v fit b w e = absurd (omega (arith, b))
piece_bound (get_descendants i start path out) of index v fit b w e = absurd (omega (arith, b))
piece_bound (join l r tests) of index v fit b w e = absurd (omega (arith, b))
piece_bound (over i (select test)) of index v fit b w e = absurd (omega (arith, b))
piece_bound (over i (order_by u desc)) of index v fit b w e = absurd (omega (arith, b))
piece_bound (over i (project keys)) of index v fit b w e = absurd (omega (arith, b))
piece_bound (over i (group_by keys piece out)) of zero v fit b w e = single_bound (of i) v (subst (IsSinglePiece (of i)) e (fit_group keys piece out (of i) fit).1)
piece_bound (over i (group_by keys piece out)) of (suc index) v fit b w e = absurd (omega (arith, b))
piece_bound (over i (concatenate pieces out)) of index v fit b w e = subst (IsPiece (of i)) e (at_place (IsPiece (of i)) pieces index (text_piece []) fit b)
piece_bound (over i (create_element label list out)) of index v fit b w e = absurd (w refl)
piece_bound (tuple_destroy i made) of index v fit b w e = absurd (omega (arith, b))

-- an operator with a piece has an input below it
pub piece_input : (o : Operator) (index n : ℕ) → index < length (pieces_of o) → AllByRecursion (λ i. i < n) (inputs_of o) → input_of o < n
piece_input (source s out) index n b h = absurd (omega (arith, b))
piece_input (get_descendants i start path out) index n b h = h.0
piece_input (join l r tests) index n b h = h.0
piece_input (over i u) index n b h = h.0
piece_input (tuple_destroy i made) index n b h = h.0

-- CHOICES

-- a level without places chooses as is said
pub bare_is : (places : List (List ℕ)) (c : Choice) → true ≡ (length places == 0) → without_places places c ≡ c
bare_is [] c e = refl
bare_is (p ∷ places) c e = (let x : (suc (length places) == 0) ≡ true = sym e in absurd (grind (arith, nat_tests, x)))

-- a level with places chooses nothing
pub not_bare : (places : List (List ℕ)) (c : Choice) → false ≡ (length places == 0) → without_places places c ≡ nothing
not_bare [] c e = (let x : (0 == 0) ≡ false = sym e in absurd (grind (arith, nat_tests, x)))
not_bare (p ∷ places) c e = refl

-- the list of a variable that an operator makes
pub list_by : (ops : List Operator) (v i : ℕ) → maker ops v ≡ shape_at ops i → list_of ops v ≡ listing (shape_at ops i)
list_by ops v i e = ap listing e

-- LISTS BY THEIR OPERATORS

-- where there is no list, none makes it
pub no_list_by : (ops : List Operator) (o : Option Listing) → o ≡ None → IsListBy ops o None
no_list_by ops o e = subst (λ (x : Option Listing). IsListBy ops x None) (sym e) refl

-- a list that an operator makes is made by it
pub is_list_by : (ops : List Operator) (n : ℕ) (list : Listing) (o : Option Listing) → n < length ops → listing (shape_at ops n) ≡ Some list → o ≡ Some list → IsListBy ops o (Some n)
is_list_by ops n list o b h e = subst (λ (x : Option Listing). IsListBy ops x (Some n)) (sym e) (b, h)

-- a variable that an operator makes is bound by an operator of the plan of a number below
abbrev pub IsBoundBelow : List Operator → ℕ → ℕ → Type 0
IsBoundBelow ops below v = (i : ℕ) × (k : Kind) × (i < below) × (kinds ops i v ≡ Some k)

-- a variable that is bound below an operator is made below it
pub made_under : (p : PlanValue) → IsValid p → IsTyped p.ops → (k v : ℕ) → k < length p.ops → IsBoundBelow p.ops k v → NoneMakes p.ops k v → ⊥
made_under p valid typed k v b h n = made_below p valid typed h.0 k v h.1 h.2 (omega (arith, b)) h.3 n

-- the variable of a piece is bound below its operator
pub piece_under : (p : PlanValue) → IsTyped p.ops → (n index v : ℕ) → HasPiece p.ops n index → piece_at p.ops n index ≡ var_piece v → IsBoundBelow p.ops n v
piece_under p typed n index v h e =
    let k = piece_bound (op_at p.ops n) (kinds p.ops) index v (typed.fit n h.within) h.there h.written e in
    (input_at p.ops n, k.0, piece_input (op_at p.ops n) index n h.there (typed.inputs n h.within), k.1)

-- the variable of a piece is bound by the input of its operator
pub piece_bound_in : (p : PlanValue) → IsTyped p.ops → (n index v : ℕ) → HasPiece p.ops n index → piece_at p.ops n index ≡ var_piece v → (k : Kind) × (input_at p.ops n < n) × (kinds p.ops (input_at p.ops n) v ≡ Some k)
piece_bound_in p typed n index v h e =
    (let k = piece_bound (op_at p.ops n) (kinds p.ops) index v (typed.fit n h.within) h.there h.written e in
    (k.0, piece_input (op_at p.ops n) index n h.there (typed.inputs n h.within), k.1))

-- the list of an element is bound below its operator
pub element_under : (p : PlanValue) → IsTyped p.ops → (n input : ℕ) (label : List ℕ) (list out : ℕ) → n < length p.ops → op_at p.ops n ≡ over input (create_element label list out) → IsBoundBelow p.ops n list
element_under p typed n input label list out b e =
    let fit : IsFit (over input (create_element label list out)) (kinds p.ops) = subst (λ (o : Operator). IsFit o (kinds p.ops)) e (typed.fit n b) in
    let low : AllByRecursion (λ i. i < n) (inputs_of (over input (create_element label list out))) = subst (λ (o : Operator). AllByRecursion (λ i. i < n) (inputs_of o)) e (typed.inputs n b) in
    (input, a_list, low.0, fit)

-- what is chosen of a variable of which no list is made
pub tree_chosen : (v : ℕ) (places : List (List ℕ)) (o : Option Listing) → o ≡ None → value_choice v places o ≡ without_places places (a_tree (var_piece v))
tree_chosen v places o e = ap (value_choice v places) e

-- what is chosen of a variable of which a list of pieces is made
pub among_chosen : (v : ℕ) (places : List (List ℕ)) (o : Option Listing) (inner : List Piece) → o ≡ Some (of_pieces inner) → value_choice v places o ≡ without_places places (a_list_among inner)
among_chosen v places o inner e = ap (value_choice v places) e

-- CHOICES OF LISTS

-- the list of a groupBy by itself has a piece 0
pub first_chosen : (ops : List Operator) (l : Listing) (n : ℕ) (keys : List Key) (piece : Piece) (level : LevelValue) → Some l ≡ Some (of_group n keys piece) → level.piece ≡ 0 → choice ops l level ≡ a_member n keys piece
first_chosen ops l n keys piece level e z =
    ap (λ (x : Listing). choice ops x level) (some_is l (of_group n keys piece) e) ∙ (let t : (level.piece == 0) ≡ true = grind (arith, nat_tests, z) in ap (λ (b : Bool). cond b (a_member n keys piece) nothing) t)

-- it has no other piece
pub later_chosen : (ops : List Operator) (l : Listing) (n : ℕ) (keys : List Key) (piece : Piece) (level : LevelValue) → Some l ≡ Some (of_group n keys piece) → (level.piece ≡ 0 → ⊥) → choice ops l level ≡ nothing
later_chosen ops l n keys piece level e z =
    ap (λ (x : Listing). choice ops x level) (some_is l (of_group n keys piece) e) ∙ ap (λ (b : Bool). cond b (a_member n keys piece) nothing) (off (level.piece == 0) refl)
  where
    off : (t : Bool) → (level.piece == 0) ≡ t → t ≡ false
    off true q = absurd (z (eqb-true level.piece 0 q))
    off false q = refl

-- past the last piece nothing is chosen
pub past_chosen : (ops : List Operator) (l : Listing) (pieces : List Piece) (level : LevelValue) → Some l ≡ Some (of_pieces pieces) → length pieces ≤ level.piece → choice ops l level ≡ nothing
past_chosen ops l pieces level e h = ap (λ (x : Listing). choice ops x level) (some_is l (of_pieces pieces) e) ∙ ap (piece_choice ops level.tuple) (sym (get_past pieces level.piece h))

-- what is chosen of a list of pieces is what is of the piece at the index
pub there_chosen : (ops : List Operator) (l : Listing) (pieces : List Piece) (level : LevelValue) → Some l ≡ Some (of_pieces pieces) → (i : ℕ) → i ≡ level.piece → i < length pieces
    → choice ops l level ≡ piece_choice ops level.tuple (Some (slice_index_or pieces i (text_piece [])))
there_chosen ops l pieces level e i q h =
    ap (λ (x : Listing). choice ops x level) (some_is l (of_pieces pieces) e)
    ∙ ap (piece_choice ops level.tuple) (ap (slice_get pieces) (sym q) ∙ sym (get_there pieces i (text_piece []) h))

-- the keys of an operator are of nodes that its input binds
pub keys_there : (o : Operator) (of : ℕ → Kinds) → IsFit o of → AreNodes (keys_of o) (of (input_of o))
keys_there (source s out) of fit = λ v e. cc
keys_there (get_descendants i start path out) of fit = λ v e. cc
keys_there (join l r tests) of fit = λ v e. cc
keys_there (over i (select test)) of fit = λ v e. cc
keys_there (over i (order_by u desc)) of fit = λ v e. cc
keys_there (over i (project keys)) of fit = λ v e. cc
keys_there (over i (group_by keys piece out)) of fit = (fit_group keys piece out (of i) fit).0
keys_there (over i (concatenate pieces out)) of fit = λ v e. cc
keys_there (over i (create_element label list out)) of fit = λ v e. cc
keys_there (tuple_destroy i made) of fit = λ v e. cc

-- what holds of a value that is there holds as what follows from it
pub some_at : (r : Option ℕ) (P Q : ℕ → Type 0) → ((n : ℕ) → P n → Q n) → IfSome r P → IfSome r Q
some_at None P Q f h = tt
some_at (Some n) P Q f h = f n h
