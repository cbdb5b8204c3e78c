-- The tests of operators decide what a valid plan needs of them.
use Rattle.std.proofs.Common.{◌≡◌, ◌∙◌, ◌==◌, ◌||◌, not, ℕ, Bool, true, false, List, [], ◌∷◌, Option, Some, None, refl, sym, ap, arith}
use Rattle.std.proofs.lemmas.Bool.{eq-eqb}
use Rattle.std.specs.List.{AllByRecursion, list_all}
use Rattle.mix_base.proofs.Choices.{and_parts, and_both, number_is}
use Rattle.mix_tree.specs.Comparisons.{compares_nodes}
use Rattle.mix_tree.specs.Keys.{key_var, has_var}
use Rattle.mix_tree.specs.declared.var.Key.{Key}
use Rattle.mix_tree.specs.declared.comparing.Operand.{Operand}
use Rattle.mix_tree.specs.declared.comparing.Operand.TheVariants.{Var as var_operand, Text as text_operand}
use Rattle.mix_tree.specs.declared.comparing.Test.{Test}
use Rattle.mix_tree.specs.declared.comparing.TestOp.{TestOp}
use Rattle.plan_core.specs.declared.plan.Piece.{Piece}
use Rattle.plan_core.specs.declared.plan.Piece.TheVariants.{Var as var_piece, LabelOf as label_piece, Text as text_piece}
use Rattle.plan_core.specs.Shapes.{a_list_of, an_element_of, Stage, filters, extends, first_by_keys, one_group, in_order, Shape, one_source, visits_below, pairs_up, passes_on, no_events, shape_of}
use Rattle.plan_core.specs.Valid.{Kind, a_node, an_element, a_list, Kinds, either_kind, AreNodes, IsPiece, IsSinglePiece, IsOperand, IsTest, IsStageFit, IsShapeFit, shape_inputs}
use Rattle.plan_read.specs.Checks.{IsShort}
use Rattle.plan_read.specs.Scopes.{is_a_node, is_a_kind, is_no_list, is_a_made, is_a_list, keys_fit, operand_fits, test_fits, piece_fits, single_fits, stage_fits, shape_fits, kinds_below, FitIsDecided}

-- a kind that is tested to be a source node's is it
node_is : (o : Option Kind) → is_a_node o ≡ true → o ≡ Some a_node
node_is None h = cc
node_is (Some a_node) h = refl
node_is (Some an_element) h = cc
node_is (Some a_list) h = cc

-- a kind that is tested to be a made element's is it
made_is : (o : Option Kind) → is_a_made o ≡ true → o ≡ Some an_element
made_is None h = cc
made_is (Some a_node) h = cc
made_is (Some an_element) h = refl
made_is (Some a_list) h = cc

-- a kind that is tested to be a list's is it
list_is : (o : Option Kind) → is_a_list o ≡ true → o ≡ Some a_list
list_is None h = cc
list_is (Some a_node) h = cc
list_is (Some an_element) h = cc
list_is (Some a_list) h = refl

-- where a variable is tested to have a kind, it has one
kind_is : (o : Option Kind) → is_a_kind o ≡ true → (k : Kind) × (o ≡ Some k)
kind_is None h = cc
kind_is (Some k) h = (k, refl)

-- where a variable is tested to have a kind that isn't a list's, it has one, which isn't
single_is : (o : Option Kind) → is_no_list o ≡ true → (k : Kind) × (o ≡ Some k) × (k ≡ a_list → ⊥)
single_is None h = cc
single_is (Some a_node) h = (a_node, refl, λ e. cc)
single_is (Some an_element) h = (an_element, refl, λ e. cc)
single_is (Some a_list) h = cc

-- a kind that isn't a list's is tested not to be one's
single_test : (o : Option Kind) (k : Kind) → o ≡ Some k → (k ≡ a_list → ⊥) → is_no_list o ≡ true
single_test o a_node e h = ap is_no_list e
single_test o an_element e h = ap is_no_list e
single_test o a_list e h = absurd (h refl)

-- what a test decides of each member
pub all_holds : {X : Type 0} (p : X → Bool) (P : X → Type 0) → ((x : X) → p x ≡ true → P x) → (xs : List X) → list_all p xs ≡ true → AllByRecursion P xs
all_holds p P f [] h = tt
all_holds p P f (x ∷ xs) h = let parts = and_parts (p x) (list_all p xs) h in (f x parts.0, all_holds p P f xs parts.1)

-- where a property of each member decides a test, members that all have it all pass the test
pub all_tests : {X : Type 0} (p : X → Bool) (P : X → Type 0) → ((x : X) → P x → p x ≡ true) → (xs : List X) → AllByRecursion P xs → list_all p xs ≡ true
all_tests p P f [] h = refl
all_tests p P f (x ∷ xs) h = and_both (p x) (list_all p xs) (f x h.0) (all_tests p P f xs h.1)

-- keys that are tested to be of source nodes are of such
keys_hold : (kinds : Kinds) (keys : List Key) → keys_fit kinds keys ≡ true → AreNodes keys kinds
keys_hold kinds [] h v m = cc
keys_hold kinds (k ∷ keys) h v m =
    let parts = and_parts (is_a_node (kinds (key_var k))) (keys_fit kinds keys) h in
    by_key (key_var k == v) refl m (node_is (kinds (key_var k)) parts.0) (keys_hold kinds keys parts.1 v)
  where
    by_key : (b : Bool) → (key_var k == v) ≡ b → (b || has_var keys v) ≡ true → kinds (key_var k) ≡ Some a_node → (has_var keys v ≡ true → kinds v ≡ Some a_node) → kinds v ≡ Some a_node
    by_key true e m here more = ap kinds (number_is (key_var k) v e) ∙ here
    by_key false e m here more = more m

-- keys of source nodes are tested to be such
keys_test : (kinds : Kinds) (keys : List Key) → AreNodes keys kinds → keys_fit kinds keys ≡ true
keys_test kinds [] h = refl
keys_test kinds (k ∷ keys) h =
    and_both (is_a_node (kinds (key_var k))) (keys_fit kinds keys) (ap is_a_node (h (key_var k) (ap (λ b. b || has_var keys (key_var k)) (same (key_var k)))))
    (keys_test kinds keys (λ v m. h v (after (key_var k == v) (has_var keys v) m)))
  where
    same : (n : ℕ) → (n == n) ≡ true
    same n = eq-eqb n n refl

    after : (b c : Bool) → c ≡ true → (b || c) ≡ true
    after true c h = refl
    after false c h = h

-- an operand that is tested to be one that can be compared with is such a one
operand_holds : (kinds : Kinds) (op : TestOp) (o : Operand) → operand_fits kinds op o ≡ true → IsOperand kinds op o
operand_holds kinds op (var_operand v) h = node_is (kinds v) h
operand_holds kinds op (text_operand l) h = by_nodes (compares_nodes op) h
  where
    by_nodes : (b : Bool) → not b ≡ true → b ≡ false
    by_nodes true h = sym h
    by_nodes false h = refl

-- an operand that can be compared with is tested to be such a one
operand_test : (kinds : Kinds) (op : TestOp) (o : Operand) → IsOperand kinds op o → operand_fits kinds op o ≡ true
operand_test kinds op (var_operand v) h = ap is_a_node h
operand_test kinds op (text_operand l) h = ap not h

-- a comparison that is tested to use what is bound, of the kind that it needs, does so
test_holds : (kinds : Kinds) (t : Test) → test_fits kinds t ≡ true → IsTest kinds t
test_holds kinds t h =
    let parts = and_parts (operand_fits kinds t.op t.right) (is_a_node (kinds t.left)) h in
    (node_is (kinds t.left) parts.1, operand_holds kinds t.op t.right parts.0)

-- a comparison that uses what is bound, of the kind that it needs, is tested to do so
test_test : (kinds : Kinds) (t : Test) → IsTest kinds t → test_fits kinds t ≡ true
test_test kinds t h = and_both (operand_fits kinds t.op t.right) (is_a_node (kinds t.left)) (operand_test kinds t.op t.right h.1) (ap is_a_node h.0)

-- a piece that is tested to use what is bound, of the kind that it needs, does so
piece_holds : (kinds : Kinds) (p : Piece) → piece_fits kinds p ≡ true → IsPiece kinds p
piece_holds kinds (var_piece v) h = kind_is (kinds v) h
piece_holds kinds (label_piece v) h = node_is (kinds v) h
piece_holds kinds (text_piece l) h = tt

-- a piece that uses what is bound, of the kind that it needs, is tested to do so
piece_test : (kinds : Kinds) (p : Piece) → IsPiece kinds p → piece_fits kinds p ≡ true
piece_test kinds (var_piece v) (k, e) = ap is_a_kind e
piece_test kinds (label_piece v) h = ap is_a_node h
piece_test kinds (text_piece l) h = refl

-- a piece that is tested to be of what is bound and no list is so
group_holds : (kinds : Kinds) (p : Piece) → single_fits kinds p ≡ true → IsSinglePiece kinds p
group_holds kinds (var_piece v) h = single_is (kinds v) h
group_holds kinds (label_piece v) h = node_is (kinds v) h
group_holds kinds (text_piece l) h = tt

-- a piece of what is bound that is no list is tested to be so
group_test : (kinds : Kinds) (p : Piece) → IsSinglePiece kinds p → single_fits kinds p ≡ true
group_test kinds (var_piece v) (k, e, n) = single_test (kinds v) k e n
group_test kinds (label_piece v) h = ap is_a_node h
group_test kinds (text_piece l) h = refl

-- a stage that is tested to use what is bound, of the kind that it needs, does so
stage_holds : (kinds : Kinds) (s : Stage) → stage_fits kinds s ≡ true → IsStageFit kinds s
stage_holds kinds (filters test) h = test_holds kinds test h
stage_holds kinds (extends out (a_list_of pieces)) h = all_holds (piece_fits kinds) (IsPiece kinds) (piece_holds kinds) pieces h
stage_holds kinds (extends out (an_element_of label list)) h = list_is (kinds list) h
stage_holds kinds (first_by_keys keys None) h = keys_hold kinds keys h
stage_holds kinds (first_by_keys keys (Some group)) h =
    let parts = and_parts (keys_fit kinds keys) (single_fits kinds group.0) h in (keys_hold kinds keys parts.0, group_holds kinds group.0 parts.1)
stage_holds kinds (one_group piece out) h = group_holds kinds piece h
stage_holds kinds (in_order v desc) h = node_is (kinds v) h

-- a stage that uses what is bound, of the kind that it needs, is tested to do so
stage_test : (kinds : Kinds) (s : Stage) → IsStageFit kinds s → stage_fits kinds s ≡ true
stage_test kinds (filters test) h = test_test kinds test h
stage_test kinds (extends out (a_list_of pieces)) h = all_tests (piece_fits kinds) (IsPiece kinds) (piece_test kinds) pieces h
stage_test kinds (extends out (an_element_of label list)) h = ap is_a_list h
stage_test kinds (first_by_keys keys None) h = keys_test kinds keys h
stage_test kinds (first_by_keys keys (Some group)) h = and_both (keys_fit kinds keys) (single_fits kinds group.0) (keys_test kinds keys h.0) (group_test kinds group.0 h.1)
stage_test kinds (one_group piece out) h = group_test kinds piece h
stage_test kinds (in_order v desc) h = ap is_a_node h

-- a shape of short paths that is tested to use what its inputs bind, of the kind that it needs, does so
shape_holds : (s : Shape) (of : ℕ → Kinds) → IsShort s → shape_fits s (kinds_below (shape_inputs s) of) ≡ true → IsShapeFit s of
shape_holds (one_source n out) of short h = tt
shape_holds (visits_below input start path out) of short h = (node_is (of input start) h, short)
shape_holds (pairs_up left right tests) of short h =
    all_holds (test_fits (λ v. either_kind (of left v) (of right v))) (IsTest (λ v. either_kind (of left v) (of right v))) (test_holds (λ v. either_kind (of left v) (of right v))) tests h
shape_holds (passes_on input stage) of short h = stage_holds (of input) stage h
shape_holds (no_events input made) of short h = made_is (of input made) h

-- a shape that uses what its inputs bind, of the kind that it needs, has short paths, and is tested to do so
shape_test : (s : Shape) (of : ℕ → Kinds) → IsShapeFit s of → IsShort s × (shape_fits s (kinds_below (shape_inputs s) of) ≡ true)
shape_test (one_source n out) of h = (omega arith, refl)
shape_test (visits_below input start path out) of h = (h.1, ap is_a_node h.0)
shape_test (pairs_up left right tests) of h =
    (omega arith, all_tests (test_fits (λ v. either_kind (of left v) (of right v))) (IsTest (λ v. either_kind (of left v) (of right v))) (test_test (λ v. either_kind (of left v) (of right v))) tests h)
shape_test (passes_on input stage) of h = (omega arith, stage_test (of input) stage h)
shape_test (no_events input made) of h = (omega arith, ap is_a_made h)

-- the tests of an operator whose path is short decide what a valid plan needs of it
pub fit_is_decided : FitIsDecided
fit_is_decided = record { sound = λ op of. shape_holds (shape_of op) of; complete = λ op of. shape_test (shape_of op) of }
