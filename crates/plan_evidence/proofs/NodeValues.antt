-- What keys compare of nodes, and that comparisons come out alike of nodes that agree by the keys by which they are told.
use Rattle.std.proofs.Common.{◌≡◌, inl, inr, ℕ, true, false, cond, List, [], ◌∷◌, ◌++◌, refl, ap, subst, ◌∙◌, arith, sym}
use Rattle.std.specs.Prelude.{Bool, ◌||◌, ◌==◌, ◌&&◌}
use Rattle.std.specs.List.{list_all}
use Rattle.std.proofs.lemmas.Bool.{and_parts, and_from}
use Rattle.std.proofs.lemmas.Bool.Decides.{nat_tests}
use Rattle.mix_base.specs.Ascents.{Among}
use Rattle.mix_tree.specs.Comparisons.{operand_label, compares_nodes, is_same, passes}
use Rattle.mix_tree.specs.LabelOrder.{compares}
use Rattle.mix_tree.specs.Nodes.{Documents, Node, same_node, label_at}
use Rattle.mix_tree.specs.declared.comparing.Operand.{Operand}
use Rattle.mix_tree.specs.declared.comparing.Operand.TheVariants.{Var as var_operand, Text as text_operand}
use Rattle.mix_tree.specs.declared.comparing.Test.{Test}
use Rattle.mix_tree.specs.declared.comparing.TestOp.{TestOp}
use Rattle.mix_tree.specs.declared.comparing.TestOp.TheVariants.{Eq, Ne, Lt, Le, Gt, Ge, Same}
use Rattle.mix_tree.specs.declared.var.Key.{Key}
use Rattle.mix_tree.specs.declared.var.Key.TheVariants.{Node as node_key, LabelOf as label_key}
use Rattle.std.specs.Str.{bytes_eq}
use Rattle.std.proofs.lemmas.Slice.Eq.{bytes_eq-Decides}
use Rattle.mix_tree.proofs.SameKeys.{same_node-true, same_node-refl}
use Rattle.plan_core.specs.TolledRows.{KeyValue, same_values, by_node, by_label, key_value}
use Rattle.plan_core.proofs.KeyValues.{all_itself}
use Rattle.plan_evidence.specs.Held.{node_values, operand_uses, test_uses}
use Rattle.mix_tree.specs.Keys.{has_var, key_var}
use Rattle.mix_base.proofs.Ascents.{among_left, among_right}
use Rattle.browse_class.proofs.FirstKeys.{values_same}
use Rattle.mix_tree.proofs.Compared.{passes_labels}

-- lists of values are the same where their first parts and their second parts are
pub same_parts : (a x b y : List KeyValue) → same_values a b ≡ true → same_values x y ≡ true → same_values (a ++ x) (b ++ y) ≡ true
same_parts a x b y h k =
    subst (λ z. same_values (a ++ x) (z ++ y) ≡ true) (values_same a b h) (subst (λ z. same_values (a ++ x) (a ++ z) ≡ true) (values_same x y k) (all_itself (a ++ x)))

-- nodes that are alike in the variables of keys agree by the keys
pub keys_alike : (docs : Documents) (keys : List Key) (a b : ℕ → Node) → ((v : ℕ) → has_var keys v ≡ true → a v ≡ b v) → node_values docs keys a ≡ node_values docs keys b
keys_alike docs [] a b h = refl
keys_alike docs (k ∷ keys) a b h =
    let e : a (key_var k) ≡ b (key_var k) = h (key_var k) itself in
    ap (λ z. z ∷ node_values docs keys a) (one k e) ∙ ap (λ (z : List KeyValue). key_value docs b k ∷ z) (keys_alike docs keys a b (λ v t. h v (later v t)))
  where
    one : (k : Key) → a (key_var k) ≡ b (key_var k) → key_value docs a k ≡ key_value docs b k
    one (node_key v) e = ap by_node e
    one (label_key v) e = ap (λ (m : Node). by_label (label_at docs m)) e

    itself : has_var (k ∷ keys) (key_var k) ≡ true
    itself = (let t : (key_var k == key_var k) ≡ true = grind (arith, nat_tests) in rw t refl)

    later : (v : ℕ) → has_var keys v ≡ true → has_var (k ∷ keys) v ≡ true
    later v t = elim (key_var k == v) as (λ w. (w || has_var keys v) ≡ true) [ true ↦ refl | false ↦ t ]

-- the variable of a comparison's right side, as a list of one or none
abbrev pub operand_vars : Operand → List ℕ
operand_vars (var_operand v) = v ∷ []
operand_vars (text_operand label) = []

-- the variables of a comparison
abbrev pub test_vars : Test → List ℕ
test_vars t = t.left ∷ operand_vars t.right

-- the variables of comparisons
abbrev pub tests_vars : List Test → List ℕ
tests_vars [] = []
tests_vars (t ∷ tests) = test_vars t ++ tests_vars tests

module _ (docs : Documents) (a b : ℕ → Node) where
  -- nodes that agree by a key of a variable's node have that node alike
  pub node_is : (v : ℕ) (more : List Key) → same_values (node_values docs (node_key v ∷ more) a) (node_values docs (node_key v ∷ more) b) ≡ true → a v ≡ b v
  node_is v more h = same_node-true (a v) (b v) (and_parts (same_node (a v) (b v)) (same_values (node_values docs more a) (node_values docs more b)) h).0

  -- nodes that agree by a key of a variable's label have labels of it alike
  label_is : (v : ℕ) (more : List Key) → same_values (node_values docs (label_key v ∷ more) a) (node_values docs (label_key v ∷ more) b) ≡ true → label_at docs (a v) ≡ label_at docs (b v)
  label_is v more h =
      (bytes_eq-Decides (label_at docs (a v)) (label_at docs (b v))).0 (and_parts (bytes_eq (label_at docs (a v)) (label_at docs (b v))) (same_values (node_values docs more a) (node_values docs more b)) h).0

  -- nodes that agree by a key and others agree by the others
  rest_is : (k : Key) (more : List Key) → same_values (node_values docs (k ∷ more) a) (node_values docs (k ∷ more) b) ≡ true → same_values (node_values docs more a) (node_values docs more b) ≡ true
  rest_is k more h = (and_parts _ (same_values (node_values docs more a) (node_values docs more b)) h).1

  -- a comparison of labels comes out alike where the labels on both of its sides are alike
  labels_pass : (t : Test) → compares_nodes t.op ≡ false → label_at docs (a t.left) ≡ label_at docs (b t.left) → operand_label docs t.right a ≡ operand_label docs t.right b → passes docs t a ≡ passes docs t b
  labels_pass t c e f =
      passes_labels docs t a c ∙ ap (λ l. compares t.op l (operand_label docs t.right a)) e ∙ ap (λ l. compares t.op (label_at docs (b t.left)) l) f ∙ sym (passes_labels docs t b c)

  -- a node is compared with a variable's node alike where that node is alike
  same_variable : (op : TestOp) (n : Node) (v : ℕ) → a v ≡ b v → is_same op n (var_operand v) a ≡ is_same op n (var_operand v) b
  same_variable Eq n v e = refl
  same_variable Ne n v e = refl
  same_variable Lt n v e = refl
  same_variable Le n v e = refl
  same_variable Gt n v e = refl
  same_variable Ge n v e = refl
  same_variable Same n v e = ap (same_node n) e

  -- a node is compared with a text alike, whatever the nodes of variables
  same_text : (op : TestOp) (n : Node) (label : List ℕ) → is_same op n (text_operand label) a ≡ is_same op n (text_operand label) b
  same_text Eq n label = refl
  same_text Ne n label = refl
  same_text Lt n label = refl
  same_text Le n label = refl
  same_text Gt n label = refl
  same_text Ge n label = refl
  same_text Same n label = refl

  -- nodes that agree by the label of a comparison's right side have its label alike
  operand_same : (right : Operand) → same_values (node_values docs (operand_uses false right) a) (node_values docs (operand_uses false right) b) ≡ true → operand_label docs right a ≡ operand_label docs right b
  operand_same (var_operand v) h = label_is v [] h
  operand_same (text_operand label) h = refl

  -- a comparison comes out alike where the nodes on both of its sides are alike
  pub nodes_pass : (op : TestOp) (left : ℕ) (right : Operand) → a left ≡ b left → same_values (node_values docs (operand_uses true right) a) (node_values docs (operand_uses true right) b) ≡ true
      → (compares op (label_at docs (a left)) (operand_label docs right a) || is_same op (a left) right a) ≡ (compares op (label_at docs (b left)) (operand_label docs right b) || is_same op (b left) right b)
  nodes_pass op left (var_operand v) e h =
      let f : a v ≡ b v = node_is v [] h in
      ap (λ (n : Node). compares op (label_at docs n) (label_at docs (a v)) || is_same op n (var_operand v) a) e
      ∙ ap (λ (n : Node). compares op (label_at docs (b left)) (label_at docs n) || is_same op (b left) (var_operand v) a) f
      ∙ ap (λ (w : Bool). compares op (label_at docs (b left)) (label_at docs (b v)) || w) (same_variable op (b left) v f)
  nodes_pass op left (text_operand label) e h =
      ap (λ (n : Node). compares op (label_at docs n) label || is_same op n (text_operand label) a) e
      ∙ ap (λ (w : Bool). compares op (label_at docs (b left)) label || w) (same_text op (b left) label)

  -- a comparison comes out alike of nodes that agree by the keys by which it is told
  pub test_alike : (t : Test) → same_values (node_values docs (test_uses t) a) (node_values docs (test_uses t) b) ≡ true → passes docs t a ≡ passes docs t b
  test_alike t h = by_kind (compares_nodes t.op) refl h
    where
      by_kind : (w : Bool) → compares_nodes t.op ≡ w
          → same_values (node_values docs (cond w (node_key t.left) (label_key t.left) ∷ operand_uses w t.right) a) (node_values docs (cond w (node_key t.left) (label_key t.left) ∷ operand_uses w t.right) b) ≡ true
          → passes docs t a ≡ passes docs t b
      by_kind true e k = nodes_pass t.op t.left t.right (node_is t.left (operand_uses true t.right) k) (rest_is (node_key t.left) (operand_uses true t.right) k)
      by_kind false e k = labels_pass t e (label_is t.left (operand_uses false t.right) k) (operand_same t.right (rest_is (label_key t.left) (operand_uses false t.right) k))

  -- nodes alike in the variable of a comparison's right side agree by that variable's node
  operand_agrees : (right : Operand) → ((v : ℕ) → Among v (operand_vars right) → a v ≡ b v) → same_values (node_values docs (operand_uses true right) a) (node_values docs (operand_uses true right) b) ≡ true
  operand_agrees (var_operand v) h = and_from (same_node (a v) (b v)) true (subst (λ n. same_node (a v) n ≡ true) (h v (inl refl)) (same_node-refl (a v))) refl
  operand_agrees (text_operand label) h = refl

  -- a comparison comes out alike of nodes that are alike in its variables
  pub passes_alike : (t : Test) → ((v : ℕ) → Among v (test_vars t) → a v ≡ b v) → passes docs t a ≡ passes docs t b
  passes_alike t h = nodes_pass t.op t.left t.right (h t.left (inl refl)) (operand_agrees t.right (λ v x. h v (inr x)))

  -- comparisons all hold or not alike of nodes that are alike in their variables
  pub tests_alike : (tests : List Test) → ((v : ℕ) → Among v (tests_vars tests) → a v ≡ b v) → list_all (λ t. passes docs t a) tests ≡ list_all (λ t. passes docs t b) tests
  tests_alike [] h = refl
  tests_alike (t ∷ tests) h =
      let e = passes_alike t (λ v x. h v (among_left (test_vars t) (tests_vars tests) v x)) in
      let r = tests_alike tests (λ v x. h v (among_right (test_vars t) (tests_vars tests) v x)) in
      ap (λ w. w && list_all (λ t. passes docs t a) tests) e ∙ ap (λ w. passes docs t b && w) r
