-- The way of a selection down the joins ends where it lands.
use Rattle.std.proofs.Common.{◌≡◌, ℕ, suc, ◌+◌, ◌<◌, Bool, true, false, cond, List, [], ◌∷◌, ◌++◌, refl, ◌∙◌, sym, ap, subst, arith, length, length-append, append_assoc}
use Rattle.std.specs.Prelude.{Option, None, Some, ◌&&◌}
use Rattle.std.proofs.lemmas.List.{get_or_at}
use Rattle.mix_tree.specs.declared.comparing.Operand.{Operand}
use Rattle.mix_tree.specs.declared.comparing.Operand.TheVariants.{Var as var_operand, Text as text_operand}
use Rattle.mix_tree.specs.declared.comparing.Test.{Test}
use Rattle.plan_core.specs.ByNumber.{op_at}
use Rattle.plan_core.specs.Plans.{Operator, source, get_descendants, join, over}
use Rattle.plan_core.proofs.RowLaws.{snoc}
use Rattle.plan_make.specs.Trees.{Tree, begin, descend, both, above, under, numbered}
use Rattle.plan_make.proofs.TreeParts.{tree_kinds}
use Rattle.plan_rewrite.specs.Rewritten.{is_bound, binds_operand, binds_test}
use Rattle.plan_rewrite.specs.Edits.{landing}
use Rattle.plan_rewrite.specs.Walk.{marks_operand, covers, next_in}
use Rattle.plan_make.proofs.Numbering.{numbered-length}
use Rattle.plan_rewrite.proofs.Placing.{mark, mark-stable, mark-tree}

-- operator `at` is the last one of a tree between others, and the selection lands in that tree
pub record StandsAt (t : Test) (all : List Operator) (goal at : ℕ) : Type 0 where
  pub prefix : List Operator
  pub after : List Operator
  pub tree : Tree
  pub is : all ≡ prefix ++ (numbered (length prefix) tree ++ after)
  pub at_is : at ≡ length prefix + under tree
  pub lands : goal ≡ length prefix + landing t tree

-- a step of the way: it ends where the selection lands, or goes on at a smaller operator
abbrev pub Steps : Test → List Operator → ℕ → ℕ → Option ℕ → Type 0
Steps t all goal at None = at ≡ goal
Steps t all goal at (Some n) = StandsAt t all goal n × (n < at)

-- the mark of the last operator of a tree between others
mark-inside : (v : ℕ) (z : Tree) (a b : List Operator) → mark v (a ++ (numbered (length a) z ++ b)) (length a + under z) ≡ is_bound (tree_kinds z v)
mark-inside v z a b =
    let i : ℕ = length a in
    let l = numbered-length z i in
    let k = length-append a (numbered i z) in
    ap (λ (ops : List Operator). mark v ops (i + under z)) (sym (append_assoc a (numbered i z) b))
    ∙ mark-stable v (a ++ numbered i z) b (i + under z) (omega (arith, l, k))
    ∙ mark-tree v z a i refl

-- the last operator of a tree between others binds the variables of a comparison exactly where the tree does
covers-inside : (t : Test) (z : Tree) (a b : List Operator) → covers t (a ++ (numbered (length a) z ++ b)) (length a + under z) ≡ binds_test (tree_kinds z) t
covers-inside t z a b =
    ap (λ (w : Bool). w && marks_operand t.right (a ++ (numbered (length a) z ++ b)) (length a + under z)) (mark-inside t.left z a b)
    ∙ ap (λ (w : Bool). is_bound (tree_kinds z t.left) && w) (operand t.right)
  where
    operand : (o : Operand) → marks_operand o (a ++ (numbered (length a) z ++ b)) (length a + under z) ≡ binds_operand (tree_kinds z) o
    operand (var_operand v) = mark-inside v z a b
    operand (text_operand label) = refl

-- the operator after two lists of operators has their lengths together as its number
pub op-last : (a prefix b : List Operator) (op : Operator) (n : ℕ) → n ≡ length a + length prefix → op_at (a ++ ((prefix ++ op ∷ []) ++ b)) n ≡ op
op-last a prefix b op n h =
    let k = length-append a prefix in
    ap (λ (z : List Operator). op_at z n) (ap (λ (z : List Operator). a ++ z) (snoc prefix op b) ∙ sym (append_assoc a prefix (op ∷ b)))
    ∙ get_or_at (a ++ prefix) op b (source 0 0) n (omega (arith, k, h))

-- where the operator is no join that a selection goes into, the selection's way ends there
ends_here : (t : Test) (all : List Operator) (goal at : ℕ) (op : Operator) → op_at all at ≡ op → next_in (covers t all) op ≡ None → at ≡ goal → Steps t all goal at (next_in (covers t all) (op_at all at))
ends_here t all goal at op e n h = subst (λ (o : Option ℕ). Steps t all goal at o) (sym (ap (next_in (covers t all)) e ∙ n)) h

-- a step from the last operator of a tree into which the selection lands ends there, or goes on at a side that it lands in
step_in : (t : Test) (all : List Operator) (goal at : ℕ) (a b : List Operator) (y : Tree) → all ≡ a ++ (numbered (length a) y ++ b) → at ≡ length a + under y → goal ≡ length a + landing t y
    → Steps t all goal at (next_in (covers t all) (op_at all at))
step_in t all goal at a b (begin s out) is at_is lands =
    ends_here t all goal at (source s out) (ap (λ (z : List Operator). op_at z at) is ∙ op-last a [] b (source s out) at at_is) refl (at_is ∙ sym lands)
step_in t all goal at a b (descend x start path out) is at_is lands =
    let i : ℕ = length a in
    let op : Operator = get_descendants (i + under x) start path out in
    let l = numbered-length x i in
    ends_here t all goal at op (ap (λ (z : List Operator). op_at z at) is ∙ op-last a (numbered i x) b op at (omega (arith, l, at_is))) refl (at_is ∙ sym lands)
step_in t all goal at a b (above x op) is at_is lands =
    let i : ℕ = length a in
    let o : Operator = over (i + under x) op in
    let l = numbered-length x i in
    ends_here t all goal at o (ap (λ (z : List Operator). op_at z at) is ∙ op-last a (numbered i x) b o at (omega (arith, l, at_is))) refl (at_is ∙ sym lands)
step_in t all goal at a b (both l r tests) is at_is lands =
    let i : ℕ = length a in
    let m : ℕ = i + suc (under l) in
    let left : List Operator = numbered i l in
    let right : List Operator = numbered m r in
    let j : Operator = join (i + under l) (m + under r) tests in
    let one : List Operator = a ++ left in
    let ll = numbered-length l i in let lr = numbered-length r m in
    let kl = length-append a left in let kr = length-append left right in
    let em : length one ≡ m = omega (arith, ll, kl) in
    let shape : (left ++ (right ++ j ∷ [])) ++ b ≡ left ++ (right ++ j ∷ b) = append_assoc left (right ++ j ∷ []) b ∙ ap (λ (z : List Operator). left ++ z) (snoc right j b) in
    let in_left : all ≡ a ++ (numbered (length a) l ++ (right ++ j ∷ b)) = is ∙ ap (λ (z : List Operator). a ++ z) shape in
    let in_right : all ≡ one ++ (numbered (length one) r ++ j ∷ b) =
    in_left ∙ sym (append_assoc a left (right ++ j ∷ b)) ∙ ap (λ (k : ℕ). one ++ (numbered k r ++ j ∷ b)) (sym em) in
    let here : op_at all at ≡ j =
    ap (λ (z : List Operator). op_at z at) (is ∙ ap (λ (z : List Operator). a ++ (z ++ b)) (sym (append_assoc left right (j ∷ []))))
    ∙ op-last a (left ++ right) b j at (omega (arith, at_is, ll, lr, kr)) in
    let cl : covers t all (i + under l) ≡ binds_test (tree_kinds l) t = ap (λ (z : List Operator). covers t z (i + under l)) in_left ∙ covers-inside t l a (right ++ j ∷ b) in
    let cr : covers t all (m + under r) ≡ binds_test (tree_kinds r) t =
    ap (λ (k : ℕ). covers t all (k + under r)) (sym em) ∙ ap (λ (z : List Operator). covers t z (length one + under r)) in_right ∙ covers-inside t r one (j ∷ b) in
    subst (λ (o : Operator). Steps t all goal at (next_in (covers t all) o)) (sym here)
    (subst (λ (w : Bool). Steps t all goal at (cond w (Some (i + under l)) (cond (covers t all (m + under r)) (Some (m + under r)) None))) (sym cl)
    (subst (λ (w : Bool). Steps t all goal at (cond (binds_test (tree_kinds l) t) (Some (i + under l)) (cond w (Some (m + under r)) None))) (sym cr)
    (go_on i m (length one) em (omega arith) (binds_test (tree_kinds l) t) (binds_test (tree_kinds r) t) lands
    (λ e. (record { prefix = a; after = right ++ j ∷ b; tree = l; is = in_left; at_is = refl; lands = e }, omega (arith, at_is)))
    (λ e. (record { prefix = one; after = j ∷ b; tree = r; is = in_right; at_is = ap (λ (k : ℕ). k + under r) (sym em); lands = e }, omega (arith, at_is)))
    at_is)))
  where
    go_on : (i m n : ℕ) → n ≡ m → m ≡ i + suc (under l) → (p q : Bool) → goal ≡ i + cond p (landing t l) (cond q (suc (under l) + landing t r) (suc (under l) + suc (under r)))
        → (goal ≡ i + landing t l → StandsAt t all goal (i + under l) × (i + under l < at))
        → (goal ≡ n + landing t r → StandsAt t all goal (m + under r) × (m + under r < at))
        → at ≡ i + (suc (under l) + suc (under r))
        → Steps t all goal at (cond p (Some (i + under l)) (cond q (Some (m + under r)) None))
    go_on i m n e f true q g x y z = x g
    go_on i m n e f false true g x y z = y (g ∙ omega (arith, e, f))
    go_on i m n e f false false g x y z = z ∙ sym g

-- each step of a selection's way ends where the selection lands, or goes on at a smaller operator
pub way_step : (t : Test) (all : List Operator) (goal at : ℕ) → StandsAt t all goal at → Steps t all goal at (next_in (covers t all) (op_at all at))
way_step t all goal at s = step_in t all goal at s.prefix s.after s.tree s.is s.at_is s.lands

-- the way begins at the last operator
pub way_begins : (t : Test) (x : Tree) → StandsAt t (numbered 0 x) (landing t x) (under x)
way_begins t x = record { prefix = []; after = []; tree = x; is = sym (Rattle.mix_base.proofs.Lists.append_nil (numbered 0 x)); at_is = omega arith; lands = omega arith }
