-- The blocks of a valid plan, one operator after another: each stays until the operator that reads it.
use Rattle.std.proofs.Common.{◌≡◌, inl, inr, ℕ, suc, ◌+◌, ◌<◌, ◌==◌, Bool, true, false, List, [], ◌∷◌, ◌++◌, map, get_or, set, length, refl, ◌∙◌, sym, ap, subst, arith, length-append, length-set, Vec, Global}
use Rattle.std.proofs.lemmas.Bool.Decides.{nat_tests}
use Rattle.std.proofs.lemmas.List.{map-append, get_or-map, get_or_append_left, get_or_at, get_or-set_other, length-map}
use Rattle.mix_base.specs.Ascents.{Among}
use Rattle.mix_base.proofs.Ascents.{among_each}
use Rattle.plan_core.specs.ByNumber.{op_at}
use Rattle.plan_core.specs.PlanMade.{op_of}
use Rattle.plan_core.specs.Plans.{Operator, source, get_descendants, join, over, tuple_destroy, PlanValue}
use Rattle.plan_core.specs.Typed.{IsTyped}
use Rattle.plan_core.specs.Valid.{inputs_of, is_single_at, IsValid}
use Rattle.plan_core.specs.declared.plan.Op.{Op}
use Rattle.plan_make.specs.Trees.{Tree, numbered}
use Rattle.plan_rewrite.specs.Blocks.{block_at, blocks_of, without, block_over, IsBlock, AreBelow, SidesDiffer}
use Rattle.plan_rewrite.specs.Rewritten.{rewritten, op_tree, tree_at, rewritten_ops}
use Rattle.plan_rewrite.proofs.Kept.{rewritten-ended}
use Rattle.plan_core.proofs.Fresh.{reader_once, smaller, once, inputs_differ}
use Rattle.plan_rewrite.proofs.Endings.{IsBelow, Ended}
use Rattle.plan_rewrite.proofs.PlanTree.{ending, below_at, tree_at-is, last_at, all_but_one}

-- no operator before one reads this one
abbrev pub IsUnread : List Operator → ℕ → ℕ → Type 0
IsUnread ops i k = (m : ℕ) → m < k → Among i (inputs_of (op_at ops m)) → ⊥

-- the block of an operator of a plan
abbrev pub plan_block : List Operator → ℕ → List Operator
plan_block ops n = block_over (op_at ops n) (λ i. rewritten (tree_at ops i))

-- the first k operators have their blocks, but for those that were taken
pub record AreBlocks (ops : List Operator) (blocks : List (List Operator)) (k : ℕ) : Type 0 where
  pub count : length blocks ≡ k
  pub each : (i : ℕ) → i < k → IsUnread ops i k → block_at blocks i ≡ plan_block ops i

-- the operator of a number is the same where a plan's operators are read as others
pub op_here : (xs ops : List Op) (n : ℕ) (o : Op) → xs ≡ ops → n < length xs → o ≡ get_or xs n o → (op_of o ≡ op_at (map op_of ops) n) × (n < length (map op_of ops))
op_here xs ops n o same l e =
    let m = length-map xs op_of in
    subst (λ (z : List Op). (op_of o ≡ op_at (map op_of z) n) × (n < length (map op_of z))) same (ap op_of e ∙ sym (get_or-map op_of xs n o (source 0 0) l), omega (arith, m, l))

-- taking blocks leaves as many blocks, the taken ones empty
without-length : (ns : List ℕ) (blocks : List (List Operator)) → length (without ns blocks) ≡ length blocks
without-length [] blocks = refl
without-length (n ∷ ns) blocks = without-length ns (set blocks n []) ∙ length-set blocks n []

-- taking blocks leaves each block that was not taken as it was
without-other : (ns : List ℕ) (blocks : List (List Operator)) (j : ℕ) → (Among j ns → ⊥) → block_at (without ns blocks) j ≡ block_at blocks j
without-other [] blocks j h = refl
without-other (n ∷ ns) blocks j h = without-other ns (set blocks n []) j (λ a. h (inr a)) ∙ get_or-set_other blocks n j [] [] (λ e. h (inl e))

-- the block of an operator that is no tupleDestroy
block_tree : (op : Operator) → IsBelow op → (of : ℕ → Tree) → block_over op (λ i. rewritten (of i)) ≡ numbered 0 (rewritten (op_tree op of))
block_tree (source s out) b of = refl
block_tree (get_descendants input start path out) b of = refl
block_tree (join left right tests) b of = refl
block_tree (over input op) b of = refl
block_tree (tuple_destroy input element) b of = absurd b

-- the inputs of a join differ
sides_of : (op : Operator) → ((left right : ℕ) → inputs_of op ≡ left ∷ right ∷ [] → left ≡ right → ⊥) → SidesDiffer op
sides_of (source s out) f = tt
sides_of (get_descendants input start path out) f = tt
sides_of (join left right tests) f = f left right refl
sides_of (over input op) f = tt
sides_of (tuple_destroy input element) f = tt

module _ (p : PlanValue) (valid : IsValid p) (typed : IsTyped p.ops) where
  -- the block of an operator that is not the last one
  block_is : (n : ℕ) → suc n < length p.ops → plan_block p.ops n ≡ numbered 0 (rewritten (tree_at p.ops n))
  block_is n b =
      let l : n < length p.ops = omega (arith, b) in
      block_tree (op_at p.ops n) (below_at p valid typed n b) (tree_at p.ops) ∙ ap (λ (x : Tree). numbered 0 (rewritten x)) (sym (tree_at-is p valid typed n l))

  -- the inputs of the next operator have their blocks
  pub blocks_below : (blocks : List (List Operator)) (k : ℕ) → k < length p.ops → AreBlocks p.ops blocks k → AreBelow (op_at p.ops k) (λ i. rewritten (tree_at p.ops i)) blocks
  blocks_below blocks k b h =
      among_each (λ i. IsBlock blocks i (rewritten (tree_at p.ops i))) (inputs_of (op_at p.ops k))
      (λ i a.
      let s = smaller p valid typed i k b a in
      let c = h.count in
      (omega (arith, s, c), h.each i s (unread i a) ∙ block_is i (omega (arith, s, b))))
    where
      unread : (i : ℕ) → Among i (inputs_of (op_at p.ops k)) → IsUnread p.ops i k
      unread i a m l r =
          let c : m < length p.ops = omega (arith, l, b) in
          let same : m ≡ k = reader_once p.ops i (once p valid typed i k b a) m k c b r a in omega (arith, same, l)

  -- the two sides of a join in a valid plan are different operators
  pub sides_differ : (k : ℕ) → k < length p.ops → SidesDiffer (op_at p.ops k)
  sides_differ k b = sides_of (op_at p.ops k) (λ left right e. inputs_differ p valid typed k left right b e)

  -- one operator more has its block
  pub blocks_more : (blocks : List (List Operator)) (k : ℕ) (b : List Operator) → AreBlocks p.ops blocks k → b ≡ plan_block p.ops k
      → AreBlocks p.ops (without (inputs_of (op_at p.ops k)) blocks ++ b ∷ []) (k + 1)
  blocks_more blocks k b h made = record {
    count = (let l = length-append left (b ∷ []) in let c = h.count in let n = as_many in omega (arith, l, c, n));
    each = λ i w u. by_case i w u (i == k) refl;
  }
    where
      left : List (List Operator)
      left = without (inputs_of (op_at p.ops k)) blocks

      as_many : length left ≡ length blocks
      as_many = without-length (inputs_of (op_at p.ops k)) blocks

      by_case : (i : ℕ) → i < k + 1 → IsUnread p.ops i (k + 1) → (x : Bool) → (i == k) ≡ x → block_at (left ++ b ∷ []) i ≡ plan_block p.ops i
      by_case i w u true e =
          let same : i ≡ k = grind (arith, nat_tests, e) in
          let c = h.count in
          let n = as_many in
          get_or_at left b [] [] i (omega (arith, same, c, n)) ∙ made ∙ ap (plan_block p.ops) (sym same)
      by_case i w u false e =
          let l : i < k = grind (arith, nat_tests, e, w) in
          let c = h.count in
          let n = as_many in
          get_or_append_left left (b ∷ []) [] i (omega (arith, l, c, n))
          ∙ without-other (inputs_of (op_at p.ops k)) blocks i (λ a. u k (omega arith) a)
          ∙ h.each i l (λ m v a. u m (omega (arith, v)) a)

  -- the last block is the rewritten plan
  pub last_block : (blocks prefix : List (List Operator)) (b : List Operator) → AreBlocks p.ops blocks (length p.ops) → blocks ≡ prefix ++ b ∷ [] → b ≡ rewritten_ops p.ops
  last_block blocks prefix b h e =
      let ended : Ended (is_single_at p.ops) p.ops = ending p valid typed in
      let n : ℕ = length ended.prefix in
      let l = all_but_one p valid typed in
      let c = h.count in
      let k = ap length e in
      let f = length-append prefix (b ∷ []) in
      sym (get_or_at prefix b [] [] n (omega (arith, l, c, k, f)))
      ∙ ap (λ (z : List (List Operator)). block_at z n) (sym e)
      ∙ h.each n (omega (arith, l)) unread
      ∙ ap (λ (o : Operator). block_over o (λ i. rewritten (tree_at p.ops i))) (last_at p valid typed)
      ∙ sym (rewritten-ended p.ops ended)
    where
      unread : IsUnread p.ops (length (ending p valid typed).prefix) (length p.ops)
      unread m w a = (let s = smaller p valid typed (length (ending p valid typed).prefix) m w a in let l = all_but_one p valid typed in omega (arith, s, l, w))

-- the operators of a block after those of others
pub blocks_after : (blocks : List (Vec Op Global)) (b : Vec Op Global) → blocks_of (blocks ++ b ∷ []) ≡ blocks_of blocks ++ map op_of b.items ∷ []
blocks_after blocks b = map-append (λ (v : Vec Op Global). map op_of v.items) blocks (b ∷ [])
