-- What is said of the variables of an operator, from what is said of those of its inputs.
use Rattle.std.proofs.Common.{◌≡◌, ◌<◌, ◌+◌, ℕ, zero, suc, Bool, true, false, cond, List, [], ◌∷◌, Option, Some, None, length, refl, ◌∙◌, sym, ap, subst, arith}
use Rattle.std.specs.Prelude.{◌==◌}
use Rattle.std.specs.List.{AllByRecursion}
use Rattle.mix_base.proofs.Firsts.{each_weaker}
use Rattle.mix_tree.specs.Keys.{has_var}
use Rattle.plan_core.specs.Plans.{Operator, source, get_descendants, join, over, tuple_destroy}
use Rattle.plan_core.specs.Unary.{select, order_by, project, group_by, concatenate, create_element}
use Rattle.plan_core.specs.ByNumber.{op_at}
use Rattle.plan_core.specs.Typed.{IsTyped}
use Rattle.plan_core.specs.Valid.{Kind, a_node, an_element, a_list, Kinds, kinds, op_kinds, either_kind, inputs_of}
use Rattle.plan_core.proofs.Numbers.{ReadsInputs, by_number-of, kinds-of}
use Rattle.lazy_site.specs.Labels.{Labels, either_label, unary_labels, op_labels, labels}
use Rattle.lazy_site.specs.Sizes.{unary_size, op_size, size, unary_extent, op_extent, extent}

-- how much is entered through an operator's variables reads of others only what its inputs say
size-reads : ReadsInputs op_size
size-reads (source s out) a b h = refl
size-reads (get_descendants i start path out) a b h = ap (λ (f : ℕ → ℕ). λ v. cond (out == v) 1 (f v)) h.0
size-reads (join l r tests) a b h = ap {B = ℕ → ℕ} (λ (f : ℕ → ℕ). λ v. f v + a r v) h.0 ∙ ap {B = ℕ → ℕ} (λ (f : ℕ → ℕ). λ v. b l v + f v) h.1.0
size-reads (over i op) a b h = ap (unary_size op) h.0
size-reads (tuple_destroy i w) a b h = refl

-- how many trees an operator's variables have reads of others only what its inputs say
extent-reads : (bound : ℕ → ℕ) → ReadsInputs (op_extent bound)
extent-reads bound (source s out) a b h = refl
extent-reads bound (get_descendants i start path out) a b h = ap (λ (f : ℕ → ℕ). λ v. cond (out == v) 1 (f v)) h.0
extent-reads bound (join l r tests) a b h = ap {B = ℕ → ℕ} (λ (f : ℕ → ℕ). λ v. f v + a r v) h.0 ∙ ap {B = ℕ → ℕ} (λ (f : ℕ → ℕ). λ v. b l v + f v) h.1.0
extent-reads bound (over i op) a b h = ap (unary_extent (bound i) op) h.0
extent-reads bound (tuple_destroy i w) a b h = refl

-- the labels of an operator's variables read of others only those of its inputs
labels-read : ReadsInputs op_labels
labels-read (source s out) a b h = refl
labels-read (get_descendants i start path out) a b h = ap {B = Labels} (λ (f : Labels). λ v. cond (out == v) (Some None) (f v)) h.0
labels-read (join l r tests) a b h = ap {B = Labels} (λ (f : Labels). λ v. either_label (f v) (a r v)) h.0 ∙ ap {B = Labels} (λ (f : Labels). λ v. either_label (b l v) (f v)) h.1.0
labels-read (over i op) a b h = ap (unary_labels op) h.0
labels-read (tuple_destroy i w) a b h = refl

module _ (ops : List Operator) (typed : IsTyped ops) (n : ℕ) (within : n < length ops) (o : Operator) (e : o ≡ op_at ops n) where
  -- the inputs of the operator of a number have smaller numbers
  pub inputs_below : AllByRecursion (λ i. i < n) (inputs_of o)
  inputs_below = subst (λ (p : Operator). AllByRecursion (λ i. i < n) (inputs_of p)) (sym e) (typed.inputs n within)

  -- the kind of a variable of an operator, from the kinds of its inputs' variables
  pub kind_of : (v : ℕ) → kinds ops n v ≡ op_kinds o (kinds ops) v
  kind_of v = ap (λ (f : Kinds). f v) (kinds-of ops n o (sym e) inputs_below)

  -- how much is entered on the way through a variable's value, from its inputs' variables
  pub size_of : (v : ℕ) → size ops n v ≡ op_size o (size ops) v
  unfolding size
  size_of v = ap (λ (f : ℕ → ℕ). f v) (by_number-of op_size (λ v. 0) ops n o size-reads (sym e) inputs_below)

  -- how many trees a variable's value has, from its inputs' variables
  pub extent_of : (bound : ℕ → ℕ) (v : ℕ) → extent bound ops n v ≡ op_extent bound o (extent bound ops) v
  unfolding extent
  extent_of bound v = ap (λ (f : ℕ → ℕ). f v) (by_number-of (op_extent bound) (λ v. 0) ops n o (extent-reads bound) (sym e) inputs_below)

  -- the label of a variable's element, from its inputs' variables
  pub labels_of : (v : ℕ) → labels ops n v ≡ op_labels o (labels ops) v
  unfolding labels
  labels_of v = ap (λ (f : Labels). f v) (by_number-of op_labels (λ v. None) ops n o labels-read (sym e) inputs_below)

-- what is said of kinds and labels fits
abbrev pub FitsKind : Option Kind → Option (Option (List ℕ)) → Type 0
FitsKind None l = l ≡ None
FitsKind (Some a_node) l = l ≡ Some None
FitsKind (Some a_list) l = l ≡ Some None
FitsKind (Some an_element) l = (x : List ℕ) × (l ≡ Some (Some x))

-- a variable that one operator more binds, or one that its input binds, fits its label
fits_other : (b : Bool) (k : Kind) (x : Option (List ℕ)) (j : Option Kind) (l : Option (Option (List ℕ))) → FitsKind (Some k) (Some x) → FitsKind j l → FitsKind (cond b (Some k) j) (cond b (Some x) l)
fits_other true k x j l h i = h
fits_other false k x j l h i = i

-- a kind and what is told of it fit where they are kept together
fits_kept : (b : Bool) (j : Option Kind) (l : Option (Option (List ℕ))) → FitsKind j l → FitsKind (cond b j None) (cond b l None)
fits_kept true j l h = h
fits_kept false j l h = refl

-- the first of two kinds and what is told of it fit where both do
fits_either : (j k : Option Kind) (l m : Option (Option (List ℕ))) → FitsKind j l → FitsKind k m → FitsKind (either_kind j k) (either_label l m)
fits_either None k l m h i = rw h i
fits_either (Some a_node) k l m h i = rw h refl
fits_either (Some a_list) k l m h i = rw h refl
fits_either (Some an_element) k l m h i = (h.0, ap (λ (z : Option (Option (List ℕ))). either_label z m) h.1)

-- the kinds and labels of an operator's variables fit where those of its inputs' do
fits_op : (kinds_of : ℕ → Kinds) (labels_of : ℕ → Labels) (o : Operator) → AllByRecursion (λ i. (v : ℕ) → FitsKind (kinds_of i v) (labels_of i v)) (inputs_of o) → (v : ℕ) → FitsKind (op_kinds o kinds_of v) (op_labels o labels_of v)
fits_op ks ls (source s out) h v = fits_other (out == v) a_node None None None refl refl
fits_op ks ls (get_descendants i start path out) h v = fits_other (out == v) a_node None (ks i v) (ls i v) refl (h.0 v)
fits_op ks ls (join l r tests) h v = fits_either (ks l v) (ks r v) (ls l v) (ls r v) (h.0 v) (h.1.0 v)
fits_op ks ls (over i (select t)) h v = h.0 v
fits_op ks ls (over i (order_by w desc)) h v = h.0 v
fits_op ks ls (over i (project keys)) h v = fits_kept (has_var keys v) (ks i v) (ls i v) (h.0 v)
fits_op ks ls (over i (group_by [] p out)) h v = fits_other (out == v) a_list None (cond (has_var [] v) (ks i v) None) (cond (has_var [] v) (ls i v) None) refl (fits_kept (has_var [] v) (ks i v) (ls i v) (h.0 v))
fits_op ks ls (over i (group_by (k ∷ keys) p out)) h v = fits_other (out == v) a_list None (cond (has_var (k ∷ keys) v) (ks i v) None) (cond (has_var (k ∷ keys) v) (ls i v) None) refl (fits_kept (has_var (k ∷ keys) v) (ks i v) (ls i v) (h.0 v))
fits_op ks ls (over i (concatenate ps out)) h v = fits_other (out == v) a_list None (ks i v) (ls i v) refl (h.0 v)
fits_op ks ls (over i (create_element l w out)) h v = fits_other (out == v) an_element (Some l) (ks i v) (ls i v) (l, refl) (h.0 v)
fits_op ks ls (tuple_destroy i w) h v = refl

-- the labels of elements are known exactly of the variables that hold one
pub labels_fit : (ops : List Operator) → IsTyped ops → (n v : ℕ) → n < length ops → FitsKind (kinds ops n v) (labels ops n v)
labels_fit ops typed n v h = below (suc n) n v (omega arith) h
  where
    below : (m n v : ℕ) → n < m → n < length ops → FitsKind (kinds ops n v) (labels ops n v)
    below zero n v l h = absurd (omega (arith, l))
    below (suc m) n v l h =
        let inputs = each_weaker (λ i. i < n) (λ i. (w : ℕ) → FitsKind (kinds ops i w) (labels ops i w)) (λ i k w. below m i w (omega (arith, l, k)) (omega (arith, h, k))) (inputs_of (op_at ops n)) (typed.inputs n h) in
        subst (λ (l : Option (Option (List ℕ))). FitsKind (kinds ops n v) l) (sym (labels_of ops typed n h (op_at ops n) refl v))
        (subst (λ (k : Option Kind). FitsKind k (op_labels (op_at ops n) (labels ops) v)) (sym (kind_of ops typed n h (op_at ops n) refl v)) (fits_op (kinds ops) (labels ops) (op_at ops n) inputs v))

-- a variable that is bound has an entry
pub fits_some : (j : Option Kind) (l : Option (Option (List ℕ))) (k : Kind) → FitsKind j l → j ≡ Some k → (x : Option (List ℕ)) × (l ≡ Some x)
fits_some None l k h e = cc
fits_some (Some a_node) l k h e = (None, h)
fits_some (Some a_list) l k h e = (None, h)
fits_some (Some an_element) l k h e = (Some h.0, h.1)

-- a variable that is not bound has no label
pub fits_none : (j : Option Kind) (l : Option (Option (List ℕ))) → FitsKind j l → j ≡ None → l ≡ None
fits_none None l h e = h
fits_none (Some j) l h e = cc
