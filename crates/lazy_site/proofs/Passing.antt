-- Where the value of a variable comes from, by the form of the operator.
use Rattle.std.proofs.Common.{◌≡◌, ◌<◌, ◌≤◌, inl, inr, ℕ, Bool, true, false, cond, List, Option, Some, None, length, refl, ◌∙◌, sym, ap, subst, arith}
use Rattle.std.specs.Prelude.{◌==◌, is_some}
use Rattle.std.proofs.lemmas.Bool.Decides.{nat_tests}
use Rattle.path_expr.specs.Form.{Form}
use Rattle.mix_tree.specs.Keys.{has_var}
use Rattle.mix_tree.specs.declared.var.Key.{Key}
use Rattle.mix_tree.specs.declared.comparing.Test.{Test}
use Rattle.plan_core.specs.declared.plan.Piece.{Piece}
use Rattle.plan_core.specs.declared.plan.Plan.{Plan}
use Rattle.plan_core.specs.PlanMade.{plan_value}
use Rattle.plan_core.specs.Plans.{Operator, source, get_descendants, join, over}
use Rattle.plan_core.specs.Unary.{select, order_by, project, group_by, concatenate, create_element}
use Rattle.plan_core.specs.ByNumber.{op_at}
use Rattle.plan_core.specs.Typed.{IsTyped}
use Rattle.plan_core.specs.Valid.{Kind, Kinds, a_node, an_element, a_list, kinds, kept, op_kinds, either_kind, IsFit, AreNodes, inputs_of, outs_of, IsValid}
use Rattle.mix_base.specs.Ascents.{Among}
use Rattle.plan_core.proofs.Fresh.{out_fresh, sides_fresh}
use Rattle.plan_core.proofs.Groups.{group_kinds, fit_group}
use Rattle.plan_core.specs.TolledRows.{TolledRow, tolled_value}
use Rattle.plan_core.specs.Events.{RowEvents}
use Rattle.lazy_binding.specs.World.{World}
use Rattle.lazy_plan.specs.Bench.{IsMadeOf, HasUnder, AmongInputs}
use Rattle.lazy_site.specs.Labels.{labels, op_labels}
use Rattle.lazy_site.specs.Sizes.{size, op_size, extent, op_extent}
use Rattle.lazy_site.specs.Origins.{IsPassedOn, PassesAll, IsMadeHere, makes}
use Rattle.lazy_site.proofs.Numbering.{inputs_below, kind_of, size_of, extent_of, labels_of, labels_fit, fits_some, fits_none}

-- WHAT AN OPERATOR BINDS

-- a variable that the right side of a join binds is bound, whatever the left one binds
pub bound_either : (r : Bool) (j k : Option Kind) → r ≡ is_some k → r ≡ true → r ≡ is_some (either_kind j k)
bound_either r None k e h = e
bound_either r (Some j) k e h = h

-- a kind that is none is not some kind
pub none_bound : (j : Option Kind) (k : Kind) → j ≡ None → j ≡ Some k → ⊥
none_bound j k e h = cc

-- WHERE A VALUE COMES FROM

-- a choice whose test fails is its second part
pub cond_false : {A : Type 0} (b : Bool) (x y : A) → b ≡ false → cond b x y ≡ y
cond_false true x y h = cc
cond_false false x y h = refl

-- a choice whose test fails is at least its second part
cond_le : (b : Bool) (x y : ℕ) → b ≡ false → y ≤ cond b x y
cond_le true x y h = cc
cond_le false x y h = omega arith

module _ (p : Plan) (typed : IsTyped (plan_value p).ops) (n : ℕ) (within : n < length (plan_value p).ops) (v : ℕ) where
  -- a value that an operator has from one input is passed on from it
  passed : (o : Operator) → o ≡ op_at (plan_value p).ops n → (i : ℕ) → i < n → AmongInputs i o → HasUnder o
      → op_kinds o (kinds (plan_value p).ops) v ≡ kinds (plan_value p).ops i v
      → size (plan_value p).ops i v ≤ op_size o (size (plan_value p).ops) v
      → ((bound : ℕ → ℕ) → extent bound (plan_value p).ops i v ≤ op_extent bound o (extent bound (plan_value p).ops) v)
      → op_labels o (labels (plan_value p).ops) v ≡ labels (plan_value p).ops i v
      → ((w : World) (row below : TolledRow) (es : RowEvents) → IsMadeOf (record { world = w; plan = p }) row i below es o → tolled_value row v ≡ tolled_value below v)
      → IsPassedOn p n v i
  passed o e i l a u k s x b m = record {
    within = l;
    input = subst (λ (q : Operator). AmongInputs i q) e a;
    under = subst (λ (q : Operator). HasUnder q) e u;
    kind = kind_of (plan_value p).ops typed n within o e v ∙ k;
    size = (let z = size_of (plan_value p).ops typed n within o e v in omega (arith, z, s));
    extent = λ bound. (let z = extent_of (plan_value p).ops typed n within o e bound v in let y = x bound in omega (arith, z, y));
    labels = labels_of (plan_value p).ops typed n within o e v ∙ b;
    value = λ w row below es h. m w row below es (subst (λ (q : Operator). IsMadeOf (record { world = w; plan = p }) row i below es q) (sym e) h);
  }

  -- a getDescendants has every variable but its own from its input
  pub passed_visit : (i start : ℕ) (path : Form) (out : ℕ) → get_descendants i start path out ≡ op_at (plan_value p).ops n → (out == v) ≡ false → IsPassedOn p n v i
  passed_visit i start path out e t =
      passed (get_descendants i start path out) e i (inputs_below (plan_value p).ops typed n within (get_descendants i start path out) e).0 refl tt
      (cond_false (out == v) (Some a_node) (kinds (plan_value p).ops i v) t)
      (cond_le (out == v) _ (size (plan_value p).ops i v) t)
      (λ bound. cond_le (out == v) _ (extent bound (plan_value p).ops i v) t)
      (cond_false (out == v) (Some None) (labels (plan_value p).ops i v) t)
      (λ w row below es h. ap (λ (r : TolledRow). tolled_value r v) h.1 ∙ cond_false (out == v) _ (tolled_value below v) t)

  -- a selection has every variable from its input
  pub passed_select : (i : ℕ) (test : Test) → over i (select test) ≡ op_at (plan_value p).ops n → IsPassedOn p n v i
  passed_select i test e =
      passed (over i (select test)) e i (inputs_below (plan_value p).ops typed n within (over i (select test)) e).0 refl tt refl (omega arith) (λ bound. omega arith) refl
      (λ w row below es h. ap (λ (r : TolledRow). tolled_value r v) h)

  -- an order has every variable from its input
  pub passed_order : (i u : ℕ) (desc : Bool) → over i (order_by u desc) ≡ op_at (plan_value p).ops n → IsPassedOn p n v i
  passed_order i u desc e =
      passed (over i (order_by u desc)) e i (inputs_below (plan_value p).ops typed n within (over i (order_by u desc)) e).0 refl tt refl (omega arith) (λ bound. omega arith) refl
      (λ w row below es h. ap (λ (r : TolledRow). tolled_value r v) h)

  -- a concatenate has every variable but its own from its input
  pub passed_list : (i : ℕ) (pieces : List Piece) (out : ℕ) → over i (concatenate pieces out) ≡ op_at (plan_value p).ops n → (out == v) ≡ false → IsPassedOn p n v i
  passed_list i pieces out e t =
      passed (over i (concatenate pieces out)) e i (inputs_below (plan_value p).ops typed n within (over i (concatenate pieces out)) e).0 refl tt
      (cond_false (out == v) (Some a_list) (kinds (plan_value p).ops i v) t)
      (cond_le (out == v) _ (size (plan_value p).ops i v) t)
      (λ bound. cond_le (out == v) _ (extent bound (plan_value p).ops i v) t)
      (cond_false (out == v) (Some None) (labels (plan_value p).ops i v) t)
      (λ w row below es h. ap (λ (r : TolledRow). tolled_value r v) h ∙ cond_false (out == v) _ (tolled_value below v) t)

  -- a createElement has every variable but its own from its input
  pub passed_element : (i : ℕ) (label : List ℕ) (list out : ℕ) → over i (create_element label list out) ≡ op_at (plan_value p).ops n → (out == v) ≡ false → IsPassedOn p n v i
  passed_element i label list out e t =
      passed (over i (create_element label list out)) e i (inputs_below (plan_value p).ops typed n within (over i (create_element label list out)) e).0 refl tt
      (cond_false (out == v) (Some an_element) (kinds (plan_value p).ops i v) t)
      (cond_le (out == v) _ (size (plan_value p).ops i v) t)
      (λ bound. cond_le (out == v) _ (extent bound (plan_value p).ops i v) t)
      (cond_false (out == v) (Some (Some label)) (labels (plan_value p).ops i v) t)
      (λ w row below es h. ap (λ (r : TolledRow). tolled_value r v) h ∙ cond_false (out == v) _ (tolled_value below v) t)

  -- where there is a kind, it is some kind
  some_kind : (j : Option Kind) → true ≡ is_some j → (k : Kind) × (j ≡ Some k)
  some_kind None e = cc
  some_kind (Some k) e = (k, refl)

  -- a join has a variable that its left side binds from there
  pub passed_left : (l r : ℕ) (tests : List Test) → join l r tests ≡ op_at (plan_value p).ops n → true ≡ is_some (kinds (plan_value p).ops l v) → IsPassedOn p n v l
  passed_left l r tests e t =
      let below = inputs_below (plan_value p).ops typed n within (join l r tests) e in
      let k = some_kind (kinds (plan_value p).ops l v) t in
      let x = fits_some (kinds (plan_value p).ops l v) (labels (plan_value p).ops l v) k.0 (labels_fit (plan_value p).ops typed l v (let z = below.0 in omega (arith, z, within))) k.1 in
      passed (join l r tests) e l below.0 (inl refl) tt
      (rw k.1 refl) (omega arith) (λ bound. omega arith) (rw x.1 refl)
      (λ w row row' es h. h.0 refl v k.0 k.1)

  -- what isn't bound on the right is bound on the left
  left_kind : (j i : Option Kind) → false ≡ is_some i → (k : Kind) → either_kind j i ≡ Some k → true ≡ is_some j
  left_kind None None e k h = cc
  left_kind None (Some i) e k h = cc
  left_kind (Some j) i e k h = refl

  -- what a join binds and its right side doesn't has a kind on the left
  pub passed_but_right : (l r : ℕ) (tests : List Test) → join l r tests ≡ op_at (plan_value p).ops n → false ≡ is_some (kinds (plan_value p).ops r v) → (k : Kind) × (kinds (plan_value p).ops n v ≡ Some k) → IsPassedOn p n v l
  passed_but_right l r tests e t k =
      passed_left l r tests e (left_kind (kinds (plan_value p).ops l v) (kinds (plan_value p).ops r v) t k.0 (sym (kind_of (plan_value p).ops typed n within (join l r tests) e v) ∙ k.1))

  -- a join of a valid plan has a variable that its right side binds from there
  pub passed_right : IsValid (plan_value p) → (l r : ℕ) (tests : List Test) → join l r tests ≡ op_at (plan_value p).ops n → true ≡ is_some (kinds (plan_value p).ops r v) → IsPassedOn p n v r
  passed_right valid l r tests e bound =
      let below = inputs_below (plan_value p).ops typed n within (join l r tests) e in
      let some = some_kind (kinds (plan_value p).ops r v) bound in
      let none = sides_fresh (plan_value p) valid typed n l r v some.0 within (ap inputs_of (sym e)) some.1 in
      let x = fits_none (kinds (plan_value p).ops l v) (labels (plan_value p).ops l v) (labels_fit (plan_value p).ops typed l v (let z = below.0 in omega (arith, z, within))) none in
      passed (join l r tests) e r below.1.0 (inr refl) tt
      (rw none refl) (omega arith) (λ bound. omega arith) (rw x refl)
      (λ w row row' es h. h.1 (λ same. (let z : kinds (plan_value p).ops l v ≡ Some some.0 = ap (λ (m : ℕ). kinds (plan_value p).ops m v) (sym same) ∙ some.1 in cc)) v none)

  -- MADE HERE

  -- a variable that an operator binds to a node is made there
  made_node : (o : Operator) → o ≡ op_at (plan_value p).ops n → op_kinds o (kinds (plan_value p).ops) v ≡ Some a_node → IsMadeHere p n v
  made_node o e h = inl (kind_of (plan_value p).ops typed n within o e v ∙ h)

  -- a variable of which an operator makes the value is made there
  makes_it : (o : Operator) → o ≡ op_at (plan_value p).ops n → makes o v ≡ true → IsMadeHere p n v
  makes_it o e h = inr (subst (λ (q : Operator). makes q v ≡ true) e h)

  -- the variable of a source is made there
  pub made_source : (s out : ℕ) → source s out ≡ op_at (plan_value p).ops n → (k : Kind) × (kinds (plan_value p).ops n v ≡ Some k) → IsMadeHere p n v
  made_source s out e k =
      made_node (source s out) e (elim (out == v) as (λ t. cond t (Some a_node) None ≡ Some k.0 → cond t (Some a_node) None ≡ Some a_node) [ true ↦ λ g. refl | false ↦ λ g. cc ] (sym (kind_of (plan_value p).ops typed n within (source s out) e v) ∙ k.1))

  -- the variable of a getDescendants is made there
  pub made_visit : (i start : ℕ) (path : Form) (out : ℕ) → get_descendants i start path out ≡ op_at (plan_value p).ops n → (out == v) ≡ true → IsMadeHere p n v
  made_visit i start path out e t = made_node (get_descendants i start path out) e (rw t refl)

  -- a variable of keys holds a node
  key_node : (i : ℕ) (keys : List Key) → AreNodes keys (kinds (plan_value p).ops i) → (k : Kind) → kept keys (kinds (plan_value p).ops i) v ≡ Some k → kept keys (kinds (plan_value p).ops i) v ≡ Some a_node
  key_node i keys nodes k h = elim (has_var keys v) as (λ t. has_var keys v ≡ t → cond t (kinds (plan_value p).ops i v) None ≡ Some k → cond t (kinds (plan_value p).ops i v) None ≡ Some a_node) [ true ↦ λ g f. nodes v g | false ↦ λ g f. cc ] refl h

  -- a variable of a projection is made there, as a node
  pub made_project : (i : ℕ) (keys : List Key) → over i (project keys) ≡ op_at (plan_value p).ops n → (k : Kind) × (kinds (plan_value p).ops n v ≡ Some k) → IsMadeHere p n v
  made_project i keys e k =
      made_node (over i (project keys)) e (key_node i keys (subst (λ (o : Operator). IsFit o (kinds (plan_value p).ops)) (sym e) (typed.fit n within)) k.0 (sym (kind_of (plan_value p).ops typed n within (over i (project keys)) e v) ∙ k.1))

  -- a variable of a groupBy is made there: its list, or a node of a key
  pub made_group : (i : ℕ) (keys : List Key) (piece : Piece) (out : ℕ) → over i (group_by keys piece out) ≡ op_at (plan_value p).ops n → (k : Kind) × (kinds (plan_value p).ops n v ≡ Some k) → IsMadeHere p n v
  made_group i keys piece out e k =
      let bound = ap (λ (g : Kinds). g v) (group_kinds keys piece out (kinds (plan_value p).ops i)) in
      let fit = fit_group keys piece out (kinds (plan_value p).ops i) (subst (λ (o : Operator). IsFit o (kinds (plan_value p).ops)) (sym e) (typed.fit n within)) in
      elim (out == v) as (λ t. (out == v) ≡ t → IsMadeHere p n v) [
        | true ↦ λ t. makes_it (over i (group_by keys piece out)) e t
        | false ↦ λ t. made_node (over i (group_by keys piece out)) e (bound ∙ cond_false (out == v) (Some a_list) (kept keys (kinds (plan_value p).ops i) v) t
            ∙ key_node i keys fit.0 k.0
            (sym (cond_false (out == v) (Some a_list) (kept keys (kinds (plan_value p).ops i) v) t) ∙ sym bound ∙ sym (kind_of (plan_value p).ops typed n within (over i (group_by keys piece out)) e v) ∙ k.1))
      ] refl

  -- the list of a concatenate is made there
  pub made_list : (i : ℕ) (pieces : List Piece) (out : ℕ) → over i (concatenate pieces out) ≡ op_at (plan_value p).ops n → (out == v) ≡ true → IsMadeHere p n v
  made_list i pieces out e t = makes_it (over i (concatenate pieces out)) e t

  -- the element of a createElement is made there
  pub made_element : (i : ℕ) (label : List ℕ) (list out : ℕ) → over i (create_element label list out) ≡ op_at (plan_value p).ops n → (out == v) ≡ true → IsMadeHere p n v
  made_element i label list out e t = makes_it (over i (create_element label list out)) e t

-- ALL THAT AN INPUT BINDS

module _ (p : Plan) (valid : IsValid (plan_value p)) (typed : IsTyped (plan_value p).ops) (n : ℕ) (within : n < length (plan_value p).ops) where
  -- an input does not bind what the operator binds anew
  pub other_out : (o : Operator) → o ≡ op_at (plan_value p).ops n → (i out : ℕ) → Among i (inputs_of o) → Among out (outs_of o) → (v : ℕ) (k : Kind) → kinds (plan_value p).ops i v ≡ Some k → (out == v) ≡ false
  other_out o e i out a b v k h =
      elim (out == v) as (λ t. (out == v) ≡ t → t ≡ false) [
        | true ↦ λ g.
            absurd
            (let same : out ≡ v = grind (arith, nat_tests, g) in
            let none = out_fresh (plan_value p) valid typed n i out within (subst (λ (q : Operator). Among i (inputs_of q)) e a) (subst (λ (q : Operator). Among out (outs_of q)) e b) in
            none_bound (kinds (plan_value p).ops i v) k (subst (λ (w : ℕ). kinds (plan_value p).ops i w ≡ None) same none) h)
        | false ↦ λ g. refl
      ] refl

  -- a getDescendants has all variables of its input from there
  pub all_visit : (i start : ℕ) (path : Form) (out : ℕ) → get_descendants i start path out ≡ op_at (plan_value p).ops n → PassesAll p n i
  all_visit i start path out e v k h = passed_visit p typed n within v i start path out e (other_out (get_descendants i start path out) e i out (inl refl) (inl refl) v k h)

  -- a concatenate has all variables of its input from there
  pub all_list : (i : ℕ) (pieces : List Piece) (out : ℕ) → over i (concatenate pieces out) ≡ op_at (plan_value p).ops n → PassesAll p n i
  all_list i pieces out e v k h = passed_list p typed n within v i pieces out e (other_out (over i (concatenate pieces out)) e i out (inl refl) (inl refl) v k h)

  -- a createElement has all variables of its input from there
  pub all_element : (i : ℕ) (label : List ℕ) (list out : ℕ) → over i (create_element label list out) ≡ op_at (plan_value p).ops n → PassesAll p n i
  all_element i label list out e v k h = passed_element p typed n within v i label list out e (other_out (over i (create_element label list out)) e i out (inl refl) (inl refl) v k h)

  -- a join has all variables of its left side from there
  pub all_left : (l r : ℕ) (tests : List Test) → join l r tests ≡ op_at (plan_value p).ops n → PassesAll p n l
  all_left l r tests e v k h = passed_left p typed n within v l r tests e (ap is_some (sym h))

  -- a join has all variables of its right side from there
  pub all_right : (l r : ℕ) (tests : List Test) → join l r tests ≡ op_at (plan_value p).ops n → PassesAll p n r
  all_right l r tests e v k h = passed_right p typed n within v valid l r tests e (ap is_some (sym h))
