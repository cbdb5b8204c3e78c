-- The constant by what the program knows of operators is the constant.
use Rattle.std.proofs.Common.{◌≡◌, inl, inr, ℕ, zero, suc, ◌<◌, ◌≤◌, false, true, cond, List, [], ◌∷◌, ◌++◌, refl, sym, ap, subst, ◌∙◌, arith, length, length-append, drop, map, get_or}
use Rattle.std.specs.Prelude.{Bool, Option}
use Rattle.std.specs.List.{AllByRecursion}
use Rattle.std.proofs.lemmas.Bool.{cases_lt}
use Rattle.std.proofs.Math.Seq.{drop-cons}
use Rattle.std.proofs.lemmas.List.{get_or_append_left, get_or_at, length-map}
use Rattle.mix_tree.specs.declared.comparing.Test.{Test}
use Rattle.path_expr.specs.Form.{Form}
use Rattle.plan_core.specs.declared.plan.Op.{Op}
use Rattle.plan_core.specs.PlanMade.{op_of}
use Rattle.plan_core.specs.ByNumber.{op_at}
use Rattle.plan_core.specs.Fronts.{Front, front}
use Rattle.plan_core.specs.Plans.{Operator, PlanValue}
use Rattle.plan_core.specs.Shapes.{a_list_of, an_element_of, filters, extends, first_by_keys, one_group, in_order, Shape, one_source, visits_below, pairs_up, passes_on, no_events, shape_of, shape_at}
use Rattle.plan_core.specs.Typed.{IsTyped}
use Rattle.plan_core.specs.Valid.{Kinds, a_list, kinds, shape_inputs, IsShapeFit, IsFit, IsValid}
use Rattle.plan_core.proofs.Numbers.{op_read}
use Rattle.browse_profile.specs.Bounds.{larger}
use Rattle.browse_profile.specs.Profiles.{greatest}
use Rattle.browse_visit.specs.declared.shape.Shape.{Shape as SourceShape}
use Rattle.browse_visit.specs.Shapes.{shapes_of}
use Rattle.browse_class.specs.declared.class.Class.TheVariants.{Unbrowsable}
use Rattle.browse_class.specs.Classes.{shape_bound, op_bound, all_bounds, constant, sorts_any, class_by, class_in}
use Rattle.browse_class.specs.Facts.{Facts, facts}
use Rattle.plan_class.specs.Agree.{Agrees, AreKnown, lists_in, known_below}
use Rattle.plan_class.specs.Known.{Known, no_known, known_at, visit_along, visits_known, pairs_known, shape_known, op_known, IsShortShape, IsShort}
use Rattle.plan_class.specs.declared.domain.Domain.{Domain}
use Rattle.plan_class.specs.declared.visit.Visit.{Visit}
use Rattle.plan_class.proofs.KnownSteps.{known_step}
use Rattle.plan_class.proofs.Origins.{trees_known}

-- a path that fits is short
pub fit_short : (op : Operator) (ks : ℕ → Kinds) → IsFit op ks → IsShort op
fit_short op ks h = short (shape_of op) h
  where
    short : (f : Shape) → IsShapeFit f ks → IsShortShape f
    short (one_source s out) h = tt
    short (visits_below i start path out) h = h.1
    short (pairs_up l r tests) h = tt
    short (passes_on i stage) h = tt
    short (no_events i made) h = tt

-- operators with the same bounds have the same greatest one
bounds_are : (a b : ℕ → Facts) (ops : List Operator) → ((n : ℕ) → n < length ops → op_bound (op_at ops n) a ≡ op_bound (op_at ops n) b) → all_bounds ops a ≡ all_bounds ops b
bounds_are a b [] h = refl
bounds_are a b (op ∷ ops) h =
    ap (λ (x : Option ℕ). larger x (all_bounds ops a)) (h 0 (omega arith)) ∙ ap (larger (op_bound op b)) (bounds_are a b ops (λ n l. h (suc n) (omega (arith, l))))

-- the greatest bound from number i on is the greater of that of operator i and of the greatest one after it
pub bounds_at : (fs : ℕ → Facts) (ops : List Op) (i at : ℕ) (op : Op) (x found : Option ℕ) → at ≡ suc i → i < length ops → op ≡ get_or ops i op → x ≡ op_bound (op_of op) fs
    → found ≡ all_bounds (map op_of (drop at ops)) fs → larger x found ≡ all_bounds (map op_of (drop i ops)) fs
bounds_at fs ops i at op x found q b e ex ef =
    ap (λ (z : Option ℕ). larger z found) ex
    ∙ ap (larger (op_bound (op_of op) fs)) (ef ∙ ap (λ (m : ℕ). all_bounds (map op_of (drop m ops)) fs) q)
    ∙ sym
    (ap (λ (xs : List Op). all_bounds (map op_of xs) fs) (drop-cons ops i op b)
    ∙ ap (λ (o : Op). larger (op_bound (op_of o) fs) (all_bounds (map op_of (drop (suc i) ops)) fs)) (sym e))

-- what is known of a visit below each binding is made of what was computed of its path, its front and its input
pub visits_are : (shapes : List SourceShape) (fronts : ℕ → Front) (domains : ℕ → Domain) (at : ℕ → Known) (input start : ℕ) (path : Form) (out : ℕ) (visit : Visit) (m : ℕ) (whole : Bool) (below : Known) (from : Domain)
    → visit ≡ visit_along shapes path from → m ≡ length (fronts input).vars → whole ≡ (fronts input).whole → from ≡ domains start → below ≡ at input
    → visits_known out visit m whole below ≡ shape_known shapes fronts domains at (visits_below input start path out)
visits_are shapes fronts domains at input start path out visit m whole below from ev em ew ef eb =
    ap (λ (v : Visit). visits_known out v m whole below) (ev ∙ ap (visit_along shapes path) ef)
    ∙ ap (λ (k : Known). visits_known out (visit_along shapes path (domains start)) m whole k) eb
    ∙ ap (λ (n : ℕ). visits_known out (visit_along shapes path (domains start)) n whole (at input)) em
    ∙ ap (λ (w : Bool). visits_known out (visit_along shapes path (domains start)) (length (fronts input).vars) w (at input)) ew

-- what is known of pairs is made of what was computed of the left front and of both sides
pub pairs_are : (shapes : List SourceShape) (fronts : ℕ → Front) (domains : ℕ → Domain) (at : ℕ → Known) (l r : ℕ) (tests : List Test) (m : ℕ) (whole : Bool) (left right : Known)
    → m ≡ length (fronts l).vars → whole ≡ (fronts l).whole → left ≡ at l → right ≡ at r → pairs_known tests m whole left right ≡ shape_known shapes fronts domains at (pairs_up l r tests)
pairs_are shapes fronts domains at l r tests m whole left right em ew el er =
    ap (λ (n : ℕ). pairs_known tests n whole left right) em
    ∙ ap (λ (w : Bool). pairs_known tests (length (fronts l).vars) w left right) ew
    ∙ ap (λ (k : Known). pairs_known tests (length (fronts l).vars) (fronts l).whole k right) el
    ∙ ap (λ (k : Known). pairs_known tests (length (fronts l).vars) (fronts l).whole (at l) k) er

-- the i-th operator of a walk over a plan's operators is the plan's operator i
pub op_walked : (ops xs : List Op) (i : ℕ) (o : Op) → xs ≡ ops → i < length xs → o ≡ get_or xs i o → (op_at (map op_of ops) i ≡ op_of o) × (i < length (map op_of ops))
op_walked ops xs i o e b is =
    let count = length-map xs op_of in (
      ap (λ (ys : List Op). op_at (map op_of ys) i) (sym e) ∙ op_read xs i o b is,
      subst (λ (ys : List Op). i < length (map op_of ys)) e (omega (arith, count, b)),
    )

module _ (shapes : List SourceShape) (p : PlanValue) (valid : IsValid p) (typed : IsTyped p.ops) where
  -- where the first n operators are known, the first n + 1 are
  known_more : (known : List Known) (n : ℕ) (k : Known) → n < length p.ops → AreKnown shapes p.ops known n → k ≡ op_known shapes (front p.ops) known (op_at p.ops n) → AreKnown shapes p.ops (known ++ k ∷ []) (suc n)
  known_more known n k b are e = record {
    count = (let a = length-append known (k ∷ []) in let count = are.count in omega (arith, a, count));
    each = λ i c.
        elim (cases_lt i n) as (λ z. Agrees shapes p.ops i (known_at (known ++ k ∷ []) i)) [
          | inl l ↦ subst (Agrees shapes p.ops i) (sym (get_or_append_left known (k ∷ []) no_known i (let count = are.count in omega (arith, count, l)))) (are.each i l)
          | inr r ↦
              (let q : i ≡ n = omega (arith, c, r) in
              subst (λ (m : ℕ). Agrees shapes p.ops m (known_at (known ++ k ∷ []) m)) (sym q)
              (subst (Agrees shapes p.ops n) (sym (get_or_at known k [] no_known n are.count ∙ e)) (known_step shapes p valid typed known n b are)))
        ];
  }

  -- the first n operators are known, for each n
  pub are_known : (n : ℕ) → n ≤ length p.ops → AreKnown shapes p.ops (known_below shapes p.ops n) n
  are_known zero h = record { count = refl; each = λ i c. absurd (omega (arith, c)) }
  are_known (suc n) h =
      known_more (known_below shapes p.ops n) n (op_known shapes (front p.ops) (known_below shapes p.ops n) (op_at p.ops n)) (omega (arith, h)) (are_known n (omega (arith, h))) refl

  module _ (known : List Known) (are : AreKnown shapes p.ops known (length p.ops)) where
    -- what is known of each operator
    abbrev fs : ℕ → Facts
    fs = facts (shapes_of shapes) p.ops

    -- each operator before another is known
    first_known : (n : ℕ) → n < length p.ops → (i : ℕ) → i < n → Agrees shapes p.ops i (known_at known i)
    first_known n b i l = are.each i (omega (arith, l, b))

    -- the bound of the list of a new element is the same by the program and by the facts
    bound_is : (n : ℕ) → n < length p.ops → (f : Shape) → AllByRecursion (λ i. i < n) (shape_inputs f) → IsShapeFit f (kinds p.ops) → shape_bound f (λ i. lists_in known) ≡ shape_bound f fs
    bound_is n b (one_source s out) small fit = refl
    bound_is n b (visits_below i start path out) small fit = refl
    bound_is n b (pairs_up l r tests) small fit = refl
    bound_is n b (passes_on i (filters test)) small fit = refl
    bound_is n b (passes_on i (extends out (a_list_of pieces))) small fit = refl
    bound_is n b (passes_on i (extends out (an_element_of label list))) small fit = ap greatest (trees_known shapes p valid typed known (length p.ops) (omega arith) are i list a_list (omega (arith, small.0, b)) fit)
    bound_is n b (passes_on i (first_by_keys keys group)) small fit = refl
    bound_is n b (passes_on i (one_group piece out)) small fit = refl
    bound_is n b (passes_on i (in_order v desc)) small fit = refl
    bound_is n b (no_events i made) small fit = refl

    -- where no operator sorts, the class by what the program knows is the plan's
    pub class_is : sorts_any p.ops ≡ false → class_by (all_bounds p.ops (λ i. lists_in known)) ≡ class_in (shapes_of shapes) p.ops
    class_is h =
        let same : all_bounds p.ops (λ i. lists_in known) ≡ constant (shapes_of shapes) p.ops =
        bounds_are (λ i. lists_in known) fs p.ops (λ n b. bound_is n b (shape_at p.ops n) (typed.inputs n b) (typed.fit n b))
        in
        ap class_by same ∙ ap (λ (w : Bool). cond w Unbrowsable (class_by (constant (shapes_of shapes) p.ops))) (sym h)

  -- where some operator sorts, the plan's class is unbrowsable
  pub class_sorted : sorts_any p.ops ≡ true → Unbrowsable ≡ class_in (shapes_of shapes) p.ops
  class_sorted h = ap (λ (w : Bool). cond w Unbrowsable (class_by (constant (shapes_of shapes) p.ops))) (sym h)
