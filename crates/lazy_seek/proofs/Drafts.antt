-- The nodes that places give, from operator to operator.
use Rattle.std.proofs.Common.{◌≡◌, ◌⊎◌, inl, inr, ℕ, zero, suc, ◌<◌, ◌≤◌, ◌+◌, true, false, cond, List, [], ◌∷◌, ◌++◌, Some, refl, sym, ap, subst, ◌∙◌, arith, length, length-append, take, append_assoc}
use Rattle.std.specs.Prelude.{Bool, ◌==◌, slice_get, slice_index_or}
use Rattle.std.proofs.lemmas.Bool.{eqb-true}
use Rattle.std.proofs.lemmas.Bool.Decides.{nat_tests}
use Rattle.mix_base.specs.Ascents.{Among}
use Rattle.mix_base.proofs.Ascents.{among_left, among_right}
use Rattle.mix_base.proofs.Lists.{append_nil}
use Rattle.mix_tree.specs.Nodes.{Node, document_node}
use Rattle.path_expr.specs.Form.{Form}
use Rattle.plan_core.specs.ByNumber.{op_at}
use Rattle.plan_core.specs.Plans.{Operator, source, PlanValue}
use Rattle.plan_core.specs.Shapes.{Shape, one_source, visits_below, pairs_up, passes_on, no_events, shape_of, shape_at}
use Rattle.plan_core.specs.Typed.{IsTyped}
use Rattle.plan_core.specs.Valid.{kinds, outs_of, shape_outs, shape_inputs, IsShapeFit, IsValid}
use Rattle.plan_core.proofs.Fresh.{bound_once, smaller}
use Rattle.plan_core.proofs.Typed.{valid_is_typed}
use Rattle.plan_evidence.specs.Evidence.{is_on_way, visit_vars, vars_from, evidence_vars, places_of}
use Rattle.plan_evidence.proofs.Evident.{node_binds}
use Rattle.plan_evidence.proofs.Ways.{binds_by, way_cases, way_inputs}
use Rattle.lazy_seek.specs.Given.{shape_given, vars_below, next_given, given_below, given}

-- a number up to the one after another is that one, or up to the other
up_to : (i j : ℕ) → i ≤ suc j → (i ≡ suc j) ⊎ (i ≤ j)
up_to zero j h = inr (omega arith)
up_to (suc i) zero h = inl (omega (arith, h))
up_to (suc i) (suc j) h = elim (up_to i j (omega (arith, h))) [ inl e ↦ inl (ap suc e) | inr l ↦ inr (omega (arith, l)) ]

-- a number is equal to itself
same_number : (v : ℕ) → (v == v) ≡ true
same_number v = grind (arith, nat_tests)

-- LISTS

-- the first members of a list and the next one
pub take_one : {X : Type 0} (xs : List X) (i : ℕ) (d : X) → i < length xs → take (suc i) xs ≡ take i xs ++ slice_index_or xs i d ∷ []
take_one [] i d h = absurd (omega (arith, h))
take_one (x ∷ xs) zero d h = refl
take_one (x ∷ xs) (suc i) d h = ap (λ (ys : List _). x ∷ ys) (take_one xs i d (omega (arith, h)))

-- a member of a list at an index
get_at : {X : Type 0} (xs : List X) (i : ℕ) (d : X) → i < length xs → slice_get xs i ≡ Some (slice_index_or xs i d)
get_at [] i d h = absurd (omega (arith, h))
get_at (x ∷ xs) zero d h = refl
get_at (x ∷ xs) (suc i) d h = get_at xs i d (omega (arith, h))

-- all members of a list
take_whole : {X : Type 0} (xs : List X) → take (length xs) xs ≡ xs
take_whole [] = refl
take_whole (x ∷ xs) = ap (λ (ys : List _). x ∷ ys) (take_whole xs)

-- one variable more at the end
vars_end : (on : ℕ → Bool) (b : ℕ) (ops : List Operator) (op : Operator) → vars_from on b (ops ++ op ∷ []) ≡ vars_from on b ops ++ cond (on (b + length ops)) (visit_vars (shape_of op)) []
vars_end on b [] op = (let e : b + 0 ≡ b = omega arith in append_nil (cond (on b) (visit_vars (shape_of op)) []) ∙ ap (λ (m : ℕ). cond (on m) (visit_vars (shape_of op)) []) (sym e))
vars_end on b (o ∷ ops) op =
    let e : suc b + length ops ≡ b + suc (length ops) = omega arith in
    let here : List ℕ = cond (on b) (visit_vars (shape_of o)) [] in
    ap (λ (l : List ℕ). here ++ l) (vars_end on (suc b) ops op ∙ ap (λ (m : ℕ). vars_from on (suc b) ops ++ cond (on m) (visit_vars (shape_of op)) []) e)
    ∙ sym (append_assoc here (vars_from on (suc b) ops) (cond (on (b + suc (length ops))) (visit_vars (shape_of op)) []))

-- places of variables and one more
places_end : (vs : List ℕ) (nodes : ℕ → Node) (v : ℕ) → places_of (vs ++ v ∷ []) nodes ≡ places_of vs nodes ++ (nodes v).place ∷ []
places_end [] nodes v = refl
places_end (w ∷ vs) nodes v = ap (λ (l : List (List ℕ)). (nodes w).place ∷ l) (places_end vs nodes v)

-- the variables of one operator more
pub vars_step : (ops : List Operator) (n i : ℕ) → vars_below ops n (suc i) ≡ vars_below ops n i ++ cond (is_on_way ops n i) (visit_vars (shape_at ops i)) []
unfolding vars_below
vars_step ops n i = refl

-- SHAPES

-- a variable that a shape doesn't bind keeps its node
shape_keeps : (f : Shape) (place : List ℕ) (nodes : ℕ → Node) (v : ℕ) → (Among v (shape_outs f) → ⊥) → shape_given f place nodes v ≡ nodes v
shape_keeps (one_source s out) place nodes v h = other (out == v) refl
  where
    other : (t : Bool) → (out == v) ≡ t → cond t (document_node s) (nodes v) ≡ nodes v
    other true e = absurd (h (inl (sym (eqb-true out v e))))
    other false e = refl
shape_keeps (visits_below input start path out) place nodes v h = other (out == v) refl
  where
    other : (t : Bool) → (out == v) ≡ t → cond t (record { source = (nodes start).source; place = place }) (nodes v) ≡ nodes v
    other true e = absurd (h (inl (sym (eqb-true out v e))))
    other false e = refl
shape_keeps (pairs_up left right tests) place nodes v h = refl
shape_keeps (passes_on input stage) place nodes v h = refl
shape_keeps (no_events input made) place nodes v h = refl

module _ (p : PlanValue) (valid : IsValid p) (n : ℕ) (within : n < length p.ops) where
  -- the plan's operators are typed
  typed : IsTyped p.ops
  typed = valid_is_typed p valid

  -- an operator on the way has no greater number
  low_below : (k m i : ℕ) → m < k → m < length p.ops → is_on_way p.ops m i ≡ true → i ≤ m
  low_below zero m i h b o = absurd (omega (arith, h))
  low_below (suc k) m i h b o = elim (way_cases p valid typed m i b o) [
    | inl e ↦ omega (arith, e)
    | inr r ↦
        (let s = smaller p valid typed r.input m b (way_inputs (shape_at p.ops m) r.input r.among) in
        let l = low_below k r.input i (omega (arith, s, h)) (omega (arith, s, b)) r.on_way in omega (arith, l, s))
  ]

  -- an operator on the way has no greater number
  pub way_low : (m i : ℕ) → m < length p.ops → is_on_way p.ops m i ≡ true → i ≤ m
  way_low m i b o = low_below (suc m) m i (omega arith) b o

  -- an operator above isn't on the way
  off_above : (i : ℕ) → n < i → is_on_way p.ops n i ≡ false
  off_above i h = off (is_on_way p.ops n i) refl
    where
      off : (t : Bool) → is_on_way p.ops n i ≡ t → t ≡ false
      off true e = (let l = way_low n i within e in absurd (omega (arith, l, h)))
      off false e = refl

  -- VARIABLES

  -- the variables of one operator more
  pub vars_next : (i : ℕ) → vars_below p.ops n (suc i) ≡ vars_below p.ops n i ++ cond (is_on_way p.ops n i) (visit_vars (shape_at p.ops i)) []
  vars_next i = vars_step p.ops n i

  -- the variables among the first operators
  vars_first : (i : ℕ) → i ≤ length p.ops → vars_from (is_on_way p.ops n) 0 (take i p.ops) ≡ vars_below p.ops n i
  unfolding vars_below
  vars_first zero h = refl
  vars_first (suc i) h =
      let l : i < length p.ops = omega (arith, h) in
      let e : length (take i p.ops) ≡ i = length_first p.ops i l in
      let z : 0 + length (take i p.ops) ≡ i = omega (arith, e) in
      ap (vars_from (is_on_way p.ops n) 0) (take_one p.ops i (source 0 0) l) ∙ vars_end (is_on_way p.ops n) 0 (take i p.ops) (op_at p.ops i)
      ∙ ap (λ (m : ℕ). vars_from (is_on_way p.ops n) 0 (take i p.ops) ++ cond (is_on_way p.ops n m) (visit_vars (shape_at p.ops i)) []) z
      ∙ ap (λ (l : List ℕ). l ++ cond (is_on_way p.ops n i) (visit_vars (shape_at p.ops i)) []) (vars_first i (omega (arith, h)))
    where
      length_first : (xs : List Operator) (i : ℕ) → i < length xs → length (take i xs) ≡ i
      length_first [] i h = absurd (omega (arith, h))
      length_first (x ∷ xs) zero h = refl
      length_first (x ∷ xs) (suc i) h = ap suc (length_first xs i (omega (arith, h)))

  -- above the operator there are no more variables
  vars_stay : (j : ℕ) → suc n ≤ j → vars_below p.ops n j ≡ vars_below p.ops n (suc n)
  vars_stay zero h = absurd (omega (arith, h))
  vars_stay (suc j) h = elim (up_to (suc n) j h) [
    | inl e ↦ ap (vars_below p.ops n) (sym e)
    | inr l ↦
        vars_next j ∙ ap (λ (t : Bool). vars_below p.ops n j ++ cond t (visit_vars (shape_at p.ops j)) []) (off_above j (omega (arith, l))) ∙ append_nil (vars_below p.ops n j) ∙ vars_stay j l
  ]

  -- the variables of evidence are those below the next operator
  pub vars_are : evidence_vars p.ops n ≡ vars_below p.ops n (suc n)
  vars_are = ap (vars_from (is_on_way p.ops n) 0) (sym (take_whole p.ops)) ∙ vars_first (length p.ops) (omega arith) ∙ vars_stay (length p.ops) (omega (arith, within))

  -- more operators have no fewer variables
  vars_grow : (j i : ℕ) → i ≤ j → length (vars_below p.ops n i) ≤ length (vars_below p.ops n j)
  vars_grow zero i h = (let e : i ≡ 0 = omega (arith, h) in subst (λ m. length (vars_below p.ops n m) ≤ length (vars_below p.ops n 0)) (sym e) (omega arith))
  vars_grow (suc j) i h = elim (up_to i j h) [
    | inl e ↦ subst (λ m. length (vars_below p.ops n m) ≤ length (vars_below p.ops n (suc j))) (sym e) (omega arith)
    | inr l ↦
        (let r = vars_grow j i l in
        let e = ap length (vars_next j) ∙ length-append (vars_below p.ops n j) (cond (is_on_way p.ops n j) (visit_vars (shape_at p.ops j)) []) in omega (arith, r, e))
  ]

  -- the variable of a visit on the way is among those below a later operator
  vars_have : (j i v : ℕ) → i < j → is_on_way p.ops n i ≡ true → Among v (visit_vars (shape_at p.ops i)) → Among v (vars_below p.ops n j)
  vars_have zero i v h o a = absurd (omega (arith, h))
  vars_have (suc j) i v h o a = subst (Among v) (sym (vars_next j)) (elim (up_to (suc i) j h) [
    | inl e ↦
        among_right (vars_below p.ops n j) (cond (is_on_way p.ops n j) (visit_vars (shape_at p.ops j)) []) v
        (let z : i ≡ j = omega (arith, e) in subst (λ m. Among v (cond (is_on_way p.ops n m) (visit_vars (shape_at p.ops m)) [])) z (subst (λ (t : Bool). Among v (cond t (visit_vars (shape_at p.ops i)) [])) (sym o) a))
    | inr l ↦ among_left (vars_below p.ops n j) (cond (is_on_way p.ops n j) (visit_vars (shape_at p.ops j)) []) v (vars_have j i v l o a)
  ])

  -- the variable of a visit on the way is among those of evidence
  pub visit_among : (i v : ℕ) → i ≤ n → is_on_way p.ops n i ≡ true → Among v (visit_vars (shape_at p.ops i)) → Among v (evidence_vars p.ops n)
  visit_among i v h o a = subst (Among v) (sym vars_are) (vars_have (suc n) i v (omega (arith, h)) o a)

  module _ (places : List (List ℕ)) where
    -- nodes given by one operator more
    given_next : (i : ℕ) → given_below p.ops n places (suc i)
        ≡ cond (is_on_way p.ops n i) (shape_given (shape_at p.ops i) (next_given p.ops n places i) (given_below p.ops n places i)) (given_below p.ops n places i)
    unfolding given_below
    given_next i = refl

    -- nodes given by one operator more, which is on the way
    given_by : (i : ℕ) → is_on_way p.ops n i ≡ true → given_below p.ops n places (suc i) ≡ shape_given (shape_at p.ops i) (next_given p.ops n places i) (given_below p.ops n places i)
    given_by i o =
        given_next i
        ∙ ap (λ (t : Bool). cond t (shape_given (shape_at p.ops i) (next_given p.ops n places i) (given_below p.ops n places i)) (given_below p.ops n places i)) o

    -- a variable that an operator doesn't bind keeps its node
    given_keeps : (i v : ℕ) → (Among v (outs_of (op_at p.ops i)) → ⊥) → given_below p.ops n places (suc i) v ≡ given_below p.ops n places i v
    given_keeps i v h = ap (λ (f : ℕ → Node). f v) (given_next i) ∙ kept (is_on_way p.ops n i)
      where
        kept : (t : Bool) → cond t (shape_given (shape_at p.ops i) (next_given p.ops n places i) (given_below p.ops n places i)) (given_below p.ops n places i) v ≡ given_below p.ops n places i v
        kept true = shape_keeps (shape_at p.ops i) (next_given p.ops n places i) (given_below p.ops n places i) v h
        kept false = refl

    -- a variable that no operator between two numbers binds keeps its node
    given_stays : (j i v : ℕ) → i ≤ j → ((m : ℕ) → i ≤ m → m < j → Among v (outs_of (op_at p.ops m)) → ⊥) → given_below p.ops n places j v ≡ given_below p.ops n places i v
    given_stays zero i v h f = (let e : 0 ≡ i = omega (arith, h) in ap (λ m. given_below p.ops n places m v) e)
    given_stays (suc j) i v h f = elim (up_to i j h) [
      | inl e ↦ ap (λ m. given_below p.ops n places m v) (sym e)
      | inr l ↦ given_keeps j v (f j l (omega arith)) ∙ given_stays j i v l (λ m x y a. f m x (omega (arith, y)) a)
    ]

    -- a variable has the node that its operator gave it
    given_last : (i v : ℕ) → i ≤ n → Among v (outs_of (op_at p.ops i)) → given p.ops n places v ≡ given_below p.ops n places (suc i) v
    given_last i v h a =
        given_stays (suc n) (suc i) v (omega (arith, h))
        (λ m x y b. (let e : m ≡ i = bound_once p.ops valid.distinct m i v (omega (arith, y, within)) (omega (arith, h, within)) b a in absurd (omega (arith, e, x))))

    -- the variable of a source has its document node
    pub source_given : (i s out : ℕ) → i ≤ n → is_on_way p.ops n i ≡ true → shape_at p.ops i ≡ one_source s out → given p.ops n places out ≡ document_node s
    source_given i s out h o e =
        given_last i out h (subst (λ (f : Shape). Among out (shape_outs f)) (sym e) (inl refl))
        ∙ ap (λ (f : ℕ → Node). f out) (given_by i o)
        ∙ ap (λ (f : Shape). shape_given f (next_given p.ops n places i) (given_below p.ops n places i) out) e
        ∙ ap (λ (t : Bool). cond t (document_node s) (given_below p.ops n places i out)) (same_number out)

    -- the start of a visit has its node before the visit
    start_given : (i input start out : ℕ) (path : Form) → i ≤ n → shape_at p.ops i ≡ visits_below input start path out → given_below p.ops n places i start ≡ given p.ops n places start
    start_given i input start out path h e =
        let b : i < length p.ops = omega (arith, h, within) in
        let fit : IsShapeFit (visits_below input start path out) (kinds p.ops) = subst (λ (f : Shape). IsShapeFit f (kinds p.ops)) e (typed.fit i b) in
        let s : input < i = smaller p valid typed input i b (subst (λ (f : Shape). Among input (shape_inputs f)) (sym e) (inl refl)) in
        let c = binds_by p.ops input start (node_binds p valid typed input start (omega (arith, s, b)) fit.0) in
        let low = way_low input c.number (omega (arith, s, b)) c.on_way in
        sym (given_stays (suc n) i start (omega (arith, h))
        (λ m x y a. (let z : c.number ≡ m = bound_once p.ops valid.distinct c.number m start c.within (omega (arith, y, within)) c.among a in absurd (omega (arith, z, x, low, s)))))

    -- the variable of a visit has the node at the next place, in the source of its start's node
    pub visit_given : (i input start out : ℕ) (path : Form) → i ≤ n → is_on_way p.ops n i ≡ true → shape_at p.ops i ≡ visits_below input start path out
        → given p.ops n places out ≡ record { source = (given p.ops n places start).source; place = next_given p.ops n places i }
    visit_given i input start out path h o e =
        let place : List ℕ = next_given p.ops n places i in
        given_last i out h (subst (λ (f : Shape). Among out (shape_outs f)) (sym e) (inl refl))
        ∙ ap (λ (f : ℕ → Node). f out) (given_by i o)
        ∙ ap (λ (f : Shape). shape_given f place (given_below p.ops n places i) out) e
        ∙ ap (λ (t : Bool). cond t (record { source = (given_below p.ops n places i start).source; place = place }) (given_below p.ops n places i out)) (same_number out)
        ∙ ap (λ (m : Node). record { source = m.source; place = place }) (start_given i input start out path h e)

    module _ (full : length (evidence_vars p.ops n) ≡ length places) where
      -- the places are as many as the variables
      all_vars : length (vars_below p.ops n (suc n)) ≡ length places
      all_vars = ap length (sym vars_are) ∙ full

      -- the next place of a visit on the way is there
      pub next_there : (i : ℕ) → i ≤ n → is_on_way p.ops n i ≡ true → (v : ℕ) → visit_vars (shape_at p.ops i) ≡ v ∷ [] → length (vars_below p.ops n i) < length places
      next_there i h o v e =
          let g = vars_grow (suc n) (suc i) (omega (arith, h)) in
          let z = ap length (vars_next i ∙ ap (λ (t : Bool). vars_below p.ops n i ++ cond t (visit_vars (shape_at p.ops i)) []) o ∙ ap (λ (l : List ℕ). vars_below p.ops n i ++ l) e)
          ∙ length-append (vars_below p.ops n i) (v ∷ []) in
          omega (arith, g, z, all_vars)

      -- the next place of a visit on the way, by its index
      pub next_get : (i : ℕ) → length (vars_below p.ops n i) < length places → slice_get places (length (vars_below p.ops n i)) ≡ Some (next_given p.ops n places i)
      next_get i h = get_at places (length (vars_below p.ops n i)) [] h

      -- no variables have no places
      none_first : places_of (vars_below p.ops n 0) (given p.ops n places) ≡ take (length (vars_below p.ops n 0)) places
      unfolding vars_below
      none_first = refl

      -- what holds of the places of variables holds of them with none more
      no_more : (i : ℕ) → places_of (vars_below p.ops n i) (given p.ops n places) ≡ take (length (vars_below p.ops n i)) places
          → places_of (vars_below p.ops n i ++ []) (given p.ops n places) ≡ take (length (vars_below p.ops n i ++ [])) places
      no_more i r = subst (λ (l : List ℕ). places_of l (given p.ops n places) ≡ take (length l) places) (sym (append_nil (vars_below p.ops n i))) r

      -- what holds of the places of the first variables holds with those of one operator more
      places_more : (i : ℕ) → i ≤ n → places_of (vars_below p.ops n i) (given p.ops n places) ≡ take (length (vars_below p.ops n i)) places → (t : Bool) (f : Shape) → is_on_way p.ops n i ≡ t → shape_at p.ops i ≡ f
          → places_of (vars_below p.ops n i ++ cond t (visit_vars f) []) (given p.ops n places) ≡ take (length (vars_below p.ops n i ++ cond t (visit_vars f) [])) places
      places_more i h r true (visits_below input start path out) o e =
          let vs : List ℕ = vars_below p.ops n i in
          let l = next_there i h o out (ap visit_vars e) in
          let k : length (vs ++ out ∷ []) ≡ suc (length vs) = omega (arith, length-append vs (out ∷ [])) in
          places_end vs (given p.ops n places) out
          ∙ ap (λ (q : List (List ℕ)). q ++ (given p.ops n places out).place ∷ []) r
          ∙ ap (λ (m : Node). take (length vs) places ++ m.place ∷ []) (visit_given i input start out path h o e)
          ∙ sym (take_one places (length vs) [] l)
          ∙ ap (λ (m : ℕ). take m places) (sym k)
      places_more i h r true (one_source s out) o e = no_more i r
      places_more i h r true (pairs_up left right tests) o e = no_more i r
      places_more i h r true (passes_on input stage) o e = no_more i r
      places_more i h r true (no_events input made) o e = no_more i r
      places_more i h r false f o e = no_more i r

      -- the places of the variables of the first operators are the first places
      places_first : (i : ℕ) → i ≤ suc n → places_of (vars_below p.ops n i) (given p.ops n places) ≡ take (length (vars_below p.ops n i)) places
      places_first zero h = none_first
      places_first (suc i) h =
          subst (λ (l : List ℕ). places_of l (given p.ops n places) ≡ take (length l) places) (sym (vars_next i))
          (places_more i (omega (arith, h)) (places_first i (omega (arith, h))) (is_on_way p.ops n i) (shape_at p.ops i) refl refl)

      -- the nodes given stand at the places
      pub places_given : places_of (evidence_vars p.ops n) (given p.ops n places) ≡ places
      places_given =
          ap (λ (l : List ℕ). places_of l (given p.ops n places)) vars_are ∙ places_first (suc n) (omega arith) ∙ ap (λ (m : ℕ). take m places) all_vars ∙ take_whole places
