-- The document of a valid plan is the element of one binding, since single operators have one.
use Rattle.std.proofs.Common.{◌≡◌, inl, inr, ℕ, zero, suc, ◌<◌, true, false, List, [], ◌∷◌, refl, sym, ap, subst, ◌∙◌, arith, length}
use Rattle.std.specs.Prelude.{Bool, Option, Some, None}
use Rattle.std.specs.List.{AllByRecursion, last_or}
use Rattle.std.proofs.lemmas.Bool.{and_parts}
use Rattle.mix_base.specs.Ascents.{Among}
use Rattle.mix_base.proofs.Ascents.{each_among}
use Rattle.mix_base.specs.Events.{skip, bind, found}
use Rattle.mix_tree.specs.Forest.{first_tree}
use Rattle.mix_tree.specs.Nodes.{Documents}
use Rattle.mix_tree.specs.declared.var.Key.{Key}
use Rattle.plan_core.specs.Beside.{EachBinding}
use Rattle.plan_core.specs.ByNumber.{op_at}
use Rattle.plan_core.specs.Events.{RowEvents, each_row, extended, kept_row, distinct, passes_all, pairs, shape_events, events, visited, first_row, element_alone, tolled_destroyed, TolledIsDocument}
use Rattle.plan_core.specs.Fronts.{are_contiguous, front}
use Rattle.plan_core.specs.Plans.{Operator, source, get_descendants, join, over, tuple_destroy, PlanValue, document}
use Rattle.plan_core.specs.Shapes.{filters, extends, first_by_keys, one_group, in_order, Shape, one_source, visits_below, pairs_up, passes_on, no_events, shape_of, shape_at}
use Rattle.plan_core.specs.Tolled.{Tolled, plain}
use Rattle.plan_core.specs.TolledRows.{TolledRow, element, tolled_value}
use Rattle.plan_core.specs.Typed.{IsTyped}
use Rattle.plan_core.specs.Valid.{an_element, shape_single, is_single, is_single_at, shape_inputs, kinds, EndsSingle, IsShapeFit, IsValid}
use Rattle.plan_core.proofs.Inputs.{is_single-reads}
use Rattle.plan_core.proofs.Numbers.{by_number-of, events-of}
use Rattle.plan_evidence.specs.Laws.{SomeBinding}
use Rattle.plan_evidence.specs.Named.{outer_of}
use Rattle.plan_evidence.proofs.Shown.{IsElementIn, IsRow}
use Rattle.plan_evidence.proofs.Somes.{some_expand, some_each_row, some_only}
use Rattle.plan_evidence.proofs.Sounds.{all_sound}

-- events have a binding
abbrev pub HasBinding : RowEvents → Type 0
HasBinding es = SomeBinding (λ row. Unit {0}) es

-- first bindings by keys have one where the events have
some_first : (docs : Documents) (keys : List Key) (make : TolledRow → RowEvents → TolledRow) (es : RowEvents) → HasBinding es → HasBinding (distinct docs keys make [] es)
some_first docs keys make [] h = h
some_first docs keys make (skip ∷ es) h = some_first docs keys make es h
some_first docs keys make (bind row ∷ es) h = inl tt

-- whether an operator is single is told by whether its inputs are
single-of : (ops : List Operator) (n : ℕ) → AllByRecursion (λ i. i < n) (shape_inputs (shape_at ops n)) → is_single_at ops n ≡ shape_single (shape_at ops n) (is_single_at ops)
unfolding is_single_at
single-of ops n h = by_number-of is_single false ops n (op_at ops n) is_single-reads refl h

module _ (p : PlanValue) (typed : IsTyped p.ops) (docs : Documents) where
  -- a single shape has a binding, where each single input has
  shape_has : (f : Shape) (single : ℕ → Bool) → ((i : ℕ) → Among i (shape_inputs f) → single i ≡ true → HasBinding (events docs p.ops i)) → shape_single f single ≡ true
      → HasBinding (shape_events docs (front p.ops) f (events docs p.ops))
  shape_has (one_source s out) single h e = inl tt
  shape_has (visits_below i start path out) single h e = cc
  shape_has (pairs_up l r []) single h e =
      let s = and_parts (single l) (single r) e in
      let right = h r (inr (inl refl)) s.1 in
      some_expand (λ row. Unit {0}) (λ row. Unit {0}) (pairs docs [] (events docs p.ops r))
      (λ row u. some_only (λ r. Unit {0}) (passes_all docs []) (λ r v. refl) (each_row _ (events docs p.ops r))
      (some_each_row (λ r. Unit {0}) (λ r. Unit {0}) _ (λ r v. tt) (events docs p.ops r) right)) (events docs p.ops l) (h l (inl refl) s.0)
  shape_has (pairs_up l r (t ∷ tests)) single h e = cc
  shape_has (passes_on i (filters test)) single h e = cc
  shape_has (passes_on i (extends out made)) single h e = some_each_row (λ r. Unit {0}) (λ r. Unit {0}) (extended docs out made) (λ r v. tt) (events docs p.ops i) (h i (inl refl) e)
  shape_has (passes_on i (first_by_keys keys None)) single h e =
      some_first docs keys (kept_row docs keys (are_contiguous keys (front p.ops i).vars) None) (events docs p.ops i) (h i (inl refl) e)
  shape_has (passes_on i (first_by_keys keys (Some group))) single h e = cc
  shape_has (passes_on i (one_group piece out)) single h e = inl tt
  shape_has (passes_on i (in_order v desc)) single h e = cc
  shape_has (no_events i made) single h e = cc

  -- a single operator below a number has a binding
  single_under : (k n : ℕ) → n < k → n < length p.ops → is_single_at p.ops n ≡ true → HasBinding (events docs p.ops n)
  single_under zero n h b e = absurd (omega (arith, h))
  single_under (suc k) n h b e =
      let f : Shape = shape_at p.ops n in
      let inputs = typed.inputs n b in
      let low : (i : ℕ) → Among i (shape_inputs f) → i < n = λ i a. each_among (λ i. i < n) (shape_inputs f) inputs i a in
      subst HasBinding (sym (events-of docs p.ops n (op_at p.ops n) refl inputs))
      (shape_has f (is_single_at p.ops) (λ i a t. (let s = low i a in single_under k i (omega (arith, s, h)) (omega (arith, s, b)) t)) (sym (single-of p.ops n inputs) ∙ e))

-- what holds of each binding holds of the first, where there is one
pub first_holds : (P : TolledRow → Type 0) (es : RowEvents) → HasBinding es → EachBinding P es → P (first_row (found es))
first_holds P [] h e = absurd h
first_holds P (skip ∷ es) h e = first_holds P es h e
first_holds P (bind row ∷ es) h e = e.0

-- the last operator of a plan: it reads the element of a single operator
record Last (single : ℕ → Bool) (ops : List Operator) (o : Option Operator) : Type 0 where
  input : ℕ
  outer : ℕ
  number : ℕ
  within : number < length ops
  is_last : last_or o ops ≡ Some (tuple_destroy input outer)
  is_op : op_at ops number ≡ tuple_destroy input outer
  is_single : single input ≡ true

-- an operator before others leaves the last one as it is
later : (single : ℕ → Bool) (op : Operator) (ops : List Operator) (o : Option Operator) → Last single ops (Some op) → Last single (op ∷ ops) o
later single op ops o r =
    let b = r.within in
    record { input = r.input; outer = r.outer; number = suc r.number; within = omega (arith, b); is_last = r.is_last; is_op = r.is_op; is_single = r.is_single }

-- a plan that ends in a single binding has such a last operator
last_of : (single : ℕ → Bool) (ops : List Operator) (o : Option Operator) → EndsSingle single ops → Last single ops o
last_of single [] o e = absurd e
last_of single (tuple_destroy i v ∷ []) o e = record { input = i; outer = v; number = 0; within = omega arith; is_last = refl; is_op = refl; is_single = e }
last_of single (tuple_destroy i v ∷ op ∷ ops) o e = absurd e
last_of single (source s out ∷ ops) o e = later single (source s out) ops o (last_of single ops (Some (source s out)) e)
last_of single (get_descendants i start path out ∷ ops) o e = later single (get_descendants i start path out) ops o (last_of single ops (Some (get_descendants i start path out)) e)
last_of single (join l r tests ∷ ops) o e = later single (join l r tests) ops o (last_of single ops (Some (join l r tests)) e)
last_of single (over i op ∷ ops) o e = later single (over i op) ops o (last_of single ops (Some (over i op)) e)

module _ (p : PlanValue) (valid : IsValid p) (typed : IsTyped p.ops) (tolled : TolledIsDocument p) (docs : Documents) where
  -- the outer element of a plan: the operator of its binding, its variable, and that binding, whose element is the plan's document
  pub record IsOuterOf : Type 0 where
    pub input : ℕ
    pub outer : ℕ
    pub within : input < length p.ops
    pub is_outer : outer_of (last_or None p.ops) ≡ Some (input, outer)
    pub some : HasBinding (events docs p.ops input)
    pub sound : IsRow docs p.ops input (first_row (found (events docs p.ops input)))
    pub is_element : IsElementIn docs p.ops (kinds p.ops input) (first_row (found (events docs p.ops input))) outer
    pub is_document : document (visited docs) p.ops ≡ Some (record { label = is_element.label; kids = plain is_element.kids })

  -- the document of a plan is the element of the first binding that its last operator reads
  document_is : (input outer : ℕ) → last_or None p.ops ≡ Some (tuple_destroy input outer) → (label : List ℕ) (kids : Tolled) → tolled_value (first_row (found (events docs p.ops input))) outer ≡ element label kids
      → document (visited docs) p.ops ≡ Some (record { label = label; kids = plain kids })
  document_is input outer last label kids e =
      tolled valid docs ∙ ap (λ o. first_tree (plain (tolled_destroyed (events docs p.ops) o))) last ∙ ap (λ z. first_tree (plain (element_alone z))) e

  -- a valid plan has an outer element
  pub outer_is : IsOuterOf
  outer_is =
      let r = last_of (is_single_at p.ops) p.ops None valid.ends in
      let b = r.within in
      let e : shape_at p.ops r.number ≡ no_events r.input r.outer = ap shape_of r.is_op in
      let s : r.input < r.number =
      each_among (λ i. i < r.number) (shape_inputs (shape_at p.ops r.number)) (typed.inputs r.number b) r.input (subst (λ (f : Shape). Among r.input (shape_inputs f)) (sym e) (inl refl)) in
      let l : r.input < length p.ops = omega (arith, s, b) in
      let kind : kinds p.ops r.input r.outer ≡ Some an_element = subst (λ (f : Shape). IsShapeFit f (kinds p.ops)) e (typed.fit r.number b) in
      let some = single_under p typed docs (suc r.input) r.input (omega arith) l r.is_single in
      let sound = first_holds (IsRow docs p.ops r.input) (events docs p.ops r.input) some (all_sound p valid typed docs r.input l) in
      let x = sound r.outer an_element kind in
      record {
        input = r.input;
        outer = r.outer;
        within = l;
        is_outer = ap outer_of r.is_last;
        some = some;
        sound = sound;
        is_element = x;
        is_document = document_is r.input r.outer r.is_last x.label x.kids x.is_value;
      }
