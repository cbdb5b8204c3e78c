-- A written plan is read as that plan with its named variables numbered as its text first has them.
use Rattle.std.proofs.Common.{◌≡◌, ◌⊎◌, inl, inr, ◌<◌, ◌≤◌, ◌^◌, ◌∙◌, ◌||◌, ◌++◌, ℕ, zero, suc, Bool, true, false, cond, IsTrue, List, [], ◌∷◌, Some, None, refl, sym, ap, subst, arith, length, map, filter, nat_lt, position}
use Rattle.std.specs.Prelude.{slice_index_or, Ok}
use Rattle.std.specs.List.{AllByRecursion, position_or_len}
use Rattle.std.specs.Str.{bytes_eq}
use Rattle.std.specs.Fmt.{decimal}
use Rattle.std.proofs.lemmas.Bool.{cases_lt}
use Rattle.std.proofs.lemmas.Bool.Decides.{nat_tests}
use Rattle.std.proofs.lemmas.List.{length-map}
use Rattle.mix_base.specs.Ascents.{Among}
use Rattle.mix_base.proofs.Ascents.{each_among}
use Rattle.mix_base.proofs.Choices.{some_is}
use Rattle.mix_base.proofs.Firsts.{each_map, each_weaker}
use Rattle.mix_tree.proofs.SameKeys.{bytes_eq-refl}
use Rattle.mix_words.specs.Words.{is_name}
use Rattle.mix_catalog.specs.declared.source.SourceSpec.{SourceSpec}
use Rattle.plan_core.specs.PlanText as plan_text
use Rattle.plan_core.specs.PlanText.{var_text}
use Rattle.plan_core.specs.Plans.{Operator, PlanValue}
use Rattle.plan_core.specs.Valid.{IsValid}
use Rattle.plan_read.specs.Grammar.{op_parts, parts_text}
use Rattle.plan_read.specs.Results.{Answers}
use Rattle.plan_read.specs.Variables.{with_new}
use Rattle.plan_read.specs.Writable.{vars_of, IsWritten, AreNames, IsWritable, names_said, number_said, operator_as, renumbered, WrittenPlansAreRead}
use Rattle.plan_read.proofs.Only.{same_answers}
use Rattle.plan_read.proofs.Ordered.{read_ordered}
use Rattle.plan_read.proofs.PartsAs.{op_parts_as, vars_as, parts_written_as, parts_text_as}
use Rattle.plan_read.proofs.Revalid.{valid_as}
use Rattle.plan_read.proofs.SaidNames.{is_in, AreApart, new_apart, new_each, new_all, apart_few, found_inside, found_at}
use Rattle.plan_read.proofs.Written.{written_by_parts}

-- a named variable's name is among the names of variables that have it
named_among : (names : List (List ℕ)) (v : ℕ) (vs : List ℕ) → v < length names → Among v vs → Among (slice_index_or names v []) (map (λ w. slice_index_or names w []) (filter (λ w. nat_lt w (length names)) vs))
named_among names v [] h a = absurd a
named_among names v (w ∷ vs) h a = by_case (nat_lt w (length names)) refl a (named_among names v vs h)
  where
    by_case : (c : Bool) → nat_lt w (length names) ≡ c → (v ≡ w) ⊎ Among v vs
        → (Among v vs → Among (slice_index_or names v []) (map (λ w. slice_index_or names w []) (filter (λ w. nat_lt w (length names)) vs)))
        → Among (slice_index_or names v []) (map (λ w. slice_index_or names w []) (cond c (w ∷ filter (λ w. nat_lt w (length names)) vs) (filter (λ w. nat_lt w (length names)) vs)))
    by_case true e (inl same) more = inl (ap (λ i. slice_index_or names i []) same)
    by_case true e (inr rest) more = inr (more rest)
    by_case false e (inl same) more = absurd (out v w (length names) same e h)
      where
        out : (v w n : ℕ) → v ≡ w → nat_lt w n ≡ false → v < n → ⊥
        out v w n same e h = grind (arith, nat_tests, same, e, h)
    by_case false e (inr rest) more = more rest

-- the names of variables that have one are names
names_each : (P : List ℕ → Type 0) (names : List (List ℕ)) (vs : List ℕ) → ((v : ℕ) → v < length names → P (slice_index_or names v []))
    → AllByRecursion P (map (λ w. slice_index_or names w []) (filter (λ w. nat_lt w (length names)) vs))
names_each P names [] f = tt
names_each P names (v ∷ vs) f = by_case (nat_lt v (length names)) refl (names_each P names vs f)
  where
    by_case : (c : Bool) → nat_lt v (length names) ≡ c → AllByRecursion P (map (λ w. slice_index_or names w []) (filter (λ w. nat_lt w (length names)) vs))
        → AllByRecursion P (map (λ w. slice_index_or names w []) (cond c (v ∷ filter (λ w. nat_lt w (length names)) vs) (filter (λ w. nat_lt w (length names)) vs)))
    by_case true e more = let less : v < length names = grind (arith, nat_tests, e) in (f v less, more)
    by_case false e more = more

-- a name is one of the names
in_names : (names : List (List ℕ)) (v : ℕ) → v < length names → is_in (slice_index_or names v []) names ≡ true
in_names [] v h = absurd (omega arith)
in_names (x ∷ names) zero h = ap (λ b. b || is_in x names) (bytes_eq-refl x)
in_names (x ∷ names) (suc v) h = either (bytes_eq (slice_index_or names v []) x) (is_in (slice_index_or names v []) names) (in_names names v (omega arith))
  where
    either : (a b : Bool) → b ≡ true → (a || b) ≡ true
    either true b h = refl
    either false b h = h

module _ (sources : List SourceSpec) (p : PlanValue) (w : IsWritable sources p) where
  -- the names of the plan
  abbrev names : List (List ℕ)
  names = p.names

  -- the names of the plan in the order in which its text first has them
  abbrev said : List (List ℕ)
  said = names_said p

  -- the numbers of variables by this order
  abbrev f : ℕ → ℕ
  f = number_said p

  -- the name of a variable
  abbrev name : ℕ → List ℕ
  name v = slice_index_or names v []

  -- each name is said
  name_said : (v : ℕ) → v < length names → is_in (name v) said ≡ true
  name_said v h = new_all (name v) [] (map name (filter (λ i. nat_lt i (length names)) (vars_of p.ops))) (named_among names v (vars_of p.ops) h (w.said v h))

  -- no name is said twice
  said_apart : AreApart said
  said_apart = new_apart [] (map name (filter (λ i. nat_lt i (length names)) (vars_of p.ops))) tt

  -- what is said are names of variables
  said_names : AllByRecursion (λ x. IsTrue (is_name x)) said
  said_names =
      new_each (λ x. IsTrue (is_name x)) [] (map name (filter (λ i. nat_lt i (length names)) (vars_of p.ops))) tt
      (names_each (λ x. IsTrue (is_name x)) names (vars_of p.ops) (λ v h. (w.names v h).0))

  -- no more names are said than there are
  said_few : length said ≤ length names
  said_few =
      apart_few said names said_apart
      (new_each (λ x. is_in x names ≡ true) [] (map name (filter (λ i. nat_lt i (length names)) (vars_of p.ops))) tt
      (names_each (λ x. is_in x names ≡ true) names (vars_of p.ops) (λ v h. in_names names v h)))

  -- the number of a named variable is the place of its name among the names that are said
  named_number : (v : ℕ) → v < length names → f v ≡ position_or_len (bytes_eq (name v)) said
  named_number v h = let less : nat_lt v (length names) ≡ true = grind (arith, nat_tests, h) in ap (λ b. cond b (position_or_len (bytes_eq (name v)) said) v) less

  -- the number of a variable without a name is its own
  other_number : (v : ℕ) → length names ≤ v → f v ≡ v
  other_number v h = let more : nat_lt v (length names) ≡ false = grind (arith, nat_tests, h) in ap (λ b. cond b (position_or_len (bytes_eq (name v)) said) v) more

  -- a named variable has the number of one, which has its name
  named_inside : (v : ℕ) → v < length names → (f v < length said) × (slice_index_or said (f v) [] ≡ name v)
  named_inside v h = subst (λ (i : ℕ). (i < length said) × (slice_index_or said i [] ≡ name v)) (sym (named_number v h)) (found_inside (name v) said (name_said v h))

  -- no two names are the same
  names_apart : (v u : ℕ) → v < length names → u < length names → name v ≡ name u → v ≡ u
  names_apart v u h k e = some_is v u (sym (w.names v h).1 ∙ ap (λ x. position (bytes_eq x) names) e ∙ (w.names u k).1)

  -- no two variables have one number
  apart : (v u : ℕ) → f v ≡ f u → v ≡ u
  apart v u e = elim (cases_lt v (length names)) [
    | inl h ↦ elim (cases_lt u (length names)) [
      | inl k ↦ names_apart v u h k (sym (named_inside v h).1 ∙ ap (λ i. slice_index_or said i []) e ∙ (named_inside u k).1)
      | inr k ↦ absurd (outside (f v) (f u) u (length said) (length names) e (named_inside v h).0 (other_number u k) k said_few)
    ]
    | inr h ↦ elim (cases_lt u (length names)) [
      | inl k ↦ absurd (outside (f u) (f v) v (length said) (length names) (sym e) (named_inside u k).0 (other_number v h) h said_few)
      | inr k ↦ sym (other_number v h) ∙ e ∙ other_number u k
    ]
  ]
    where
      outside : (a b u s n : ℕ) → a ≡ b → a < s → b ≡ u → n ≤ u → s ≤ n → ⊥
      outside a b u s n e l m k h = omega (arith, e, l, m, k, h)

  -- a variable is written as it was
  text_same : (v : ℕ) → var_text said (f v) ≡ var_text names v
  text_same v = elim (cases_lt v (length names)) [
    | inl h ↦
        (let inside = named_inside v h in
        let new : nat_lt (f v) (length said) ≡ true = tested (f v) (length said) inside.0 in
        let old : nat_lt v (length names) ≡ true = tested v (length names) h in
        ap (λ b. 36 ∷ cond b (slice_index_or said (f v) []) (decimal (f v))) new ∙ ap (λ x. 36 ∷ x) inside.1 ∙ sym (ap (λ b. 36 ∷ cond b (name v) (decimal v)) old))
    | inr h ↦
        (let same = other_number v h in
        let new : nat_lt v (length said) ≡ false = untested v (length said) (length names) h said_few in
        let old : nat_lt v (length names) ≡ false = untested v (length names) (length names) h (omega arith) in
        ap (var_text said) same ∙ ap (λ b. 36 ∷ cond b (slice_index_or said v []) (decimal v)) new ∙ sym (ap (λ b. 36 ∷ cond b (name v) (decimal v)) old))
  ]
    where
      tested : (a b : ℕ) → a < b → nat_lt a b ≡ true
      tested a b h = grind (arith, nat_tests, h)

      untested : (a s n : ℕ) → n ≤ a → s ≤ n → nat_lt a s ≡ false
      untested a s n h k = grind (arith, nat_tests, h, k)

  -- the lines of operators are the same
  lines_same : (n : ℕ) (ops : List Operator) → plan_text.lines_from said p.sources n (map (operator_as f) ops) ≡ plan_text.lines_from names p.sources n ops
  lines_same n [] = refl
  lines_same n (op ∷ ops) =
      ap (λ x. decimal n ++ x ++ 10 ∷ plan_text.lines_from said p.sources (suc n) (map (operator_as f) ops))
      (written_by_parts said p.sources (operator_as f op) ∙ ap (λ ps. parts_text said p.sources ps) (op_parts_as f op) ∙ parts_text_as f names said p.sources text_same (op_parts op) ∙ sym (written_by_parts names p.sources op))
      ∙ ap (λ r. decimal n ++ plan_text.operator_text names p.sources op ++ 10 ∷ r) (lines_same (suc n) ops)

  -- the text is the same
  pub text_renumbered : plan_text.plan_text (renumbered p) ≡ plan_text.plan_text p
  text_renumbered = lines_same 0 p.ops

  -- the names that are said are names, each at its own place
  said_are : AreNames said
  said_are v h = (
    each_at (λ x. IsTrue (is_name x)) said v h said_names,
    found (slice_index_or said v []) v h (found_at said v h said_apart),
  )
    where
      each_at : (P : List ℕ → Type 0) (xs : List (List ℕ)) (i : ℕ) → i < length xs → AllByRecursion P xs → P (slice_index_or xs i [])
      each_at P [] i h a = absurd (omega arith)
      each_at P (x ∷ xs) zero h a = a.0
      each_at P (x ∷ xs) (suc i) h a = each_at P xs i (omega arith) a.1

      found : (x : List ℕ) (i : ℕ) → i < length said → position_or_len (bytes_eq x) said ≡ i → position (bytes_eq x) said ≡ Some i
      found x i h e =
          let less : nat_lt i (length said) ≡ true = grind (arith, nat_tests, h) in
          ap (λ j. cond (nat_lt j (length said)) (Some j) None) e ∙ ap (λ b. cond b (Some i) None) less

  -- the names that the renumbered plan says
  said_again : (vs : List ℕ) → map (λ v. slice_index_or said v []) (filter (λ v. nat_lt v (length said)) (map f vs)) ≡ map name (filter (λ v. nat_lt v (length names)) vs)
  said_again [] = refl
  said_again (v ∷ vs) = elim (cases_lt v (length names)) [
    | inl h ↦
        (let inside = named_inside v h in
        let new : nat_lt (f v) (length said) ≡ true = tested (f v) (length said) inside.0 in
        let old : nat_lt v (length names) ≡ true = tested v (length names) h in
        ap (λ b. map (λ v. slice_index_or said v []) (cond b (f v ∷ filter (λ v. nat_lt v (length said)) (map f vs)) (filter (λ v. nat_lt v (length said)) (map f vs)))) new
        ∙ ap (λ x. x ∷ map (λ v. slice_index_or said v []) (filter (λ v. nat_lt v (length said)) (map f vs))) inside.1 ∙ ap (λ xs. name v ∷ xs) (said_again vs)
        ∙ sym (ap (λ b. map name (cond b (v ∷ filter (λ v. nat_lt v (length names)) vs) (filter (λ v. nat_lt v (length names)) vs))) old))
    | inr h ↦
        (let new : nat_lt (f v) (length said) ≡ false = untested (f v) v (length said) (length names) (other_number v h) h said_few in
        let old : nat_lt v (length names) ≡ false = untested v v (length names) (length names) refl h (omega arith) in
        ap (λ b. map (λ v. slice_index_or said v []) (cond b (f v ∷ filter (λ v. nat_lt v (length said)) (map f vs)) (filter (λ v. nat_lt v (length said)) (map f vs)))) new
        ∙ said_again vs ∙ sym (ap (λ b. map name (cond b (v ∷ filter (λ v. nat_lt v (length names)) vs) (filter (λ v. nat_lt v (length names)) vs))) old))
  ]
    where
      tested : (a b : ℕ) → a < b → nat_lt a b ≡ true
      tested a b h = grind (arith, nat_tests, h)

      untested : (a v s n : ℕ) → a ≡ v → n ≤ v → s ≤ n → nat_lt a s ≡ false
      untested a v s n e h k = grind (arith, nat_tests, e, h, k)

  -- the renumbered plan says its names in their order
  said_order : names_said (renumbered p) ≡ said
  said_order =
      ap (λ vs. with_new [] (map (λ v. slice_index_or said v []) (filter (λ v. nat_lt v (length said)) vs))) (vars_as f p.ops) ∙ ap (with_new []) (said_again (vars_of p.ops))

  -- the numbers have 32 bits
  number_small : (v : ℕ) → v < 2 ^ 32 → f v < 2 ^ 32
  number_small v small = elim (cases_lt v (length names)) [
    | inl h ↦
        (let inside = (named_inside v h).0 in
        let less : f v < length names = omega (arith, inside, said_few) in
        each_among (λ u. u < 2 ^ 32) (vars_of p.ops) w.vars (f v) (w.said (f v) less))
    | inr h ↦ subst (λ (u : ℕ). u < 2 ^ 32) (sym (other_number v h)) small
  ]

  -- operators whose parts are written have such parts by the new numbers
  parts_as : (ops : List Operator) → AllByRecursion (λ op. AllByRecursion IsWritten (op_parts op)) ops → AllByRecursion (λ op. AllByRecursion IsWritten (op_parts op)) (map (operator_as f) ops)
  parts_as [] h = tt
  parts_as (op ∷ ops) h = (subst (AllByRecursion IsWritten) (sym (op_parts_as f op)) (parts_written_as f (op_parts op) h.0), parts_as ops h.1)

  -- the text is read as the renumbered plan
  pub read_renumbered : IsValid p → length p.ops ≤ 10000 → Answers (plan_text.plan_text p) sources (Ok (renumbered p))
  read_renumbered valid few =
      subst (λ t. Answers t sources (Ok (renumbered p))) text_renumbered
      (read_ordered sources w.catalog (renumbered p) said_are w.of_catalog
      (subst (AllByRecursion (λ v. v < 2 ^ 32)) (sym (vars_as f p.ops)) (each_map (λ v. v < 2 ^ 32) f (vars_of p.ops) (each_weaker (λ v. v < 2 ^ 32) (λ v. f v < 2 ^ 32) number_small (vars_of p.ops) w.vars)))
      (parts_as p.ops w.parts) (valid_as f apart p said valid) (subst (λ (n : ℕ). n ≤ 10000) (sym (length-map p.ops (operator_as f))) few) said_order)

  -- where the names stand in that order already, the plan is renumbered to itself
  pub same_renumbered : IsValid p → length p.ops ≤ 10000 → said ≡ names → renumbered p ≡ p
  same_renumbered valid few order =
      same_answers (plan_text.plan_text p) sources (Ok (renumbered p)) (Ok p) (read_renumbered valid few)
      (read_ordered sources w.catalog p w.names w.of_catalog w.vars w.parts valid few order)

-- written plans are read
pub written_read : WrittenPlansAreRead
written_read = record { read = read_renumbered; text = text_renumbered; same = same_renumbered }
