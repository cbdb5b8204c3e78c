-- Conditions in the canonical form of a rule: the same but for places and blanks, so they have the same value and the same refusals.
use Rattle.std.proofs.Common.{◌≡◌, ◌∙◌, ◌+◌, ◌<◌, ℕ, suc, Bool, true, false, cond, ◌||◌, not, List, [], ◌∷◌, ◌++◌, Option, Some, None, Result, Ok, Err, refl, ap, sym, subst, length, map, append_assoc, codes, arith, get_or}
use Rattle.std.specs.List.{list_any, AllByRecursion}
use Rattle.std.proofs.lemmas.List.{length-append}
use Rattle.mix_tree.specs.LabelGrammar.{meaning}
use Rattle.mix_tree.specs.Signs.{op_sign}
use Rattle.mix_tree.specs.Spelling.{quoted}
use Rattle.path_expr.specs.Form.{Form}
use Rattle.path_expr.specs.Values.{value_of}
use Rattle.path_expr.specs.Grammar as paths
use Rattle.path_expr.specs.Canonical.{canon}
use Rattle.path_expr.proofs.Again.{quoted_pieces, pieces_of}
use Rattle.xmas_text.specs.Grammar.{Operand, a_variable, a_text, Cond, source, walk, compare, Conds, one, also, Order, unordered, ordered, descending, IsCond, AreConds}
use Rattle.xmas_text.specs.Grammar as written
use Rattle.xmas_tokens.specs.Tokens.{quoted_text, op_text}
use Rattle.xmas_text.specs.Parsed.{operand_at, cond_at, conds_at, order_at}
use Rattle.xmas_tokens.specs.Lexemes.{path_form}
use Rattle.xmas_text.specs.declared.var.VarText.{VarText}
use Rattle.xmas_tokens.specs.declared.lexeme.PathLimit.{PathLimit}
use Rattle.xmas_tokens.specs.declared.lexeme.Comparison.{Comparison}
use Rattle.xmas_tokens.specs.declared.lexeme.Comparison.TheVariants as comparison
use Rattle.xmas_text.specs.declared.cond.CondText.{CondText}
use Rattle.xmas_text.specs.declared.cond.CondText.TheVariants as condition
use Rattle.xmas_text.specs.declared.cond.OperandText.{OperandText}
use Rattle.xmas_text.specs.declared.cond.OperandText.TheVariants as operand
use Rattle.xmas_rule.specs.declared.condition.Cond.{Cond as ValueCond}
use Rattle.xmas_read.specs.Tree.{bound_var, bound_names, operand_vars}
use Rattle.xmas_read.specs.Value.{place_in, path_value, operand_value, op_value, cond_value, order_value}
use Rattle.xmas_read.specs.Refusals.{has_name, unless, has_path, unknown_sources, bound_again, unbound_vars, unbound_at, unbound_in}
use Rattle.xmas_read.specs.Canonical.{cond_text, more_conds, conds_text, operand_text, order_text}
use Rattle.xmas_read.proofs.CleanForm.{clean_path, clean_operand, clean_cond, clean_conds, clean_order, clean_is_operand}
use Rattle.xmas_read.proofs.CleanText.{name_back, map_push}
use Rattle.xmas_read.proofs.CleanLevels.{counted, counted_both}
use Rattle.xmas_read.proofs.CleanPaths.{PathKept, KeptCond, KeptConds, all_parts}

-- a variable without its place
abbrev pub unplaced_var : VarText → VarText
unplaced_var v = record { at = 0; name = v.name }

-- an operand without its place
abbrev pub unplaced_operand : OperandText → OperandText
unplaced_operand (operand.Var v) = operand.Var (unplaced_var v)
unplaced_operand (operand.Text l) = operand.Text l

-- a condition without its places
abbrev pub unplaced : CondText → CondText
unplaced (condition.FromSource at from path var) = condition.FromSource 0 from path (unplaced_var var)
unplaced (condition.FromVar start path var) = condition.FromVar (unplaced_var start) path (unplaced_var var)
unplaced (condition.Compare left op right) = condition.Compare (unplaced_var left) op (unplaced_operand right)

-- a condition of the canonical form is the same but for places
cond_same : (n m : ℕ) (c : Cond) → KeptCond c → unplaced (cond_at n (clean_cond c)) ≡ unplaced (cond_at m c)
cond_same n m (source name g p h v) k = ap (λ f. condition.FromSource 0 name f (record { at = 0; name = v })) k.form
cond_same n m (walk start g p h v) k = ap (λ f. condition.FromVar (record { at = 0; name = start }) f (record { at = 0; name = v })) k.form
cond_same n m (compare v g o h (a_variable w)) k = refl
cond_same n m (compare v g o h (a_text ps)) k = ap (λ l. condition.Compare (record { at = 0; name = v }) o (operand.Text l)) (quoted_pieces (meaning ps)).3

-- conditions of the canonical form are the same but for places
pub conds_same : (n m : ℕ) (cs : Conds) → KeptConds cs → map unplaced (conds_at n (clean_conds cs)) ≡ map unplaced (conds_at m cs)
conds_same n m (one g c) k = ap (λ (r : CondText). r ∷ []) (cond_same (n + 1) (m + length g) c k)
conds_same n m (also cs g h c) k =
    let at = n + length (written.conds_text (clean_conds cs)) + 1 + 3 + 1 in
    let from = m + length (written.conds_text cs) + length g + 3 + length h in
    map_push unplaced (conds_at n (clean_conds cs)) (cond_at at (clean_cond c))
    ∙ ap (λ (r : List CondText). r ++ unplaced (cond_at at (clean_cond c)) ∷ []) (conds_same n m cs k.0)
    ∙ ap (λ (r : CondText). map unplaced (conds_at m cs) ++ r ∷ []) (cond_same at from c k.1)
    ∙ sym (map_push unplaced (conds_at m cs) (cond_at from c))

-- a condition of the grammar remains one with single blanks
cond_is : (c : Cond) → IsCond c → KeptCond c → IsCond (clean_cond c)
cond_is (source name g p h v) w k = (w.0, refl, k.is, refl, w.4)
cond_is (walk start g p h v) w k = (w.0, refl, k.is, refl, w.4)
cond_is (compare v g o h a) w k = (w.0, refl, refl, clean_is_operand a w.3)

-- conditions of the grammar remain such in their canonical form
pub conds_are : (cs : Conds) → AreConds cs → KeptConds cs → AreConds (clean_conds cs)
conds_are (one g c) w k = (refl, cond_is c w.1 k)
conds_are (also cs g h c) w k = (conds_are cs w.0 k.0, refl, refl, cond_is c w.3 k.1)

-- the names that conditions bind are the same without places
pub names_unplaced : (cs : List CondText) → bound_names (map unplaced cs) ≡ bound_names cs
names_unplaced [] = refl
names_unplaced (condition.FromSource at from path var ∷ cs) = ap (λ (r : List (List ℕ)). var.name ∷ r) (names_unplaced cs)
names_unplaced (condition.FromVar start path var ∷ cs) = ap (λ (r : List (List ℕ)). var.name ∷ r) (names_unplaced cs)
names_unplaced (condition.Compare left op right ∷ cs) = names_unplaced cs

-- a condition's value is the same without places
value_unplaced : (sources names : List (List ℕ)) (c : CondText) → cond_value sources names (unplaced c) ≡ cond_value sources names c
value_unplaced sources names (condition.FromSource at from path var) = refl
value_unplaced sources names (condition.FromVar start path var) = refl
value_unplaced sources names (condition.Compare left op (operand.Var v)) = refl
value_unplaced sources names (condition.Compare left op (operand.Text l)) = refl

-- the values of conditions are the same without places
pub values_unplaced : (sources names : List (List ℕ)) (cs : List CondText) → map (cond_value sources names) (map unplaced cs) ≡ map (cond_value sources names) cs
values_unplaced sources names [] = refl
values_unplaced sources names (c ∷ cs) =
    ap (λ (r : List ValueCond). cond_value sources names (unplaced c) ∷ r) (values_unplaced sources names cs)
    ∙ ap (λ (v : ValueCond). v ∷ map (cond_value sources names) cs) (value_unplaced sources names c)

-- whether the path of a condition passes a test is the same without places
pub paths_unplaced : (test : Result Form PathLimit → Bool) (cs : List CondText) → list_any (has_path test) (map unplaced cs) ≡ list_any (has_path test) cs
paths_unplaced test [] = refl
paths_unplaced test (condition.FromSource at from path var ∷ cs) = ap (λ b. test path || b) (paths_unplaced test cs)
paths_unplaced test (condition.FromVar start path var ∷ cs) = ap (λ b. test path || b) (paths_unplaced test cs)
paths_unplaced test (condition.Compare left op right ∷ cs) = ap (λ b. false || b) (paths_unplaced test cs)

-- conditions without places are as many as with them
pub length_unplaced : (cs : List CondText) → length (map unplaced cs) ≡ length cs
length_unplaced [] = refl
length_unplaced (c ∷ cs) = ap (λ n. suc n) (length_unplaced cs)

-- where places are counted alike, they are with one more before them that a test asks for
test_before : (b : Bool) (n : ℕ) (xs ys : List ℕ) → counted xs ≡ ys → counted (unless b n ++ xs) ≡ unless b 0 ++ ys
test_before true n xs ys h = h
test_before false n xs ys h = ap (λ (r : List ℕ). 0 ∷ r) h

-- the sources that there are not are as many without places
pub unknown_unplaced : (sources : List (List ℕ)) (cs : List CondText) → counted (unknown_sources sources cs) ≡ unknown_sources sources (map unplaced cs)
unknown_unplaced sources [] = refl
unknown_unplaced sources (condition.FromSource at from path var ∷ cs) = test_before (has_name sources from) at _ _ (unknown_unplaced sources cs)
unknown_unplaced sources (condition.FromVar start path var ∷ cs) = unknown_unplaced sources cs
unknown_unplaced sources (condition.Compare left op right ∷ cs) = unknown_unplaced sources cs

-- the variables that are bound again are as many without places
pub again_unplaced : (earlier : List (List ℕ)) (cs : List CondText) → counted (bound_again earlier cs) ≡ bound_again earlier (map unplaced cs)
again_unplaced earlier [] = refl
again_unplaced earlier (condition.FromSource at from path var ∷ cs) = test_before (not (has_name earlier var.name)) var.at _ _ (again_unplaced (earlier ++ var.name ∷ []) cs)
again_unplaced earlier (condition.FromVar start path var ∷ cs) = test_before (not (has_name earlier var.name)) var.at _ _ (again_unplaced (earlier ++ var.name ∷ []) cs)
again_unplaced earlier (condition.Compare left op right ∷ cs) = again_unplaced earlier cs

-- the unbound variables of a comparison are as many without places
compared_unplaced : (names : List (List ℕ)) (left : VarText) (right : OperandText) → counted (unbound_vars names (left ∷ operand_vars right)) ≡ unbound_vars names (unplaced_var left ∷ operand_vars (unplaced_operand right))
compared_unplaced names left (operand.Var v) = test_before (has_name names left.name) left.at _ _ (test_before (has_name names v.name) v.at [] [] refl)
compared_unplaced names left (operand.Text l) = test_before (has_name names left.name) left.at [] [] refl

-- the unbound variables of conditions are as many without places
pub unbound_unplaced : (names earlier : List (List ℕ)) (cs : List CondText) → counted (unbound_in names earlier cs) ≡ unbound_in names earlier (map unplaced cs)
unbound_unplaced names earlier [] = refl
unbound_unplaced names earlier (condition.FromSource at from path var ∷ cs) = unbound_unplaced names (earlier ++ var.name ∷ []) cs
unbound_unplaced names earlier (condition.FromVar start path var ∷ cs) = test_before (has_name earlier start.name) start.at _ _ (unbound_unplaced names (earlier ++ var.name ∷ []) cs)
unbound_unplaced names earlier (condition.Compare left op right ∷ cs) =
    counted_both (unbound_vars names (left ∷ operand_vars right)) (unbound_in names earlier cs)
    ∙ ap (λ (r : List ℕ). r ++ counted (unbound_in names earlier cs)) (compared_unplaced names left right)
    ∙ ap (λ (r : List ℕ). unbound_vars names (unplaced_var left ∷ operand_vars (unplaced_operand right)) ++ r) (unbound_unplaced names earlier cs)

-- the variables of an operand are among names
abbrev pub KnownOperand : List (List ℕ) → OperandText → Type 0
KnownOperand names (operand.Var v) = has_name names v.name ≡ true
KnownOperand names (operand.Text l) = Unit {0}

-- the source and the variables of a condition are among names
abbrev pub KnownCond : List (List ℕ) → List (List ℕ) → CondText → Type 0
KnownCond sources names (condition.FromSource at from path var) = (has_name sources from ≡ true) × (has_name names var.name ≡ true)
KnownCond sources names (condition.FromVar start path var) = (has_name names start.name ≡ true) × (has_name names var.name ≡ true)
KnownCond sources names (condition.Compare left op right) = (has_name names left.name ≡ true) × KnownOperand names right

-- the text of a comparison's sign is that of what the comparison asks
op_written : (o : Comparison) → op_text o ≡ op_sign (op_value o)
op_written comparison.Eq = refl
op_written comparison.Ne = refl
op_written comparison.Lt = refl
op_written comparison.Le = refl
op_written comparison.Gt = refl
op_written comparison.Ge = refl

-- the canonical form of a condition is written as the canonical text of its value
cond_written :
    (sources names : List (List ℕ)) (n : ℕ) (c : Cond) → KeptCond c → KnownCond sources names (cond_at n c)
    → written.cond_text (clean_cond c) ≡ cond_text sources names (cond_value sources names (cond_at n c))
cond_written sources names n (source name g p h v) k w =
    let e : path_value (path_form p) ≡ value_of p = ap path_value k.value in
    ap (λ r. name ++ (32 ∷ (r ++ (32 ∷ 36 ∷ v)))) (k.text ∙ ap canon (sym e))
    ∙ ap (λ r. r ++ (32 ∷ (canon (path_value (path_form p)) ++ (32 ∷ 36 ∷ v)))) (sym (name_back sources name w.0))
    ∙ ap (λ r. get_or sources (place_in sources name) [] ++ (32 ∷ (canon (path_value (path_form p)) ++ (32 ∷ 36 ∷ r)))) (sym (name_back names v w.1))
cond_written sources names n (walk start g p h v) k w =
    let e : path_value (path_form p) ≡ value_of p = ap path_value k.value in
    ap (λ r. 36 ∷ (start ++ (32 ∷ (r ++ (32 ∷ 36 ∷ v))))) (k.text ∙ ap canon (sym e))
    ∙ ap (λ r. 36 ∷ (r ++ (32 ∷ (canon (path_value (path_form p)) ++ (32 ∷ 36 ∷ v))))) (sym (name_back names start w.0))
    ∙ ap (λ r. 36 ∷ (get_or names (place_in names start) [] ++ (32 ∷ (canon (path_value (path_form p)) ++ (32 ∷ 36 ∷ r))))) (sym (name_back names v w.1))
cond_written sources names n (compare v g o h (a_variable u)) k w =
    ap (λ r. 36 ∷ (r ++ (32 ∷ (op_text o ++ (32 ∷ 36 ∷ u))))) (sym (name_back names v w.0))
    ∙ ap (λ r. 36 ∷ (get_or names (place_in names v) [] ++ (32 ∷ (r ++ (32 ∷ 36 ∷ u))))) (op_written o)
    ∙ ap (λ r. 36 ∷ (get_or names (place_in names v) [] ++ (32 ∷ (op_sign (op_value o) ++ (32 ∷ 36 ∷ r))))) (sym (name_back names u w.1))
cond_written sources names n (compare v g o h (a_text ps)) k w =
    ap (λ r. 36 ∷ (r ++ (32 ∷ (op_text o ++ (32 ∷ quoted_text (pieces_of (meaning ps))))))) (sym (name_back names v w.0))
    ∙ ap (λ r. 36 ∷ (get_or names (place_in names v) [] ++ (32 ∷ (r ++ (32 ∷ quoted_text (pieces_of (meaning ps))))))) (op_written o)
    ∙ ap (λ r. 36 ∷ (get_or names (place_in names v) [] ++ (32 ∷ (op_sign (op_value o) ++ (32 ∷ r))))) (sym (quoted_pieces (meaning ps)).2)

-- the text of conditions after a first one, with one more, is theirs and that one's after AND
more_push : (sources names : List (List ℕ)) (cs : List ValueCond) (c : ValueCond) → more_conds sources names (cs ++ c ∷ []) ≡ more_conds sources names cs ++ (codes " AND " ++ cond_text sources names c)
more_push sources names [] c = ap (λ r. codes " AND " ++ r) (nil_after (cond_text sources names c))
  where
    nil_after : (x : List ℕ) → x ++ [] ≡ x
    nil_after [] = refl
    nil_after (b ∷ x) = ap (λ r. b ∷ r) (nil_after x)
more_push sources names (d ∷ cs) c =
    ap (λ r. codes " AND " ++ (cond_text sources names d ++ r)) (more_push sources names cs c)
    ∙ ap (λ r. codes " AND " ++ r) (sym (append_assoc (cond_text sources names d) (more_conds sources names cs) (codes " AND " ++ cond_text sources names c)))

-- the text of some conditions with one more is theirs and that one's after AND
conds_push : (sources names : List (List ℕ)) (cs : List ValueCond) (c : ValueCond) → 0 < length cs → conds_text sources names (cs ++ c ∷ []) ≡ conds_text sources names cs ++ (codes " AND " ++ cond_text sources names c)
conds_push sources names [] c h = absurd (omega arith)
conds_push sources names (d ∷ cs) c h =
    ap (λ r. cond_text sources names d ++ r) (more_push sources names cs c)
    ∙ sym (append_assoc (cond_text sources names d) (more_conds sources names cs) (codes " AND " ++ cond_text sources names c))

-- the values of written conditions are some
some_conds : (sources names : List (List ℕ)) (n : ℕ) (cs : Conds) → 0 < length (map (cond_value sources names) (conds_at n cs))
some_conds sources names n (one g c) = omega arith
some_conds sources names n (also cs g h c) =
    let at = n + length (written.conds_text cs) + length g + 3 + length h in
    subst (λ (r : List ValueCond). 0 < length r) (sym (map_push (cond_value sources names) (conds_at n cs) (cond_at at c)))
    (omega (arith, some_conds sources names n cs, length-append (map (cond_value sources names) (conds_at n cs)) (cond_value sources names (cond_at at c) ∷ [])))

-- the text of conditions, with a blank before it
pub conds_written :
    (sources names : List (List ℕ)) (n : ℕ) (cs : Conds) → KeptConds cs → AllByRecursion (KnownCond sources names) (conds_at n cs)
    → written.conds_text (clean_conds cs) ≡ 32 ∷ conds_text sources names (map (cond_value sources names) (conds_at n cs))
conds_written sources names n (one g c) k w =
    ap (λ r. 32 ∷ r) (cond_written sources names (n + length g) c k w.0 ∙ sym (nil_after (cond_text sources names (cond_value sources names (cond_at (n + length g) c)))))
  where
    nil_after : (x : List ℕ) → x ++ [] ≡ x
    nil_after [] = refl
    nil_after (b ∷ x) = ap (λ r. b ∷ r) (nil_after x)
conds_written sources names n (also cs g h c) k w =
    let at = n + length (written.conds_text cs) + length g + 3 + length h in
    let p = all_parts (KnownCond sources names) (conds_at n cs) (cond_at at c) w in
    let value = map (cond_value sources names) (conds_at n cs) in
    ap (λ r. r ++ (32 ∷ 65 ∷ 78 ∷ 68 ∷ 32 ∷ written.cond_text (clean_cond c))) (conds_written sources names n cs k.0 p.0)
    ∙ ap (λ r. 32 ∷ (conds_text sources names value ++ (32 ∷ 65 ∷ 78 ∷ 68 ∷ 32 ∷ r))) (cond_written sources names at c k.1 p.1)
    ∙ ap (λ r. 32 ∷ r) (sym (conds_push sources names value (cond_value sources names (cond_at at c)) (some_conds sources names n cs))
    ∙ ap (conds_text sources names) (sym (map_push (cond_value sources names) (conds_at n cs) (cond_at at c))))
