-- How many different variables a rule has: as many as its conditions bind. And that a rule's variables and sources are known.
use Rattle.std.proofs.Common.{◌≡◌, ◌∙◌, ◌+◌, ◌<◌, ◌≤◌, ℕ, suc, Bool, true, false, cond, ◌||◌, not, List, [], ◌∷◌, ◌++◌, Option, Some, None, refl, ap, sym, subst, length, map, arith, bytes_eq, codes, get_or}
use Rattle.std.specs.List.{list_any, filter, AllByRecursion}
use Rattle.std.proofs.lemmas.Slice.Eq.{bytes_eq-Decides}
use Rattle.mix_base.specs.Groups.{firsts}
use Rattle.mix_base.proofs.Firsts.{each_filter, each_passes, each_weaker, each_firsts}
use Rattle.mix_base.proofs.Lists.{append_nil}
use Rattle.xmas_text.specs.Grammar.{Order, unordered, ordered, descending}
use Rattle.xmas_text.specs.Grammar as written
use Rattle.xmas_text.specs.Parsed.{order_at}
use Rattle.xmas_text.specs.declared.var.VarText.{VarText}
use Rattle.xmas_text.specs.declared.cond.CondText.{CondText}
use Rattle.xmas_text.specs.declared.cond.CondText.TheVariants as condition
use Rattle.xmas_text.specs.declared.cond.OperandText.{OperandText}
use Rattle.xmas_text.specs.declared.cond.OperandText.TheVariants as operand
use Rattle.xmas_text.specs.declared.rule.OrderText.{OrderText}
use Rattle.xmas_read.specs.Tree.{bound_names, operand_vars, cond_vars, conds_vars, order_vars}
use Rattle.xmas_read.specs.Value.{place_in, order_value}
use Rattle.xmas_read.specs.Refusals.{has_name, unless, unknown_sources, unbound_vars, unbound_in}
use Rattle.xmas_read.specs.Canonical.{order_text}
use Rattle.xmas_read.proofs.CleanForm.{clean_order}
use Rattle.xmas_read.proofs.CleanText.{name_back}
use Rattle.xmas_read.proofs.CleanConds.{unplaced, KnownOperand, KnownCond}
use Rattle.xmas_read.proofs.CleanNames.{bound_one}
use Rattle.xmas_read.proofs.NamePlaces.{AreDifferent, among_more, among_themselves}
use Rattle.xmas_read.proofs.Templates.{both_none, unless_none}

-- the members of a list that pass a test are no more than the list has
filter_few : {X : Type 0} (p : X → Bool) (xs : List X) → length (filter p xs) ≤ length xs
filter_few p [] = omega arith
filter_few {X} p (x ∷ xs) =
    let r = filter_few p xs in
    elim (p x) as (λ w. length (cond w (x ∷ filter p xs) (filter p xs)) ≤ suc (length xs)) [ true ↦ omega (arith, r) | false ↦ omega (arith, r) ]

-- names that differ from one
abbrev others : List ℕ → List (List ℕ) → List (List ℕ)
others x ys = filter (λ y. not (bytes_eq x y)) ys

-- there are fewer names that differ from one of them
others_fewer : (x : List ℕ) (ys : List (List ℕ)) → has_name ys x ≡ true → length (others x ys) < length ys
others_fewer x [] h = cc
others_fewer x (y ∷ ys) h =
    elim (bytes_eq y x) as (λ w. bytes_eq y x ≡ w → (w || has_name ys x) ≡ true → length (others x (y ∷ ys)) < suc (length ys)) [
      | true ↦ λ e k.
          let q : bytes_eq x y ≡ true = (bytes_eq-Decides x y).1 (sym ((bytes_eq-Decides y x).0 e)) in
          let r = filter_few (λ z. not (bytes_eq x z)) ys in
          subst (λ b. length (cond (not b) (y ∷ others x ys) (others x ys)) < suc (length ys)) (sym q) (omega (arith, r))
      | false ↦ λ e k.
          let r = others_fewer x ys k in
          elim (bytes_eq x y) as (λ b. length (cond (not b) (y ∷ others x ys) (others x ys)) < suc (length ys)) [ true ↦ omega (arith, r) | false ↦ omega (arith, r) ]
    ] refl h

-- a name that differs from another one is among those that do
others_keep : (x n : List ℕ) (ys : List (List ℕ)) → bytes_eq x n ≡ false → has_name ys n ≡ true → has_name (others x ys) n ≡ true
others_keep x n [] d h = cc
others_keep x n (y ∷ ys) d h =
    elim (bytes_eq y n) as (λ w. bytes_eq y n ≡ w → (w || has_name ys n) ≡ true → has_name (others x (y ∷ ys)) n ≡ true) [
      | true ↦ λ e k.
          let q : bytes_eq x y ≡ false = ap (bytes_eq x) ((bytes_eq-Decides y n).0 e) ∙ d in
          subst (λ b. has_name (cond (not b) (y ∷ others x ys) (others x ys)) n ≡ true) (sym q) (ap (λ b. b || has_name (others x ys) n) e)
      | false ↦ λ e k.
          let r = others_keep x n ys d k in
          elim (bytes_eq x y) as (λ b. has_name (cond (not b) (y ∷ others x ys) (others x ys)) n ≡ true) [ true ↦ r | false ↦ among_more (others x ys) y n r ]
    ] refl h

-- all of names that differ from another one are among those that do
all_others : (x : List ℕ) (ys xs : List (List ℕ)) → AllByRecursion (λ n. bytes_eq x n ≡ false) xs → AllByRecursion (λ n. has_name ys n ≡ true) xs
    → AllByRecursion (λ n. has_name (others x ys) n ≡ true) xs
all_others x ys [] d h = tt
all_others x ys (n ∷ xs) d h = (others_keep x n ys d.0 h.0, all_others x ys xs d.1 h.1)

-- different names that are all among others are no more than those
pub no_more : (xs ys : List (List ℕ)) → AreDifferent xs → AllByRecursion (λ n. has_name ys n ≡ true) xs → length xs ≤ length ys
no_more [] ys d h = omega arith
no_more (x ∷ xs) ys d h =
    let r = no_more xs (others x ys) d.1 (all_others x ys xs d.0 h.1) in
    let s = others_fewer x ys h.0 in
    omega (arith, r, s)

-- a boolean whose negation is true is false
not_so : (b : Bool) → not b ≡ true → b ≡ false
not_so true h = cc
not_so false h = refl

-- the names that pass a test are different, where all names are
different_filter : (p : List ℕ → Bool) (xs : List (List ℕ)) → AreDifferent xs → AreDifferent (filter p xs)
different_filter p [] h = tt
different_filter p (x ∷ xs) h =
    elim (p x) as (λ w. AreDifferent (cond w (x ∷ filter p xs) (filter p xs))) [
      | true ↦ (each_filter (λ n. bytes_eq x n ≡ false) p xs h.0, different_filter p xs h.1)
      | false ↦ different_filter p xs h.1
    ]

-- the first occurrences of names in a list are different names
pub firsts_different : (xs : List (List ℕ)) → AreDifferent (firsts bytes_eq xs)
firsts_different [] = tt
firsts_different (x ∷ xs) = (
  each_weaker (λ n. not (bytes_eq x n) ≡ true) (λ n. bytes_eq x n ≡ false) (λ n h. not_so (bytes_eq x n) h) (others x (firsts bytes_eq xs)) (each_passes (λ n. not (bytes_eq x n)) (firsts bytes_eq xs)),
  different_filter (λ n. not (bytes_eq x n)) (firsts bytes_eq xs) (firsts_different xs),
)

-- a name among names is among their first occurrences
pub among_firsts : (xs : List (List ℕ)) (n : List ℕ) → has_name xs n ≡ true → has_name (firsts bytes_eq xs) n ≡ true
among_firsts [] n h = cc
among_firsts (x ∷ xs) n h =
    elim (bytes_eq x n) as (λ w. bytes_eq x n ≡ w → (w || has_name xs n) ≡ true → (w || has_name (others x (firsts bytes_eq xs)) n) ≡ true) [
      | true ↦ λ e k. refl
      | false ↦ λ e k. others_keep x n (firsts bytes_eq xs) e (among_firsts xs n k)
    ] refl h

-- a name of the first of two lists is among the names of both
pub has_left : (xs ys : List (List ℕ)) (n : List ℕ) → has_name xs n ≡ true → has_name (xs ++ ys) n ≡ true
has_left [] ys n h = cc
has_left (x ∷ xs) ys n h = elim (bytes_eq x n) as (λ w. (w || has_name xs n) ≡ true → (w || has_name (xs ++ ys) n) ≡ true) [ true ↦ λ k. refl | false ↦ λ k. has_left xs ys n k ] h

-- a name of the second of two lists is among the names of both
pub has_right : (xs ys : List (List ℕ)) (n : List ℕ) → has_name ys n ≡ true → has_name (xs ++ ys) n ≡ true
has_right [] ys n h = h
has_right (x ∷ xs) ys n h = among_more (xs ++ ys) x n (has_right xs ys n h)

-- the names of variables
abbrev pub var_names : List VarText → List (List ℕ)
var_names vs = map (λ v. v.name) vs

-- the names of the variables of two lists are those of the first and those of the second
pub names_both : (vs ws : List VarText) → var_names (vs ++ ws) ≡ var_names vs ++ var_names ws
names_both [] ws = refl
names_both (v ∷ vs) ws = ap (λ (r : List (List ℕ)). v.name ∷ r) (names_both vs ws)

-- names that are all among those of variables are so with one variable more before these
more_vars : (v : VarText) (vs : List VarText) (xs : List (List ℕ)) → AllByRecursion (λ n. has_name (var_names vs) n ≡ true) xs → AllByRecursion (λ n. has_name (var_names (v ∷ vs)) n ≡ true) xs
more_vars v vs xs h = each_weaker (λ n. has_name (var_names vs) n ≡ true) (λ n. has_name (var_names (v ∷ vs)) n ≡ true) (λ n k. among_more (var_names vs) v.name n k) xs h

-- a name is itself the first one
first_name : (n : List ℕ) (xs : List (List ℕ)) → has_name (n ∷ xs) n ≡ true
first_name n xs = (among_themselves (n ∷ xs)).0

-- the names that conditions bind stand among their variables
pub bound_among : (cs : List CondText) → AllByRecursion (λ n. has_name (var_names (conds_vars cs)) n ≡ true) (bound_names cs)
bound_among [] = tt
bound_among (condition.FromSource at source path var ∷ cs) = (first_name var.name (var_names (conds_vars cs)), more_vars var (conds_vars cs) (bound_names cs) (bound_among cs))
bound_among (condition.FromVar start path var ∷ cs) = (
  among_more (var_names (var ∷ conds_vars cs)) start.name var.name (first_name var.name (var_names (conds_vars cs))),
  more_vars start (var ∷ conds_vars cs) (bound_names cs) (more_vars var (conds_vars cs) (bound_names cs) (bound_among cs)),
)
bound_among (condition.Compare left op (operand.Var v) ∷ cs) = more_vars left (v ∷ conds_vars cs) (bound_names cs) (more_vars v (conds_vars cs) (bound_names cs) (bound_among cs))
bound_among (condition.Compare left op (operand.Text l) ∷ cs) = more_vars left (conds_vars cs) (bound_names cs) (bound_among cs)

-- the names of conditions' variables are the same without places
pub vars_unplaced : (cs : List CondText) → var_names (conds_vars (map unplaced cs)) ≡ var_names (conds_vars cs)
vars_unplaced [] = refl
vars_unplaced (condition.FromSource at source path var ∷ cs) = ap (λ (r : List (List ℕ)). var.name ∷ r) (vars_unplaced cs)
vars_unplaced (condition.FromVar start path var ∷ cs) = ap (λ (r : List (List ℕ)). start.name ∷ var.name ∷ r) (vars_unplaced cs)
vars_unplaced (condition.Compare left op (operand.Var v) ∷ cs) = ap (λ (r : List (List ℕ)). left.name ∷ v.name ∷ r) (vars_unplaced cs)
vars_unplaced (condition.Compare left op (operand.Text l) ∷ cs) = ap (λ (r : List (List ℕ)). left.name ∷ r) (vars_unplaced cs)

-- bound variables have names that are among names
pub bound_are_known : (names : List (List ℕ)) (vs : List VarText) → unbound_vars names vs ≡ [] → AllByRecursion (λ n. has_name names n ≡ true) (var_names vs)
bound_are_known names [] h = tt
bound_are_known names (v ∷ vs) h = let p = bound_one names v vs h in (p.0, bound_are_known names vs p.1)

-- what holds of all members of two lists holds of all members of both together
pub all_both : {X : Type 0} (P : X → Type 0) (xs ys : List X) → AllByRecursion P xs → AllByRecursion P ys → AllByRecursion P (xs ++ ys)
all_both P [] ys h k = k
all_both P (x ∷ xs) ys h k = (h.0, all_both P xs ys h.1 k)

-- what is among names that are all among others is among those
in_those : (names earlier : List (List ℕ)) (n : List ℕ) → AllByRecursion (λ m. has_name names m ≡ true) earlier → has_name earlier n ≡ true → has_name names n ≡ true
in_those names [] n h k = cc
in_those names (m ∷ earlier) n h k =
    elim (bytes_eq m n) as (λ w. bytes_eq m n ≡ w → (w || has_name earlier n) ≡ true → has_name names n ≡ true) [
      | true ↦ λ e q. subst (λ l. has_name names l ≡ true) ((bytes_eq-Decides m n).0 e) h.0
      | false ↦ λ e q. in_those names earlier n h.1 q
    ] refl k

-- conditions that aren't refused use what is known
pub conds_known :
    (sources names earlier : List (List ℕ)) (cs : List CondText) → AllByRecursion (λ n. has_name names n ≡ true) earlier → AllByRecursion (λ n. has_name names n ≡ true) (bound_names cs)
    → unknown_sources sources cs ≡ [] → unbound_in names earlier cs ≡ [] → AllByRecursion (KnownCond sources names) cs
conds_known sources names earlier [] e n s u = tt
conds_known sources names earlier (condition.FromSource at source path var ∷ cs) e n s u =
    let p = both_none (unless (has_name sources source) at) (unknown_sources sources cs) s in
    let more = all_both (λ m. has_name names m ≡ true) earlier (var.name ∷ []) e (n.0, tt) in
    ((unless_none (has_name sources source) at p.0, n.0), conds_known sources names (earlier ++ var.name ∷ []) cs more n.1 p.1 u)
conds_known sources names earlier (condition.FromVar start path var ∷ cs) e n s u =
    let p = both_none (unless (has_name earlier start.name) start.at) (unbound_in names (earlier ++ var.name ∷ []) cs) u in
    let more = all_both (λ m. has_name names m ≡ true) earlier (var.name ∷ []) e (n.0, tt) in
    ((in_those names earlier start.name e (unless_none (has_name earlier start.name) start.at p.0), n.0), conds_known sources names (earlier ++ var.name ∷ []) cs more n.1 s p.1)
conds_known sources names earlier (condition.Compare left op (operand.Var v) ∷ cs) e n s u =
    let p = both_none (unbound_vars names (left ∷ v ∷ [])) (unbound_in names earlier cs) u in
    let q = bound_one names left (v ∷ []) p.0 in ((q.0, (bound_one names v [] q.1).0), conds_known sources names earlier cs e n s p.1)
conds_known sources names earlier (condition.Compare left op (operand.Text l) ∷ cs) e n s u =
    let p = both_none (unbound_vars names (left ∷ [])) (unbound_in names earlier cs) u in
    (((bound_one names left [] p.0).0, tt), conds_known sources names earlier cs e n s p.1)

-- the variables of known conditions are among names
pub known_vars : (sources names : List (List ℕ)) (cs : List CondText) → AllByRecursion (KnownCond sources names) cs → AllByRecursion (λ n. has_name names n ≡ true) (var_names (conds_vars cs))
known_vars sources names [] h = tt
known_vars sources names (condition.FromSource at source path var ∷ cs) h = (h.0.1, known_vars sources names cs h.1)
known_vars sources names (condition.FromVar start path var ∷ cs) h = (h.0.0, (h.0.1, known_vars sources names cs h.1))
known_vars sources names (condition.Compare left op (operand.Var v) ∷ cs) h = (h.0.0, (h.0.1, known_vars sources names cs h.1))
known_vars sources names (condition.Compare left op (operand.Text l) ∷ cs) h = (h.0.0, known_vars sources names cs h.1)

-- the value of an order is the same in the canonical form
pub order_same : (names : List (List ℕ)) (n m : ℕ) (o : Order) → order_value names (order_at n (clean_order o)) ≡ order_value names (order_at m o)
order_same names n m unordered = refl
order_same names n m (ordered g h i v) = refl
order_same names n m (descending g h i v j) = refl

-- the names of an order's variables are the same in the canonical form
pub order_names : (n m : ℕ) (o : Order) → var_names (order_vars (order_at n (clean_order o))) ≡ var_names (order_vars (order_at m o))
order_names n m unordered = refl
order_names n m (ordered g h i v) = refl
order_names n m (descending g h i v j) = refl

-- variables whose names are all among names are bound by them
pub same_names_bound : (names : List (List ℕ)) (vs : List VarText) → AllByRecursion (λ n. has_name names n ≡ true) (var_names vs) → unbound_vars names vs ≡ []
same_names_bound names [] h = refl
same_names_bound names (v ∷ vs) h = ap (λ b. unless b v.at ++ unbound_vars names vs) h.0 ∙ same_names_bound names vs h.1

-- the canonical form of an order is written as the canonical text of its value
pub order_written : (names : List (List ℕ)) (n : ℕ) (o : Order) → unbound_vars names (order_vars (order_at n o)) ≡ [] → written.order_text (clean_order o) ≡ order_text names (order_value names (order_at n o))
order_written names n unordered h = refl
order_written names n (ordered g b i v) h =
    ap (λ r. codes " ORDER BY " ++ (36 ∷ r)) (sym (name_back names v (bound_one names _ [] h).0) ∙ sym (append_nil (get_or names (place_in names v) [])))
order_written names n (descending g b i v j) h = ap (λ r. codes " ORDER BY " ++ ((36 ∷ r) ++ codes " DESC")) (sym (name_back names v (bound_one names _ [] h).0))
