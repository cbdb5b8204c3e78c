-- The names of variables, one after another.
use Rattle.std.proofs.Common.{arith, ◌≡◌, ◌<◌, ◌+◌, ◌∙◌, ℕ, suc, List, [], ◌∷◌, ◌++◌, Bool, true, false, cond, is_some, refl, sym, ap, length, drop, get_or, position, filter, flat_map, nat_lt, Some, None, map, ◌||◌}
use Rattle.std.specs.List.{list_any, position_or_len}
use Rattle.std.specs.Str.{bytes_eq}
use Rattle.std.proofs.lemmas.Grind.{common_steps}
use Rattle.std.proofs.lemmas.List.{drop_more}
use Rattle.std.proofs.lemmas.Bool.Decides.{nat_tests}
use Rattle.mix_words.specs.Words.{is_name}
use Rattle.plan_read.specs.Lines.{Line}
use Rattle.plan_read.specs.Variables.{line_vars, with_new}

-- a count is below another where it is so with both one more
up : (a b : ℕ) → nat_lt (1 + a) (suc b) ≡ nat_lt a b
up a b = by_case (nat_lt a b) refl
  where
    by_case : (t : Bool) → nat_lt a b ≡ t → nat_lt (1 + a) (suc b) ≡ nat_lt a b
    by_case true e = grind (arith, nat_tests, e)
    by_case false e = grind (arith, nat_tests, e)

-- 0 is below one more than any count
over : (b : ℕ) → nat_lt 0 (suc b) ≡ true
over b = grind (arith, nat_tests)

-- something is found where some element passes
below_any : {X : Type 0} (p : X → Bool) (xs : List X) → nat_lt (position_or_len p xs) (length xs) ≡ list_any p xs
below_any p [] = refl
below_any p (x ∷ xs) = by_case (p x) refl (below_any p xs)
  where
    by_case : (b : Bool) → p x ≡ b → nat_lt (position_or_len p xs) (length xs) ≡ list_any p xs → nat_lt (position_or_len p (x ∷ xs)) (length (x ∷ xs)) ≡ list_any p (x ∷ xs)
    by_case true e more = rw e (over (length xs))
    by_case false e more = rw e (up (position_or_len p xs) (length xs) ∙ more)

-- the first member that passes has a place exactly where some member passes
pub found_any : {X : Type 0} (p : X → Bool) (xs : List X) → is_some (position p xs) ≡ list_any p xs
found_any p xs = by_case (nat_lt (position_or_len p xs) (length xs)) ∙ below_any p xs
  where
    by_case : (b : Bool) → is_some (cond b (Some (position_or_len p xs)) None) ≡ b
    by_case true = refl
    by_case false = refl

-- names with what is new in two lists are those with what is new in the first, then in the second
with_new_append : (names xs ys : List (List ℕ)) → with_new names (xs ++ ys) ≡ with_new (with_new names xs) ys
with_new_append names [] ys = refl
with_new_append names (x ∷ xs) ys = with_new_append (cond (list_any (bytes_eq x) names) names (names ++ x ∷ [])) xs ys

-- a name before texts is the first of the names among them
named : (x : List ℕ) (r : List (List ℕ)) → is_name x ≡ true → filter is_name (x ∷ r) ≡ x ∷ filter is_name r
named x r h = ap (λ b. cond b (x ∷ filter is_name r) (filter is_name r)) h

-- a text that is no name adds none to the names among texts
unnamed : (x : List ℕ) (r : List (List ℕ)) → is_name x ≡ false → filter is_name (x ∷ r) ≡ filter is_name r
unnamed x r h = ap (λ b. cond b (x ∷ filter is_name r) (filter is_name r)) h

-- where the variable at a place is a name, the names so far with it, and those of the rest, are still all names
pub name_step : (vars names more whole : List (List ℕ)) (i : ℕ) → i < length vars → is_name (get_or vars i []) ≡ true
    → more ≡ with_new names (get_or vars i [] ∷ []) → with_new names (filter is_name (drop i vars)) ≡ whole → with_new more (filter is_name (drop (i + 1) vars)) ≡ whole
name_step vars names more whole i h n m e =
    ap (λ ns. with_new ns (filter is_name (drop (i + 1) vars))) m
    ∙ sym (ap (λ vs. with_new names (filter is_name vs)) (drop_more vars i [] h) ∙ ap (with_new names) (named (get_or vars i []) (drop (i + 1) vars) n)) ∙ e

-- where the variable at a place is a number, the names so far and those of the rest are still all names
pub other_step : (vars names whole : List (List ℕ)) (i : ℕ) → i < length vars → is_name (get_or vars i []) ≡ false
    → with_new names (filter is_name (drop i vars)) ≡ whole → with_new names (filter is_name (drop (i + 1) vars)) ≡ whole
other_step vars names whole i h n e =
    sym (ap (λ vs. with_new names (filter is_name vs)) (drop_more vars i [] h) ∙ ap (with_new names) (unnamed (get_or vars i []) (drop (i + 1) vars) n)) ∙ e

-- the names among two lists of texts are those of the first and those of the second
filter_append : (xs ys : List (List ℕ)) → filter is_name (xs ++ ys) ≡ filter is_name xs ++ filter is_name ys
filter_append xs ys = grind (arith, common_steps)

-- with the names of one line more, the names so far and those of the rest are still all names
pub line_step : (lines : List Line) (names more whole : List (List ℕ)) (i : ℕ) (d : Line) → i < length lines
    → more ≡ with_new names (filter is_name (line_vars (get_or lines i d).text))
    → with_new names (filter is_name (flat_map (λ l. line_vars l.text) (drop i lines))) ≡ whole
    → with_new more (filter is_name (flat_map (λ l. line_vars l.text) (drop (i + 1) lines))) ≡ whole
line_step lines names more whole i d h m e =
    let rest = flat_map (λ (l : Line). line_vars l.text) (drop (i + 1) lines) in
    ap (λ ns. with_new ns (filter is_name rest)) m
    ∙ sym (with_new_append names (filter is_name (line_vars (get_or lines i d).text)) (filter is_name rest))
    ∙ sym (ap (with_new names) (filter_append (line_vars (get_or lines i d).text) rest))
    ∙ sym (ap (λ ls. with_new names (filter is_name (flat_map (λ (l : Line). line_vars l.text) ls))) (drop_more lines i d h)) ∙ e

-- some member of a list's images passes exactly where some member of the list passes by the test of images
pub any_map : {X Y : Type 0} (p : Y → Bool) (f : X → Y) (xs : List X) → list_any p (map f xs) ≡ list_any (λ x. p (f x)) xs
any_map p f [] = refl
any_map p f (x ∷ xs) = ap (λ b. p (f x) || b) (any_map p f xs)
