-- Names that are different, and sources by their names.
use Rattle.std.proofs.Common.{◌≡◌, ◌∙◌, ◌+◌, ◌<◌, ◌≤◌, ℕ, Bool, true, false, cond, List, [], ◌∷◌, ◌++◌, refl, ap, sym, subst, drop, length, get_or, map, arith, bytes_eq, Option, Some, None, is_some, suc, not, ◌||◌, nat_lt, Bor}
use Rattle.std.specs.List.{list_any, position_or_len}
use Rattle.xmas_text.specs.declared.var.VarText.{VarText}
use Rattle.std.proofs.lemmas.List.{drop_all, drop_more, length-append}
use Rattle.std.proofs.lemmas.Slice.Eq.{bytes_eq-Decides}
use Rattle.std.proofs.lemmas.Bool.Decides.{nat_tests}
use Rattle.mix_base.proofs.Firsts.{IsSameness, map-map}
use Rattle.mix_base.proofs.Seen.{was_seen, distinct}
use Rattle.mix_catalog.specs.Sources.{source_named}
use Rattle.mix_catalog.specs.declared.source.SourceSpec.{SourceSpec}
use Rattle.xmas_read.specs.Value.{place_in}
use Rattle.xmas_read.specs.Refusals.{has_name}

-- a text is the same as itself
bytes_itself : (x : List ℕ) → bytes_eq x x ≡ true
bytes_itself x = (bytes_eq-Decides x x).1 refl

-- equality of bytes is a sameness
pub bytes_same : IsSameness bytes_eq
bytes_same = record { itself = bytes_itself; alike = λ x y z h. ap (bytes_eq z) ((bytes_eq-Decides x y).0 h) }

-- names with one more, unless it is there
abbrev pub noted : List (List ℕ) → List ℕ → List (List ℕ)
noted seen b = cond (has_name seen b) seen (seen ++ b ∷ [])

-- what was seen and what is yet different from it are together as many after one more
pub noted_more : (seen : List (List ℕ)) (b : List ℕ) (bs : List (List ℕ)) → length seen + length (distinct bytes_eq seen (b ∷ bs)) ≡ length (noted seen b) + length (distinct bytes_eq (noted seen b) bs)
noted_more seen b bs =
    elim (has_name seen b) as (λ w.
    length seen + length (cond w (distinct bytes_eq seen bs) (b ∷ distinct bytes_eq (seen ++ b ∷ []) bs))
    ≡ length (cond w seen (seen ++ b ∷ [])) + length (distinct bytes_eq (cond w seen (seen ++ b ∷ [])) bs)) [
      | true ↦ refl
      | false ↦ omega (arith, length-append seen (b ∷ []))
    ]

-- equality of bytes holds both ways
pub bytes_sym : (x y : List ℕ) → bytes_eq x y ≡ bytes_eq y x
bytes_sym x y =
    elim (bytes_eq x y) as (λ w. bytes_eq x y ≡ w → w ≡ bytes_eq y x) [
      | true ↦ λ e. let q : x ≡ y = (bytes_eq-Decides x y).0 e in sym ((bytes_eq-Decides y x).1 (sym q))
      | false ↦ λ e. elim (bytes_eq y x) as (λ v. bytes_eq y x ≡ v → false ≡ v)
          [ true ↦ λ d. (let q : bytes_eq x y ≡ true = (bytes_eq-Decides x y).1 (sym ((bytes_eq-Decides y x).0 d)) in let c : true ≡ false = sym q ∙ e in cc) | false ↦ λ d. refl ] refl
    ] refl

-- a number is below another one exactly where it is with one added to each
lt_suc : (a b : ℕ) → nat_lt (suc a) (suc b) ≡ nat_lt a b
lt_suc a b = grind (arith, nat_tests)

-- the first place lies within a list that has members
first_small : (n : ℕ) → nat_lt 0 (suc n) ≡ true
first_small n = grind (arith, nat_tests)

-- none, and then as many as some, are as many as those
pub none_more : (k n : ℕ) → k ≡ n → 0 + k ≡ n
none_more k n e = omega (arith, e)

-- the place of the first that passes is 0 where the first member does, and else one more than that in the others
place_first : {X : Type 0} (p : X → Bool) (x : X) (xs : List X) → position_or_len p (x ∷ xs) ≡ cond (not (p x)) (suc (position_or_len p xs)) 0
place_first p x xs = let e : 1 + position_or_len p xs ≡ suc (position_or_len p xs) = omega arith in ap (λ k. cond (not (p x)) k 0) e

-- the first that passes has a place among all exactly where one passes
place_any : {X : Type 0} (p : X → Bool) (xs : List X) → nat_lt (position_or_len p xs) (length xs) ≡ list_any p xs
place_any p [] = refl
place_any p (x ∷ xs) =
    ap (λ n. nat_lt n (suc (length xs))) (place_first p x xs)
    ∙ elim (p x) as (λ w. nat_lt (cond (not w) (suc (position_or_len p xs)) 0) (suc (length xs)) ≡ (w || list_any p xs))
    [ true ↦ first_small (length xs) | false ↦ lt_suc (position_or_len p xs) (length xs) ∙ place_any p xs ]

-- a number that is there under a condition is there exactly where the condition holds
some_where : (b : Bool) (n : ℕ) → is_some (cond b (Some n) None) ≡ b
some_where true n = refl
some_where false n = refl

-- one passes for the names turned round
any_turned : (sources : List SourceSpec) (name : List ℕ) → list_any (λ (s : SourceSpec). bytes_eq name s.name) sources ≡ has_name (map (λ (s : SourceSpec). s.name) sources) name
any_turned [] name = refl
any_turned (s ∷ sources) name =
    ap (λ b. b || list_any (λ (s : SourceSpec). bytes_eq name s.name) sources) (bytes_sym name s.name) ∙ ap (λ b. bytes_eq s.name name || b) (any_turned sources name)

-- a source of the name is found exactly where its name is among the sources' names
pub found_named : (sources : List SourceSpec) (name : List ℕ) → is_some (source_named sources name) ≡ has_name (map (λ (s : SourceSpec). s.name) sources) name
found_named sources name =
    let p : SourceSpec → Bool = λ s. bytes_eq name s.name in
    some_where (nat_lt (position_or_len p sources) (length sources)) (position_or_len p sources) ∙ place_any p sources ∙ any_turned sources name

-- the names of variables, after references and not
pub names_of : (vars : List (Bor VarText)) → map (λ v. v.now.name) vars ≡ map (λ (v : VarText). v.name) (map (λ v. v.now) vars)
names_of vars = sym (map-map (λ (v : VarText). v.name) (λ v. v.now) vars)

-- with one more name noted, the names seen and those yet to come are as many as before
pub note_step :
    (vars : List (Bor VarText)) (i : ℕ) (v : Bor VarText) (seen more : List (List ℕ)) (n : ℕ) → i < length vars → v ≡ get_or vars i v → more ≡ noted seen v.now.name
    → length seen + length (distinct bytes_eq seen (map (λ v. v.now.name) (drop i vars))) ≡ n
    → length more + length (distinct bytes_eq more (map (λ v. v.now.name) (drop (i + 1) vars))) ≡ n
note_step vars i v seen more n l e m h =
    let shape : drop i vars ≡ v ∷ drop (i + 1) vars = drop_more vars i v l ∙ ap (λ (y : Bor VarText). y ∷ drop (i + 1) vars) (sym e) in
    let rest = map (λ (v : Bor VarText). v.now.name) (drop (i + 1) vars) in
    ap (λ k. length k + length (distinct bytes_eq k rest)) m ∙ sym (noted_more seen v.now.name rest)
    ∙ ap (λ (ws : List (Bor VarText)). length seen + length (distinct bytes_eq seen (map (λ v. v.now.name) ws))) (sym shape)
    ∙ h

-- where more than 60 names are noted, there are more than 60, however many come
pub many_noted : (k r n : ℕ) → 60 < k → k + r ≡ n → true ≡ nat_lt 60 n
many_noted k r n h e = grind (arith, nat_tests)

-- where at most 60 names are noted and none is to come, there are no more than 60
few_noted : (k n : ℕ) → k ≤ 60 → k + 0 ≡ n → false ≡ nat_lt 60 n
few_noted k n h e = grind (arith, nat_tests)

-- after the last variable no name is added
pub none_left :
    (vars : List (Bor VarText)) (i : ℕ) (seen : List (List ℕ)) (n : ℕ) → length vars ≤ i → length seen ≤ 60
    → length seen + length (distinct bytes_eq seen (map (λ v. v.now.name) (drop i vars))) ≡ n → false ≡ nat_lt 60 n
none_left vars i seen n l f h = few_noted (length seen) n f (rw (drop_all i vars l) at h)

-- the place of a source's name is 0 where the first source has it, and else one more than that in the others
named_first :
    (s : SourceSpec) (sources : List SourceSpec) (name : List ℕ) (k n : ℕ) → k ≡ n
    → cond (bytes_eq s.name name) 0 (suc k) ≡ cond (not (bytes_eq name s.name)) (suc n) 0
named_first s sources name k n e =
    ap (λ b. cond b 0 (suc k)) (bytes_sym s.name name)
    ∙ elim (bytes_eq name s.name) as (λ w. cond w 0 (suc k) ≡ cond (not w) (suc n) 0) [ true ↦ refl | false ↦ ap suc e ]

-- the place of a source's name is that of the first source of the name
place_is : (sources : List SourceSpec) (name : List ℕ) → place_in (map (λ (s : SourceSpec). s.name) sources) name ≡ position_or_len (λ (s : SourceSpec). bytes_eq name s.name) sources
place_is [] name = refl
place_is (s ∷ sources) name =
    named_first s sources name (place_in (map (λ (s : SourceSpec). s.name) sources) name) (position_or_len (λ (s : SourceSpec). bytes_eq name s.name) sources) (place_is sources name)
    ∙ sym (place_first (λ (s : SourceSpec). bytes_eq name s.name) s sources)

-- a number that is there under a condition is the number that is given
some_is : (b : Bool) (k n : ℕ) → cond b (Some k) None ≡ Some n → n ≡ k
some_is true k n h = cc
some_is false k n h = cc

-- where a number is not there under a condition, the condition doesn't hold
none_is : (b : Bool) (k : ℕ) → cond b (Some k) None ≡ None → b ≡ false
none_is true k h = cc
none_is false k h = refl

-- no first one that passes stands after the last
place_inside : {X : Type 0} (p : X → Bool) (xs : List X) → position_or_len p xs ≤ length xs
place_inside p [] = omega arith
place_inside p (x ∷ xs) =
    subst (λ n. n ≤ suc (length xs)) (sym (place_first p x xs)) (elim (p x) as (λ w. cond (not w) (suc (position_or_len p xs)) 0 ≤ suc (length xs)) [ true ↦ omega arith | false ↦ (let h = place_inside p xs in omega (arith, h)) ])

-- the number of a source that is found
pub found_at : (sources : List SourceSpec) (name : List ℕ) (n : ℕ) → source_named sources name ≡ Some n → n ≡ place_in (map (λ (s : SourceSpec). s.name) sources) name
found_at sources name n h =
    let k = position_or_len (λ (s : SourceSpec). bytes_eq name s.name) sources in some_is (nat_lt k (length sources)) k n h ∙ sym (place_is sources name)

-- the place of a name that no source has is how many sources there are
pub found_none : (sources : List SourceSpec) (name : List ℕ) → source_named sources name ≡ None → length sources ≡ place_in (map (λ (s : SourceSpec). s.name) sources) name
found_none sources name h =
    let k = position_or_len (λ (s : SourceSpec). bytes_eq name s.name) sources in
    let far = none_is (nat_lt k (length sources)) k h in
    let near = place_inside (λ (s : SourceSpec). bytes_eq name s.name) sources in
    let e : length sources ≡ k = grind (arith, nat_tests) in
    e ∙ sym (place_is sources name)
