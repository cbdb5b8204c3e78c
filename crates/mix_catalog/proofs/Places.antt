-- Views stand after the other sources.
use Rattle.std.proofs.Common.{◌≡◌, ◌+◌, ◌∙◌, ℕ, zero, suc, Bool, true, false, cond, List, [], ◌∷◌, ◌++◌, Some, None, refl, ap, sym, subst, arith, length, take, position, slice_get, nat_lt}
use Rattle.std.specs.Prelude.{not, ◌&&◌, ◌||◌}
use Rattle.std.specs.List.{list_all, position_or_len, prefix_len}
use Rattle.std.proofs.lemmas.Bool.Decides.{nat_tests}
use Rattle.mix_base.proofs.Choices.{and_parts, some_is, none_some}
use Rattle.mix_catalog.specs.declared.source.SourceSpec.{SourceSpec}
use Rattle.mix_catalog.specs.Grammar.{is_view}
use Rattle.mix_catalog.specs.Sources.{has_view, views_last, base_of, IsInPlace}

-- the rest of sources that come without a view
rest_in_place : (t : SourceSpec) (sources : List SourceSpec) (s : SourceSpec) → IsInPlace (t ∷ sources) s → IsInPlace sources s
rest_in_place t sources s h = at (is_view s.kind) (is_view t.kind) (has_view sources) h
  where
    at : (a b d : Bool) → a || not (b || d) ≡ true → a || not d ≡ true
    at true b d h = refl
    at false false d h = h
    at false true d h = cc

-- a source after a view is one
after_view : (t : SourceSpec) (sources : List SourceSpec) (s : SourceSpec) → IsInPlace (t ∷ sources) s → is_view t.kind ≡ true → is_view s.kind ≡ true
after_view t sources s h v = at (is_view s.kind) (is_view t.kind) (has_view sources) h v
  where
    at : (a b d : Bool) → a || not (b || d) ≡ true → b ≡ true → a ≡ true
    at true b d h e = refl
    at false true d h e = cc
    at false false d h e = cc

all_push : (sources : List SourceSpec) (s : SourceSpec) → list_all (λ u. is_view u.kind) sources ≡ true → is_view s.kind ≡ true → list_all (λ u. is_view u.kind) (sources ++ s ∷ []) ≡ true
all_push [] s h v = ap (λ b. b && true) v
all_push (u ∷ sources) s h v = let p = and_parts (is_view u.kind) (list_all (λ z. is_view z.kind) sources) h in ap (λ b. b && list_all (λ z. is_view z.kind) (sources ++ s ∷ [])) p.0 ∙ all_push sources s p.1 v

-- one more source in its place
pub views_last-push : (sources : List SourceSpec) (s : SourceSpec) → views_last sources ≡ true → IsInPlace sources s → views_last (sources ++ s ∷ []) ≡ true
views_last-push [] s h place = at (is_view s.kind)
  where
    at : (b : Bool) → (not b || true) && true ≡ true
    at true = refl
    at false = refl
views_last-push (t ∷ sources) s h place =
    let p = and_parts (not (is_view t.kind) || list_all (λ u. is_view u.kind) sources) (views_last sources) h in
    ap (λ b. b && views_last (sources ++ s ∷ [])) (first (is_view t.kind) refl p.0) ∙ views_last-push sources s p.1 (rest_in_place t sources s place)
  where
    first : (b : Bool) → is_view t.kind ≡ b → not b || list_all (λ u. is_view u.kind) sources ≡ true → not b || list_all (λ u. is_view u.kind) (sources ++ s ∷ []) ≡ true
    first false e k = refl
    first true e k = all_push sources s k (after_view t sources s place e)

-- no other source is among views
none_left : (sources : List SourceSpec) → list_all (λ u. is_view u.kind) sources ≡ true → base_of sources ≡ []
none_left [] h = refl
none_left (s ∷ sources) h = let p = and_parts (is_view s.kind) (list_all (λ u. is_view u.kind) sources) h in ap (λ b. cond (not b) (s ∷ base_of sources) (base_of sources)) p.0 ∙ none_left sources p.1

-- those that are none are the first ones
pub base_first : (sources : List SourceSpec) → views_last sources ≡ true → base_of sources ≡ take (length (base_of sources)) sources
base_first [] h = refl
base_first (s ∷ sources) h =
    let p = and_parts (not (is_view s.kind) || list_all (λ u. is_view u.kind) sources) (views_last sources) h in
    at (is_view s.kind) refl p.0 (base_first sources p.1)
  where
    at : (b : Bool) → is_view s.kind ≡ b → not b || list_all (λ u. is_view u.kind) sources ≡ true → base_of sources ≡ take (length (base_of sources)) sources
        → cond (not b) (s ∷ base_of sources) (base_of sources) ≡ take (length (cond (not b) (s ∷ base_of sources) (base_of sources))) (s ∷ sources)
    at false e k i = ap (λ z. s ∷ z) i
    at true e k i = none_left sources k ∙ ap (λ z. take (length z) (s ∷ sources)) (sym (none_left sources k))

-- another source is out of place after a view
pub out_of_place : (before : List SourceSpec) (s : SourceSpec) → is_view s.kind ≡ false → has_view before ≡ true → IsInPlace before s → ⊥
out_of_place before s other has place = let z : true ≡ false = sym place ∙ ap (λ b. b || not (has_view before)) other ∙ ap not has in cc

-- FIRST PLACES

all_taken : {A : Type 0} (q : A → Bool) (xs : List A) → prefix_len q (take (prefix_len q xs) xs) ≡ length (take (prefix_len q xs) xs)
all_taken q [] = refl
all_taken q (x ∷ xs) = at (q x) refl (all_taken q xs)
  where
    at : (b : Bool) → q x ≡ b → prefix_len q (take (prefix_len q xs) xs) ≡ length (take (prefix_len q xs) xs)
        → prefix_len q (take (cond b (1 + prefix_len q xs) 0) (x ∷ xs)) ≡ length (take (cond b (1 + prefix_len q xs) 0) (x ∷ xs))
    at false e h = refl
    at true e h =
        let one : 1 + prefix_len q xs ≡ suc (prefix_len q xs) = omega arith in
        let more : 1 + prefix_len q (take (prefix_len q xs) xs) ≡ suc (length (take (prefix_len q xs) xs)) = omega (arith, h) in
        subst (λ m. prefix_len q (take m (x ∷ xs)) ≡ length (take m (x ∷ xs))) (sym one) (ap (λ b. cond b (1 + prefix_len q (take (prefix_len q xs) xs)) 0) e ∙ more)

-- nothing before the first place passes
pub none_before : {A : Type 0} (p : A → Bool) (xs : List A) (i : ℕ) → position p xs ≡ Some i → position p (take i xs) ≡ None
none_before p xs i h = by_case (nat_lt (position_or_len p xs) (length xs)) h
  where
    by_case : (t : Bool) → cond t (Some (position_or_len p xs)) None ≡ Some i → position p (take i xs) ≡ None
    by_case false f = none_some i f
    by_case true f =
        let is : position_or_len p xs ≡ i = some_is (position_or_len p xs) i f in
        let all : position_or_len p (take i xs) ≡ length (take i xs) = subst (λ n. position_or_len p (take n xs) ≡ length (take n xs)) is (all_taken (λ x. not (p x)) xs) in
        let past : nat_lt (position_or_len p (take i xs)) (length (take i xs)) ≡ false = grind (arith, nat_tests, all) in
        ap (λ b. cond b (Some (position_or_len p (take i xs))) None) past

-- THE SOURCES OF THE OTHER KINDS

-- where none is a view, these are all
pub base_whole : (sources : List SourceSpec) → has_view sources ≡ false → base_of sources ≡ sources
base_whole [] h = refl
base_whole (s ∷ sources) h = at (is_view s.kind) h (base_whole sources)
  where
    at : (b : Bool) → b || has_view sources ≡ false → (has_view sources ≡ false → base_of sources ≡ sources) → cond (not b) (s ∷ base_of sources) (base_of sources) ≡ s ∷ sources
    at false k i = ap (λ z. s ∷ z) (i k)
    at true k i = cc

-- else those before the first view
pub base_until : (sources : List SourceSpec) → views_last sources ≡ true → (i : ℕ) (v : SourceSpec) → slice_get sources i ≡ Some v → is_view v.kind ≡ true → has_view (take i sources) ≡ false → base_of sources ≡ take i sources
base_until [] h i v e w k = none_some v e
base_until (s ∷ sources) h zero v e w k =
    let p = and_parts (not (is_view s.kind) || list_all (λ u. is_view u.kind) sources) (views_last sources) h in
    let view : is_view s.kind ≡ true = ap (λ (u : SourceSpec). is_view u.kind) (some_is s v e) ∙ w in
    ap (λ b. cond (not b) (s ∷ base_of sources) (base_of sources)) view ∙ none_left sources (sym (ap (λ b. not b || list_all (λ u. is_view u.kind) sources) view) ∙ p.0)
base_until (s ∷ sources) h (suc i) v e w k =
    let p = and_parts (not (is_view s.kind) || list_all (λ u. is_view u.kind) sources) (views_last sources) h in
    at (is_view s.kind) k (λ z. base_until sources p.1 i v e w z)
  where
    at : (b : Bool) → b || has_view (take i sources) ≡ false → (has_view (take i sources) ≡ false → base_of sources ≡ take i sources) → cond (not b) (s ∷ base_of sources) (base_of sources) ≡ s ∷ take i sources
    at false z f = ap (λ x. s ∷ x) (f z)
    at true z f = cc

-- one more source that is none
pub no_view_push : (sources : List SourceSpec) (s : SourceSpec) → has_view sources ≡ false → is_view s.kind ≡ false → has_view (sources ++ s ∷ []) ≡ false
no_view_push [] s h k = ap (λ b. b || false) k
no_view_push (t ∷ sources) s h k = at (is_view t.kind) h (no_view_push sources s)
  where
    at : (b : Bool) → b || has_view sources ≡ false → (has_view sources ≡ false → is_view s.kind ≡ false → has_view (sources ++ s ∷ []) ≡ false) → b || has_view (sources ++ s ∷ []) ≡ false
    at false z f = f z k
    at true z f = cc
