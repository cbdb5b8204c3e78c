-- The sources of a catalog that are no views stand before the others, with the same numbers.
use Rattle.std.proofs.Common.{◌≡◌, ◌∙◌, ◌+◌, ◌<◌, ◌≤◌, ℕ, zero, suc, Bool, true, false, cond, not, ◌&&◌, ◌||◌, List, [], ◌∷◌, Some, refl, ap, sym, subst, arith, length, slice_get}
use Rattle.std.specs.List.{list_all}
use Rattle.std.proofs.lemmas.Option.{same_Some, slice_get_within}
use Rattle.mix_catalog.specs.declared.source.SourceSpec.{SourceSpec}
use Rattle.mix_catalog.specs.Grammar.{is_view}
use Rattle.mix_catalog.specs.Sources.{base_of, views_last}

-- whether a source is a view
abbrev view_is : SourceSpec → Bool
view_is s = is_view s.kind

-- both of two facts
both : (a b : Bool) → (a && b) ≡ true → (a ≡ true) × (b ≡ true)
both true true e = (refl, refl)
both true false e = absurd (let z : false ≡ true = e in cc)
both false b e = absurd (let z : false ≡ true = e in cc)

-- where a first is not so, the second is
second : (a b : Bool) → (not a || b) ≡ true → a ≡ true → b ≡ true
second true b e h = e
second false b e h = absurd (let z : false ≡ true = h in cc)

-- what holds of all sources holds of one of them
all_at : (p : SourceSpec → Bool) (xs : List SourceSpec) (s : ℕ) (x : SourceSpec) → list_all p xs ≡ true → slice_get xs s ≡ Some x → p x ≡ true
all_at p [] s x h e = absurd (let w = slice_get_within [] s x e in omega (arith, w))
all_at p (y ∷ ys) zero x h e = subst (λ (z : SourceSpec). p z ≡ true) (same_Some y x e) (both (p y) (list_all p ys) h).0
all_at p (y ∷ ys) (suc s) x h e = all_at p ys s x (both (p y) (list_all p ys) h).1 e

-- true is not false
apart : (b : Bool) → b ≡ true → b ≡ false → ⊥
apart true e f = (let z : true ≡ false = f in cc)
apart false e f = (let z : false ≡ true = e in cc)

-- among views alone there is no other source
none_left : (xs : List SourceSpec) → list_all view_is xs ≡ true → base_of xs ≡ []
none_left [] h = refl
none_left (x ∷ xs) h =
    let parts = both (view_is x) (list_all view_is xs) h in
    ap (λ b. cond (not b) (x ∷ base_of xs) (base_of xs)) parts.0 ∙ none_left xs parts.1

-- a source that is no view has its number among those that are none
pub base_there : (sources : List SourceSpec) → views_last sources ≡ true → (s : ℕ) (spec : SourceSpec) → slice_get sources s ≡ Some spec → is_view spec.kind ≡ false → slice_get (base_of sources) s ≡ Some spec
base_there [] last s spec e unset = absurd (let w = slice_get_within [] s spec e in omega (arith, w))
base_there (x ∷ xs) last zero spec e unset =
    let same : x ≡ spec = same_Some x spec e in
    let own : view_is x ≡ false = subst (λ (z : SourceSpec). view_is z ≡ false) (sym same) unset in
    subst (λ (b : Bool). slice_get (cond (not b) (x ∷ base_of xs) (base_of xs)) zero ≡ Some spec) (sym own) e
base_there (x ∷ xs) last (suc s) spec e unset =
    let parts = both (not (view_is x) || list_all view_is xs) (views_last xs) last in
    (elim (view_is x) as (λ b. view_is x ≡ b → slice_get (cond (not b) (x ∷ base_of xs) (base_of xs)) (suc s) ≡ Some spec) [
      | false ↦ λ own. base_there xs parts.1 s spec e unset
      | true ↦ λ own. absurd (apart (view_is spec) (all_at view_is xs s spec (second (view_is x) (list_all view_is xs) parts.0 own) e) unset)
    ]) refl

-- a source of a list whose first is no view: the first, or one of the others
first_or_later : (x spec : SourceSpec) (xs : List SourceSpec) → view_is x ≡ false → ((s : ℕ) → slice_get (base_of xs) s ≡ Some spec → (slice_get xs s ≡ Some spec) × (is_view spec.kind ≡ false)) → (s : ℕ)
    → slice_get (x ∷ base_of xs) s ≡ Some spec → (slice_get (x ∷ xs) s ≡ Some spec) × (is_view spec.kind ≡ false)
first_or_later x spec xs own rest zero at = (at, subst (λ (z : SourceSpec). view_is z ≡ false) (same_Some x spec at) own)
first_or_later x spec xs own rest (suc s) at = rest s at

-- a source among those that are no views is none, and has its number among all
pub base_whole : (sources : List SourceSpec) → views_last sources ≡ true → (s : ℕ) (spec : SourceSpec) → slice_get (base_of sources) s ≡ Some spec → (slice_get sources s ≡ Some spec) × (is_view spec.kind ≡ false)
base_whole [] last s spec e = absurd (let w = slice_get_within [] s spec e in omega (arith, w))
base_whole (x ∷ xs) last s spec e =
    let parts = both (not (view_is x) || list_all view_is xs) (views_last xs) last in
    (elim (view_is x) as (λ b. view_is x ≡ b → slice_get (cond (not b) (x ∷ base_of xs) (base_of xs)) s ≡ Some spec → (slice_get (x ∷ xs) s ≡ Some spec) × (is_view spec.kind ≡ false)) [
      | false ↦ λ own at. first_or_later x spec xs own (λ k there. base_whole xs parts.1 k spec there) s at
      | true ↦ (λ own at.
          let empty = none_left xs (second (view_is x) (list_all view_is xs) parts.0 own) in
          absurd (let w = slice_get_within [] s spec (subst (λ (l : List SourceSpec). slice_get l s ≡ Some spec) empty at) in omega (arith, w)))
    ]) refl e

-- a source after all that are no views is one
pub view_beyond : (sources : List SourceSpec) → views_last sources ≡ true → (s : ℕ) (spec : SourceSpec) → slice_get sources s ≡ Some spec → (s < length (base_of sources) → ⊥) → is_view spec.kind ≡ true
view_beyond sources last s spec e far =
    (elim (view_is spec) as (λ b. view_is spec ≡ b → b ≡ true) [
      | true ↦ λ own. refl
      | false ↦ λ own. absurd (far (slice_get_within (base_of sources) s spec (base_there sources last s spec e own)))
    ]) refl

-- there are no more sources that are no views than sources
pub base_short : (sources : List SourceSpec) → length (base_of sources) ≤ length sources
base_short [] = omega arith
base_short (x ∷ xs) = at (view_is x) (base_short xs)
  where
    at : (b : Bool) → length (base_of xs) ≤ length xs → length (cond (not b) (x ∷ base_of xs) (base_of xs)) ≤ suc (length xs)
    at false h = omega (arith, h)
    at true h = omega (arith, h)
