-- Sources found by the bytes of their names.
use Rattle.std.proofs.Common.{◌≡◌, ◌∙◌, ℕ, List, [], ◌∷◌, ◌++◌, None, Bool, true, false, length, map, refl, sym, ap, position, Vec, Global, ◌<◌, arith, subst}
use Rattle.std.specs.List.{position_or_len}
use Rattle.std.specs.Str.{bytes_eq}
use Rattle.std.specs.Map.{keys_of}
use Rattle.std.proofs.lemmas.List.{length-map, map-append, length-append}
use Rattle.indexmap.specs.IndexMap.{insert_entry}
use Rattle.indexmap.proofs.MapLemmas.{Missing-position, insert_entry-absent}
use Rattle.mix_catalog.specs.declared.source.SourceSpec.{SourceSpec}
use Rattle.mix_catalog.specs.Sources.{source_named, AreNumbered, views_last, IsInPlace}
use Rattle.mix_catalog.specs.Kept.{AreNamed, IsKept}
use Rattle.mix_catalog.proofs.Numbered.{AreNumbered-push}
use Rattle.mix_catalog.proofs.Places.{views_last-push}
use Rattle.mix_tree.specs.Names.{IsName}

-- the first place that passes among a list's images, or the length, is that of the list by the test of images
position_or_len-map : {X Y : Type 0} (p : Y → Bool) (f : X → Y) (xs : List X) → position_or_len p (map f xs) ≡ position_or_len (λ x. p (f x)) xs
position_or_len-map p f [] = refl
position_or_len-map p f (x ∷ xs) = by_case (p (f x)) refl (position_or_len-map p f xs)
  where
    by_case : (b : Bool) → p (f x) ≡ b → position_or_len p (map f xs) ≡ position_or_len (λ x. p (f x)) xs → position_or_len p (map f (x ∷ xs)) ≡ position_or_len (λ x. p (f x)) (x ∷ xs)
    by_case true e more = rw e refl
    by_case false e more = rw (e, more) refl

-- the first place that passes among a list's images is that of the list by the test of images
position-map : {X Y : Type 0} (p : Y → Bool) (f : X → Y) (xs : List X) → position p (map f xs) ≡ position (λ x. p (f x)) xs
position-map p f xs = rw (position_or_len-map p f xs, length-map xs f) refl

-- among entries whose keys are their sources' names, the source of a name is that of the key
pub found_by_name : (es : List (Vec ℕ Global × SourceSpec)) (name : List ℕ) → AreNamed es
    → position (λ k. bytes_eq name k.items) (keys_of es) ≡ source_named (map (λ e. e.1) es) name
found_by_name es name named =
    position-map (λ k. bytes_eq name k.items) (λ e. e.0) es
    ∙ sym (position-map (bytes_eq name) (λ e. e.0.items) es)
    ∙ ap (position (bytes_eq name)) named
    ∙ position-map (bytes_eq name) (λ e. e.1.name) es
    ∙ sym (position-map (λ s. bytes_eq name s.name) (λ e. e.1) es)

-- a source of a new name goes last
pub new_last : (es : List (Vec ℕ Global × SourceSpec)) (key : Vec ℕ Global) (s : SourceSpec) → AreNamed es → key.items ≡ s.name → source_named (map (λ e. e.1) es) s.name ≡ None
    → insert_entry (λ a b. bytes_eq a.items b.items) es key s ≡ es ++ (key, s) ∷ []
new_last es key s named same none =
    let missing : position (λ k. bytes_eq key.items k.items) (keys_of es) ≡ None = found_by_name es key.items named ∙ ap (source_named (map (λ e. e.1) es)) same ∙ none in
    insert_entry-absent (λ a b. bytes_eq a.items b.items) key s es (Missing-position (λ k. bytes_eq key.items k.items) es missing).absent

-- entries whose keys are their names stay so with one more whose key is its name
pub AreNamed-push : (es : List (Vec ℕ Global × SourceSpec)) (key : Vec ℕ Global) (s : SourceSpec) → AreNamed es → key.items ≡ s.name → AreNamed (es ++ (key, s) ∷ [])
AreNamed-push es key s named same =
    map-append (λ e. e.0.items) es ((key, s) ∷ []) ∙ ap (λ xs. xs ++ key.items ∷ []) named ∙ ap (λ n. map (λ e. e.1.name) es ++ n ∷ []) same
    ∙ sym (map-append (λ e. e.1.name) es ((key, s) ∷ []))

-- entries are kept with a source of a new name after them
pub IsKept-push : (es new : List (Vec ℕ Global × SourceSpec)) (key : Vec ℕ Global) (s : SourceSpec) → new ≡ es ++ (key, s) ∷ [] → key.items ≡ s.name → IsKept es → length es < 32 → IsName s.name
    → source_named (map (λ e. e.1) es) s.name ≡ None → IsInPlace (map (λ e. e.1) es) s → IsKept new
IsKept-push es new key s parts same kept few named none place =
    let pushed : IsKept (es ++ (key, s) ∷ []) = record {
      keys = AreNamed-push es key s kept.keys same;
      few = omega (arith, length-append es ((key, s) ∷ []));
      numbered = subst AreNumbered (sym (map-append (λ e. e.1) es ((key, s) ∷ []))) (AreNumbered-push (map (λ e. e.1) es) s kept.numbered named none);
      last = ap views_last (map-append (λ e. e.1) es ((key, s) ∷ [])) ∙ views_last-push (map (λ e. e.1) es) s kept.last place;
    } in
    subst IsKept (sym parts) pushed
