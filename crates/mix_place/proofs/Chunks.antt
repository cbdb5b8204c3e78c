-- What can be mounted: the chunks of a catalog's sources lie in their range, and those of its base are no views.
use Rattle.std.proofs.Common.{◌≡◌, inl, inr, ℕ, zero, suc, Bool, true, false, cond, not, List, [], ◌∷◌, Some, refl, subst, sym, arith, slice_get}
use Rattle.std.specs.List.{AllByRecursion}
use Rattle.std.proofs.lemmas.Option.{same_Some, slice_get_within}
use Rattle.mix_base.proofs.Firsts.{each_snoc}
use Rattle.mix_catalog.specs.declared.source.SourceSpec.{SourceSpec}
use Rattle.mix_catalog.specs.Grammar.{is_view}
use Rattle.mix_catalog.specs.Sources.{Accepts, Adds, IsChunk, base_of}
use Rattle.mix_place.specs.Mounting.{IsBase}

-- the chunk of a source lies in its range
abbrev HasChunk : SourceSpec → Type 0
HasChunk spec = IsChunk spec.chunk

-- after further lines of a catalog that are accepted, the chunk of each source still lies in its range
accepted_chunks : (before : List SourceSpec) (lines : List (List ℕ)) (sources : List SourceSpec) → AllByRecursion HasChunk before → Accepts before lines sources → AllByRecursion HasChunk sources
accepted_chunks before [] sources h a = subst (AllByRecursion HasChunk) (sym a) h
accepted_chunks before (line ∷ lines) sources h a = accepted_chunks a.0 lines sources (added a.0 a.1) a.2
  where
    added : (after : List SourceSpec) → Adds before line after → AllByRecursion HasChunk after
    added after (inl passed) = subst (AllByRecursion HasChunk) (sym passed.1) h
    added after (inr new) = subst (AllByRecursion HasChunk) (sym new.4) (each_snoc HasChunk before new.1 h new.3.chunk)

-- what holds of each element of a list holds of the one at a place
each_there : {X : Type 0} (P : X → Type 0) (xs : List X) (i : ℕ) (x : X) → AllByRecursion P xs → slice_get xs i ≡ Some x → P x
each_there P [] i x h e = absurd (let w = slice_get_within [] i x e in omega (arith, w))
each_there P (y ∷ ys) zero x h e = subst P (same_Some y x e) h.0
each_there P (y ∷ ys) (suc i) x h e = each_there P ys i x h.1 e

-- a source can be mounted: its chunk lies in its range, and it is no view
abbrev CanBeMounted : SourceSpec → Type 0
CanBeMounted spec = IsChunk spec.chunk × (is_view spec.kind ≡ false)

-- those of sources with chunks in their range that are no views can be mounted
each_of_base : (sources : List SourceSpec) → AllByRecursion HasChunk sources → AllByRecursion CanBeMounted (base_of sources)
each_of_base [] h = tt
each_of_base (x ∷ xs) h = at (is_view x.kind) refl (each_of_base xs h.1)
  where
    at : (b : Bool) → is_view x.kind ≡ b → AllByRecursion CanBeMounted (base_of xs) → AllByRecursion CanBeMounted (cond (not b) (x ∷ base_of xs) (base_of xs))
    at false e rest = ((h.0, e), rest)
    at true e rest = rest

-- each source of a catalog that is no view can be mounted
pub mountable : (sources : List SourceSpec) (s : ℕ) (spec : SourceSpec) → IsBase sources → slice_get sources s ≡ Some spec → IsChunk spec.chunk × (is_view spec.kind ≡ false)
mountable sources s spec (text, whole, catalog, are) e =
    each_there CanBeMounted sources s spec (subst (AllByRecursion CanBeMounted) (sym are) (each_of_base whole (accepted_chunks [] _ whole tt catalog))) e
