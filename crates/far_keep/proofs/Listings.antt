-- The far source at the place of a name, among those in memory.
use Rattle.std.proofs.Common.{◌≡◌, ◌∙◌, ◌<◌, ◌+◌, ◌-◌, ◌^◌, ℕ, true, List, [], ◌∷◌, Option, Some, length, get_or, set, min, refl, ap, sym, arith}
use Rattle.std.specs.Prelude.{option_and_then}
use Rattle.std.specs.List.{list_all, slice_get}
use Rattle.std.proofs.lemmas.List.Sums.{AllPass-from_list_all}
use Rattle.std.proofs.lemmas.List.{get_or-set_same, get_or_default}
use Rattle.std.proofs.lemmas.List.Quantifiers.{position-Some}
use Rattle.std.proofs.lemmas.Option.{slice_get_read}
use Rattle.mix_base.proofs.Choices.{and_parts}
use Rattle.mix_tree.specs.Forest.{alone}
use Rattle.lxp_core.specs.Open.{without_holes}
use Rattle.lxp_core.specs.Small.{IsSmall}
use Rattle.lxp_memory.specs.Small.{fits_wire}
use Rattle.lxp_memory.proofs.MetTrees.{small_root}
use Rattle.far_keep.specs.declared.far_source.FarSource.{FarSource}
use Rattle.far_keep.specs.declared.mem_far.MemFar.{MemFar}
use Rattle.far_keep.specs.declared.mem_fars.MemFars.{MemFars}
use Rattle.far_keep.specs.Listed.{count_at, is_small, listed, place_of}
use Rattle.far_keep.specs.Memory.{fars_of, next_call}
use Rattle.far_keep.specs.Names.{is_same}

-- the place of a name is one of those of the far sources
place_within : (fars : List MemFar) (far : FarSource) (i : ℕ) → Some i ≡ place_of fars far → i < length fars
place_within [] far i place = absurd (cc place)
place_within (m ∷ fars) far i place = (position-Some (λ (f : MemFar). is_same f.far far) (m ∷ fars) i m (sym place)).0

-- the far source at the place of a name is the one that the name is of
pub listed_at : (fars : List MemFar) (far : FarSource) (i : ℕ) (m : MemFar) → Some i ≡ place_of fars far → m ≡ get_or fars i m → listed fars far ≡ Some m
listed_at fars far i m place is =
    ap (λ (o : Option ℕ). option_and_then (slice_get fars) o) (sym place)
    ∙ slice_get_read fars (length fars) i m refl (place_within fars far i place) is

-- of far sources that are small the one at the place of a name is small
pub small_at : (fars : List MemFar) (far : FarSource) (i : ℕ) (m : MemFar) → Some i ≡ place_of fars far → m ≡ get_or fars i m → list_all is_small fars ≡ true → is_small m ≡ true
small_at fars far i m place is small =
    ap is_small is ∙ AllPass-from_list_all is_small fars small i m (place_within fars far i place)

-- the whole document of a far source that is small is a small list
pub list_small : (m : MemFar) → is_small m ≡ true → IsSmall (without_holes (alone m.document))
list_small m small = small_root m.document (and_parts (fits_wire m.document) _ small).0

-- the number of a fill that counts one more at the place of a name is that of the next fill
pub call_at : (m : MemFars) (far : FarSource) (i before more call : ℕ) → Some i ≡ place_of (fars_of m) far → before ≡ get_or m.calls.items i before → more ≡ min (before + 1) (2 ^ 64 - 1)
    → call ≡ get_or (set m.calls.items i more) i call → call ≡ next_call m far
call_at m far i before more call place read one written =
    let within : i < length m.calls.items = omega (arith, m.called, place_within (fars_of m) far i place) in
    written ∙ get_or-set_same m.calls.items i more call within ∙ one
    ∙ ap (λ n. min (n + 1) (2 ^ 64 - 1)) (read ∙ get_or_default m.calls.items i before 0 within ∙ ap (count_at m.calls.items m.unlisted) place)
