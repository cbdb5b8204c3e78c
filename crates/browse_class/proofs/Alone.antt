-- Events with one binding at most, and those of which no two bindings agree.
use Rattle.std.proofs.Common.{◌≡◌, false, List, [], ◌∷◌, ◌++◌, refl, ap, ◌∙◌}
use Rattle.std.proofs.lemmas.List.Folds.{list_any-append}
use Rattle.mix_base.specs.Events.{skip, bind}
use Rattle.mix_tree.specs.Nodes.{Documents}
use Rattle.mix_tree.specs.declared.var.Key.{Key}
use Rattle.plan_core.specs.Beside.{EachBinding, Differ, AreApart}
use Rattle.plan_core.specs.Events.{RowEvents, distinct}
use Rattle.plan_core.specs.TolledRows.{TolledRow, KeyValue, key_values, same_values, is_seen}
use Rattle.browse_profile.specs.declared.profile.Profile.{Profile}
use Rattle.browse_profile.specs.Costs.{Costs, ends, stop, more, costs_of}
use Rattle.browse_profile.specs.Fits.{FourFit}
use Rattle.browse_profile.specs.Profiles.{many}
use Rattle.browse_class.proofs.EventFits.{HasNone, no_bindings, none_after}

-- a list has at most one stop
IsAlone : Costs → Type 0
IsAlone (ends t) = Unit {0}
IsAlone (stop t c) = HasNone c

-- a list that has at most one stop with a further cost has so without it
alone_less : (c : Costs) → IsAlone (more 1 c) → IsAlone c
unfolding IsAlone
alone_less (ends t) h = tt
alone_less (stop t c) h = h

-- a list that has no stop with a further cost has none without it
none_less : (c : Costs) → HasNone (more 1 c) → HasNone c
none_less (ends t) h = tt
none_less (stop t c) h = h

-- of events without a binding no two bindings agree by any keys
none_apart : (docs : Documents) (keys : List Key) (es : RowEvents) → HasNone (costs_of es) → AreApart docs keys es
none_apart docs keys [] h = tt
none_apart docs keys (skip ∷ es) h = none_apart docs keys es (none_less (costs_of es) h)
none_apart docs keys (bind row ∷ es) h = absurd h

-- of events with one binding at most no two bindings agree by any keys
alone_apart : (docs : Documents) (keys : List Key) (es : RowEvents) → IsAlone (costs_of es) → AreApart docs keys es
unfolding IsAlone
alone_apart docs keys [] h = tt
alone_apart docs keys (skip ∷ es) h = alone_apart docs keys es (alone_less (costs_of es) h)
alone_apart docs keys (bind row ∷ es) h = (no_bindings (Differ docs keys row) es h, none_apart docs keys es h)

-- a list that is as a profile of one stop at most says has at most one stop
fits_alone : (i : Profile) → many i.most ≡ false → (c : Costs) → FourFit i c → IsAlone c
unfolding IsAlone
fits_alone i o (ends t) h = tt
fits_alone i o (stop t c) h = none_after i o c h.2

-- where there is one binding at most, no two agree by any keys
pub apart_once : (docs : Documents) (keys : List Key) (i : Profile) → many i.most ≡ false → (es : RowEvents) → FourFit i (costs_of es) → AreApart docs keys es
apart_once docs keys i o es h = alone_apart docs keys es (fits_alone i o (costs_of es) h)

-- documents and keys, by which no two bindings of events agree
module _ (docs : Documents) (keys : List Key) (make : TolledRow → RowEvents → TolledRow) where
  -- what wasn't seen, and differs from one more that was, isn't seen with that one
  unseen_more : (k x : List KeyValue) (seen : List (List KeyValue)) → is_seen k seen ≡ false → same_values x k ≡ false → is_seen k (seen ++ x ∷ []) ≡ false
  unseen_more k x seen h d = list_any-append (λ s. same_values s k) seen (x ∷ []) ∙ rw (h, d) refl

  -- where no binding's values were seen, and each differs from a row's, none's are seen with that row's
  unseen_all : (row : TolledRow) (seen : List (List KeyValue)) (es : RowEvents) → EachBinding (λ c. is_seen (key_values docs keys c) seen ≡ false) es → EachBinding (Differ docs keys row) es
      → EachBinding (λ c. is_seen (key_values docs keys c) (seen ++ key_values docs keys row ∷ []) ≡ false) es
  unseen_all row seen [] h d = tt
  unseen_all row seen (skip ∷ es) h d = unseen_all row seen es h d
  unseen_all row seen (bind b ∷ es) h d = (unseen_more (key_values docs keys b) (key_values docs keys row) seen h.0 d.0, unseen_all row seen es h.1 d.1)

  -- where no two bindings agree, and none was seen, each is kept
  all_kept : (seen : List (List KeyValue)) (es : RowEvents) → EachBinding (λ c. is_seen (key_values docs keys c) seen ≡ false) es → AreApart docs keys es
      → costs_of (distinct docs keys make seen es) ≡ costs_of es
  all_kept seen [] h d = refl
  all_kept seen (skip ∷ es) h d = ap (more 1) (all_kept seen es h d)
  all_kept seen (bind row ∷ es) h d =
      let k : is_seen (key_values docs keys row) seen ≡ false = h.0 in
      rw k (ap (stop 1) (all_kept (seen ++ key_values docs keys row ∷ []) es (unseen_all row seen es h.1 d.0) d.1))

  -- before any binding, none's values were seen
  none_seen : (es : RowEvents) → EachBinding (λ c. is_seen (key_values docs keys c) [] ≡ false) es
  none_seen [] = tt
  none_seen (skip ∷ es) = none_seen es
  none_seen (bind b ∷ es) = (refl, none_seen es)

  -- where no two bindings agree by keys, keeping the first ones by them costs what all cost
  pub costs-distinct : (es : RowEvents) → AreApart docs keys es → costs_of (distinct docs keys make [] es) ≡ costs_of es
  costs-distinct es d = all_kept [] es (none_seen es) d
