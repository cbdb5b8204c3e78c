-- Laws of levels: which bindings are the first of those that agree by some keys.
use Rattle.std.proofs.Common.{◌≡◌, ℕ, true, false, cond, List, [], ◌∷◌, ◌++◌, refl, sym, ap, subst, ◌∙◌, arith, length, take}
use Rattle.std.specs.Prelude.{Bool, ◌&&◌, ◌||◌, ◌==◌}
use Rattle.std.specs.List.{list_any}
use Rattle.std.proofs.lemmas.Bool.Decides.{nat_tests}
use Rattle.mix_base.specs.Events.{skip, bind}
use Rattle.mix_tree.specs.Keys.{key_var, has_var, gives}
use Rattle.mix_tree.specs.Nodes.{Documents}
use Rattle.mix_tree.specs.declared.var.Key.{Key}
use Rattle.mix_tree.specs.declared.var.Key.TheVariants.{Node as node_key, LabelOf as label_key}
use Rattle.plan_core.specs.Beside.{EachBinding, AreApart}
use Rattle.plan_core.specs.Events.{RowEvents, each_row, distinct}
use Rattle.plan_core.specs.Fronts.{node_keys, shared, covers, are_contiguous}
use Rattle.plan_core.specs.TolledRows.{TolledRow, KeyValue, key_values, is_seen, row_node, tolled_value}
use Rattle.plan_core.proofs.Aparts.{distinct_is, covered_apart}
use Rattle.plan_core.proofs.KeyValues.{values_alike, covered_same, covers_shared, take_length}
use Rattle.browse_profile.specs.declared.profile.Profile.{Profile}
use Rattle.browse_profile.specs.Costs.{stop, more, costs_of}
use Rattle.browse_profile.specs.Fits.{Fits}
use Rattle.browse_profile.specs.Profiles.{many, unbounded, once}
use Rattle.browse_profile.proofs.Fitting.{fits_unbounded, fits_once}
use Rattle.browse_class.specs.Levels.{own_level}
use Rattle.browse_class.proofs.Alone.{apart_once, costs-distinct}
use Rattle.browse_class.proofs.FirstKeys.{costs-first, costs-coarser}

-- level 0 of events is the profile of their first binding alone
pub level_zero : (docs : Documents) (p : Profile) (es : RowEvents) (make : TolledRow → RowEvents → TolledRow) → Fits p (costs_of es) → Fits (once p) (costs_of (distinct docs [] make [] es))
level_zero docs p es make h = subst (Fits (once p)) (sym (costs-first docs make es)) (fits_once p es h)

-- events of one binding at most are, by any keys, as the level that is the profile itself says
pub level_own : (docs : Documents) (keys : List Key) (p : Profile) (es : RowEvents) (make : TolledRow → RowEvents → TolledRow) → Fits p (costs_of es) → Fits (own_level p) (costs_of (distinct docs keys make [] es))
level_own docs keys p es make h =
    (elim (many p.most) as (λ w. many p.most ≡ w → Fits (cond w unbounded p) (costs_of (distinct docs keys make [] es))) [
      | true ↦ λ e. fits_unbounded (costs_of (distinct docs keys make [] es))
      | false ↦ λ e. subst (Fits p) (sym (costs-distinct docs keys make es (apart_once docs keys p e es h.0))) h
    ]) refl

-- bindings made anew with the same keys cost, as first bindings by these, what the bindings cost
level_each : (docs : Documents) (keys : List Key) (P : TolledRow → Type 0) (f : TolledRow → TolledRow) → ((row : TolledRow) → P row → key_values docs keys (f row) ≡ key_values docs keys row) → (make other : TolledRow → RowEvents → TolledRow)
    → (seen : List (List KeyValue)) (es : RowEvents) → EachBinding P es → costs_of (distinct docs keys make seen (each_row f es)) ≡ costs_of (distinct docs keys other seen es)
level_each docs keys P f same make other seen [] b = refl
level_each docs keys P f same make other seen (skip ∷ es) b = ap (more 1) (level_each docs keys P f same make other seen es b)
level_each docs keys P f same make other seen (bind row ∷ es) b =
    let rest : RowEvents = each_row f es in
    let old = level_each docs keys P f same make other seen es b.1 in
    let new = level_each docs keys P f same make other (seen ++ key_values docs keys row ∷ []) es b.1 in
    ap (λ (z : List KeyValue). costs_of (cond (is_seen z seen) (skip ∷ distinct docs keys make seen rest) (bind (make (f row) rest) ∷ distinct docs keys make (seen ++ z ∷ []) rest))) (same row b.0)
    ∙ elim (is_seen (key_values docs keys row) seen)
    as (λ w. costs_of (cond w (skip ∷ distinct docs keys make seen rest) (bind (make (f row) rest) ∷ distinct docs keys make (seen ++ key_values docs keys row ∷ []) rest))
    ≡ costs_of (cond w (skip ∷ distinct docs keys other seen es) (bind (other row es) ∷ distinct docs keys other (seen ++ key_values docs keys row ∷ []) es))) [
      | true ↦ ap (more 1) old
      | false ↦ ap (stop 1) new
    ]

-- a change of bindings that leaves their key values leaves what the first ones by keys cost
pub level_each_row : (docs : Documents) (keys : List Key) (P : TolledRow → Type 0) (f : TolledRow → TolledRow) → ((row : TolledRow) → P row → key_values docs keys (f row) ≡ key_values docs keys row) → (make : TolledRow → RowEvents → TolledRow)
    → (es : RowEvents) → EachBinding P es → costs_of (distinct docs keys make [] (each_row f es)) ≡ costs_of (distinct docs keys make [] es)
level_each_row docs keys P f same make es b = level_each docs keys P f same make make [] es b

-- the prefix of two lists that is as long as the first is the first
pub take_whole : (xs more : List ℕ) → take (length xs) (xs ++ more) ≡ xs
take_whole [] more = refl
take_whole (x ∷ xs) more = ap (λ (z : List ℕ). x ∷ z) (take_whole xs more)

-- a variable of what is covered is one of the keys
gives_var : (f k : Key) → gives f k ≡ true → key_var f ≡ key_var k
gives_var (node_key w) k h = grind (arith, nat_tests, h)
gives_var (label_key w) (node_key v) h = cc
gives_var (label_key w) (label_key v) h = grind (arith, nat_tests, h)

-- a variable of a key that one of some keys gives is the variable of one of them
any_var : (keys : List Key) (k : Key) → list_any (λ f. gives f k) keys ≡ true → has_var keys (key_var k) ≡ true
any_var [] k h = h
any_var (f ∷ keys) k h =
    (elim (gives f k) as (λ w. gives f k ≡ w → (w || list_any (λ f. gives f k) keys) ≡ true → ((key_var f == key_var k) || has_var keys (key_var k)) ≡ true) [
      | true ↦ λ e g. (let s = gives_var f k e in let z : (key_var f == key_var k) ≡ true = grind (arith, nat_tests, s) in rw z refl)
      | false ↦ λ e g. (let z = any_var keys k g in elim (key_var f == key_var k) as (λ w. (w || has_var keys (key_var k)) ≡ true) [ true ↦ refl | false ↦ z ])
    ]) refl h

-- where two tests hold together, the first holds
and_left : (a b : Bool) → (a && b) ≡ true → a ≡ true
and_left true b h = refl
and_left false b h = h

-- where two tests hold together, the second holds
and_right : (a b : Bool) → (a && b) ≡ true → b ≡ true
and_right true b h = h
and_right false b h = cc

-- keys that cover others have each of their variables
pub covered_var : (keys others : List Key) (v : ℕ) → covers keys others ≡ true → has_var others v ≡ true → has_var keys v ≡ true
covered_var keys [] v c h = cc
covered_var keys (k ∷ others) v c h =
    (elim (key_var k == v) as (λ w. (key_var k == v) ≡ w → (w || has_var others v) ≡ true → has_var keys v ≡ true) [
      | true ↦ λ e g. (let s : key_var k ≡ v = grind (arith, nat_tests, e) in subst (λ (z : ℕ). has_var keys z ≡ true) s (any_var keys k (and_left (list_any (λ f. gives f k) keys) (covers keys others) c)))
      | false ↦ λ e g. covered_var keys others v (and_right (list_any (λ f. gives f k) keys) (covers keys others) c) g
    ]) refl h

-- documents, and bindings that are kept by keys, by a front that these share
module _ (docs : Documents) (keys : List Key) (front : List ℕ) (made : TolledRow → RowEvents → TolledRow) (values : (row : TolledRow) (es : RowEvents) (v : ℕ) → has_var keys v ≡ true → tolled_value (made row es) v ≡ tolled_value row v) where
  -- the node keys of the first variables of the front
  abbrev part : ℕ → List Key
  part j = node_keys (take j (shared keys front))

  -- a binding made anew has the same values by a part of the front
  pub part_same : (j : ℕ) (row : TolledRow) (es : RowEvents) → key_values docs (part j) (made row es) ≡ key_values docs (part j) row
  part_same j row es = values_alike docs (part j) (made row es) row (λ v h. values row es v (covered_var keys (part j) v (covers_shared keys front j) h))

  -- the first bindings by a part of the front, of those kept by the keys, cost what the first of all by it cost
  pub costs-part : (j : ℕ) (make : TolledRow → RowEvents → TolledRow) (es : RowEvents) → costs_of (distinct docs (part j) make [] (distinct docs keys made [] es)) ≡ costs_of (distinct docs (part j) make [] es)
  costs-part j make es = costs-coarser docs (part j) keys make made (λ a b h. covered_same docs keys (part j) (row_node a) (row_node b) (covers_shared keys front j) h) (part_same j) es

  -- a binding made anew has the same values by the keys
  keys_same : (row : TolledRow) (es : RowEvents) → key_values docs keys (made row es) ≡ key_values docs keys row
  keys_same row es = values_alike docs keys (made row es) row (λ v h. values row es v h)

  -- of bindings kept by keys no two agree by them
  pub kept_apart : (es : RowEvents) → AreApart docs keys (distinct docs keys made [] es)
  kept_apart es = (distinct_is docs keys made keys_same [] es).apart

  -- where equal keys stand side by side, keys keep what the front keeps
  pub costs-contiguous : are_contiguous keys front ≡ true → (make : TolledRow → RowEvents → TolledRow) (es : RowEvents) → costs_of (distinct docs keys made [] es) ≡ costs_of (distinct docs (node_keys (shared keys front)) make [] es)
  costs-contiguous c make es =
      let whole : take (length (shared keys front)) (shared keys front) ≡ shared keys front = take_length (shared keys front) in
      let law = costs-part (length (shared keys front)) make es in
      let same : costs_of (distinct docs (node_keys (shared keys front)) make [] (distinct docs keys made [] es)) ≡ costs_of (distinct docs (node_keys (shared keys front)) make [] es) =
      subst (λ (vs : List ℕ). costs_of (distinct docs (node_keys vs) make [] (distinct docs keys made [] es)) ≡ costs_of (distinct docs (node_keys vs) make [] es)) whole law in
      sym (costs-distinct docs (node_keys (shared keys front)) make (distinct docs keys made [] es) (covered_apart docs (node_keys (shared keys front)) keys c (distinct docs keys made [] es) (kept_apart es))) ∙ same
