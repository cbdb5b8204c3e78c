-- Rows by rising key: their prefixes, those above a key, and what stands after these.
use Rattle.std.proofs.Common.{◌≡◌, ℕ, zero, suc, ℤ, Bool, true, false, cond, List, [], ◌∷◌, Option, Some, None, refl, arith, take, int_lt}
use Rattle.std.proofs.lemmas.Int.{ints}
use Rattle.std.specs.List.{AllByRecursion, filter}
use Rattle.mix_base.proofs.Choices.{and_both, and_parts}
use Rattle.mix_base.proofs.Firsts.{each_passes}
use Rattle.table_keep.specs.Page.{first_above, is_above, keys_rise}
use Rattle.table_keep.specs.Rows.{Row}

-- what stands above a higher key stands above this one
pub above_more : (after : Option ℤ) (a b : ℤ) → is_above after a ≡ true → int_lt a b ≡ true → is_above after b ≡ true
above_more None a b h k = refl
above_more (Some z) a b h k = grind (arith, ints)

-- rows that rise from a higher key rise from this one
pub rise_lower : (after : Option ℤ) (key : ℤ) (rows : List Row) → is_above after key ≡ true → keys_rise (Some key) rows ≡ true → keys_rise after rows ≡ true
rise_lower after key [] h k = refl
rise_lower after key (r ∷ rows) h k =
    let parts = and_parts (int_lt key r.key) (keys_rise (Some r.key) rows) k in
    and_both (is_above after r.key) (keys_rise (Some r.key) rows) (above_more after key r.key h parts.0) parts.1

-- rows that rise from a key on stand above it
pub rise_above : (after : Option ℤ) (rows : List Row) → keys_rise after rows ≡ true → AllByRecursion (λ r. is_above after r.key ≡ true) rows
rise_above after [] h = tt
rise_above after (r ∷ rows) h =
    let parts = and_parts (is_above after r.key) (keys_rise (Some r.key) rows) h in
    (parts.0, rise_above after rows (rise_lower after r.key rows parts.0 parts.1))

-- rows that rise, and stand above a key, rise from it on
pub rise_from : (from after : Option ℤ) (rows : List Row) → keys_rise from rows ≡ true → AllByRecursion (λ r. is_above after r.key ≡ true) rows → keys_rise after rows ≡ true
rise_from from after [] h k = refl
rise_from from after (r ∷ rows) h k =
    and_both (is_above after r.key) (keys_rise (Some r.key) rows) k.0 (and_parts (is_above from r.key) (keys_rise (Some r.key) rows) h).1

-- some of rows that rise do
pub rise_filter : (p : Row → Bool) (after : Option ℤ) (rows : List Row) → keys_rise after rows ≡ true → keys_rise after (filter p rows) ≡ true
rise_filter p after [] h = refl
rise_filter p after (r ∷ rows) h =
    let parts = and_parts (is_above after r.key) (keys_rise (Some r.key) rows) h in
    let later = rise_filter p (Some r.key) rows parts.1 in
    elim (p r) as (λ b. keys_rise after (cond b (r ∷ filter p rows) (filter p rows)) ≡ true) [
      | true ↦ and_both (is_above after r.key) (keys_rise (Some r.key) (filter p rows)) parts.0 later
      | false ↦ rise_lower after r.key (filter p rows) parts.0 later
    ]

-- where the keys of rows rise, those of the first rows do too
pub rise_take : (n : ℕ) (after : Option ℤ) (rows : List Row) → keys_rise after rows ≡ true → keys_rise after (take n rows) ≡ true
rise_take zero after rows h = refl
rise_take (suc n) after [] h = refl
rise_take (suc n) after (r ∷ rows) h =
    let parts = and_parts (is_above after r.key) (keys_rise (Some r.key) rows) h in
    and_both (is_above after r.key) (keys_rise (Some r.key) (take n rows)) parts.0 (rise_take n (Some r.key) rows parts.1)

-- the first rows above a key rise from it on
pub first_above_rises : (after : Option ℤ) (limit : ℕ) (rows : List Row) → keys_rise None rows ≡ true → keys_rise after (first_above after limit rows) ≡ true
first_above_rises after limit rows h =
    let p : Row → Bool = λ r. is_above after r.key in
    rise_take limit after (filter p rows) (rise_from None after (filter p rows) (rise_filter p None rows h) (each_passes p rows))
