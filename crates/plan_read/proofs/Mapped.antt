-- The kinds of a scope that takes in another one.
use Rattle.std.proofs.Common.{◌≡◌, ◌∙◌, ℕ, Option, Some, None, refl, ap, option_map}
use Rattle.std.specs.BTreeMap.{BTreeMap, get, IsOrdered}
use Rattle.std.specs.Map.{keys_of, lookup, update_all}
use Rattle.std.specs.Option.{option_or}
use Rattle.std.specs.Ordering.{nat_cmp, eq_by_cmp}
use Rattle.std.proofs.lemmas.Cmp.{nat_cmp_total, eq_by_cmp_equiv}
use Rattle.std.proofs.lemmas.Map.Keys.{IsDistinct-from_sorted}
use Rattle.std.proofs.lemmas.Map.Made.{update_all_distinct}
use Rattle.plan_core.specs.Valid.{either_kind}
use Rattle.plan_read.specs.Scopes.{kind_of}
use Rattle.plan_read.specs.declared.scope.Bound.{Bound}

-- the kind of the first of two bounds, or else the second, is the first kind, or else the second
mapped_or : (a b : Option Bound) → option_map kind_of (option_or a b) ≡ either_kind (option_map kind_of a) (option_map kind_of b)
mapped_or None b = refl
mapped_or (Some a) b = refl

-- a map into which another one's entries were put has the other one's values first
pub entries_first : (m first new : BTreeMap ℕ Bound) (v : ℕ) → get nat_cmp new v ≡ update_all (eq_by_cmp nat_cmp) (get nat_cmp m) first.entries v → IsOrdered nat_cmp first
    → option_map kind_of (get nat_cmp new v) ≡ either_kind (option_map kind_of (get nat_cmp first v)) (option_map kind_of (get nat_cmp m v))
entries_first m first new v e o =
    ap (option_map kind_of)
    (e ∙ update_all_distinct (eq_by_cmp_equiv nat_cmp_total) (eq_by_cmp nat_cmp) (λ x y. refl) (get nat_cmp m) first.entries v (IsDistinct-from_sorted nat_cmp (keys_of first.entries) o))
    ∙ mapped_or (lookup (eq_by_cmp nat_cmp v) first.entries) (get nat_cmp m v)
