-- What the values of variables can be, as a map of them has it.
use Rattle.std.specs.Prelude.{◌≡◌, ℕ, cond, List, [], ◌∷◌, Option, Some, None}
use Rattle.std.specs.BTreeMap.{get}
use Rattle.std.specs.Ordering.{nat_cmp}
use Rattle.browse_class.specs.Facts.{one_item}
use Rattle.plan_class.specs.Known.{Known, binds, value_domain}
use Rattle.plan_class.specs.declared.domain.Domain.{Domain}
use Rattle.plan_class.specs.declared.domains.Domains.{Domains}

-- the domain that was found, or that of values of which nothing was found
abbrev pub found_or_value : Option Domain → Domain
found_or_value None = value_domain one_item
found_or_value (Some d) = d

-- what the values of a variable can be, by the map
abbrev pub domain_in : Domains → ℕ → Domain
domain_in ds v = found_or_value (get nat_cmp ds.vars v)

-- the domain of the first operator that binds a variable anew, if one does
abbrev pub found_in : List Known → ℕ → Option Domain
found_in [] v = None
found_in (k ∷ known) v = cond (binds k.out v) (Some k.domain) (found_in known v)

-- the map has what these operators bind anew
abbrev pub AreDomains : Domains → List Known → Type 0
AreDomains ds known = (v : ℕ) → get nat_cmp ds.vars v ≡ found_in known v
