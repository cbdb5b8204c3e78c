-- What the names of each client hold.
use Rattle.std.specs.Prelude.{◌≡◌, ℕ, cond, ◌&&◌, List, [], ◌∷◌, Option, Some, None, option_and_then}
use Rattle.std.specs.Str.{bytes_eq}
use Rattle.std.specs.Ordering.{nat_cmp}
use Rattle.std.specs.Cmp.Lexicographic.{slice_cmp}
use Rattle.std.specs.BTreeMap.{BTreeMap, get}
use Rattle.mix_script.specs.declared.names.Names.{Names}

-- what is held, by client and name
abbrev pub NamesOf : Type 0 → Type 0
NamesOf V = List ℕ → List ℕ → Option V

-- names of which none holds anything
abbrev pub no_names : {V : Type 0} → NamesOf V
no_names client name = None

-- one name of one client holds this, and the others what they held
abbrev pub with_name : {V : Type 0} → NamesOf V → List ℕ → List ℕ → Option V → NamesOf V
with_name names client name value c n = cond (bytes_eq client c && bytes_eq name n) value (names c n)

-- the names of a client: those of the one without a name stand apart
abbrev pub own_of : {V : Type 0} → Names V → List ℕ → Option (BTreeMap (List ℕ) V)
own_of names [] = Some names.plain
own_of names (b ∷ bs) = get (slice_cmp nat_cmp) names.clients (b ∷ bs)

-- what a client's name holds
abbrev pub held : {V : Type 0} → Names V → NamesOf V
held names client name = option_and_then (λ own. get (slice_cmp nat_cmp) own name) (own_of names client)

-- among one client's names, a given one holds a value after a change, or none, and the others what they held
abbrev pub HasNamed : {V : Type 0} → BTreeMap (List ℕ) V → BTreeMap (List ℕ) V → List ℕ → Option V → Type 0
HasNamed before after name value = (q : List ℕ) → get (slice_cmp nat_cmp) after q ≡ cond (bytes_eq name q) value (get (slice_cmp nat_cmp) before q)
