-- What keeps the lists of a table's document small enough for a wire.
use Rattle.std.specs.Prelude.{ℕ, ◌^◌, ◌&&◌, Bool, List, [], ◌∷◌, length, nat_lt, FitsSigned}
use Rattle.std.specs.Int.{w64}
use Rattle.std.specs.List.{list_all}
use Rattle.mix_catalog.specs.declared.column.Column.{Column}
use Rattle.table_keep.specs.Rows.{Value, null, int, text, bytes}

-- whether a name is shorter than 2^32 bytes
abbrev pub is_short : List ℕ → Bool
is_short name = nat_lt (length name) (2 ^ 32)

-- whether a source's name and the names of its columns are shorter than 2^32 bytes, and the columns fewer than 2^32
abbrev pub fits_wire : List ℕ → List Column → Bool
fits_wire name columns = is_short name && (nat_lt (length columns) (2 ^ 32) && list_all (λ c. is_short c.name) columns)

-- a value is one of 64 bits, where it is a number
abbrev pub IsInRange : Value → Type 0
IsInRange null = Unit {0}
IsInRange (int n) = FitsSigned w64 n
IsInRange (text t) = Unit {0}
IsInRange (bytes b) = Unit {0}

-- each number that a row has in its columns is one of 64 bits
abbrev pub AreInRange : List Column → List Value → Type 0
AreInRange [] values = Unit {0}
AreInRange (c ∷ cs) [] = Unit {0}
AreInRange (c ∷ cs) (v ∷ vs) = IsInRange v × AreInRange cs vs
