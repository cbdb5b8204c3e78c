-- The name of a source, from the path of its file.
use Rattle.std.specs.Prelude.{ℕ, ◌-◌, cond, ◌==◌, List, [], ◌∷◌, length, get_or, map, codes}
use Rattle.std.specs.List.{slice_split}
use Rattle.mix_tree.specs.Names.{is_name_byte}

-- what stands after the last slash of a path
abbrev pub file_name : List ℕ → List ℕ
file_name path = get_or (slice_split (λ b. b == 47) path) (length (slice_split (λ b. b == 47) path) - 1) []

-- what stands before the first dot of a file's name
abbrev pub stem : List ℕ → List ℕ
stem name = get_or (slice_split (λ b. b == 46) name) 0 []

-- a byte of a source's name for one of a file's name: the same where a source's name may have it, else _
abbrev pub fit : ℕ → ℕ
fit b = cond (is_name_byte b) b 95

-- a name, or `source` in place of one that has no byte
abbrev pub or_source : List ℕ → List ℕ
or_source [] = codes "source"
or_source (b ∷ bs) = b ∷ bs

-- the name of the source that the file at a path is to be
abbrev pub source_name : List ℕ → List ℕ
source_name path = or_source (map fit (stem (file_name path)))
