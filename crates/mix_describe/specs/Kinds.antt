-- What a file is by the bytes with which it begins.
use Rattle.std.specs.Prelude.{◌≡◌, ℕ, Bool, true, false, List, [], ◌∷◌, ◌++◌, IfSome, codes, nat_eq}
use Rattle.std.specs.List.{starts_with}
use Rattle.mix_io.specs.Views.{FilesView}
use Rattle.mix_place.specs.Causes.{IsRead}
use Rattle.mix_describe.specs.declared.reading.Content.{Content}
use Rattle.mix_describe.specs.declared.reading.Content.TheVariants.{Database, Text}

-- whether contents begin as those of a database of SQLite do
abbrev pub begins_as_database : List ℕ → Bool
begins_as_database contents = starts_with nat_eq contents (codes "SQLite format 3" ++ 0 ∷ [])

-- a file begins as a database does or doesn't, where its contents are told
abbrev pub IsDatabase : FilesView → List ℕ → Bool → Type 0
IsDatabase files path is = IfSome (files.told path) (λ contents. begins_as_database contents ≡ is)

-- what is known of a file after it was read: all its bytes, which don't begin as a database does; or it begins so
abbrev pub IsContent : FilesView → List ℕ → Content → Type 0
IsContent files path (Text bytes) = IsRead files path bytes.items × (begins_as_database bytes.items ≡ false)
IsContent files path Database = IsDatabase files path true
