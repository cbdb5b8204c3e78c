-- What a source of a kind is: a file that is read whole, a table, a source of another machine, or a view.
use Rattle.std.proofs.Common.{◌≡◌, ◌⊎◌, inl, inr, true, false, Some, None, refl}
use Rattle.far_keep.specs.declared.far_source.FarSource.{FarSource}
use Rattle.mix_catalog.specs.declared.source.SourceKind.{SourceKind}
use Rattle.mix_catalog.specs.declared.source.SourceKind.TheVariants.{Bracket, Csv, Table, Remote, Json, View}
use Rattle.mix_catalog.specs.Grammar.{is_view}
use Rattle.table_keep.specs.Views.{Declared}
use Rattle.table_wrap.specs.Document.{declared_in}
use Rattle.mix_place.specs.Documents.{far_in, is_file_of}

-- a source of each kind is a file that is read whole, a table, a source of another machine, or a view
abbrev pub IsOneOf : SourceKind → Type 0
IsOneOf kind = (is_file_of kind ≡ true) ⊎ (((d : Declared) × (declared_in kind ≡ Some d)) ⊎ (((far : FarSource) × (far_in kind ≡ Some far)) ⊎ (is_view kind ≡ true)))

-- each kind is one of the four
pub each_is_one : (kind : SourceKind) → IsOneOf kind
each_is_one (Bracket file deep) = inl refl
each_is_one (Csv file columns) = inl refl
each_is_one (Table file table key columns) = inr (inl (record { file = file; table = table; key = key; columns = columns }, refl))
each_is_one (Remote replies requests number) = inr (inr (inl (record { replies = replies; requests = requests; number = number }, refl)))
each_is_one (Json file) = inl refl
each_is_one (View file) = inr (inr (inr refl))

-- a file that is read whole declares no table and is at no other machine
pub file_is_apart : (kind : SourceKind) → is_file_of kind ≡ true → (declared_in kind ≡ None) × (far_in kind ≡ None)
file_is_apart (Bracket file deep) h = (refl, refl)
file_is_apart (Csv file columns) h = (refl, refl)
file_is_apart (Table file table key columns) h = absurd (let z : false ≡ true = h in cc)
file_is_apart (Remote replies requests number) h = absurd (let z : false ≡ true = h in cc)
file_is_apart (Json file) h = (refl, refl)
file_is_apart (View file) h = absurd (let z : false ≡ true = h in cc)

-- a table is no file that is read whole, and is at no other machine
pub table_is_apart : (kind : SourceKind) (d : Declared) → declared_in kind ≡ Some d → (is_file_of kind ≡ true → ⊥) × (far_in kind ≡ None)
table_is_apart (Bracket file deep) d h = absurd (let z : None ≡ Some d = h in cc)
table_is_apart (Csv file columns) d h = absurd (let z : None ≡ Some d = h in cc)
table_is_apart (Table file table key columns) d h = (λ e. (let z : false ≡ true = e in cc), refl)
table_is_apart (Remote replies requests number) d h = absurd (let z : None ≡ Some d = h in cc)
table_is_apart (Json file) d h = absurd (let z : None ≡ Some d = h in cc)
table_is_apart (View file) d h = absurd (let z : None ≡ Some d = h in cc)

-- a source of another machine is no file that is read whole, and declares no table
pub far_is_apart : (kind : SourceKind) (far : FarSource) → far_in kind ≡ Some far → (is_file_of kind ≡ true → ⊥) × (declared_in kind ≡ None)
far_is_apart (Bracket file deep) far h = absurd (let z : None ≡ Some far = h in cc)
far_is_apart (Csv file columns) far h = absurd (let z : None ≡ Some far = h in cc)
far_is_apart (Table file table key columns) far h = absurd (let z : None ≡ Some far = h in cc)
far_is_apart (Remote replies requests number) far h = (λ e. (let z : false ≡ true = e in cc), refl)
far_is_apart (Json file) far h = absurd (let z : None ≡ Some far = h in cc)
far_is_apart (View file) far h = absurd (let z : None ≡ Some far = h in cc)

-- a view declares no table and is at no other machine
pub view_is_apart : (kind : SourceKind) → is_view kind ≡ true → (declared_in kind ≡ None) × (far_in kind ≡ None)
view_is_apart (Bracket file deep) h = absurd (let z : false ≡ true = h in cc)
view_is_apart (Csv file columns) h = absurd (let z : false ≡ true = h in cc)
view_is_apart (Table file table key columns) h = absurd (let z : false ≡ true = h in cc)
view_is_apart (Remote replies requests number) h = absurd (let z : false ≡ true = h in cc)
view_is_apart (Json file) h = absurd (let z : false ≡ true = h in cc)
view_is_apart (View file) h = (refl, refl)
