-- That the rows that tables in memory tell go by rising key.
use Rattle.std.specs.Prelude.{◌≡◌, ◌&&◌, ℕ, ℤ, true, false, List, [], ◌∷◌, map, Option, Some, None, option_map, option_and_then, if◌then◌else◌, cond, refl}
use Rattle.std.proofs.Common.{◌∙◌, ap, subst}
use Rattle.std.specs.List.{find, list_all}
use Rattle.std.specs.Str.{bytes_eq}
use Rattle.mix_base.proofs.Choices.{and_parts}
use Rattle.mix_catalog.specs.declared.column.Column.{Column}
use Rattle.table_keep.specs.declared.mem_table.MemTable.{MemTable}
use Rattle.table_keep.specs.declared.mem_tables.MemTables.{MemTables}
use Rattle.table_keep.specs.Memory.{mem_tables_view}
use Rattle.table_keep.specs.Table.{is_at, is_sound, places_of, projected, rows_by, rows_told}
use Rattle.table_keep.specs.Page.{is_above, keys_rise}
use Rattle.table_keep.specs.Rows.{Row, rows_of}
use Rattle.table_keep.specs.Views.{Declared}

-- rows of which only some values are kept have the same keys, which rise as before
pub projected_rise : (places : List ℕ) (after : Option ℤ) (rows : List Row) → keys_rise after (map (projected places) rows) ≡ keys_rise after rows
projected_rise places after [] = refl
projected_rise places after (r ∷ rows) = ap (λ b. is_above after r.key && b) (projected_rise places (Some r.key) rows)

-- where rows are told, their keys rise
abbrev pub Rises : Option (List Row) → Type 0
Rises None = Unit {0}
Rises (Some rows) = keys_rise None rows ≡ true

-- the rows that a sound table gives by a key go by rising key
pub by_rise : (t : MemTable) (key : List ℕ) (columns : List Column) → is_sound t ≡ true → Rises (rows_by t key columns)
by_rise t key columns sound =
    elim (bytes_eq t.key key) as (λ b. Rises (if b then option_map (λ (places : List ℕ). map (projected places) (rows_of t.rows.items)) (places_of t.columns.items columns) else None)) [
      | false ↦ tt
      | true ↦ elim (places_of t.columns.items columns) as (λ found. Rises (option_map (λ (places : List ℕ). map (projected places) (rows_of t.rows.items)) found)) [
        | None ↦ tt
        | Some places ↦ projected_rise places None (rows_of t.rows.items) ∙ (and_parts (keys_rise None (rows_of t.rows.items)) _ sound).0
      ]
    ]

-- the rows of a declared table that sound tables in memory tell go by rising key
pub first_rise : (tables : List MemTable) (d : Declared) → list_all is_sound tables ≡ true → Rises (rows_told tables d)
first_rise [] d sound = tt
first_rise (t ∷ tables) d sound =
    let parts = and_parts (is_sound t) (list_all is_sound tables) sound in
    elim (is_at d.file d.table t) as (λ b. Rises (option_and_then (λ (u : MemTable). rows_by u d.key d.columns) (cond b (Some t) (find (is_at d.file d.table) tables))))
    [ true ↦ by_rise t d.key d.columns parts.0 | false ↦ first_rise tables d parts.1 ]

-- the rows that tables in memory tell go by rising key
pub told_rise : (a : MemTables) (d : Declared) (rows : List Row) → (mem_tables_view a).told d ≡ Some rows → keys_rise None rows ≡ true
told_rise a d rows e = subst Rises e (first_rise a.tables.items d a.sound)
