-- What fills ask of tables: no more rows than the mounts say.
use Rattle.std.proofs.Common.{◌≡◌, ◌⊎◌, inl, inr, ℕ, zero, suc, ◌+◌, ◌*◌, ◌-◌, ◌^◌, ◌≤◌, List, [], ◌∷◌, arith}
use Rattle.std.proofs.lemmas.Bool.{cases_lt}
use Rattle.std.proofs.lemmas.Nat.{row_fits}
use Rattle.mix_base.specs.Counts.{HasRisen}
use Rattle.table_keep.specs.Views.{KeepsTables}
use Rattle.source_document.specs.Meaning.{IsPaged}
use Rattle.mix_mount.specs.declared.mount.Mount.{Mount}
use Rattle.mix_mount.specs.Mounts.{CameFrom, Mounting, most_rows, mount_at, rows_of_fill}

-- no fill of a mount asks for more rows than a fill of any of them does at most
pub most_at : (docs : List Mount) (s : ℕ) → rows_of_fill (mount_at docs s) ≤ most_rows docs
most_at [] s = omega arith
most_at (m ∷ docs) zero = omega arith
most_at (m ∷ docs) (suc s) = omega (arith, most_at docs s)

-- where a fill is counted, or the count of fills stands at its end, what it asks for is no more than one fill asks for at most
pub few_rows : (most rows rows' fills fills' : ℕ) → rows' ≤ rows + most → HasRisen fills fills' → (rows' + fills * most ≤ rows + fills' * most) ⊎ (2 ^ 64 - 1 ≤ fills')
few_rows most rows rows' fills fills' h rose =
    elim (cases_lt fills fills') [
      | inl more ↦ inl (omega (arith, h, row_fits fills most fills' most more (omega arith)))
      | inr ended ↦ inr (omega (arith, rose, ended))
    ]

-- where a fill is counted, or the count of fills stands at its end, one page is no more than the fills
pub few_pages : (pages pages' fills fills' : ℕ) → pages' ≤ pages + 1 → HasRisen fills fills' → (pages' + fills ≤ pages + fills') ⊎ (2 ^ 64 - 1 ≤ fills')
few_pages pages pages' fills fills' h rose =
    elim (cases_lt fills fills') [
      | inl more ↦ inl (omega (arith, h, more))
      | inr ended ↦ inr (omega (arith, rose, ended))
    ]

-- a state came from another by a fill that is counted, asks at most one page, and no more rows than its mount says
pub came_by_fill : (a b : Mounting) (s : ℕ) → b.docs ≡ a.docs → KeepsTables a.tables b.tables → a.fills ≤ b.fills → HasRisen a.fills b.fills → IsPaged (rows_of_fill (mount_at a.docs s)) a.tables b.tables → CameFrom a b
came_by_fill a b s docs keeps fills rose paged = record {
  docs = docs;
  tables = keeps;
  fills = fills;
  pages = few_pages a.tables.pages b.tables.pages a.fills b.fills paged.at_most_one rose;
  rows = few_rows (most_rows a.docs) a.tables.rows b.tables.rows a.fills b.fills (omega (arith, paged.at_most_rows, most_at a.docs s)) rose;
}
