-- Of the rows that tables in memory give only NULL can be refused.
use Rattle.std.proofs.Common.{◌≡◌, ◌&&◌, ◌==◌, ℕ, zero, suc, Bool, true, false, not, cond, List, [], ◌∷◌, Option, Some, None, if◌then◌else◌, option_map, option_and_then, IfSome, refl, ap, ap₂, sym, ◌∙◌, subst, arith, length, take}
use Rattle.std.proofs.lemmas.List.{length-take}
use Rattle.std.specs.List.{filter, list_all}
use Rattle.mix_base.proofs.Choices.{and_both, and_parts, number_is, some_is}
use Rattle.mix_catalog.specs.declared.column.Column.{Column}
use Rattle.table_keep.specs.declared.page.PageAsk.{PageAsk}
use Rattle.table_keep.specs.Page.{IsPage, all_fit, cells_fit, first_above, is_above, keys_rise}
use Rattle.table_keep.specs.Rows.{Row, Value, null, int, text, bytes}
use Rattle.table_keep.specs.Table.{is_row, is_short, is_sound, keeps_null, rows_told, unless_null}
use Rattle.table_keep.specs.Told.{Rises, first_rise}
use Rattle.table_keep.specs.Views.{declared_by}
use Rattle.table_keep.specs.declared.mem_table.MemTable.{MemTable}
use Rattle.table_keep.proofs.Projections.{told_rows}
use Rattle.table_keep.proofs.Rising.{first_above_rises}

-- short values, one for each column, fit where none is NULL in a column that never is
cells_by_null : (columns : List Column) (values : List Value) → length values ≡ length columns → list_all is_short values ≡ true → cells_fit columns values ≡ keeps_null columns values
cells_by_null [] [] e h = refl
cells_by_null [] (v ∷ vs) e h = absurd (omega arith)
cells_by_null (c ∷ cs) [] e h = absurd (omega arith)
cells_by_null (c ∷ cs) (null ∷ vs) e h = ap (λ b. not c.never_null && b) (cells_by_null cs vs (omega arith) h)
cells_by_null (c ∷ cs) (int n ∷ vs) e h = cells_by_null cs vs (omega arith) h
cells_by_null (c ∷ cs) (text t ∷ vs) e h =
    let parts = and_parts (is_short (text t)) (list_all is_short vs) h in
    ap (λ b. b && cells_fit cs vs) parts.0 ∙ cells_by_null cs vs (omega arith) parts.1
cells_by_null (c ∷ cs) (bytes t ∷ vs) e h =
    let parts = and_parts (is_short (bytes t)) (list_all is_short vs) h in
    ap (λ b. b && cells_fit cs vs) parts.0 ∙ cells_by_null cs vs (omega arith) parts.1

-- rows of short values, one for each column, fit where none has NULL in a column that never is
fit_by_null : (columns : List Column) (rows : List Row) → list_all (is_row (length columns)) rows ≡ true → all_fit columns rows ≡ list_all (λ r. keeps_null columns r.values) rows
fit_by_null columns [] h = refl
fit_by_null columns (r ∷ rows) h =
    let parts = and_parts (is_row (length columns) r) (list_all (is_row (length columns)) rows) h in
    let row = and_parts (length r.values == length columns) (list_all is_short r.values) parts.0 in
    ap₂ (λ a b. a && b) (cells_by_null columns r.values (sym (number_is _ _ row.0)) row.1) (fit_by_null columns rows parts.1)

-- what all pass, those pass that a test lets through
all_filter : {X : Type 0} (p q : X → Bool) (xs : List X) → list_all p xs ≡ true → list_all p (filter q xs) ≡ true
all_filter p q [] h = refl
all_filter p q (x ∷ xs) h =
    let parts = and_parts (p x) (list_all p xs) h in
    elim (q x) as (λ b. list_all p (cond b (x ∷ filter q xs) (filter q xs)) ≡ true)
    [ true ↦ and_both (p x) (list_all p (filter q xs)) parts.0 (all_filter p q xs parts.1) | false ↦ all_filter p q xs parts.1 ]

-- what all pass, the first of them pass
all_take : {X : Type 0} (p : X → Bool) (n : ℕ) (xs : List X) → list_all p xs ≡ true → list_all p (take n xs) ≡ true
all_take p zero xs h = refl
all_take p (suc n) [] h = refl
all_take p (suc n) (x ∷ xs) h =
    let parts = and_parts (p x) (list_all p xs) h in
    and_both (p x) (list_all p (take n xs)) parts.0 (all_take p n xs parts.1)

-- of rows that rise, each with a short value for each column, the first above a key
module _ (ask : PageAsk) (all : List Row) (rise : keys_rise None all ≡ true) (rows : list_all (is_row (length ask.columns.now)) all ≡ true) where
  -- the first rows above a key fit exactly where none of them has NULL in a column that never is
  by_null : all_fit ask.columns.now (first_above ask.after ask.limit all) ≡ list_all (λ r. keeps_null ask.columns.now r.values) (first_above ask.after ask.limit all)
  by_null = fit_by_null ask.columns.now (first_above ask.after ask.limit all)
      (all_take (is_row (length ask.columns.now)) ask.limit (filter (λ (r : Row). is_above ask.after r.key) all) (all_filter (is_row (length ask.columns.now)) (λ (r : Row). is_above ask.after r.key) all rows))

  -- where the first rows above a key are a page, none of them is refused
  pub page_given : IsPage ask (first_above ask.after ask.limit all) → unless_null ask.columns.now (first_above ask.after ask.limit all) ≡ Some (first_above ask.after ask.limit all)
  page_given is = ap (λ b. if b then Some (first_above ask.after ask.limit all) else None) (sym by_null ∙ is.cells)

  -- where the first rows above a key are no page, one of them is refused
  pub page_refused : ¬ IsPage ask (first_above ask.after ask.limit all) → unless_null ask.columns.now (first_above ask.after ask.limit all) ≡ None
  page_refused not_page = by_test (list_all (λ r. keeps_null ask.columns.now r.values) (first_above ask.after ask.limit all)) refl
    where
      by_test : (b : Bool) → list_all (λ r. keeps_null ask.columns.now r.values) (first_above ask.after ask.limit all) ≡ b → (if b then Some (first_above ask.after ask.limit all) else None) ≡ None
      by_test false e = refl
      by_test true e = absurd (not_page (record {
        rise = first_above_rises ask.after ask.limit all rise;
        few = omega (arith, length-take ask.limit (filter (λ (r : Row). is_above ask.after r.key) all));
        cells = by_null ∙ e;
      }))

-- what a call gives that isn't to fail: the first rows above a key, unless one of them has NULL in a column that never is
abbrev pub gives_of : PageAsk → Bool → Option (List Row) → Option (List Row)
gives_of ask fails told = if fails then None else option_and_then (λ rows. unless_null ask.columns.now (first_above ask.after ask.limit rows)) told

-- the first rows above a key, of rows that are told
abbrev pub first_of : PageAsk → Option (List Row) → Option (List Row)
first_of ask told = option_map (first_above ask.after ask.limit) told

-- a call gives nothing where nothing is told
pub nothing_given : (ask : PageAsk) (fails : Bool) (told : Option (List Row)) → None ≡ first_of ask told → gives_of ask fails told ≡ None
nothing_given ask true told e = refl
nothing_given ask false None e = refl
nothing_given ask false (Some rows) e = absurd (cc e)

-- what a call gives are the first of the rows that are told
pub given_first : (ask : PageAsk) (fails : Bool) (told : Option (List Row)) (rows : List Row) → gives_of ask fails told ≡ Some rows → IfSome told (λ all. rows ≡ first_above ask.after ask.limit all)
given_first ask true told rows e = absurd (cc e)
given_first ask false None rows e = tt
given_first ask false (Some all) rows e = by_test (list_all (λ r. keeps_null ask.columns.now r.values) (first_above ask.after ask.limit all)) e
  where
    by_test : (b : Bool) → (if b then Some (first_above ask.after ask.limit all) else None) ≡ Some rows → rows ≡ first_above ask.after ask.limit all
    by_test true h = sym (some_is _ rows h)
    by_test false h = absurd (cc h)

module _ (tables : List MemTable) (sound : list_all is_sound tables ≡ true) (ask : PageAsk) (rows : List Row) where
  -- a call that isn't to fail gives the first rows above a key, where they are a page
  pub call_gives : Some rows ≡ first_of ask (rows_told tables (declared_by ask)) → IsPage ask rows → gives_of ask false (rows_told tables (declared_by ask)) ≡ Some rows
  call_gives e is = of_told (rows_told tables (declared_by ask)) refl e
    where
      of_told : (told : Option (List Row)) → rows_told tables (declared_by ask) ≡ told → Some rows ≡ first_of ask told → gives_of ask false told ≡ Some rows
      of_told None f h = absurd (cc h)
      of_told (Some all) f h =
          let same = some_is rows (first_above ask.after ask.limit all) h in
          page_given ask all (subst Rises f (first_rise tables (declared_by ask) sound)) (told_rows tables (declared_by ask) all sound f) (subst (IsPage ask) same is) ∙ sym h

  -- a call gives nothing where the first rows above a key are no page
  pub call_refuses : (fails : Bool) → Some rows ≡ first_of ask (rows_told tables (declared_by ask)) → ¬ IsPage ask rows → gives_of ask fails (rows_told tables (declared_by ask)) ≡ None
  call_refuses true e not_page = refl
  call_refuses false e not_page = of_told (rows_told tables (declared_by ask)) refl e
    where
      of_told : (told : Option (List Row)) → rows_told tables (declared_by ask) ≡ told → Some rows ≡ first_of ask told → gives_of ask false told ≡ None
      of_told None f h = refl
      of_told (Some all) f h =
          let same = some_is rows (first_above ask.after ask.limit all) h in
          page_refused ask all (subst Rises f (first_rise tables (declared_by ask) sound)) (told_rows tables (declared_by ask) all sound f) (λ p. not_page (subst (IsPage ask) (sym same) p))
