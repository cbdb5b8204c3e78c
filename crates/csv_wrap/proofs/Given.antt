-- The lists that holes are answered with keep what a source promises.
use Rattle.std.proofs.Common.{◌≡◌, ◌∙◌, ℕ, zero, suc, ◌+◌, ◌-◌, ◌<◌, ◌≤◌, ◌⊎◌, inl, inr, min, true, false, nat_lt, nat_le, List, [], ◌∷◌, length, take, drop, Option, Some, None, refl, ap, sym, arith}
use Rattle.std.proofs.lemmas.Bool.Decides.{nat_tests}
use Rattle.std.proofs.lemmas.List.{drop-drop, drop_all, length-drop, take-append-drop}
use Rattle.mix_tree.specs.Forest.{followed}
use Rattle.mix_tree.specs.Weight.{nodes_of}
use Rattle.mix_tree.proofs.Forests.{followed-none}
use Rattle.lxp_core.specs.declared.open_tree.HoleId.{HoleId}
use Rattle.lxp_core.specs.Open.{closed, weight_of, AllHoles, IsProgress, begins_with_hole}
use Rattle.lxp_core.proofs.Opens.{nodes_of-closed}
use Rattle.row_document.specs.Rows.{rest_given}
use Rattle.row_document.proofs.Lists.{name_closes, name_progress, rest_by, row_forest-append, rows_close, rows_forward, rows_known, rows_progress}
use Rattle.csv_wrap.specs.declared.document.CsvDoc.{CsvDoc}
use Rattle.csv_wrap.specs.declared.parts.Part.{Part}
use Rattle.csv_wrap.specs.declared.parts.Part.TheVariants.{Name, RowsFrom}
use Rattle.csv_wrap.specs.Parts.{hole_of}
use Rattle.csv_wrap.specs.Rows.{cells, row_forest}
use Rattle.csv_wrap.specs.Document.{columns_of, rows_of, has_more, part_forest, part_given, knows, forest, weight}

module _ (d : CsvDoc) where
  -- a hole for the rows from an index on
  abbrev rest_hole : ℕ → HoleId
  rest_hole first = hole_of (RowsFrom first)

  -- after the last row no rows are left
  pub none_after : (first : ℕ) → length (rows_of d) ≤ first → has_more d first ≡ false
  none_after first h = past (length (rows_of d)) first h
    where
      past : (n f : ℕ) → n ≤ f → nat_lt f n ≡ false
      past n f l = grind (arith, nat_tests)

  -- what is left after a chunk is left after its end, or the end of all rows
  pub rest_same : (last end : ℕ) → last ≡ min end (length (rows_of d)) → rest_given (has_more d last) (rest_hole last) ≡ rest_given (has_more d end) (rest_hole end)
  rest_same last end e = by_case (less end (length (rows_of d)))
    where
      less : (a b : ℕ) → (a < b) ⊎ (b ≤ a)
      less a b = grind arith

      by_case : (end < length (rows_of d)) ⊎ (length (rows_of d) ≤ end) → rest_given (has_more d last) (rest_hole last) ≡ rest_given (has_more d end) (rest_hole end)
      by_case (inl h) = let same : last ≡ end = omega (arith, e, h) in ap (λ n. rest_given (has_more d n) (rest_hole n)) same
      by_case (inr h) =
          let past : length (rows_of d) ≤ last = omega (arith, e, h) in
          ap (λ more. rest_given more (rest_hole last)) (none_after last past) ∙ sym (ap (λ more. rest_given more (rest_hole end)) (none_after end h))

  -- a hole for the rows that are left closes to them
  closed_rest : (first : ℕ) → closed (forest d) (rest_given (has_more d first) (rest_hole first)) ≡ row_forest (columns_of d) (drop first (rows_of d))
  closed_rest first =
      rest_by (λ o. closed (forest d) o ≡ row_forest (columns_of d) (drop first (rows_of d))) (has_more d first) (rest_hole first)
      (λ k. followed-none (row_forest (columns_of d) (drop first (rows_of d))))
      (λ k. sym (ap (row_forest (columns_of d)) (drop_all first (rows_of d) (past (length (rows_of d)) first k))))
    where
      past : (n f : ℕ) → nat_lt f n ≡ false → n ≤ f
      past n f l = grind (arith, nat_tests)

  -- where no rows are given, none are left
  none_left : (first : ℕ) → take d.chunk (drop first (rows_of d)) ≡ [] → has_more d (first + d.chunk) ≡ false
  none_left first e = none_after (first + d.chunk) (past d.chunk (drop first (rows_of d)) d.some (length-drop first (rows_of d)) e)
    where
      past : (chunk : ℕ) (rest : List (List (List ℕ))) → 1 ≤ chunk → length rest ≡ length (rows_of d) - first → take chunk rest ≡ [] → length (rows_of d) ≤ first + chunk
      past zero rest some long e = absurd (omega arith)
      past (suc chunk) [] some long e = omega (arith, long)
      past (suc chunk) (r ∷ rest) some long e = cc e

  -- the list of a part closes to its trees
  pub closed-given : (p : Option Part) → closed (forest d) (part_given d p) ≡ part_forest d p
  closed-given None = refl
  closed-given (Some Name) = name_closes (forest d) d.name (rest_hole 0)
  closed-given (Some (RowsFrom first)) =
      let columns = columns_of d in
      let rest = drop first (rows_of d) in
      let given = take d.chunk rest in
      let next = first + d.chunk in
      rows_close (cells columns) given (has_more d next) (rest_hole next) (forest d)
      ∙ ap (followed (row_forest columns given)) (closed_rest next ∙ ap (row_forest columns) (sym (drop-drop d.chunk first (rows_of d))))
      ∙ sym (row_forest-append (cells columns) given (drop d.chunk rest))
      ∙ ap (row_forest columns) (take-append-drop d.chunk rest)

  -- the list of a part keeps progress
  pub progress-given : (p : Option Part) → IsProgress (part_given d p)
  progress-given None = record { top = λ k. cc k; apart = tt }
  progress-given (Some Name) = name_progress d.name (rest_hole 0)
  progress-given (Some (RowsFrom first)) =
      rows_progress (cells (columns_of d)) (take d.chunk (drop first (rows_of d))) (has_more d (first + d.chunk)) (rest_hole (first + d.chunk)) (none_left first)

  -- the list of a part begins with no hole
  pub forward-given : (p : Option Part) → begins_with_hole (part_given d p) ≡ false
  forward-given None = refl
  forward-given (Some Name) = refl
  forward-given (Some (RowsFrom first)) =
      rows_forward (cells (columns_of d)) (take d.chunk (drop first (rows_of d))) (has_more d (first + d.chunk)) (rest_hole (first + d.chunk)) (none_left first)

  -- all holes of the list of a part are known
  pub known-given : (p : Option Part) → AllHoles (knows d) (part_given d p)
  known-given None = tt
  known-given (Some Name) = ((first_known (length (rows_of d)), tt), tt)
    where
      first_known : (n : ℕ) → nat_le 0 n ≡ true
      first_known n = grind (arith, nat_tests)
  known-given (Some (RowsFrom first)) =
      rows_known (cells (columns_of d)) (take d.chunk (drop first (rows_of d))) (has_more d (first + d.chunk)) (rest_hole (first + d.chunk)) (knows d)
      (λ k. at_most (first + d.chunk) (length (rows_of d)) k)
    where
      at_most : (f n : ℕ) → nat_lt f n ≡ true → nat_le f n ≡ true
      at_most f n k = grind (arith, nat_tests)

  -- the list of a part weighs no more than the part
  pub lighter-given : (p : Option Part) → weight_of (weight d) (part_given d p) ≤ nodes_of (part_forest d p)
  lighter-given p =
      let same = nodes_of-closed (forest d) (part_given d p) in
      let equal = ap nodes_of (closed-given p) in
      omega (arith, same, equal)
