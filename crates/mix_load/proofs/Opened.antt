-- A file with the declared columns is refused for nothing but want of memory.
use Rattle.std.specs.Prelude.{slice_get}
use Rattle.std.specs.List.{All}
use Rattle.std.proofs.Common.{◌≡◌, ◌<◌, ◌∙◌, ◌++◌, ℕ, List, [], ◌∷◌, Result, Ok, Err, IfErr, refl, sym, ap, subst, arith, length, length-append}
use Rattle.std.proofs.Math.Seq.{get_or-append_seam}
use Rattle.csv_wrap.specs.Csv.{Explains, IsFile, IsRow}
use Rattle.csv_wrap.specs.declared.fault.CsvFault.{CsvFault}
use Rattle.csv_wrap.specs.declared.fault.CsvFault.TheVariants.{HeaderDiffers, Length, NoHeader, NotUtf8, OutOfMemory}

-- the first record of a file
abbrev header_of : List (List (List ℕ)) → List (List ℕ)
header_of [] = []
header_of (h ∷ rows) = h

-- the records of a file after the first
abbrev rows_of : List (List (List ℕ)) → List (List (List ℕ))
rows_of [] = []
rows_of (h ∷ rows) = rows

-- a record among rows is a row
row_among : (n : ℕ) (before : List (List (List ℕ))) (fields : List (List ℕ)) (after : List (List (List ℕ))) → All (IsRow n) (before ++ fields ∷ after) → IsRow n fields
row_among n before fields after h =
    let less : length before < length (before ++ fields ∷ after) = omega (arith, length-append before (fields ∷ after)) in
    subst (IsRow n) (get_or-append_seam before fields after []) (h (length before) [] less)

-- a file is refused for want of memory alone
never_refused : (bytes : List ℕ) (columns : List (List ℕ)) (rows : List (List (List ℕ))) → IsFile bytes columns rows → (e : CsvFault) → Explains bytes columns e → e ≡ OutOfMemory
never_refused bytes columns rows h NoHeader x = let e = sym h.0 ∙ x in absurd (cc e)
never_refused bytes columns rows h (HeaderDiffers k) x =
    let same : x.0 ≡ columns = ap header_of (sym x.2 ∙ h.0) in
    absurd (x.3.1 (ap (λ (c : List (List ℕ)). slice_get c k) same))
never_refused bytes columns rows h (Length row found wanted) x =
    let faulty = x.4 in
    let are : rows ≡ faulty.0 ++ (x.2 ∷ faulty.1) = ap rows_of (sym h.0 ∙ faulty.2) in
    let is = row_among (length columns) faulty.0 x.2 faulty.1 (subst (All (IsRow (length columns))) are h.1) in
    absurd (x.1 (sym x.3 ∙ is.0 ∙ sym x.0))
never_refused bytes columns rows h (NotUtf8 row) x =
    let faulty = x.3 in
    let are : rows ≡ faulty.0 ++ (x.0 ∷ faulty.1) = ap rows_of (sym h.0 ∙ faulty.2) in
    let is = row_among (length columns) faulty.0 x.0 faulty.1 (subst (All (IsRow (length columns))) are h.1) in
    absurd (x.2 is.1)
never_refused bytes columns rows h OutOfMemory x = refl

-- an answer that was explained refuses a file for want of memory alone
pub refused_by : {A : Type 0} (bytes : List ℕ) (columns : List (List ℕ)) (rows : List (List (List ℕ))) → IsFile bytes columns rows → (r : Result A CsvFault) → IfErr r (Explains bytes columns) → IfErr r (λ e. e ≡ OutOfMemory)
refused_by bytes columns rows h (Ok doc) x = tt
refused_by bytes columns rows h (Err e) x = never_refused bytes columns rows h e x
