-- The people of a large input: the columns, the records, and their CSV text.
use Rattle.std.specs.Prelude.{ℕ, zero, suc, ◌+◌, ◌*◌, ◌%◌, List, [], ◌∷◌, ◌++◌, map, codes}
use Rattle.std.specs.Fmt.{decimal}
use Rattle.std.specs.List.{concat, join_with_byte}
use Rattle.mix_tree.specs.Forest.{LabelledTree}
use Rattle.csv_wrap.specs.Rows.{file_tree}

-- the columns of the file of people
abbrev pub people_columns : List (List ℕ)
people_columns = codes "id" ∷ codes "name" ∷ codes "zip" ∷ []

-- the record of the person of a number
abbrev pub person : ℕ → List (List ℕ)
person i = decimal i ∷ (110 ∷ decimal i) ∷ decimal (10000 + (i * 37) % 100) ∷ []

-- the records of so many people, from number 0 on
abbrev pub people : ℕ → List (List (List ℕ))
people zero = []
people (suc n) = people n ++ person n ∷ []

-- a record as a line: the fields as they are, with commas between them, and LF
abbrev pub record_line : List (List ℕ) → List ℕ
record_line fields = join_with_byte 44 fields ++ 10 ∷ []

-- the CSV text of a number of people, below the line of the columns
abbrev pub people_text : ℕ → List ℕ
people_text count = concat (map record_line (people_columns ∷ people count))

-- the document of a number of people: their rows below the source's name
abbrev pub people_tree : ℕ → LabelledTree
people_tree count = file_tree (codes "people") people_columns (people count)
