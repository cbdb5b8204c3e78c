-- What is said of a CSV file that is refused.
use Rattle.std.specs.Prelude.{ℕ, List, ◌++◌, codes}
use Rattle.std.specs.Fmt.{decimal}
use Rattle.csv_wrap.specs.declared.fault.CsvFault.{CsvFault}
use Rattle.csv_wrap.specs.declared.fault.CsvFault.TheVariants.{HeaderDiffers, Length, NoHeader, NotUtf8, OutOfMemory}

-- the text of a fault of a CSV file: what is wrong, and at which column or in which row
abbrev pub text_of : CsvFault → List ℕ
text_of NoHeader = codes "no header"
text_of (HeaderDiffers column) = codes "header differs at column " ++ decimal column
text_of (Length row found wanted) = codes "row " ++ decimal row ++ codes " has " ++ decimal found ++ codes " fields, " ++ decimal wanted ++ codes " wanted"
text_of (NotUtf8 row) = codes "row " ++ decimal row ++ codes " is not UTF-8"
text_of OutOfMemory = codes "memory ran out"
