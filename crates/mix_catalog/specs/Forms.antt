-- What the words of a catalog's line say.
use Rattle.std.specs.Prelude.{ℕ, ◌+◌, ◌-◌, ◌*◌, Bool, true, false, cond, ◌&&◌, nat_le, List, [], ◌∷◌, length, Option, Some, None, option_map, option_and_then, codes}
use Rattle.std.specs.Str.{bytes_eq}
use Rattle.std.specs.List.{list_all}
use Rattle.mix_tree.specs.LabelOrder.{is_digit}
use Rattle.mix_tree.specs.Names.{is_name_byte}
use Rattle.mix_words.specs.Words.{words_of, ends_word}
use Rattle.mix_catalog.specs.declared.form.Cutting.{Cutting}
use Rattle.mix_catalog.specs.declared.form.Form.{Form}
use Rattle.mix_catalog.specs.declared.form.Form.TheVariants.{Bracket, Csv, Table, Remote, Json, View}
use Rattle.mix_catalog.specs.declared.form.Prefix.{Prefix}

-- whether a word may name a source: one or more ASCII letters, digits, _ and -
abbrev pub is_source_name : List ℕ → Bool
is_source_name word = nat_le 1 (length word) && list_all is_name_byte word

-- the form that a word names
abbrev pub form_of : List ℕ → Option Form
form_of word =
    cond (bytes_eq word (codes "bracket")) (Some Bracket)
    (cond (bytes_eq word (codes "csv")) (Some Csv)
    (cond (bytes_eq word (codes "table")) (Some Table) (cond (bytes_eq word (codes "remote")) (Some Remote)
    (cond (bytes_eq word (codes "json")) (Some Json) (cond (bytes_eq word (codes "view")) (Some View) None)))))

-- the words before a file that have this name and this form
abbrev pub prefix_with : List ℕ → Form → Prefix
prefix_with name form = record { name = name; form = form }

-- what source, a name and the word of a form say
abbrev pub prefix_form : List ℕ → List ℕ → List ℕ → Option Prefix
prefix_form source name form = cond (bytes_eq source (codes "source") && is_source_name name) (option_map (prefix_with name) (form_of form)) None

-- what the words before FILE say
abbrev pub prefix_of : List (List ℕ) → Option Prefix
prefix_of [] = None
prefix_of (a ∷ []) = None
prefix_of (a ∷ b ∷ []) = None
prefix_of (source ∷ name ∷ form ∷ []) = prefix_form source name form
prefix_of (a ∷ b ∷ c ∷ d ∷ words) = None

-- the number that a digit means
abbrev pub digit_of : ℕ → Option ℕ
digit_of b = cond (is_digit b) (Some (b - 48)) None

-- the number that digits mean after those that mean n
abbrev pub number_after : ℕ → List ℕ → Option ℕ
number_after n [] = Some n
number_after n (b ∷ bs) = option_and_then (λ d. number_after (10 * n + d) bs) (digit_of b)

-- the number of 1 to 9 digits, which may begin with zeros
abbrev pub number_of : List ℕ → Option ℕ
number_of word = cond (nat_le 1 (length word) && nat_le (length word) 9) (number_after 0 word) None

-- the number of the only word
abbrev pub number_word : List (List ℕ) → Option ℕ
number_word [] = None
number_word (word ∷ []) = number_of word
number_word (a ∷ b ∷ words) = None

-- the number that is written as chunk and digits
abbrev pub chunk_form : List ℕ → List ℕ → Option ℕ
chunk_form chunk digits = cond (bytes_eq chunk (codes "chunk")) (number_of digits) None

-- the chunk of the words chunk and a number
abbrev pub chunk_of : List (List ℕ) → Option ℕ
chunk_of [] = None
chunk_of (a ∷ []) = None
chunk_of (chunk ∷ digits ∷ []) = chunk_form chunk digits
chunk_of (a ∷ b ∷ c ∷ words) = None

-- the chunk that is written after the columns
abbrev pub chunk_after : List ℕ → Option ℕ
chunk_after after = cond (ends_word after) (chunk_of (words_of after)) None

-- a chunk, which is deep or not
abbrev pub cutting_with : Bool → ℕ → Cutting
cutting_with deep chunk = record { chunk = chunk; deep = deep }

-- the cutting that is written as chunk and digits, deep or not
abbrev pub cutting_form : List ℕ → List ℕ → Bool → Option Cutting
cutting_form chunk digits deep = option_map (cutting_with deep) (chunk_form chunk digits)

-- the cutting of the words chunk, a number, and deep or nothing
abbrev pub cutting_of : List (List ℕ) → Option Cutting
cutting_of [] = None
cutting_of (a ∷ []) = None
cutting_of (chunk ∷ digits ∷ []) = cutting_form chunk digits false
cutting_of (chunk ∷ digits ∷ deep ∷ []) = cond (bytes_eq deep (codes "deep")) (cutting_form chunk digits true) None
cutting_of (a ∷ b ∷ c ∷ d ∷ words) = None

-- whether the only word is columns
abbrev pub is_columns_word : List (List ℕ) → Bool
is_columns_word [] = false
is_columns_word (word ∷ []) = bytes_eq word (codes "columns")
is_columns_word (a ∷ b ∷ words) = false
