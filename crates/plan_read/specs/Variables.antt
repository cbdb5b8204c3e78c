-- The variables of a plan's text, and its names.
use Rattle.std.specs.Prelude.{ℕ, ◌-◌, Bool, false, cond, ◌&&◌, ◌==◌, nat_le, nat_lt, List, [], ◌∷◌, ◌++◌, length, take, drop, slice_index, slice_range, position, Option, Some, None, option_map, option_and_then, codes}
use Rattle.std.specs.List.{filter, flat_map, list_any}
use Rattle.std.specs.Str.{bytes_eq}
use Rattle.mix_words.specs.Words.{is_name}
use Rattle.mix_tree.specs.declared.var.Key.{Key}
use Rattle.mix_tree.specs.declared.var.Key.TheVariants.{Node as node_key, LabelOf as label_key}
use Rattle.plan_read.specs.Numbers.{var_number}
use Rattle.plan_read.specs.Words.{cut, words}
use Rattle.plan_read.specs.Lines.{Line, operator_lines}
use Rattle.plan_read.specs.declared.words.Mode.TheVariants.{Plain}

-- what stands after the $ of a variable, where the word is one
abbrev pub dollared : List ℕ → Option (List ℕ)
dollared [] = None
dollared (b ∷ x) = cond (b == 36) (Some x) None

-- the variable that is written so after its $: a name's place among the names, or a number
abbrev pub var_named : List (List ℕ) → List ℕ → Option ℕ
var_named names x = cond (is_name x) (position (bytes_eq x) names) (var_number x)

-- the variable of a word
abbrev pub var_read : List (List ℕ) → List ℕ → Option ℕ
var_read names word = option_and_then (var_named names) (dollared word)

-- whether a text begins with the word label and a blank
abbrev pub has_label : List ℕ → Bool
has_label word = bytes_eq (take 6 word) (codes "label ")

-- the key that is written so
abbrev pub key_read : List (List ℕ) → List ℕ → Option Key
key_read names word = cond (has_label word) (option_map label_key (var_read names (drop 6 word))) (option_map node_key (var_read names word))

-- what stands between the braces that a word begins and ends with
abbrev pub braced : List ℕ → Option (List ℕ)
braced word = cond (nat_le 2 (length word) && slice_index word 0 == 123 && slice_index word (length word - 1) == 125) (Some (slice_range word 1 (length word - 1))) None

-- the texts of keys with commas between them
abbrev pub key_texts : List ℕ → List (List ℕ)
key_texts [] = []
key_texts (b ∷ x) = cut 44 Plain (b ∷ x)

-- what each of these texts reads as, where each reads as something
abbrev pub all_read : {A : Type 0} → (List ℕ → Option A) → List (List ℕ) → Option (List A)
all_read f [] = Some []
all_read f (x ∷ xs) = option_and_then (λ a. option_map (λ rest. a ∷ rest) (all_read f xs)) (f x)

-- the keys of a word
abbrev pub keys_read : List (List ℕ) → List ℕ → Option (List Key)
keys_read names word = option_and_then (λ body. all_read (key_read names) (key_texts body)) (braced word)

-- an option as a list
abbrev pub as_list : Option (List ℕ) → List (List ℕ)
as_list None = []
as_list (Some x) = x ∷ []

-- the variable in a key's text
abbrev pub key_dollared : List ℕ → List (List ℕ)
key_dollared word = cond (has_label word) (as_list (dollared (drop 6 word))) (as_list (dollared word))

-- the variables of a word, each as it is written after its $: the word itself, or those of keys
abbrev pub word_vars : List ℕ → List (List ℕ)
word_vars word = cond (slice_index word 0 == 123) (flat_map (λ body. flat_map key_dollared (key_texts body)) (as_list (braced word))) (as_list (dollared word))

-- the variables of a line, in the order of the text
abbrev pub line_vars : List ℕ → List (List ℕ)
line_vars line = flat_map word_vars (words line)

-- names, with each of these after them that isn't there yet
abbrev pub with_new : List (List ℕ) → List (List ℕ) → List (List ℕ)
with_new names [] = names
with_new names (x ∷ xs) = with_new (cond (list_any (bytes_eq x) names) names (names ++ x ∷ [])) xs

-- the names of lines: their named variables, in the order in which they first have them
abbrev pub names_in : List Line → List (List ℕ)
names_in lines = with_new [] (filter is_name (flat_map (λ l. line_vars l.text) lines))

-- the names of a text
abbrev pub names_of : List ℕ → List (List ℕ)
names_of text = names_in (operator_lines text)

-- whether a variable's number is there, and smaller than n
abbrev pub is_less : ℕ → Option ℕ → Bool
is_less n None = false
is_less n (Some v) = nat_lt v n

-- whether a variable is written as a number smaller than n, and not as a name
abbrev pub is_below : ℕ → List ℕ → Bool
is_below n x = cond (is_name x) false (is_less n (var_number x))
