-- The forms of a script's lines, by their words.
use Rattle.std.specs.Prelude.{ℕ, Bool, cond, ◌&&◌, List, [], ◌∷◌, Option, Some, None, option_map, codes}
use Rattle.std.specs.Str.{bytes_eq}
use Rattle.node_text.specs.Machine.{read_of}
use Rattle.mix_words.specs.Words.{is_name}
use Rattle.mix_script.specs.declared.step.Act.{Act}
use Rattle.mix_script.specs.declared.step.Act.TheVariants.{Root, Move, Select, Fetch, Print, Id, At}
use Rattle.mix_script.specs.declared.step.Forms.{Forms}
use Rattle.mix_script.specs.declared.step.Forms.TheVariants.{Plain, WithIds}
use Rattle.mix_script.specs.declared.step.Way.{Way}
use Rattle.mix_script.specs.declared.step.Way.TheVariants.{Down, Right}

-- the way that a word names
abbrev pub way_named : List ℕ → Option Way
way_named word = cond (bytes_eq word (codes "down")) (Some Down) (cond (bytes_eq word (codes "right")) (Some Right) None)

-- the command of a word that stands before a name
abbrev pub act_named : List ℕ → List ℕ → List ℕ → Option Act
act_named x command y = option_map (λ way. Move way x y) (way_named command)

-- the act of the words X = down Y and X = right Y
abbrev pub move_form : List ℕ → List ℕ → List ℕ → List ℕ → Option Act
move_form x is command y = cond (is_name x && bytes_eq is (codes "=") && is_name y) (act_named x command y) None

-- the act of the words X = root
abbrev pub root_form : List ℕ → List ℕ → List ℕ → Option Act
root_form x is command = cond (is_name x && bytes_eq is (codes "=") && bytes_eq command (codes "root")) (Some (Root x)) None

-- what a word asks for that stands alone before a name
abbrev pub reading_named : List ℕ → List ℕ → Option Act
reading_named command y = cond (bytes_eq command (codes "fetch")) (Some (Fetch y)) (cond (bytes_eq command (codes "print")) (Some (Print y)) None)

-- the act of the words fetch Y or print Y
abbrev pub read_form : List ℕ → List ℕ → Option Act
read_form command y = cond (is_name y) (reading_named command y) None

-- what words ask for that end with a name or root, where they are of a form
abbrev pub act_of : List (List ℕ) → Option Act
act_of [] = None
act_of (w ∷ []) = None
act_of (command ∷ y ∷ []) = read_form command y
act_of (x ∷ is ∷ command ∷ []) = root_form x is command
act_of (x ∷ is ∷ command ∷ y ∷ []) = move_form x is command y
act_of (x ∷ is ∷ command ∷ y ∷ w ∷ words) = None

-- the act of the words id Y
abbrev pub id_form : List ℕ → List ℕ → Option Act
id_form command y = cond (bytes_eq command (codes "id") && is_name y) (Some (Id y)) None

-- the act of the words X = at TEXT, whose last word spells an identifier
abbrev pub at_form : List ℕ → List ℕ → List ℕ → List ℕ → Option Act
at_form x is command text = cond (is_name x && bytes_eq is (codes "=") && bytes_eq command (codes "at")) (option_map (λ node. At x node) (read_of text)) None

-- what words ask for that are of a form of identifiers
abbrev pub id_act_of : List (List ℕ) → Option Act
id_act_of [] = None
id_act_of (w ∷ []) = None
id_act_of (command ∷ y ∷ []) = id_form command y
id_act_of (x ∷ is ∷ command ∷ []) = None
id_act_of (x ∷ is ∷ command ∷ text ∷ []) = at_form x is command text
id_act_of (x ∷ is ∷ command ∷ y ∷ w ∷ words) = None

-- the first of two acts that is there
abbrev pub either_act : Option Act → Option Act → Option Act
either_act None other = other
either_act (Some act) other = Some act

-- what words ask for, of no more words than four: of a form that ends with a name or root, or, where lines may have them, of one of identifiers
abbrev pub act_by : Forms → List (List ℕ) → Option Act
act_by Plain words = act_of words
act_by WithIds words = either_act (act_of words) (id_act_of words)

-- whether words are X = select Y
abbrev pub is_select_form : List ℕ → List ℕ → List ℕ → List ℕ → Bool
is_select_form x is command y = is_name x && bytes_eq is (codes "=") && bytes_eq command (codes "select") && is_name y

-- what words ask for that stand before a label: they are X = select Y
abbrev pub select_of : List (List ℕ) → List ℕ → Option Act
select_of [] label = None
select_of (a ∷ []) label = None
select_of (a ∷ b ∷ []) label = None
select_of (a ∷ b ∷ c ∷ []) label = None
select_of (x ∷ is ∷ command ∷ y ∷ []) label = cond (is_select_form x is command y) (Some (Select x y label)) None
select_of (a ∷ b ∷ c ∷ d ∷ e ∷ words) label = None
