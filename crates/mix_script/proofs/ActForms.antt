-- The acts that words ask for, by their forms.
use Rattle.std.proofs.Common.{ℕ, ◌&&◌, List, [], ◌∷◌, Option, Some, None, option_map, refl}
use Rattle.std.specs.Prelude.{IsTrue, codes}
use Rattle.std.specs.Str.{bytes_eq}
use Rattle.mix_base.proofs.Choices.{Gives, either}
use Rattle.node_text.specs.Node.{NodeValue}
use Rattle.node_text.specs.Machine.{read_of}
use Rattle.mix_words.specs.Words.{is_name}
use Rattle.mix_script.specs.Forms.{act_named, act_of, either_act, id_act_of, is_select_form, reading_named, select_of, way_named}
use Rattle.mix_script.specs.Steps.{is_plain}
use Rattle.mix_script.specs.declared.step.Act.{Act}
use Rattle.mix_script.specs.declared.step.Act.TheVariants.{Root, Move, Select, Fetch, Print, Id, At}
use Rattle.mix_script.specs.declared.step.Way.{Way}

-- what holds of each act of some forms holds of what a choice between one of them and nothing gives
pub gives_mapped : {A : Type 0} (P : Act → Type 0) (f : A → Act) (o : Option A) → ((x : A) → P (f x)) → Gives P (option_map f o)
gives_mapped P f None h = tt
gives_mapped P f (Some x) h = h x

-- what holds of two acts, where they are there, holds of the first that is there
pub either_gives : (P : Act → Type 0) (o p : Option Act) → Gives P o → Gives P p → Gives P (either_act o p)
either_gives P None p h k = k
either_gives P (Some a) p h k = h

-- what holds of each act that goes to the root, takes a way or reads holds of what words ask for that end with a name or root
pub act_gives : (P : Act → Type 0) → ((x : List ℕ) → P (Root x)) → ((way : Way) (x y : List ℕ) → P (Move way x y)) → ((y : List ℕ) → P (Fetch y)) → ((y : List ℕ) → P (Print y))
    → (words : List (List ℕ)) → Gives P (act_of words)
act_gives P root move fetch print [] = tt
act_gives P root move fetch print (w ∷ []) = tt
act_gives P root move fetch print (command ∷ y ∷ []) =
    either P (is_name y) (reading_named command y) None
    (λ _. either P (bytes_eq command (codes "fetch")) (Some (Fetch y)) _ (λ _. fetch y) (λ _. either P (bytes_eq command (codes "print")) (Some (Print y)) None (λ _. print y) (λ _. tt)))
    (λ _. tt)
act_gives P root move fetch print (x ∷ is ∷ command ∷ []) =
    either P (is_name x && bytes_eq is (codes "=") && bytes_eq command (codes "root")) (Some (Root x)) None (λ _. root x) (λ _. tt)
act_gives P root move fetch print (x ∷ is ∷ command ∷ y ∷ []) =
    either P (is_name x && bytes_eq is (codes "=") && is_name y) (act_named x command y) None (λ _. gives_mapped P (λ way. Move way x y) (way_named command) (λ way. move way x y)) (λ _. tt)
act_gives P root move fetch print (x ∷ is ∷ command ∷ y ∷ w ∷ words) = tt

-- what holds of each act of a form of identifiers holds of what words ask for that are of one
pub id_act_gives : (P : Act → Type 0) → ((y : List ℕ) → P (Id y)) → ((x : List ℕ) (node : NodeValue) → P (At x node)) → (words : List (List ℕ)) → Gives P (id_act_of words)
id_act_gives P id at [] = tt
id_act_gives P id at (w ∷ []) = tt
id_act_gives P id at (command ∷ y ∷ []) = either P (bytes_eq command (codes "id") && is_name y) (Some (Id y)) None (λ _. id y) (λ _. tt)
id_act_gives P id at (x ∷ is ∷ command ∷ []) = tt
id_act_gives P id at (x ∷ is ∷ command ∷ text ∷ []) =
    either P (is_name x && bytes_eq is (codes "=") && bytes_eq command (codes "at")) (option_map (λ node. At x node) (read_of text)) None
    (λ _. gives_mapped P (λ node. At x node) (read_of text) (λ node. at x node)) (λ _. tt)
id_act_gives P id at (x ∷ is ∷ command ∷ y ∷ w ∷ words) = tt

-- what holds of a select of a label holds of what words ask for that stand before it
pub select_gives : (P : Act → Type 0) (label : List ℕ) → ((x y : List ℕ) → P (Select x y label)) → (words : List (List ℕ)) → Gives P (select_of words label)
select_gives P label select [] = tt
select_gives P label select (a ∷ []) = tt
select_gives P label select (a ∷ b ∷ []) = tt
select_gives P label select (a ∷ b ∷ c ∷ []) = tt
select_gives P label select (x ∷ is ∷ command ∷ y ∷ []) = either P (is_select_form x is command y) (Some (Select x y label)) None (λ _. select x y) (λ _. tt)
select_gives P label select (a ∷ b ∷ c ∷ d ∷ e ∷ words) = tt

-- an act is no select
abbrev pub NoSelect : Act → Type 0
NoSelect (Root name) = Unit {0}
NoSelect (Move way name from) = Unit {0}
NoSelect (Select name from label) = ⊥
NoSelect (Fetch from) = Unit {0}
NoSelect (Print from) = Unit {0}
NoSelect (Id from) = Unit {0}
NoSelect (At name node) = Unit {0}

-- words that end with a name or root ask for no select
pub no_select_of : (words : List (List ℕ)) → Gives NoSelect (act_of words)
no_select_of words = act_gives NoSelect (λ x. tt) (λ way x y. tt) (λ y. tt) (λ y. tt) words

-- words of a form of identifiers ask for no select
pub no_select_id : (words : List (List ℕ)) → Gives NoSelect (id_act_of words)
no_select_id words = id_act_gives NoSelect (λ y. tt) (λ x node. tt) words

-- an act is of none of the forms of identifiers
abbrev pub IsPlainAct : Act → Type 0
IsPlainAct act = IsTrue (is_plain act)

-- words that end with a name or root ask for a plain act
pub plain_of : (words : List (List ℕ)) → Gives IsPlainAct (act_of words)
plain_of words = act_gives IsPlainAct (λ x. refl) (λ way x y. refl) (λ y. refl) (λ y. refl) words

-- words before a label ask for a plain act
pub plain_select : (label : List ℕ) (words : List (List ℕ)) → Gives IsPlainAct (select_of words label)
plain_select label words = select_gives IsPlainAct label (λ x y. refl) words
