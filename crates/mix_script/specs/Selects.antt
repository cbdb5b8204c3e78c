-- What a line looks like that asks for a `select`.
use Rattle.std.specs.Prelude.{◌≡◌, ◌↔◌, ℕ, true, List, [], ◌∷◌, ◌++◌, Some, IsTrue, codes}
use Rattle.mix_tree.specs.LabelGrammar.{SpellsLabel}
use Rattle.mix_words.specs.Words.{is_name, words_of}
use Rattle.mix_words.specs.Places.{ends_blank}
use Rattle.mix_script.specs.Lines.{act_in}
use Rattle.mix_script.specs.declared.step.Forms.{Forms}
use Rattle.mix_script.specs.declared.step.Act.TheVariants.{Select}

-- the line is X = select Y LABEL: these words with a blank after them, then a spelling of the label, then no word
pub record IsSelectOf (line x y label : List ℕ) : Type 0 where
  pub prefix : List ℕ
  pub spelled : List ℕ
  pub after : List ℕ
  pub parts : line ≡ prefix ++ (spelled ++ after)
  pub words : words_of prefix ≡ x ∷ codes "=" ∷ codes "select" ∷ y ∷ []
  pub names : IsTrue (is_name x) × IsTrue (is_name y)
  pub apart : IsTrue (ends_blank true prefix)
  pub spells : SpellsLabel spelled label
  pub alone : words_of after ≡ []

-- a line without a prefix asks for the select of a label exactly where it is of this form
abbrev pub SelectsAreSpelled : Type 0
SelectsAreSpelled = (forms : Forms) (line x y label : List ℕ) → (act_in forms line ≡ Some (Select x y label)) ↔ IsSelectOf line x y label
