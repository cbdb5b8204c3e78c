-- What lines look like that ask for the text of an identifier, or follow one.
use Rattle.std.specs.Prelude.{◌≡◌, ◌↔◌, ℕ, List, [], ◌∷◌, Some, IsTrue, codes}
use Rattle.node_text.specs.Node.{NodeValue}
use Rattle.node_text.specs.Grammar.{Spells}
use Rattle.mix_words.specs.Words.{is_name, words_of}
use Rattle.mix_script.specs.Lines.{act_in}
use Rattle.mix_script.specs.declared.step.Act.TheVariants.{Id, At}
use Rattle.mix_script.specs.declared.step.Forms.TheVariants.{WithIds}

-- the line is X = at TEXT: these words, of which the last spells what the identifier says
pub record IsAtOf (line x : List ℕ) (node : NodeValue) : Type 0 where
  pub text : List ℕ
  pub words : words_of line ≡ x ∷ codes "=" ∷ codes "at" ∷ text ∷ []
  pub name : IsTrue (is_name x)
  pub spells : Spells text node

-- the line is id Y: these words
pub record IsIdOf (line y : List ℕ) : Type 0 where
  pub words : words_of line ≡ codes "id" ∷ y ∷ []
  pub name : IsTrue (is_name y)

-- a line without a prefix asks for the node that a text names, and for the text of an identifier, exactly where it is of these forms
abbrev pub TextsAreSpelled : Type 0
TextsAreSpelled = (line x : List ℕ)
    → ((node : NodeValue) → (act_in WithIds line ≡ Some (At x node)) ↔ IsAtOf line x node) × ((act_in WithIds line ≡ Some (Id x)) ↔ IsIdOf line x)
