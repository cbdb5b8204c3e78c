-- A line asks for the node that a text names where its last word spells an identifier, and for the text of an identifier where its words say so.
use Rattle.std.proofs.Common.{◌≡◌, ◌∙◌, ℕ, Bool, true, false, cond, ◌&&◌, List, [], ◌∷◌, Option, Some, None, option_map, refl, sym, ap, subst}
use Rattle.std.specs.Prelude.{IsTrue, codes}
use Rattle.std.specs.Str.{bytes_eq}
use Rattle.std.proofs.lemmas.Slice.Eq.{bytes_eq-Decides}
use Rattle.mix_base.proofs.Choices.{Gives, and_parts, some_is, none_some}
use Rattle.mix_words.specs.Words.{is_name, words_of}
use Rattle.mix_words.specs.Places.{place_of_word}
use Rattle.node_text.specs.Node.{NodeValue}
use Rattle.node_text.specs.Grammar.{Spells}
use Rattle.node_text.specs.Machine.{read_of}
use Rattle.node_text.proofs.Complete.{spells_read}
use Rattle.node_text.proofs.Sound.{read_spells}
use Rattle.mix_script.specs.Forms.{act_by, act_of, either_act, id_act_of}
use Rattle.mix_script.specs.Lines.{act_from, act_in}
use Rattle.mix_script.specs.Texts.{IsAtOf, IsIdOf, TextsAreSpelled}
use Rattle.mix_script.specs.declared.step.Act.{Act}
use Rattle.mix_script.specs.declared.step.Act.TheVariants.{Id, At}
use Rattle.mix_script.specs.declared.step.Forms.TheVariants.{WithIds}
use Rattle.mix_script.proofs.ActForms.{IsPlainAct, plain_of}
use Rattle.mix_script.proofs.FewWords.{few_words}
use Rattle.mix_script.proofs.PlainSteps.{plain_from}

-- no identifier is read from a text that spells none
pub unread_text : (x : List ℕ) → ((node : NodeValue) → Spells x node → ⊥) → None ≡ read_of x
unread_text x never = of (read_of x) (read_spells x)
  where
    of : (o : Option NodeValue) → Gives (Spells x) o → None ≡ o
    of None h = refl
    of (Some node) h = absurd (never node h)

-- an act of a form of identifiers is not among plain ones
not_plain : {Q : Type 0} (o : Option Act) (a : Act) → Gives IsPlainAct o → (IsPlainAct a → ⊥) → o ≡ Some a → Q
not_plain o a plain never e = absurd (never (subst (Gives IsPlainAct) e plain))

-- what words ask for that is not plain they ask for by a form of identifiers
by_id : (o p : Option Act) (a : Act) → Gives IsPlainAct o → (IsPlainAct a → ⊥) → either_act o p ≡ Some a → p ≡ Some a
by_id None p a plain never e = e
by_id (Some b) p a plain never e = not_plain (Some b) a plain never e

-- what a line asks for that is not plain its words ask for by a form of identifiers
line_by_id : (line : List ℕ) (a : Act) → (IsPlainAct a → ⊥) → act_in WithIds line ≡ Some a → id_act_of (words_of line) ≡ Some a
line_by_id line a never e = by_place (place_of_word 4 line) e
  where
    by_place : (place : Option ℕ) → act_from WithIds line place ≡ Some a → id_act_of (words_of line) ≡ Some a
    by_place None k = by_id (act_of (words_of line)) (id_act_of (words_of line)) a (plain_of (words_of line)) never k
    by_place (Some at) k = not_plain (act_from WithIds line (Some at)) a (plain_from line (Some at)) never k

-- what words ask for by a form of identifiers alone their line asks for
id_by_line : (line : List ℕ) (a : Act) (words : List (List ℕ)) → words_of line ≡ words → act_of words ≡ None → id_act_of words ≡ Some a → act_in WithIds line ≡ Some a
id_by_line line a words are none e =
    sym (few_words WithIds line a (ap (act_by WithIds) are ∙ ap (λ o. either_act o (id_act_of words)) none ∙ e))

-- a choice of nothing gives what its first side does, where it holds
chosen : {Q : Type 0} (b : Bool) (o : Option Act) (a : Act) → (IsTrue b → o ≡ Some a → Q) → cond b o None ≡ Some a → Q
chosen true o a h e = h refl e
chosen false o a h e = none_some a e

-- nothing is chosen between nothing and nothing
no_choice : (b : Bool) → ◌≡◌ {A = Option Act} (cond b None None) None
no_choice true = refl
no_choice false = refl

-- WHERE A TEXT IS FOLLOWED

-- the words are X = at TEXT
record AtWords (words : List (List ℕ)) (x : List ℕ) (node : NodeValue) : Type 0 where
  text : List ℕ
  are : words ≡ x ∷ codes "=" ∷ codes "at" ∷ text ∷ []
  name : IsTrue (is_name x)
  spells : Spells text node

-- words that ask for the node that a text names are X = at TEXT
at_words : (words : List (List ℕ)) (x : List ℕ) (node : NodeValue) → id_act_of words ≡ Some (At x node) → AtWords words x node
at_words [] x node e = none_some _ e
at_words (w ∷ []) x node e = none_some _ e
at_words (command ∷ y ∷ []) x node e =
    chosen (bytes_eq command (codes "id") && is_name y) (Some (Id y)) (At x node) (λ _ k. let never = some_is (Id y) (At x node) k in cc) e
at_words (z ∷ is ∷ command ∷ []) x node e = none_some _ e
at_words (z ∷ is ∷ command ∷ text ∷ []) x node e =
    chosen (is_name z && bytes_eq is (codes "=") && bytes_eq command (codes "at")) (option_map (λ n. At z n) (read_of text)) (At x node) (λ b k. read b (read_of text) (read_spells text) k) e
  where
    read : IsTrue (is_name z && bytes_eq is (codes "=") && bytes_eq command (codes "at")) → (o : Option NodeValue) → Gives (Spells text) o → option_map (λ n. At z n) o ≡ Some (At x node)
        → AtWords (z ∷ is ∷ command ∷ text ∷ []) x node
    read b None spells k = none_some _ k
    read b (Some n) spells k =
        let same = some_is (At z n) (At x node) k in
        let last = and_parts (is_name z && bytes_eq is (codes "=")) (bytes_eq command (codes "at")) b in
        let first = and_parts (is_name z) (bytes_eq is (codes "=")) last.0 in
        let one : is ≡ codes "=" = (bytes_eq-Decides is (codes "=")).0 first.1 in
        let two : command ≡ codes "at" = (bytes_eq-Decides command (codes "at")).0 last.1 in
        let left : z ≡ x = cc in
        let right : n ≡ node = cc in
        record {
          text = text;
          are = ap (λ w. w ∷ is ∷ command ∷ text ∷ []) left ∙ ap (λ w. x ∷ w ∷ command ∷ text ∷ []) one ∙ ap (λ w. x ∷ codes "=" ∷ w ∷ text ∷ []) two;
          name = subst (λ w. IsTrue (is_name w)) left first.0;
          spells = subst (Spells text) right spells;
        }
at_words (a ∷ b ∷ c ∷ d ∷ f ∷ words) x node e = none_some _ e

-- a line that asks for the node that a text names is of its form
asked_at : (line x : List ℕ) (node : NodeValue) → act_in WithIds line ≡ Some (At x node) → IsAtOf line x node
asked_at line x node e =
    let at = at_words (words_of line) x node (line_by_id line (At x node) (λ h. cc) e) in
    record { text = at.text; words = at.are; name = at.name; spells = at.spells }

-- a line of the form asks for the node that its text names
at_asked : (line x : List ℕ) (node : NodeValue) → IsAtOf line x node → act_in WithIds line ≡ Some (At x node)
at_asked line x node h =
    id_by_line line (At x node) (x ∷ codes "=" ∷ codes "at" ∷ h.text ∷ []) h.words (no_choice (is_name x && bytes_eq (codes "=") (codes "=") && is_name h.text))
    (ap (λ b. cond (b && bytes_eq (codes "=") (codes "=") && bytes_eq (codes "at") (codes "at")) (option_map (λ n. At x n) (read_of h.text)) None) h.name
    ∙ ap (option_map (λ n. At x n)) (spells_read h.text node h.spells))

-- WHERE A TEXT IS ASKED FOR

-- the words are id Y
record IdWords (words : List (List ℕ)) (y : List ℕ) : Type 0 where
  are : words ≡ codes "id" ∷ y ∷ []
  name : IsTrue (is_name y)

-- words that ask for the text of an identifier are id Y
id_words : (words : List (List ℕ)) (y : List ℕ) → id_act_of words ≡ Some (Id y) → IdWords words y
id_words [] y e = none_some _ e
id_words (w ∷ []) y e = none_some _ e
id_words (command ∷ z ∷ []) y e = chosen (bytes_eq command (codes "id") && is_name z) (Some (Id z)) (Id y) read e
  where
    read : IsTrue (bytes_eq command (codes "id") && is_name z) → Some (Id z) ≡ Some (Id y) → IdWords (command ∷ z ∷ []) y
    read b k =
        let same = some_is (Id z) (Id y) k in
        let parts = and_parts (bytes_eq command (codes "id")) (is_name z) b in
        let one : command ≡ codes "id" = (bytes_eq-Decides command (codes "id")).0 parts.0 in
        let two : z ≡ y = cc in
        record { are = ap (λ w. w ∷ z ∷ []) one ∙ ap (λ w. codes "id" ∷ w ∷ []) two; name = subst (λ w. IsTrue (is_name w)) two parts.1 }
id_words (a ∷ b ∷ c ∷ []) y e = none_some _ e
id_words (z ∷ is ∷ command ∷ text ∷ []) y e =
    chosen (is_name z && bytes_eq is (codes "=") && bytes_eq command (codes "at")) (option_map (λ n. At z n) (read_of text)) (Id y) (λ b k. never (read_of text) k) e
  where
    never : {Q : Type 0} (o : Option NodeValue) → option_map (λ n. At z n) o ≡ Some (Id y) → Q
    never None k = none_some _ k
    never (Some n) k = (let other = some_is (At z n) (Id y) k in cc)
id_words (a ∷ b ∷ c ∷ d ∷ f ∷ words) y e = none_some _ e

-- a line that asks for the text of an identifier is of its form
asked_id : (line y : List ℕ) → act_in WithIds line ≡ Some (Id y) → IsIdOf line y
asked_id line y e =
    let id = id_words (words_of line) y (line_by_id line (Id y) (λ h. cc) e) in
    record { words = id.are; name = id.name }

-- a line of the form asks for the text of an identifier
id_asked : (line y : List ℕ) → IsIdOf line y → act_in WithIds line ≡ Some (Id y)
id_asked line y h =
    id_by_line line (Id y) (codes "id" ∷ y ∷ []) h.words (no_choice (is_name y)) (ap (λ b. cond b (Some (Id y)) None) h.name)

-- THE LAW

-- a line asks for a node by its text, and for a text of a node, exactly where it is of these forms
pub texts_spelled : TextsAreSpelled
texts_spelled line x = (λ node. (asked_at line x node, at_asked line x node), (asked_id line x, id_asked line x))
