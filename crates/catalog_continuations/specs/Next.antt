-- The words with which a line goes on.
use Rattle.std.specs.Prelude.{◌≡◌, ◌⊎◌, ◌<◌, ◌+◌, ℕ, Bool, true, List, [], ◌∷◌, length, drop, get_or}
use Rattle.std.specs.Str.{bytes_eq}
use Rattle.mix_base.specs.Ascents.{Among}
use Rattle.mix_words.specs.Words.{words_of}
use Rattle.catalog_continuations.specs.declared.form_word.FormWord.{FormWord}
use Rattle.catalog_continuations.specs.declared.form_word.FormWord.TheVariants.{End}
use Rattle.catalog_continuations.specs.declared.line_form.LineForm.{LineForm}
use Rattle.catalog_continuations.specs.Forms.{word_of, words_in}
use Rattle.catalog_continuations.specs.GoesOn.{GoesOnWith}
use Rattle.catalog_continuations.specs.Words.{spelling_of}

-- whether words may be those of a form: the third of them, where there is one, is the word that names it
abbrev pub may_be_of : List (List ℕ) → LineForm → Bool
may_be_of [] form = true
may_be_of (a ∷ []) form = true
may_be_of (a ∷ b ∷ []) form = true
may_be_of (a ∷ b ∷ c ∷ words) form = bytes_eq c (spelling_of (word_of form))

-- a word is this one, with which, and with the words behind it, a front is a line
abbrev pub Leads : List ℕ → List FormWord → FormWord → FormWord → Type 0
Leads front rest word w = (w ≡ word) × GoesOnWith front rest

-- a word is that of a form behind so many, or behind the last one the end, and a front and the words of the form from there on are a line
abbrev pub LeadsAt : List ℕ → List FormWord → ℕ → FormWord → Type 0
LeadsAt front form passed w = Leads front (drop passed form) (get_or form passed End) w

-- a word has one of a row of properties that stands before a number
abbrev pub Below : (ℕ → FormWord → Type 0) → ℕ → FormWord → Type 0
Below P n w = (k : ℕ) × (k < n) × P k w

-- a word is the first of those of a form with which a front that may be of it is a line
abbrev pub StandsIn : List ℕ → LineForm → FormWord → Type 0
StandsIn front form w = (may_be_of (words_of front) form ≡ true) × Below (LeadsAt front (words_in form)) (length (words_in form) + 1) w

-- a word is the first of those of some form with which a front that may be of it is a line
abbrev pub CanStand : List ℕ → FormWord → Type 0
CanStand front w = (form : LineForm) × StandsIn front form w

-- of words each has a property, and all that have it are among them
pub record AreThose (P : FormWord → Type 0) (words : List FormWord) : Type 0 where
  pub each : (w : FormWord) → Among w words → P w
  pub all : (w : FormWord) → P w → Among w words

-- words are those that can stand next in a line behind a front
abbrev pub AreNext : List ℕ → List FormWord → Type 0
AreNext front words = AreThose (CanStand front) words

-- words with a property are added to others: those before are kept, each that is new has the property, and all that have it are there
pub record AreAdded (P : FormWord → Type 0) (old new : List FormWord) : Type 0 where
  pub kept : (w : FormWord) → Among w old → Among w new
  pub each : (w : FormWord) → Among w new → Among w old ⊎ P w
  pub all : (w : FormWord) → P w → Among w new
