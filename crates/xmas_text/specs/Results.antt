-- What reading a rule answers.
use Rattle.std.specs.Prelude.{◌≡◌, ◌<◌, ◌≤◌, ℕ, List, [], ◌∷◌, Result, Ok, Err}
use Rattle.std.specs.Str.{IsUtf8}
use Rattle.std.specs.Str.Lossy.{utf8_valid_len}
use Rattle.mix_base.specs.Reading.{IsUnexpected, IsCut}
use Rattle.xmas_text.specs.declared.element.ItemText.TheVariants as item
use Rattle.xmas_text.specs.declared.rule.RuleText.{RuleText}
use Rattle.xmas_text.specs.declared.fault.TextFault.{TextFault}
use Rattle.xmas_text.specs.declared.fault.TextFault.TheVariants.{NotUtf8, Unexpected, EndsEarly, TooDeep, OutOfMemory}
use Rattle.xmas_text.specs.Grammar.{Rule, Writes}
use Rattle.xmas_text.specs.Levels.{levels}
use Rattle.xmas_text.specs.Parsed.{RuleForm, parsed}

-- the text spells the tree
abbrev pub Spells : List ℕ → RuleForm → Type 0
Spells x v = (r : Rule) × Writes x r × (parsed r ≡ v)

-- no text spells two trees
abbrev pub SpellsAtMostOne : Type 0
SpellsAtMostOne = (x : List ℕ) (v w : RuleForm) → Spells x v → Spells x w → v ≡ w

-- the tree of what the code holds
abbrev pub form_of : RuleText → RuleForm
form_of t = record { template = item.Element t.template ∷ []; conds = t.conds.items; order = t.order }

-- the text spells the tree, with at most 20 levels of elements
pub record SpellsWithin (x : List ℕ) (v : RuleForm) : Type 0 where
  pub written : Rule
  pub writes : Writes x written
  pub tree : parsed written ≡ v
  pub levels : levels written.template ≤ 20

-- the text spells a rule with an element inside 20 others
abbrev pub IsTooDeep : List ℕ → Type 0
IsTooDeep x = (r : Rule) × Writes x r × (20 < levels r.template)

-- the fault is that of the text
abbrev pub Refuses : List ℕ → TextFault → Type 0
Refuses x (NotUtf8 at) = (¬ IsUtf8 x) × (at ≡ utf8_valid_len x)
Refuses x (Unexpected at) = IsUtf8 x × IsUnexpected Spells x at
Refuses x EndsEarly = IsUtf8 x × IsCut Spells x
Refuses x TooDeep = IsUtf8 x × IsTooDeep x
Refuses x OutOfMemory = Unit {0}

-- the tree that the text spells, or why none is read
abbrev pub Answers : List ℕ → Result RuleText TextFault → Type 0
Answers x (Ok t) = IsUtf8 x × SpellsWithin x (form_of t)
Answers x (Err e) = Refuses x e

-- the fault is that memory ran out
abbrev pub IsWantOfMemory : TextFault → Type 0
IsWantOfMemory (NotUtf8 at) = ⊥
IsWantOfMemory (Unexpected at) = ⊥
IsWantOfMemory EndsEarly = ⊥
IsWantOfMemory TooDeep = ⊥
IsWantOfMemory OutOfMemory = Unit {0}

-- the result is this tree, unless memory ran out
abbrev pub IsTree : Result RuleText TextFault → RuleForm → Type 0
IsTree (Ok t) v = form_of t ≡ v
IsTree (Err e) v = IsWantOfMemory e

-- the text is a rule's, with at most 20 levels of elements, or the fault says why not
abbrev pub Scans : {X : Type 0} → List ℕ → Result X TextFault → Type 0
Scans x (Ok u) = (r : Rule) × Writes x r × (levels r.template ≤ 20)
Scans x (Err e) = Refuses x e
