-- What reading a rule answers.
use Rattle.std.specs.Prelude.{◌≡◌, ℕ, List, map, Result, Ok, Err}
use Rattle.std.specs.Str.{IsUtf8}
use Rattle.mix_catalog.specs.declared.source.SourceSpec.{SourceSpec}
use Rattle.xmas_text.specs.Results as texts
use Rattle.xmas_text.specs.declared.fault.TextFault.TheVariants as text_fault
use Rattle.xmas_rule.specs.Rules.{RuleValue}
use Rattle.xmas_rule.specs.RuleMade.{rule_of}
use Rattle.xmas_rule.specs.declared.rule.Rule.{Rule}
use Rattle.xmas_read.specs.declared.fault.Large.{Large}
use Rattle.xmas_read.specs.declared.fault.Large.TheVariants as large
use Rattle.xmas_read.specs.declared.fault.XmasFault.{XmasFault}
use Rattle.xmas_read.specs.declared.fault.XmasFault.TheVariants as fault
use Rattle.xmas_read.specs.Tree.{Tree, form_of_tree}
use Rattle.xmas_read.specs.Refusals.{checked}

-- the names of a catalog's sources, by their numbers
abbrev pub names_of_sources : List SourceSpec → List (List ℕ)
names_of_sources sources = map (λ (s : SourceSpec). s.name) sources

-- the result is what comes of a tree, unless memory ran out
abbrev pub IsOutcome : Result RuleValue XmasFault → Result Rule XmasFault → Type 0
IsOutcome outcome (Ok r) = outcome ≡ Ok (rule_of r)
IsOutcome outcome (Err (fault.NotUtf8 at)) = outcome ≡ Err (fault.NotUtf8 at)
IsOutcome outcome (Err (fault.Unexpected at)) = outcome ≡ Err (fault.Unexpected at)
IsOutcome outcome (Err fault.EndsEarly) = outcome ≡ Err fault.EndsEarly
IsOutcome outcome (Err (fault.TooLarge what)) = outcome ≡ Err (fault.TooLarge what)
IsOutcome outcome (Err (fault.TagDiffers at)) = outcome ≡ Err (fault.TagDiffers at)
IsOutcome outcome (Err (fault.UnknownSource at)) = outcome ≡ Err (fault.UnknownSource at)
IsOutcome outcome (Err (fault.BoundTwice at)) = outcome ≡ Err (fault.BoundTwice at)
IsOutcome outcome (Err (fault.Unbound at)) = outcome ≡ Err (fault.Unbound at)
IsOutcome outcome (Err (fault.OuterGroup at)) = outcome ≡ Err (fault.OuterGroup at)
IsOutcome outcome (Err (fault.Loose at)) = outcome ≡ Err (fault.Loose at)
IsOutcome outcome (Err fault.OutOfMemory) = Unit {0}

-- the text spells a tree with at most 20 levels, and this is what comes of the tree
abbrev pub ComesOf : List ℕ → List (List ℕ) → Result Rule XmasFault → Type 0
ComesOf x sources result = (t : Tree) × texts.SpellsWithin x (form_of_tree t) × IsOutcome (checked sources t) result

-- a rule's text has too much of something
abbrev pub IsTooLarge : List ℕ → List (List ℕ) → Large → Type 0
IsTooLarge x sources large.Depth = texts.IsTooDeep x
IsTooLarge x sources large.Items = ComesOf x sources (Err (fault.TooLarge large.Items))
IsTooLarge x sources large.Variables = ComesOf x sources (Err (fault.TooLarge large.Variables))
IsTooLarge x sources large.Conditions = ComesOf x sources (Err (fault.TooLarge large.Conditions))
IsTooLarge x sources large.Nesting = ComesOf x sources (Err (fault.TooLarge large.Nesting))
IsTooLarge x sources large.Positions = ComesOf x sources (Err (fault.TooLarge large.Positions))

-- the fault is that of the text, over sources of these names
abbrev pub Refuses : List ℕ → List (List ℕ) → XmasFault → Type 0
Refuses x sources (fault.NotUtf8 at) = texts.Refuses x (text_fault.NotUtf8 at)
Refuses x sources (fault.Unexpected at) = texts.Refuses x (text_fault.Unexpected at)
Refuses x sources fault.EndsEarly = texts.Refuses x text_fault.EndsEarly
Refuses x sources (fault.TooLarge what) = IsUtf8 x × IsTooLarge x sources what
Refuses x sources (fault.TagDiffers at) = IsUtf8 x × ComesOf x sources (Err (fault.TagDiffers at))
Refuses x sources (fault.UnknownSource at) = IsUtf8 x × ComesOf x sources (Err (fault.UnknownSource at))
Refuses x sources (fault.BoundTwice at) = IsUtf8 x × ComesOf x sources (Err (fault.BoundTwice at))
Refuses x sources (fault.Unbound at) = IsUtf8 x × ComesOf x sources (Err (fault.Unbound at))
Refuses x sources (fault.OuterGroup at) = IsUtf8 x × ComesOf x sources (Err (fault.OuterGroup at))
Refuses x sources (fault.Loose at) = IsUtf8 x × ComesOf x sources (Err (fault.Loose at))
Refuses x sources fault.OutOfMemory = Unit {0}

-- the text spells the rule, over sources of these names
abbrev pub Spells : List ℕ → List (List ℕ) → RuleValue → Type 0
Spells x sources v = IsUtf8 x × ((t : Tree) × texts.SpellsWithin x (form_of_tree t) × (checked sources t ≡ Ok v))

-- the fault is that memory ran out
abbrev pub IsWantOfMemory : XmasFault → Type 0
IsWantOfMemory (fault.NotUtf8 at) = ⊥
IsWantOfMemory (fault.Unexpected at) = ⊥
IsWantOfMemory fault.EndsEarly = ⊥
IsWantOfMemory (fault.TooLarge what) = ⊥
IsWantOfMemory (fault.TagDiffers at) = ⊥
IsWantOfMemory (fault.UnknownSource at) = ⊥
IsWantOfMemory (fault.BoundTwice at) = ⊥
IsWantOfMemory (fault.Unbound at) = ⊥
IsWantOfMemory (fault.OuterGroup at) = ⊥
IsWantOfMemory (fault.Loose at) = ⊥
IsWantOfMemory fault.OutOfMemory = Unit {0}

-- the rule that the text spells over sources of these names, or why none is read
abbrev pub Answers : List ℕ → List (List ℕ) → Result Rule XmasFault → Type 0
Answers x sources (Ok r) = Spells x sources (rule_of r)
Answers x sources (Err e) = Refuses x sources e
