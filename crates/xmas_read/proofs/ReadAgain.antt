-- A text of which a rule comes is read as that rule and as nothing else.
use Rattle.std.proofs.Common.{◌≡◌, ◌∙◌, ℕ, List, [], ◌∷◌, Option, Result, Ok, Err, refl, ap, sym, IfOk}
use Rattle.std.specs.Str.{IsUtf8}
use Rattle.xmas_text.specs.Contents.{ElementForm}
use Rattle.xmas_text.specs.Parsed.{RuleForm}
use Rattle.xmas_text.specs.Results.{SpellsWithin}
use Rattle.xmas_text.specs.Results as texts
use Rattle.xmas_text.specs.declared.fault.TextFault.{TextFault}
use Rattle.xmas_text.specs.declared.fault.TextFault.TheVariants as text_fault
use Rattle.xmas_text.specs.declared.cond.CondText.{CondText}
use Rattle.xmas_text.specs.declared.rule.OrderText.{OrderText}
use Rattle.xmas_text.specs.declared.element.ItemText.TheVariants as item
use Rattle.xmas_text.proofs.Answering.{one_tree, answers_tree}
use Rattle.xmas_rule.specs.Rules.{RuleValue}
use Rattle.xmas_rule.specs.RuleMade.{rule_of}
use Rattle.xmas_rule.specs.declared.rule.Rule.{Rule}
use Rattle.xmas_read.specs.declared.fault.Large.TheVariants as large
use Rattle.xmas_read.specs.declared.fault.XmasFault.{XmasFault}
use Rattle.xmas_read.specs.declared.fault.XmasFault.TheVariants as fault
use Rattle.xmas_read.specs.Tree.{Tree, form_of_tree}
use Rattle.xmas_read.specs.Refusals.{checked}
use Rattle.xmas_read.specs.Canonical.{canonical}
use Rattle.xmas_read.specs.Faults.{fault_of_text}
use Rattle.xmas_read.specs.Results.{Answers, Spells, IsWantOfMemory}
use Rattle.xmas_read.specs.Again.{IsReadAs}
use Rattle.xmas_read.proofs.CleanAgain.{comes_again, tree_by, one_element}

-- two trees of one form are one
one_of_form : (t w : Tree) → form_of_tree t ≡ form_of_tree w → t ≡ w
one_of_form t w h =
    let e = one_element t.template w.template (ap (λ (f : RuleForm). f.template) h) in
    let cs = ap (λ (f : RuleForm). f.conds) h in
    let o = ap (λ (f : RuleForm). f.order) h in
    ap (λ (e : ElementForm). tree_by e t.conds t.order) e ∙ ap (λ (cs : List CondText). tree_by w.template cs t.order) cs ∙ ap (λ (o : Option OrderText). tree_by w.template w.conds o) o

-- what comes of the trees that a text spells is the same
one_outcome : (x : List ℕ) (sources : List (List ℕ)) (t w : Tree) → SpellsWithin x (form_of_tree t) → SpellsWithin x (form_of_tree w) → checked sources t ≡ checked sources w
one_outcome x sources t w h k =
    ap (checked sources) (one_of_form t w (one_tree x (form_of_tree t) (form_of_tree w) (h.written, h.writes, h.tree) (k.written, k.writes, k.tree)))

-- a text of which a rule comes has no refusal
no_fault : (x : List ℕ) (sources : List (List ℕ)) (t : Tree) (v : RuleValue) (e : XmasFault) → SpellsWithin x (form_of_tree t) → checked sources t ≡ Ok v
    → ((w : Tree) × SpellsWithin x (form_of_tree w) × (checked sources w ≡ Err e)) → ⊥
no_fault x sources t v e h c (w, k, d) = let same = one_outcome x sources t w h k in cc

-- what is read of a text of which a rule comes is that rule, unless memory ran out
reads_rule :
    (x : List ℕ) (sources : List (List ℕ)) (t : Tree) (v : RuleValue) → IsUtf8 x → SpellsWithin x (form_of_tree t) → checked sources t ≡ Ok v → (answer : Result Rule XmasFault) → Answers x sources answer → IsReadAs v answer
reads_rule x sources t v u h c (Ok r) (i, (w, k, d)) = let same = one_outcome x sources t w h k in cc
reads_rule x sources t v u h c (Err (fault.NotUtf8 at)) a = answers_tree x (Err (text_fault.NotUtf8 at)) (form_of_tree t) a u h
reads_rule x sources t v u h c (Err (fault.Unexpected at)) a = answers_tree x (Err (text_fault.Unexpected at)) (form_of_tree t) a u h
reads_rule x sources t v u h c (Err fault.EndsEarly) a = answers_tree x (Err text_fault.EndsEarly) (form_of_tree t) a u h
reads_rule x sources t v u h c (Err (fault.TooLarge large.Depth)) a = answers_tree x (Err text_fault.TooDeep) (form_of_tree t) a u h
reads_rule x sources t v u h c (Err (fault.TooLarge large.Items)) a = no_fault x sources t v (fault.TooLarge large.Items) h c a.1
reads_rule x sources t v u h c (Err (fault.TooLarge large.Variables)) a = no_fault x sources t v (fault.TooLarge large.Variables) h c a.1
reads_rule x sources t v u h c (Err (fault.TooLarge large.Conditions)) a = no_fault x sources t v (fault.TooLarge large.Conditions) h c a.1
reads_rule x sources t v u h c (Err (fault.TooLarge large.Nesting)) a = no_fault x sources t v (fault.TooLarge large.Nesting) h c a.1
reads_rule x sources t v u h c (Err (fault.TooLarge large.Positions)) a = no_fault x sources t v (fault.TooLarge large.Positions) h c a.1
reads_rule x sources t v u h c (Err (fault.TagDiffers at)) a = no_fault x sources t v (fault.TagDiffers at) h c a.1
reads_rule x sources t v u h c (Err (fault.UnknownSource at)) a = no_fault x sources t v (fault.UnknownSource at) h c a.1
reads_rule x sources t v u h c (Err (fault.BoundTwice at)) a = no_fault x sources t v (fault.BoundTwice at) h c a.1
reads_rule x sources t v u h c (Err (fault.Unbound at)) a = no_fault x sources t v (fault.Unbound at) h c a.1
reads_rule x sources t v u h c (Err (fault.OuterGroup at)) a = no_fault x sources t v (fault.OuterGroup at) h c a.1
reads_rule x sources t v u h c (Err (fault.Loose at)) a = no_fault x sources t v (fault.Loose at) h c a.1
reads_rule x sources t v u h c (Err fault.OutOfMemory) a = tt

-- what a text spells is read of it
pub reads_spelled : (x : List ℕ) (sources : List (List ℕ)) (answer : Result Rule XmasFault) → Answers x sources answer → (v : RuleValue) → Spells x sources v → IsReadAs v answer
reads_spelled x sources answer a v (u, (t, h, c)) = reads_rule x sources t v u h c answer a

-- where memory ran out in a rule's text, it ran out
still_memory : (e : TextFault) → texts.IsWantOfMemory e → IsWantOfMemory (fault_of_text e)
still_memory (text_fault.NotUtf8 at) h = h
still_memory (text_fault.Unexpected at) h = h
still_memory text_fault.EndsEarly h = h
still_memory text_fault.TooDeep h = h
still_memory text_fault.OutOfMemory h = h

-- a fault of a text whose trees are read is want of memory, where the text spells a rule
pub wants_memory : (x : List ℕ) (sources : List (List ℕ)) (e : TextFault) → ((f : RuleForm) → IsUtf8 x → SpellsWithin x f → texts.IsWantOfMemory e)
    → (v : RuleValue) → Spells x sources v → IsWantOfMemory (fault_of_text e)
wants_memory x sources e only v (u, (t, h, c)) = still_memory e (only (form_of_tree t) u h)

-- a rule that is read from some text is read from its canonical text
pub answers_again : (x : List ℕ) (sources : List (List ℕ)) (r : Rule) → Answers x sources (Ok r) → Answers (canonical sources (rule_of r)) sources (Ok r)
answers_again x sources r (u, (t, w, h)) = comes_again x sources t (rule_of r) u w h

-- nothing is read from a rule's canonical text but that rule, unless memory ran out
pub only_again : (x : List ℕ) (sources : List (List ℕ)) (r : Rule) → Answers x sources (Ok r) → (answer : Result Rule XmasFault) → Answers (canonical sources (rule_of r)) sources answer → IsReadAs (rule_of r) answer
only_again x sources r (u, (t, w, h)) answer a =
    let k = comes_again x sources t (rule_of r) u w h in reads_rule (canonical sources (rule_of r)) sources k.1.0 (rule_of r) k.0 k.1.1 k.1.2 answer a
