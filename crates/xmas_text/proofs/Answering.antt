-- What the passes over a text say together.
use Rattle.std.proofs.Common.{◌≡◌, ◌≤◌, ◌+◌, ◌∙◌, ℕ, List, Result, Ok, Err, IfOk, sym, ap, subst, arith, drop}
use Rattle.std.specs.Str.{IsUtf8}
use Rattle.std.proofs.lemmas.List.{take-append-drop}
use Rattle.mix_base.proofs.Choices.{some_is}
use Rattle.xmas_text.specs.declared.rule.RuleText.{RuleText}
use Rattle.xmas_text.specs.declared.fault.TextFault.{TextFault}
use Rattle.xmas_text.specs.declared.fault.TextFault.TheVariants.{NotUtf8, Unexpected, EndsEarly, TooDeep, OutOfMemory}
use Rattle.xmas_text.specs.Grammar.{Rule, Writes}
use Rattle.xmas_text.specs.Levels.{levels}
use Rattle.xmas_text.specs.Parsed.{RuleForm, parsed}
use Rattle.xmas_text.specs.Results.{Spells, SpellsWithin, Answers, IsTree, form_of}
use Rattle.xmas_text.specs.Named.{IsNamedTree}
use Rattle.xmas_text.proofs.Complete.{writes_read}
use Rattle.xmas_text.proofs.Named.{spells_named}

-- no text is written in two ways
one_written : (x : List ℕ) (r s : Rule) → Writes x r → Writes x s → r ≡ s
one_written x r s h k = some_is r s (sym (writes_read x r h) ∙ writes_read x s k)

-- no text spells two trees
pub one_tree : (x : List ℕ) (v w : RuleForm) → Spells x v → Spells x w → v ≡ w
one_tree x v w (r, h, e) (s, k, d) = sym e ∙ ap parsed (one_written x r s h k) ∙ d

-- a tree that a rule of at most 20 levels spells is spelled within the limit
pub within : (x : List ℕ) (v : RuleForm) → (r : Rule) × Writes x r × (levels r.template ≤ 20) → Spells x v → SpellsWithin x v
within x v (r, h, l) (s, k, d) = record { written = r; writes = h; tree = ap parsed (one_written x r s h k) ∙ d; levels = l }

-- what is spelled within the limit is spelled
within_spells : (x : List ℕ) (v : RuleForm) → SpellsWithin x v → Spells x v
within_spells x v h = (h.written, h.writes, h.tree)

-- what is spelled within the limit is read
pub answers_tree : (x : List ℕ) (r : Result RuleText TextFault) (v : RuleForm) → Answers x r → IsUtf8 x → SpellsWithin x v → IsTree r v
answers_tree x (Ok t) v a u h = one_tree x (form_of t) v (within_spells x (form_of t) a.1) (within_spells x v h)
answers_tree x (Err (NotUtf8 at)) v a u h = a.0 u
answers_tree x (Err (Unexpected at)) v a u h =
    let parts = take-append-drop (at + 1) x in
    a.1.wrong (drop (at + 1) x, v, subst IsUtf8 (sym parts) u, subst (λ y. Spells y v) (sym parts) (within_spells x v h))
answers_tree x (Err EndsEarly) v a u h = a.1.none v (within_spells x v h)
answers_tree x (Err TooDeep) v (k, (r, w, d)) u h =
    let same : levels r.template ≡ levels h.written.template = ap (λ s. levels s.template) (one_written x r h.written w h.writes) in
    absurd (omega (arith, d, same, h.levels))
answers_tree x (Err OutOfMemory) v a u h = tt

-- what is read has names, variables and paths as the grammar has them
pub answers_named : (x : List ℕ) (r : Result RuleText TextFault) → Answers x r → IfOk r (λ t. IsNamedTree (form_of t))
answers_named x (Ok t) a = spells_named x (form_of t) (within_spells x (form_of t) a.1)
answers_named x (Err e) a = tt
