-- What comes of a tree.
use Rattle.std.proofs.Common.{◌≡◌, ◌∙◌, ◌+◌, ◌<◌, ◌≤◌, ◌^◌, ℕ, Bool, true, false, cond, List, [], ◌∷◌, ◌++◌, Option, Some, None, Result, Ok, Err, refl, ap, sym, subst, length, arith, nat_lt}
use Rattle.std.specs.Str.{IsUtf8}
use Rattle.std.proofs.lemmas.Bool.Decides.{nat_tests}
use Rattle.xmas_text.specs.declared.cond.CondText.{CondText}
use Rattle.xmas_text.specs.declared.cond.CondText.TheVariants as condition
use Rattle.xmas_text.specs.declared.rule.RuleText.{RuleText}
use Rattle.xmas_text.specs.Results.{SpellsWithin, form_of}
use Rattle.xmas_rule.specs.Rules.{RuleValue}
use Rattle.xmas_rule.specs.declared.rule.Rule.{Rule}
use Rattle.xmas_read.specs.declared.fault.Large.{Large}
use Rattle.xmas_read.specs.declared.fault.Large.TheVariants as large
use Rattle.xmas_read.specs.declared.fault.XmasFault.{XmasFault}
use Rattle.xmas_read.specs.declared.fault.XmasFault.TheVariants as fault
use Rattle.xmas_read.specs.Tree.{Tree, tree_of, form_of_tree, bound_names}
use Rattle.xmas_read.specs.Value.{rule_value}
use Rattle.xmas_read.specs.Refusals.{too_large, first_in, first_place, first_of, size_refusals, scope_refusals, template_refusals, refusals, or_rule, checked}
use Rattle.xmas_read.specs.Results.{IsOutcome, ComesOf, Answers}

-- an option that is no value is none
pub none_of : {o : Option XmasFault} → ((e : XmasFault) → o ≡ Some e → ⊥) → o ≡ None
none_of {o = None} h = refl
none_of {o = Some e} h = absurd (h e refl)

-- the first refusal of some is the first of those and of others after them
first_more : (xs ys : List (Option XmasFault)) (e : XmasFault) → first_of xs ≡ Some e → first_of (xs ++ ys) ≡ Some e
first_more [] ys e h = cc
first_more (None ∷ xs) ys e h = first_more xs ys e h
first_more (Some d ∷ xs) ys e h = h

-- where some refusals give none, the first of them and of others after them is that of the others
first_else : (xs ys : List (Option XmasFault)) → first_of xs ≡ None → first_of (xs ++ ys) ≡ first_of ys
first_else [] ys h = refl
first_else (None ∷ xs) ys h = first_else xs ys h
first_else (Some d ∷ xs) ys h = cc

-- a refusal comes of the tree
outcome_is : (o : Result RuleValue XmasFault) (e : XmasFault) → o ≡ Err e → IsOutcome o (Err e)
outcome_is o (fault.NotUtf8 at) h = h
outcome_is o (fault.Unexpected at) h = h
outcome_is o fault.EndsEarly h = h
outcome_is o (fault.TooLarge what) h = h
outcome_is o (fault.TagDiffers at) h = h
outcome_is o (fault.UnknownSource at) h = h
outcome_is o (fault.BoundTwice at) h = h
outcome_is o (fault.Unbound at) h = h
outcome_is o (fault.OuterGroup at) h = h
outcome_is o (fault.Loose at) h = h
outcome_is o fault.OutOfMemory h = tt

-- the first refusal of all comes of the tree
refused : (sources : List (List ℕ)) (t : Tree) (e : XmasFault) → first_of (refusals sources t) ≡ Some e → IsOutcome (checked sources t) (Err e)
refused sources t e h = outcome_is (checked sources t) e (ap (λ o. or_rule o (rule_value sources t)) h)

-- the first refusal for size comes of the tree
pub size_refused : (sources : List (List ℕ)) (t : Tree) (e : XmasFault) → first_of (size_refusals t) ≡ Some e → IsOutcome (checked sources t) (Err e)
size_refused sources t e h = refused sources t e (first_more (size_refusals t) (scope_refusals sources t ++ template_refusals t) e h)

-- where none is for size, the first refusal for a scope comes of the tree
pub scope_refused : (sources : List (List ℕ)) (t : Tree) (e : XmasFault) → first_of (size_refusals t) ≡ None → first_of (scope_refusals sources t) ≡ Some e → IsOutcome (checked sources t) (Err e)
scope_refused sources t e h k =
    refused sources t e (first_else (size_refusals t) (scope_refusals sources t ++ template_refusals t) h ∙ first_more (scope_refusals sources t) (template_refusals t) e k)

-- where no refusal is for size or a scope, the first of all is the first for the template
last_decides : (sources : List (List ℕ)) (t : Tree) → first_of (size_refusals t) ≡ None → first_of (scope_refusals sources t) ≡ None → first_of (refusals sources t) ≡ first_of (template_refusals t)
last_decides sources t h k = first_else (size_refusals t) (scope_refusals sources t ++ template_refusals t) h ∙ first_else (scope_refusals sources t) (template_refusals t) k

-- where none is for size or a scope, the first refusal for the template comes of the tree
pub template_refused :
    (sources : List (List ℕ)) (t : Tree) (e : XmasFault) → first_of (size_refusals t) ≡ None → first_of (scope_refusals sources t) ≡ None
    → first_of (template_refusals t) ≡ Some e → IsOutcome (checked sources t) (Err e)
template_refused sources t e h k l = refused sources t e (last_decides sources t h k ∙ l)

-- where no refusal is for size, a scope or the template, the rule comes of the tree
pub rule_made :
    (sources : List (List ℕ)) (t : Tree) (v : RuleValue) → first_of (size_refusals t) ≡ None → first_of (scope_refusals sources t) ≡ None
    → first_of (template_refusals t) ≡ None → v ≡ rule_value sources t → checked sources t ≡ Ok v
rule_made sources t v h k l e = ap (λ o. or_rule o (rule_value sources t)) (last_decides sources t h k ∙ l) ∙ ap (λ (w : RuleValue). Ok w) (sym e)

-- where no refusal is for size, the third test of those for size fails
third_none :
    (a b c d e : Bool)
    → first_of (too_large a large.Items ∷ too_large b large.Variables ∷ too_large c large.Conditions ∷ too_large d large.Nesting ∷ too_large e large.Positions ∷ []) ≡ None
    → c ≡ false
third_none true b c d e h = cc
third_none false true c d e h = cc
third_none false false true d e h = cc
third_none false false false d e h = refl

-- no more names are bound than there are conditions
names_few : (conds : List CondText) → length (bound_names conds) ≤ length conds
names_few [] = omega arith
names_few (condition.FromSource at source path var ∷ conds) = let h = names_few conds in omega (arith, h)
names_few (condition.FromVar start path var ∷ conds) = let h = names_few conds in omega (arith, h)
names_few (condition.Compare left op right ∷ conds) = let h = names_few conds in omega (arith, h)

-- a tree that isn't too large binds few names
pub few_names : (t : Tree) (names : List (List ℕ)) → first_of (size_refusals t) ≡ None → names ≡ bound_names t.conds → length names < 2 ^ 32
few_names t names h e =
    let c : nat_lt 100 (length t.conds) ≡ false = third_none _ _ _ _ _ h in
    let k = names_few t.conds in
    let m : length (bound_names t.conds) < 2 ^ 32 = grind (arith, nat_tests) in
    subst (λ ns. length ns < 2 ^ 32) (sym e) m

-- a refusal that a tree can have
abbrev IsOfTree : XmasFault → Type 0
IsOfTree (fault.NotUtf8 at) = ⊥
IsOfTree (fault.Unexpected at) = ⊥
IsOfTree fault.EndsEarly = ⊥
IsOfTree (fault.TooLarge large.Depth) = ⊥
IsOfTree (fault.TooLarge large.Items) = Unit {0}
IsOfTree (fault.TooLarge large.Variables) = Unit {0}
IsOfTree (fault.TooLarge large.Conditions) = Unit {0}
IsOfTree (fault.TooLarge large.Nesting) = Unit {0}
IsOfTree (fault.TooLarge large.Positions) = Unit {0}
IsOfTree (fault.TagDiffers at) = Unit {0}
IsOfTree (fault.UnknownSource at) = Unit {0}
IsOfTree (fault.BoundTwice at) = Unit {0}
IsOfTree (fault.Unbound at) = Unit {0}
IsOfTree (fault.OuterGroup at) = Unit {0}
IsOfTree (fault.Loose at) = Unit {0}
IsOfTree fault.OutOfMemory = ⊥

-- the refusal, where there is one, is one that a tree can have
abbrev OfTree : Option XmasFault → Type 0
OfTree None = Unit {0}
OfTree (Some e) = IsOfTree e

-- a refusal for too much of something that a tree can have too much of is one that a tree can have
large_of_tree : (is : Bool) (what : Large) → IsOfTree (fault.TooLarge what) → OfTree (too_large is what)
large_of_tree true what h = h
large_of_tree false what h = tt

-- the first place of a refusal that a tree can have
place_of_tree : (f : ℕ → XmasFault) → ((at : ℕ) → IsOfTree (f at)) → (places : List ℕ) → OfTree (first_place f places)
place_of_tree f h [] = tt
place_of_tree f h (at ∷ places) = h at

-- each of these refusals is one that a tree can have
abbrev AllOfTree : List (Option XmasFault) → Type 0
AllOfTree [] = Unit {0}
AllOfTree (o ∷ os) = OfTree o × AllOfTree os

-- the first of refusals that a tree can have is one that a tree can have
first_of_tree : (os : List (Option XmasFault)) → AllOfTree os → OfTree (first_of os)
first_of_tree [] h = tt
first_of_tree (None ∷ os) h = first_of_tree os h.1
first_of_tree (Some e ∷ os) h = h.0

-- all refusals of a tree are of trees
all_of_tree : (sources : List (List ℕ)) (t : Tree) → AllOfTree (refusals sources t)
all_of_tree sources t =
    (large_of_tree _ large.Items tt, (large_of_tree _ large.Variables tt, (large_of_tree _ large.Conditions tt, (large_of_tree _ large.Nesting tt, (large_of_tree _ large.Positions tt, (place_of_tree (λ at. fault.TagDiffers at) (λ at. tt) _, (place_of_tree (λ at. fault.UnknownSource at) (λ at. tt) _, (place_of_tree (λ at. fault.BoundTwice at) (λ at. tt) _, (place_of_tree (λ at. fault.Unbound at) (λ at. tt) _, (place_of_tree (λ at. fault.OuterGroup at) (λ at. tt) _, (place_of_tree (λ at. fault.Loose at) (λ at. tt) _, tt)))))))))))

-- what comes of a tree is no other refusal
err_of_tree : (o : Option XmasFault) (v : RuleValue) (e : XmasFault) → OfTree o → or_rule o v ≡ Err e → IsOfTree e
err_of_tree None v e h k = cc
err_of_tree (Some d) v e h k = let s : d ≡ e = cc in subst IsOfTree s h

-- what comes of the tree of a text answers for the text
pub answers_of :
    (x : List ℕ) (sources : List (List ℕ)) (t : RuleText) (r : Result Rule XmasFault) → IsUtf8 x → SpellsWithin x (form_of t) → IsOutcome (checked sources (tree_of t)) r
    → Answers x sources r
answers_of x sources t r u w o = by r o
  where
    tree : (e : XmasFault) → checked sources (tree_of t) ≡ Err e → IsOfTree e
    tree e h = err_of_tree (first_of (refusals sources (tree_of t))) (rule_value sources (tree_of t)) e (first_of_tree (refusals sources (tree_of t)) (all_of_tree sources (tree_of t))) h

    by : (r : Result Rule XmasFault) → IsOutcome (checked sources (tree_of t)) r → Answers x sources r
    by (Ok r) o = (u, (tree_of t, w, o))
    by (Err (fault.NotUtf8 at)) o = absurd (tree (fault.NotUtf8 at) o)
    by (Err (fault.Unexpected at)) o = absurd (tree (fault.Unexpected at) o)
    by (Err fault.EndsEarly) o = absurd (tree fault.EndsEarly o)
    by (Err (fault.TooLarge large.Depth)) o = absurd (tree (fault.TooLarge large.Depth) o)
    by (Err (fault.TooLarge large.Items)) o = (u, (tree_of t, w, o))
    by (Err (fault.TooLarge large.Variables)) o = (u, (tree_of t, w, o))
    by (Err (fault.TooLarge large.Conditions)) o = (u, (tree_of t, w, o))
    by (Err (fault.TooLarge large.Nesting)) o = (u, (tree_of t, w, o))
    by (Err (fault.TooLarge large.Positions)) o = (u, (tree_of t, w, o))
    by (Err (fault.TagDiffers at)) o = (u, (tree_of t, w, o))
    by (Err (fault.UnknownSource at)) o = (u, (tree_of t, w, o))
    by (Err (fault.BoundTwice at)) o = (u, (tree_of t, w, o))
    by (Err (fault.Unbound at)) o = (u, (tree_of t, w, o))
    by (Err (fault.OuterGroup at)) o = (u, (tree_of t, w, o))
    by (Err (fault.Loose at)) o = (u, (tree_of t, w, o))
    by (Err fault.OutOfMemory) o = tt
