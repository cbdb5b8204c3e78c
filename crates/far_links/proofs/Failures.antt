-- Why fills over lines fail, said of what is asked for.
use Rattle.std.proofs.Common.{◌≡◌, ◌<◌, ◌≤◌, ◌-◌, ◌^◌, ◌∙◌, ℕ, Bool, true, false, refl, sym, subst, arith}
use Rattle.std.specs.Prelude.{if◌then◌else◌, Option, Some, None, Result, Ok, Err, IfOk, IfErr, OnOk, MatchOption, is_some}
use Rattle.lxp_core.specs.declared.open_tree.HoleId.{HoleId}
use Rattle.lxp_core.specs.Open.{Open, AllHoles, weight_of}
use Rattle.lxp_remote.specs.Remotes as remote
use Rattle.lxp_remote.specs.Remotes.{Remoting}
use Rattle.far_keep.specs.Names.{is_far_root}
use Rattle.far_keep.specs.Views.{far_root}
use Rattle.far_links.specs.declared.fault.FarFault.{FarFault}
use Rattle.far_links.specs.declared.fault.FarFault.TheVariants.{Unopened, Wire, NoSource, RootNamed}
use Rattle.far_links.specs.Failing.{FailsOpened, HasFailed, HasSources, meant}
use Rattle.far_links.specs.Holes.{is_below}
use Rattle.far_links.specs.Standing.{Standing, opened, weight, weight_in}
use Rattle.far_links.proofs.Standings.{weighs_below}

-- a fact of a value that follows from two others holds of each value for which these hold
pub ok_both : {A E : Type 0} (r : Result A E) (P Q R : A → Type 0) → ((a : A) → P a → Q a → R a) → IfOk r P → IfOk r Q → IfOk r R
ok_both (Ok a) P Q R f p q = f a p q
ok_both (Err e) P Q R f p q = tt

-- a fact of a value that follows from another holds of each value for which that holds
pub ok_more : {A E : Type 0} (r : Result A E) (P Q : A → Type 0) → ((a : A) → P a → Q a) → IfOk r P → IfOk r Q
ok_more (Ok a) P Q f p = f a p
ok_more (Err e) P Q f p = tt

-- a fact of an error that follows from another holds of each error for which that holds
pub err_more : {A E : Type 0} (r : Result A E) (P Q : E → Type 0) → ((e : E) → P e → Q e) → IfErr r P → IfErr r Q
err_more (Ok a) P Q f p = tt
err_more (Err e) P Q f p = f e p

-- what is no error is a value
pub ok_of : {A E : Type 0} (r : Result A E) (P : Type 0) → ((e : E) → r ≡ Err e → ⊥) → OnOk r P → P
ok_of (Ok a) P none p = p
ok_of (Err e) P none p = absurd (none e refl)

-- a weight is there where it isn't told that none is
pub weighed : (o : Option ℕ) (known : Bool) (P : ℕ → Type 0) → MatchOption o (known ≡ false) P → known ≡ true → is_some o ≡ true
weighed (Some n) known P m e = refl
weighed None known P m e = (let c : false ≡ true = sym m ∙ e in absurd cc)

-- of two choices the second is taken where the test fails
else_of : {A : Type 0} (b : Bool) (x y : A) → b ≡ false → (if b then x else y) ≡ y
else_of true x y e = absurd cc
else_of false x y e = refl

-- of two choices the first is taken where the test holds
then_of : {A : Type 0} (b : Bool) (x y : A) → b ≡ true → (if b then x else y) ≡ x
then_of true x y e = refl
then_of false x y e = absurd cc

-- over sources that are told the fill of a hole that is none of a whole document failed for the cause of the fill there
pub fails_known : (v : Standing) (q r : Remoting) (s : ℕ) (h : HoleId) → is_far_root h ≡ false → HasSources v q → (cause : FarFault) → FailsOpened q r s h cause → HasFailed v (opened r) s h cause
fails_known v q r s h e has (Unopened fault) f = absurd f
fails_known v q r s h e has (Wire fault) f = (q, r, has, refl, subst (λ i. FailsOpened q r s i (Wire fault)) (sym (else_of (is_far_root h) ((remote.view_of q).root s) h e)) f)
fails_known v q r s h e has NoSource f = absurd f
fails_known v q r s h e has RootNamed f = (q, r, has, refl, subst (λ i. FailsOpened q r s i RootNamed) (sym (else_of (is_far_root h) ((remote.view_of q).root s) h e)) f)

-- over sources that are told the fill of a whole document failed for the cause of the fill of the source's root
pub fails_root : (v : Standing) (q r : Remoting) (s : ℕ) (h : HoleId) → h ≡ (remote.view_of q).root s → HasSources v q → (cause : FarFault) → FailsOpened q r s h cause → HasFailed v (opened r) s far_root cause
fails_root v q r s h e has (Unopened fault) f = absurd f
fails_root v q r s h e has (Wire fault) f = (q, r, has, refl, subst (λ i. FailsOpened q r s i (Wire fault)) e f)
fails_root v q r s h e has NoSource f = absurd f
fails_root v q r s h e has RootNamed f = (q, r, has, refl, subst (λ i. FailsOpened q r s i RootNamed) e f)

-- a hole with the words of a whole document means what that of a whole document means
meant_same : (q : Remoting) (s : ℕ) (h : HoleId) → is_far_root h ≡ true → meant q s far_root ≡ meant q s h
meant_same q s h e = sym (then_of (is_far_root h) ((remote.view_of q).root s) h e)

-- the fill of a hole with the words of a whole document failed for the cause of the whole document's
pub fails_same : (old new : Standing) (s : ℕ) (h : HoleId) → is_far_root h ≡ true → (cause : FarFault) → HasFailed old new s far_root cause → HasFailed old new s h cause
fails_same old new s h e (Unopened fault) f = f
fails_same old new s h e (Wire fault) (q, r, has, is, f) = (q, r, has, is, subst (λ i. FailsOpened q r s i (Wire fault)) (meant_same q s h e) f)
fails_same old new s h e NoSource f = f
fails_same old new s h e RootNamed (q, r, has, is, f) = (q, r, has, is, subst (λ i. FailsOpened q r s i RootNamed) (meant_same q s h e) f)

-- a list below a whole document is lighter than it
pub root_lighter : (old new : Standing) (s : ℕ) (h : HoleId) (o : Open) → is_far_root h ≡ true → AllHoles is_below o → weight_of (weight_in new s) o < 2 ^ 128 → weight_of (weight new s) o ≤ weight old s h
root_lighter old new s h o e below light = omega (arith, weighs_below new s o below, light, then_of (is_far_root h) (2 ^ 128 - 1) (weight_in old s h) e)

-- a list below another hole is lighter than it
pub known_lighter : (old new : Standing) (s : ℕ) (h : HoleId) (o : Open) → is_far_root h ≡ false → AllHoles is_below o → weight_of (weight_in new s) o ≤ weight_in old s h → weight_of (weight new s) o ≤ weight old s h
known_lighter old new s h o e below light = omega (arith, weighs_below new s o below, light, else_of (is_far_root h) (2 ^ 128 - 1) (weight_in old s h) e)
