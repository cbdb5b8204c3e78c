-- Why walks and steps over the events of an operator are refused.
use Rattle.std.proofs.Common.{◌≡◌, ℕ, true, false, sym, subst}
use Rattle.std.specs.Prelude.{Result, Ok, Err, IfOk, IfErr, IsErr, IsErrAnd}
use Rattle.lxp_core.specs.Causes.{HasRose, HasCause}
use Rattle.lxp_core.specs.View.{View, Keeps}
use Rattle.lxp_core.specs.declared.fault.WalkFault.{WalkFault}
use Rattle.lxp_core.specs.declared.fault.WalkFault.TheVariants.{OutOfMemory}
use Rattle.lxp_core.proofs.Causes.{rose_since, cause_since}

-- a call that hands a refusal on has that refusal's cause
pub handed_on : {T : Type 0} (IsNamed : ℕ → Type 0) (old new : View) (r : Result T WalkFault) (e : WalkFault) → IsErr r × IsErrAnd r (λ f. f ≡ e) → HasRose IsNamed old new e → HasCause IsNamed old new r
handed_on IsNamed old new (Ok x) e h rose = tt
handed_on IsNamed old new (Err f) e h rose = subst (HasRose IsNamed old new) (sym h.1) rose

-- a call that hands on that memory was wanting has its cause
pub for_memory : {T : Type 0} (IsNamed : ℕ → Type 0) (old new : View) (r : Result T WalkFault) (e : WalkFault) → IsErr r × IsErrAnd r (λ f. f ≡ e) → e ≡ OutOfMemory → HasCause IsNamed old new r
for_memory IsNamed old new r e h is = handed_on IsNamed old new r e h (subst (HasRose IsNamed old new) (sym is) tt)

-- a call that is refused for want of memory alone has its cause
pub memory_cause : {T : Type 0} (IsNamed : ℕ → Type 0) (old new : View) (r : Result T WalkFault) → IfErr r (λ e. e ≡ OutOfMemory) → HasCause IsNamed old new r
memory_cause IsNamed old new (Ok x) h = tt
memory_cause IsNamed old new (Err e) h = subst (HasRose IsNamed old new) (sym h) tt

-- a call that is refused answers nothing
pub none_given : {T : Type 0} (r : Result T WalkFault) (Holds : T → Type 0) → IsErr r → IfOk r Holds
none_given (Ok x) Holds h = let z : false ≡ true = h in cc
none_given (Err e) Holds h = tt

module _ {S : Type 0} {view : S → View} {came_from : S → S → Type 0} (keeps : (a b : S) → came_from a b → Keeps (view a) (view b)) (IsNamed : ℕ → Type 0) (s t u : S) (came : came_from s t) where
  -- a fault of a call has its cause since each earlier state of the sources
  pub rose_before : (e : WalkFault) → HasRose IsNamed (view t) (view u) e → HasRose IsNamed (view s) (view u) e
  rose_before = rose_since IsNamed IsNamed (view s) (view t) (view u) (λ n r. r) (keeps s t came).faults

  -- a refusal by a call has its cause since each earlier state of the sources
  pub cause_before : {T : Type 0} (r : Result T WalkFault) → HasCause IsNamed (view t) (view u) r → HasCause IsNamed (view s) (view u) r
  cause_before = cause_since IsNamed IsNamed (view s) (view t) (view u) (λ n r. r) (keeps s t came).faults
