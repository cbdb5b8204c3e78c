-- Causes of faults, from call to call.
use Rattle.std.proofs.Common.{ℕ, ◌≤◌, Result, Ok, Err}
use Rattle.mix_base.proofs.Risen.{risen_before}
use Rattle.lxp_core.specs.View.{View}
use Rattle.lxp_core.specs.Causes.{HasRose, HasCause}
use Rattle.lxp_core.specs.declared.fault.WalkFault.{WalkFault}
use Rattle.lxp_core.specs.declared.fault.WalkFault.TheVariants.{Failed, OutOfMemory}

module _ (IsNamed IsOther : ℕ → Type 0) (u v w : View) (named : (s : ℕ) → IsNamed s → IsOther s) (rose : (s : ℕ) → u.faults s ≤ v.faults s) where
  -- a fault of a later call has its cause since an earlier state
  pub rose_since : (e : WalkFault) → HasRose IsNamed v w e → HasRose IsOther u w e
  rose_since (Failed s) h = (named s h.0, risen_before (u.faults s) (v.faults s) (w.faults s) (rose s) h.1)
  rose_since OutOfMemory h = tt

  -- a refusal by a later call has its cause since an earlier state
  pub cause_since : {T : Type 0} (r : Result T WalkFault) → HasCause IsNamed v w r → HasCause IsOther u w r
  cause_since (Ok x) h = tt
  cause_since (Err e) h = rose_since e h
