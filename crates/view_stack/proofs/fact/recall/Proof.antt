-- A fact of which only that it has a proof is known, may be used in a proof of what code does, since proofs of that don't differ. So the function is proved as one that requires a proof.
use mathlib.Core.Logic.{∥∥₁_elim}
use seplogic.Ra.Ura.{Ura}
use base.Logic.{SProp, ent, sep, via}
use contract.Monad.{fact}
use denote.RattleType.{RattleType}
use denote.Param.Laws.{Laws}
use denote.Triple.Walked.{needs}
use denote.Triple.Entry.{on_entry}
use borrow.Fn.Claims.{with_fact}
use borrow.Fn.Kinds.{sig_of}
use mir.Syntax.{Dict}
use Rattle.view_stack.specs.declared.fact.Fact.{Ghosts}
use Rattle.view_stack.proofs.fact.recall.Statement.{statement}
use Rattle.view_stack.proofs.fact.recall.Tie.{close}
use Rattle.view_stack.proofs.fact.recall.Lts as walk
use Rattle.view_stack.proofs.fact.recall.Reads as reads

-- an assertion may make use of a fact of which only that it has a proof is known
merely : {M : Type 1} (𝓤 : Ura M) {P Q : SProp 𝓤} {A : Type 0} → ∥ A ∥₁ → (A → ent 𝓤 P Q) → ent 𝓤 P Q
merely 𝓤 {Q = Q} t f = record { apply = λ m k. ∥∥₁_elim t (Q.holds_prop m) (λ x. (f x).apply m k) }

module _ (T P : RattleType) (LT : Laws T) (LP : Laws P) (ghosts : Ghosts P.Denot T.Denot) (d : Dict) where
  -- the function's condition, with a proof of the fact
  abbrev Known : walk.Pre-type T P LT LP d
  Known κs a = ghosts.holds a.0.now

  -- with a proof of the fact, the code does what the contract says
  known : (M : Type 1) → walk.Closed T P LT LP d Known (reads.Post T P LT LP ghosts d) M
  known M = walk.spec T P LT LP d Known (reads.Post T P LT LP ghosts d) (λ c. c.requires)

  -- where only that there is a proof is known, the code does what the contract says
  closed : (M : Type 1) → walk.Closed T P LT LP d (reads.Pre T P LT LP ghosts d) (reads.Post T P LT LP ghosts d) M
  closed M 𝓤 𝓛 𝓣 y =
      let E : SProp 𝓤 = on_entry 𝓛 (sig_of 3 (walk.ps T P LT LP d) (walk.r T P LT LP d)) y.0.0 y.0.1 y.0.3 y.0.4 in
      needs 𝓤 (reads.Pre T P LT LP ghosts d y.0.0 y.0.3) E (λ p. merely 𝓤 (reads.pre-apart T P LT LP ghosts d y.0.0 y.0.3 p) (λ h.
      via 𝓤 (sep 𝓤 E (fact 𝓤 (Known y.0.0 y.0.3))) (with_fact 𝓤 (Known y.0.0 y.0.3) E h) (known M 𝓤 𝓛 𝓣 y)))

-- the contract of `recall` holds
pub recall_spec : {M : Type 1} → statement M
recall_spec {M} = close (λ T P LT LP ghosts d w met. closed T P LT LP ghosts d M)
