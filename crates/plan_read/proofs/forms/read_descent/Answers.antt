use Rattle.std.proofs.Common.{◌≡◌, ◌∙◌, ℕ, List, Bor, sym, arith, length}
use Rattle.std.proofs.lemmas.List.{length-map}
use Rattle.std.proofs.lemmas.Bool.Decides.{nat_tests}
use Rattle.plan_read.proofs.Lengths.{descent_other}
use Rattle.plan_read.proofs.forms.read_descent.Goals.{in_default-via-then-words-lt5, in_default-via-else-words-lt5+else-words-lt6}
use Rattle.plan_read.proofs.forms.read_descent.Goals as goal

pub returns-in_default-clause-reads : goal.returns-in_default-clause-reads
returns-in_default-clause-reads c =
    let other : length c.args.words.now ≡ 5 → ⊥ = λ e. elim c.in_default.branch [ in_default-via-then-words-lt5 w ↦ grind (arith, nat_tests) | in_default-via-else-words-lt5+else-words-lt6 w ↦ grind (arith, nat_tests) ] in
    sym (descent_other c.args.names.now _ (λ e. other (sym (length-map c.args.words.now (λ (w : Bor (List ℕ)). w.now)) ∙ e)))
