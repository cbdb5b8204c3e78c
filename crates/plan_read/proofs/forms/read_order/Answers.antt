use Rattle.std.proofs.Common.{◌≡◌, ◌∙◌, ℕ, List, Bor, sym, arith, length}
use Rattle.std.proofs.lemmas.List.{length-map}
use Rattle.std.proofs.lemmas.Bool.Decides.{nat_tests}
use Rattle.plan_read.proofs.Lengths.{order_other}
use Rattle.plan_read.proofs.forms.read_order.Goals.{in_default-via-then-words-lt3, in_default-via-else-words-lt3+else-words-lt4}
use Rattle.plan_read.proofs.forms.read_order.Goals as goal

pub returns-in_default-clause-reads : goal.returns-in_default-clause-reads
returns-in_default-clause-reads c =
    let other : length c.args.words.now ≡ 3 → ⊥ = λ e. elim c.in_default.branch [ in_default-via-then-words-lt3 w ↦ grind (arith, nat_tests) | in_default-via-else-words-lt3+else-words-lt4 w ↦ grind (arith, nat_tests) ] in
    sym (order_other c.args.names.now _ (λ e. other (sym (length-map c.args.words.now (λ (w : Bor (List ℕ)). w.now)) ∙ e)))
