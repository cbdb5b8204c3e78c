use Rattle.std.proofs.Common.{◌≡◌, Some, None, sym, ◌∙◌, arith}
use Rattle.std.proofs.lemmas.Slice.Eq.{strip_prefix_is}
use Rattle.std.proofs.lemmas.Bool.Decides.{Decides-eqb, nat_tests}
use Rattle.lazy_seek.proofs.evidence.behind.Goals as goal

pub returns-in_err-rest : goal.returns-in_err-rest
returns-in_err-rest c =
    let h = strip_prefix_is Decides-eqb c.args.steps.now c.args.front.now c.strip_prefix.result c.strip_prefix.ensures.cases in
    let none : c.strip_prefix.result ≡ None = c.in_err-rest.was in
    let g = rw none at h in rw c.from_residual.ensures (λ rest l e. g rest (sym e))

pub returns-else-is_empty : goal.returns-else-is_empty
returns-else-is_empty c =
    let h = strip_prefix_is Decides-eqb c.args.steps.now c.args.front.now c.strip_prefix.result c.strip_prefix.ensures.cases in
    let some : c.strip_prefix.result ≡ Some c.in_ok-rest.rest = c.in_ok-rest.was in
    let g = rw some at h in
    let e = sym c.is_empty.ensures ∙ c.if-is_empty.false in (grind (arith, nat_tests, e), sym g)
