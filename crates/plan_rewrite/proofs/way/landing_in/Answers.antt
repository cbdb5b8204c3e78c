use Rattle.std.proofs.Common.{rules, ◌≡◌, ◌+◌, ℕ, Some, length, ap, arith}
use Rattle.std.proofs.lemmas.List.{length-map}
use Rattle.plan_core.specs.PlanMade.{op_of}
use Rattle.plan_make.proofs.Numbering.{numbered-length}
use Rattle.plan_rewrite.proofs.way.landing_in.Goals as goal

pub returns-in_default : goal.returns-in_default
returns-in_default c = λ x e.
    let k = length-map c.args.ops.now op_of in
    let n = ap length e in
    let m = numbered-length x 0 in
    absurd (c.in_default.ensures (omega (arith, k, n, m)))

pub returns : goal.returns
returns c = λ x e.
    let k = length-map c.args.ops.now op_of in
    let n = ap length e in
    let m = numbered-length x 0 in
    let before : c.in-Some.before + 1 ≡ length c.args.ops.now = search rules in
    let last : c.in_ok-last.last ≡ c.in-Some.before = search rules in
    ap (λ (at : ℕ). Some at) (c.landing.ensures c.args.test.now x c.in_ok-c.ensures e (omega (arith, before, last, k, n, m)))
