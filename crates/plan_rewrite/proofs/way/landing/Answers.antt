use Rattle.std.proofs.Common.{List, map, ℕ, length, sym, ap, subst, ◌∙◌, arith}
use Rattle.std.specs.Prelude.{Some}
use Rattle.std.proofs.lemmas.List.{length-map}
use Rattle.plan_core.specs.Plans.{Operator}
use Rattle.plan_core.specs.PlanMade.{op_of}
use Rattle.plan_rewrite.specs.Edits.{landing}
use Rattle.plan_make.specs.Trees.{under}
use Rattle.plan_make.proofs.Numbering.{numbered-length}
use Rattle.plan_rewrite.proofs.Walking.{StandsAt, Steps, way_step, way_begins}
use Rattle.plan_rewrite.proofs.way.landing.Goals as goal

pub loop-init : goal.loop-init
loop-init c = λ t x h e l. (
  subst (λ (n : ℕ). StandsAt t (map op_of c.args.ops.now) (landing t x) n) (sym l) (subst (λ (ops : List Operator). StandsAt t ops (landing t x) (under x)) (sym e) (way_begins t x)),
  omega (arith, l),
)

pub returns-in-None : goal.returns-in-None
returns-in-None c = λ t x h e l.
    let s = c.loop.invariant t x h e l in
    subst (Steps t (map op_of c.args.ops.now) (landing t x) c.loop.at) (sym (c.next.ensures t h) ∙ c.in-None.is) (way_step t (map op_of c.args.ops.now) (landing t x) c.loop.at s.0)

pub loop-preserved : goal.loop-preserved
loop-preserved c = λ t x h e l.
    let s = c.loop.invariant t x h e l in
    let r : Steps t (map op_of c.args.ops.now) (landing t x) c.loop.at (Some c.in-Some.n) =
    subst (Steps t (map op_of c.args.ops.now) (landing t x) c.loop.at) (sym (c.next.ensures t h) ∙ c.in-Some.is) (way_step t (map op_of c.args.ops.now) (landing t x) c.loop.at s.0) in
    (r.0, omega (arith, s.1, r.1))

pub returns : goal.returns
returns c = λ t x h e l.
    let s = c.loop.invariant t x h e l in
    let k = length-map c.args.ops.now op_of in
    let n = ap length e in
    let m = numbered-length x 0 in
    let f = c.loop-test.false in
    absurd (omega (arith, s.1, k, n, m, f))
