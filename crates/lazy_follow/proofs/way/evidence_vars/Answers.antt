use Rattle.std.proofs.Common.{rules, ◌∙◌, ◌<◌, ◌≤◌, ◌+◌, ◌++◌, ℕ, List, [], ◌∷◌, Option, sym, ap, map, arith, length, drop, append_assoc}
use Rattle.std.specs.declared.alloc.Global.{Global}
use Rattle.std.specs.declared.vec.Vec.{Vec}
use Rattle.mix_base.proofs.Lists.{append_nil}
use Rattle.std.proofs.lemmas.List.{length-map}
use Rattle.plan_core.specs.PlanMade.{op_of}
use Rattle.plan_evidence.specs.Evidence.{is_on_way, vars_from}
use Rattle.lazy_follow.specs.Way.{vars_in}
use Rattle.lazy_follow.proofs.OnWay.{vars_on, vars_end}
use Rattle.lazy_follow.proofs.way.evidence_vars.Goals.{in-Some+in_ok-push, in_default}
use Rattle.lazy_follow.proofs.way.evidence_vars.Goals as goal

pub loop-i-preserved : goal.loop-i-preserved
loop-i-preserved c =
    let ops = map op_of c.args.ops.now in
    let below : c.loop-i.i < length c.args.ops.now = (let r = c.loop-i-test.true in first_of (omega (arith, r), search rules)) in
    let step = vars_on c.args.ops.now c.args.op c.loop-i.i below _ c.index-ops-i.is _ c.leads_to-on_way.ensures _ c.visited.ensures in
    let later : List ℕ = vars_from (is_on_way ops c.args.op) (c.loop-i.i + 1) (drop (c.loop-i.i + 1) ops) in
    elim c.match-visited.branch [
      | in-Some+in_ok-push w ↦
          ap (λ (v : Vec ℕ Global). v.items ++ later) w.vars-is ∙ ap (λ (l : List ℕ). l ++ later) w.in_ok-push.ensures.items
          ∙ append_assoc c.loop-i.vars.items (w.in-Some.out ∷ []) later
          ∙ ap (λ (l : List ℕ). c.loop-i.vars.items ++ l) (ap (λ (r : Option ℕ). vars_in r ++ later) (sym w.in-Some.is) ∙ sym step) ∙ c.loop-i.invariant
      | in_default w ↦
          ap (λ (v : Vec ℕ Global). v.items ++ later) w.vars-is
          ∙ ap (λ (l : List ℕ). c.loop-i.vars.items ++ l) (ap (λ (r : Option ℕ). vars_in r ++ later) (sym w.in_default.is) ∙ sym step) ∙ c.loop-i.invariant
    ]

pub returns : goal.returns
returns c =
    let ops = map op_of c.args.ops.now in
    let past : length ops ≤ c.loop-i.i = (let r = c.loop-i-test.false in let l = length-map c.args.ops.now op_of in first_of (omega (arith, r, l), search rules)) in
    sym (append_nil c.loop-i.vars.items) ∙ ap (λ (l : List ℕ). c.loop-i.vars.items ++ l) (sym (vars_end (is_on_way ops c.args.op) ops c.loop-i.i past)) ∙ c.loop-i.invariant
