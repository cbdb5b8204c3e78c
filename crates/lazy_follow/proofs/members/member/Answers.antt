use Rattle.std.proofs.Common.{◌≡◌, ◌∙◌, ◌<◌, ℕ, true, false, sym, ap, subst, arith, length}
use Rattle.plan_core.specs.declared.plan.Plan.{Plan}
use Rattle.plan_core.specs.ByNumber.{op_at}
use Rattle.plan_core.specs.PlanMade.{plan_value}
use Rattle.plan_evidence.specs.Evidence.{IsEvidence}
use Rattle.plan_forms.specs.Forms.{input_at, keys_of}
use Rattle.lazy_plan.specs.Bench.{state_of, documents}
use Rattle.lazy_follow.proofs.Groups.{given_evidence, spotted_on, agreement_on}
use Rattle.lazy_follow.proofs.members.member.Goals as goal

pub is_same_group-requires-clause-spotted : goal.is_same_group-requires-clause-spotted
is_same_group-requires-clause-spotted g c =
    let view = g.S.Sources.view c.sought.new.s in
    let a = state_of (g.S.Sources.view c.args.s.now) c.args.bench.now in
    let b = state_of view c.sought.new.bench in
    let kept = c.sought.ensures.sought.ran.kept in
    let spots = rw c.in-Some.is at c.in_ok-spots.ensures.spots in (
      c.requires.group.0,
      c.args.tuple.now,
      (
        view,
        c.sought.ensures.sought.ran.bench,
        (spotted_on a b kept c.requires.group.0 c.args.group.now.here.now c.requires.group.1.here, c.in_ok-there.ensures.spotted view c.args.tuple.now spots),
      ),
    )

pub returns-then-is_same_group-clause-answer : goal.returns-then-is_same_group-clause-answer
returns-then-is_same_group-clause-answer g c = λ places group tells.
    let view = g.S.Sources.view c.sought.new.s in
    let p = plan_value c.args.bench.now.fixed.plan in
    let a = state_of (g.S.Sources.view c.args.s.now) c.args.bench.now in
    let b = state_of view c.sought.new.bench in
    let kept = c.sought.ensures.sought.ran.kept in
    let spots = rw c.in-Some.is at c.in_ok-spots.ensures.spots in
    let given = (rw c.in-Some.is at c.in_ok-spots.ensures.answer) tells in
    let input = c.input_of-input.ensures ∙ ap (λ (q : Plan). input_at (plan_value q).ops c.args.group.now.op) c.plan.ensures in
    let keys = c.group_keys.ensures ∙ ap (λ (q : Plan). keys_of (op_at (plan_value q).ops c.args.group.now.op)) c.plan-2.ensures in
    let low = group.low in
    let w = group.within in
    let within : input_at p.ops c.args.group.now.op < length p.ops = omega (arith, low, w) in
    let same = c.is_same_group.ensures places c.args.tuple.now view c.sought.ensures.sought.ran.bench (spotted_on a b kept places c.args.group.now.here.now group.here)
    (c.in_ok-there.ensures.spotted view c.args.tuple.now spots) (kept.told ∙ tells) in
    let on = agreement_on a b kept c.args.group.now.op c.args.group.now.here.now.op c.in_ok-there.there.op places c.args.tuple.now _ keys (c.in_ok-there.ensures.op ∙ input) in
    record {
      evidence = given_evidence p c.requires.bench.valid (documents a) (input_at p.ops c.args.group.now.op) within c.args.tuple.now given.0
          (subst (λ (n : ℕ). IsEvidence (documents a) p.ops n c.args.tuple.now given.0) input given.1);
      same_group = sym on ∙ sym same ∙ c.if-is_same_group.true;
    }

pub returns-else-is_same_group-clause-answer : goal.returns-else-is_same_group-clause-answer
returns-else-is_same_group-clause-answer g c = λ places group tells met.
    let view = g.S.Sources.view c.sought.new.s in
    let a = state_of (g.S.Sources.view c.args.s.now) c.args.bench.now in
    let b = state_of view c.sought.new.bench in
    let kept = c.sought.ensures.sought.ran.kept in
    let spots = rw c.in-Some.is at c.in_ok-spots.ensures.spots in
    let input = c.input_of-input.ensures ∙ ap (λ (q : Plan). input_at (plan_value q).ops c.args.group.now.op) c.plan.ensures in
    let keys = c.group_keys.ensures ∙ ap (λ (q : Plan). keys_of (op_at (plan_value q).ops c.args.group.now.op)) c.plan-2.ensures in
    let same = c.is_same_group.ensures places c.args.tuple.now view c.sought.ensures.sought.ran.bench (spotted_on a b kept places c.args.group.now.here.now group.here)
    (c.in_ok-there.ensures.spotted view c.args.tuple.now spots) (kept.told ∙ tells) in
    let on = agreement_on a b kept c.args.group.now.op c.args.group.now.here.now.op c.in_ok-there.there.op places c.args.tuple.now _ keys (c.in_ok-there.ensures.op ∙ input) in
    let f : true ≡ false = sym met.same_group ∙ sym on ∙ sym same ∙ c.if-is_same_group.false in
    let no : ⊥ = cc in no
