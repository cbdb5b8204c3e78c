use Rattle.std.proofs.Common.{rules, arith, ◌≡◌, ◌∙◌, ◌<◌, ◌+◌, ℕ, suc, true, false, inl, inr, sym, ap, subst, length, take}
use Rattle.std.specs.Prelude.{slice_index_or}
use Rattle.plan_core.specs.declared.plan.Plan.{Plan}
use Rattle.plan_core.specs.PlanMade.{plan_value}
use Rattle.plan_core.specs.Shapes.{shape_at}
use Rattle.plan_evidence.specs.Evidence.{is_on_way, evidence_vars, ShapeHolds}
use Rattle.lazy_plan.specs.Bench.{state_of, documents}
use Rattle.lazy_seek.specs.declared.evidence.Turn.{Turn}
use Rattle.lazy_seek.specs.Evidenced.{reaches, AreSpotsOf}
use Rattle.lazy_seek.specs.Given.{vars_below, given}
use Rattle.lazy_seek.specs.Turns.{nodes_wanted, Knows, turn_reach, GoesOn}
use Rattle.lazy_seek.proofs.Knowing.{below_or}
use Rattle.lazy_seek.proofs.Visiting.{sought_within}
use Rattle.lazy_seek.proofs.Walks.{sought_none, sought_then}
use Rattle.lazy_seek.proofs.Wholes.{reaches_front, walked_on, turn_is, holds_back, holds_forth, turn_on, ops_back, no_evidence, is_evidence, spots_given}
use Rattle.lazy_seek.proofs.seeking.sought_along.Goals as goal

pub loop-i-init : goal.loop-i-init
loop-i-init g c =
    let a = state_of (g.S.Sources.view c.args.s.now) c.args.bench.now in
    let p = plan_value c.args.bench.now.fixed.plan in
    record {
      sought =
          sought_within 0 _ c.args.s.now c.args.s.now c.args.bench.now c.args.bench.now (sought_none g.met.S.Sources.same c.args.s.now c.args.bench.now c.requires.bench) (omega arith);
      knows = c.new-found.ensures a p.ops c.args.wanted.now;
      right = λ told j l o. absurd (omega (arith, l));
    }

pub goes_on-requires-clause-turn : goal.goes_on-requires-clause-turn
goes_on-requires-clause-turn g c =
    let a = state_of (g.S.Sources.view c.args.s.now) c.args.bench.now in
    let b = state_of (g.S.Sources.view c.loop-i.s) c.loop-i.bench in
    let p = plan_value c.args.bench.now.fixed.plan in
    let below : c.loop-i.i < length c.args.way.now = (let r = c.loop-i-test.true in first_of (omega (arith, r), search rules)) in
    let t : Turn = record { wanted = c.args.wanted.now; op = c.loop-i.i; on_way = slice_index_or c.args.way.now c.loop-i.i false } in
    let turn = turn_is p c.args.wanted.now c.requires.wanted c.args.way.now c.loop-i.i c.requires.way c.requires.length below in
    let kept = c.loop-i.invariant.sought.ran.kept in
    turn_on a b kept t turn

pub returns-in_err-goes_on-clause-sought : goal.returns-in_err-goes_on-clause-sought
returns-in_err-goes_on-clause-sought g c =
    let p = plan_value c.args.bench.now.fixed.plan in
    let below : c.loop-i.i < length c.args.way.now = (let r = c.loop-i-test.true in first_of (omega (arith, r), search rules)) in
    let t : Turn = record { wanted = c.args.wanted.now; op = c.loop-i.i; on_way = slice_index_or c.args.way.now c.loop-i.i false } in
    let turn = turn_is p c.args.wanted.now c.requires.wanted c.args.way.now c.loop-i.i c.requires.way c.requires.length below in
    let kept = c.loop-i.invariant.sought.ran.kept in
    let far = ap (λ (q : Plan). turn_reach (plan_value q).ops t) kept.plan in
    let walked = walked_on p c.requires.bench.valid t turn in
    let prefix = reaches_front (length (vars_below p.ops c.args.wanted.now.op (suc c.loop-i.i))) c.args.wanted.now.places.now in
    sought_then g.met.S.Sources.after (reaches (take (length (vars_below p.ops c.args.wanted.now.op c.loop-i.i)) c.args.wanted.now.places.now)) (turn_reach (plan_value c.loop-i.bench.fixed.plan).ops t)
    (reaches c.args.wanted.now.places.now)
    c.args.s.now c.loop-i.s c.goes_on.new.s c.args.bench.now c.loop-i.bench c.goes_on.new.bench c.loop-i.invariant.sought c.goes_on.ensures.sought.ran c.goes_on.ensures.sought.asks
    (omega (arith, far, walked, prefix))

pub returns-then-not-branch-clause-sought : goal.returns-then-not-branch-clause-sought
returns-then-not-branch-clause-sought g c =
    let p = plan_value c.args.bench.now.fixed.plan in
    let below : c.loop-i.i < length c.args.way.now = (let r = c.loop-i-test.true in first_of (omega (arith, r), search rules)) in
    let t : Turn = record { wanted = c.args.wanted.now; op = c.loop-i.i; on_way = slice_index_or c.args.way.now c.loop-i.i false } in
    let turn = turn_is p c.args.wanted.now c.requires.wanted c.args.way.now c.loop-i.i c.requires.way c.requires.length below in
    let kept = c.loop-i.invariant.sought.ran.kept in
    let far = ap (λ (q : Plan). turn_reach (plan_value q).ops t) kept.plan in
    let walked = walked_on p c.requires.bench.valid t turn in
    let prefix = reaches_front (length (vars_below p.ops c.args.wanted.now.op (suc c.loop-i.i))) c.args.wanted.now.places.now in
    sought_then g.met.S.Sources.after (reaches (take (length (vars_below p.ops c.args.wanted.now.op c.loop-i.i)) c.args.wanted.now.places.now)) (turn_reach (plan_value c.loop-i.bench.fixed.plan).ops t)
    (reaches c.args.wanted.now.places.now)
    c.args.s.now c.loop-i.s c.goes_on.new.s c.args.bench.now c.loop-i.bench c.goes_on.new.bench c.loop-i.invariant.sought c.goes_on.ensures.sought.ran c.goes_on.ensures.sought.asks
    (omega (arith, far, walked, prefix))

pub returns-then-not-branch-clause-answer : goal.returns-then-not-branch-clause-answer
returns-then-not-branch-clause-answer g c =
    let a = state_of (g.S.Sources.view c.args.s.now) c.args.bench.now in
    let b = state_of (g.S.Sources.view c.loop-i.s) c.loop-i.bench in
    let p = plan_value c.args.bench.now.fixed.plan in
    let below : c.loop-i.i < length c.args.way.now = (let r = c.loop-i-test.true in first_of (omega (arith, r), search rules)) in
    let t : Turn = record { wanted = c.args.wanted.now; op = c.loop-i.i; on_way = slice_index_or c.args.way.now c.loop-i.i false } in
    let turn = turn_is p c.args.wanted.now c.requires.wanted c.args.way.now c.loop-i.i c.requires.way c.requires.length below in
    let kept = c.loop-i.invariant.sought.ran.kept in
    let d = state_of (g.S.Sources.view c.goes_on.new.s) c.goes_on.new.bench in
    let no : c.in_ok-goes_on.field-0 ≡ false = search rules in
    let h = subst (GoesOn b d t c.goes_on.new.self) no c.in_ok-goes_on.ensures.answer in
    λ told nodes is.
    (let r = h (kept.told ∙ told) in
    no_evidence p c.requires.bench.valid c.args.wanted.now c.requires.wanted (documents a) c.loop-i.i turn.within (sym turn.way ∙ r.0) (λ x. r.1 (holds_forth a b kept t x)) nodes is)

pub loop-i-preserved : goal.loop-i-preserved
loop-i-preserved g c =
    let a = state_of (g.S.Sources.view c.args.s.now) c.args.bench.now in
    let b = state_of (g.S.Sources.view c.loop-i.s) c.loop-i.bench in
    let p = plan_value c.args.bench.now.fixed.plan in
    let below : c.loop-i.i < length c.args.way.now = (let r = c.loop-i-test.true in first_of (omega (arith, r), search rules)) in
    let t : Turn = record { wanted = c.args.wanted.now; op = c.loop-i.i; on_way = slice_index_or c.args.way.now c.loop-i.i false } in
    let turn = turn_is p c.args.wanted.now c.requires.wanted c.args.way.now c.loop-i.i c.requires.way c.requires.length below in
    let kept = c.loop-i.invariant.sought.ran.kept in
    let far = ap (λ (q : Plan). turn_reach (plan_value q).ops t) kept.plan in
    let walked = walked_on p c.requires.bench.valid t turn in
    let d = state_of (g.S.Sources.view c.goes_on.new.s) c.goes_on.new.bench in
    let yes : c.in_ok-goes_on.field-0 ≡ true = search rules in
    let h = subst (GoesOn b d t c.goes_on.new.self) yes c.in_ok-goes_on.ensures.answer in
    let next : c.loop-i.i + 1 ≡ suc c.loop-i.i = omega arith in
    let same = ap (λ (m : ℕ). reaches (take (length (vars_below p.ops c.args.wanted.now.op m)) c.args.wanted.now.places.now)) next in
    record {
      sought =
          sought_then g.met.S.Sources.after (reaches (take (length (vars_below p.ops c.args.wanted.now.op c.loop-i.i)) c.args.wanted.now.places.now)) (turn_reach (plan_value c.loop-i.bench.fixed.plan).ops t)
          (reaches (take (length (vars_below p.ops c.args.wanted.now.op (c.loop-i.i + 1))) c.args.wanted.now.places.now))
          c.args.s.now c.loop-i.s c.goes_on.new.s c.args.bench.now c.loop-i.bench c.goes_on.new.bench c.loop-i.invariant.sought c.goes_on.ensures.sought.ran c.goes_on.ensures.sought.asks
          (omega (arith, far, walked, same));
      knows = subst (λ (m : ℕ). Knows d p.ops c.args.wanted.now c.goes_on.new.self m) (sym next) (ops_back a b kept d c.args.wanted.now c.goes_on.new.self (suc c.loop-i.i) h.0);
      right = λ told j l o. elim (below_or j c.loop-i.i (omega (arith, l))) [
        | inl m ↦ c.loop-i.invariant.right told j m o
        | inr e ↦
            subst (λ (m : ℕ). ShapeHolds (documents a) (given p.ops c.args.wanted.now.op c.args.wanted.now.places.now) (shape_at p.ops m)) (sym e)
            (holds_back a b kept t (h.1 (kept.told ∙ told) (turn.way ∙ subst (λ (m : ℕ). is_on_way p.ops c.args.wanted.now.op m ≡ true) e o)))
      ];
    }

pub returns-clause-sought : goal.returns-clause-sought
returns-clause-sought g c =
    sought_within _ _ c.args.s.now c.loop-i.s c.args.bench.now c.loop-i.bench c.loop-i.invariant.sought (reaches_front _ c.args.wanted.now.places.now)

pub returns-clause-spots : goal.returns-clause-spots
returns-clause-spots g c =
    let a = state_of (g.S.Sources.view c.args.s.now) c.args.bench.now in
    let b = state_of (g.S.Sources.view c.loop-i.s) c.loop-i.bench in
    let p = plan_value c.args.bench.now.fixed.plan in
    let kept = c.loop-i.invariant.sought.ran.kept in
    let many = c.requires.length in
    let done : c.loop-i.i ≡ suc c.args.wanted.now.op = (let r = c.loop-i-test.false in let e = c.loop-i.auto.i-end in first_of (omega (arith, r, e, many), search rules)) in
    let knows = subst (λ (m : ℕ). Knows b p.ops c.args.wanted.now c.loop-i.found m) done c.loop-i.invariant.knows in
    let spots = spots_given p c.requires.bench.valid c.args.wanted.now c.requires.wanted (documents a) b c.loop-i.found knows in
    subst (λ (q : Plan). AreSpotsOf b (given (plan_value q).ops c.args.wanted.now.op c.args.wanted.now.places.now) (evidence_vars (plan_value q).ops c.args.wanted.now.op) c.loop-i.found.spots.items) (sym kept.plan) spots

pub returns-clause-answer : goal.returns-clause-answer
returns-clause-answer g c =
    let a = state_of (g.S.Sources.view c.args.s.now) c.args.bench.now in
    let b = state_of (g.S.Sources.view c.loop-i.s) c.loop-i.bench in
    let p = plan_value c.args.bench.now.fixed.plan in
    let kept = c.loop-i.invariant.sought.ran.kept in
    let many = c.requires.length in
    let done : c.loop-i.i ≡ suc c.args.wanted.now.op = (let r = c.loop-i-test.false in let e = c.loop-i.auto.i-end in first_of (omega (arith, r, e, many), search rules)) in
    let knows = subst (λ (m : ℕ). Knows b p.ops c.args.wanted.now c.loop-i.found m) done c.loop-i.invariant.knows in
    let spots = spots_given p c.requires.bench.valid c.args.wanted.now c.requires.wanted (documents a) b c.loop-i.found knows in
    λ told.
    (nodes_wanted p.ops c.args.wanted.now, is_evidence p c.requires.bench.valid c.args.wanted.now c.requires.wanted (documents a) (λ j l o. c.loop-i.invariant.right told j (omega (arith, l, done)) o), spots)
