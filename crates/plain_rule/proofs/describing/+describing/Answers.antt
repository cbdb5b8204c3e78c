use Rattle.std.proofs.Common.{◌∙◌, ◌∷◌, sym, ap, subst, arith}
use Rattle.path_expr.specs.Form.{paths_of, star, plus}
use Rattle.path_expr.specs.Node.{form_of}
use Rattle.path_expr.specs.Description.{Describes, DescribesAs, in_turn}
use Rattle.plain_rule.specs.Parts.{DescribesAlone}
use Rattle.plain_rule.proofs.Splits.{not_then, not_begun, many_begins, some_begins, both_ways, alone_is, not_empty, mark_is}
use Rattle.plain_rule.proofs.describing.+describing.Goals as goal

pub begins-returns : goal.begins-returns
begins-returns t c = (
  (λ h. cc),
  (λ d. absurd (not_begun (DescribesAlone c.args.path.now) c.args.labels.now (λ i s some a b. c.loop-at.invariant i (omega arith) some (alone_is c.args.path.now _ a, b)) d)),
)

pub describes_in_turn-returns : goal.describes_in_turn-returns
describes_in_turn-returns t c = (
  (λ h. cc),
  (λ d.
      let parts : DescribesAs (paths_of (c.in-Some.first.now ∷ c.in-Some.after.now)) in_turn c.args.labels.now = subst (λ ps. DescribesAs (paths_of ps) in_turn c.args.labels.now) c.in-Some.ensures.cases.0 d in
      absurd (not_then (Describes c.in-Some.first.now) (DescribesAs (paths_of c.in-Some.after.now) in_turn) c.args.labels.now (λ i s a b. c.loop-at.invariant i (omega arith) (a, b)) parts)),
)

pub describes_many-returns : goal.describes_many-returns
describes_many-returns t c = both_ways c.begins.ensures (many_begins (DescribesAlone c.args.path.now) c.args.labels.now (not_empty c.args.labels.now c.is_empty.result c.is_empty.ensures c.if-is_empty.false))

pub describes_some-returns : goal.describes_some-returns
describes_some-returns t c = both_ways c.begins.ensures (some_begins (DescribesAlone c.args.path.now) c.args.labels.now (not_empty c.args.labels.now c.is_empty.result c.is_empty.ensures c.if-is_empty.false))

pub describes-returns-in-Star : goal.describes-returns-in-Star
describes-returns-in-Star t c = mark_is star c.deref-in-Star.result.now c.in-Star.member.value c.args.path.now c.args.labels.now c.describes_many.result c.deref-in-Star.ensures (ap form_of (sym c.in-Star.is) ∙ c.node.ensures) c.describes_many.ensures

pub describes-returns-in-Plus : goal.describes-returns-in-Plus
describes-returns-in-Plus t c = mark_is plus c.deref-in-Plus.result.now c.in-Plus.member.value c.args.path.now c.args.labels.now c.describes_some.result c.deref-in-Plus.ensures (ap form_of (sym c.in-Plus.is) ∙ c.node.ensures) c.describes_some.ensures
