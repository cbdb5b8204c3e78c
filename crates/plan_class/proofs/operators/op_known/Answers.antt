use Rattle.std.proofs.Common.{◌≡◌, ◌∙◌, [], ◌∷◌, ap, subst, sym, List}
use Rattle.std.specs.Prelude.{IfOk, Option}
use Rattle.mix_tree.specs.declared.comparing.Test.{Test}
use Rattle.plan_core.specs.declared.plan.Op.{Op}
use Rattle.plan_core.specs.FrontsKept.{front_in}
use Rattle.plan_core.specs.PlanMade.{op_of}
use Rattle.plan_core.specs.Shapes.{shape_of}
use Rattle.plan_core.specs.Valid.{AreDistinct, inputs_of}
use Rattle.plan_class.specs.Known.{Known, pairs_known, shape_known}
use Rattle.plan_class.specs.Slots.{kept_at}
use Rattle.plan_class.specs.VarDomains.{domain_in}
use Rattle.plan_class.specs.declared.domains.Domains.{Domains}
use Rattle.plan_class.proofs.ClassIs.{pairs_are, visits_are}
use Rattle.plan_class.proofs.Pushed.{right_kept}
use Rattle.plan_class.proofs.operators.op_known.Goals as goal

pub returns-in_ok-visit-in-GetDescendants-clause-known : goal.returns-in_ok-visit-in-GetDescendants-clause-known
returns-in_ok-visit-in-GetDescendants-clause-known c =
    let op = c.in-GetDescendants in
    let old = c.args.so_far.now in
    subst (λ (k : Known). IfOk c.visits_known.result (λ x. x ≡ k))
    (visits_are c.args.shapes.now (front_in c.args.fronts.now) (domain_in old.domains) (kept_at old.slots.items) op.input op.start op.path op.out c.in_ok-visit-in-GetDescendants.visit
    c.front_size.result.vars c.front_size.result.whole c.take-below.result c.of.result c.in_ok-visit-in-GetDescendants.ensures c.front_size.ensures.vars c.front_size.ensures.whole
    (c.of.ensures ∙ ap (λ (ds : Domains). domain_in ds op.start) c.take-below.ensures.domains) c.take-below.ensures.known
    ∙ ap (λ (o : Op). shape_known c.args.shapes.now (front_in c.args.fronts.now) (domain_in old.domains) (kept_at old.slots.items) (shape_of (op_of o))) (sym op.is))
    c.visits_known.ensures

pub returns-in-Join-clause-known : goal.returns-in-Join-clause-known
returns-in-Join-clause-known c =
    let op = c.in-Join in
    let old = c.args.so_far.now in
    let apart : AreDistinct (op.left ∷ op.right ∷ []) = subst (λ (o : Op). AreDistinct (inputs_of (op_of o))) op.is c.requires.apart in
    let right : c.take-right.result ≡ kept_at old.slots.items op.right =
    c.take-right.ensures.known ∙ ap (λ (ss : List (Option Known)). kept_at ss op.right) c.take-left.ensures.slots ∙ right_kept old.slots.items op.left op.right apart
    in
    subst (λ (k : Known). IfOk c.pairs_known.result (λ x. x ≡ k))
    (ap (λ (ts : List Test). pairs_known ts c.front_size-front.result.vars c.front_size-front.result.whole c.take-left.result c.take-right.result) c.deref.ensures.value
    ∙ pairs_are c.args.shapes.now (front_in c.args.fronts.now) (domain_in old.domains) (kept_at old.slots.items) op.left op.right op.tests.items c.front_size-front.result.vars
    c.front_size-front.result.whole c.take-left.result c.take-right.result c.front_size-front.ensures.vars c.front_size-front.ensures.whole c.take-left.ensures.known right
    ∙ ap (λ (o : Op). shape_known c.args.shapes.now (front_in c.args.fronts.now) (domain_in old.domains) (kept_at old.slots.items) (shape_of (op_of o))) (sym op.is))
    c.pairs_known.ensures
