use Rattle.std.proofs.Common.{◌∙◌, ap, sym, subst}
use Rattle.mix_mount.specs.Mounts.{mounted_in, view_of}
use Rattle.mix_load.specs.People.{people_tree}
use Rattle.table_keep.specs.Untold.{no_tables_view}
use Rattle.plan_core.specs.PlanMade.{plan_value}
use Rattle.plan_core.specs.Plans.{PlanValue}
use Rattle.plan_core.specs.declared.plan.Plan.{Plan}
use Rattle.lazy_value.specs.declared.mediator.Mediator.{Mediator}
use Rattle.lazy_value.specs.Named.{state_of}
use Rattle.mix_session.specs.Walks.{IsDocument}
use Rattle.xmas_rule.specs.Rules.{RuleValue}
use Rattle.plan_make.specs.Law.{MeansRule}
use Rattle.plan_rewrite.specs.Rewritten.{operators_for}
use Rattle.mix_load.proofs.Named.{names_document}
use Rattle.mix_load.proofs.Visiting.{begun}
use Rattle.mix_load.proofs.visit.Visitor.open.Goals as goal

pub returns-clause-on : goal.returns-clause-on
returns-clause-on c =
    let sources = mounted_in no_tables_view c.in_ok-sources.sources in
    let mediator = c.in_ok-mediator.mediator in
    let plan = c.in_ok-plan.plan in
    let rule = c.in_ok-rule.ensures.rule in
    let ops = (plan_value plan).ops in
    let found = names_document sources mediator c.args.count c.in_ok-sources.ensures ops
    (ap (λ (p : Plan). (plan_value p).ops) c.in_ok-mediator.ensures.plan)
    (ap (λ (p : PlanValue). p.ops) c.in_ok-plan.ensures.made ∙ ap (λ (r : RuleValue). operators_for r) rule)
    (subst (λ (r : RuleValue). MeansRule ops r) rule c.in_ok-plan.ensures.document) c.visited_are_matches.ensures
    (λ d. c.valid_plans_have_documents.ensures (plan_value plan) c.in_ok-plan.ensures.valid d) in
    let document = subst (λ (m : Mediator). IsDocument (state_of (view_of sources) m) found.0) (sym c.open-2.ensures.walker) found.2 in
    (found.0, found.1, begun found.0 _ (c.open-2.ensures.session (view_of sources) c.in_ok-mediator.ensures.mediator) c.open-2.ensures.names document (people_tree c.args.count, c.in_ok-sources.ensures))
