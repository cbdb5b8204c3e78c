use Rattle.std.proofs.Common.{rules, Some, None, subst}
use Rattle.std.proofs.lemmas.Result.{IfOk-weaker}
use Rattle.lxp_core.specs.View.{Keeps}
use Rattle.mix_script.specs.declared.step.Way.TheVariants.{Right}
use Rattle.mix_session.specs.Printing.{IsPaidFor, OpensTree, PrintsOne}
use Rattle.mix_session.proofs.Walking.{stays_same, stays_twice, still_paid, on_ok, fails_before}
use Rattle.mix_session.proofs.Prints.{down_costs, opened_leaf, opened_below, node_costs, tree_costs, one_costs, step_later, printed_start, printed_costs, printed_all, printed_more}
use Rattle.mix_session.proofs.printing.+printing.Goals as goal

pub print_tree-returns-in_err-first-clause-walked : goal.print_tree-returns-in_err-first-clause-walked
print_tree-returns-in_err-first-clause-walked g t c =
    let view = g.S.Sources.view in
    let means = g.W.Walker.means in
    let m = means (view c.args.s.now) c.args.walker.now in
    let ran = c.open_tree.ensures.walked in
    let m' = means (view c.open_tree.new.s) c.open_tree.new.walker in
    record {
      stays = ran.stays;
      cause = let here = ran.cause in search rules;
      cost = down_costs m c.args.n.now (view c.args.s.now).fills (view c.open_tree.new.s).fills ran.cost;
    }

pub print_tree-returns-in-None-clause-walked : goal.print_tree-returns-in-None-clause-walked
print_tree-returns-in-None-clause-walked g t c =
    let view = g.S.Sources.view in
    let means = g.W.Walker.means in
    let m = means (view c.args.s.now) c.args.walker.now in
    let ran = c.open_tree.ensures.walked in
    let m' = means (view c.open_tree.new.s) c.open_tree.new.walker in
    record { stays = ran.stays; cause = tt; cost = down_costs m c.args.n.now (view c.args.s.now).fills (view c.open_tree.new.s).fills ran.cost }

pub print_tree-returns-in-None-clause-text : goal.print_tree-returns-in-None-clause-text
print_tree-returns-in-None-clause-text g t c =
    let view = g.S.Sources.view in
    let means = g.W.Walker.means in
    let m = means (view c.args.s.now) c.args.walker.now in
    let ran = c.open_tree.ensures.walked in
    let m' = means (view c.open_tree.new.s) c.open_tree.new.walker in
    opened_leaf m c.args.n.now m' c.args.text.now.items c.open_tree.new.text.items
    (subst (OpensTree m m' c.args.n.now c.args.text.now.items c.open_tree.new.text.items) c.in-None.is c.in_ok-first.ensures.text)

pub print_tree-returns-in-Some-clause-walked : goal.print_tree-returns-in-Some-clause-walked
print_tree-returns-in-Some-clause-walked g t c =
    let view = g.S.Sources.view in
    let means = g.W.Walker.means in
    let m = means (view c.args.s.now) c.args.walker.now in
    let ran = c.open_tree.ensures.walked in
    let m' = means (view c.open_tree.new.s) c.open_tree.new.walker in
    let some : OpensTree m m' c.args.n.now c.args.text.now.items c.open_tree.new.text.items (Some c.in-Some.first) =
    subst (OpensTree m m' c.args.n.now c.args.text.now.items c.open_tree.new.text.items) c.in-Some.is c.in_ok-first.ensures.text in
    let below = c.print_trees.ensures.walked in
    let m'' = means (view c.print_trees.new.s) c.print_trees.new.walker in
    let keeps : Keeps (view c.args.s.now) (view c.open_tree.new.s) = g.met.S.Sources.keeps _ _ c.open_tree.ensures.came in
    record {
      stays = stays_twice {m = m} {m' = m'} {m'' = m''} ran.stays below.stays;
      cause = fails_before {m = m} {m' = m'} ran.stays (view c.args.s.now).faults (view c.open_tree.new.s).faults (view c.print_trees.new.s).faults keeps.faults c.print_trees.result below.cause;
      cost = node_costs m c.args.n.now m' c.in-Some.first ran.stays some.step (view c.args.s.now).fills (view c.open_tree.new.s).fills (view c.print_trees.new.s).fills ran.cost below.cost;
    }

pub print_tree-returns-in-Some-clause-text : goal.print_tree-returns-in-Some-clause-text
print_tree-returns-in-Some-clause-text g t c =
    let view = g.S.Sources.view in
    let means = g.W.Walker.means in
    let m = means (view c.args.s.now) c.args.walker.now in
    let ran = c.open_tree.ensures.walked in
    let m' = means (view c.open_tree.new.s) c.open_tree.new.walker in
    let some : OpensTree m m' c.args.n.now c.args.text.now.items c.open_tree.new.text.items (Some c.in-Some.first) =
    subst (OpensTree m m' c.args.n.now c.args.text.now.items c.open_tree.new.text.items) c.in-Some.is c.in_ok-first.ensures.text in
    opened_below m c.args.n.now m' c.in-Some.first ran.stays some.step c.args.text.now.items c.open_tree.new.text.items c.print_trees.new.text.items c.print_trees.result some c.print_trees.ensures.text

pub print_tree-returns-in-None-clause-paid : goal.print_tree-returns-in-None-clause-paid
print_tree-returns-in-None-clause-paid g t c = c.in_ok-first.ensures.text.step.paid

pub print_tree-returns-in-Some-clause-paid : goal.print_tree-returns-in-Some-clause-paid
print_tree-returns-in-Some-clause-paid g t c =
    let view = g.S.Sources.view in
    let means = g.W.Walker.means in
    let m = means (view c.args.s.now) c.args.walker.now in
    let m' = means (view c.open_tree.new.s) c.open_tree.new.walker in
    let m'' = means (view c.print_trees.new.s) c.print_trees.new.walker in
    let paid = still_paid {m = m} {m' = m'} {m'' = m''} c.open_tree.ensures.walked.stays c.print_trees.ensures.walked.stays c.args.n.now c.in_ok-first.ensures.text.step.paid in
    on_ok c.print_trees.result (IsPaidFor m m'' c.args.n.now) paid

pub print_one-returns-in_err-print_tree-clause-walked : goal.print_one-returns-in_err-print_tree-clause-walked
print_one-returns-in_err-print_tree-clause-walked g t c =
    let view = g.S.Sources.view in
    let means = g.W.Walker.means in
    let m = means (view c.args.s.now) c.args.walker.now in
    let ran = c.print_tree.ensures.walked in
    record {
      stays = ran.stays;
      cause = let here = ran.cause in search rules;
      cost = tree_costs m c.args.n.now (view c.args.s.now).fills (view c.print_tree.new.s).fills ran.cost;
    }

pub print_one-returns-clause-walked : goal.print_one-returns-clause-walked
print_one-returns-clause-walked g t c =
    let view = g.S.Sources.view in
    let means = g.W.Walker.means in
    let m = means (view c.args.s.now) c.args.walker.now in
    let ran = c.print_tree.ensures.walked in
    let next = c.next_tree.ensures.walked in
    let m' = means (view c.print_tree.new.s) c.print_tree.new.walker in
    let m'' = means (view c.next_tree.new.s) c.next_tree.new.walker in
    let keeps : Keeps (view c.args.s.now) (view c.print_tree.new.s) = g.met.S.Sources.keeps _ _ c.print_tree.ensures.came in
    record {
      stays = stays_twice {m = m} {m' = m'} {m'' = m''} ran.stays next.stays;
      cause = fails_before {m = m} {m' = m'} ran.stays (view c.args.s.now).faults (view c.print_tree.new.s).faults (view c.next_tree.new.s).faults keeps.faults c.next_tree.result next.cause;
      cost = one_costs m m' c.args.n.now (view c.args.s.now).fills (view c.print_tree.new.s).fills (view c.next_tree.new.s).fills ran.stays c.in_ok-print_tree.ensures.paid ran.cost next.cost;
    }

pub print_one-returns-clause-text : goal.print_one-returns-clause-text
print_one-returns-clause-text g t c =
    let view = g.S.Sources.view in
    let means = g.W.Walker.means in
    let m = means (view c.args.s.now) c.args.walker.now in
    let ran = c.print_tree.ensures.walked in
    let next = c.next_tree.ensures.walked in
    let m' = means (view c.print_tree.new.s) c.print_tree.new.walker in
    let m'' = means (view c.next_tree.new.s) c.next_tree.new.walker in
    IfOk-weaker c.next_tree.result _ _
    (λ r is. record {
      inner = c.print_tree.new.text.items;
      tree = c.in_ok-print_tree.ensures.text;
      text = is.0;
      step = step_later m m' m'' Right c.args.n.now r ran.stays c.requires.node is.1;
    }) c.next_tree.ensures.text

pub print_trees-trees-init : goal.print_trees-trees-init
print_trees-trees-init g t c =
    let view = g.S.Sources.view in
    let means = g.W.Walker.means in
    let m = means (view c.args.s.now) c.args.walker.now in
    record {
      came = g.met.S.Sources.same _;
      kept = g.met.W.Walker.same _ _;
      printed = printed_start m c.args.first (view c.args.s.now).fills c.args.text.now.items (stays_same m c.requires.ready) c.requires.node c.requires.walked;
    }

pub print_trees-returns-in_err-next-clause-walked : goal.print_trees-returns-in_err-next-clause-walked
print_trees-returns-in_err-next-clause-walked g t c =
    let view = g.S.Sources.view in
    let means = g.W.Walker.means in
    let m = means (view c.args.s.now) c.args.walker.now in
    let so = c.trees.invariant.printed in
    let ran = c.print_one.ensures.walked in
    let there = c.print_one.ensures.there in
    let m' = means (view c.trees.s) c.trees.walker in
    let m3 = means (view c.print_one.new.s) c.print_one.new.walker in
    let keeps : Keeps (view c.args.s.now) (view c.trees.s) = g.met.S.Sources.keeps _ _ c.trees.invariant.came in
    let cause = fails_before {m = m} {m' = m'} so.stays (view c.args.s.now).faults (view c.trees.s).faults (view c.print_one.new.s).faults keeps.faults c.print_one.result ran.cause in
    record {
      stays = stays_twice {m = m} {m' = m'} {m'' = m3} so.stays ran.stays;
      cause = search rules;
      cost = printed_costs m m' m3 c.args.first c.trees.node (view c.args.s.now).fills (view c.trees.s).fills (view c.print_one.new.s).fills c.args.text.now.items c.trees.text.items so ran.stays there ran.cost;
    }

pub print_trees-returns-in-None-clause-walked : goal.print_trees-returns-in-None-clause-walked
print_trees-returns-in-None-clause-walked g t c =
    let view = g.S.Sources.view in
    let means = g.W.Walker.means in
    let m = means (view c.args.s.now) c.args.walker.now in
    let so = c.trees.invariant.printed in
    let ran = c.print_one.ensures.walked in
    let there = c.print_one.ensures.there in
    let m' = means (view c.trees.s) c.trees.walker in
    let m3 = means (view c.print_one.new.s) c.print_one.new.walker in
    record {
      stays = stays_twice {m = m} {m' = m'} {m'' = m3} so.stays ran.stays;
      cause = tt;
      cost = printed_costs m m' m3 c.args.first c.trees.node (view c.args.s.now).fills (view c.trees.s).fills (view c.print_one.new.s).fills c.args.text.now.items c.trees.text.items so ran.stays there ran.cost;
    }

pub print_trees-returns-in-None-clause-text : goal.print_trees-returns-in-None-clause-text
print_trees-returns-in-None-clause-text g t c =
    let view = g.S.Sources.view in
    let means = g.W.Walker.means in
    let m = means (view c.args.s.now) c.args.walker.now in
    let so = c.trees.invariant.printed in
    let ran = c.print_one.ensures.walked in
    let there = c.print_one.ensures.there in
    let m' = means (view c.trees.s) c.trees.walker in
    let m3 = means (view c.print_one.new.s) c.print_one.new.walker in
    let one : PrintsOne m' m3 c.trees.node c.trees.text.items c.print_one.new.text.items None =
    subst (PrintsOne m' m3 c.trees.node c.trees.text.items c.print_one.new.text.items) c.in-None.is c.in_ok-next.ensures.text in
    record {
      inner = one.inner;
      trees = printed_all m m' m3 c.args.first c.trees.node (view c.args.s.now).fills (view c.trees.s).fills (view c.print_one.new.s).fills c.args.text.now.items c.trees.text.items so ran.stays there ran.cost one.inner one.tree one.step;
      text = one.text;
    }

pub print_trees-trees-preserved : goal.print_trees-trees-preserved
print_trees-trees-preserved g t c =
    let view = g.S.Sources.view in
    let means = g.W.Walker.means in
    let m = means (view c.args.s.now) c.args.walker.now in
    let so = c.trees.invariant.printed in
    let ran = c.print_one.ensures.walked in
    let there = c.print_one.ensures.there in
    let m' = means (view c.trees.s) c.trees.walker in
    let m3 = means (view c.print_one.new.s) c.print_one.new.walker in
    let one : PrintsOne m' m3 c.trees.node c.trees.text.items c.print_one.new.text.items (Some c.in-Some.next) =
    subst (PrintsOne m' m3 c.trees.node c.trees.text.items c.print_one.new.text.items) c.in-Some.is c.in_ok-next.ensures.text in
    record {
      came = g.met.S.Sources.after _ _ _ c.trees.invariant.came c.print_one.ensures.came;
      kept = g.met.W.Walker.twice _ _ _ _ _ _ c.trees.invariant.kept c.print_one.ensures.kept;
      printed = printed_more m m' m3 c.args.first c.trees.node (view c.args.s.now).fills (view c.trees.s).fills (view c.print_one.new.s).fills c.args.text.now.items c.trees.text.items so ran.stays there ran.cost one.inner one.tree c.in-Some.next one.step c.print_one.new.text.items one.text;
    }

pub print_tree-returns-in-Some-clause-came : goal.print_tree-returns-in-Some-clause-came
print_tree-returns-in-Some-clause-came g t c = g.met.S.Sources.after _ _ _ c.open_tree.ensures.came c.print_trees.ensures.came

pub print_tree-returns-in-Some-clause-kept : goal.print_tree-returns-in-Some-clause-kept
print_tree-returns-in-Some-clause-kept g t c = g.met.W.Walker.twice _ _ _ _ _ _ c.open_tree.ensures.kept c.print_trees.ensures.kept

pub print_one-returns-clause-came : goal.print_one-returns-clause-came
print_one-returns-clause-came g t c = g.met.S.Sources.after _ _ _ c.print_tree.ensures.came c.next_tree.ensures.came

pub print_one-returns-clause-kept : goal.print_one-returns-clause-kept
print_one-returns-clause-kept g t c = g.met.W.Walker.twice _ _ _ _ _ _ c.print_tree.ensures.kept c.next_tree.ensures.kept

pub print_trees-returns-in_err-next-clause-came : goal.print_trees-returns-in_err-next-clause-came
print_trees-returns-in_err-next-clause-came g t c = g.met.S.Sources.after _ _ _ c.trees.invariant.came c.print_one.ensures.came

pub print_trees-returns-in_err-next-clause-kept : goal.print_trees-returns-in_err-next-clause-kept
print_trees-returns-in_err-next-clause-kept g t c = g.met.W.Walker.twice _ _ _ _ _ _ c.trees.invariant.kept c.print_one.ensures.kept

pub print_trees-returns-in-None-clause-came : goal.print_trees-returns-in-None-clause-came
print_trees-returns-in-None-clause-came g t c = g.met.S.Sources.after _ _ _ c.trees.invariant.came c.print_one.ensures.came

pub print_trees-returns-in-None-clause-kept : goal.print_trees-returns-in-None-clause-kept
print_trees-returns-in-None-clause-kept g t c = g.met.W.Walker.twice _ _ _ _ _ _ c.trees.invariant.kept c.print_one.ensures.kept
