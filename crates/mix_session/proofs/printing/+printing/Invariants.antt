use Rattle.std.proofs.Common.{◌+◌, ◌*◌}
use Rattle.mix_session.proofs.Prints.{ArePrinted}
use Rattle.mix_session.proofs.printing.+printing.Given as goal

abbrev pub decreases-print_tree : goal.decreases-print_tree
decreases-print_tree g l = 3 * (g.W.Walker.means (g.S.Sources.view l.s.now) l.walker.now).height l.n.now

abbrev pub decreases-print_one : goal.decreases-print_one
decreases-print_one g l = 3 * (g.W.Walker.means (g.S.Sources.view l.s.now) l.walker.now).height l.n.now + 1

abbrev pub decreases-print_trees : goal.decreases-print_trees
decreases-print_trees g l = 3 * (g.W.Walker.means (g.S.Sources.view l.s.now) l.walker.now).height l.first + 2

abbrev pub invariant-print_trees-trees : goal.invariant-print_trees-trees
invariant-print_trees-trees g l =
    let view = g.S.Sources.view in
    let m = g.W.Walker.means (view l.initial.s) l.initial.walker in
    record {
      came : g.S.Sources.came_from l.initial.s l.s;
      kept : g.W.Walker.keeps (view l.initial.s) l.initial.walker (view l.s) l.walker;
      printed : ArePrinted m (g.W.Walker.means (view l.s) l.walker) (view l.initial.s).fills (view l.s).fills l.initial.text.items l.text.items l.initial.node l.node;
    }

abbrev pub decreases-print_trees-trees : goal.decreases-print_trees-trees
decreases-print_trees-trees g l = (g.W.Walker.means (g.S.Sources.view l.s) l.walker).left l.node
