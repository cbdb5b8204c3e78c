use Rattle.mix_session.proofs.Searches.{IsSought}
use Rattle.mix_session.proofs.searching.search.Given as goal

abbrev pub invariant-siblings : goal.invariant-siblings
invariant-siblings g l =
    let view = g.S.Sources.view in
    let m = g.W.Walker.means (view l.initial.s) l.initial.walker in
    record {
      came : g.S.Sources.came_from l.initial.s l.s;
      kept : g.W.Walker.keeps (view l.initial.s) l.initial.walker (view l.s) l.walker;
      sought : IsSought m (g.W.Walker.means (view l.s) l.walker) (view l.initial.s).fills (view l.s).fills l.label l.initial.node l.node;
    }

abbrev pub decreases-siblings : goal.decreases-siblings
decreases-siblings g l = (g.W.Walker.means (g.S.Sources.view l.s) l.walker).left l.node
