use Rattle.std.proofs.Common.{◌∙◌, ap, sym, arith}
use Rattle.mix_tree.specs.Forest.{LabelledTree, forest_of, followed}
use Rattle.mix_tree.proofs.Forests.{followed-none}
use Rattle.document_store.specs.Between.{between}
use Rattle.document_store.proofs.Between.{between_none}
use Rattle.document_store.proofs.Reading.{tree_more}
use Rattle.document_store.proofs.store.Store.+trees.Goals as goal

pub loop-i-preserved : goal.loop-i-preserved
loop-i-preserved t c =
    let ns = c.args.self.now in
    let i = c.in-Some.i in
    let first = c.in-Some.ensures in
    record {
      within = omega (arith, c.before-to.ensures, first.1, c.loop-i.invariant.within);
      list =
          ap (λ b. followed (forest_of c.push.new.self.items) (between c.args.self.now c.args.from b)) c.before-to.ensures
          ∙ tree_more ns c.loop-i.list.items c.push.new.self.items c.new.result c.args.from c.loop-i.to i first.0 first.1 c.in_ok-push.ensures.items
          (ap (λ (u : LabelledTree). u.label) c.new.ensures ∙ c.in_ok-label.ensures)
          (ap (λ (u : LabelledTree). u.kids) c.new.ensures ∙ c.in_ok-kids.ensures ∙ ap (λ b. between c.args.self.now b c.in-Some.i) c.before-in-Some.ensures)
          ∙ c.loop-i.invariant.list;
    }

pub returns : goal.returns
returns t c =
    sym (followed-none (forest_of c.loop-i.list.items))
    ∙ ap (followed (forest_of c.loop-i.list.items)) (sym (between_none c.args.self.now c.args.from c.loop-i.to c.in_default.ensures))
    ∙ c.loop-i.invariant.list
