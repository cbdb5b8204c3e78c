use Rattle.std.proofs.Common.{◌∙◌, ◌-◌, ap}
use Rattle.mix_tree.specs.Forest.{LabelledTree}
use Rattle.document_store.specs.Between.{between}
use Rattle.document_store.proofs.Reading.{root_at, same_tree}
use Rattle.document_store.proofs.store.Store.tree.Goals as goal

pub returns : goal.returns
returns c = λ t e.
    let root = root_at c.args.self.now t (c.len-root.result - 2) e (ap (λ n. n - 2) c.len-root.ensures) in
    same_tree c.new.result t
    (ap (λ (u : LabelledTree). u.label) c.new.ensures ∙ c.in_ok-label.ensures ∙ root.label)
    (ap (λ (u : LabelledTree). u.kids) c.new.ensures ∙ c.in_ok-kids.ensures ∙ ap (λ b. between c.args.self.now b (c.len-root.result - 2)) c.before-2.ensures ∙ root.kids)
