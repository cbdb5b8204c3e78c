use Rattle.std.proofs.Common.{rules, ◌<◌, ◌++◌, ◌∷◌, [], ◌∙◌, ap, length}
use Rattle.mix_tree.specs.Forest.{LabelledTree, forest_of}
use Rattle.bracket_text.specs.Canonical.{canon, canon_trees}
use Rattle.bracket_text.proofs.Written.{bracketed}
use Rattle.bracket_text.proofs.writing.+write.Goals as goal

pub push_tree-returns : goal.push_tree-returns
push_tree-returns t c =
    let kids = c.tree.inside.kids.items in
    let label = c.tree.inside.label in
    let some : 0 < length kids = search rules in
    c.in_ok-push-2.ensures.items
    ∙ ap (λ r. r ++ 93 ∷ []) (c.in_ok-push_trees.ensures ∙ ap (λ ts. c.push.new.self.items ++ canon_trees (forest_of ts)) c.deref.ensures.value
    ∙ ap (λ r. r ++ canon_trees (forest_of kids)) (c.in_ok-push.ensures.items ∙ ap (λ r. r ++ 91 ∷ []) c.in_ok-push_label.ensures))
    ∙ bracketed label kids c.args.out.now.items some ∙ ap (λ (u : LabelledTree). c.args.out.now.items ++ canon u) c.tree.view_is
