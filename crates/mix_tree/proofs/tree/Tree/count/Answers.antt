use Rattle.std.proofs.Common.{◌≡◌, ◌∙◌, ap, sym, arith, length, is_some, nat_lt}
use Rattle.mix_tree.specs.Forest.{LabelledTree, first_label, from}
use Rattle.mix_tree.proofs.Kids.{has_place-index}
use Rattle.mix_tree.proofs.tree.Tree.count.Goals as goal

pub returns : goal.returns
returns c = λ i.
    let ts = c.self.inside.kids.items in
    let counted : length ts ≡ c.len.result = omega (arith, c.len.ensures, c.self.inside.kids.ok.0) in
    ap (λ (t : LabelledTree). is_some (first_label (from i t.kids))) (sym c.self.view_is) ∙ has_place-index ts i ∙ ap (nat_lt i) counted
