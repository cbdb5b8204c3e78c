use Rattle.std.proofs.Common.{◌≡◌, ◌<◌, ◌≤◌, ◌∙◌, ap, option_copied, arith, length, get_or}
use Rattle.std.specs.Option.{MatchOption}
use Rattle.std.proofs.lemmas.Grind.{common_steps}
use Rattle.mix_tree.specs.Forest.{LabelledTree, first_tree, from}
use Rattle.mix_tree.proofs.Kids.{first_tree-get}
use Rattle.mix_tree.proofs.tree.Tree.kid.Goals as goal

pub returns : goal.returns
returns c =
    let ts = c.self.inside.kids.items in
    let found : MatchOption (option_copied c.get.result) (length ts ≤ c.args.i) (λ x. (c.args.i < length ts) × (x ≡ get_or ts c.args.i x)) = grind (arith, common_steps) in
    first_tree-get ts c.args.i (option_copied c.get.result) found ∙ ap (λ (t : LabelledTree). first_tree (from c.args.i t.kids)) c.self.view_is
