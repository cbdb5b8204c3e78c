use Rattle.xmas_read.specs.Tree.{tree_of}
use Rattle.xmas_read.proofs.Outcomes.{few_names}
use Rattle.xmas_read.proofs.reading.check_tree.Goals as goal

pub make_rule-requires-clause-few : goal.make_rule-requires-clause-few
make_rule-requires-clause-few c = few_names (tree_of c.args.tree) c.in-Ok.names.items c.in-Ok.ensures.size c.in-Ok.ensures.names
