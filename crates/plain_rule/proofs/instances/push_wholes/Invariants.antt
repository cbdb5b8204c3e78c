use Rattle.std.proofs.Common.{◌≡◌, drop}
use Rattle.mix_tree.specs.Forest.{forest_of, followed, joined}
use Rattle.xmas_rule.specs.Items.{whole}
use Rattle.xmas_rule.specs.Meaning.{shown_first}
use Rattle.plain_rule.specs.Documents.{documents_of}
use Rattle.plain_rule.proofs.instances.push_wholes.Given as goal

abbrev pub invariant-loop-part : goal.invariant-loop-part
invariant-loop-part l = followed (forest_of l.made.items) (joined (shown_first (documents_of l.docs) whole l.var) (drop l.part-index l.found)) ≡ followed (forest_of l.fn.made.items) (joined (shown_first (documents_of l.docs) whole l.var) l.found)
