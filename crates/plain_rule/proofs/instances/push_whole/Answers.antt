use Rattle.std.proofs.Common.{sym}
use Rattle.mix_tree.specs.Forest.{forest_of}
use Rattle.xmas_rule.specs.Items.{whole}
use Rattle.plain_rule.specs.Documents.{documents_of}
use Rattle.plain_rule.proofs.Making.{shown_of_none}
use Rattle.plain_rule.proofs.instances.push_whole.Goals as goal

pub returns-in_default : goal.returns-in_default
returns-in_default c = sym (shown_of_none (documents_of c.args.docs.now) whole c.args.var c.args.bindings.now (forest_of c.args.made.now.items) c.in_default.ensures.cases)
