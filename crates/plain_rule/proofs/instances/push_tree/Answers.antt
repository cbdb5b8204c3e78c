use Rattle.mix_tree.specs.Forest.{forest_of}
use Rattle.plain_rule.proofs.Making.{pushed}
use Rattle.plain_rule.proofs.instances.push_tree.Goals as goal

pub returns : goal.returns
returns c = pushed c.args.made.now.items c.push.new.self.items c.new.result (record { label = c.args.label; kids = forest_of c.args.kids.items }) c.in_ok-push.ensures.items c.new.ensures
