use Rattle.std.proofs.Common.{refl}
use Rattle.json_text.specs.Trees.{value_tree}
use Rattle.source_checks.proofs.texts.json_fault.Goals as goal

pub returns : goal.returns
returns c = let a = c.in-Ok.ensures.answers in (value_tree c.args.name.now a.0, (a.0, a.1, a.2, refl))
