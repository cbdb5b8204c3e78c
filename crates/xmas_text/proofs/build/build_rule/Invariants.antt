use Rattle.xmas_text.specs.Building.{build_in}
use Rattle.xmas_text.proofs.Builds.{Standing}
use Rattle.xmas_text.proofs.build.build_rule.Given as goal

abbrev pub invariant-loop-at : goal.invariant-loop-at
invariant-loop-at l = Standing l.text l.at (build_in l.build)
