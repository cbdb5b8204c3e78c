use Rattle.std.proofs.Common.{◌∙◌, ap, map, set, Vec, Global}
use Rattle.std.proofs.lemmas.List.{map-set}
use Rattle.plan_core.specs.PlanMade.{op_of}
use Rattle.plan_core.specs.declared.plan.Op.{Op}
use Rattle.plan_rewrite.specs.Blocks.{blocks_of}
use Rattle.plan_rewrite.proofs.taking.take_block.Goals as goal

pub returns-clause-left : goal.returns-clause-left
returns-clause-left c =
    map-set (λ (b : Vec Op Global). map op_of b.items) c.args.blocks.now.items c.args.n c.replace.new.dest
    ∙ ap (λ (b : Vec Op Global). set (blocks_of c.args.blocks.now.items) c.args.n (map op_of b.items)) c.replace.ensures.after
    ∙ ap (λ ops. set (blocks_of c.args.blocks.now.items) c.args.n (map op_of ops)) c.new.ensures.items
