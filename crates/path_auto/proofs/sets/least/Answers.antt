use Rattle.std.proofs.Common.{rules}
use Rattle.std.specs.Int.{w128}
use Rattle.std.proofs.lemmas.Nat.Bits.{bit_at-trailing_zeros}
use Rattle.path_auto.proofs.sets.least.Goals as goal

pub returns : goal.returns
returns c =
    let lowest = bit_at-trailing_zeros w128 c.args.states c.requires (search rules) in
    record { has = lowest.1; below = lowest.2 }
