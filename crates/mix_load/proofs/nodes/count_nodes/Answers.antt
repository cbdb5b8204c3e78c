use Rattle.std.proofs.Common.{◌≡◌, arith, ap, drop}
use Rattle.mix_base.proofs.Slices.{drop_end}
use Rattle.bracket_text.specs.Canonical.{canon}
use Rattle.mix_load.specs.Parts.{parts}
use Rattle.mix_load.specs.declared.nodes.Stand.TheVariants.{Outside}
use Rattle.mix_load.proofs.Counted.{tree_counted}
use Rattle.mix_load.proofs.nodes.count_nodes.Goals as goal

pub returns : goal.returns
returns c = λ t e.
    let text = c.args.text.now in
    let none : parts c.bytes.stand (drop c.bytes.byte-index text) ≡ 0 = ap (parts c.bytes.stand) (drop_end text c.bytes.byte-index c.bytes-test.false) in
    let all : parts Outside text ≡ parts Outside (canon t) = ap (parts Outside) e in
    omega (arith, c.bytes.invariant.counted, none, all, tree_counted t)
