use Rattle.std.proofs.Common.{◌∙◌, ap, arith, length, drop}
use Rattle.mix_base.proofs.Slices.{slice_length}
use Rattle.mix_lines.proofs.Parts.{slice_dropped}
use Rattle.mix_lines.proofs.page.Page.drop_prefix.Goals as goal

pub returns : goal.returns
returns c =
    let page = c.self.inside in
    let long = ap (λ bytes. length bytes) c.self.view_is in
    let within = slice_length page.room.items page.from page.to c.self.invariant.0 c.self.invariant.1 in
    slice_dropped page.room.items page.from page.to c.args.count (omega (arith, c.requires, long, within)) ∙ ap (drop c.args.count) c.self.view_is
