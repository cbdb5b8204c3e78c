use Rattle.std.proofs.Common.{rules, ◌≡◌, ◌<◌, length, slice_index, arith}
use Rattle.std.proofs.lemmas.Bool.Decides.{nat_tests}
use Rattle.std.proofs.lemmas.Str.{IsCharBoundary-after_ascii}
use Rattle.mix_tree.proofs.label_reader.read_at_char.Goals as goal

pub read_escaped-requires-clause-boundary : goal.read_escaped-requires-clause-boundary
read_escaped-requires-clause-boundary c =
    let text = c.args.text.now in
    let from = c.args.from in
    let inside : from < length text = search rules in
    let quote : slice_index text from ≡ 34 = search (rules, nat_tests) in
    let low : slice_index text from < 128 = omega (arith, quote) in
    IsCharBoundary-after_ascii text from c.requires.utf8 inside low
