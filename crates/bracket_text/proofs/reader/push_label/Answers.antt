use Rattle.std.proofs.Common.{rules, ◌≡◌, ◌<◌, ◌+◌, slice_index, arith}
use Rattle.std.proofs.lemmas.Bool.Decides.{nat_tests}
use Rattle.std.proofs.lemmas.Str.{IsCharBoundary-after_ascii}
use Rattle.bracket_text.proofs.Held.{quote_begins, pushes_before}
use Rattle.bracket_text.proofs.reader.push_label.Goals as goal

pub push_escaped-requires-clause-boundary : goal.push_escaped-requires-clause-boundary
push_escaped-requires-clause-boundary c =
    let text = c.args.text.now in
    let quote : slice_index text c.args.at ≡ 34 = search (rules, nat_tests) in
    let low : slice_index text c.args.at < 128 = omega (arith, quote) in
    IsCharBoundary-after_ascii text c.args.at c.requires.utf8 c.requires.inside low

pub returns : goal.returns
returns c =
    let text = c.args.text.now in
    let at = c.args.at in
    let quote : slice_index text at ≡ 34 = search (rules, nat_tests) in
    pushes_before text at (c.args.at + 1) _ _ c.push_escaped.result _ _ (omega arith) (quote_begins text at c.requires.inside quote) c.push_escaped.ensures
