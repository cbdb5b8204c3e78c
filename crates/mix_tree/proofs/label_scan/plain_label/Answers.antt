use Rattle.std.proofs.Common.{rules, ◌≡◌, ◌<◌, ◌∙◌, ◌+◌, IsTrue, [], length, slice_range, slice_index, ap, arith, drop}
use Rattle.std.proofs.lemmas.Bool.Decides.{nat_tests}
use Rattle.std.specs.Str.{IsCharBoundary}
use Rattle.std.proofs.lemmas.Str.{IsUtf8-between, IsCharBoundary-after_ascii}
use Rattle.mix_tree.specs.Spelling.{is_bare}
use Rattle.mix_tree.specs.LabelMachine.{start, in_quotes, step, seen_from}
use Rattle.mix_tree.proofs.LabelTaken.{passed, bare_label_seen, quotes_seen, quote_seen, seen_byte, scan_boundary, not_bare_ascii, not_plain_ascii}
use Rattle.std.proofs.lemmas.List.{drop_more}
use Rattle.mix_tree.proofs.label_scan.plain_label.Goals as goal

pub returns-then-is_bare_byte : goal.returns-then-is_bare_byte
returns-then-is_bare_byte c =
    let text = c.args.text.now in
    let at = c.args.at in
    let found = c.bare_end-end.ensures in
    let end = c.bare_end-end.result in
    let bare : IsTrue (is_bare (slice_index text at)) = search rules in
    let next = scan_boundary text end found.inside (λ more. not_bare_ascii _ (found.ends more)) in
    record {
      order = found.order;
      within = found.inside;
      utf8 = IsUtf8-between text at end c.requires.utf8 found.order c.requires.boundary next;
      next = passed text at end found.order bare c.requires.inside found.ends;
      inside = found.inside;
      boundary = next;
      seen = bare_label_seen text at end found.order found.inside c.requires.inside bare found.bare found.ends;
    }

pub returns-then-text-to-eq34 : goal.returns-then-text-to-eq34
returns-then-text-to-eq34 c =
    let text = c.args.text.now in
    let at = c.args.at in
    let found = c.plain_end-to.ensures in
    let to = c.plain_end-to.result in
    let first : slice_index text at ≡ 34 = search (rules, nat_tests) in
    let low : slice_index text at < 128 = omega (arith, first) in
    let inside : to < length text = search rules in
    let quote : slice_index text to ≡ 34 = search rules in
    let low_quote : slice_index text to < 128 = omega (arith, quote) in
    let begun : IsCharBoundary text (c.args.at + 1) = IsCharBoundary-after_ascii text at c.requires.utf8 c.requires.inside low in
    let next = scan_boundary text to found.inside (λ more. not_plain_ascii _ (found.ends more)) in
    record {
      order = found.order;
      within = found.inside;
      utf8 = IsUtf8-between text (at + 1) to c.requires.utf8 found.order begun next;
      next = omega (arith, found.order);
      inside = omega (arith, inside);
      boundary = IsCharBoundary-after_ascii text to c.requires.utf8 inside low_quote;
      seen =
          ap (seen_from start at) (drop_more text at 0 c.requires.inside)
          ∙ seen_byte start (in_quotes []) at (slice_index text at) (drop (c.args.at + 1) text) (ap (step start) first)
          ∙ quotes_seen text [] (c.args.at + 1) to found.order found.inside found.plain ∙ quote_seen text (slice_range text (c.args.at + 1) to) to inside quote;
    }
