use Rattle.std.proofs.Common.{rules, ◌≡◌, ◌<◌, ◌≤◌, ◌∙◌, length, slice_range, slice_index, Some, None, ◌+◌, ◌++◌, subst, arith}
use Rattle.std.specs.Str.{IsCharBoundary}
use Rattle.std.proofs.lemmas.Str.{IsUtf8-between, IsCharBoundary-after_ascii}
use Rattle.std.proofs.lemmas.Bool.Decides.{nat_tests}
use Rattle.mix_tree.specs.LabelPieces.{escape_of}
use Rattle.mix_tree.proofs.LabelTaken.{quotes_seen, cut_seen, quote_seen, escape_cut, escape_wrong, escape_seen, not_plain, not_plain_ascii, escape_ascii, scan_boundary}
use Rattle.mix_tree.proofs.label_piece.next_piece.Goals as goal

pub returns-in_default : goal.returns-in_default
returns-in_default c = λ l.
    let found = c.plain_end-to.ensures in
    let text = c.args.text.now in
    let to = c.plain_end-to.result in
    let past : length text ≤ to = search rules in
    quotes_seen text l c.args.at to found.order found.inside found.plain ∙ cut_seen text (l ++ slice_range text c.args.at to) to past

pub returns-then-byte-eq34 : goal.returns-then-byte-eq34
returns-then-byte-eq34 c =
    let found = c.plain_end-to.ensures in
    let text = c.args.text.now in
    let to = c.plain_end-to.result in
    let inside : to < length text = search rules in
    let quote : slice_index text to ≡ 34 = search rules in
    let low : slice_index text to < 128 = omega (arith, quote) in
    let next = scan_boundary text to found.inside (λ more. not_plain_ascii _ (found.ends more)) in
    record {
      order = found.order;
      inside = omega (arith, inside);
      utf8 = IsUtf8-between text c.args.at to c.requires.utf8 found.order c.requires.boundary next;
      boundary = IsCharBoundary-after_ascii text to c.requires.utf8 inside low;
      seen = λ l. quotes_seen text l c.args.at to found.order found.inside found.plain ∙ quote_seen text (l ++ slice_range text c.args.at to) to inside quote;
    }

pub returns-in_default-get : goal.returns-in_default-get
returns-in_default-get c = λ l.
    let found = c.plain_end-to.ensures in
    let text = c.args.text.now in
    let to = c.plain_end-to.result in
    let inside : to < length text = search rules in
    let past : length text ≤ to + 1 = search rules in
    let byte : slice_index text to ≡ 92 = not_plain (slice_index text to) (found.ends inside) (search (rules, nat_tests)) in
    quotes_seen text l c.args.at to found.order found.inside found.plain ∙ escape_cut text (l ++ slice_range text c.args.at to) to inside byte past

pub returns-in-None : goal.returns-in-None
returns-in-None c = λ l.
    let found = c.plain_end-to.ensures in
    let text = c.args.text.now in
    let to = c.plain_end-to.result in
    let inside : to < length text = search rules in
    let more : to + 1 < length text = search rules in
    let byte : slice_index text to ≡ 92 = not_plain (slice_index text to) (found.ends inside) (search (rules, nat_tests)) in
    let wrong : escape_of (slice_index text (to + 1)) ≡ None = search rules in
    quotes_seen text l c.args.at to found.order found.inside found.plain ∙ escape_wrong text (l ++ slice_range text c.args.at to) to inside byte more wrong

pub returns-in-Some-unescaped : goal.returns-in-Some-unescaped
returns-in-Some-unescaped c =
    let found = c.plain_end-to.ensures in
    let text = c.args.text.now in
    let at = c.args.at in
    let to = c.plain_end-to.result in
    let m = c.in-Some-unescaped.byte in
    let inside : to < length text = search rules in
    let more : to + 1 < length text = search rules in
    let byte : slice_index text to ≡ 92 = not_plain (slice_index text to) (found.ends inside) (search (rules, nat_tests)) in
    let escape : escape_of (slice_index text (to + 1)) ≡ Some m = search rules in
    let low = escape_ascii (slice_index text (to + 1)) m escape in
    let next = scan_boundary text to found.inside (λ h. not_plain_ascii _ (found.ends h)) in
    let two : to + 1 + 1 ≡ to + 2 = omega arith in
    record {
      order = found.order;
      inside = omega (arith, more);
      utf8 = IsUtf8-between text at to c.requires.utf8 found.order c.requires.boundary next;
      ascii = low.1;
      boundary = subst (IsCharBoundary text) two (IsCharBoundary-after_ascii text (to + 1) c.requires.utf8 more low.0);
      seen = λ l. quotes_seen text l at to found.order found.inside found.plain ∙ escape_seen text (l ++ slice_range text at to) to m inside byte more escape;
    }
