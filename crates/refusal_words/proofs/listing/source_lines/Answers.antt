use Rattle.std.proofs.Common.{◌∙◌, ◌++◌, ◌<◌, List, ℕ, ap, sym, take, length, arith}
use Rattle.std.specs.List.{flat_map}
use Rattle.xmas_read.specs.Results.{names_of_sources}
use Rattle.refusal_words.specs.Listing.{item_line}
use Rattle.refusal_words.proofs.SourceLines.{lines_more}
use Rattle.refusal_words.proofs.listing.source_lines.Goals as goal

pub loop-number-preserved : goal.loop-number-preserved
loop-number-preserved c =
    let inside : c.loop-number.number < length c.args.catalog.now = omega (arith, c.loop-number-test.true, c.len-number-end.ensures.len) in
    c.in_ok-push_item.ensures
    ∙ ap (λ (lines : List ℕ). lines ++ item_line c.bytes.result.now) c.loop-number.invariant
    ∙ ap (λ (name : List ℕ). flat_map item_line (names_of_sources (take c.loop-number.number c.args.catalog.now)) ++ item_line name) c.bytes.ensures.bytes
    ∙ sym (lines_more c.args.catalog.now c.loop-number.number c.spec.result.now inside c.spec.ensures.spec)
