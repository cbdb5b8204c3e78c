use Rattle.std.proofs.Common.{◌<◌, ◌∙◌, IsTrue, List, ℕ, length, slice_range, slice_index, sym, subst, arith}
use Rattle.std.specs.List.{list_all}
use Rattle.mix_base.proofs.Choices.{list_all-push}
use Rattle.mix_base.proofs.Slices.{slice_more}
use Rattle.mix_tree.specs.LabelGrammar.{is_plain}
use Rattle.mix_tree.proofs.label_scan.plain_end.Goals as goal

pub loop-end-preserved : goal.loop-end-preserved
loop-end-preserved c =
    let text = c.args.text.now in
    let from = c.args.from in
    let end = c.loop-end.end in
    let inside : end < length text = omega (arith, c.loop-end-test.true) in
    let more = slice_more text from end c.loop-end.invariant.order inside in
    let holds : IsTrue (is_plain (slice_index text end)) = sym c.is_plain_byte.ensures ∙ c.if-is_plain_byte.true in
    let P : List ℕ → Type 0 = λ l. IsTrue (list_all is_plain l) in
    record {
      order = omega (arith, c.loop-end.invariant.order);
      inside = omega arith;
      plain = subst P (sym more) (list_all-push is_plain (slice_range text from end) (slice_index text end) c.loop-end.invariant.plain holds);
    }
