use Rattle.std.proofs.Common.{◌≡◌, ◌∙◌, ◌+◌, ◌∷◌, ◌++◌, [], drop, slice_range, sym, ap, subst}
use Rattle.std.specs.Str.{IsUtf8}
use Rattle.std.proofs.lemmas.Str.{IsUtf8-append}
use Rattle.mix_base.proofs.Utf8.{utf8_push}
use Rattle.mix_tree.specs.LabelMachine.{in_quotes, seen_from}
use Rattle.mix_tree.proofs.label_reader.read_escaped.Goals as goal

pub loop-to-preserved : goal.loop-to-preserved
loop-to-preserved c =
    let text = c.args.text.now in
    let found = c.in-Escape.ensures in
    let label = c.loop-to.label.items in
    let piece = slice_range text c.loop-to.at c.in-Escape.to in
    let items : c.push.new.self.items ≡ (c.loop-to.label.items ++ slice_range c.args.text.now c.loop-to.at c.in-Escape.to) ++ c.in-Escape.byte ∷ [] =
    c.in_ok-push-in-Escape.ensures.items ∙ ap (λ r. r ++ c.in-Escape.byte ∷ []) c.in_ok-extend_from_slice-in-Escape.ensures.items in
    record {
      inside = found.inside;
      boundary = found.boundary;
      label = subst IsUtf8 (sym items) (utf8_push (label ++ piece) c.in-Escape.byte found.ascii (IsUtf8-append label piece c.loop-to.invariant.label found.utf8));
      seen = ap (λ r. seen_from (in_quotes r) (c.in-Escape.to + 2) (drop (c.in-Escape.to + 2) text)) items ∙ sym (found.seen label) ∙ c.loop-to.invariant.seen;
    }

pub of_text-requires : goal.of_text-requires
of_text-requires c =
    let text = c.args.text.now in
    let found = c.in-Quote.ensures in
    subst IsUtf8 (sym (c.deref.ensures.value ∙ c.in_ok-extend_from_slice-in-Quote.ensures.items))
    (IsUtf8-append c.loop-to.label.items (slice_range text c.loop-to.at c.in-Quote.to) c.loop-to.invariant.label found.utf8)
