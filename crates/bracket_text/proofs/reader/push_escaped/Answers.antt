use Rattle.std.proofs.Common.{◌∷◌, ◌++◌, ◌∙◌, [], drop, slice_range, refl, sym, ap, arith}
use Rattle.mix_base.proofs.Utf8.{one_utf8}
use Rattle.document_store.specs.Laid.{bare_node, longer}
use Rattle.bracket_text.proofs.reader.push_escaped.Goals as goal

pub loop-to-init : goal.loop-to-init
loop-to-init c =
    let made = c.in_ok-push.ensures.ok in
    record {
      order = omega arith;
      inside = c.requires.inside;
      boundary = c.requires.boundary;
      held = ([], made ∙ ap (λ v. bare_node [] ∷ v) (sym (ap (drop 1) made)), refl);
    }

pub extend-requires-in-Escape-clause-utf8 : goal.extend-requires-in-Escape-clause-utf8
extend-requires-in-Escape-clause-utf8 c = one_utf8 c.in-Escape.byte c.in-Escape.ensures.ascii

pub loop-to-preserved : goal.loop-to-preserved
loop-to-preserved c =
    let found = c.in-Escape.ensures in
    let piece = slice_range c.args.text.now c.loop-to.at c.in-Escape.to in
    let held = c.loop-to.invariant.held in
    record {
      order = omega (arith, c.loop-to.invariant.order, found.order);
      inside = found.inside;
      boundary = found.boundary;
      held = (
        (held.0 ++ piece) ++ c.in-Escape.byte ∷ [],
        c.in_ok-extend-in-Escape-2.ensures.ok ∙ ap (longer (c.in-Escape.byte ∷ [])) (c.in_ok-extend-in-Escape.ensures.ok ∙ ap (longer piece) held.1),
        held.2 ∙ found.seen held.0,
      );
    }

pub returns-in-Quote : goal.returns-in-Quote
returns-in-Quote c =
    let found = c.in-Quote.ensures in
    let piece = slice_range c.args.text.now c.loop-to.at c.in-Quote.to in
    let held = c.loop-to.invariant.held in
    record {
      label = held.0 ++ piece;
      nodes = c.in_ok-extend-in-Quote.ensures.ok ∙ ap (longer piece) held.1 ∙ ap (λ v. bare_node (held.0 ++ piece) ∷ v) (ap (drop 1) c.in_ok-push.ensures.ok);
      next = omega (arith, c.loop-to.invariant.order, found.order);
      inside = found.inside;
      boundary = found.boundary;
      seen_is = held.2 ∙ found.seen held.0;
    }
