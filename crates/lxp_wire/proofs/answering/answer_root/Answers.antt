use Rattle.std.proofs.Common.{◌++◌, ◌∷◌, [], ◌∙◌, ap, sym, subst, arith, append_assoc}
use Rattle.lxp_core.proofs.Views.{keeps_same}
use Rattle.wire_text.specs.Bytes.{hole_bytes, IsHole}
use Rattle.wire_text.specs.Reply.{root, no_source}
use Rattle.lxp_wire.proofs.answering.answer_root.Goals as goal

pub returns-then-s-count : goal.returns-then-s-count
returns-then-s-count g c =
    let v = g.S.Sources.view c.args.sources.now in
    (no_source, c.in_ok-push.ensures.items, record { keeps = keeps_same v; fills = omega arith; answers = omega (arith, c.if-s-count.true, c.count.ensures); reply = tt })

pub returns : goal.returns
returns g c =
    let v = g.S.Sources.view c.args.sources.now in
    let made = c.whole_hole.result in
    let out = c.args.out.now.items in (
      root made.id made.weight,
      c.in_ok-push_hole-in-Some.ensures ∙ ap (λ x. x ++ hole_bytes made.id made.weight) c.in_ok-push-in-Some.ensures.items ∙ append_assoc out (0x81 ∷ []) (hole_bytes made.id made.weight),
      record {
        keeps = keeps_same v;
        fills = omega arith;
        answers = (
          omega (arith, c.if-s-count.false, c.count.ensures),
          c.whole_hole.ensures.id ∙ c.get_root-id.ensures,
          c.whole_hole.ensures.weight ∙ c.in-Some.ensures.1 ∙ ap (v.weight c.args.s) (sym c.whole_hole.ensures.id),
        );
        reply = (subst IsHole (sym c.whole_hole.ensures.id) c.whole_hole.ensures.hole, omega (arith, c.whole_hole.ensures.weight, c.whole_hole.ensures.fits));
      },
    )
