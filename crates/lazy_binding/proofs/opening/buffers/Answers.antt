use Rattle.std.proofs.Common.{rules, sym, ◌∙◌, subst}
use Rattle.lazy_binding.specs.Opening.{AreBuffers}
use Rattle.lazy_binding.proofs.SourceBuffers.{buffers_more}
use Rattle.lazy_binding.proofs.opening.buffers.Goals as goal

pub loop-number-preserved : goal.loop-number-preserved
loop-number-preserved g c = record {
  length = search rules;
  buffers = subst (AreBuffers (g.S.Sources.view c.args.s.now)) (sym c.in_ok-push.ensures.items)
      (buffers_more (g.S.Sources.view c.args.s.now) c.loop-number.opened.items c.in_ok-open.field-0 c.loop-number.invariant.buffers (c.in_ok-open.ensures.number ∙ sym c.loop-number.invariant.length) c.in_ok-open.ensures.sources);
}
