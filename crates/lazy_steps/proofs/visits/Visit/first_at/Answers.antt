use Rattle.std.proofs.Common.{ap, ◌∙◌}
use Rattle.lazy_binding.specs.declared.position.Position.{Position, Found'}
use Rattle.lazy_steps.proofs.Refused.{for_memory, handed_on, none_given}
use Rattle.lazy_steps.proofs.visits.Visit.first_at.Goals as goal

pub returns-in-None : goal.returns-in-None
returns-in-None g c = record { asked = c.first.ensures.asked; cause = tt; answer = rw c.in-None.is at c.in_ok-first.ensures.answer }

pub returns-in_err-first : goal.returns-in_err-first
returns-in_err-first g c = record { asked = c.first.ensures.asked; cause = handed_on _ (g.S.Sources.view c.args.s.now) (g.S.Sources.view c.first.new.s) _ _ c.from_residual.ensures (c.in_err-first.ensures.cause); answer = none_given _ _ c.from_residual.ensures.0 }

pub returns-in_err-share-in-Some : goal.returns-in_err-share-in-Some
returns-in_err-share-in-Some g c = record { asked = c.first.ensures.asked; cause = for_memory _ (g.S.Sources.view c.args.s.now) (g.S.Sources.view c.first.new.s) _ _ c.from_residual-in_err-share-in-Some.ensures c.in_err-share-in-Some.ensures.err; answer = none_given _ _ c.from_residual-in_err-share-in-Some.ensures.0 }

pub returns-in_err-put-in-Some : goal.returns-in_err-put-in-Some
returns-in_err-put-in-Some g c = record { asked = c.first.ensures.asked; cause = for_memory _ (g.S.Sources.view c.args.s.now) (g.S.Sources.view c.first.new.s) _ _ c.from_residual-in_err-put-in-Some.ensures c.in_err-put-in-Some.ensures.err; answer = none_given _ _ c.from_residual-in_err-put-in-Some.ensures.0 }

pub returns-in_ok-put-in-Some : goal.returns-in_ok-put-in-Some
returns-in_ok-put-in-Some g c = record {
  asked = c.first.ensures.asked;
  cause = tt;
  answer = (c.in-Some.found, (rw c.in-Some.is at c.in_ok-first.ensures.answer), (record { ptr = c.in_ok-share-in-Some.field-0.ptr; value = tt }, c.in_ok-put-in-Some.ensures.ok ∙ ap (λ (x : Position). Found' c.args.self.now.source (record { ptr = c.in_ok-share-in-Some.field-0.ptr; value = tt }) x c.in-Some.found) c.in_ok-share-in-Some.ensures.ok));
}
