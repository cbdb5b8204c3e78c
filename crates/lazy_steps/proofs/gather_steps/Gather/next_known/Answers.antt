use Rattle.std.proofs.Common.{◌≡◌, ◌+◌, ◌∙◌, sym, ap, suc, [], arith}
use Rattle.std.specs.Prelude.{option_copied, slice_get, slice_index_or}
use Rattle.std.proofs.lemmas.List.{get_or_default}
use Rattle.lazy_binding.specs.declared.position.Position.{Position, First'}
use Rattle.lazy_binding.specs.Gathered.{Gathered, no_groups}
use Rattle.lazy_steps.proofs.gather_steps.Gather.next_known.Goals as goal

pub returns-in_ok-put-in-Some-clause-group : goal.returns-in_ok-put-in-Some-clause-group
returns-in_ok-put-in-Some-clause-group c =
    let items = c.args.growing.now.walked.gathered.items in
    let n = c.args.self.now.walk.op in
    let more : c.args.count + 1 ≡ suc c.args.count = omega arith in
    let is = c.index-gathered.ensures ∙ get_or_default items n c.index-gathered.result.now no_groups c.requires in (
      c.in-Some.first.now,
      record { ptr = c.in_ok-share-in-Some.field-0.ptr; value = tt },
      ap (λ (z : Gathered). slice_get (slice_index_or z.groups c.args.count []) 0) (sym is) ∙ sym c.member.ensures ∙ ap option_copied c.in-Some.is,
      c.in_ok-put-in-Some.ensures.ok ∙ ap (First' (record { ptr = c.in_ok-share-in-Some.field-0.ptr; value = tt }) c.in_ok-share-in-Some.field-0.value) more ∙ ap (λ (z : Position). First' (record { ptr = c.in_ok-share-in-Some.field-0.ptr; value = tt }) z (suc c.args.count)) c.in_ok-share-in-Some.ensures.ok,
    )
