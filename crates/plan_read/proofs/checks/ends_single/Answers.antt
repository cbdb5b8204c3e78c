use Rattle.std.proofs.Common.{◌≡◌, ◌<◌, ◌+◌, ◌∙◌, ℕ, false, sym, ap, subst, arith, length, get_or, slice_index_or}
use Rattle.std.specs.List.{AllByRecursion}
use Rattle.std.proofs.lemmas.Bool.{ne_eqb}
use Rattle.std.proofs.lemmas.List.{length_push}
use Rattle.plan_core.specs.PlanMade.{op_of}
use Rattle.plan_core.specs.Plans.{Operator, source, tuple_destroy}
use Rattle.plan_core.specs.Valid.{inputs_of, is_single_at}
use Rattle.plan_read.specs.Checks.{ops_of}
use Rattle.plan_read.specs.Drafts.{all_numbered}
use Rattle.plan_read.proofs.Counted.{smaller_at}
use Rattle.plan_read.proofs.Ended.{ends_further, ends_then, ends_else, known_more, not_destroy, single_known}
use Rattle.plan_read.proofs.Stopping.{draft_here, many_ops}
use Rattle.plan_read.proofs.checks.ends_single.Goals as goal
use Rattle.plan_read.proofs.checks.ends_single.Goals.{then-place-drafts, else-place-drafts}

pub returns-in-TupleDestroy : goal.returns-in-TupleDestroy
returns-in-TupleDestroy c = λ numbered.
    (let ds = c.args.drafts.now in
    let ops = ops_of (all_numbered ds) in
    let k = c.loop-place.place in
    let d = c.index-drafts-place.result in
    let input = c.in-TupleDestroy.input in
    let element = c.in-TupleDestroy.element in
    let last = tuple_destroy input element in
    let inside : k < length ds = omega arith in
    let many = many_ops ds in
    let there : k < length ops = omega (arith, many, inside) in
    let so_far = c.loop-place.invariant numbered in
    let same : get_or ops k last ≡ last = draft_here ds k d last inside c.index-drafts-place.is ∙ ap op_of c.in-TupleDestroy.is in
    let small = subst (λ (o : Operator). AllByRecursion (λ i. i < k) (inputs_of o)) same (smaller_at ops k (length ds) last there inside numbered.smaller) in
    elim c.if-place-drafts.branch [
      | then-place-drafts w ↦
          (let value = rw w.deref.ensures.value at w.is_single_at.ensures in
          let ends : k + 1 ≡ length ops = omega (arith, many, w.if-place-drafts.true) in
          w.result-is ∙ value ∙ so_far.1 input small.0 ∙ sym (ends_then (is_single_at ops) ops k input element there same ends) ∙ so_far.2)
      | else-place-drafts w ↦
          w.result-is ∙ ne_eqb (k + 1) (length ds) w.if-place-drafts.false ∙ sym (ends_else (is_single_at ops) ops k input element there same (λ e. w.if-place-drafts.false (e ∙ many))) ∙ so_far.2
    ])

pub loop-place-preserved : goal.loop-place-preserved
loop-place-preserved c = λ numbered.
    (let ds = c.args.drafts.now in
    let ops = ops_of (all_numbered ds) in
    let k = c.loop-place.place in
    let d = c.index-drafts-place.result in
    let op = op_of d.op in
    let known = c.loop-place.singles.items in
    let inside : k < length ds = omega arith in
    let many = many_ops ds in
    let there : k < length ops = omega (arith, many, inside) in
    let so_far = c.loop-place.invariant numbered in
    let items = c.in_ok-push.ensures.items in
    let here = draft_here ds k d (source 0 0) inside c.index-drafts-place.is in
    let small = subst (λ (o : Operator). AllByRecursion (λ i. i < k) (inputs_of o)) here (smaller_at ops k (length ds) (source 0 0) there inside numbered.smaller) in
    let value = rw c.deref-in-loop-place.ensures.value at c.is_single.ensures in
    let single = value ∙ single_known ops k op known here small so_far.1 in (
      ap length items ∙ length_push known c.is_single.result ∙ ap (λ (n : ℕ). n + 1) so_far.0,
      λ n less. ap (λ bs. slice_index_or bs n false) items ∙ known_more known (is_single_at ops) k c.is_single.result so_far.0 so_far.1 single n less,
      ends_further (is_single_at ops) ops k op there (draft_here ds k d op inside c.index-drafts-place.is) (not_destroy d.op c.in_default.not-TupleDestroy) ∙ so_far.2,
    ))
