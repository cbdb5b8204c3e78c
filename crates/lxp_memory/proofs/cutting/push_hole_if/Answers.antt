use Rattle.std.proofs.Common.{◌∙◌, ap, sym}
use Rattle.lxp_core.specs.Plain.{put_all}
use Rattle.lxp_memory.specs.Cut.{hole_if}
use Rattle.lxp_core.proofs.Plains.{put_all-push_hole}
use Rattle.lxp_memory.proofs.cutting.push_hole_if.Goals as goal

pub returns-in_ok-push : goal.returns-in_ok-push
returns-in_ok-push c = λ rest.
    let before = c.args.list.now.items in
    ap (λ ts. put_all ts rest) c.in_ok-push.ensures.items
    ∙ put_all-push_hole before c.hole.result rest
    ∙ ap (λ h. put_all before (Rattle.lxp_core.specs.Open.hole h rest)) c.hole.ensures
    ∙ ap (λ wanted. put_all before (hole_if wanted c.args.span rest)) (sym c.if-wanted.true)
