use Rattle.std.proofs.Common.{◌∙◌, ap, sym}
use Rattle.lxp_core.specs.Open.{nil}
use Rattle.lxp_core.specs.Plain.{put_all}
use Rattle.lxp_core.proofs.Plains.{put_all-push_hole}
use Rattle.row_document.specs.Rows.{rest_given}
use Rattle.row_document.proofs.nodes.push_rest.Goals as goal

pub returns-in_ok-push : goal.returns-in_ok-push
returns-in_ok-push c =
    let before = c.args.list.now.items in
    ap (λ ts. put_all ts nil) c.in_ok-push.ensures.items ∙ put_all-push_hole before c.args.rest nil
    ∙ ap (λ b. put_all before (rest_given b c.args.rest)) (sym c.if-more.true)
