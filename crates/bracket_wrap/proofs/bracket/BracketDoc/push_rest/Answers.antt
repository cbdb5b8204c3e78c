use Rattle.std.proofs.Common.{◌∙◌, ap, sym}
use Rattle.lxp_core.specs.Open.{nil, hole}
use Rattle.lxp_core.specs.Plain.{put_all}
use Rattle.lxp_core.proofs.Plains.{put_all-push_hole}
use Rattle.bracket_wrap.proofs.Given.{rest-some}
use Rattle.bracket_wrap.proofs.bracket.BracketDoc.push_rest.Goals as goal

pub returns-in_ok-make_room-in-Some : goal.returns-in_ok-make_room-in-Some
returns-in_ok-make_room-in-Some c =
    let before = c.args.list.now.items in
    ap (λ ts. put_all ts nil) (rw (c.make_room.ensures.items) at c.push_reserved.ensures.items)
    ∙ put_all-push_hole before c.hole.result nil
    ∙ ap (λ h. put_all before (hole h nil)) c.hole.ensures
    ∙ ap (put_all before) (sym (rest-some c.args.self.now.nodes c.args.rest c.before-from.result c.before-from.ensures c.in-Some.ensures.0))
