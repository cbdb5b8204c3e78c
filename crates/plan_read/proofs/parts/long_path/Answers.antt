use Rattle.std.proofs.Common.{◌≡◌, ◌∙◌, ap, arith, length, replicate}
use Rattle.path_expr.specs.Form.{any, none}
use Rattle.plan_read.proofs.WordReads.{long_of}
use Rattle.plan_read.proofs.parts.long_path.Goals as goal

pub returns : goal.returns
returns c =
    let members = c.loop-members.members in
    let many : length members.items ≡ 121 = omega (arith, members.ok.0) in
    c.new-2.ensures ∙ long_of members.items (c.loop-members.invariant.same ∙ ap (λ n. replicate n (record { head = any; members = none })) many)
