use Rattle.std.proofs.Common.{◌∙◌, List, ap}
use Rattle.std.proofs.lemmas.Result.{IfOk-weaker}
use Rattle.plan_forms.specs.declared.link.Link.{Link}
use Rattle.lazy_binding.specs.Members.{member_label}
use Rattle.lazy_binding.specs.Parts.{operators, world_of}
use Rattle.lazy_steps.proofs.Linked.{right_nodes}
use Rattle.lazy_steps.proofs.join_steps.Join.label_for.Goals as goal

pub key_by-requires-clause-nodes : goal.key_by-requires-clause-nodes
key_by-requires-clause-nodes c =
    let k = c.args.self.now in
    right_nodes (operators k.walk.fixed.now) c.requires.fixed.typed k.walk.op c.requires.op k.left k.right k.tests.now c.requires.is c.links-by.result.now c.links-by.ensures

pub returns : goal.returns
returns c =
    let k = c.args.self.now in
    IfOk-weaker c.key_by.result _ _
    (λ key h view bench of told. h view bench of told ∙ ap (λ (z : List Link). member_label (world_of view c.args.growing.now) (operators k.walk.fixed.now) k.right z c.args.r.now.value) c.links-by.ensures)
    (rw c.deref.ensures at c.key_by.ensures)
