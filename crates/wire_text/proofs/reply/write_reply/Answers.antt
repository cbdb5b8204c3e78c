use Rattle.std.proofs.Common.{arith, ap, length, subst}
use Rattle.wire_text.specs.Plain.{said}
use Rattle.wire_text.specs.Replies.{IsWritable}
use Rattle.wire_text.proofs.Trees.{count_of-plain}
use Rattle.wire_text.proofs.reply.write_reply.Goals as goal

pub push_list-requires-clause-few : goal.push_list-requires-clause-few
push_list-requires-clause-few c =
    let writable = subst (λ r. IsWritable (said r)) c.in-List.is c.requires in
    omega (arith, writable.0, count_of-plain c.in-List.trees.items, ap length c.deref.ensures.value)
