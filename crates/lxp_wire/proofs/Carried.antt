-- What told sources reply is read as what they answered.
use Rattle.std.proofs.Common.{◌≡◌, ◌+◌, refl, ap}
use Rattle.std.specs.Prelude.{None, option_map}
use Rattle.lxp_core.specs.View.{View}
use Rattle.wire_text.specs.declared.request.Request.{Request}
use Rattle.wire_text.specs.declared.request.Request.TheVariants.{Count, Root, Fill}
use Rattle.wire_text.specs.Reply.{Said, count, root, list, failed, unknown_hole, no_memory, no_source, deep_place_in}
use Rattle.wire_text.proofs.Shallow.{small_shallow}
use Rattle.lxp_wire.specs.Answer.{Answers}
use Rattle.lxp_wire.specs.Links.{ToldRepliesAreRead}

-- what sources answer has no place too deep
answer_shallow : (old new : View) (r : Request) (a : Said) → Answers old new r a → deep_place_in 200 a ≡ None
answer_shallow old new r (count n) h = refl
answer_shallow old new r (root id w) h = refl
answer_shallow old new r failed h = refl
answer_shallow old new r unknown_hole h = refl
answer_shallow old new r no_memory h = refl
answer_shallow old new r no_source h = refl
answer_shallow old new Count (list o) h = absurd h
answer_shallow old new (Root s) (list o) h = absurd h
answer_shallow old new (Fill s i) (list o) h = ap (option_map (λ n. 5 + n)) (small_shallow 200 o h.2.small.1)

-- the text is read as their answer
pub told_read : ToldRepliesAreRead
told_read old new r x p = (p.0, p.2, ((p.2.reply, p.1), answer_shallow old new r p.0 p.2.answers))
