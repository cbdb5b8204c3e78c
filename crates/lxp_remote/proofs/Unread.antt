-- What the reply of a link shows, and what it is where the link tells its sources.
use Rattle.std.proofs.Common.{◌≡◌, ℕ, ◌+◌, List, drop, sym, subst}
use Rattle.std.specs.Prelude.{Ok, Err}
use Rattle.std.proofs.lemmas.List.{take-append-drop}
use Rattle.mix_base.specs.Counts.{HasRisen}
use Rattle.lxp_core.specs.View.{View}
use Rattle.wire_text.specs.declared.request.Request.{Request}
use Rattle.wire_text.specs.declared.fault.ReplyFault.{ReplyFault}
use Rattle.wire_text.specs.declared.fault.ReplyFault.TheVariants as faults
use Rattle.wire_text.specs.declared.reply.Reply.{Reply}
use Rattle.wire_text.specs.Plain.{said}
use Rattle.wire_text.specs.Reading.{IsUnexpectedAt}
use Rattle.wire_text.specs.Reply.{Said, IsReplyText}
use Rattle.wire_text.specs.Replies.{SpellsShallow, IsThisReply}
use Rattle.lxp_wire.specs.Answer.{IsAnswer}
use Rattle.lxp_wire.specs.Links.{LinkView, IsReplyOf}
use Rattle.lxp_wire.proofs.Carried.{told_read}
use Rattle.lxp_remote.specs.declared.fault.WireFault.{WireFault}
use Rattle.lxp_remote.specs.declared.fault.WireFault.TheVariants.{Link, BadFragment, PeerFailed, PeerUnknown, PeerNoSource}
use Rattle.lxp_remote.specs.Causes.{Asked, Shows, HasCome}

-- a text with an unexpected byte is no reply
pub not_a_reply : (x : List ℕ) (at : ℕ) → IsUnexpectedAt IsReplyText x at → IsReplyText x → ⊥
not_a_reply x at u t = u.wrong (drop (at + 1) x, subst IsReplyText (sym (take-append-drop (at + 1) x)) t)

-- what is read of a reply of told sources is what they answered
pub told_answer : (old new : View) (r : Request) (x : List ℕ) (u : Reply) → IsReplyOf old new r x → ((q : Said) → SpellsShallow x q → IsThisReply (Ok u) q) → IsAnswer old new r (said u)
told_answer old new r x u p only = let t = told_read old new r x p in subst (IsAnswer old new r) (sym (only t.0 t.2)) t.1

-- a reply of told sources is not read only for want of memory
pub told_memory : (old new : View) (r : Request) (x : List ℕ) (e : ReplyFault) → IsReplyOf old new r x → ((q : Said) → SpellsShallow x q → IsThisReply (Err e) q) → e ≡ faults.OutOfMemory
told_memory old new r x e p only = let t = told_read old new r x p in only t.0 t.2

-- a cause that the last reply shows has come, where one was given
pub has_come : (a : Asked) (old new : LinkView) (f : WireFault) → HasRisen old.replies new.replies → Shows a f new.last → HasCome a old new f
has_come a old new Link r s = absurd s
has_come a old new (BadFragment b) r s = (r, s)
has_come a old new PeerFailed r s = (r, s)
has_come a old new PeerUnknown r s = (r, s)
has_come a old new PeerNoSource r s = (r, s)
