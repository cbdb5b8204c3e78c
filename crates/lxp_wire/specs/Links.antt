-- What a link means: everything that generic code may say of it.
use Rattle.std.specs.Prelude.{◌≡◌, ℕ, ◌≤◌, Bool, true, List}
use Rattle.lxp_core.specs.View.{View, Keeps}
use Rattle.wire_text.specs.declared.request.Request.{Request}
use Rattle.wire_text.specs.Reply.{Said, reply_bytes}
use Rattle.wire_text.specs.Replies.{SpellsShallow}
use Rattle.lxp_wire.specs.Answer.{IsAnswer}

-- the meaning of a link
pub record LinkView : Type 0 where
  -- how often it failed
  pub faults : ℕ
  -- how many replies it gave
  pub replies : ℕ
  -- the last reply
  pub last : List ℕ
  -- whether it tells the sources that reply
  pub told : Bool
  -- the sources that reply, where they are told
  pub peer : View

-- what every call keeps: whether the sources are told, what they are, and counts that don't fall
pub record KeepsLink (old new : LinkView) : Type 0 where
  pub told : new.told ≡ old.told
  pub faults : old.faults ≤ new.faults
  pub replies : old.replies ≤ new.replies
  pub peer : old.told ≡ true → Keeps old.peer new.peer

-- the text is the reply that sources give to a request
abbrev pub IsReplyOf : View → View → Request → List ℕ → Type 0
IsReplyOf old new r text = (said : Said) × (text ≡ reply_bytes said) × IsAnswer old new r said

-- a text that told sources reply is read as what they answered
abbrev pub ToldRepliesAreRead : Type 0
ToldRepliesAreRead = (old new : View) (r : Request) (x : List ℕ) → IsReplyOf old new r x → (said : Said) × IsAnswer old new r said × SpellsShallow x said
