-- What reading answers, by what was scanned and made.
use Rattle.std.proofs.Common.{◌≡◌, ℕ, ◌+◌, ◌-◌, List, length, drop, refl, sym, subst, ◌∙◌, arith}
use Rattle.std.specs.Prelude.{None, Result, Ok, Err}
use Rattle.std.proofs.lemmas.List.{take-append-drop}
use Rattle.wire_text.specs.declared.reply.Reply.{Reply}
use Rattle.wire_text.specs.declared.fault.ReplyFault.{ReplyFault}
use Rattle.wire_text.specs.declared.fault.ReplyFault.TheVariants.{Unexpected, Ends, TooDeep, OutOfMemory}
use Rattle.wire_text.specs.Reading.{IsUnexpectedAt}
use Rattle.wire_text.specs.Reply.{Said, SpellsReply, IsReplyText, deep_place_in}
use Rattle.wire_text.specs.Replies.{ReadsReply, SpellsShallow, IsThisReply}
use Rattle.wire_text.specs.Building.{BuildsReply}

-- what is made of a reply is what the text says
pub reads_built : (x : List ℕ) (r : Said) (result : Result Reply ReplyFault) → SpellsReply x r → BuildsReply r result → ReadsReply x result
reads_built x r (Ok u) spelled b = subst (λ s. SpellsReply x s × (deep_place_in 200 s ≡ None)) (sym b.0) (spelled, b.1)
reads_built x r (Err (Unexpected at)) spelled b = absurd b
reads_built x r (Err Ends) spelled b = absurd b
reads_built x r (Err (TooDeep at)) spelled b = (r, spelled, b)
reads_built x r (Err OutOfMemory) spelled b = tt

-- a reply of at most 200 levels is made, unless memory runs out
pub built_is : (x : List ℕ) (r : Said) (result : Result Reply ReplyFault) → SpellsShallow x r → BuildsReply r result → IsThisReply result r
built_is x r (Ok u) spelled b = b.0
built_is x r (Err (Unexpected at)) spelled b = absurd b
built_is x r (Err Ends) spelled b = absurd b
built_is x r (Err (TooDeep at)) spelled b = let e = sym b ∙ spelled.1 in absurd cc
built_is x r (Err OutOfMemory) spelled b = refl

-- no byte of a reply is unexpected
pub all_expected : (x : List ℕ) (at : ℕ) → IsReplyText x → IsUnexpectedAt IsReplyText x at → ⊥
all_expected x at is u = u.wrong (drop (at + 1) x, subst IsReplyText (sym (take-append-drop (at + 1) x)) is)

-- the place of a byte that is so many bytes before the end
pub place_of : (x : List ℕ) (at left : ℕ) → at + left ≡ length x → IsUnexpectedAt IsReplyText x at → IsUnexpectedAt IsReplyText x (length x - left)
place_of x at left e u = let same : at ≡ length x - left = omega arith in subst (IsUnexpectedAt IsReplyText x) same u
