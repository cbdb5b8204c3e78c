-- What is read of a reply, piece by piece.
use Rattle.std.proofs.Common.{◌≡◌, inl, inr, ℕ, ◌^◌, ◌<◌, List, [], ◌∷◌, ◌++◌, length, take, drop, refl, sym, ap, subst, ◌∙◌, append_assoc, Option, Some, None, Ok, Err, arith}
use Rattle.std.specs.Io.KnownBytes.{Consumes, Keeps, IsAtEnd}
use Rattle.std.proofs.lemmas.List.{take-append-drop, length-append, length-drop}
use Rattle.mix_base.proofs.Lists.{append_nil}
use Rattle.wire_text.specs.Reply.{SpellsReply}
use Rattle.wire_frame.specs.Standing.{Standing, at_reply, at_tree, lost, after, standing_after}
use Rattle.wire_frame.proofs.Standings.{after-append, lost_stays}
use Rattle.wire_frame.proofs.Framed.{replies_whole, whole_is_the_reply, lost_is_no_reply}
use Rattle.file_link.specs.declared.loss.Loss.{Loss}
use Rattle.file_link.specs.declared.loss.Loss.TheVariants.{Unsent, Ended, Lost, TooLong, Failed, OutOfMemory}
use Rattle.file_link.specs.Receiving.{TakesPiece, Receives, AreReceived}

-- a piece comes after the bytes before it
pub together : (old piece : List ℕ) (s : Standing) → s ≡ standing_after old → after s piece ≡ standing_after (old ++ piece)
together old piece s e = ap (λ t. after t piece) e ∙ sym (after-append at_reply old piece)

-- a piece is taken by its first bytes and then the others
in_two : (s : Standing) (n : ℕ) (piece : List ℕ) → after s piece ≡ after (after s (take n piece)) (drop n piece)
in_two s n piece = sym (ap (after s) (take-append-drop n piece)) ∙ after-append s (take n piece) (drop n piece)

-- where the first bytes of a piece are lost, all are
pub lost_all : (s : Standing) (n : ℕ) (piece : List ℕ) → after s (take n piece) ≡ lost → after s piece ≡ lost
lost_all s n piece e = in_two s n piece ∙ ap (λ t. after t (drop n piece)) e ∙ lost_stays (drop n piece)

-- bytes behind a whole reply are lost
pub behind_lost : (s : Standing) (n : ℕ) (piece : List ℕ) → n < length piece → after s (take n piece) ≡ at_tree 0 → after s piece ≡ lost
behind_lost s n piece short e = in_two s n piece ∙ ap (λ t. after t (drop n piece)) e ∙ more_lost (drop n piece) (omega (arith, length-drop n piece, short))
  where
    more_lost : (x : List ℕ) → 0 < length x → after (at_tree 0) x ≡ lost
    more_lost [] h = absurd (omega arith)
    more_lost (b ∷ x) h = lost_stays x

-- bytes are consumed, and then others
pub consumed_more : (a b c : Option (List ℕ)) (x y : List ℕ) → Consumes a b x → Consumes b c y → Consumes a c (x ++ y)
consumed_more None b c x y p q = tt
consumed_more (Some u) None c x y p q = absurd p
consumed_more (Some u) (Some v) None x y p q = absurd q
consumed_more (Some u) (Some v) (Some w) x y p q = p ∙ ap (λ t. x ++ t) q ∙ sym (append_assoc x y w)

-- bytes are consumed, and then none
pub consumed_kept : (a b c : Option (List ℕ)) (x : List ℕ) → Consumes a b x → Keeps b c → Consumes a c x
consumed_kept None b c x p q = tt
consumed_kept (Some u) None c x p q = absurd p
consumed_kept (Some u) (Some v) None x p q = absurd q
consumed_kept (Some u) (Some v) (Some w) x p q = p ∙ ap (λ t. x ++ t) (sym q)

-- no bytes are consumed
pub consumed_none : (a : Option (List ℕ)) → Consumes a a []
consumed_none None = tt
consumed_none (Some u) = refl

-- bytes that were consumed of a text are its first
first_of : (x : List ℕ) (new : Option (List ℕ)) (bytes : List ℕ) → Consumes (Some x) new bytes → (rest : List ℕ) × (x ≡ bytes ++ rest) × (IsAtEnd new → rest ≡ [])
first_of x None bytes c = absurd c
first_of x (Some rest) bytes c = (rest, c, λ e. e)

-- a reply that a reader gives alone is received
pub are_received : AreReceived
are_received x r new (Ok reply) is few (bytes, consumed, tells, end) =
    let f = first_of x new bytes consumed in
    let none : f.0 ≡ [] = whole_is_the_reply bytes f.0 r tells.1.0 (subst (λ t. SpellsReply t r) f.1 is, subst (λ t. length t < 2 ^ 64) f.1 (omega (arith, few))) in
    sym tells.0 ∙ sym (append_nil bytes) ∙ ap (λ t. bytes ++ t) (sym none) ∙ sym f.1
are_received x r new (Err Unsent) is few (bytes, consumed, tells, end) = absurd tells
are_received x r new (Err Ended) is few (bytes, consumed, tells, end) =
    let f = first_of x new bytes consumed in
    let all : x ≡ bytes = f.1 ∙ ap (λ t. bytes ++ t) (f.2 end) ∙ append_nil bytes in
    absurd (tells.not_whole (ap standing_after (sym all) ∙ (replies_whole x r (is, omega (arith, few))).0))
are_received x r new (Err Lost) is few (bytes, consumed, tells, end) =
    let f = first_of x new bytes consumed in
    absurd (lost_is_no_reply bytes f.0 r tells (subst (λ t. SpellsReply t r) f.1 is, subst (λ t. length t < 2 ^ 64) f.1 (omega (arith, few))))
are_received x r new (Err TooLong) is few (bytes, consumed, tells, end) =
    let f = first_of x new bytes consumed in
    absurd (omega (arith, few, tells, ap length f.1, length-append bytes f.0))
are_received x r new (Err Failed) is few (bytes, consumed, tells, end) = inl refl
are_received x r new (Err OutOfMemory) is few (bytes, consumed, tells, end) = inr refl

-- a piece that is refused is what was read last
pub refused : (start now : Option (List ℕ)) (bytes piece new : List ℕ) (s : Standing) (loss : Loss) → Consumes start now (bytes ++ piece) → TakesPiece bytes piece s new (Err loss)
    → Receives start now (Err loss)
refused start now bytes piece new s Unsent c t = absurd t
refused start now bytes piece new s Ended c t = absurd t
refused start now bytes piece new s Lost c t = (bytes ++ piece, c, t, tt)
refused start now bytes piece new s TooLong c t = (bytes ++ piece, c, t, tt)
refused start now bytes piece new s Failed c t = absurd t
refused start now bytes piece new s OutOfMemory c t = (bytes ++ piece, c, tt, tt)
