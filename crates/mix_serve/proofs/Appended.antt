-- Pieces that are written to a sink, one after another.
use Rattle.std.proofs.Common.{◌+◌, ◌∙◌, ℕ, List, [], ◌++◌, Option, Some, None, refl, ap, sym, subst, arith, append_assoc, length, take}
use Rattle.std.proofs.lemmas.List.{take_all}
use Rattle.mix_base.proofs.Lists.{append_nil, take_append}
use Rattle.mix_io.specs.Contents.{Appends, AppendsPrefix}

-- where nothing was written, nothing was appended
pub appends_none : (before : Option (List ℕ)) → Appends before before []
appends_none None = refl
appends_none (Some w) = ap Some (sym (append_nil w))

-- what was appended is a prefix of itself
pub appends_whole : (before after : Option (List ℕ)) (piece : List ℕ) → Appends before after piece → AppendsPrefix before after piece
appends_whole None after piece h = h
appends_whole (Some w) after piece h = (length piece, h ∙ ap (λ p. Some (w ++ p)) (sym (take_all (length piece) piece (omega arith))))

-- a piece that was appended and then a prefix of another are a prefix of both
pub appends_prefix : (before now after : Option (List ℕ)) (piece more : List ℕ) → Appends before now piece → AppendsPrefix now after more → AppendsPrefix before after (piece ++ more)
appends_prefix None now after piece more h k = subst (λ (o : Option (List ℕ)). AppendsPrefix o after more) h k
appends_prefix (Some w) now after piece more h k =
    let cut : AppendsPrefix (Some (w ++ piece)) after more = subst (λ (o : Option (List ℕ)). AppendsPrefix o after more) h k in
    (length piece + cut.0, cut.1 ∙ ap Some (append_assoc w piece (take cut.0 more) ∙ ap (λ p. w ++ p) (sym (take_append piece more cut.0))))

-- where a prefix of a piece was appended, something was
pub appends_some : (before after : Option (List ℕ)) (piece : List ℕ) → AppendsPrefix before after piece → (some : List ℕ) × Appends before after some
appends_some None after piece h = ([], h)
appends_some (Some w) after piece h = (take h.0 piece, h.1)
