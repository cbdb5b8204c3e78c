-- The lines that are written and those to come.
use Rattle.std.proofs.Common.{◌≡◌, ◌≤◌, ◌+◌, ◌∙◌, ℕ, List, [], ◌++◌, Option, Some, None, refl, sym, ap, subst, length, take, append_assoc}
use Rattle.mix_base.proofs.Risen.{risen_before}
use Rattle.mix_base.proofs.Lists.{append_nil, take_append, take_prefix}
use Rattle.mix_io.specs.Views.{SinkView}
use Rattle.mix_io.specs.Contents.{Appends, AppendsPrefix}
use Rattle.mix_place.specs.declared.refusal.Stop.{Stop}
use Rattle.mix_place.specs.declared.refusal.Stop.TheVariants.{Refused, SinkFailed, OutOfMemory}
use Rattle.mix_run.specs.Stops.{IsCut}

-- what was written, and then a prefix of the next line, are a prefix of all lines
pub prefix_more : (before now after : Option (List ℕ)) (done line rest : List ℕ) → Appends before now done → AppendsPrefix now after line
    → AppendsPrefix before after (done ++ (line ++ rest))
prefix_more None now after done line rest h k = subst (λ (o : Option (List ℕ)). AppendsPrefix o after line) h k
prefix_more (Some b) now after done line rest h k =
    let cut : (n : ℕ) × (after ≡ Some ((b ++ done) ++ take n line)) = subst (λ (o : Option (List ℕ)). AppendsPrefix o after line) h k in
    let prefix = take_prefix cut.0 line rest in (
      length done + prefix.0,
      cut.1 ∙ ap Some (append_assoc b done (take cut.0 line) ∙ ap (λ r. b ++ r) (ap (λ r. done ++ r) prefix.1 ∙ sym (take_append done (line ++ rest) prefix.0))),
    )

-- a prefix of a line is a prefix of what begins with it
pub first_prefix : (before after : Option (List ℕ)) (line rest : List ℕ) → AppendsPrefix before after line → AppendsPrefix before after (line ++ rest)
first_prefix None after line rest h = h
first_prefix (Some b) after line rest h = let prefix = take_prefix h.0 line rest in (prefix.0, h.1 ∙ ap (λ r. Some (b ++ r)) prefix.1)

-- where the first line is cut short, all lines are
pub cut_first : (before after : SinkView) (line rest : List ℕ) (stop : Stop) → IsCut before after line stop → IsCut before after (line ++ rest) stop
cut_first before after line rest (Refused r) h = h
cut_first before after line rest SinkFailed h = (h.0, first_prefix before.written after.written line rest h.1)
cut_first before after line rest OutOfMemory h = first_prefix before.written after.written line rest h

-- where a later line is cut short, all lines are
pub cut_later : (before mid after : SinkView) (done line rest : List ℕ) (stop : Stop) → Appends before.written mid.written done → before.faults ≤ mid.faults
    → IsCut mid after line stop → IsCut before after (done ++ (line ++ rest)) stop
cut_later before mid after done line rest (Refused r) a count h = h
cut_later before mid after done line rest SinkFailed a count h =
    (risen_before before.faults mid.faults after.faults count h.0, prefix_more before.written mid.written after.written done line rest a h.1)
cut_later before mid after done line rest OutOfMemory a count h = prefix_more before.written mid.written after.written done line rest a h

-- where the last line is cut short, all lines are
pub cut_last : (before mid after : SinkView) (done line : List ℕ) (stop : Stop) → Appends before.written mid.written done → before.faults ≤ mid.faults
    → IsCut mid after line stop → IsCut before after (done ++ line) stop
cut_last before mid after done line stop a count h =
    subst (λ lines. IsCut before after (done ++ lines) stop) (append_nil line) (cut_later before mid after done line [] stop a count h)

-- what was written is as it was before no lines were written
pub nothing_more : (written : Option (List ℕ)) → (more : List ℕ) × Appends written written more
nothing_more None = ([], refl)
nothing_more (Some b) = ([], ap Some (sym (append_nil b)))

-- where nothing was written, no byte was of any lines
pub nothing_of : (written : Option (List ℕ)) (lines : List ℕ) → AppendsPrefix written written lines
nothing_of None lines = refl
nothing_of (Some b) lines = (0, ap Some (sym (append_nil b)))

-- where a prefix of lines was written, some lines were
pub prefix_on : (lines : List ℕ) (written written' : Option (List ℕ)) → AppendsPrefix written written' lines → (more : List ℕ) × Appends written written' more
prefix_on lines None w k = ([], k)
prefix_on lines (Some b) w k = (take k.0 lines, k.1)

-- where lines were cut short, some lines were written
pub cut_on : (before after : SinkView) (lines : List ℕ) (stop : Stop) → IsCut before after lines stop → (more : List ℕ) × Appends before.written after.written more
cut_on before after lines (Refused r) h = absurd h
cut_on before after lines SinkFailed h = prefix_on lines before.written after.written h.1
cut_on before after lines OutOfMemory h = prefix_on lines before.written after.written h
