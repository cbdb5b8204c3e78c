use Rattle.std.proofs.Common.{◌∙◌, ◌++◌, List, ℕ, ap}
use Rattle.std.specs.List.{flat_map}
use Rattle.view_continuations.specs.declared.candidate.Candidate.{Candidate}
use Rattle.refusal_words.specs.Listing.{candidate_line}
use Rattle.refusal_words.proofs.hint.expected_lines.Goals as goal

pub returns : goal.returns
returns c =
    let front = c.in_ok-hint.hint.items in (
      c.in_ok-expected.expected,
      c.in_ok-expected.ensures.are,
      c.in_ok-expected.ensures.place,
      front,
      c.in_ok-extend_from_slice.ensures.items
          ∙ ap (λ (lines : List ℕ). front ++ lines)
          (c.deref-2.ensures.value ∙ c.in_ok-lines.ensures ∙ ap (λ (cs : List Candidate). flat_map candidate_line cs) c.deref.ensures.value),
    )
