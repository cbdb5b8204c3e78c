use Rattle.refusal_words.proofs.hint.hint_of.Goals as goal

pub returns-in-Unexpected : goal.returns-in-Unexpected
returns-in-Unexpected c = rw c.in-Unexpected.is (rw (← c.min.ensures) c.expected_lines.ensures)
