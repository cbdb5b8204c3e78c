use Rattle.std.proofs.Common.{◌∙◌, ◌++◌, List, ap, codes}
use Rattle.std.specs.List.{flat_map}
use Rattle.catalog_continuations.specs.declared.form_word.FormWord.{FormWord}
use Rattle.refusal_words.specs.Catalog.{word_line}
use Rattle.refusal_words.proofs.catalog.next_lines.Goals as goal

pub returns : goal.returns
returns c =
    (c.in_ok-words.words.items, c.in_ok-words.ensures, c.in_ok-hint.ensures ∙ ap (λ (ws : List FormWord). codes "here could stand:\n" ++ flat_map word_line ws) c.deref.ensures.value)
