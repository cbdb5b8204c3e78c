use Rattle.std.proofs.Common.{◌≡◌, ◌∙◌, ◌-◌, true, false, ap, sym, arith, drop, take, length, rules}
use Rattle.std.proofs.lemmas.List.{take_all, length-drop}
use Rattle.std.proofs.lemmas.Result.{IfOk-weaker}
use Rattle.mix_tree.specs.LabelReads.{seen_of}
use Rattle.mix_words.specs.Words.{words_of}
use Rattle.mix_words.proofs.WordPlaces.{boundary_after_blank}
use Rattle.mix_script.specs.Lines.{no_words}
use Rattle.mix_script.proofs.LineForms.{unread_select, followed_select, alone_select}
use Rattle.mix_script.proofs.line.read_select_at.Goals as goal

pub returns-in_default : goal.returns-in_default
returns-in_default c =
    let seen = c.in_ok-label.ensures.seen (boundary_after_blank c.args.line.now c.args.at c.requires.utf8 (omega arith) c.requires.apart) in
    unread_select c.args.line.now (words_of (take c.args.at c.args.line.now)) _ c.in_ok-label.field-0 seen c.in_default.not-Got

pub returns-then-not-is_wordless : goal.returns-then-not-is_wordless
returns-then-not-is_wordless c =
    let line = c.args.line.now in
    let seen = c.in_ok-label.ensures.seen (boundary_after_blank line c.args.at c.requires.utf8 (omega arith) c.requires.apart) ∙ ap (seen_of line) c.in-Got.is in
    let whole = take_all (length line - c.in-Got.end) (drop c.in-Got.end line) (omega (arith, length-drop c.in-Got.end line)) in
    let some : no_words (words_of (drop c.in-Got.end c.args.line.now)) ≡ false =
    sym (c.is_wordless.ensures ∙ ap (λ x. no_words (words_of x)) whole) ∙ search rules in
    followed_select line (words_of (take c.args.at line)) _ c.in-Got.label c.in-Got.end seen some

pub returns : goal.returns
returns c =
    let line = c.args.line.now in
    let seen = c.in_ok-label.ensures.seen (boundary_after_blank line c.args.at c.requires.utf8 (omega arith) c.requires.apart) ∙ ap (seen_of line) c.in-Got.is in
    let whole = take_all (length line - c.in-Got.end) (drop c.in-Got.end line) (omega (arith, length-drop c.in-Got.end line)) in
    let none : no_words (words_of (drop c.in-Got.end c.args.line.now)) ≡ true =
    sym (c.is_wordless.ensures ∙ ap (λ x. no_words (words_of x)) whole) ∙ search rules in
    IfOk-weaker c.read_select.result _ _
    (λ act e. e ∙ alone_select line (words_of (take c.args.at line)) _ c.in-Got.label c.in-Got.end seen none) c.read_select.ensures
