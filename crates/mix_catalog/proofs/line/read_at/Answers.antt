use Rattle.std.proofs.Common.{◌∙◌, ◌-◌, ap, sym, arith, drop, length, IsUtf8, subst}
use Rattle.std.proofs.lemmas.List.{take_all, length-drop}
use Rattle.std.proofs.lemmas.Result.{IfOk-weaker}
use Rattle.std.proofs.lemmas.Str.{IsUtf8-drop}
use Rattle.mix_tree.specs.LabelReads.{seen_of}
use Rattle.mix_catalog.specs.Seen.{source_after}
use Rattle.mix_words.proofs.WordPlaces.{boundary_after_blank}
use Rattle.mix_catalog.proofs.Spelled.{unread_is_none, read_is_found}
use Rattle.mix_catalog.proofs.line.read_at.Goals as goal

pub returns-in_default-2 : goal.returns-in_default-2
returns-in_default-2 c =
    unread_is_none c.args.line.now _ _ c.in_ok-file.field-0 (c.in_ok-file.ensures.seen (boundary_after_blank c.args.line.now c.args.at c.requires.utf8 (omega arith) c.requires.apart))
    c.in_default-2.not-Got

pub read_after-requires : goal.read_after-requires
read_after-requires c =
    let line = c.args.line.now in
    let whole = take_all (length line - c.in-Got.end) (drop c.in-Got.end line) (omega (arith, length-drop c.in-Got.end line)) in
    let reads = rw c.in-Got.is at c.in_ok-file.ensures.reads in
    subst IsUtf8 (sym whole) (IsUtf8-drop line c.in-Got.end c.requires.utf8 reads.boundary)

pub returns : goal.returns
returns c =
    let line = c.args.line.now in
    let whole = take_all (length line - c.in-Got.end) (drop c.in-Got.end line) (omega (arith, length-drop c.in-Got.end line)) in
    let said = sym c.in-Some.is ∙ c.in_ok-prefix.ensures in
    let seen = c.in_ok-file.ensures.seen (boundary_after_blank line c.args.at c.requires.utf8 (omega arith) c.requires.apart) ∙ ap (seen_of line) c.in-Got.is in
    IfOk-weaker c.read_after.result _ _
    (λ found e. read_is_found line c.args.at c.in-Got.end c.in-Some.prefix c.in-Got.file found said seen (e ∙ ap (source_after c.in-Some.prefix c.in-Got.file) whole)) c.read_after.ensures
