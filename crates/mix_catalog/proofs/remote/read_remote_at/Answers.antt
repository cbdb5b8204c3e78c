use Rattle.std.proofs.Common.{◌∙◌, ◌-◌, ap, arith, drop, length, None, Some}
use Rattle.std.proofs.lemmas.List.{take_all, length-drop}
use Rattle.mix_tree.specs.LabelReads.{seen_of}
use Rattle.mix_words.proofs.WordPlaces.{boundary_after_blank}
use Rattle.mix_catalog.specs.Remotes.{number_after_file}
use Rattle.mix_catalog.proofs.Remotes.{read_is_found, unread_is_none}
use Rattle.mix_catalog.proofs.Tables.{gives_none}
use Rattle.mix_catalog.proofs.remote.read_remote_at.Goals as goal

pub returns-in_default : goal.returns-in_default
returns-in_default c =
    unread_is_none c.args.after.now _ c.in_ok-requests.field-0 (c.in_ok-requests.ensures.seen (boundary_after_blank c.args.after.now c.args.at c.requires.utf8 (omega arith) c.requires.apart))
    c.in_default.not-Got

pub returns-in_default-2 : goal.returns-in_default-2
returns-in_default-2 c =
    let text = c.args.after.now in
    let end = c.in-Got.end in
    let whole = take_all (length text - end) (drop end text) (omega (arith, length-drop end text)) in
    let seen = c.in_ok-requests.ensures.seen (boundary_after_blank text c.args.at c.requires.utf8 (omega arith) c.requires.apart) ∙ ap (seen_of text) c.in-Got.is in
    read_is_found text c.args.at end c.in-Got.requests c.in_ok-number.field-0 None seen (c.in_ok-number.ensures ∙ ap number_after_file whole) (gives_none c.in_ok-number.field-0 c.in_default-2.not-Some)

pub returns : goal.returns
returns c =
    let text = c.args.after.now in
    let end = c.in-Got.end in
    let whole = take_all (length text - end) (drop end text) (omega (arith, length-drop end text)) in
    let seen = c.in_ok-requests.ensures.seen (boundary_after_blank text c.args.at c.requires.utf8 (omega arith) c.requires.apart) ∙ ap (seen_of text) c.in-Got.is in
    read_is_found text c.args.at end c.in-Got.requests c.in_ok-number.field-0 (Some c.in-Some.number) seen (c.in_ok-number.ensures ∙ ap number_after_file whole) c.in-Some.is
