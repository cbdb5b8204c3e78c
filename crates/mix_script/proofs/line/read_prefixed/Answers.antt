use Rattle.std.proofs.Common.{◌-◌, sym, subst, arith, drop, length, IsUtf8, rules, IsTrue}
use Rattle.std.proofs.lemmas.List.{take_all, length-drop}
use Rattle.std.proofs.lemmas.Str.{IsUtf8-drop}
use Rattle.mix_words.specs.Words.{is_name}
use Rattle.mix_words.proofs.NameBytes.{IsUtf8-name}
use Rattle.mix_words.proofs.WordPlaces.{boundary_after_blank}
use Rattle.mix_script.proofs.line.read_prefixed.Goals as goal

pub read_step-requires-clause-client : goal.read_step-requires-clause-client
read_step-requires-clause-client c =
    let name : IsTrue (is_name c.in-Some-read_client.client.now) = search rules in IsUtf8-name c.in-Some-read_client.client.now name

pub read_step-requires-clause-line : goal.read_step-requires-clause-line
read_step-requires-clause-line c =
    let line = c.args.line.now in
    let at = c.in-Some.at in
    let whole = take_all (length line - at) (drop at line) (omega (arith, length-drop at line)) in
    let inside = c.in-Some.ensures.inside in
    subst IsUtf8 (sym whole) (IsUtf8-drop line at c.requires.utf8 (boundary_after_blank line at c.requires.utf8 (omega (arith, inside)) c.in-Some.ensures.apart))
