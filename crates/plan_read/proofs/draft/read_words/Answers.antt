use Rattle.std.proofs.Common.{◌<◌, ℕ, List, Bor, sym, arith, length, map}
use Rattle.std.proofs.lemmas.List.{length-map}
use Rattle.plan_read.proofs.Lengths.{words_other}
use Rattle.plan_read.proofs.draft.read_words.Goals as goal

pub returns-in_default-clause-reads : goal.returns-in_default-clause-reads
returns-in_default-clause-reads c =
    let short : length (map (λ (w : Bor (List ℕ)). w.now) c.args.words.now) < 2 = rw length-map (omega (arith, c.in_default.len_below)) in
    sym (words_other c.args.names.now c.args.catalog.now _ short)
