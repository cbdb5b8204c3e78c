use Rattle.std.proofs.Common.{◌≡◌, ◌∙◌, [], ◌∷◌, ◌++◌, Some, refl, ap, arith}
use Rattle.mix_base.proofs.Lists.{append_nil}
use Rattle.mix_tree.specs.Forest.{alone}
use Rattle.document_store.specs.Laid.{bare_node, laid}
use Rattle.document_store.proofs.Laying.{closes_tree}
use Rattle.json_text.specs.Trees.{value_tree}
use Rattle.json_text.proofs.reading.read_root.Goals as goal

pub returns-clause-ok : goal.returns-clause-ok
returns-clause-ok c =
    let read = c.in_ok-read_labelled.ensures.ok in
    let kids = alone (value_tree c.args.name.now read.0) in
    let ended : c.read_labelled.new.reader ≡ [] = grind arith in
    let laid_is : c.read_labelled.new.store ≡ laid kids ++ bare_node [] ∷ [] = read.2 ∙ ap (λ ns. laid kids ++ ns) c.requires.empty in
    (read.0, read.1 ∙ ap (λ ts. Some (read.0, ts)) ended, closes_tree c.read_labelled.new.store c.close.new.self [] 0 [] kids c.close.ensures laid_is refl ∙ append_nil _)
