use Rattle.mix_tree.specs.Forest.{forest_of, tree, none}
use Rattle.std.proofs.Common.{[], ◌++◌, ◌∙◌, ap}
use Rattle.plain_rule.specs.Documents.{documents_of}
use Rattle.plain_rule.specs.Found.{found_in}
use Rattle.plain_rule.proofs.Finding.{found_by_test}
use Rattle.plain_rule.proofs.matching.matches.Goals as goal

pub returns : goal.returns
returns c =
    found_by_test c.args.path.now (tree [] (documents_of c.args.docs.now c.args.start.now.source) none) c.args.start.now.place (forest_of c.kids_of-kids.result.now) c.push_found.new.found.items
    c.kids_of-kids.ensures (λ test says. c.in_ok-push_found.ensures test says ∙ ap (λ xs. xs ++ found_in test [] c.place.result.now 0 (forest_of c.kids_of-kids.result.now)) c.new-found.ensures.items ∙ ap (λ at. found_in test [] at 0 (forest_of c.kids_of-kids.result.now)) c.place.ensures)
