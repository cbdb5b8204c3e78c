use Rattle.std.proofs.Common.{◌∙◌, ◌∷◌, ◌++◌, [], ap}
use Rattle.std.specs.Str.{bytes_eq}
use Rattle.indexmap.proofs.CallerLemmas.{insert_entry-new}
use Rattle.lxp_remote.specs.Known.{weight_in}
use Rattle.lxp_remote.proofs.known.KnownHoles.put.Goals as goal

pub returns-clause-put : goal.returns-clause-put
returns-clause-put c =
    let h = c.args.hole in
    c.in_ok-insert.ensures.entries
    ∙ insert_entry-new bytes_eq c.self.inside.weights h.words c.args.weight (ap (λ es. weight_in es h) c.self.view_is ∙ c.requires)
    ∙ ap (λ es. es ++ (h.words, c.args.weight) ∷ []) c.self.view_is
