use Rattle.std.proofs.Common.{◌∙◌, sym, ap, take}
use Rattle.lazy_binding.specs.Keys.{was_seen}
use Rattle.lazy_binding.proofs.SeenLists.{seen_at_place, seen_nowhere}
use Rattle.lazy_binding.proofs.key.SeenKeys.begins_with.Goals as goal

pub returns-in-Some : goal.returns-in-Some
returns-in-Some c =
    seen_at_place c.args.key.now.items c.self.inside.keys.keys c.args.few c.in-Some.place (sym c.get_index_of.ensures.index ∙ c.in-Some.is)
    ∙ ap (λ z. was_seen c.args.key.now.items (take c.args.few z)) c.self.view_is

pub returns-in-None : goal.returns-in-None
returns-in-None c =
    seen_nowhere c.args.key.now.items c.self.inside.keys.keys c.args.few (sym c.get_index_of.ensures.index ∙ c.in-None.is)
    ∙ ap (λ z. was_seen c.args.key.now.items (take c.args.few z)) c.self.view_is
