use Rattle.std.proofs.Common.{◌++◌, ◌∷◌, ◌∙◌, ℕ, List, [], ap, map}
use Rattle.std.proofs.lemmas.Result.{on_ok_weaker}
use Rattle.xmas_rule.specs.Bindings.{Binding}
use Rattle.plain_rule.specs.Documents.{documents_of}
use Rattle.plain_rule.proofs.Tupling.{one_list}
use Rattle.plain_rule.proofs.tuples.push_longer.Goals as goal

pub returns : goal.returns
returns c = λ lists is.
    let at : ℕ → List (List ℕ) → List Binding = λ s qs. c.args.longer.now.items ++ map (λ q. c.args.binding.now ++ (c.args.leads.now.var, record { source = s; place = q }) ∷ []) qs in
    on_ok_weaker c.push_at_places.result
    (λ e. e ∙ ap (at c.source.result) (c.deref.ensures.value ∙ one_list (documents_of c.args.leads.now.docs.now) lists c.args.leads.now.path.now c.args.start.now c.in_ok-places.places.items is c.in_ok-places.ensures) ∙ ap (λ s. at s (lists c.args.leads.now.path.now c.args.start.now)) c.source.ensures)
    c.push_at_places.ensures
