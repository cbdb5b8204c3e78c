use Rattle.std.proofs.Common.{◌∙◌, ◌∷◌, ap}
use Rattle.document_store.proofs.Kept.{node_of, pushed, kept, shows}
use Rattle.document_store.proofs.store.Store.push.Goals as goal

pub invariant_of-self-2 : goal.invariant_of-self-2
invariant_of-self-2 c =
    let i = c.self.inside in
    let made = c.in_ok-add.ensures in
    kept c.add.new.bytes.items c.add.new.spots.items _ (pushed i.bytes.items c.add.new.bytes.items c.args.label.now i.spots.items c.add.new.spots.items _ c.self.invariant c.requires made.bytes made.spots made.few made.short)

pub returns-clause-ok : goal.returns-clause-ok
returns-clause-ok c =
    let i = c.self.inside in
    let made = c.in_ok-add.ensures in
    shows c.add.new.bytes.items c.add.new.spots.items _ (pushed i.bytes.items c.add.new.bytes.items c.args.label.now i.spots.items c.add.new.spots.items _ c.self.invariant c.requires made.bytes made.spots made.few made.short)
    ∙ ap (λ v. node_of 0 c.args.label.now ∷ v) c.self.view_is
