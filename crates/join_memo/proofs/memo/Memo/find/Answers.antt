use Rattle.std.proofs.Common.{◌∙◌, sym, ap, subst, map}
use Rattle.join_memo.specs.Places.{IsAscending, IsLeastOf}
use Rattle.join_memo.specs.Kept.{labels_of, IsFound, HasLabel}
use Rattle.join_memo.proofs.Searches.{places_ascend, found_place, vector_is, nowhere}
use Rattle.join_memo.proofs.memo.Memo.find.Goals as goal

pub first_from-requires : goal.first_from-requires
first_from-requires g c =
    let e = c.as_slice.ensures ∙ vector_is c.self.inside.known c.self.inside.groups.items (labels_of c.self.inside.pairs.items) c.args.key.now c.self.invariant c.in-Some.number c.in-Some.ensures c.index.result.now c.index.ensures in
    subst IsAscending (sym e) (places_ascend c.args.key.now 0 (labels_of c.self.inside.pairs.items))

pub returns-in-None : goal.returns-in-None
returns-in-None g c j f at =
    nowhere c.self.inside.known (map (λ v. v.items) c.self.inside.groups.items) (labels_of c.self.inside.pairs.items) c.args.key.now c.self.invariant c.in-None.ensures c.args.from j f
    (subst (λ ls. HasLabel ls c.args.key.now j) (ap (λ v. labels_of v.pairs) (sym c.self.view_is)) at)

pub returns-in-Some : goal.returns-in-Some
returns-in-Some g c =
    let e = c.as_slice.ensures ∙ vector_is c.self.inside.known c.self.inside.groups.items (labels_of c.self.inside.pairs.items) c.args.key.now c.self.invariant c.in-Some.number c.in-Some.ensures c.index.result.now c.index.ensures in
    subst (λ ls. IsFound ls c.args.key.now c.args.from c.first_from.result) (ap (λ v. labels_of v.pairs) c.self.view_is)
    (found_place c.args.key.now (labels_of c.self.inside.pairs.items) c.args.from c.first_from.result (subst (λ ps. IsLeastOf ps c.args.from c.first_from.result) e c.first_from.ensures))
