use Rattle.std.proofs.Common.{rules, ◌≡◌, ◌∙◌, ℕ, None, sym, ap, subst, length, replicate}
use Rattle.std.proofs.lemmas.List.{length-map}
use Rattle.std.proofs.lemmas.Result.{IfOk-weaker}
use Rattle.plan_core.specs.PlanMade.{op_of}
use Rattle.plan_core.specs.Shapes.{shape_at}
use Rattle.lazy_binding.specs.Parts.{operators, world_of}
use Rattle.lazy_evidence.specs.Noted.{Spots, noted, spots_at, places_there, AreSpots}
use Rattle.lazy_evidence.proofs.Placed.{spots_known}
use Rattle.lazy_evidence.proofs.Told.{parts_told, evidence_told}
use Rattle.lazy_evidence.proofs.visited.evidence.Goals as goal

-- the spots that were noted are those of the position
spots_are : (c : goal.After-deref-2) → c.deref-2.result.now ≡ spots_at (operators c.args.walk.fixed.now) c.args.walk.op c.args.at.now
spots_are c =
    let ops = operators c.args.walk.fixed.now in
    let count : c.len.result ≡ length c.args.walk.fixed.now.plan.ops.items = search rules in
    c.deref-2.ensures.value ∙ c.note.ensures.spots
    ∙ ap (noted ops c.args.walk.op (shape_at ops c.args.walk.op) c.args.at.now) (c.in_ok-spots.ensures ∙ ap (λ (n : ℕ). replicate n None) (count ∙ sym (length-map c.args.walk.fixed.now.plan.ops.items op_of)))

pub places-requires : goal.places-requires
places-requires c =
    let w = world_of c.requires.stand.0 c.args.growing.now in
    subst (λ z. AreSpots z c.deref-2.result.now) (sym c.deref.ensures.value)
    (subst (λ (z : Spots). AreSpots c.args.growing.now.buffers.items z) (sym (spots_are c)) (spots_known w (operators c.args.walk.fixed.now) c.args.walk.op c.args.at.now c.requires.stand.2))

pub returns-clause-parts : goal.returns-clause-parts
returns-clause-parts c =
    let same = ap (λ z. places_there z c.deref-2.result.now) c.deref.ensures.value ∙ ap (places_there c.args.growing.now.buffers.items) (spots_are c.before.before) in
    IfOk-weaker c.places.result _ _ (λ places e. parts_told c.args.growing.now c.args.walk c.args.at.now c.requires.fixed c.requires.op c.requires.row places.items (e ∙ same)) c.places.ensures

pub returns-clause-tells : goal.returns-clause-tells
returns-clause-tells c =
    let same = ap (λ z. places_there z c.deref-2.result.now) c.deref.ensures.value ∙ ap (places_there c.args.growing.now.buffers.items) (spots_are c.before.before) in
    IfOk-weaker c.places.result _ _ (λ places e. evidence_told c.args.growing.now c.args.walk c.args.at.now c.requires.fixed c.requires.op c.requires.row places.items (e ∙ same)) c.places.ensures
