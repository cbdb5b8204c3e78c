use Rattle.std.proofs.Common.{◌<◌, ◌∙◌, ap, sym, length, reverse, List, arith}
use Rattle.std.proofs.lemmas.List.{length-reverse}
use Rattle.document_store.specs.declared.spots.Spot.{Spot}
use Rattle.document_store.specs.Laid.{LaidNode, below}
use Rattle.document_store.specs.Spots.{spot_of}
use Rattle.document_store.proofs.Kept.{node-shown, length-shown}
use Rattle.document_store.proofs.store.Store.below.Goals as goal

pub returns : goal.returns
returns c =
    let i = c.self.inside in
    let k = c.args.i in
    let turned : c.args.i < length (reverse i.spots.items) =
    omega (arith, c.requires, length-reverse i.spots.items, length-shown i.bytes.items i.spots.items, ap length c.self.view_is) in
    let at = c.spot_at.ensures ∙ ap (λ (s : List Spot). spot_of (reverse s) k) c.deref.ensures.value in
    ap (λ (s : Spot). s.below) at ∙ sym (ap (λ (n : LaidNode). n.below) (node-shown i.bytes.items (reverse i.spots.items) k turned)) ∙ ap (λ v. below v k) c.self.view_is
