use Rattle.std.proofs.Common.{◌≡◌, ◌+◌, ◌-◌, ◌∙◌, ◌++◌, length, reverse, ap, refl, arith}
use Rattle.document_store.specs.Laid.{longer}
use Rattle.document_store.specs.Spots.{nodes_in}
use Rattle.document_store.proofs.Kept.{lengthened_by, kept, shows, length-shown}
use Rattle.document_store.proofs.store.Store.extend.Goals as goal

pub invariant_of-self-2 : goal.invariant_of-self-2
invariant_of-self-2 c =
    let i = c.self.inside in
    let last : c.len-last.result - 1 + 1 ≡ length (nodes_in i.bytes.items (reverse i.spots.items)) =
    omega (arith, c.requires.some, c.len-last.ensures, i.spots.ok.0, length-shown i.bytes.items i.spots.items, ap length c.self.view_is) in
    let end : c.in-Ok.end ≡ length i.bytes.items + length c.args.piece.now = omega (arith, c.in-Ok.ensures, c.len.ensures, i.bytes.ok.0) in
    let bytes = c.in_ok-extend_from_slice.ensures.items ∙ ap (λ b. b ++ c.args.piece.now) c.in_ok-make_room.ensures.items in
    kept c.extend_from_slice.new.self.items _ _
    (lengthened_by i.bytes.items c.extend_from_slice.new.self.items c.args.piece.now i.spots.items _ c.index_mut.result.now
    (record { end = c.in-Ok.end; below = c.index_mut.result.now.below }) (c.len-last.result - 1) c.self.invariant c.requires.utf8 bytes
    last c.index_mut.ensures.value end (omega arith) refl)

pub returns-clause-ok : goal.returns-clause-ok
returns-clause-ok c =
    let i = c.self.inside in
    let last : c.len-last.result - 1 + 1 ≡ length (nodes_in i.bytes.items (reverse i.spots.items)) =
    omega (arith, c.requires.some, c.len-last.ensures, i.spots.ok.0, length-shown i.bytes.items i.spots.items, ap length c.self.view_is) in
    let end : c.in-Ok.end ≡ length i.bytes.items + length c.args.piece.now = omega (arith, c.in-Ok.ensures, c.len.ensures, i.bytes.ok.0) in
    let bytes = c.in_ok-extend_from_slice.ensures.items ∙ ap (λ b. b ++ c.args.piece.now) c.in_ok-make_room.ensures.items in
    shows c.extend_from_slice.new.self.items _ _
    (lengthened_by i.bytes.items c.extend_from_slice.new.self.items c.args.piece.now i.spots.items _ c.index_mut.result.now
    (record { end = c.in-Ok.end; below = c.index_mut.result.now.below }) (c.len-last.result - 1) c.self.invariant c.requires.utf8 bytes
    last c.index_mut.ensures.value end (omega arith) refl)
    ∙ ap (longer c.args.piece.now) c.self.view_is
