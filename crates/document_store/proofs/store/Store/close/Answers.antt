use Rattle.std.proofs.Common.{◌≡◌, ◌<◌, ◌-◌, ◌∙◌, ◌∷◌, ◌++◌, ap, length, length-append, reverse, arith}
use Rattle.document_store.specs.declared.spots.Spot.{Spot}
use Rattle.document_store.specs.Spots.{nodes_in}
use Rattle.document_store.proofs.Kept.{node_of, renumbered, kept, shows, split, length-shown}
use Rattle.document_store.proofs.store.Store.close.Goals as goal

pub invariant_of-self : goal.invariant_of-self
invariant_of-self c =
    let i = c.self.inside in
    let inside : c.args.place < length (nodes_in i.bytes.items (reverse i.spots.items)) = omega (arith, c.if-place-len.true, c.len-len.ensures, i.spots.ok.0, length-shown i.bytes.items i.spots.items) in
    let parts = split (nodes_in i.bytes.items (reverse i.spots.items)) c.args.place inside in
    kept i.bytes.items _ _
    (renumbered i.bytes.items i.spots.items _ parts.xs parts.ys parts.node (record { end = c.index_mut.result.now.end; below = c.len-len.result - c.args.place - 1 }) c.args.place c.self.invariant parts.parts parts.size
    c.index_mut.result.now (ap (λ (s : Spot). s.end) c.index_mut.ensures.value))

pub returns-then-place-len : goal.returns-then-place-len
returns-then-place-len c = λ xs ys n e l.
    let i = c.self.inside in
    let is : nodes_in i.bytes.items (reverse i.spots.items) ≡ xs ++ n ∷ ys = c.self.view_is ∙ e in
    let count : c.len-len.result - c.args.place - 1 ≡ length xs =
    omega (arith, c.len-len.ensures, i.spots.ok.0, length-shown i.bytes.items i.spots.items, ap length is, length-append xs (n ∷ ys), l) in
    shows i.bytes.items _ _
    (renumbered i.bytes.items i.spots.items _ xs ys n (record { end = c.index_mut.result.now.end; below = c.len-len.result - c.args.place - 1 }) c.args.place c.self.invariant is l
    c.index_mut.result.now (ap (λ (s : Spot). s.end) c.index_mut.ensures.value))
    ∙ ap (λ b. xs ++ node_of b n.label ∷ ys) count

pub returns-else-place-len : goal.returns-else-place-len
returns-else-place-len c = λ xs ys n e l.
    let i = c.self.inside in
    absurd (omega (arith, c.if-place-len.false, c.len-len.ensures, i.spots.ok.0, length-shown i.bytes.items i.spots.items, ap length (c.self.view_is ∙ e), length-append xs (n ∷ ys), l))
