use Rattle.std.proofs.Common.{◌+◌, ◌∙◌, ◌++◌, ◌∷◌, [], ap, sym, drop, map, ℕ, List, Bor, option_and_then}
use Rattle.mix_catalog.specs.Tables.{columns_after}
use Rattle.mix_catalog.proofs.Tables.{next_piece, gives_none}
use Rattle.mix_catalog.proofs.table.read_columns.Goals as goal

-- the pieces of a text, of a list of slices
abbrev pieces_in : List (Bor (List ℕ)) → List (List ℕ)
pieces_in items = map (λ (piece : Bor (List ℕ)). piece.now) items

pub returns-in_default : goal.returns-in_default
returns-in_default c =
    let items = c.deref-piece-items.result.now in
    let i = c.loop-piece.piece-index in
    let none = gives_none c.in_ok-column.field-0 c.in_default.not-Some in
    let step = next_piece items i _ c.loop-piece.columns.items c.in_ok-column.field-0 c.loop-piece-test.true c.in_ok-column.ensures in
    let cut = ap pieces_in c.deref-piece-items.ensures.value ∙ c.in_ok-pieces.ensures in
    sym (ap (columns_after []) (sym cut) ∙ sym c.loop-piece.invariant ∙ step ∙ ap (option_and_then (λ d. columns_after (c.loop-piece.columns.items ++ d ∷ []) (drop (i + 1) (pieces_in items)))) none)

pub loop-piece-preserved : goal.loop-piece-preserved
loop-piece-preserved c =
    let items = c.deref-piece-items.result.now in
    let i = c.loop-piece.piece-index in
    let step = next_piece items i _ c.loop-piece.columns.items c.in_ok-column.field-0 c.loop-piece-test.true c.in_ok-column.ensures in
    ap (λ cs. columns_after cs (drop (i + 1) (pieces_in items))) c.in_ok-push.ensures.items
    ∙ sym (step ∙ ap (option_and_then (λ d. columns_after (c.loop-piece.columns.items ++ d ∷ []) (drop (i + 1) (pieces_in items)))) c.in-Some.is) ∙ c.loop-piece.invariant
