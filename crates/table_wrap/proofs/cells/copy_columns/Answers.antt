use Rattle.std.proofs.Common.{◌≡◌, ◌∙◌, ◌<◌, ◌+◌, ℕ, List, [], ◌∷◌, ◌++◌, length, take, get_or, refl, sym, ap, add-one}
use Rattle.std.proofs.Math.Seq.{take-suc}
use Rattle.mix_catalog.specs.declared.column.Column.{Column}
use Rattle.table_wrap.proofs.cells.copy_columns.Goals as goal

-- one column more is copied
one_more : (all : List Column) (i : ℕ) (x y : Column) (some more : List Column) → i < length all → x ≡ get_or all i x → y ≡ x → some ≡ take i all → more ≡ some ++ y ∷ []
    → more ≡ take (i + 1) all
one_more all i x y some more h e f s m =
    let next : take (i + 1) all ≡ take i all ++ get_or all i x ∷ [] = rw (add-one, take-suc all i x) refl in
    m ∙ ap (λ (cs : List Column). cs ++ y ∷ []) s ∙ ap (λ (z : Column). take i all ++ z ∷ []) (f ∙ e) ∙ sym next

pub columns-preserved : goal.columns-preserved
columns-preserved c =
    one_more c.args.columns.now c.columns.column-index c.column-item.result (record { name = c.in_ok-name.name; never_null = c.column-item.result.never_null }) c.columns.copies.items c.push.new.self.items
    c.columns-test.true c.column-item.is
    (ap (λ (name : List ℕ). record { name = name; never_null = c.column-item.result.never_null }) c.in_ok-name.ensures) c.columns.invariant c.in_ok-push.ensures.items
