-- The label order is total, and equal for the same labels alone.
use Rattle.std.proofs.Common.{◌≡◌, ◌∙◌, ℕ, List, Option, Some, None, Equal, sym, ap, subst, bytes_eq, is_eq, true}
use Rattle.std.proofs.lemmas.Cmp.{nat_list_cmp_total, on_total, tied_itself}
use Rattle.std.proofs.lemmas.Map.Text.{is_eq-slice_cmp}
use Rattle.std.proofs.lemmas.Slice.Eq.{bytes_eq-Decides}
use Rattle.mix_tree.specs.LabelOrder.{raised_number, key_of_rank, order_key, label_order, IsLabelOrder}

-- labels of one order key are the same
same_keys : (m n : Option ℕ) (a b : List ℕ) → key_of_rank m a ≡ key_of_rank n b → a ≡ b
same_keys None None a b h = cc
same_keys None (Some n) a b h = cc
same_keys (Some m) None a b h = cc
same_keys (Some m) (Some n) a b h = cc

-- labels that stand nowhere before one another are the same
tied_same : (a b : List ℕ) → label_order a b ≡ Equal → a ≡ b
tied_same a b h =
    let t : bytes_eq (order_key a) (order_key b) ≡ true = sym (is_eq-slice_cmp (order_key a) (order_key b)) ∙ ap is_eq h in
    same_keys (raised_number a) (raised_number b) a b ((bytes_eq-Decides (order_key a) (order_key b)).0 t)

-- the label order is total, and equal for the same labels alone
pub label_order_ok : IsLabelOrder
label_order_ok = record { total = on_total order_key nat_list_cmp_total; same = λ a b. (tied_same a b, λ e. subst (λ c. label_order a c ≡ Equal) e (tied_itself (on_total order_key nat_list_cmp_total) a)) }
