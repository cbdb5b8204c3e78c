-- Putting bindings into sorted ones, the last first.
use Rattle.std.proofs.Common.{◌≡◌, ◌∙◌, ◌<◌, ◌+◌, ℕ, Bool, List, [], ◌∷◌, ◌++◌, length, take, get_or, Option, Some, None, refl, sym, ap}
use Rattle.mix_tree.specs.Nodes.{Documents}
use Rattle.xmas_rule.specs.Bindings.{Binding, label_of, sorts_before}
use Rattle.xmas_rule.specs.declared.condition.OrderBy.{OrderBy}
use Rattle.xmas_rule.specs.Tuples.{in_order_of}
use Rattle.std.proofs.Math.Seq.{take-length}
use Rattle.std.proofs.lemmas.List.{take_more}
use Rattle.xmas_rule.specs.Sorted.{insert_by, sorted_by}

-- sorted members with each of a list put in, the last first
abbrev pub put_all : {X : Type 0} → (X → X → Bool) → List X → List X → List X
put_all less [] sorted = sorted
put_all less (x ∷ xs) sorted = insert_by less x (put_all less xs sorted)

-- of a list put into sorted members, the last one is put in first
pub put_all-last : {X : Type 0} (less : X → X → Bool) (xs : List X) (x : X) (sorted : List X) → put_all less (xs ++ x ∷ []) sorted ≡ put_all less xs (insert_by less x sorted)
put_all-last less [] x sorted = refl
put_all-last less (y ∷ xs) x sorted = ap (insert_by less y) (put_all-last less xs x sorted)

-- with one member more put in, the rest is put into the list with that one
pub put_next : {X : Type 0} (less : X → X → Bool) (xs : List X) (i : ℕ) (x : X) (some more : List X) → i < length xs → x ≡ get_or xs i x → more ≡ insert_by less x some
    → put_all less (take i xs) more ≡ put_all less (take (i + 1) xs) some
put_next less xs i x some more h e m =
    ap (put_all less (take i xs)) m ∙ sym (put_all-last less (take i xs) x some)
    ∙ ap (λ z. put_all less (take i xs ++ z ∷ []) some) e ∙ ap (λ z. put_all less z some) (sym (take_more xs i x h))

-- all put into none are sorted
pub put_all-none : {X : Type 0} (less : X → X → Bool) (xs : List X) → put_all less xs [] ≡ sorted_by less xs
put_all-none less [] = refl
put_all-none less (x ∷ xs) = ap (insert_by less x) (put_all-none less xs)

-- a list up to its end, put into none, is sorted
pub put_whole : {X : Type 0} (less : X → X → Bool) (xs : List X) (n : ℕ) → n ≡ length xs → put_all less (take n xs) [] ≡ sorted_by less xs
put_whole less xs n e = ap (λ k. put_all less (take k xs) []) e ∙ ap (λ z. put_all less z []) (take-length xs) ∙ put_all-none less xs

-- bindings that are sorted by the rule's variable are in the order of the rule
pub ordered_some : (docs : Documents) (o p : OrderBy) (bs cs : List Binding) (order : Option OrderBy) → o ≡ p → order ≡ Some p → bs ≡ cs
    → sorted_by (λ a b. sorts_before o (label_of docs o.var a) (label_of docs o.var b)) bs ≡ in_order_of docs order cs
unfolding in_order_of
ordered_some docs o p bs cs order e f g =
    ap (λ (q : OrderBy). sorted_by (λ a b. sorts_before q (label_of docs q.var a) (label_of docs q.var b)) bs) e
    ∙ ap (λ z. in_order_of docs (Some p) z) g
    ∙ ap (λ z. in_order_of docs z cs) (sym f)

-- bindings of a rule that doesn't order are in the order of the rule as they stand
pub ordered_none : (docs : Documents) (bs : List Binding) (order : Option OrderBy) → order ≡ None → bs ≡ in_order_of docs order bs
unfolding in_order_of
ordered_none docs bs order e = ap (λ z. in_order_of docs z bs) (sym e)
