-- A body has one list of bindings, and so a rule one finished document.
use Rattle.std.proofs.Common.{◌≡◌, ℕ, Bool, true, false, List, [], ◌∷◌, Option, None, Some, ◌∙◌, sym, ap, subst, inl, inr, Ordering, Less, Equal, Greater, is_lt}
use Rattle.std.specs.Prelude.{cond}
use Rattle.std.specs.Ordering.{ordering_reverse}
use Rattle.std.proofs.lemmas.Cmp.{tied_itself}
use Rattle.mix_base.proofs.Ascents.{IsStrict, same_ascents}
use Rattle.mix_tree.specs.Nodes.{Documents, PlaceBefore}
use Rattle.mix_tree.specs.LabelOrder.{label_order, label_before}
use Rattle.mix_tree.proofs.LabelOrders.{label_order_ok}
use Rattle.mix_tree.proofs.PlaceOrder.{place_itself, place_both}
use Rattle.xmas_rule.specs.Bindings.{Binding, TupleBefore, StandsBefore, sorts_before, label_of, AreBindings}
use Rattle.xmas_rule.specs.Meaning.{finished, HasOneFinished}
use Rattle.xmas_rule.specs.declared.condition.Cond.{Cond}
use Rattle.xmas_rule.specs.declared.condition.OrderBy.{OrderBy}

-- no tuple stands before itself
tuple_itself : (a : Binding) → TupleBefore a a → ⊥
tuple_itself [] h = h
tuple_itself (x ∷ a) (inl e) = place_itself x.1.place e
tuple_itself (x ∷ a) (inr e) = tuple_itself a e.1

-- no two tuples stand before one another
tuple_both : (a b : Binding) → TupleBefore a b → TupleBefore b a → ⊥
tuple_both [] b h k = h
tuple_both (x ∷ a) [] h k = h
tuple_both (x ∷ a) (y ∷ b) (inl e) (inl f) = place_both x.1.place y.1.place e f
tuple_both (x ∷ a) (y ∷ b) (inl e) (inr f) = place_itself y.1.place (subst (λ p. PlaceBefore p y.1.place) (sym f.0) e)
tuple_both (x ∷ a) (y ∷ b) (inr e) (inl f) = place_itself x.1.place (subst (λ p. PlaceBefore p x.1.place) (sym e.0) f)
tuple_both (x ∷ a) (y ∷ b) (inr e) (inr f) = tuple_both a b e.1 f.1

-- no label stands before itself
label_itself : (a : List ℕ) → label_before a a ≡ true → ⊥
label_itself a h = let e = tied_itself label_order_ok.total a in let f : false ≡ true = ap is_lt (sym e) ∙ h in cc

-- an order of which one comes first is not turned round
turned : (o p : Ordering) → o ≡ ordering_reverse p → is_lt o ≡ true → is_lt p ≡ true → ⊥
turned Less Less e h k = cc
turned Less Equal e h k = cc
turned Less Greater e h k = cc
turned Equal p e h k = cc
turned Greater p e h k = cc

-- no two labels stand before one another
label_both : (a b : List ℕ) → label_before a b ≡ true → label_before b a ≡ true → ⊥
label_both a b h k = turned (label_order a b) (label_order b a) (label_order_ok.total.antisymm a b) h k

-- no label comes first before itself by the order of a rule
sorts_itself : (o : OrderBy) (a : List ℕ) → sorts_before o a a ≡ true → ⊥
sorts_itself o a h = by o.desc h
  where
    by : (d : Bool) → cond d (label_before a a) (label_before a a) ≡ true → ⊥
    by true h = label_itself a h
    by false h = label_itself a h

-- no two labels stand before one another by the order of a rule
sorts_both : (o : OrderBy) (a b : List ℕ) → sorts_before o a b ≡ true → sorts_before o b a ≡ true → ⊥
sorts_both o a b h k = by o.desc h k
  where
    by : (d : Bool) → cond d (label_before b a) (label_before a b) ≡ true → cond d (label_before a b) (label_before b a) ≡ true → ⊥
    by true h k = label_both b a h k
    by false h k = label_both a b h k

-- bindings in order are strictly so
strict : (docs : Documents) (order : Option OrderBy) → IsStrict (StandsBefore docs order)
unfolding IsStrict
strict docs None = ((λ x h. tuple_itself x h), (λ x y h k. tuple_both x y h k))
strict docs (Some o) = ((λ x h. itself x h), (λ x y h k. both x y h k))
  where
    itself : (x : Binding) → StandsBefore docs (Some o) x x → ⊥
    itself x (inl h) = sorts_itself o (label_of docs o.var x) h
    itself x (inr h) = tuple_itself x h.1

    both : (x y : Binding) → StandsBefore docs (Some o) x y → StandsBefore docs (Some o) y x → ⊥
    both x y (inl h) (inl k) = sorts_both o (label_of docs o.var x) (label_of docs o.var y) h k
    both x y (inl h) (inr k) = sorts_itself o (label_of docs o.var x) (subst (λ l. sorts_before o (label_of docs o.var x) l ≡ true) k.0 h)
    both x y (inr h) (inl k) = sorts_itself o (label_of docs o.var y) (subst (λ l. sorts_before o (label_of docs o.var y) l ≡ true) h.0 k)
    both x y (inr h) (inr k) = tuple_both x y h.1 k.1

-- a body has one list of bindings
pub one_bindings :
    (docs : Documents) (conds : List Cond) (order : Option OrderBy) (cs bs : List Binding) → AreBindings docs conds order cs → AreBindings docs conds order bs → cs ≡ bs
one_bindings docs conds order cs bs a b =
    same_ascents (StandsBefore docs order) (strict docs order) cs bs a.ascending b.ascending (λ x m. (b.exactly x).1 ((a.exactly x).0 m)) (λ x m. (a.exactly x).1 ((b.exactly x).0 m))

-- a rule has one finished document
pub one_finished : HasOneFinished
one_finished docs r t u f g = f.2 ∙ ap (finished docs r) (one_bindings docs r.conds r.order f.0 g.0 f.1 g.1) ∙ sym g.2
