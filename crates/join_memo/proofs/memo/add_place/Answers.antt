use Rattle.std.proofs.Common.{◌≡◌, ◌∙◌, ◌∷◌, [], ◌++◌, sym, ap, subst, ℕ, map, length, set, arith}
use Rattle.std.proofs.lemmas.List.{length-map}
use Rattle.smallvec.specs.SmallVec.{SmallVec}
use Rattle.join_memo.specs.Places.{IsIndex, IsPut}
use Rattle.join_memo.proofs.Indexes.{grow_vector, new_vector}
use Rattle.join_memo.proofs.Searches.{vector_at}
use Rattle.join_memo.proofs.memo.add_place.Goals as goal

pub returns-in_ok-push-clause-ok : goal.returns-in_ok-push-clause-ok
returns-in_ok-push-clause-ok c labels x n =
    let put = subst (λ new. IsPut c.args.known.now c.args.key.now c.in_ok-number.number new c.put.new.self) c.if-is_new.true c.in_ok-number.ensures.ok in
    let h = new_vector c.args.known.now c.args.groups.now.items c.push.new.self.items labels c.args.key.now x put.0 c.from_buf_and_len.result c.args.place
    (c.in_ok-push.ensures.items ∙ ap (λ gs. gs ++ c.from_buf_and_len.result ∷ []) c.reserve.ensures.items)
    c.from_buf_and_len.ensures.items n in
    subst (λ ns. IsIndex ns (map (λ (g : SmallVec ℕ). g.items) c.push.new.self.items) (labels ++ c.args.key.now ∷ [])) (sym put.1) h

pub returns-in_ok-push-2-clause-ok : goal.returns-in_ok-push-2-clause-ok
returns-in_ok-push-2-clause-ok c labels x n =
    let put = subst (λ new. IsPut c.args.known.now c.args.key.now c.in_ok-number.number new c.put.new.self) c.if-is_new.false c.in_ok-number.ensures.ok in
    let kept : c.reserve.new.self.items ≡ c.args.groups.now.items = c.reserve.ensures.items in
    let y = subst (λ gs. IsIndex c.args.known.now (map (λ (g : SmallVec ℕ). g.items) gs) labels) (sym kept) x in
    let e : length (map (λ (g : SmallVec ℕ). g.items) c.reserve.new.self.items) ≡ length c.reserve.new.self.items = length-map c.reserve.new.self.items (λ (g : SmallVec ℕ). g.items) in
    let w = put.0.within in
    let at = vector_at c.reserve.new.self.items c.in_ok-number.number c.index_mut-group.result.now (omega (arith, e, y.lists, w)) c.index_mut-group.ensures.value in
    let h = grow_vector c.args.known.now c.reserve.new.self.items labels c.args.key.now y c.in_ok-number.number put.0 c.index_mut-group.result.now c.push-else-is_new.new.self c.args.place
    at c.in_ok-push-2.ensures.ok n in
    subst (λ ns. IsIndex ns (map (λ (g : SmallVec ℕ). g.items) (set c.reserve.new.self.items c.in_ok-number.number c.push-else-is_new.new.self)) (labels ++ c.args.key.now ∷ [])) (sym put.1) h
