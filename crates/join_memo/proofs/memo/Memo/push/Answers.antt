use Rattle.std.proofs.Common.{◌≡◌, ◌∙◌, ◌∷◌, [], ◌++◌, ◌+◌, ◌≤◌, sym, ap, subst, List, ℕ, map, length, arith}
use Rattle.std.proofs.lemmas.List.{length-map, map-append}
use Rattle.std.specs.Vec.{vec_len, vec_capacity}
use Rattle.smallvec.specs.SmallVec.{SmallVec}
use Rattle.join_memo.specs.Places.{IsIndex}
use Rattle.join_memo.specs.Kept.{labels_of}
use Rattle.join_memo.proofs.Indexes.{on_ok}
use Rattle.join_memo.proofs.memo.Memo.push.Goals as goal
use Rattle.join_memo.proofs.memo.Memo.push.Goals.{in-Ok-push, in-Err}

pub invariant_of-self-2 : goal.invariant_of-self-2
invariant_of-self-2 g c =
    let f : c.reserve.new.self.items ≡ c.self.inside.pairs.items = c.reserve.ensures.items in
    let e : c.len-place.result ≡ vec_len c.reserve.new.self = c.len-place.ensures in
    let ok : (labels : List (List ℕ)) → IsIndex c.self.inside.known (map (λ (v : SmallVec ℕ). v.items) c.self.inside.groups.items) labels → length labels ≡ c.len-place.result
    → IsIndex c.add_place.new.known (map (λ (v : SmallVec ℕ). v.items) c.add_place.new.groups.items) (labels ++ c.args.key ∷ []) =
    c.in-Ok.ensures.ok in
    let n : length (labels_of c.self.inside.pairs.items) ≡ c.len-place.result =
    (let o : vec_len c.reserve.new.self ≡ length c.reserve.new.self.items = c.reserve.new.self.ok.0 in
    length-map c.self.inside.pairs.items (λ p. p.0) ∙ ap length (sym f) ∙ sym o ∙ sym e) in
    let x = ok (labels_of c.self.inside.pairs.items) c.self.invariant n in
    elim c.match-push.branch [
      | in-Ok-push w ↦
          let k : c.push-2.new.self.items ≡ c.reserve.new.self.items ++ (c.args.key, c.args.item) ∷ [] = w.in-Ok-push.ensures.items in
          let l : labels_of c.push-2.new.self.items ≡ labels_of c.self.inside.pairs.items ++ c.args.key ∷ [] =
          ap labels_of (k ∙ ap (λ ps. ps ++ (c.args.key, c.args.item) ∷ []) f) ∙ map-append (λ p. p.0) c.self.inside.pairs.items ((c.args.key, c.args.item) ∷ []) in
          subst (λ ls. IsIndex c.add_place.new.known (map (λ (v : SmallVec ℕ). v.items) c.add_place.new.groups.items) ls) (sym l) x
      | in-Err w ↦
          let k = w.in-Err.ensures.full in
          let h : vec_len c.reserve.new.self + 1 ≤ vec_capacity c.reserve.new.self = on_ok _ c.reserve.result (sym c.is_err.ensures.value ∙ c.if-is_err.false) c.reserve.ensures.ok in
          absurd (omega (arith, k, h))
    ]
