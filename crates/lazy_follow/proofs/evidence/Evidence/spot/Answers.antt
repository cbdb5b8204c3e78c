use Rattle.std.proofs.Common.{rules, ◌≡◌, ◌∙◌, ◌<◌, ◌≤◌, List, Option, sym, ap, subst, arith, length, true, false}
use Rattle.std.specs.Prelude.{◌==◌, MatchOption, slice_get, slice_index_or}
use Rattle.std.proofs.lemmas.Bool.{eqb-true}
use Rattle.std.proofs.lemmas.Bool.Decides.{nat_tests}
use Rattle.tree_buffer.specs.declared.spot.Spot.{Spot}
use Rattle.lazy_follow.proofs.Nodes.{IsSpotFor, among_next, among_end, spot_there}
use Rattle.lazy_follow.proofs.evidence.Evidence.spot.Goals as goal

pub returns-then-eq : goal.returns-then-eq
returns-then-eq c = λ st nodes h among.
    let vs = c.args.self.now.vars.items in
    let below : c.loop-i.i < length vs = (let r = c.loop-i-test.true in first_of (omega (arith, r), search rules)) in
    let here : c.index.result.now ≡ slice_index_or vs c.loop-i.i c.index.result.now = search rules in
    let same : (c.index.result.now == c.args.v) ≡ true = search rules in
    let got = c.spot_at.ensures ∙ ap (λ (xs : List Spot). slice_get xs c.loop-i.i) c.deref.ensures.value in
    subst (λ (o : Option Spot). MatchOption o ⊥ (IsSpotFor st (nodes c.args.v))) (sym got)
    (spot_there st nodes vs c.args.self.now.spots.items c.loop-i.i c.index.result.now c.args.v h below here (eqb-true c.index.result.now c.args.v same))

pub loop-i-preserved : goal.loop-i-preserved
loop-i-preserved c = λ among.
    let vs = c.args.self.now.vars.items in
    let below : c.loop-i.i < length vs = (let r = c.loop-i-test.true in first_of (omega (arith, r), search rules)) in
    let here : c.index.result.now ≡ slice_index_or vs c.loop-i.i c.index.result.now = search rules in
    let other : (c.index.result.now == c.args.v) ≡ false = search rules in
    among_next vs c.loop-i.i c.index.result.now c.args.v below here
    (λ e. (let t : (c.index.result.now == c.args.v) ≡ true = grind (arith, nat_tests, e) in let f : ⊥ = cc in f)) (c.loop-i.invariant among)

pub returns : goal.returns
returns c = λ st nodes h among.
    let past : length c.args.self.now.vars.items ≤ c.loop-i.i = (let r = c.loop-i-test.false in first_of (omega (arith, r), search rules)) in
    absurd (among_end c.args.self.now.vars.items c.loop-i.i c.args.v past (c.loop-i.invariant among))
