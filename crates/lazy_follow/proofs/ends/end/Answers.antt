use Rattle.std.proofs.Common.{rules, arith, ◌≡◌, ℕ, List, [], ◌∷◌, refl, ap, subst, length}
use Rattle.plan_forms.specs.Forms.{piece_at}
use Rattle.lazy_plan.specs.Bench.{state_of, ops_of}
use Rattle.lazy_seek.proofs.Visiting.{sought_within}
use Rattle.lazy_seek.proofs.Walks.{sought_none}
use Rattle.lazy_follow.specs.Ends.{Shows, stand_of}
use Rattle.lazy_follow.specs.Spotted.{nodes_of}
use Rattle.lazy_follow.proofs.Endings.{bare_under, bare_shows, shown_there}
use Rattle.lazy_follow.proofs.ends.end.Goals as goal

-- a list without members is empty
no_members : (p : List ℕ) → length p ≡ 0 → p ≡ []
no_members [] e = refl
no_members (x ∷ p) e = absurd (omega (arith, e))

-- an empty list has no members
none_there : (p : List ℕ) → p ≡ [] → length p ≡ 0
none_there p e = ap length e

pub returns-then-is_empty : goal.returns-then-is_empty
returns-then-is_empty g c =
    let st = state_of (g.S.Sources.view c.args.s.now) c.args.bench.now in
    let t = c.args.tree.now in
    let e : length c.args.inside.now ≡ 0 = search rules in
    record {
      sought =
          sought_within 0 _ c.args.s.now c.args.s.now c.args.bench.now c.args.bench.now (sought_none g.met.S.Sources.same c.args.s.now c.args.bench.now c.requires.bench) (omega arith);
      cause = tt;
      answer = λ places h.
          (let shows = rw c.in-Some.is at (c.shown_of.ensures places (g.S.Sources.view c.args.s.now) c.requires.bench h) in
          let x = piece_at (ops_of st) t.op t.index in (
            shown_there st (stand_of places t.here.now) x c.args.inside.now c.in-Some.shown shows,
            λ told. (bare_under st (stand_of places t.here.now) x c.args.inside.now c.in-Some.shown c.in_default-shown.not-Whole shows).1 (no_members c.args.inside.now e),
            bare_shows st (stand_of places t.here.now) x c.args.inside.now c.in-Some.shown c.in_default-shown.not-Whole shows (no_members c.args.inside.now e),
          ));
    }

pub returns-in_default-shown : goal.returns-in_default-shown
returns-in_default-shown g c =
    let st = state_of (g.S.Sources.view c.args.s.now) c.args.bench.now in
    let t = c.args.tree.now in
    let n : length c.args.inside.now ≡ 0 → ⊥ = search rules in
    record {
      sought =
          sought_within 0 _ c.args.s.now c.args.s.now c.args.bench.now c.args.bench.now (sought_none g.met.S.Sources.same c.args.s.now c.args.bench.now c.requires.bench) (omega arith);
      cause = tt;
      answer = λ places h told under.
          (let shows = rw c.in-Some.is at (c.shown_of.ensures places (g.S.Sources.view c.args.s.now) c.requires.bench h) in
          let x = piece_at (ops_of st) t.op t.index in
          n (none_there c.args.inside.now ((bare_under st (stand_of places t.here.now) x c.args.inside.now c.in-Some.shown c.in_default-shown.not-Whole shows).0 under)));
    }

pub node_below-requires-clause-spot : goal.node_below-requires-clause-spot
node_below-requires-clause-spot g c =
    let st = state_of (g.S.Sources.view c.args.s.now) c.args.bench.now in
    let t = c.args.tree.now in
    let places = c.requires.tree.0 in
    let shows = rw c.in-Some.is at (c.shown_of.ensures places (g.S.Sources.view c.args.s.now) c.requires.bench c.requires.tree.1) in
    let whole = subst (Shows st (nodes_of st places t.here.now) (piece_at (ops_of st) t.op t.index)) c.in-Whole.is shows in
    whole.3.spot
