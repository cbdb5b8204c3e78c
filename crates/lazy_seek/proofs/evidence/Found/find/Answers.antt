use Rattle.std.proofs.Common.{rules, ◌≡◌, ◌∙◌, ◌++◌, List, ℕ, Some, sym, ap, subst, length}
use Rattle.plan_core.specs.PlanMade.{plan_value}
use Rattle.lazy_plan.specs.Bench.{state_of, IsVisitAlong, IsSpotAt, node_at}
use Rattle.mix_tree.specs.Nodes.{Node}
use Rattle.lazy_seek.specs.Reach.{reach}
use Rattle.lazy_seek.specs.Turns.{nodes_wanted}
use Rattle.lazy_seek.proofs.Knowing.{known_entry, known_there, start_known, place_there, place_get, out_given, knows_on, knows_visit}
use Rattle.lazy_seek.proofs.Visiting.{sought_within, rest_within, place_is, no_front, leads_of, holds_by, out_node, out_source}
use Rattle.lazy_seek.proofs.evidence.Found.find.Goals as goal

pub returns-in_default-clause-answer : goal.returns-in_default-clause-answer
returns-in_default-clause-answer g c =
    let a = state_of (g.S.Sources.view c.args.s.now) c.args.bench.now in
    let p = plan_value c.args.bench.now.fixed.plan in
    let t = c.args.visit.now.turn in
    let v = c.requires.visit in
    let on = sym c.requires.turn.way ∙ c.requires.on_way in
    let known = start_known p c.requires.bench.valid t.wanted c.requires.turn.is_wanted a t.op c.requires.turn.within on v.0 c.args.visit.now.start c.args.visit.now.out v.1 v.2 c.args.self.now c.requires.knows in
    λ told. known_there a t.wanted.places.now c.args.self.now.nodes c.args.visit.now.start _ known (sym c.of.ensures ∙ c.in_default.is)

pub place-place-requires : goal.place-place-requires
place-place-requires g c =
    let a = state_of (g.S.Sources.view c.args.s.now) c.args.bench.now in
    let p = plan_value c.args.bench.now.fixed.plan in
    let t = c.args.visit.now.turn in
    let v = c.requires.visit in
    let on = sym c.requires.turn.way ∙ c.requires.on_way in
    let known = start_known p c.requires.bench.valid t.wanted c.requires.turn.is_wanted a t.op c.requires.turn.within on v.0 c.args.visit.now.start c.args.visit.now.out v.1 v.2 c.args.self.now c.requires.knows in
    let there = place_there p c.requires.bench.valid t.wanted c.requires.turn.is_wanted a t.op c.requires.turn.within on v.0 c.args.visit.now.start c.args.visit.now.out v.1 v.2 c.args.self.now c.requires.knows in
    search rules

pub place_of-requires : goal.place_of-requires
place_of-requires g c =
    let a = state_of (g.S.Sources.view c.args.s.now) c.args.bench.now in
    let p = plan_value c.args.bench.now.fixed.plan in
    let t = c.args.visit.now.turn in
    let v = c.requires.visit in
    let on = sym c.requires.turn.way ∙ c.requires.on_way in
    let known = start_known p c.requires.bench.valid t.wanted c.requires.turn.is_wanted a t.op c.requires.turn.within on v.0 c.args.visit.now.start c.args.visit.now.out v.1 v.2 c.args.self.now c.requires.knows in
    let ke = known_entry a t.wanted.places.now c.args.self.now.nodes c.args.visit.now.start _ known c.in-Some.start (sym c.of.ensures ∙ c.in-Some.is) in
    ((nodes_wanted p.ops t.wanted c.args.visit.now.start).place, ke.at_place)

pub seek_match-requires-clause-spot : goal.seek_match-requires-clause-spot
seek_match-requires-clause-spot g c =
    let a = state_of (g.S.Sources.view c.args.s.now) c.args.bench.now in
    let p = plan_value c.args.bench.now.fixed.plan in
    let t = c.args.visit.now.turn in
    let v = c.requires.visit in
    let on = sym c.requires.turn.way ∙ c.requires.on_way in
    let known = start_known p c.requires.bench.valid t.wanted c.requires.turn.is_wanted a t.op c.requires.turn.within on v.0 c.args.visit.now.start c.args.visit.now.out v.1 v.2 c.args.self.now c.requires.knows in
    let ke = known_entry a t.wanted.places.now c.args.self.now.nodes c.args.visit.now.start _ known c.in-Some.start (sym c.of.ensures ∙ c.in-Some.is) in
    ke.spot

pub returns-in_default-behind-clause-answer : goal.returns-in_default-behind-clause-answer
returns-in_default-behind-clause-answer g c =
    let a = state_of (g.S.Sources.view c.args.s.now) c.args.bench.now in
    let p = plan_value c.args.bench.now.fixed.plan in
    let t = c.args.visit.now.turn in
    let v = c.requires.visit in
    let on = sym c.requires.turn.way ∙ c.requires.on_way in
    let known = start_known p c.requires.bench.valid t.wanted c.requires.turn.is_wanted a t.op c.requires.turn.within on v.0 c.args.visit.now.start c.args.visit.now.out v.1 v.2 c.args.self.now c.requires.knows in
    let ke = known_entry a t.wanted.places.now c.args.self.now.nodes c.args.visit.now.start _ known c.in-Some.start (sym c.of.ensures ∙ c.in-Some.is) in
    let given = out_given p c.requires.bench.valid t.wanted c.requires.turn.is_wanted a t.op c.requires.turn.within on v.0 c.args.visit.now.start c.args.visit.now.out v.1 v.2 in
    let get = place_get p c.requires.bench.valid t.wanted c.requires.turn.is_wanted a t.op c.requires.turn.within on v.0 c.args.visit.now.start c.args.visit.now.out v.1 v.2 c.args.self.now c.requires.knows in
    let many : c.len.result ≡ length c.args.self.now.spots.items = search rules in
    let next = place_is t.wanted.places.now (length c.args.self.now.spots.items) c.len.result _ c.place-place.result.now many get c.place-place.ensures in
    let front = c.place_of.ensures _ ke.at_place in
    let b = rw c.in_default-behind.is at c.behind.ensures in
    λ told. (c.requires.on_way, no_front a t v.0 c.args.visit.now.start c.args.visit.now.out v.1 v.2 given c.place_of.result.now front (λ rest l e. b rest l (e ∙ sym next)))

pub returns-in_err-spot-clause-sought : goal.returns-in_err-spot-clause-sought
returns-in_err-spot-clause-sought g c =
    let a = state_of (g.S.Sources.view c.args.s.now) c.args.bench.now in
    let p = plan_value c.args.bench.now.fixed.plan in
    let t = c.args.visit.now.turn in
    let v = c.requires.visit in
    let on = sym c.requires.turn.way ∙ c.requires.on_way in
    let known = start_known p c.requires.bench.valid t.wanted c.requires.turn.is_wanted a t.op c.requires.turn.within on v.0 c.args.visit.now.start c.args.visit.now.out v.1 v.2 c.args.self.now c.requires.knows in
    let ke = known_entry a t.wanted.places.now c.args.self.now.nodes c.args.visit.now.start _ known c.in-Some.start (sym c.of.ensures ∙ c.in-Some.is) in
    let given = out_given p c.requires.bench.valid t.wanted c.requires.turn.is_wanted a t.op c.requires.turn.within on v.0 c.args.visit.now.start c.args.visit.now.out v.1 v.2 in
    let get = place_get p c.requires.bench.valid t.wanted c.requires.turn.is_wanted a t.op c.requires.turn.within on v.0 c.args.visit.now.start c.args.visit.now.out v.1 v.2 c.args.self.now c.requires.knows in
    let many : c.len.result ≡ length c.args.self.now.spots.items = search rules in
    let next = place_is t.wanted.places.now (length c.args.self.now.spots.items) c.len.result _ c.place-place.result.now many get c.place-place.ensures in
    let front = c.place_of.ensures _ ke.at_place in
    let b = rw c.in-Some-behind.is at c.behind.ensures in
    let rest = ap (λ (q : List ℕ). q ++ c.in-Some-behind.steps.now) (ap (λ (m : Node). m.place) ke.node ∙ sym front) ∙ b.1 ∙ next in
    sought_within (reach c.in-Some-behind.steps.now) _ c.args.s.now c.seek_match.new.s c.args.bench.now c.seek_match.new.bench c.seek_match.ensures.sought
    (rest_within a t v.0 c.args.visit.now.start c.args.visit.now.out v.1 v.2 c.requires.on_way c.place_of.result.now c.in-Some-behind.steps.now (b.1 ∙ next))

pub returns-in_default-2-clause-sought : goal.returns-in_default-2-clause-sought
returns-in_default-2-clause-sought g c =
    let a = state_of (g.S.Sources.view c.args.s.now) c.args.bench.now in
    let p = plan_value c.args.bench.now.fixed.plan in
    let t = c.args.visit.now.turn in
    let v = c.requires.visit in
    let on = sym c.requires.turn.way ∙ c.requires.on_way in
    let known = start_known p c.requires.bench.valid t.wanted c.requires.turn.is_wanted a t.op c.requires.turn.within on v.0 c.args.visit.now.start c.args.visit.now.out v.1 v.2 c.args.self.now c.requires.knows in
    let ke = known_entry a t.wanted.places.now c.args.self.now.nodes c.args.visit.now.start _ known c.in-Some.start (sym c.of.ensures ∙ c.in-Some.is) in
    let given = out_given p c.requires.bench.valid t.wanted c.requires.turn.is_wanted a t.op c.requires.turn.within on v.0 c.args.visit.now.start c.args.visit.now.out v.1 v.2 in
    let get = place_get p c.requires.bench.valid t.wanted c.requires.turn.is_wanted a t.op c.requires.turn.within on v.0 c.args.visit.now.start c.args.visit.now.out v.1 v.2 c.args.self.now c.requires.knows in
    let many : c.len.result ≡ length c.args.self.now.spots.items = search rules in
    let next = place_is t.wanted.places.now (length c.args.self.now.spots.items) c.len.result _ c.place-place.result.now many get c.place-place.ensures in
    let front = c.place_of.ensures _ ke.at_place in
    let b = rw c.in-Some-behind.is at c.behind.ensures in
    let rest = ap (λ (q : List ℕ). q ++ c.in-Some-behind.steps.now) (ap (λ (m : Node). m.place) ke.node ∙ sym front) ∙ b.1 ∙ next in
    sought_within (reach c.in-Some-behind.steps.now) _ c.args.s.now c.seek_match.new.s c.args.bench.now c.seek_match.new.bench c.seek_match.ensures.sought
    (rest_within a t v.0 c.args.visit.now.start c.args.visit.now.out v.1 v.2 c.requires.on_way c.place_of.result.now c.in-Some-behind.steps.now (b.1 ∙ next))

pub returns-in_err-add-clause-sought : goal.returns-in_err-add-clause-sought
returns-in_err-add-clause-sought g c =
    let a = state_of (g.S.Sources.view c.args.s.now) c.args.bench.now in
    let p = plan_value c.args.bench.now.fixed.plan in
    let t = c.args.visit.now.turn in
    let v = c.requires.visit in
    let on = sym c.requires.turn.way ∙ c.requires.on_way in
    let known = start_known p c.requires.bench.valid t.wanted c.requires.turn.is_wanted a t.op c.requires.turn.within on v.0 c.args.visit.now.start c.args.visit.now.out v.1 v.2 c.args.self.now c.requires.knows in
    let ke = known_entry a t.wanted.places.now c.args.self.now.nodes c.args.visit.now.start _ known c.in-Some.start (sym c.of.ensures ∙ c.in-Some.is) in
    let given = out_given p c.requires.bench.valid t.wanted c.requires.turn.is_wanted a t.op c.requires.turn.within on v.0 c.args.visit.now.start c.args.visit.now.out v.1 v.2 in
    let get = place_get p c.requires.bench.valid t.wanted c.requires.turn.is_wanted a t.op c.requires.turn.within on v.0 c.args.visit.now.start c.args.visit.now.out v.1 v.2 c.args.self.now c.requires.knows in
    let many : c.len.result ≡ length c.args.self.now.spots.items = search rules in
    let next = place_is t.wanted.places.now (length c.args.self.now.spots.items) c.len.result _ c.place-place.result.now many get c.place-place.ensures in
    let front = c.place_of.ensures _ ke.at_place in
    let b = rw c.in-Some-behind.is at c.behind.ensures in
    let rest = ap (λ (q : List ℕ). q ++ c.in-Some-behind.steps.now) (ap (λ (m : Node). m.place) ke.node ∙ sym front) ∙ b.1 ∙ next in
    sought_within (reach c.in-Some-behind.steps.now) _ c.args.s.now c.seek_match.new.s c.args.bench.now c.seek_match.new.bench c.seek_match.ensures.sought
    (rest_within a t v.0 c.args.visit.now.start c.args.visit.now.out v.1 v.2 c.requires.on_way c.place_of.result.now c.in-Some-behind.steps.now (b.1 ∙ next))

pub returns-clause-sought : goal.returns-clause-sought
returns-clause-sought g c =
    let a = state_of (g.S.Sources.view c.args.s.now) c.args.bench.now in
    let p = plan_value c.args.bench.now.fixed.plan in
    let t = c.args.visit.now.turn in
    let v = c.requires.visit in
    let on = sym c.requires.turn.way ∙ c.requires.on_way in
    let known = start_known p c.requires.bench.valid t.wanted c.requires.turn.is_wanted a t.op c.requires.turn.within on v.0 c.args.visit.now.start c.args.visit.now.out v.1 v.2 c.args.self.now c.requires.knows in
    let ke = known_entry a t.wanted.places.now c.args.self.now.nodes c.args.visit.now.start _ known c.in-Some.start (sym c.of.ensures ∙ c.in-Some.is) in
    let given = out_given p c.requires.bench.valid t.wanted c.requires.turn.is_wanted a t.op c.requires.turn.within on v.0 c.args.visit.now.start c.args.visit.now.out v.1 v.2 in
    let get = place_get p c.requires.bench.valid t.wanted c.requires.turn.is_wanted a t.op c.requires.turn.within on v.0 c.args.visit.now.start c.args.visit.now.out v.1 v.2 c.args.self.now c.requires.knows in
    let many : c.len.result ≡ length c.args.self.now.spots.items = search rules in
    let next = place_is t.wanted.places.now (length c.args.self.now.spots.items) c.len.result _ c.place-place.result.now many get c.place-place.ensures in
    let front = c.place_of.ensures _ ke.at_place in
    let b = rw c.in-Some-behind.is at c.behind.ensures in
    let rest = ap (λ (q : List ℕ). q ++ c.in-Some-behind.steps.now) (ap (λ (m : Node). m.place) ke.node ∙ sym front) ∙ b.1 ∙ next in
    sought_within (reach c.in-Some-behind.steps.now) _ c.args.s.now c.seek_match.new.s c.args.bench.now c.seek_match.new.bench c.seek_match.ensures.sought
    (rest_within a t v.0 c.args.visit.now.start c.args.visit.now.out v.1 v.2 c.requires.on_way c.place_of.result.now c.in-Some-behind.steps.now (b.1 ∙ next))

pub returns-in_default-2-clause-answer : goal.returns-in_default-2-clause-answer
returns-in_default-2-clause-answer g c =
    let a = state_of (g.S.Sources.view c.args.s.now) c.args.bench.now in
    let p = plan_value c.args.bench.now.fixed.plan in
    let t = c.args.visit.now.turn in
    let v = c.requires.visit in
    let on = sym c.requires.turn.way ∙ c.requires.on_way in
    let known = start_known p c.requires.bench.valid t.wanted c.requires.turn.is_wanted a t.op c.requires.turn.within on v.0 c.args.visit.now.start c.args.visit.now.out v.1 v.2 c.args.self.now c.requires.knows in
    let ke = known_entry a t.wanted.places.now c.args.self.now.nodes c.args.visit.now.start _ known c.in-Some.start (sym c.of.ensures ∙ c.in-Some.is) in
    let given = out_given p c.requires.bench.valid t.wanted c.requires.turn.is_wanted a t.op c.requires.turn.within on v.0 c.args.visit.now.start c.args.visit.now.out v.1 v.2 in
    let get = place_get p c.requires.bench.valid t.wanted c.requires.turn.is_wanted a t.op c.requires.turn.within on v.0 c.args.visit.now.start c.args.visit.now.out v.1 v.2 c.args.self.now c.requires.knows in
    let many : c.len.result ≡ length c.args.self.now.spots.items = search rules in
    let next = place_is t.wanted.places.now (length c.args.self.now.spots.items) c.len.result _ c.place-place.result.now many get c.place-place.ensures in
    let front = c.place_of.ensures _ ke.at_place in
    let b = rw c.in-Some-behind.is at c.behind.ensures in
    let rest = ap (λ (q : List ℕ). q ++ c.in-Some-behind.steps.now) (ap (λ (m : Node). m.place) ke.node ∙ sym front) ∙ b.1 ∙ next in
    let along : IsVisitAlong p.ops t.op v.1 = record { input = v.0; start = c.args.visit.now.start; out = c.args.visit.now.out; is = v.2 } in
    let none = rw c.in_default-2.is at (c.in_ok-spot.ensures.answer v.1 along) in
    λ told. (
      c.requires.on_way,
      λ h. none told
          (leads_of a t v.0 c.args.visit.now.start c.args.visit.now.out v.1 v.2 given c.in-Some.start.node.source c.in-Some.start.node.spot ke.node c.in-Some-behind.steps.now rest h),
    )

pub returns-clause-answer : goal.returns-clause-answer
returns-clause-answer g c =
    let a = state_of (g.S.Sources.view c.args.s.now) c.args.bench.now in
    let p = plan_value c.args.bench.now.fixed.plan in
    let t = c.args.visit.now.turn in
    let v = c.requires.visit in
    let on = sym c.requires.turn.way ∙ c.requires.on_way in
    let known = start_known p c.requires.bench.valid t.wanted c.requires.turn.is_wanted a t.op c.requires.turn.within on v.0 c.args.visit.now.start c.args.visit.now.out v.1 v.2 c.args.self.now c.requires.knows in
    let ke = known_entry a t.wanted.places.now c.args.self.now.nodes c.args.visit.now.start _ known c.in-Some.start (sym c.of.ensures ∙ c.in-Some.is) in
    let given = out_given p c.requires.bench.valid t.wanted c.requires.turn.is_wanted a t.op c.requires.turn.within on v.0 c.args.visit.now.start c.args.visit.now.out v.1 v.2 in
    let get = place_get p c.requires.bench.valid t.wanted c.requires.turn.is_wanted a t.op c.requires.turn.within on v.0 c.args.visit.now.start c.args.visit.now.out v.1 v.2 c.args.self.now c.requires.knows in
    let many : c.len.result ≡ length c.args.self.now.spots.items = search rules in
    let next = place_is t.wanted.places.now (length c.args.self.now.spots.items) c.len.result _ c.place-place.result.now many get c.place-place.ensures in
    let front = c.place_of.ensures _ ke.at_place in
    let b = rw c.in-Some-behind.is at c.behind.ensures in
    let rest = ap (λ (q : List ℕ). q ++ c.in-Some-behind.steps.now) (ap (λ (m : Node). m.place) ke.node ∙ sym front) ∙ b.1 ∙ next in
    let along : IsVisitAlong p.ops t.op v.1 = record { input = v.0; start = c.args.visit.now.start; out = c.args.visit.now.out; is = v.2 } in
    let some = rw c.in-Some-2.is at (c.in_ok-spot.ensures.answer v.1 along) in
    let stands = rw c.in-Some-2.is at c.in_ok-spot.ensures.spot in
    let d = state_of (g.S.Sources.view c.seek_match.new.s) c.seek_match.new.bench in
    let s = c.in-Some.start.node.source in
    let x = c.in-Some-2.spot in
    let node = out_node a t v.0 c.args.visit.now.start c.args.visit.now.out v.1 v.2 given s c.in-Some.start.node.spot ke.node c.in-Some-behind.steps.now rest d x stands in
    let source = out_source a t v.0 c.args.visit.now.start c.args.visit.now.out v.1 v.2 given s c.in-Some.start.node.spot ke.node c.in-Some-behind.steps.now rest in
    let kept = c.seek_match.ensures.sought.ran.kept in (
      knows_visit p c.requires.bench.valid t.wanted c.requires.turn.is_wanted d t.op c.requires.turn.within on v.0 c.args.visit.now.start c.args.visit.now.out v.1 v.2 c.args.self.now c.add.new.self x
          (knows_on a d kept p.ops t.wanted c.args.self.now t.op c.requires.knows) c.in_ok-add.ensures.others c.in_ok-add.ensures.spots
          (c.in_ok-add.ensures.known d t.wanted.places.now (nodes_wanted p.ops t.wanted c.args.visit.now.out) stands.spot node (get ∙ ap (λ (m : Node). Some m.place) (sym given)))
          (subst (λ (r : ℕ). IsSpotAt d r x) source stands.spot) (subst (λ (r : ℕ). node_at d r x ≡ nodes_wanted p.ops t.wanted c.args.visit.now.out) source node),
      λ told way. holds_by a t v.0 c.args.visit.now.start c.args.visit.now.out v.1 v.2 given s c.in-Some.start.node.spot ke.node c.in-Some-behind.steps.now rest (some told),
    )
