use Rattle.std.proofs.Common.{rules, arith, ◌≡◌, List, refl, sym, ap, subst, length, Some}
use Rattle.node_text.specs.Node.{LevelValue}
use Rattle.plan_core.specs.declared.plan.Plan.{Plan}
use Rattle.plan_core.specs.PlanMade.{plan_value}
use Rattle.plan_forms.specs.Forms.{input_at, piece_at}
use Rattle.lazy_plan.specs.Bench.{state_of, ops_of, documents}
use Rattle.lazy_seek.specs.Evidenced.{reaches}
use Rattle.lazy_seek.proofs.Walks.{sought_then}
use Rattle.lazy_follow.specs.Choosing.{IsListBy}
use Rattle.lazy_follow.specs.Ends.{stand_of}
use Rattle.lazy_follow.specs.Following.{Follows, ending, list_in}
use Rattle.lazy_follow.specs.Scope.{InScope}
use Rattle.lazy_follow.specs.Trails.{ahead_reach, GivesTrail}
use Rattle.lazy_follow.proofs.LevelsAhead.{reach_ahead, fewer_ahead, list_led_to, tree_led_to, member_led_to, list_ahead, tree_ahead, member_ahead, piece_list, piece_ahead}
use Rattle.lazy_follow.proofs.Trails.{nowhere}
use Rattle.lazy_follow.proofs.following.+following.Goals as goal

pub follow_list-returns-in_default-2-clause-answer : goal.follow_list-returns-in_default-2-clause-answer
follow_list-returns-in_default-2-clause-answer g t c = λ places h tells f.
    let a = state_of (g.S.Sources.view c.args.s.now) c.args.bench.now in
    nowhere a places c.args.from.now h.list c.in-Some.level.now c.in-Some.later.now c.args.ahead.now.inside.now ((rw c.in_default-2.is at (c.in_ok-led.ensures.answer places h)) tells)
    (subst (λ (x : List LevelValue). Follows (documents a) (ops_of a) (stand_of places c.args.from.now.here.now) h.list x c.args.ahead.now.inside.now) c.in-Some.ensures.cases.0 f)

pub follow_list-follow_list-requires : goal.follow_list-follow_list-requires
follow_list-follow_list-requires g t c κs within =
    let a = state_of (g.S.Sources.view c.args.s.now) c.args.bench.now in
    let b = state_of (g.S.Sources.view c.follow_level.new.s) c.follow_level.new.bench in
    let places = c.requires.list.0 in
    let h = c.requires.list.1 in
    let led = rw (c.in-Some-2.is, c.in-List.is) at (c.in_ok-led.ensures.answer places h) in
    let fewer = fewer_ahead c.args.ahead.now.levels.now c.in-Some.later.now c.in-Some.level.now c.in-Some.ensures.cases.0 in
    (omega (arith, fewer, c.decreases), (within, (c.follow_level.ensures.sought.ran.bench, (places, list_led_to a b c.follow_level.ensures.sought.ran.kept places c.args.from.now h c.in-Some.level.now c.in-List.op led))))

pub follow_list-returns-in_err-trail-in-List-clause-sought : goal.follow_list-returns-in_err-trail-in-List-clause-sought
follow_list-returns-in_err-trail-in-List-clause-sought g t c =
    sought_then g.met.S.Sources.after (reaches c.in-Some.level.now.tuple) _ (ahead_reach c.args.ahead.now) c.args.s.now c.follow_level.new.s c.follow_list.new.s c.args.bench.now c.follow_level.new.bench
    c.follow_list.new.bench c.follow_level.ensures.sought c.follow_list.ensures.sought.ran c.follow_list.ensures.sought.asks
    (reach_ahead c.args.ahead.now.levels.now c.in-Some.later.now c.in-Some.level.now c.args.ahead.now.inside.now c.in-Some.ensures.cases.0)

pub follow_list-returns-in_err-before-in-List-clause-sought : goal.follow_list-returns-in_err-before-in-List-clause-sought
follow_list-returns-in_err-before-in-List-clause-sought g t c =
    sought_then g.met.S.Sources.after (reaches c.in-Some.level.now.tuple) _ (ahead_reach c.args.ahead.now) c.args.s.now c.follow_level.new.s c.follow_list.new.s c.args.bench.now c.follow_level.new.bench
    c.follow_list.new.bench c.follow_level.ensures.sought c.follow_list.ensures.sought.ran c.follow_list.ensures.sought.asks
    (reach_ahead c.args.ahead.now.levels.now c.in-Some.later.now c.in-Some.level.now c.args.ahead.now.inside.now c.in-Some.ensures.cases.0)

pub follow_list-returns-in_ok-before-in-List-clause-sought : goal.follow_list-returns-in_ok-before-in-List-clause-sought
follow_list-returns-in_ok-before-in-List-clause-sought g t c =
    sought_then g.met.S.Sources.after (reaches c.in-Some.level.now.tuple) _ (ahead_reach c.args.ahead.now) c.args.s.now c.follow_level.new.s c.follow_list.new.s c.args.bench.now c.follow_level.new.bench
    c.follow_list.new.bench c.follow_level.ensures.sought c.follow_list.ensures.sought.ran c.follow_list.ensures.sought.asks
    (reach_ahead c.args.ahead.now.levels.now c.in-Some.later.now c.in-Some.level.now c.args.ahead.now.inside.now c.in-Some.ensures.cases.0)

pub follow_list-returns-in_ok-before-in-List-clause-answer : goal.follow_list-returns-in_ok-before-in-List-clause-answer
follow_list-returns-in_ok-before-in-List-clause-answer g t c = λ places h.
    let a = state_of (g.S.Sources.view c.args.s.now) c.args.bench.now in
    let b = state_of (g.S.Sources.view c.follow_level.new.s) c.follow_level.new.bench in
    let d = state_of (g.S.Sources.view c.follow_list.new.s) c.follow_list.new.bench in
    let led = rw (c.in-Some-2.is, c.in-List.is) at (c.in_ok-led.ensures.answer places h) in
    let to = list_led_to a b c.follow_level.ensures.sought.ran.kept places c.args.from.now h c.in-Some.level.now c.in-List.op led in
    subst (λ (x : List LevelValue). GivesTrail a d x c.args.ahead.now.inside.now (Follows (documents a) (ops_of a) (stand_of places c.args.from.now.here.now) h.list x c.args.ahead.now.inside.now)
    (ending (ops_of a) (stand_of places c.args.from.now.here.now) h.list x) c.in_ok-before-in-List.field-0)
    (sym c.in-Some.ensures.cases.0)
    (list_ahead a b c.follow_level.ensures.sought.ran.kept places c.args.from.now h c.in-Some.level.now c.in-Some.later.now c.args.ahead.now.inside.now d c.in_ok-trail-in-List.trail c.in_ok-before-in-List.field-0 c.in-List.op led to
    (c.in_ok-trail-in-List.ensures.answer places to) c.in_ok-before-in-List.ensures)

pub follow_list-follow_tree-requires : goal.follow_list-follow_tree-requires
follow_list-follow_tree-requires g t c κs within =
    let a = state_of (g.S.Sources.view c.args.s.now) c.args.bench.now in
    let b = state_of (g.S.Sources.view c.follow_level.new.s) c.follow_level.new.bench in
    let places = c.requires.list.0 in
    let h = c.requires.list.1 in
    let led = rw (c.in-Some-2.is, c.in-Tree.is) at (c.in_ok-led.ensures.answer places h) in
    let fewer = fewer_ahead c.args.ahead.now.levels.now c.in-Some.later.now c.in-Some.level.now c.in-Some.ensures.cases.0 in
    (omega (arith, fewer, c.decreases), (within, (c.follow_level.ensures.sought.ran.bench, (places, tree_led_to a b c.follow_level.ensures.sought.ran.kept places c.args.from.now h c.in-Some.level.now c.in-Tree.op c.in-Tree.index led))))

pub follow_list-returns-in_err-trail-in-Tree-clause-sought : goal.follow_list-returns-in_err-trail-in-Tree-clause-sought
follow_list-returns-in_err-trail-in-Tree-clause-sought g t c =
    sought_then g.met.S.Sources.after (reaches c.in-Some.level.now.tuple) _ (ahead_reach c.args.ahead.now) c.args.s.now c.follow_level.new.s c.follow_tree.new.s c.args.bench.now c.follow_level.new.bench
    c.follow_tree.new.bench c.follow_level.ensures.sought c.follow_tree.ensures.sought.ran c.follow_tree.ensures.sought.asks
    (reach_ahead c.args.ahead.now.levels.now c.in-Some.later.now c.in-Some.level.now c.args.ahead.now.inside.now c.in-Some.ensures.cases.0)

pub follow_list-returns-in_err-before-in-Tree-clause-sought : goal.follow_list-returns-in_err-before-in-Tree-clause-sought
follow_list-returns-in_err-before-in-Tree-clause-sought g t c =
    sought_then g.met.S.Sources.after (reaches c.in-Some.level.now.tuple) _ (ahead_reach c.args.ahead.now) c.args.s.now c.follow_level.new.s c.follow_tree.new.s c.args.bench.now c.follow_level.new.bench
    c.follow_tree.new.bench c.follow_level.ensures.sought c.follow_tree.ensures.sought.ran c.follow_tree.ensures.sought.asks
    (reach_ahead c.args.ahead.now.levels.now c.in-Some.later.now c.in-Some.level.now c.args.ahead.now.inside.now c.in-Some.ensures.cases.0)

pub follow_list-returns-in_ok-before-in-Tree-clause-sought : goal.follow_list-returns-in_ok-before-in-Tree-clause-sought
follow_list-returns-in_ok-before-in-Tree-clause-sought g t c =
    sought_then g.met.S.Sources.after (reaches c.in-Some.level.now.tuple) _ (ahead_reach c.args.ahead.now) c.args.s.now c.follow_level.new.s c.follow_tree.new.s c.args.bench.now c.follow_level.new.bench
    c.follow_tree.new.bench c.follow_level.ensures.sought c.follow_tree.ensures.sought.ran c.follow_tree.ensures.sought.asks
    (reach_ahead c.args.ahead.now.levels.now c.in-Some.later.now c.in-Some.level.now c.args.ahead.now.inside.now c.in-Some.ensures.cases.0)

pub follow_list-returns-in_ok-before-in-Tree-clause-answer : goal.follow_list-returns-in_ok-before-in-Tree-clause-answer
follow_list-returns-in_ok-before-in-Tree-clause-answer g t c = λ places h.
    let a = state_of (g.S.Sources.view c.args.s.now) c.args.bench.now in
    let b = state_of (g.S.Sources.view c.follow_level.new.s) c.follow_level.new.bench in
    let d = state_of (g.S.Sources.view c.follow_tree.new.s) c.follow_tree.new.bench in
    let led = rw (c.in-Some-2.is, c.in-Tree.is) at (c.in_ok-led.ensures.answer places h) in
    let to = tree_led_to a b c.follow_level.ensures.sought.ran.kept places c.args.from.now h c.in-Some.level.now c.in-Tree.op c.in-Tree.index led in
    subst (λ (x : List LevelValue). GivesTrail a d x c.args.ahead.now.inside.now (Follows (documents a) (ops_of a) (stand_of places c.args.from.now.here.now) h.list x c.args.ahead.now.inside.now)
    (ending (ops_of a) (stand_of places c.args.from.now.here.now) h.list x) c.in_ok-before-in-Tree.field-0)
    (sym c.in-Some.ensures.cases.0)
    (tree_ahead a b c.follow_level.ensures.sought.ran.kept places c.args.from.now h c.in-Some.level.now c.in-Some.later.now c.args.ahead.now.inside.now d c.in_ok-trail-in-Tree.trail c.in_ok-before-in-Tree.field-0 c.in-Tree.op c.in-Tree.index led
    (c.in_ok-trail-in-Tree.ensures.answer places to) c.in_ok-before-in-Tree.ensures)

pub follow_list-follow_tree-requires-in-Member : goal.follow_list-follow_tree-requires-in-Member
follow_list-follow_tree-requires-in-Member g t c κs within =
    let a = state_of (g.S.Sources.view c.args.s.now) c.args.bench.now in
    let b = state_of (g.S.Sources.view c.follow_level.new.s) c.follow_level.new.bench in
    let places = c.requires.list.0 in
    let h = c.requires.list.1 in
    let led = rw (c.in-Some-2.is, c.in-Member.is) at (c.in_ok-led.ensures.answer places h) in
    let fewer = fewer_ahead c.args.ahead.now.levels.now c.in-Some.later.now c.in-Some.level.now c.in-Some.ensures.cases.0 in
    (omega (arith, fewer, c.decreases), (within, (c.follow_level.ensures.sought.ran.bench, (c.in-Some.level.now.tuple, member_led_to a b c.follow_level.ensures.sought.ran.kept places c.args.from.now h c.in-Some.level.now c.requires.bench.valid c.in-Member.op c.in-Member.there led _ refl refl refl))))

pub follow_list-returns-in_err-trail-in-Member-clause-sought : goal.follow_list-returns-in_err-trail-in-Member-clause-sought
follow_list-returns-in_err-trail-in-Member-clause-sought g t c =
    sought_then g.met.S.Sources.after (reaches c.in-Some.level.now.tuple) _ (ahead_reach c.args.ahead.now) c.args.s.now c.follow_level.new.s c.follow_tree-in-Member.new.s c.args.bench.now c.follow_level.new.bench
    c.follow_tree-in-Member.new.bench c.follow_level.ensures.sought c.follow_tree-in-Member.ensures.sought.ran c.follow_tree-in-Member.ensures.sought.asks
    (reach_ahead c.args.ahead.now.levels.now c.in-Some.later.now c.in-Some.level.now c.args.ahead.now.inside.now c.in-Some.ensures.cases.0)

pub follow_list-returns-in_err-before-in-Member-clause-sought : goal.follow_list-returns-in_err-before-in-Member-clause-sought
follow_list-returns-in_err-before-in-Member-clause-sought g t c =
    sought_then g.met.S.Sources.after (reaches c.in-Some.level.now.tuple) _ (ahead_reach c.args.ahead.now) c.args.s.now c.follow_level.new.s c.follow_tree-in-Member.new.s c.args.bench.now c.follow_level.new.bench
    c.follow_tree-in-Member.new.bench c.follow_level.ensures.sought c.follow_tree-in-Member.ensures.sought.ran c.follow_tree-in-Member.ensures.sought.asks
    (reach_ahead c.args.ahead.now.levels.now c.in-Some.later.now c.in-Some.level.now c.args.ahead.now.inside.now c.in-Some.ensures.cases.0)

pub follow_list-returns-in_ok-before-in-Member-clause-sought : goal.follow_list-returns-in_ok-before-in-Member-clause-sought
follow_list-returns-in_ok-before-in-Member-clause-sought g t c =
    sought_then g.met.S.Sources.after (reaches c.in-Some.level.now.tuple) _ (ahead_reach c.args.ahead.now) c.args.s.now c.follow_level.new.s c.follow_tree-in-Member.new.s c.args.bench.now c.follow_level.new.bench
    c.follow_tree-in-Member.new.bench c.follow_level.ensures.sought c.follow_tree-in-Member.ensures.sought.ran c.follow_tree-in-Member.ensures.sought.asks
    (reach_ahead c.args.ahead.now.levels.now c.in-Some.later.now c.in-Some.level.now c.args.ahead.now.inside.now c.in-Some.ensures.cases.0)

pub follow_list-returns-in_ok-before-in-Member-clause-answer : goal.follow_list-returns-in_ok-before-in-Member-clause-answer
follow_list-returns-in_ok-before-in-Member-clause-answer g t c = λ places h.
    let a = state_of (g.S.Sources.view c.args.s.now) c.args.bench.now in
    let b = state_of (g.S.Sources.view c.follow_level.new.s) c.follow_level.new.bench in
    let d = state_of (g.S.Sources.view c.follow_tree-in-Member.new.s) c.follow_tree-in-Member.new.bench in
    let led = rw (c.in-Some-2.is, c.in-Member.is) at (c.in_ok-led.ensures.answer places h) in
    let to = member_led_to a b c.follow_level.ensures.sought.ran.kept places c.args.from.now h c.in-Some.level.now c.requires.bench.valid c.in-Member.op c.in-Member.there led _ refl refl refl in
    subst (λ (x : List LevelValue). GivesTrail a d x c.args.ahead.now.inside.now (Follows (documents a) (ops_of a) (stand_of places c.args.from.now.here.now) h.list x c.args.ahead.now.inside.now)
    (ending (ops_of a) (stand_of places c.args.from.now.here.now) h.list x) c.in_ok-before-in-Member.field-0)
    (sym c.in-Some.ensures.cases.0)
    (member_ahead a b c.follow_level.ensures.sought.ran.kept places c.args.from.now h c.in-Some.level.now c.in-Some.later.now c.args.ahead.now.inside.now d c.in_ok-trail-in-Member.trail c.in_ok-before-in-Member.field-0 c.in-Member.op c.in-Member.there led c.follow_tree-in-Member.ensures.sought.ran.kept
    (c.in_ok-trail-in-Member.ensures.answer c.in-Some.level.now.tuple to) c.in_ok-before-in-Member.ensures)

pub follow_tree-follow_list-requires : goal.follow_tree-follow_list-requires
follow_tree-follow_list-requires g t c κs within =
    let a = state_of (g.S.Sources.view c.args.s.now) c.args.bench.now in
    let places = c.requires.tree.0 in
    let h = c.requires.tree.1 in
    let by = subst (λ (q : Plan). IsListBy (plan_value q).ops (list_in (plan_value q).ops (piece_at (plan_value q).ops c.args.tree.now.op c.args.tree.now.index)) (Some c.in-Some-list_of_piece.op)) c.plan.ensures
    c.in-Some-list_of_piece.ensures.list in
    let scope = subst (λ (q : Plan). InScope (plan_value q).ops (input_at (plan_value q).ops c.args.tree.now.op) c.in-Some-list_of_piece.op) c.plan.ensures c.in-Some-list_of_piece.ensures.scope in
    (omega (arith, c.decreases), (within, (c.requires.bench, (places, piece_list a places c.args.tree.now h c.in-Some-list_of_piece.op scope _ by))))

pub follow_tree-returns-clause-answer : goal.follow_tree-returns-clause-answer
follow_tree-returns-clause-answer g t c = λ places h.
    let a = state_of (g.S.Sources.view c.args.s.now) c.args.bench.now in
    let d = state_of (g.S.Sources.view c.follow_list.new.s) c.follow_list.new.bench in
    let n : length c.args.ahead.now.levels.now ≡ 0 → ⊥ = search rules in
    let by = subst (λ (q : Plan). IsListBy (plan_value q).ops (list_in (plan_value q).ops (piece_at (plan_value q).ops c.args.tree.now.op c.args.tree.now.index)) (Some c.in-Some-list_of_piece.op)) c.plan.ensures
    c.in-Some-list_of_piece.ensures.list in
    let scope = subst (λ (q : Plan). InScope (plan_value q).ops (input_at (plan_value q).ops c.args.tree.now.op) c.in-Some-list_of_piece.op) c.plan.ensures c.in-Some-list_of_piece.ensures.scope in
    piece_ahead a d places c.args.tree.now h c.in-Some-list_of_piece.op scope by c.args.ahead.now.levels.now c.args.ahead.now.inside.now c.follow_list.result (λ e. n (ap length e))
    (λ h'. c.follow_list.ensures.answer places h')
