use Rattle.std.proofs.Common.{◌∙◌, ◌<◌, ◌-◌, ap, ℕ, List, Option, sym, subst, arith, rules, length}
use Rattle.std.specs.Prelude.{MatchOption, get_or}
use Rattle.plan_evidence.specs.Remains.{numbers_in}
use Rattle.lazy_follow.specs.declared.evidence.Evidence.{Evidence}
use Rattle.lazy_follow.specs.Spotted.{IsSpotted}
use Rattle.lazy_plan.specs.Bench.{state_of}
use Rattle.lazy_site.specs.Standing.{remains}
use Rattle.lazy_walk.proofs.LeadsHere.{members_length, member_spotted, unlike, untold, led}
use Rattle.lazy_walk.proofs.Numbers.{begin_within, own_some_numbers}
use Rattle.lazy_walk.proofs.leading.levels_led.Goals as goal

pub overflow_sub-count : goal.overflow_sub-count
overflow_sub-count c =
    let st = state_of c.requires.0 c.args.bench.now in
    let w = c.in-Some.ensures st in
    let e = w.0 in
    let p = own_some_numbers (numbers_in (remains st c.args.rest.now.value)) in
    omega (arith, e, p)

pub bounds-members-count : goal.bounds-members-count
bounds-members-count c =
    let st = state_of c.requires.0 c.args.bench.now in
    let w = c.in-Some.ensures st in
    let e = w.0 in
    let p = own_some_numbers (numbers_in (remains st c.args.rest.now.value)) in
    let b = begin_within c.args.levels.now _ w.1 in
    let l = members_length st c.args.levels.now c.args.members.now c.requires.2.1 in
    omega (arith, e, p, b, l)

pub tells_member-requires : goal.tells_member-requires
tells_member-requires c =
    let st = state_of c.requires.0 c.args.bench.now in
    let w = c.in-Some.ensures st in
    let e = w.0 in
    let p = own_some_numbers (numbers_in (remains st c.args.rest.now.value)) in
    let b = begin_within c.args.levels.now _ w.1 in
    let l = members_length st c.args.levels.now c.args.members.now c.requires.2.1 in
    let within : c.in-Some.count - 1 < length c.args.members.now = omega (arith, e, p, b, l) in
    (c.requires.0, c.requires.1, (c.requires.2.0, subst (λ (m : Option Evidence). MatchOption m (Unit {0}) (λ e. (places : List (List ℕ)) × IsSpotted st places e)) (sym c.index-members-count.is) (member_spotted st c.args.levels.now c.args.members.now c.requires.2.1 (c.in-Some.count - 1) c.index-members-count.result within)))

pub returns-then-tells_member-clause-within : goal.returns-then-tells_member-clause-within
returns-then-tells_member-clause-within c =
    let st = state_of c.requires.0 c.args.bench.now in
    let w = c.in-Some.ensures st in
    let e = w.0 in
    let p = own_some_numbers (numbers_in (remains st c.args.rest.now.value)) in
    let b = begin_within c.args.levels.now _ w.1 in
    (omega (arith, e, p), omega (arith, e, b))

pub returns-in-None-clause-leads : goal.returns-in-None-clause-leads
returns-in-None-clause-leads c = λ view b rest are y n p v list h has head s index is chosen here there j piece same lead.
    (let st = state_of view c.args.bench.now in
    unlike st b.valid b.fixed.typed b.bench y n p h v list has head c.args.rest.now.value rest s index is c.args.levels.now c.args.members.now are chosen here there j piece same lead (c.in-None.ensures st))

pub returns-else-tells_member-clause-leads : goal.returns-else-tells_member-clause-leads
returns-else-tells_member-clause-leads c = λ view b rest are y n p v list h has head s index is chosen here there j piece same lead.
    (let st = state_of view c.args.bench.now in
    let w = c.in-Some.ensures st in
    let at = c.index-members-count.is ∙ ap (λ k. get_or c.args.members.now (k - 1) c.index-members-count.result) w.0 in
    untold st b.valid b.fixed.typed b.bench y n p h v list has head c.args.rest.now.value rest s index is c.args.levels.now c.args.members.now are chosen here there j piece same lead c.index-members-count.result at
    c.tells_member.result (λ places. c.tells_member.ensures places view b rest y) c.if-tells_member.false)

pub returns-then-tells_member-clause-leads : goal.returns-then-tells_member-clause-leads
returns-then-tells_member-clause-leads c = λ view b rest are y n p v list h has head s index is chosen here there j piece same lead.
    (let st = state_of view c.args.bench.now in
    let w = c.in-Some.ensures st in
    let at = c.index-members-count.is ∙ ap (λ k. get_or c.args.members.now (k - 1) c.index-members-count.result) w.0 in
    led st b.valid b.fixed.typed b.bench y n p h v list has head c.args.rest.now.value rest s index is c.args.levels.now c.args.members.now are chosen here there j piece same lead c.index-members-count.result at
    c.tells_member.result (λ places. c.tells_member.ensures places view b rest y) c.if-tells_member.true w.1 c.in-Some.count w.0)

pub offset_bounds-members-count : goal.offset_bounds-members-count
offset_bounds-members-count c =
    let st = state_of c.requires.0 c.args.bench.now in
    let w = c.in-Some.ensures st in
    let e = w.0 in
    let p = own_some_numbers (numbers_in (remains st c.args.rest.now.value)) in
    let b = begin_within c.args.levels.now _ w.1 in
    let l = members_length st c.args.levels.now c.args.members.now c.requires.2.1 in
    let within : c.in-Some.count - 1 < length c.args.members.now = omega (arith, e, p, b, l) in
    search rules
