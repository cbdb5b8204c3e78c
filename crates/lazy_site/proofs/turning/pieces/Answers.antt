use Rattle.std.proofs.Common.{◌≡◌, ℕ, length, refl, ◌∙◌, sym, ap, subst, arith}
use Rattle.plan_core.specs.declared.plan.Plan.{Plan}
use Rattle.plan_core.specs.PlanMade.{plan_value}
use Rattle.plan_core.specs.ByNumber.{op_at}
use Rattle.lazy_plan.specs.Bench.{state_of, ops_of, IsCursor}
use Rattle.plan_forms.specs.Forms.{input_at, pieces_of, piece_at, makes_list, makes_element}
use Rattle.lazy_site.specs.Ids.{IsRest}
use Rattle.lazy_site.specs.declared.sites.Rest.{Rest}
use Rattle.lazy_site.proofs.Heads.{if_ok}
use Rattle.lazy_site.specs.Heights.{rest_rank, KeepsRank}
use Rattle.lazy_site.proofs.Heights.{origin_ranked, put_ranked, member_ranked}
use Rattle.lazy_site.proofs.PieceTurns.{there_is, var_turned, var_fallen, head_stands, head_falls, rest_on, over_pieces}
use Rattle.lazy_site.proofs.PiecesIn.{origin_over, over_left, later_below, later_next, head_in}
use Rattle.std.proofs.lemmas.Grind.{common_steps}
use Rattle.lazy_site.proofs.turning.pieces.Goals as goal

pub returns-in_ok-after-in-Var-clause-answer : goal.returns-in_ok-after-in-Var-clause-answer
returns-in_ok-after-in-Var-clause-answer c =
    let b = c.in_ok-after-in-Var.ensures in
    if_ok c.enter.result _ _
    (λ t k view h i.
    let st = state_of view c.args.bench.now in
    let f = c.in_ok-found-in-Var.ensures view h (input_at (ops_of st) c.args.from.now.op) c.args.from.now.at.now i.stands.cursor i.along in
    var_turned st c.args.from.now.op c.args.from.now.next c.args.from.now.at.now c.args.up.now.value (there_is _ _ _ _ i.next c.count_pieces.ensures (ap (λ (p : Plan). length (pieces_of (op_at (plan_value p).ops c.args.from.now.op))) c.plan.ensures) c.if-from-count_pieces.false) i.stands i.after b.count
    c.in_ok-found-in-Var.found.ways f.1 c.in-Var.v c.in_ok-found-in-Var.found.origin (input_at (ops_of st) c.args.from.now.op) refl (sym (c.piece.ensures ∙ ap (λ (p : Plan). piece_at (plan_value p).ops c.args.from.now.op c.args.from.now.next) c.plan-2.ensures) ∙ c.in-Var.is)
    f.0 c.in_ok-after-in-Var.after.value b.is t (k view h))
    c.enter.ensures.answer

pub returns-in_ok-after-in-Var-clause-left : goal.returns-in_ok-after-in-Var-clause-left
returns-in_ok-after-in-Var-clause-left c =
    let b = c.in_ok-after-in-Var.ensures in
    if_ok c.enter.result _ _
    (λ t k view h i.
    let st = state_of view c.args.bench.now in
    let f = c.in_ok-found-in-Var.ensures view h (input_at (ops_of st) c.args.from.now.op) c.args.from.now.at.now i.stands.cursor i.along in
    var_fallen st c.args.from.now.op c.args.from.now.next c.args.from.now.at.now c.args.up.now.value (there_is _ _ _ _ i.next c.count_pieces.ensures (ap (λ (p : Plan). length (pieces_of (op_at (plan_value p).ops c.args.from.now.op))) c.plan.ensures) c.if-from-count_pieces.false) i.stands i.after b.count
    c.in_ok-found-in-Var.found.ways f.1 c.in-Var.v c.in_ok-found-in-Var.found.origin (input_at (ops_of st) c.args.from.now.op) refl (sym (c.piece.ensures ∙ ap (λ (p : Plan). piece_at (plan_value p).ops c.args.from.now.op c.args.from.now.next) c.plan-2.ensures) ∙ c.in-Var.is)
    f.0 c.in_ok-after-in-Var.after.value b.is t (k view h))
    c.enter.ensures.left

pub returns-in_ok-after-in-Var-clause-rank : goal.returns-in_ok-after-in-Var-clause-rank
returns-in_ok-after-in-Var-clause-rank c =
    let b = c.in_ok-after-in-Var.ensures in let view = c.requires.bench.0 in let i = c.requires.bench.2 in let st = state_of view c.args.bench.now in
    let f = c.in_ok-found-in-Var.ensures view c.requires.bench.1 (input_at (ops_of st) c.args.from.now.op) c.args.from.now.at.now i.stands.cursor i.along in
    let o = f.0 in
    let l = origin_ranked (ops_of st) c.requires.bench.1.fixed.typed c.args.from.now.op (input_at (ops_of st) c.args.from.now.op) c.args.from.now.next i.stands.within (there_is _ _ _ _ i.next c.count_pieces.ensures (ap (λ (p : Plan). length (pieces_of (op_at (plan_value p).ops c.args.from.now.op))) c.plan.ensures) c.if-from-count_pieces.false)
    refl c.in_ok-found-in-Var.found.origin o.rank in
    if_ok c.enter.result _ (KeepsRank c.args.from.now.op c.args.up.now.value)
    (λ t h k m n. h k (omega (arith, l, m)) (put_ranked c.in_ok-after-in-Var.after.value c.args.up.now.value c.args.from.now.op k (ap rest_rank b.is) m n)) c.enter.ensures.rank

pub returns-in_ok-rest-in_default : goal.returns-in_ok-rest-in_default
returns-in_ok-rest-in_default c =
    let b = c.in_ok-rest-in_default.ensures in let k = c.in_ok-again-in_default.ensures in
    record {
      answer = λ view h i.
          let st = state_of view c.args.bench.now in
          head_stands st c.args.from.now.op c.args.from.now.next c.args.from.now.at.now c.args.up.now.value (there_is _ _ _ _ i.next c.count_pieces.ensures (ap (λ (p : Plan). length (pieces_of (op_at (plan_value p).ops c.args.from.now.op))) c.plan.ensures) c.if-from-count_pieces.false) i.stands i.after b.count
          c.in_ok-again-in_default.field-0 (k.0 st (input_at (ops_of st) c.args.from.now.op) c.args.from.now.at.now i.along.0, k.1 st (input_at (ops_of st) c.args.from.now.op) c.args.from.now.at.now i.along.1) c.in_ok-head-in_default.head (c.in_ok-head-in_default.ensures view h (subst (λ (n : ℕ). IsCursor st n c.args.from.now.at.now) (sym (c.input_of-input.ensures ∙ ap (λ (p : Plan). input_at (plan_value p).ops c.args.from.now.op) c.plan-in_default.ensures)) i.stands.cursor)) c.in_ok-rest-in_default.rest b.is;
      left = λ view h i.
          let st = state_of view c.args.bench.now in
          head_falls st c.args.from.now.op c.args.from.now.next c.args.from.now.at.now c.args.up.now.value (there_is _ _ _ _ i.next c.count_pieces.ensures (ap (λ (p : Plan). length (pieces_of (op_at (plan_value p).ops c.args.from.now.op))) c.plan.ensures) c.if-from-count_pieces.false) i.stands i.after b.count
          c.in_ok-again-in_default.field-0 (k.0 st (input_at (ops_of st) c.args.from.now.op) c.args.from.now.at.now i.along.0, k.1 st (input_at (ops_of st) c.args.from.now.op) c.args.from.now.at.now i.along.1) c.in_ok-head-in_default.head (c.in_ok-head-in_default.ensures view h (subst (λ (n : ℕ). IsCursor st n c.args.from.now.at.now) (sym (c.input_of-input.ensures ∙ ap (λ (p : Plan). input_at (plan_value p).ops c.args.from.now.op) c.plan-in_default.ensures)) i.stands.cursor))
          (λ v e. c.in_default.not-Var v (c.piece.ensures ∙ ap (λ (p : Plan). piece_at (plan_value p).ops c.args.from.now.op c.args.from.now.next) c.plan-2.ensures ∙ e)) c.in_ok-rest-in_default.rest.value b.is;
      rank = (let view = c.requires.bench.0 in let h = c.requires.bench.1 in let i = c.requires.bench.2 in let st = state_of view c.args.bench.now in
          let x = (c.in_ok-head-in_default.ensures view h (subst (λ (n : ℕ). IsCursor st n c.args.from.now.at.now) (sym (c.input_of-input.ensures ∙ ap (λ (p : Plan). input_at (plan_value p).ops c.args.from.now.op) c.plan-in_default.ensures)) i.stands.cursor)) in
          member_ranked c.in_ok-head-in_default.head c.in_ok-rest-in_default.rest c.args.from.now.op c.args.up.now.value x.rank (ap rest_rank b.is));
      list = λ view h i n d list q holder l.
          let st = state_of view c.args.bench.now in
          let op = c.args.from.now.op in
          let input = c.input_of-input.ensures ∙ ap (λ (p : Plan). input_at (plan_value p).ops op) c.plan-in_default.ensures in
          head_in st n d list op c.args.from.now.next c.args.from.now.at.now c.args.ways.now q c.args.up.now.value l c.in_ok-head-in_default.head
          (there_is _ _ _ _ i.next c.count_pieces.ensures (ap (λ (p : Plan). length (pieces_of (op_at (plan_value p).ops c.args.from.now.op))) c.plan.ensures) c.if-from-count_pieces.false)
          (c.in_ok-head-in_default.ensures view h (subst (λ (m : ℕ). IsCursor st m c.args.from.now.at.now) (sym input) i.stands.cursor))
          (λ v e. c.in_default.not-Var v (c.piece.ensures ∙ ap (λ (p : Plan). piece_at (plan_value p).ops op c.args.from.now.next) c.plan-2.ensures ∙ e)) _ b.count c.in_ok-rest-in_default.rest.value b.is;
    }

pub returns-in_ok-after-in-Var-clause-list : goal.returns-in_ok-after-in-Var-clause-list
returns-in_ok-after-in-Var-clause-list c =
    let b = c.in_ok-after-in-Var.ensures in
    if_ok c.enter.result _ _
    (λ t k view h i n d list q holder l.
    let st = state_of view c.args.bench.now in
    let op = c.args.from.now.op in
    let at = c.args.from.now.at.now in
    let f = c.in_ok-found-in-Var.ensures view h (input_at (ops_of st) op) at i.stands.cursor i.along in
    let there = (there_is _ _ _ _ i.next c.count_pieces.ensures (ap (λ (p : Plan). length (pieces_of (op_at (plan_value p).ops c.args.from.now.op))) c.plan.ensures) c.if-from-count_pieces.false) in
    let is = sym (c.piece.ensures ∙ ap (λ (p : Plan). piece_at (plan_value p).ops op c.args.from.now.next) c.plan-2.ensures) ∙ c.in-Var.is in
    k view h n d c.in-Var.v list holder (origin_over st n (input_at (ops_of st) op) d at c.in-Var.v c.in_ok-found-in-Var.found.origin l.below.0 f.0)
    (later_below st n d list op c.args.from.now.next at c.args.ways.now q c.args.up.now.value l _ b.count c.in_ok-after-in-Var.after.value b.is)
    (later_next st n d list op c.args.from.now.next at c.args.ways.now q c.args.up.now.value l c.in-Var.v there is _ b.count c.in_ok-after-in-Var.after.value b.is))
    c.enter.ensures.list

pub returns-then-from-count_pieces-clause-list : goal.returns-then-from-count_pieces-clause-list
returns-then-from-count_pieces-clause-list c = λ view h i n d list q holder l.
    over_left (state_of view c.args.bench.now) n d list c.args.from.now.op c.args.from.now.next c.args.from.now.at.now c.args.ways.now q c.args.up.now.value l c.in_ok-share.field-0.value c.in_ok-share.ensures

pub enter-requires : goal.enter-requires
enter-requires c =
    let b = c.in_ok-after-in-Var.ensures in let view = c.requires.bench.0 in let i = c.requires.bench.2 in let st = state_of view c.args.bench.now in
    let f = c.in_ok-found-in-Var.ensures view c.requires.bench.1 (input_at (ops_of st) c.args.from.now.op) c.args.from.now.at.now i.stands.cursor i.along in
    record {
      bench = (
        view,
        c.requires.bench.1,
        (
          f.0.origin,
          subst (λ (r : Rest). IsRest st r) (sym b.is)
              (rest_on st c.args.from.now.op c.args.from.now.next c.args.from.now.at.now c.args.up.now.value (there_is _ _ _ _ i.next c.count_pieces.ensures (ap (λ (p : Plan). length (pieces_of (op_at (plan_value p).ops c.args.from.now.op))) c.plan.ensures) c.if-from-count_pieces.false) i.stands i.after b.count c.in_ok-found-in-Var.found.ways f.1),
        ),
      );
    }

pub returns-then-from-count_pieces-clause-answer : goal.returns-then-from-count_pieces-clause-answer
returns-then-from-count_pieces-clause-answer c = λ view h i.
    over_pieces (state_of view c.args.bench.now) c.args.from.now.op c.args.from.now.next c.args.from.now.at.now c.args.up.now.value c.in_ok-share.field-0.value
    (c.if-from-count_pieces.true ∙ c.count_pieces.ensures ∙ ap (λ (p : Plan). length (pieces_of (op_at (plan_value p).ops c.args.from.now.op))) c.plan.ensures) c.in_ok-share.ensures i.after

pub count_pieces-requires-clause-op : goal.count_pieces-requires-clause-op
count_pieces-requires-clause-op c = let i = c.requires.bench.2 in rw c.plan.ensures i.stands.within

pub count_pieces-requires-clause-list : goal.count_pieces-requires-clause-list
count_pieces-requires-clause-list c = let i = c.requires.bench.2 in rw c.plan.ensures i.stands.is

pub piece-requires-clause-op : goal.piece-requires-clause-op
piece-requires-clause-op c = let i = c.requires.bench.2 in rw c.plan-2.ensures i.stands.within

pub piece-requires-clause-index : goal.piece-requires-clause-index
piece-requires-clause-index c = let i = c.requires.bench.2 in rw c.plan-2.ensures (there_is _ _ _ _ i.next c.count_pieces.ensures (ap (λ (p : Plan). length (pieces_of (op_at (plan_value p).ops c.args.from.now.op))) c.plan.ensures) c.if-from-count_pieces.false)

pub piece-requires-clause-written : goal.piece-requires-clause-written
piece-requires-clause-written c = let i = c.requires.bench.2 in rw c.plan-2.ensures (λ e. let z : makes_list ≡ makes_element = sym i.stands.is ∙ e in cc)

pub input_of-input-requires : goal.input_of-input-requires
input_of-input-requires c = let i = c.requires.bench.2 in rw c.plan-in_default.ensures i.stands.within

pub head_of-requires : goal.head_of-requires
head_of-requires c =
    let i = c.requires.bench.2 in
    record {
      op = i.stands.within;
      index = (there_is _ _ _ _ i.next c.count_pieces.ensures (ap (λ (p : Plan). length (pieces_of (op_at (plan_value p).ops c.args.from.now.op))) c.plan.ensures) c.if-from-count_pieces.false);
      input = (c.input_of-input.ensures ∙ ap (λ (p : Plan). input_at (plan_value p).ops c.args.from.now.op) c.plan-in_default.ensures);
      bench = (c.requires.bench.0, c.requires.bench.1, subst (λ (n : ℕ). IsCursor (state_of c.requires.bench.0 c.args.bench.now) n c.args.from.now.at.now) (sym (c.input_of-input.ensures ∙ ap (λ (p : Plan). input_at (plan_value p).ops c.args.from.now.op) c.plan-in_default.ensures)) i.stands.cursor);
      written = (λ e. let z : makes_list ≡ makes_element = sym i.stands.is ∙ e in cc);
      one = grind (arith, common_steps);
    }
