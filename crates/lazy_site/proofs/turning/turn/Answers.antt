use Rattle.std.proofs.Common.{◌∙◌, sym, subst}
use Rattle.lazy_plan.specs.Bench.{state_of}
use Rattle.lazy_site.proofs.PieceTurns.{rest_turns}
use Rattle.std.proofs.Common.{ap}
use Rattle.lazy_site.specs.Ids.{IsRest}
use Rattle.lazy_site.specs.Standing.{IsLeftIn}
use Rattle.lazy_site.specs.Heights.{rest_rank}
use Rattle.lazy_site.proofs.Heads.{if_ok}
use Rattle.lazy_site.proofs.Heights.{rest_ranked}
use Rattle.lazy_site.proofs.turning.turn.Goals as goal

pub returns-in_ok-pieces-in-Pieces-clause-answer : goal.returns-in_ok-pieces-in-Pieces-clause-answer
returns-in_ok-pieces-in-Pieces-clause-answer g c =
    rest_turns (state_of (g.S.Sources.view c.args.s.now) c.args.bench.now) c.args.rest.now.value _ c.in-Pieces.ways _ c.in-Pieces.up.value c.in_ok-pieces-in-Pieces.field-0
    (sym c.deref-rest.ensures ∙ c.in-Pieces.is) c.requires.rest (c.in_ok-pieces-in-Pieces.ensures.answer (g.S.Sources.view c.args.s.now) c.requires.bench)

pub returns-in_ok-pieces-in-Pieces-clause-rank : goal.returns-in_ok-pieces-in-Pieces-clause-rank
returns-in_ok-pieces-in-Pieces-clause-rank g c =
    rest_ranked c.args.rest.now.value c.in-Pieces.up.value c.in-Pieces.op c.in_ok-pieces-in-Pieces.field-0 (ap rest_rank (sym c.deref-rest.ensures ∙ c.in-Pieces.is)) c.in_ok-pieces-in-Pieces.ensures.rank

pub returns-in-Members-clause-rank : goal.returns-in-Members-clause-rank
returns-in-Members-clause-rank g c =
    if_ok c.members.result _ _ (λ t h. rest_ranked c.args.rest.now.value c.in-Members.up.value c.in-Members.op t (ap rest_rank (sym c.deref-rest.ensures ∙ c.in-Members.is)) h) c.members.ensures.rank

pub returns-in-Group-clause-rank : goal.returns-in-Group-clause-rank
returns-in-Group-clause-rank g c =
    if_ok c.group.result _ _ (λ t h. rest_ranked c.args.rest.now.value c.in-Group.up.value c.in-Group.op t (ap rest_rank (sym c.deref-rest.ensures ∙ c.in-Group.is)) h) c.group.ensures.rank

pub returns-in-Members-clause-list : goal.returns-in-Members-clause-list
returns-in-Members-clause-list g c =
    let old = state_of (g.S.Sources.view c.args.s.now) c.args.bench.now in
    if_ok c.members.result _ _ (λ t h n d list holder l. h _ n d list holder (subst (IsLeftIn old n d list) (sym c.deref-rest.ensures ∙ c.in-Members.is) l)) c.members.ensures.list

pub returns-in-Group-clause-list : goal.returns-in-Group-clause-list
returns-in-Group-clause-list g c =
    let old = state_of (g.S.Sources.view c.args.s.now) c.args.bench.now in
    if_ok c.group.result _ _ (λ t h n d list holder l. h _ n d list holder (subst (IsLeftIn old n d list) (sym c.deref-rest.ensures ∙ c.in-Group.is) l)) c.group.ensures.list

pub returns-in_ok-pieces-in-Pieces-clause-list : goal.returns-in_ok-pieces-in-Pieces-clause-list
returns-in_ok-pieces-in-Pieces-clause-list g c = λ n d list holder l.
    let st = state_of (g.S.Sources.view c.args.s.now) c.args.bench.now in
    let e = sym c.deref-rest.ensures ∙ c.in-Pieces.is in
    let i = subst (IsRest st) e c.requires.rest in
    c.in_ok-pieces-in-Pieces.ensures.list (g.S.Sources.view c.args.s.now) c.requires.bench (record { stands = i.0; next = i.1; along = i.2; after = i.3 })
    n d list _ holder (subst (IsLeftIn st n d list) e l)
