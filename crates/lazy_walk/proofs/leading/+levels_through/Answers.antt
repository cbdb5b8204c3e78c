use Rattle.std.proofs.Common.{◌≡◌, ◌∙◌, ℕ, List, refl, sym, subst, length}
use Rattle.plan_evidence.specs.Remains.{numbers_in}
use Rattle.plan_levels.specs.Entered.{numbers_of}
use Rattle.lazy_site.specs.Standing.{remains}
use Rattle.lazy_site.specs.declared.sites.Rest.{Rest, End}
use Rattle.lazy_walk.specs.Leading.{BeginWith, BeginsThrough}
use Rattle.lazy_walk.proofs.Numbers.{begin_front, numbers_next}
use Rattle.lazy_walk.proofs.leading.+levels_through.Goals as goal

pub returns-in-End : goal.returns-in-End
returns-in-End t c = λ st.
    (let e : c.args.rest.now.value ≡ End = sym c.deref-rest.ensures ∙ c.in-End.is in
    subst (λ (r : Rest). (0 ≡ length (numbers_in (remains st r))) × BeginWith (numbers_in (remains st r)) c.args.levels.now) (sym e) (refl, (numbers_of c.args.levels.now, refl)))

pub returns-in-None : goal.returns-in-None
returns-in-None t c = λ st b.
    (let e = numbers_next st (sym c.deref-rest.ensures ∙ c.in-Pieces.is) in
    c.in-None.ensures st (begin_front c.args.levels.now (numbers_in (remains st c.in-Pieces.up.value)) c.in-Pieces.next (subst (λ (ns : List ℕ). BeginWith ns c.args.levels.now) e b)))

pub returns-in-Some : goal.returns-in-Some
returns-in-Some t c = λ st.
    (let e = numbers_next st (sym c.deref-rest.ensures ∙ c.in-Pieces.is) in
    let w = c.in-Some.ensures st in
    subst (λ (ns : List ℕ). BeginsThrough ns c.args.levels.now c.levels_with.result) (sym e) (c.levels_with.ensures (numbers_in (remains st c.in-Pieces.up.value)) w.0 w.1))
