use Rattle.std.proofs.Common.{[], ◌∷◌, ◌++◌, subst}
use Rattle.plan_class.specs.Known.{Known}
use Rattle.plan_class.specs.VarDomains.{AreDomains}
use Rattle.plan_class.proofs.VarDomains.{bound_more, unbound_more, on_ok}
use Rattle.plan_class.proofs.domains.Domains.push.Goals as goal

pub returns-in-Some : goal.returns-in-Some
returns-in-Some c = λ known are.
    on_ok c.add.result
    (λ h. subst (λ (k : Known). AreDomains c.add.new.self (known ++ k ∷ [])) c.one.view_is (bound_more c.args.self.now c.add.new.self known _ c.in-Some.out c.in-Some.is h are))
    c.add.ensures

pub returns-in-None : goal.returns-in-None
returns-in-None c = λ known are.
    subst (λ (k : Known). AreDomains c.args.self.now (known ++ k ∷ [])) c.one.view_is (unbound_more c.args.self.now known _ c.in-None.is are)
