-- A map of domains has those of the first operators that bind variables anew.
use Rattle.std.proofs.Common.{◌≡◌, ◌∙◌, ◌==◌, ◌++◌, ℕ, true, false, cond, List, [], ◌∷◌, Option, Some, None, refl, sym, ap}
use Rattle.std.proofs.Math.Path.{fun_ext}
use Rattle.std.specs.BTreeMap.{get}
use Rattle.std.specs.Prelude.{Result, Ok, Err, OnOk}
use Rattle.std.specs.Option.{option_or}
use Rattle.std.specs.Ordering.{nat_cmp}
use Rattle.plan_class.specs.Known.{Known, binds, domain_of}
use Rattle.plan_class.specs.VarDomains.{found_or_value, domain_in, found_in, AreDomains}
use Rattle.plan_class.specs.declared.domain.Domain.{Domain}
use Rattle.plan_class.specs.declared.domains.Domains.{Domains}

-- what was found is what the values of the variable can be
found_is : (known : List Known) (v : ℕ) → found_or_value (found_in known v) ≡ domain_of known v
found_is [] v = refl
found_is (k ∷ known) v =
    elim (binds k.out v) as (λ w. found_or_value (cond w (Some k.domain) (found_in known v)) ≡ cond w k.domain (domain_of known v)) [ true ↦ refl | false ↦ found_is known v ]

-- the map's domains are those of the operators
pub domains_are : (ds : Domains) (known : List Known) → AreDomains ds known → domain_in ds ≡ domain_of known
domains_are ds known h = fun_ext (λ v. ap found_or_value (h v) ∙ found_is known v)

-- the domain that an operator gives a variable: its own where it binds the variable anew, else none
abbrev own_domain : Known → ℕ → Option Domain
own_domain k v = cond (binds k.out v) (Some k.domain) None

-- with one operator more a variable has the domain that it had, or that of the last operator
found_more : (known : List Known) (k : Known) (v : ℕ) → found_in (known ++ k ∷ []) v ≡ option_or (found_in known v) (own_domain k v)
found_more [] k v = refl
found_more (x ∷ known) k v =
    elim (binds x.out v) as (λ w. cond w (Some x.domain) (found_in (known ++ k ∷ []) v) ≡ option_or (cond w (Some x.domain) (found_in known v)) (own_domain k v)) [
      | true ↦ refl
      | false ↦ found_more known k v
    ]

-- with an operator more that binds a variable anew, the map has what it binds where it had none
pub bound_more : (old new : Domains) (known : List Known) (k : Known) (out : ℕ) → k.out ≡ Some out
    → ((v : ℕ) → get nat_cmp new.vars v ≡ option_or (get nat_cmp old.vars v) (cond (out == v) (Some k.domain) None)) → AreDomains old known → AreDomains new (known ++ k ∷ [])
bound_more old new known k out e h are v =
    h v
    ∙ ap (λ (o : Option ℕ). option_or (get nat_cmp old.vars v) (cond (binds o v) (Some k.domain) None)) (sym e)
    ∙ ap (λ (d : Option Domain). option_or d (own_domain k v)) (are v)
    ∙ sym (found_more known k v)

-- a choice between an option and none is the option
or_none : (d : Option Domain) → d ≡ option_or d None
or_none None = refl
or_none (Some d) = refl

-- with an operator more that binds no variable anew, the map stays
pub unbound_more : (ds : Domains) (known : List Known) (k : Known) → k.out ≡ None → AreDomains ds known → AreDomains ds (known ++ k ∷ [])
unbound_more ds known k e are v =
    are v
    ∙ or_none (found_in known v)
    ∙ ap (λ (o : Option ℕ). option_or (found_in known v) (cond (binds o v) (Some k.domain) None)) (sym e)
    ∙ sym (found_more known k v)

-- what follows from what holds on success holds on success
pub on_ok : {A E P Q : Type 0} (r : Result A E) → (P → Q) → OnOk r P → OnOk r Q
on_ok (Ok x) f h = f h
on_ok (Err e) f h = tt
