-- What is known of operators tells the profiles of a plan.
use Rattle.std.proofs.Common.{ℕ, List, ap, ◌∙◌, arith, length}
use Rattle.std.specs.Prelude.{slice_index_or}
use Rattle.std.proofs.Math.ListN.{get_or-map}
use Rattle.plan_core.specs.Plans.{PlanValue}
use Rattle.plan_core.specs.Typed.{IsTyped}
use Rattle.plan_core.specs.Valid.{a_list, IsValid}
use Rattle.browse_profile.specs.declared.profile.Profile.{Profile}
use Rattle.browse_profile.specs.Profiles.{costless}
use Rattle.browse_visit.specs.declared.shape.Shape.{Shape}
use Rattle.plan_class.specs.Agree.{AreKnown, known_below}
use Rattle.plan_class.specs.Known.{Known, no_known}
use Rattle.plan_class.specs.Profiles.{AreOfKnown, AreProfiles}
use Rattle.plan_class.specs.declared.domain.Domain.{Domain}
use Rattle.plan_class.specs.declared.profiles.Profiles.{Profiles}
use Rattle.plan_class.proofs.ClassIs.{are_known}
use Rattle.plan_class.proofs.Origins.{trees_known}
use Rattle.plan_class.proofs.VarDomains.{domains_are}

module _ (shapes : List Shape) (p : PlanValue) (valid : IsValid p) (typed : IsTyped p.ops) (ps : Profiles) (of : AreOfKnown (known_below shapes p.ops (length p.ops)) ps) where
  -- what is known of all operators
  abbrev known : List Known
  known = known_below shapes p.ops (length p.ops)

  -- all operators are known
  all_known : AreKnown shapes p.ops known (length p.ops)
  all_known = are_known shapes p valid typed (length p.ops) (omega arith)

  -- the profiles by what is known are the plan's
  pub profiles_are : AreProfiles shapes p.ops ps
  profiles_are = record {
    events = λ n b.
        ap (λ (xs : List Profile). slice_index_or xs n costless) of.events
        ∙ get_or-map (λ (k : Known). k.profile) known n no_known
        ∙ (all_known.each n b).profile;
    lists = λ n v b e.
        ap (λ (at : ℕ → Domain). (at v).trees) (domains_are ps.domains known of.domains)
        ∙ trees_known shapes p valid typed known (length p.ops) (omega arith) all_known n v a_list b e;
  }
