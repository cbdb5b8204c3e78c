-- The map says where the nodes of variables lie by what is known of the operators.
use Rattle.std.proofs.Common.{◌≡◌, ◌∙◌, ◌==◌, ◌++◌, ℕ, suc, true, false, cond, List, [], ◌∷◌, Option, Some, None, refl, sym, ap}
use Rattle.std.proofs.Math.Path.{fun_ext}
use Rattle.std.specs.BTreeMap.{get}
use Rattle.std.specs.Option.{option_map, option_or}
use Rattle.std.specs.Ordering.{nat_cmp}
use Rattle.plan_core.specs.ByNumber.{op_at}
use Rattle.plan_core.specs.Fronts.{Front, front}
use Rattle.plan_core.specs.Plans.{Operator}
use Rattle.plan_core.specs.Shapes.{filters, extends, first_by_keys, one_group, in_order, Shape, one_source, visits_below, pairs_up, passes_on, no_events, shape_at}
use Rattle.browse_visit.specs.declared.shape.Shape.{Shape as SourceShape}
use Rattle.plan_class.specs.declared.domain.Domain.{Domain}
use Rattle.plan_class.specs.Agree.{known_below}
use Rattle.plan_class.specs.Known.{Known, binds, domain_of, known_at, shape_known, op_known}
use Rattle.plan_class.specs.VarDomains.{found_in}
use Rattle.unsatisfiable_paths.specs.declared.domains.NodeDomain.{NodeDomain}
use Rattle.unsatisfiable_paths.specs.declared.domains.NodeDomains.{NodeDomains}
use Rattle.unsatisfiable_paths.specs.NodeDomains.{nodes_of, shape_bound, bound_at, found_or_none, nodes_in, AreNodeDomains}

-- what was found of a variable is where its nodes lie
found_is : (known : List Known) (v : ℕ) → found_or_none (option_map nodes_of (found_in known v)) ≡ nodes_of (domain_of known v)
found_is [] v = refl
found_is (k ∷ known) v =
    elim (binds k.out v) as (λ w. found_or_none (option_map nodes_of (cond w (Some k.domain) (found_in known v))) ≡ nodes_of (cond w k.domain (domain_of known v))) [
      | true ↦ refl
      | false ↦ found_is known v
    ]

-- the map says where nodes lie as what is known of the operators does
pub nodes_are : (ds : NodeDomains) (known : List Known) → AreNodeDomains ds known → nodes_in ds ≡ (λ v. nodes_of (domain_of known v))
nodes_are ds known h = fun_ext (λ v. ap found_or_none (h v) ∙ found_is known v)

-- the variable that an operator binds anew of which this is known, and where its nodes lie
abbrev known_bound : Known → Option (ℕ × NodeDomain)
known_bound k = option_map (λ out. (out, nodes_of k.domain)) k.out

-- a shape binds anew what is known of it
bound_known : (shapes : List SourceShape) (frs : ℕ → Front) (domains : ℕ → Domain) (at : ℕ → Known) (f : Shape) → shape_bound shapes (λ v. nodes_of (domains v)) f ≡ known_bound (shape_known shapes frs domains at f)
bound_known shapes frs domains at (one_source s out) = refl
bound_known shapes frs domains at (visits_below input start path out) = refl
bound_known shapes frs domains at (pairs_up left right tests) = refl
bound_known shapes frs domains at (passes_on input (filters test)) = refl
bound_known shapes frs domains at (passes_on input (extends out made)) = refl
bound_known shapes frs domains at (passes_on input (first_by_keys keys None)) = refl
bound_known shapes frs domains at (passes_on input (first_by_keys keys (Some group))) = refl
bound_known shapes frs domains at (passes_on input (one_group piece out)) = refl
bound_known shapes frs domains at (passes_on input (in_order v desc)) = refl
bound_known shapes frs domains at (no_events input made) = refl

-- what one operator says of a variable
own_found : (out : Option ℕ) (d : Domain) (v : ℕ) → option_map nodes_of (cond (binds out v) (Some d) None) ≡ bound_at (option_map (λ (w : ℕ). (w, nodes_of d)) out) v
own_found None d v = refl
own_found (Some out) d v = elim (out == v) as (λ w. option_map nodes_of (cond w (Some d) None) ≡ cond w (Some (nodes_of d)) None) [ true ↦ refl | false ↦ refl ]

-- with one operator more the nodes of a variable lie where they lay, or where the last operator says
found_more : (known : List Known) (k : Known) (v : ℕ) → option_map nodes_of (found_in (known ++ k ∷ []) v) ≡ option_or (option_map nodes_of (found_in known v)) (bound_at (known_bound k) v)
found_more [] k v = own_found k.out k.domain v
found_more (x ∷ known) k v =
    elim (binds x.out v)
    as (λ w. option_map nodes_of (cond w (Some x.domain) (found_in (known ++ k ∷ []) v)) ≡ option_or (option_map nodes_of (cond w (Some x.domain) (found_in known v))) (bound_at (known_bound k) v)) [
      | true ↦ refl
      | false ↦ found_more known k v
    ]

-- with what the next operator binds anew, the map says where nodes lie by one operator more
pub domains_more : (shapes : List SourceShape) (ops : List Operator) (n : ℕ) (old new : NodeDomains) → AreNodeDomains old (known_below shapes ops n)
    → ((v : ℕ) → get nat_cmp new.vars v ≡ option_or (get nat_cmp old.vars v) (bound_at (shape_bound shapes (nodes_in old) (shape_at ops n)) v)) → AreNodeDomains new (known_below shapes ops (suc n))
domains_more shapes ops n old new are h v =
    let known = known_below shapes ops n in
    let one = op_known shapes (front ops) known (op_at ops n) in
    let bound : shape_bound shapes (nodes_in old) (shape_at ops n) ≡ known_bound one =
    ap (λ (of : ℕ → NodeDomain). shape_bound shapes of (shape_at ops n)) (nodes_are old known are)
    ∙ bound_known shapes (front ops) (domain_of known) (known_at known) (shape_at ops n)
    in
    h v
    ∙ ap (λ (d : Option NodeDomain). option_or d (bound_at (shape_bound shapes (nodes_in old) (shape_at ops n)) v)) (are v)
    ∙ ap (λ (b : Option (ℕ × NodeDomain)). option_or (option_map nodes_of (found_in known v)) (bound_at b v)) bound
    ∙ sym (found_more known one v)
