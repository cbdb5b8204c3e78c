-- The tuples of a body, filtered and sorted, are its bindings.
use Rattle.std.proofs.Common.{ℕ, List, [], ◌∷◌, refl, subst}
use Rattle.xmas_rule.specs.Conditions.{Binder, flat, binders, comparisons, components}
use Rattle.xmas_rule.specs.Rules.{RuleValue, IsAccepted}
use Rattle.xmas_rule.specs.Bindings.{Binding, Binds, AreBindings}
use Rattle.xmas_rule.proofs.Components.{AreApart, components-apart, components_each, each_components, apart-scoped, no_vars, nothing_apart}
use Rattle.xmas_rule.proofs.SortLaws.{among-passing, among_passing, passing-ascends, among-order, order-ascends}
use Rattle.xmas_rule.proofs.TupleLaws.{vars_of, tuples-ascend, AreScoped, Exact, tuples-exact, exact_none}
use Rattle.xmas_rule.specs.Law.{TuplesAreBindings}
use Rattle.xmas_rule.proofs.ReachLaws.{components_reach}
use Rattle.xmas_rule.specs.Tuples.{tuples, passing, in_order_of}
use Rattle.mix_tree.specs.Nodes.{Documents}
use Rattle.xmas_rule.specs.Tuples.{MatchLists, AreMatchLists}

-- the tuples of the body, filtered and sorted, are its bindings
pub bindings_ok : (docs : Documents) (lists : MatchLists) (sources : ℕ) (r : RuleValue) → AreMatchLists docs lists → IsAccepted sources r → AreApart (components r.conds) →
    AreBindings docs r.conds r.order (in_order_of docs r.order (passing docs (comparisons r.conds) (tuples lists ([] ∷ []) (flat (components r.conds)))))
unfolding Exact vars_of
bindings_ok docs lists sources r d a apart =
    let ds : List Binder = flat (components r.conds) in
    let all : List Binding = tuples lists ([] ∷ []) ds in
    let ts = comparisons r.conds in
    let scoped : AreScoped [] ds = apart-scoped (components r.conds) [] apart (λ v h. refl) in
    let exact : Exact docs ds all = tuples-exact docs lists d ds [] ([] ∷ []) tt scoped (exact_none docs) in
    record {
      ascending = order-ascends docs r.order (passing docs ts all) (passing-ascends docs ts all (tuples-ascend docs lists ds ([] ∷ []) d (tt, tt)));
      exactly = λ b. (
        (λ m.
            let p = among-passing docs ts b all ((among-order docs r.order b (passing docs ts all)).0 m) in
            let s = (exact b).0 p.0 in
            record { vars = s.vars; bound = (each_components (Binds docs b) (binders r.conds) [] [] no_vars a.bound s.each).1; compared = p.1 }),
        (λ s.
            let q = components_each (Binds docs b) (binders r.conds) [] [] no_vars a.bound tt s.bound in
            (among-order docs r.order b (passing docs ts all)).1
            (among_passing docs ts b all ((exact b).1 (record { vars = s.vars; each = q })) s.compared)),
      );
    }

-- the tuples of the components that a walk after each source condition finds, filtered and sorted, are the body's bindings
pub tuples_bind : TuplesAreBindings
tuples_bind docs lists sources r are a =
    let apart : AreApart (components r.conds) = components-apart (binders r.conds) [] [] no_vars a.bound nothing_apart in
    let found = components_reach (binders r.conds) [] [] no_vars a.bound nothing_apart in
    subst (λ (z : List (List Binder)). AreBindings docs r.conds r.order (in_order_of docs r.order (passing docs (comparisons r.conds) (tuples lists ([] ∷ []) (flat z)))))
    found (bindings_ok docs lists sources r are a apart)
