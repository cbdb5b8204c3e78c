-- The components of accepted conditions stand apart, and hold every condition.
use Rattle.std.proofs.Common.{◌≡◌, ℕ, Bool, true, false, cond, List, [], ◌∷◌, ◌++◌, refl, ◌∙◌, sym, ap, subst, inl, inr, append_assoc}
use Rattle.std.specs.List.{AllByRecursion}
use Rattle.std.specs.Prelude.{◌==◌, ◌||◌}
use Rattle.std.proofs.lemmas.Bool.{or_cases, eqb-true, eq-eqb, ne_eqb}
use Rattle.mix_base.proofs.Lists.{append_nil}
use Rattle.path_expr.specs.Form.{Form}
use Rattle.xmas_rule.specs.Conditions.{Binder, from_source, from_var, binder_var, binder_vars, has, add_to, with_binder, components_from, flat, AreBound}
use Rattle.xmas_rule.proofs.KeyLaws.{or_assoc, or_false, or_comm}
use Rattle.xmas_rule.proofs.Members.{each-append, each_append, snoc-append}
use Rattle.xmas_rule.proofs.TupleLaws.{has-append, Follows, AreScoped, binder_vars-append}
use Rattle.xmas_rule.specs.Reached.{source_of}

-- a condition of a component of this source
unfoldable pub FromSource : ℕ → Binder → Type 0
FromSource s (from_source t path var) = t ≡ s
FromSource s (from_var start path var) = Unit {0}

-- components as a rule has them: each of one source and by itself, no variable in two of them
unfoldable pub AreApart : List (List Binder) → Type 0
AreApart [] = Unit {0}
AreApart (comp ∷ comps) =
    AllByRecursion (FromSource (source_of comp)) comp × AreScoped [] comp × ((v : ℕ) → has (binder_vars comp) v ≡ true → has (binder_vars (flat comps)) v ≡ false) × AreApart comps

-- a variable is bound by one of two lists of conditions together where it is by either
pub has_flat : (a b : List Binder) (v : ℕ) → has (binder_vars (a ++ b)) v ≡ (has (binder_vars a) v || has (binder_vars b) v)
has_flat a b v = ap (λ (z : List ℕ). has z v) (binder_vars-append a b) ∙ has-append (binder_vars a) (binder_vars b) v

-- a variable is bound by conditions and one more where it is by them or by that one
has_snoc : (a : List Binder) (c : Binder) (v : ℕ) → has (binder_vars (a ++ c ∷ [])) v ≡ (has (binder_vars a) v || (binder_var c == v))
has_snoc a c v = has_flat a (c ∷ []) v ∙ ap (λ (x : Bool). has (binder_vars a) v || x) (or_false (binder_var c == v))

-- of three booleans in a disjunction the last two may change places
or_last : (a b c : Bool) → ((a || c) || b) ≡ ((a || b) || c)
or_last a b c = or_assoc a c b ∙ ap (λ (x : Bool). a || x) (or_comm c b) ∙ sym (or_assoc a b c)

-- with one more condition, the variables of the components are those before and the condition's own
new_vars : (c : Binder) (comps : List (List Binder)) → Follows (binder_vars (flat comps)) c → (v : ℕ) → has (binder_vars (flat (with_binder c comps))) v ≡ (has (binder_vars (flat comps)) v || (binder_var c == v))
unfolding Follows
new_vars (from_source s path var) comps f v = snoc_vars (from_source s path var) comps v
  where
    snoc_vars : (c : Binder) (comps : List (List Binder)) (v : ℕ) → has (binder_vars (flat (comps ++ (c ∷ []) ∷ []))) v ≡ (has (binder_vars (flat comps)) v || (binder_var c == v))
    snoc_vars c [] v = or_false (binder_var c == v)
    snoc_vars c (comp ∷ comps) v =
        has_flat comp (flat (comps ++ (c ∷ []) ∷ [])) v ∙ ap (λ (x : Bool). has (binder_vars comp) v || x) (snoc_vars c comps v)
        ∙ sym (or_assoc (has (binder_vars comp) v) (has (binder_vars (flat comps)) v) (binder_var c == v)) ∙ ap (λ (x : Bool). x || (binder_var c == v)) (sym (has_flat comp (flat comps) v))
new_vars (from_var x path var) comps f v = add_vars (from_var x path var) x comps f.0 v
  where
    add_vars : (c : Binder) (x : ℕ) (comps : List (List Binder)) → has (binder_vars (flat comps)) x ≡ true → (v : ℕ) → has (binder_vars (flat (add_to c x comps))) v ≡ (has (binder_vars (flat comps)) v || (binder_var c == v))
    add_vars c x [] h v = cc
    add_vars c x (comp ∷ comps) h v =
        elim (has (binder_vars comp) x) as (λ w. (w || has (binder_vars (flat comps)) x) ≡ true → has (binder_vars (flat (cond w ((comp ++ c ∷ []) ∷ comps) (comp ∷ add_to c x comps)))) v ≡ (has (binder_vars (comp ++ flat comps)) v || (binder_var c == v))) [
          | true ↦ λ e. has_flat (comp ++ c ∷ []) (flat comps) v ∙ ap (λ (z : Bool). z || has (binder_vars (flat comps)) v) (has_snoc comp c v)
              ∙ or_last (has (binder_vars comp) v) (has (binder_vars (flat comps)) v) (binder_var c == v) ∙ ap (λ (z : Bool). z || (binder_var c == v)) (sym (has_flat comp (flat comps) v))
          | false ↦ λ e. has_flat comp (flat (add_to c x comps)) v ∙ ap (λ (z : Bool). has (binder_vars comp) v || z) (add_vars c x comps e v)
              ∙ sym (or_assoc (has (binder_vars comp) v) (has (binder_vars (flat comps)) v) (binder_var c == v)) ∙ ap (λ (z : Bool). z || (binder_var c == v)) (sym (has_flat comp (flat comps) v))
        ]
        (sym (has_flat comp (flat comps) x) ∙ h)

-- what holds of the conditions of components and of one more holds of all of them with that one
each_with : (P : Binder → Type 0) (c : Binder) (comps : List (List Binder)) → Follows (binder_vars (flat comps)) c → AllByRecursion P (flat comps) → P c → AllByRecursion P (flat (with_binder c comps))
unfolding Follows
each_with P (from_source s path var) comps f h p = snoc_each P (from_source s path var) comps h p
  where
    snoc_each : (P : Binder → Type 0) (c : Binder) (comps : List (List Binder)) → AllByRecursion P (flat comps) → P c → AllByRecursion P (flat (comps ++ (c ∷ []) ∷ []))
    snoc_each P c [] h p = (p, tt)
    snoc_each P c (comp ∷ comps) h p = let r = each-append P comp (flat comps) h in each_append P comp (flat (comps ++ (c ∷ []) ∷ [])) r.0 (snoc_each P c comps r.1 p)
each_with P (from_var x path var) comps f h p = add_each P (from_var x path var) x comps h p
  where
    add_each : (P : Binder → Type 0) (c : Binder) (x : ℕ) (comps : List (List Binder)) → AllByRecursion P (flat comps) → P c → AllByRecursion P (flat (add_to c x comps))
    add_each P c x [] h p = tt
    add_each P c x (comp ∷ comps) h p =
        let r = each-append P comp (flat comps) h in
        elim (has (binder_vars comp) x) as (λ w. AllByRecursion P (flat (cond w ((comp ++ c ∷ []) ∷ comps) (comp ∷ add_to c x comps))))
        [ true ↦ each_append P (comp ++ c ∷ []) (flat comps) (each_append P comp (c ∷ []) r.0 (p, tt)) r.1 | false ↦ each_append P comp (flat (add_to c x comps)) r.0 (add_each P c x comps r.1 p) ]

-- what holds of all conditions of components with one more holds of those before and of that one
with_each : (P : Binder → Type 0) (c : Binder) (comps : List (List Binder)) → Follows (binder_vars (flat comps)) c → AllByRecursion P (flat (with_binder c comps)) → AllByRecursion P (flat comps) × P c
unfolding Follows
with_each P (from_source s path var) comps f h = each_snoc P (from_source s path var) comps h
  where
    each_snoc : (P : Binder → Type 0) (c : Binder) (comps : List (List Binder)) → AllByRecursion P (flat (comps ++ (c ∷ []) ∷ [])) → AllByRecursion P (flat comps) × P c
    each_snoc P c [] h = (tt, h.0)
    each_snoc P c (comp ∷ comps) h = let r = each-append P comp (flat (comps ++ (c ∷ []) ∷ [])) h in let q = each_snoc P c comps r.1 in (each_append P comp (flat comps) r.0 q.0, q.1)
with_each P (from_var x path var) comps f h = each_add P (from_var x path var) x comps f.0 h
  where
    each_add : (P : Binder → Type 0) (c : Binder) (x : ℕ) (comps : List (List Binder)) → has (binder_vars (flat comps)) x ≡ true → AllByRecursion P (flat (add_to c x comps)) → AllByRecursion P (flat comps) × P c
    each_add P c x [] e h = cc
    each_add P c x (comp ∷ comps) e h =
        elim (has (binder_vars comp) x) as (λ w. (w || has (binder_vars (flat comps)) x) ≡ true → AllByRecursion P (flat (cond w ((comp ++ c ∷ []) ∷ comps) (comp ∷ add_to c x comps))) → AllByRecursion P (comp ++ flat comps) × P c) [
          | true ↦ λ d g. (let r = each-append P (comp ++ c ∷ []) (flat comps) g in let q = each-append P comp (c ∷ []) r.0 in (each_append P comp (flat comps) q.0 r.1, q.1.0))
          | false ↦ λ d g. (let r = each-append P comp (flat (add_to c x comps)) g in let q = each_add P c x comps d r.1 in (each_append P comp (flat comps) r.0 q.0, q.1))
        ]
        (sym (has_flat comp (flat comps) x) ∙ e) h

-- conditions that may follow one another, with one more that may follow them, may follow one another
scoped_snoc : (vs : List ℕ) (a : List Binder) (c : Binder) → AreScoped vs a → Follows (vs ++ binder_vars a) c → AreScoped vs (a ++ c ∷ [])
unfolding AreScoped
scoped_snoc vs [] c h f = (subst (λ (z : List ℕ). Follows z c) (append_nil vs) f, tt)
scoped_snoc vs (b ∷ a) c h f = (h.0, scoped_snoc (vs ++ binder_var b ∷ []) a c h.1 (subst (λ (z : List ℕ). Follows z c) (sym (snoc-append vs (binder_var b) (binder_vars a))) f))

-- a condition after others does not change their source
source_of-snoc : (b : Binder) (a : List Binder) (c : Binder) → source_of ((b ∷ a) ++ c ∷ []) ≡ source_of (b ∷ a)
source_of-snoc (from_source s path var) a c = refl
source_of-snoc (from_var x path var) a c = refl

-- where a disjunction is false, both of its parts are
pub or_left : (a b : Bool) → (a || b) ≡ false → (a ≡ false) × (b ≡ false)
or_left a b h = elim a as (λ w. (w || b) ≡ false → (w ≡ false) × (b ≡ false)) [ true ↦ λ e. (let c : true ≡ false = e in cc) | false ↦ λ e. (refl, e) ] h

-- where two booleans are false, their disjunction is
or_none : (a b : Bool) → a ≡ false → b ≡ false → (a || b) ≡ false
or_none a b h k = rw h k

-- a variable that is in a list is another than one that isn't
differs : (vs : List ℕ) (u v : ℕ) → has vs v ≡ true → has vs u ≡ false → (u == v) ≡ false
differs vs u v h k = ne_eqb u v (λ e. (let d : true ≡ false = sym h ∙ ap (has vs) (sym e) ∙ k in cc))

-- components stand apart with a condition more
pub apart_with : (c : Binder) (comps : List (List Binder)) → Follows (binder_vars (flat comps)) c → AreApart comps → AreApart (with_binder c comps)
unfolding Follows AreApart AreScoped FromSource
apart_with (from_source s path var) comps f a = snoc_apart s path var comps f a
  where
    snoc_vars : (c : Binder) (comps : List (List Binder)) (v : ℕ) → has (binder_vars (flat (comps ++ (c ∷ []) ∷ []))) v ≡ (has (binder_vars (flat comps)) v || (binder_var c == v))
    snoc_vars c [] v = or_false (binder_var c == v)
    snoc_vars c (comp ∷ comps) v =
        has_flat comp (flat (comps ++ (c ∷ []) ∷ [])) v ∙ ap (λ (x : Bool). has (binder_vars comp) v || x) (snoc_vars c comps v)
        ∙ sym (or_assoc (has (binder_vars comp) v) (has (binder_vars (flat comps)) v) (binder_var c == v)) ∙ ap (λ (x : Bool). x || (binder_var c == v)) (sym (has_flat comp (flat comps) v))

    snoc_apart : (s : ℕ) (path : Form) (var : ℕ) (comps : List (List Binder)) → has (binder_vars (flat comps)) var ≡ false → AreApart comps → AreApart (comps ++ (from_source s path var ∷ []) ∷ [])
    snoc_apart s path var [] f a = ((refl, tt), (refl, tt), (λ v h. refl), tt)
    snoc_apart s path var (comp ∷ comps) f a =
        let new : (has (binder_vars comp) var ≡ false) × (has (binder_vars (flat comps)) var ≡ false) = or_left (has (binder_vars comp) var) (has (binder_vars (flat comps)) var) (sym (has_flat comp (flat comps) var) ∙ f) in (
          a.0,
          a.1,
          (λ v h. snoc_vars (from_source s path var) comps v ∙ or_none (has (binder_vars (flat comps)) v) (var == v) (a.2 v h) (differs (binder_vars comp) var v h new.0)),
          snoc_apart s path var comps new.1 a.3,
        )
apart_with (from_var x path var) comps f a = add_apart x path var comps f.0 f.1 a
  where
    add_vars : (c : Binder) (x : ℕ) (comps : List (List Binder)) (v : ℕ) → has (binder_vars (flat comps)) v ≡ false → (binder_var c == v) ≡ false → has (binder_vars (flat (add_to c x comps))) v ≡ false
    add_vars c x [] v h n = refl
    add_vars c x (comp ∷ comps) v h n =
        let p = or_left (has (binder_vars comp) v) (has (binder_vars (flat comps)) v) (sym (has_flat comp (flat comps) v) ∙ h) in
        elim (has (binder_vars comp) x) as (λ w. has (binder_vars (flat (cond w ((comp ++ c ∷ []) ∷ comps) (comp ∷ add_to c x comps)))) v ≡ false) [
          | true ↦ has_flat (comp ++ c ∷ []) (flat comps) v ∙ or_none (has (binder_vars (comp ++ c ∷ [])) v) (has (binder_vars (flat comps)) v) (has_snoc comp c v ∙ or_none (has (binder_vars comp) v) (binder_var c == v) p.0 n) p.1
          | false ↦ has_flat comp (flat (add_to c x comps)) v ∙ or_none (has (binder_vars comp) v) (has (binder_vars (flat (add_to c x comps))) v) p.0 (add_vars c x comps v p.1 n)
        ]

    from_snoc : (x : ℕ) (path : Form) (var : ℕ) (comp : List Binder) → has (binder_vars comp) x ≡ true → AllByRecursion (FromSource (source_of comp)) comp → AllByRecursion (FromSource (source_of (comp ++ from_var x path var ∷ []))) (comp ++ from_var x path var ∷ [])
    from_snoc x path var [] h a = cc
    from_snoc x path var (b ∷ comp) h a = subst (λ (s : ℕ). AllByRecursion (FromSource s) ((b ∷ comp) ++ from_var x path var ∷ [])) (sym (source_of-snoc b comp (from_var x path var))) (each_append (FromSource (source_of (b ∷ comp))) (b ∷ comp) (from_var x path var ∷ []) a (tt, tt))

    add_apart : (x : ℕ) (path : Form) (var : ℕ) (comps : List (List Binder)) → has (binder_vars (flat comps)) x ≡ true → has (binder_vars (flat comps)) var ≡ false → AreApart comps → AreApart (add_to (from_var x path var) x comps)
    add_apart x path var [] h f a = tt
    add_apart x path var (comp ∷ comps) h f a =
        let c : Binder = from_var x path var in
        let new : (has (binder_vars comp) var ≡ false) × (has (binder_vars (flat comps)) var ≡ false) = or_left (has (binder_vars comp) var) (has (binder_vars (flat comps)) var) (sym (has_flat comp (flat comps) var) ∙ f) in
        elim (has (binder_vars comp) x) as (λ w. has (binder_vars comp) x ≡ w → (w || has (binder_vars (flat comps)) x) ≡ true → AreApart (cond w ((comp ++ c ∷ []) ∷ comps) (comp ∷ add_to c x comps))) [
          | true ↦ λ e d. (
            from_snoc x path var comp e a.0,
            scoped_snoc [] comp c a.1 (e, new.0),
            (λ v g. elim (or_cases (has (binder_vars comp) v) (var == v) (sym (has_snoc comp c v) ∙ g)) [ inl q ↦ a.2 v q | inr q ↦ (let i : var ≡ v = eqb-true var v q in ap (has (binder_vars (flat comps))) (sym i) ∙ new.1) ]),
            a.3,
          )
          | false ↦ λ e d. (a.0, a.1, (λ v g. add_vars c x comps v (a.2 v g) (differs (binder_vars comp) var v g new.0)), add_apart x path var comps d new.1 a.3)
        ] refl
        (sym (has_flat comp (flat comps) x) ∙ h)

-- the variables so far are those of the components so far
unfoldable pub Same : List ℕ → List (List Binder) → Type 0
Same vs comps = (v : ℕ) → has (binder_vars (flat comps)) v ≡ has vs v

-- a condition of a body may follow the components so far
pub bound-follows : (vs : List ℕ) (comps : List (List Binder)) (c : Binder) (cs : List Binder) → Same vs comps → AreBound vs (c ∷ cs) → Follows (binder_vars (flat comps)) c × AreBound (vs ++ binder_var c ∷ []) cs
unfolding Same Follows
bound-follows vs comps (from_source s path var) cs m a = (m var ∙ a.0, a.1)
bound-follows vs comps (from_var x path var) cs m a = ((m x ∙ a.0, m var ∙ a.1), a.2)

-- with one condition more, the variables so far are still those of the components
pub same_next : (vs : List ℕ) (comps : List (List Binder)) (c : Binder) → Same vs comps → Follows (binder_vars (flat comps)) c → Same (vs ++ binder_var c ∷ []) (with_binder c comps)
unfolding Same
same_next vs comps c m f = λ v. new_vars c comps f v ∙ ap (λ (z : Bool). z || (binder_var c == v)) (m v) ∙ ap (λ (z : Bool). has vs v || z) (sym (or_false (binder_var c == v))) ∙ sym (has-append vs (binder_var c ∷ []) v)

-- the components of conditions of which each variable is bound once, and started from later, stand apart
pub components-apart : (cs : List Binder) (vs : List ℕ) (comps : List (List Binder)) → Same vs comps → AreBound vs cs → AreApart comps → AreApart (components_from comps cs)
components-apart [] vs comps m a p = p
components-apart (c ∷ cs) vs comps m a p =
    let b = bound-follows vs comps c cs m a in components-apart cs (vs ++ binder_var c ∷ []) (with_binder c comps) (same_next vs comps c m b.0) b.1 (apart_with c comps b.0 p)

-- what holds of the conditions holds of those in the components
pub components_each :
    (P : Binder → Type 0) (cs : List Binder) (vs : List ℕ) (comps : List (List Binder)) → Same vs comps → AreBound vs cs → AllByRecursion P (flat comps) → AllByRecursion P cs →
    AllByRecursion P (flat (components_from comps cs))
components_each P [] vs comps m a h k = h
components_each P (c ∷ cs) vs comps m a h k =
    let f = bound-follows vs comps c cs m a in
    components_each P cs (vs ++ binder_var c ∷ []) (with_binder c comps) (same_next vs comps c m f.0) f.1 (each_with P c comps f.0 h k.0) k.1

-- what holds of those in the components holds of the conditions
pub each_components :
    (P : Binder → Type 0) (cs : List Binder) (vs : List ℕ) (comps : List (List Binder)) → Same vs comps → AreBound vs cs → AllByRecursion P (flat (components_from comps cs)) →
    AllByRecursion P (flat comps) × AllByRecursion P cs
each_components P [] vs comps m a h = (h, tt)
each_components P (c ∷ cs) vs comps m a h =
    let f = bound-follows vs comps c cs m a in
    let r = each_components P cs (vs ++ binder_var c ∷ []) (with_binder c comps) (same_next vs comps c m f.0) f.1 h in
    let q = with_each P c comps f.0 r.0 in (q.0, (q.1, r.1))

-- apart components, one after another, are scoped
more_scoped : (us vs : List ℕ) (cs : List Binder) → AreScoped us cs → ((v : ℕ) → has (binder_vars cs) v ≡ true → has vs v ≡ false) → AreScoped (vs ++ us) cs
unfolding AreScoped Follows
more_scoped us vs [] h f = tt
more_scoped us vs (c ∷ cs) h f = (
  more_follows us vs c h.0 (f (binder_var c) (rw (eq-eqb (binder_var c) (binder_var c) refl) refl)),
  subst (λ (z : List ℕ). AreScoped z cs) (sym (append_assoc vs us (binder_var c ∷ [])))
      (more_scoped (us ++ binder_var c ∷ []) vs cs h.1 (λ v e. f v (rw e (or_comm (binder_var c == v) true)))),
)
  where
    or_true : (a b : Bool) → b ≡ true → (a || b) ≡ true
    or_true a b h = rw h (or_comm a true)

    more_follows : (us vs : List ℕ) (c : Binder) → Follows us c → has vs (binder_var c) ≡ false → Follows (vs ++ us) c
    more_follows us vs (from_source s path var) h f = has-append vs us var ∙ or_none (has vs var) (has us var) f h
    more_follows us vs (from_var x path var) h f = (has-append vs us x ∙ or_true (has vs x) (has us x) h.0, has-append vs us var ∙ or_none (has vs var) (has us var) f h.1)

-- scoped conditions with others that are scoped after them are scoped
scoped_append : (vs : List ℕ) (a b : List Binder) → AreScoped vs a → AreScoped (vs ++ binder_vars a) b → AreScoped vs (a ++ b)
unfolding AreScoped
scoped_append vs [] b h k = subst (λ (z : List ℕ). AreScoped z b) (append_nil vs) k
scoped_append vs (c ∷ a) b h k = (h.0, scoped_append (vs ++ binder_var c ∷ []) a b h.1 (subst (λ (z : List ℕ). AreScoped z b) (sym (snoc-append vs (binder_var c) (binder_vars a))) k))

-- all conditions, component by component, may follow one another
pub apart-scoped : (comps : List (List Binder)) (vs : List ℕ) → AreApart comps → ((v : ℕ) → has (binder_vars (flat comps)) v ≡ true → has vs v ≡ false) → AreScoped vs (flat comps)
unfolding AreApart AreScoped
apart-scoped [] vs a f = tt
apart-scoped (comp ∷ comps) vs a f =
    scoped_append vs comp (flat comps)
    (subst (λ (z : List ℕ). AreScoped z comp) (append_nil vs) (more_scoped [] vs comp a.1 (λ v e. f v (has_flat comp (flat comps) v ∙ rw e refl))))
    (apart-scoped comps (vs ++ binder_vars comp) a.3
    (λ v e. has-append vs (binder_vars comp) v ∙ or_none (has vs v) (has (binder_vars comp) v) (f v (has_flat comp (flat comps) v ∙ rw e (or_comm (has (binder_vars comp) v) true)))
    (elim (has (binder_vars comp) v) as (λ w. has (binder_vars comp) v ≡ w → w ≡ false) [ true ↦ λ d. (let g : true ≡ false = sym e ∙ a.2 v d in cc) | false ↦ λ d. refl ] refl)))
  where
    append_nil : (zs : List ℕ) → zs ++ [] ≡ zs
    append_nil [] = refl
    append_nil (z ∷ zs) = ap (λ (ws : List ℕ). z ∷ ws) (append_nil zs)

-- no components have no variables
pub no_vars : Same [] []
unfolding Same
no_vars = λ v. refl

-- where there are no components, they stand apart
pub nothing_apart : AreApart []
unfolding AreApart
nothing_apart = tt
