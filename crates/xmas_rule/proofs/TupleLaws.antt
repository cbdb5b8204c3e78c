-- The tuples that satisfy binding conditions, one condition after another: ascending, and exactly these.
use Rattle.std.proofs.Common.{◌≡◌, ◌↔◌, ℕ, true, false, cond, List, [], ◌∷◌, ◌++◌, map, refl, ◌∙◌, sym, ap, subst, inl, inr}
use Rattle.std.specs.List.{AllByRecursion}
use Rattle.std.specs.Prelude.{◌==◌, ◌||◌}
use Rattle.std.proofs.lemmas.Bool.{eq-eqb}
use Rattle.mix_base.proofs.Firsts.{each_weaker}
use Rattle.mix_base.proofs.Lists.{append_nil}
use Rattle.mix_base.specs.Ascents.{Among, Ascending}
use Rattle.mix_tree.specs.Nodes.{Documents, Node, document_node, PlaceBefore}
use Rattle.path_expr.specs.Form.{Form}
use Rattle.path_expr.specs.Matches.{IsMatch}
use Rattle.xmas_rule.specs.Bindings.{Binding, node_of, Binds, TupleBefore}
use Rattle.xmas_rule.specs.Conditions.{Binder, from_source, from_var, binder_var, binder_vars, has}
use Rattle.xmas_rule.proofs.KeyLaws.{or_assoc}
use Rattle.xmas_rule.proofs.Members.{among-map, among_map, among-flat_map, among_flat_map, ascending-map, ascending-flat_map, each-append, each_append, snoc-append}
use Rattle.xmas_rule.specs.Tuples.{MatchLists, AreMatchLists, next_nodes, longer, extend, tuples}

-- the nodes that a condition allows ascend
nodes-ascend : (docs : Documents) (lists : MatchLists) (c : Binder) (b : Binding) → AreMatchLists docs lists → Ascending (λ m n. PlaceBefore m.place n.place) (next_nodes lists c b)
unfolding next_nodes
nodes-ascend docs lists (from_source source path var) b h = ascending-map PlaceBefore (λ (m n : Node). PlaceBefore m.place n.place) (λ q. record { source = source; place = q }) (λ x y r. r) (lists path (document_node source)) ((h path (document_node source)).ascending)
nodes-ascend docs lists (from_var start path var) b h = ascending-map PlaceBefore (λ (m n : Node). PlaceBefore m.place n.place) (λ q. record { source = (node_of b start).source; place = q }) (λ x y r. r) (lists path (node_of b start)) ((h path (node_of b start)).ascending)

-- two tuples of which the first stands before the second stay in order, whatever stands after them
before-append : (a b c d : Binding) → TupleBefore a b → TupleBefore (a ++ c) (b ++ d)
before-append [] b c d h = absurd h
before-append (x ∷ a) [] c d h = absurd h
before-append (x ∷ a) (y ∷ b) c d (inl e) = inl e
before-append (x ∷ a) (y ∷ b) c d (inr e) = inr (e.0, before-append a b c d e.1)

-- tuples that differ in the last node alone
before-last : (b : Binding) (v : ℕ) (m n : Node) → PlaceBefore m.place n.place → TupleBefore (b ++ (v, m) ∷ []) (b ++ (v, n) ∷ [])
before-last [] v m n h = inl h
before-last (x ∷ b) v m n h = inr (refl, before-last b v m n h)

-- ascending tuples with each node that a condition allows beside them ascend
pub extend-ascends : (docs : Documents) (lists : MatchLists) (c : Binder) (bs : List Binding) → AreMatchLists docs lists → Ascending TupleBefore bs → Ascending TupleBefore (extend lists c bs)
unfolding extend longer
extend-ascends docs lists c bs h k =
    ascending-flat_map TupleBefore TupleBefore (λ b. map (λ m. b ++ (binder_var c, m) ∷ []) (next_nodes lists c b))
    (λ b. ascending-map (λ (m n : Node). PlaceBefore m.place n.place) TupleBefore (λ m. b ++ (binder_var c, m) ∷ []) (λ m n r. before-last b (binder_var c) m n r) (next_nodes lists c b) (nodes-ascend docs lists c b h))
    (λ a b r x y m n.
    let p = among-map (λ z. a ++ (binder_var c, z) ∷ []) x (next_nodes lists c a) m in
    let q = among-map (λ z. b ++ (binder_var c, z) ∷ []) y (next_nodes lists c b) n in
    rw (p.2, q.2) (before-append a b ((binder_var c, p.0) ∷ []) ((binder_var c, q.0) ∷ []) r))
    bs k

-- the tuples of conditions ascend, where those before them do
pub tuples-ascend : (docs : Documents) (lists : MatchLists) (cs : List Binder) (bs : List Binding) → AreMatchLists docs lists → Ascending TupleBefore bs → Ascending TupleBefore (tuples lists bs cs)
unfolding tuples
tuples-ascend docs lists [] bs h k = k
tuples-ascend docs lists (c ∷ cs) bs h k = tuples-ascend docs lists cs (extend lists c bs) h (extend-ascends docs lists c bs h k)

-- the variables of a tuple
unfoldable pub vars_of : Binding → List ℕ
vars_of b = map (λ p. p.0) b

-- a variable is one of two lists' together where it is one of either's
pub has-append : (us vs : List ℕ) (v : ℕ) → has (us ++ vs) v ≡ (has us v || has vs v)
has-append [] vs v = refl
has-append (u ∷ us) vs v = rw (has-append us vs v) (sym (or_assoc (u == v) (has us v) (has vs v)))

-- the node of a variable of the first tuple
pub node_of-left : (a b : Binding) (v : ℕ) → has (vars_of a) v ≡ true → node_of (a ++ b) v ≡ node_of a v
unfolding vars_of
node_of-left [] b v h = cc
node_of-left (p ∷ a) b v h =
    elim (p.0 == v) as (λ w. (w || has (vars_of a) v) ≡ true → cond w p.1 (node_of (a ++ b) v) ≡ cond w p.1 (node_of a v)) [ true ↦ λ e. refl | false ↦ λ e. node_of-left a b v e ] h

-- where the first of two tuples doesn't have a variable, both together have it at the second's node
pub node_of-right : (a b : Binding) (v : ℕ) → has (vars_of a) v ≡ false → node_of (a ++ b) v ≡ node_of b v
unfolding vars_of
node_of-right [] b v h = refl
node_of-right (p ∷ a) b v h =
    elim (p.0 == v) as (λ w. (w || has (vars_of a) v) ≡ false → cond w p.1 (node_of (a ++ b) v) ≡ node_of b v) [ true ↦ λ e. (let c : true ≡ false = e in cc) | false ↦ λ e. node_of-right a b v e ] h

-- a tuple of one variable has that variable at its node
pub node_of-here : (v : ℕ) (m : Node) → node_of ((v, m) ∷ []) v ≡ m
node_of-here v m = rw (eq-eqb v v refl) refl

-- the variables that a condition speaks of are among these
unfoldable pub Uses : List ℕ → Binder → Type 0
Uses vs (from_source source path var) = has vs var ≡ true
Uses vs (from_var start path var) = (has vs start ≡ true) × (has vs var ≡ true)

-- a condition that may follow conditions that bind these variables
unfoldable pub Follows : List ℕ → Binder → Type 0
Follows vs (from_source source path var) = has vs var ≡ false
Follows vs (from_var start path var) = (has vs start ≡ true) × (has vs var ≡ false)

-- each condition may follow those before it
unfoldable pub AreScoped : List ℕ → List Binder → Type 0
AreScoped vs [] = Unit {0}
AreScoped vs (c ∷ cs) = Follows vs c × AreScoped (vs ++ binder_var c ∷ []) cs

-- what a condition says of a prefix of the tuple
binds-prefix : (docs : Documents) (a b : Binding) (c : Binder) → Uses (vars_of a) c → Binds docs (a ++ b) c ↔ Binds docs a c
unfolding Uses
binds-prefix docs a b (from_source source path var) h =
    let e = node_of-left a b var h in ((λ k. rw e at k), (λ k. rw (← e) at k))
binds-prefix docs a b (from_var start path var) h =
    let e = node_of-left a b var h.1 in let f = node_of-left a b start h.0 in
    ((λ k. rw f at (rw e at k)), (λ k. rw (← f) at (rw (← e) at k)))

-- the variables of two tuples
pub vars-append : (a b : Binding) → vars_of (a ++ b) ≡ vars_of a ++ vars_of b
unfolding vars_of
vars-append [] b = refl
vars-append (p ∷ a) b = ap (λ (zs : List ℕ). p.0 ∷ zs) (vars-append a b)

-- the variables of two lists of conditions
pub binder_vars-append : (a b : List Binder) → binder_vars (a ++ b) ≡ binder_vars a ++ binder_vars b
binder_vars-append [] b = refl
binder_vars-append (c ∷ a) b = ap (λ (zs : List ℕ). binder_var c ∷ zs) (binder_vars-append a b)

-- a tuple of some variables and one more
unsnoc : (b : Binding) (us : List ℕ) (v : ℕ) → vars_of b ≡ us ++ v ∷ [] → (a : Binding) × (m : Node) × (b ≡ a ++ (v, m) ∷ []) × (vars_of a ≡ us)
unfolding vars_of
unsnoc [] [] v h = cc
unsnoc [] (u ∷ us) v h = cc
unsnoc (p ∷ []) [] v h = let e : p.0 ≡ v = cc in ([], p.1, ap (λ (x : ℕ). (x, p.1) ∷ []) e, refl)
unsnoc (p ∷ q ∷ b) [] v h = let e : (q.0 ∷ vars_of b) ≡ [] = cc in cc
unsnoc (p ∷ b) (u ∷ us) v h =
    let e : p.0 ≡ u = cc in
    let f : vars_of b ≡ us ++ v ∷ [] = cc in
    let r = unsnoc b us v f in
    (p ∷ r.0, r.1, ap (λ (zs : Binding). p ∷ zs) r.2, rw e (ap (λ (zs : List ℕ). u ∷ zs) r.3))

-- a node of a source is one of its places
among-nodes : (s : ℕ) (qs : List (List ℕ)) (m : Node) → Among m (map (λ q. record { source = s; place = q }) qs) → (m.source ≡ s) × Among m.place qs
among-nodes s [] m h = absurd h
among-nodes s (q ∷ qs) m (inl e) = (ap (λ (n : Node). n.source) e, inl (ap (λ (n : Node). n.place) e))
among-nodes s (q ∷ qs) m (inr e) = let r = among-nodes s qs m e in (r.0, inr r.1)

-- a node of the source at one of these places is made of the source and that place
among_nodes : (s : ℕ) (qs : List (List ℕ)) (m : Node) → m.source ≡ s → Among m.place qs → Among m (map (λ q. record { source = s; place = q }) qs)
among_nodes s qs m e h =
    let r : Among (record { source = s; place = m.place }) (map (λ q. record { source = s; place = q }) qs) = among_map (λ q. record { source = s; place = q }) m.place qs h in
    let f : record { source = s; place = m.place } ≡ m = ap (λ (n : ℕ). record { source = n; place = m.place }) (sym e) in
    subst (λ (n : Node). Among n (map (λ q. record { source = s; place = q }) qs)) f r

-- a tuple with a new variable as its last has that variable at its node
pub last_node : (a : Binding) (v : ℕ) (m : Node) → has (vars_of a) v ≡ false → node_of (a ++ (v, m) ∷ []) v ≡ m
last_node a v m h = node_of-right a ((v, m) ∷ []) v h ∙ node_of-here v m

-- what the list holds, the path leads to
match_is : (docs : Documents) (lists : MatchLists) → AreMatchLists docs lists → (path : Form) (start n : Node) → (n.source ≡ start.source) × Among n.place (lists path start) → IsMatch docs path start n
match_is docs lists are path start n h = (h.0, ((are path start).exactly n.place).0 h.1)

-- what the path leads to, the list holds
is_match : (docs : Documents) (lists : MatchLists) → AreMatchLists docs lists → (path : Form) (start n : Node) → IsMatch docs path start n → Among n.place (lists path start)
is_match docs lists are path start n h = ((are path start).exactly n.place).1 h.1

-- a node that a condition allows makes it hold
binds-last : (docs : Documents) (lists : MatchLists) → AreMatchLists docs lists → (a : Binding) (c : Binder) (m : Node) → Follows (vars_of a) c → Among m (next_nodes lists c a) → Binds docs (a ++ (binder_var c, m) ∷ []) c
unfolding Follows next_nodes
binds-last docs lists are a (from_source source path var) m f h =
    let e = last_node a var m f in rw e (match_is docs lists are path (document_node source) m (among-nodes source (lists path (document_node source)) m h))
binds-last docs lists are a (from_var start path var) m f h =
    let e = last_node a var m f.1 in let g = node_of-left a ((var, m) ∷ []) start f.0 in
    rw (e, g) (match_is docs lists are path (node_of a start) m (among-nodes (node_of a start).source (lists path (node_of a start)) m h))

-- a node of which a condition holds, as the last of a tuple, is one that the condition allows
last_binds : (docs : Documents) (lists : MatchLists) → AreMatchLists docs lists → (a : Binding) (c : Binder) (m : Node) → Follows (vars_of a) c → Binds docs (a ++ (binder_var c, m) ∷ []) c → Among m (next_nodes lists c a)
unfolding Follows next_nodes
last_binds docs lists are a (from_source source path var) m f h =
    let e = last_node a var m f in let k : IsMatch docs path (document_node source) m = rw e at h in
    among_nodes source (lists path (document_node source)) m k.0 (is_match docs lists are path (document_node source) m k)
last_binds docs lists are a (from_var start path var) m f h =
    let e = last_node a var m f.1 in let g = node_of-left a ((var, m) ∷ []) start f.0 in
    let k : IsMatch docs path (node_of a start) m = rw (e, g) at h in
    among_nodes (node_of a start).source (lists path (node_of a start)) m k.0 (is_match docs lists are path (node_of a start) m k)

-- a tuple of the conditions' variables for which they hold
pub record Sat (docs : Documents) (cs : List Binder) (b : Binding) : Type 0 where
  pub vars : vars_of b ≡ binder_vars cs
  pub each : AllByRecursion (Binds docs b) cs

-- the list holds exactly the tuples of which the conditions hold
unfoldable pub Exact : Documents → List Binder → List Binding → Type 0
Exact docs cs bs = (b : Binding) → Among b bs ↔ Sat docs cs b

-- conditions that hold of a prefix hold of the tuple
prefix_each : (docs : Documents) (a b : Binding) (cs : List Binder) → AllByRecursion (Uses (vars_of a)) cs → AllByRecursion (Binds docs a) cs → AllByRecursion (Binds docs (a ++ b)) cs
prefix_each docs a b [] u h = tt
prefix_each docs a b (c ∷ cs) u h = ((binds-prefix docs a b c u.0).1 h.0, prefix_each docs a b cs u.1 h.1)

-- conditions of the prefix's variables that hold of the tuple hold of it
each_prefix : (docs : Documents) (a b : Binding) (cs : List Binder) → AllByRecursion (Uses (vars_of a)) cs → AllByRecursion (Binds docs (a ++ b)) cs → AllByRecursion (Binds docs a) cs
each_prefix docs a b [] u h = tt
each_prefix docs a b (c ∷ cs) u h = ((binds-prefix docs a b c u.0).0 h.0, each_prefix docs a b cs u.1 h.1)

-- longer tuples are exactly those of one condition more
extend-exact : (docs : Documents) (lists : MatchLists) → AreMatchLists docs lists → (ds : List Binder) (c : Binder) (bs : List Binding) → AllByRecursion (Uses (binder_vars ds)) ds → Follows (binder_vars ds) c → Exact docs ds bs → Exact docs (ds ++ c ∷ []) (extend lists c bs)
unfolding Exact extend longer vars_of
extend-exact docs lists are ds c bs u f h = λ b. (
  (λ m.
      let p = among-flat_map (λ a. map (λ n. a ++ (binder_var c, n) ∷ []) (next_nodes lists c a)) b bs m in
      let a = p.0 in
      let q = among-map (λ n. a ++ (binder_var c, n) ∷ []) b (next_nodes lists c a) p.2 in
      let s = (h a).0 p.1 in
      let v = s.vars in
      let ua : AllByRecursion (Uses (vars_of a)) ds = rw v u in
      let fa : Follows (vars_of a) c = rw v f in
      rw q.2 (record {
        vars = vars-append a ((binder_var c, q.0) ∷ []) ∙ last_vars a (binder_var c) q.0 (binder_vars ds) v ∙ sym (binder_vars-append ds (c ∷ []));
        each = each_append (Binds docs (a ++ (binder_var c, q.0) ∷ [])) ds (c ∷ []) (prefix_each docs a ((binder_var c, q.0) ∷ []) ds ua s.each) (binds-last docs lists are a c q.0 fa q.1, tt);
      })),
  (λ s.
      let r = unsnoc b (binder_vars ds) (binder_var c) (s.vars ∙ binder_vars-append ds (c ∷ [])) in
      let a = r.0 in let m = r.1 in let v = r.3 in
      let ua : AllByRecursion (Uses (vars_of a)) ds = rw v u in
      let fa : Follows (vars_of a) c = rw v f in
      let e : AllByRecursion (Binds docs (a ++ (binder_var c, m) ∷ [])) (ds ++ c ∷ []) = rw r.2 at s.each in
      let g = each-append (Binds docs (a ++ (binder_var c, m) ∷ [])) ds (c ∷ []) e in
      let t : Sat docs ds a = record { vars = v; each = each_prefix docs a ((binder_var c, m) ∷ []) ds ua g.0 } in
      rw r.2 (among_flat_map (λ a. map (λ n. a ++ (binder_var c, n) ∷ []) (next_nodes lists c a)) a (a ++ (binder_var c, m) ∷ []) bs ((h a).1 t)
      (among_map (λ n. a ++ (binder_var c, n) ∷ []) m (next_nodes lists c a) (last_binds docs lists are a c m fa g.1.0)))),
)
  where
    last_vars : (a : Binding) (v : ℕ) (m : Node) (us : List ℕ) → vars_of a ≡ us → vars_of a ++ vars_of ((v, m) ∷ []) ≡ us ++ v ∷ []
    last_vars a v m us e = ap (λ (zs : List ℕ). zs ++ v ∷ []) e

-- what a condition speaks of among these, it speaks of among more
pub uses-more : (vs ws : List ℕ) (c : Binder) → Uses vs c → Uses (vs ++ ws) c
unfolding Uses
uses-more vs ws (from_source source path var) h = has-append vs ws var ∙ rw h refl
uses-more vs ws (from_var start path var) h = (has-append vs ws start ∙ rw h.0 refl, has-append vs ws var ∙ rw h.1 refl)

-- the last variable is one of them
has_last : (vs : List ℕ) (v : ℕ) → has (vs ++ v ∷ []) v ≡ true
has_last vs v = has-append vs (v ∷ []) v ∙ rw (eq-eqb v v refl) (elim (has vs v) as (λ w. (w || true) ≡ true) [ true ↦ refl | false ↦ refl ])

-- a condition speaks of those before it and of its own
follows-uses : (vs : List ℕ) (c : Binder) → Follows vs c → Uses (vs ++ binder_var c ∷ []) c
unfolding Uses Follows
follows-uses vs (from_source source path var) h = has_last vs var
follows-uses vs (from_var start path var) h = (has-append vs (var ∷ []) start ∙ rw h.0 refl, has_last vs var)

-- conditions and one that may follow them speak of their own variables
pub uses-next : (ds : List Binder) (c : Binder) → AllByRecursion (Uses (binder_vars ds)) ds → Follows (binder_vars ds) c → AllByRecursion (Uses (binder_vars (ds ++ c ∷ []))) (ds ++ c ∷ [])
uses-next ds c u f =
    rw (binder_vars-append ds (c ∷ []))
    (each_append (Uses (binder_vars ds ++ binder_var c ∷ [])) ds (c ∷ []) (each_weaker (Uses (binder_vars ds)) (Uses (binder_vars ds ++ binder_var c ∷ [])) (λ d h. uses-more (binder_vars ds) (binder_var c ∷ []) d h) ds u) (follows-uses (binder_vars ds) c f, tt))

-- the tuples of conditions are exactly those of which they hold
pub tuples-exact : (docs : Documents) (lists : MatchLists) → AreMatchLists docs lists → (cs ds : List Binder) (bs : List Binding) → AllByRecursion (Uses (binder_vars ds)) ds → AreScoped (binder_vars ds) cs → Exact docs ds bs → Exact docs (ds ++ cs) (tuples lists bs cs)
unfolding tuples AreScoped
tuples-exact docs lists are [] ds bs u s h = subst (λ (zs : List Binder). Exact docs zs bs) (sym (append_nil ds)) h
tuples-exact docs lists are (c ∷ cs) ds bs u s h =
    let t : AreScoped (binder_vars (ds ++ c ∷ [])) cs = subst (λ (vs : List ℕ). AreScoped vs cs) (sym (binder_vars-append ds (c ∷ []))) s.1 in
    subst (λ (zs : List Binder). Exact docs zs (tuples lists (extend lists c bs) cs)) (snoc-append ds c cs)
    (tuples-exact docs lists are cs (ds ++ c ∷ []) (extend lists c bs) (uses-next ds c u s.0) t (extend-exact docs lists are ds c bs u s.0 h))

-- without conditions there is the empty tuple
pub exact_none : (docs : Documents) → Exact docs [] ([] ∷ [])
unfolding Exact vars_of
exact_none docs = λ b. ((λ m. elim m [ inl e ↦ rw e (record { vars = refl; each = tt }) | inr e ↦ absurd e ]), (λ s. empty_among b s.vars))
  where
    empty_among : (b : Binding) → vars_of b ≡ [] → Among b ([] ∷ [])
    empty_among [] h = inl refl
    empty_among (p ∷ b) h = cc
