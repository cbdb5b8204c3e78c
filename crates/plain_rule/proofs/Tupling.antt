-- Tuples that are extended condition by condition, and what they are in the end: the bindings of a body.
use Rattle.std.proofs.Common.{◌≡◌, ◌∙◌, ◌<◌, ◌≤◌, ◌+◌, ℕ, zero, suc, Bool, true, false, cond, List, [], ◌∷◌, ◌++◌, length, map, drop, get_or, refl, sym, ap, subst, add-one, drop-cons, append_assoc, arith}
use Rattle.std.specs.List.{filter}
use Rattle.mix_base.proofs.Firsts.{map-map}
use Rattle.mix_base.proofs.Lists.{append_nil}
use Rattle.mix_tree.specs.Forest.{LabelledTree, tree, none}
use Rattle.mix_tree.specs.Nodes.{Documents, Node, document_node, kids_at}
use Rattle.path_expr.specs.Form.{Form}
use Rattle.path_expr.specs.Matches.{AreMatches}
use Rattle.mix_tree.specs.Comparisons.{passes}
use Rattle.xmas_rule.specs.Bindings.{Binding, node_of, AreBindings}
use Rattle.xmas_rule.specs.Conditions.{Binder, from_source, from_var, binders, binder_vars, comparisons, flat}
use Rattle.xmas_rule.specs.Rules.{RuleValue, IsAccepted}
use Rattle.xmas_rule.specs.declared.condition.Cond.{Cond}
use Rattle.xmas_rule.specs.declared.condition.Cond.TheVariants as cond
use Rattle.mix_tree.specs.declared.comparing.Test.{Test}
use Rattle.xmas_rule.specs.Law.{TuplesAreBindings}
use Rattle.xmas_rule.proofs.ReachLaws.{reached-more, reaches-begun}
use Rattle.xmas_rule.specs.Reached.{reached, reaches, begun}
use Rattle.xmas_rule.specs.Tuples.{MatchLists, AreMatchLists, longer, extend, tuples, next_nodes, passing, in_order_of}
use Rattle.plain_rule.specs.Documents.{documents_of}
use Rattle.plain_rule.specs.Found.{found_in}
use Rattle.plain_rule.proofs.Deciding.{test_of, tests}
use Rattle.plain_rule.proofs.Finding.{found_are_matches, one_match_list}

-- a list from a place on is the member there and those after it
pub drop_next : {X : Type 0} (xs : List X) (i : ℕ) (x : X) → i < length xs → x ≡ get_or xs i x → drop i xs ≡ x ∷ drop (i + 1) xs
drop_next {X} xs i x h e = rw (add-one, drop-cons xs i x) (ap (λ (u : X). u ∷ drop (suc i) xs) (sym e))

-- after the last member of a list there is none
pub drop_past : {X : Type 0} (xs : List X) (i : ℕ) → length xs ≤ i → drop i xs ≡ []
drop_past [] zero h = refl
drop_past [] (suc i) h = refl
drop_past (x ∷ xs) zero h = absurd (omega arith)
drop_past (x ∷ xs) (suc i) h = drop_past xs i (omega arith)

-- what a test has kept so far with one member more, where it passes, and what it keeps of the rest are all that it keeps
pub kept_next : {X : Type 0} (p : X → Bool) (xs : List X) (i : ℕ) (x : X) (some more : List X) → i < length xs → x ≡ get_or xs i x → more ≡ some ++ cond (p x) (x ∷ []) []
    → more ++ filter p (drop (i + 1) xs) ≡ some ++ filter p (drop i xs)
kept_next {X} p xs i x some more h e m =
    ap (λ (z : List X). z ++ filter p (drop (i + 1) xs)) m
    ∙ append_assoc some (cond (p x) (x ∷ []) []) (filter p (drop (i + 1) xs))
    ∙ ap (λ (z : List X). some ++ z) (one (p x) (filter p (drop (i + 1) xs)) ∙ ap (filter p) (sym (drop_next xs i x h e)))
  where
    one : (b : Bool) (ys : List X) → cond b (x ∷ []) [] ++ ys ≡ cond b (x ∷ ys) ys
    one true ys = refl
    one false ys = refl

-- images made and those of the rest are the same list before and after one more is made
pub map_next : {X Y : Type 0} (f : X → Y) (xs : List X) (i : ℕ) (x : X) (some more : List Y) → i < length xs → x ≡ get_or xs i x → more ≡ some ++ f x ∷ []
    → more ++ map f (drop (i + 1) xs) ≡ some ++ map f (drop i xs)
map_next f xs i x some more h e m =
    ap (λ z. z ++ map f (drop (i + 1) xs)) m ∙ append_assoc some (f x ∷ []) (map f (drop (i + 1) xs)) ∙ ap (λ z. some ++ map f z) (sym (drop_next xs i x h e))

-- a list of the matches is the one of these lists
pub one_list : (docs : Documents) (lists : MatchLists) (path : Form) (start : Node) (places : List (List ℕ)) → AreMatchLists docs lists
    → AreMatches path (tree [] (docs start.source) none) start.place places → places ≡ lists path start
one_list docs lists path start places are a = one_match_list path (tree [] (docs start.source) none) start.place places (lists path start) a (are path start)

-- the tuples with a variable at each match of a path from a document node are those that a source condition makes
pub longer_source : (lists : MatchLists) (s : ℕ) (path : Form) (v : ℕ) (b : Binding) → map (λ q. b ++ (v, record { source = s; place = q }) ∷ []) (lists path (document_node s)) ≡ longer lists (from_source s path v) b
unfolding longer next_nodes
longer_source lists s path v b = sym (map-map (λ (m : Node). b ++ (v, m) ∷ []) (λ q. record { source = s; place = q }) (lists path (document_node s)))

-- the tuples with a variable at each match of a path from another's node are those that a condition from that variable makes
pub longer_var : (lists : MatchLists) (x : ℕ) (path : Form) (v : ℕ) (b : Binding) → map (λ q. b ++ (v, record { source = (node_of b x).source; place = q }) ∷ []) (lists path (node_of b x)) ≡ longer lists (from_var x path v) b
unfolding longer next_nodes
longer_var lists x path v b = sym (map-map (λ (m : Node). b ++ (v, m) ∷ []) (λ q. record { source = (node_of b x).source; place = q }) (lists path (node_of b x)))

-- the tuples extended so far with those of one more, and those of the rest, are all extended tuples
pub extend_next : (lists : MatchLists) (c : Binder) (bs : List Binding) (i : ℕ) (b : Binding) (some more : List Binding) → i < length bs → b ≡ get_or bs i b → more ≡ some ++ longer lists c b
    → more ++ extend lists c (drop (i + 1) bs) ≡ some ++ extend lists c (drop i bs)
unfolding extend
extend_next lists c bs i b some more h e m =
    ap (λ z. z ++ extend lists c (drop (i + 1) bs)) m ∙ append_assoc some (longer lists c b) (extend lists c (drop (i + 1) bs)) ∙ ap (λ z. some ++ extend lists c z) (sym (drop_next bs i b h e))

-- nothing is extended to nothing
pub extend_end : (lists : MatchLists) (c : Binder) (bs : List Binding) (i : ℕ) (some : List Binding) → length bs ≤ i → some ++ extend lists c (drop i bs) ≡ some
unfolding extend
extend_end lists c bs i some h = ap (λ z. some ++ extend lists c z) (drop_past bs i h) ∙ append_nil some

-- the tuples with nodes for the conditions of one list and then of another are those for both lists together
pub tuples_append : (lists : MatchLists) (bs : List Binding) (xs ys : List Binder) → tuples lists (tuples lists bs xs) ys ≡ tuples lists bs (xs ++ ys)
unfolding tuples
tuples_append lists bs [] ys = refl
tuples_append lists bs (c ∷ xs) ys = tuples_append lists (extend lists c bs) xs ys

-- the tuples of one condition are those before it with each node that it allows
pub tuples_one : (lists : MatchLists) (bs : List Binding) (c : Binder) → tuples lists bs (c ∷ []) ≡ extend lists c bs
unfolding tuples
tuples_one lists bs c = refl

-- the tuples of no conditions are those before
pub tuples_none : (lists : MatchLists) (bs : List Binding) → tuples lists bs [] ≡ bs
unfolding tuples
tuples_none lists bs = refl

-- tuples of one condition and others
pub tuples_more : (lists : MatchLists) (bs : List Binding) (c : Binder) (cs : List Binder) → tuples lists (extend lists c bs) cs ≡ tuples lists bs (c ∷ cs)
unfolding tuples
tuples_more lists bs c cs = refl

-- the tuples so far with those of one condition more, where it is reached, and of the rest are all tuples of what is reached
pub reached_next : (lists : MatchLists) (vs us : List ℕ) (conds : List Cond) (i : ℕ) (x : Cond) (some more : List Binding) → i < length conds → x ≡ get_or conds i x
    → more ≡ tuples lists some (reached vs (binders (x ∷ []))) → us ≡ vs ++ binder_vars (reached vs (binders (x ∷ [])))
    → tuples lists more (reached us (binders (drop (i + 1) conds))) ≡ tuples lists some (reached vs (binders (drop i conds)))
reached_next lists vs us conds i x some more h e m u =
    let one : List Binder = reached vs (binders (x ∷ [])) in
    let rest : List Cond = drop (i + 1) conds in
    ap (λ z. tuples lists z (reached us (binders rest))) m
    ∙ tuples_append lists some one (reached us (binders rest))
    ∙ ap (λ z. tuples lists some (one ++ reached z (binders rest))) u
    ∙ ap (tuples lists some) (sym (reached-more vs x rest))
    ∙ ap (λ z. tuples lists some (reached vs (binders z))) (sym (drop_next conds i x h e))

-- after the last condition nothing more is reached
pub reached_end : (lists : MatchLists) (vs : List ℕ) (conds : List Cond) (i : ℕ) (some : List Binding) → length conds ≤ i → tuples lists some (reached vs (binders (drop i conds))) ≡ some
reached_end lists vs conds i some h = ap (λ z. tuples lists some (reached vs (binders z))) (drop_past conds i h) ∙ tuples_none lists some

-- the conditions of two lists of components are those of the first and those of the second
flat_append : (xs ys : List (List Binder)) → flat (xs ++ ys) ≡ flat xs ++ flat ys
flat_append [] ys = refl
flat_append (comp ∷ xs) ys = ap (λ r. comp ++ r) (flat_append xs ys) ∙ sym (append_assoc comp (flat xs) (flat ys))

-- the component that a source condition begins
pub begun_source : (lists : MatchLists) (s : ℕ) (path : Form) (v : ℕ) (after : List Binder) (some same more : List Binding) → same ≡ some → more ≡ extend lists (from_source s path v) same
    → tuples lists more (reached (v ∷ []) after) ≡ tuples lists some (flat ((from_source s path v ∷ reached (v ∷ []) after) ∷ []))
begun_source lists s path v after some same more e m =
    let c : Binder = from_source s path v in
    ap (λ z. tuples lists z (reached (v ∷ []) after)) (m ∙ ap (extend lists c) e)
    ∙ tuples_more lists some c (reached (v ∷ []) after)
    ∙ ap (tuples lists some) (sym (append_nil (c ∷ reached (v ∷ []) after)))

-- the tuples so far with the component that a condition begins, and the components of the rest, are all of the body
pub body_next : (lists : MatchLists) (x : Cond) (xs : List Cond) (some more : List Binding) → more ≡ tuples lists some (flat (begun x (binders xs)))
    → tuples lists more (flat (reaches (binders xs))) ≡ tuples lists some (flat (reaches (binders (x ∷ xs))))
body_next lists x xs some more m =
    ap (λ z. tuples lists z (flat (reaches (binders xs)))) m
    ∙ tuples_append lists some (flat (begun x (binders xs))) (flat (reaches (binders xs)))
    ∙ ap (tuples lists some) (sym (ap flat (reaches-begun x xs) ∙ flat_append (begun x (binders xs)) (reaches (binders xs))))

-- after the last condition of a body the tuples are all made
pub body_end : (lists : MatchLists) (rest : List Cond) (some : List Binding) → length rest ≡ 0 → tuples lists some (flat (reaches (binders rest))) ≡ some
body_end lists [] some e = tuples_none lists some
body_end lists (x ∷ xs) some e = absurd (omega arith)

-- the comparison of a condition keeps what passes
pub passing_one : (docs : Documents) (t : Test) (bs : List Binding) → passing docs (t ∷ []) bs ≡ filter (λ b. passes docs t (node_of b)) bs
unfolding passing
passing_one docs t bs = refl

-- without comparisons all bindings pass
pub passing_none : (docs : Documents) (bs : List Binding) → passing docs [] bs ≡ bs
unfolding passing
passing_none docs bs = refl

-- the bindings kept so far by one condition's comparisons more, and by those of the rest, are those that pass all
pub passing_next : (docs : Documents) (conds : List Cond) (i : ℕ) (x : Cond) (some more : List Binding) → i < length conds → x ≡ get_or conds i x → more ≡ passing docs (comparisons (x ∷ [])) some
    → passing docs (comparisons (drop (i + 1) conds)) more ≡ passing docs (comparisons (drop i conds)) some
unfolding passing
passing_next docs conds i x some more h e m =
    ap (passing docs (comparisons (drop (i + 1) conds))) m ∙ by x ∙ ap (λ z. passing docs (comparisons z) some) (sym (drop_next conds i x h e))
  where
    by : (x : Cond) → passing docs (comparisons (drop (i + 1) conds)) (passing docs (comparisons (x ∷ [])) some) ≡ passing docs (comparisons (x ∷ drop (i + 1) conds)) some
    by (cond.FromSource s path v) = refl
    by (cond.FromVar start path v) = refl
    by (cond.Compare t) = refl

-- after the last condition no more bindings are to be tested
pub passing_end : (docs : Documents) (conds : List Cond) (i : ℕ) (some : List Binding) → length conds ≤ i → passing docs (comparisons (drop i conds)) some ≡ some
passing_end docs conds i some h = ap (λ z. passing docs (comparisons z) some) (drop_past conds i h) ∙ passing_none docs some

-- the lists of matches that a search finds
lists_of : List LabelledTree → MatchLists
lists_of trees path start = found_in (test_of path) [] start.place 0 (kids_at (documents_of trees) start)

-- the lists that a search finds are the lists of the matches
are_lists : (trees : List LabelledTree) → AreMatchLists (documents_of trees) (lists_of trees)
unfolding lists_of
are_lists trees path start = found_are_matches path (test_of path) (tests path) (tree [] (documents_of trees start.source) none) start.place

-- the tuples that pass all comparisons, in the rule's order, are the bindings of its body
pub body_bindings : (trees : List LabelledTree) (sources : ℕ) (r : RuleValue) → TuplesAreBindings → IsAccepted sources r → (all kept bs : List Binding)
    → ((lists : MatchLists) → AreMatchLists (documents_of trees) lists → all ≡ tuples lists ([] ∷ []) (flat (reaches (binders r.conds))))
    → kept ≡ passing (documents_of trees) (comparisons r.conds) all → bs ≡ in_order_of (documents_of trees) r.order kept
    → AreBindings (documents_of trees) r.conds r.order bs
body_bindings trees sources r law a all kept bs t k o =
    let docs : Documents = documents_of trees in
    let lists : MatchLists = lists_of trees in
    let whole : bs ≡ in_order_of docs r.order (passing docs (comparisons r.conds) (tuples lists ([] ∷ []) (flat (reaches (binders r.conds))))) =
    o ∙ ap (in_order_of docs r.order) (k ∙ ap (passing docs (comparisons r.conds)) (t lists (are_lists trees))) in
    subst (AreBindings docs r.conds r.order) (sym whole) (law docs lists sources r (are_lists trees) a)
