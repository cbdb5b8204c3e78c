-- The plan of a rule, its selections moved, reads the sources that the rule names, and no others.
use Rattle.std.proofs.Common.{◌≡◌, ◌∙◌, ◌+◌, ◌==◌, ◌||◌, ℕ, suc, Bool, true, false, cond, List, [], ◌∷◌, ◌++◌, refl, sym, ap}
use Rattle.std.specs.List.{list_any, AllByRecursion}
use Rattle.std.proofs.lemmas.List.Folds.{list_any-append}
use Rattle.std.proofs.Math.Bool.{or-false, or_assoc, or_self}
use Rattle.mix_tree.specs.Keys.{collects, in_force}
use Rattle.mix_tree.specs.declared.comparing.Test.{Test}
use Rattle.mix_tree.specs.declared.var.Key.{Key}
use Rattle.path_expr.specs.Form.{Form}
use Rattle.xmas_rule.specs.Conditions.{Binder, from_source, from_var, binder_vars, binders, flat, comparisons, has, add_to, components, components_from}
use Rattle.xmas_rule.specs.Items.{Items, done, literal, variable, element}
use Rattle.xmas_rule.specs.Reached.{source_of}
use Rattle.xmas_rule.specs.Rules.{variables}
use Rattle.xmas_rule.specs.declared.condition.Cond.{Cond}
use Rattle.xmas_rule.specs.declared.condition.Cond.TheVariants.{FromSource, FromVar, Compare}
use Rattle.plan_core.specs.Plans.{Operator, get_descendants, join, over, tuple_destroy}
use Rattle.plan_core.specs.Unary.{Unary, select, order_by, project, group_by, concatenate, create_element}
use Rattle.plan_core.specs.declared.plan.Piece.TheVariants.{Var as var_piece}
use Rattle.plan_make.specs.Operators.{with_binders, component_tree, with_components, components_tree, selects, orders, body_tree, body_next, rule_tree}
use Rattle.plan_make.specs.Raised.{raised}
use Rattle.plan_make.specs.Translation.{Branch, Level, Built, build, element_ops, shown_piece, one_branch, with_branch, with_branches, level_of, variable_branch, element_branch, inner_level, branches, outer_of, outer_build, template_var}
use Rattle.plan_make.specs.Trees.{Tree, begin, descend, both, above, stacked, under, numbered}
use Rattle.plan_make.proofs.TreeParts.{ended, tree_kinds}
use Rattle.plan_rewrite.specs.Rewritten.{binds_test, pushed, put_over, rewritten}
use Rattle.plan_rewrite.proofs.OwnTree.{rewritten-tree}
use Rattle.view_class.specs.Named.{is_of, names_source}
use Rattle.view_class.specs.Reads.{ReadsNamed, op_reads, reads_source}

-- CONDITIONS AND COMPONENTS

-- whether a condition that binds starts at the document node of this source
abbrev starts_at : ℕ → Binder → Bool
starts_at s (from_source source path var) = source == s
starts_at s (from_var start path var) = false

-- whether this is the source of a component
abbrev is_from : ℕ → List Binder → Bool
is_from s comp = source_of comp == s

-- the source of a component stays where a condition that starts at a variable is added
source_more : (comp : List Binder) (start : ℕ) (path : Form) (var : ℕ) → source_of (comp ++ from_var start path var ∷ []) ≡ source_of comp
source_more [] start path var = refl
source_more (from_source source way v ∷ cs) start path var = refl
source_more (from_var x way v ∷ cs) start path var = refl

-- the sources of components stay where one of them takes a condition that starts at a variable
add_from : (s start : ℕ) (path : Form) (var : ℕ) (comps : List (List Binder)) → list_any (is_from s) (add_to (from_var start path var) start comps) ≡ list_any (is_from s) comps
add_from s start path var [] = refl
add_from s start path var (comp ∷ comps) =
    let c : Binder = from_var start path var in
    elim (has (binder_vars comp) start) as (λ b. list_any (is_from s) (cond b ((comp ++ c ∷ []) ∷ comps) (comp ∷ add_to c start comps)) ≡ list_any (is_from s) (comp ∷ comps)) [
      | true ↦ ap (λ n. (n == s) || list_any (is_from s) comps) (source_more comp start path var)
      | false ↦ ap (λ b. is_from s comp || b) (add_from s start path var comps)
    ]

-- the sources of the components that conditions make are those at which conditions start
all_from : (s : ℕ) (cs : List Binder) (comps : List (List Binder)) → list_any (is_from s) (components_from comps cs) ≡ (list_any (is_from s) comps || list_any (starts_at s) cs)
all_from s [] comps = sym (or-false (list_any (is_from s) comps))
all_from s (from_source source path var ∷ cs) comps =
    let one : List (List Binder) = (from_source source path var ∷ []) ∷ [] in
    let rest : Bool = list_any (starts_at s) cs in
    all_from s cs (comps ++ one)
    ∙ ap (λ b. b || rest) (list_any-append (is_from s) comps one ∙ ap (λ b. list_any (is_from s) comps || b) (or-false (source == s)))
    ∙ or_assoc (list_any (is_from s) comps) (source == s) rest
all_from s (from_var start path var ∷ cs) comps =
    all_from s cs (add_to (from_var start path var) start comps) ∙ ap (λ b. b || list_any (starts_at s) cs) (add_from s start path var comps)

-- conditions that bind start at the sources of a rule's conditions
binders_start : (s : ℕ) (conds : List Cond) → list_any (starts_at s) (binders conds) ≡ list_any (is_of s) conds
binders_start s [] = refl
binders_start s (FromSource source path var ∷ conds) = ap (λ b. (source == s) || b) (binders_start s conds)
binders_start s (FromVar start path var ∷ conds) = binders_start s conds
binders_start s (Compare t ∷ conds) = binders_start s conds

-- TREES OF OPERATORS

-- whether a tree of operators reads this source
abbrev tree_reads : ℕ → Tree → Bool
tree_reads s (begin source out) = source == s
tree_reads s (descend t start path out) = tree_reads s t
tree_reads s (both l r tests) = tree_reads s l || tree_reads s r
tree_reads s (above t op) = tree_reads s t

-- with one operator more that doesn't read a source, operators read it where they did
last_reads : (s : ℕ) (ops : List Operator) (op : Operator) → op_reads s op ≡ false → reads_source (ops ++ op ∷ []) s ≡ reads_source ops s
last_reads s ops op h =
    list_any-append (op_reads s) ops (op ∷ [])
    ∙ ap (λ b. reads_source ops s || (b || false)) h
    ∙ or-false (reads_source ops s)

-- the numbered operators of a tree read what the tree reads
numbered_reads : (s : ℕ) (t : Tree) (i : ℕ) → reads_source (numbered i t) s ≡ tree_reads s t
numbered_reads s (begin source out) i = or-false (source == s)
numbered_reads s (descend t start path out) i = last_reads s (numbered i t) (get_descendants (i + under t) start path out) refl ∙ numbered_reads s t i
numbered_reads s (both l r tests) i =
    let m : ℕ = i + suc (under l) in
    let op : Operator = join (i + under l) (m + under r) tests in
    list_any-append (op_reads s) (numbered i l) (numbered m r ++ op ∷ [])
    ∙ ap (λ b. reads_source (numbered i l) s || b) (last_reads s (numbered m r) op refl ∙ numbered_reads s r m)
    ∙ ap (λ b. b || tree_reads s r) (numbered_reads s l i)
numbered_reads s (above t op) i = last_reads s (numbered i t) (over (i + under t) op) refl ∙ numbered_reads s t i

-- the operators of a plan that ends with a tree's last one read what the tree reads
ended_reads : (s : ℕ) (t : Tree) (v : ℕ) → reads_source (ended t v) s ≡ tree_reads s t
ended_reads s t v = last_reads s (numbered 0 t) (tuple_destroy (under t) v) refl ∙ numbered_reads s t 0

-- operators one over another read no other source
stacked_reads : (s : ℕ) (ops : List Unary) (t : Tree) → tree_reads s (stacked t ops) ≡ tree_reads s t
stacked_reads s [] t = refl
stacked_reads s (op ∷ ops) t = stacked_reads s ops (above t op)

-- a tree of renamed variables reads what the tree reads
raised_reads : (s n : ℕ) (t : Tree) → tree_reads s (raised n t) ≡ tree_reads s t
raised_reads s n (begin source out) = refl
raised_reads s n (descend t start path out) = raised_reads s n t
raised_reads s n (both l r tests) = ap (λ b. b || tree_reads s (raised n r)) (raised_reads s n l) ∙ ap (λ b. tree_reads s l || b) (raised_reads s n r)
raised_reads s n (above t op) = raised_reads s n t

-- a tree with a selection moved into it reads what the tree reads
pushed_reads : (s : ℕ) (test : Test) (t : Tree) → tree_reads s (pushed test t) ≡ tree_reads s t
pushed_reads s test (begin source out) = refl
pushed_reads s test (descend t start path out) = refl
pushed_reads s test (both l r tests) =
    elim (binds_test (tree_kinds l) test) as
    (λ b. tree_reads s (cond b (both (pushed test l) r tests) (cond (binds_test (tree_kinds r) test) (both l (pushed test r) tests) (both l r (tests ++ test ∷ [])))) ≡ (tree_reads s l || tree_reads s r)) [
      | true ↦ ap (λ b. b || tree_reads s r) (pushed_reads s test l)
      | false ↦ (
          elim (binds_test (tree_kinds r) test) as (λ b. tree_reads s (cond b (both l (pushed test r) tests) (both l r (tests ++ test ∷ []))) ≡ (tree_reads s l || tree_reads s r)) [
            | true ↦ ap (λ b. tree_reads s l || b) (pushed_reads s test r)
            | false ↦ refl
          ]
          )
    ]
pushed_reads s test (above t op) = refl

-- a tree below an operator that is put over it or into it reads what the tree reads
over_reads : (s : ℕ) (op : Unary) (t : Tree) → tree_reads s (put_over op t) ≡ tree_reads s t
over_reads s (select test) t = pushed_reads s test t
over_reads s (order_by v desc) t = refl
over_reads s (project keys) t = refl
over_reads s (group_by keys piece out) t = refl
over_reads s (concatenate pieces out) t = refl
over_reads s (create_element label list out) t = refl

-- a tree whose selections are moved reads what the tree reads
rewritten_reads : (s : ℕ) (t : Tree) → tree_reads s (rewritten t) ≡ tree_reads s t
rewritten_reads s (begin source out) = refl
rewritten_reads s (descend t start path out) = rewritten_reads s t
rewritten_reads s (both l r tests) = ap (λ b. b || tree_reads s (rewritten r)) (rewritten_reads s l) ∙ ap (λ b. tree_reads s l || b) (rewritten_reads s r)
rewritten_reads s (above t op) = over_reads s op (rewritten t) ∙ rewritten_reads s t

-- THE BODY OF A RULE

-- the operators of conditions that bind read no other source
binders_read : (s : ℕ) (cs : List Binder) (t : Tree) (d : ℕ) → tree_reads s (with_binders t d cs) ≡ tree_reads s t
binders_read s [] t d = refl
binders_read s (from_source source path var ∷ cs) t d = binders_read s cs (descend t d path var) d
binders_read s (from_var start path var ∷ cs) t d = binders_read s cs (descend t start path var) d

-- a component reads its source
component_reads : (s : ℕ) (comp : List Binder) (d : ℕ) → tree_reads s (component_tree d comp) ≡ is_from s comp
component_reads s comp d = binders_read s comp (begin (source_of comp) d) d

-- components joined to a tree read their sources, beside what the tree reads
more_read : (s : ℕ) (comps : List (List Binder)) (t : Tree) (d : ℕ) → tree_reads s (with_components d t comps) ≡ (tree_reads s t || list_any (is_from s) comps)
more_read s [] t d = sym (or-false (tree_reads s t))
more_read s (comp ∷ comps) t d =
    let rest : Bool = list_any (is_from s) comps in
    more_read s comps (both t (component_tree d comp) []) (suc d)
    ∙ ap (λ b. tree_reads s t || b || rest) (component_reads s comp d)
    ∙ or_assoc (tree_reads s t) (is_from s comp) rest

-- all components, of which there is one, read their sources
all_read : (s : ℕ) (comps : List (List Binder)) (d : ℕ) → has (binder_vars (flat comps)) 0 ≡ true → tree_reads s (components_tree d comps) ≡ list_any (is_from s) comps
all_read s [] d some = (let z : false ≡ true = some in cc)
all_read s (comp ∷ comps) d some = more_read s comps (component_tree d comp) (suc d) ∙ ap (λ b. b || list_any (is_from s) comps) (component_reads s comp d)

-- BRANCHES

-- whether a branch reads this source is this truth
abbrev BranchReads : ℕ → Bool → Branch → Type 0
BranchReads s reads b = tree_reads s b.tree ≡ reads

-- branches joined to others that all read alike read so
joined_read : (s : ℕ) (reads : Bool) (keys : List Key) (bs : List Branch) (l : Level) → tree_reads s l.tree ≡ reads → AllByRecursion (BranchReads s reads) bs → tree_reads s (with_branches keys l bs).tree ≡ reads
joined_read s reads keys [] l h k = h
joined_read s reads keys (b ∷ bs) l h k =
    joined_read s reads keys bs (with_branch keys l b)
    (ap (λ x. x || tree_reads s (raised l.next b.tree)) h ∙ ap (λ x. reads || x) (raised_reads s l.next b.tree ∙ k.0) ∙ or_self reads) k.1

-- a level reads what its branches read, all alike
level_reads : (s : ℕ) (reads : Bool) (empty : Level) (keys : List Key) (bs : List Branch) → tree_reads s empty.tree ≡ reads → AllByRecursion (BranchReads s reads) bs → tree_reads s (level_of empty keys bs).tree ≡ reads
level_reads s reads empty keys [] h k = h
level_reads s reads empty keys (b ∷ bs) h k = joined_read s reads keys bs (one_branch b) k.0 k.1

-- a branch more that reads alike, where an item collects
one_more : (s : ℕ) (reads c : Bool) (b : Branch) (xs ys : List Branch) → BranchReads s reads b → AllByRecursion (BranchReads s reads) xs → AllByRecursion (BranchReads s reads) ys
    → AllByRecursion (BranchReads s reads) (cond c (b ∷ xs) ys)
one_more s reads true b xs ys h k m = (h, k)
one_more s reads false b xs ys h k m = m

-- the branches of items over a body read what the body reads
branches_read : (s : ℕ) (reads : Bool) (body : Tree) (n : ℕ) → tree_reads s body ≡ reads → (outer force : List Key) (items : Items) (after : List Branch) → AllByRecursion (BranchReads s reads) after
    → AllByRecursion (BranchReads s reads) (branches body n outer force items after)
branches_read s reads body n h outer force done after k = k
branches_read s reads body n h outer force (literal label rest) after k = branches_read s reads body n h outer force rest after k
branches_read s reads body n h outer force (variable shown v own rest) after k =
    let more = branches_read s reads body n h outer force rest after k in
    one_more s reads (collects force own) (variable_branch body n outer (in_force force own) (shown_piece shown v)) (branches body n outer force rest after) (branches body n outer force rest after) h more more
branches_read s reads body n h outer force (element label inside own rest) after k =
    let more = branches_read s reads body n h outer force rest after k in
    let keys : List Key = in_force force own in
    let inner : Level = inner_level body n keys (branches body n keys keys inside []) in
    let built : Built = build keys inner.lists inside inner.next in
    let below : tree_reads s inner.tree ≡ reads =
    level_reads s reads (record { tree = above body (project keys); lists = []; next = n }) keys (branches body n keys keys inside []) h (branches_read s reads body n h keys keys inside [] tt) in
    one_more s reads (collects force own) (element_branch outer label inner built) (branches body n outer force rest after) (branches body n outer keys inside (branches body n outer force rest after))
    (stacked_reads s (element_ops label built (group_by outer (var_piece (built.next + 1)) (built.next + 2) ∷ [])) inner.tree ∙ below) more
    (branches_read s reads body n h outer keys inside (branches body n outer force rest after) more)

-- THE PLAN

-- the plan of an accepted rule, its selections moved, reads the sources that the rule names, and no others
pub reads_named : ReadsNamed
reads_named n v a s =
    let comps : List (List Binder) = components v.conds in
    let body : Tree = body_tree v in
    let next : ℕ = body_next v in
    let reads : Bool = names_source v s in
    let below : tree_reads s body ≡ reads =
    stacked_reads s (selects (comparisons v.conds) ++ orders v.order) (components_tree (variables v) comps)
    ∙ all_read s comps (variables v) ((a.all 0).0 a.some)
    ∙ all_from s (binders v.conds) []
    ∙ binders_start s v.conds in
    let level : tree_reads s (outer_of body next v.items).tree ≡ reads =
    level_reads s reads (record { tree = above body (group_by [] (var_piece 0) next); lists = []; next = next + 1 }) [] (branches body next [] [] v.items []) below (branches_read s reads body next below [] [] v.items [] tt) in
    let whole : tree_reads s (rule_tree v) ≡ reads = stacked_reads s (element_ops v.label (outer_build body next v.items) []) (outer_of body next v.items).tree ∙ level in
    let element : ℕ = template_var body next v.items in
    ap (λ (ops : List Operator). reads_source ops s) (rewritten-tree (rule_tree v) element)
    ∙ ended_reads s (rewritten (rule_tree v)) element
    ∙ rewritten_reads s (rule_tree v)
    ∙ whole
