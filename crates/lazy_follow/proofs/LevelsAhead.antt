-- One level followed, and those behind it.
use Rattle.std.proofs.Common.{◌≡◌, ◌∙◌, ◌+◌, ◌≤◌, ℕ, List, [], ◌∷◌, Option, Some, None, refl, sym, ap, subst, arith, length}
use Rattle.std.specs.Prelude.{MatchOption, Result, Ok, Err, IfOk, option_and_then, option_map}
use Rattle.mix_base.proofs.Choices.{some_is, none_some}
use Rattle.mix_tree.specs.Nodes.{Documents}
use Rattle.node_text.specs.Node.{LevelValue}
use Rattle.plan_core.specs.declared.plan.Piece.{Piece}
use Rattle.plan_core.specs.declared.plan.Plan.{Plan}
use Rattle.plan_core.specs.ByNumber.{op_at}
use Rattle.plan_core.specs.PlanMade.{plan_value}
use Rattle.plan_core.specs.Shapes.{shape_at}
use Rattle.plan_core.specs.Valid.{IsValid}
use Rattle.plan_core.proofs.Typed.{valid_is_typed}
use Rattle.plan_evidence.specs.Named.{Listing, of_pieces, listing}
use Rattle.plan_forms.specs.Forms.{pieces_of, piece_at, input_at, keys_of, piece_of}
use Rattle.lxp_core.specs.declared.fault.WalkFault.{WalkFault}
use Rattle.lazy_plan.specs.Bench.{BenchState, ops_of, documents, KeepsBench}
use Rattle.lazy_seek.specs.Evidenced.{reaches}
use Rattle.lazy_seek.specs.Reach.{reach}
use Rattle.lazy_follow.specs.declared.ends.TreeAt.{TreeAt}
use Rattle.lazy_follow.specs.declared.evidence.Evidence.{Evidence}
use Rattle.lazy_follow.specs.declared.following.Trail.{Trail}
use Rattle.lazy_follow.specs.declared.levels.Led.TheVariants.{List as list_led, Tree as tree_led, Member as member_led}
use Rattle.lazy_follow.specs.declared.members.Group.{Group}
use Rattle.lazy_follow.specs.Choosing.{IsListBy}
use Rattle.lazy_follow.specs.Ends.{IsTreeAt, stand_of}
use Rattle.lazy_follow.specs.Following.{a_tree, a_member, a_list_among, choice, list_in, Stand, FollowsTree, Follows, Ending, before, tree_ending, ending}
use Rattle.lazy_follow.specs.Levels.{IsListIn, IsLed}
use Rattle.lazy_follow.specs.Marks.{levels_reach}
use Rattle.lazy_follow.specs.Scope.{InScope}
use Rattle.lazy_follow.specs.Trails.{GivesTrail, GoesBefore}
use Rattle.lazy_follow.proofs.Groups.{spotted_on}
use Rattle.lazy_follow.proofs.Makes.{member_single}
use Rattle.lazy_follow.proofs.Trails.{tree_chosen, among_chosen, held_before, holds_after, inner_list, tree_at, follows_choice, choice_follows, choice_ends, trail_before}

-- a level and those behind it reach as far as they do one after another
pub reach_ahead : (levels ls : List LevelValue) (l : LevelValue) (p : List ℕ) → levels ≡ l ∷ ls → reaches l.tuple + (levels_reach ls + reach p) ≤ levels_reach levels + reach p
reach_ahead levels ls l p e = (let q : levels_reach levels ≡ reaches l.tuple + levels_reach ls = ap levels_reach e in omega (arith, q))

-- there are fewer levels behind one
pub fewer_ahead : (levels ls : List LevelValue) (l : LevelValue) → levels ≡ l ∷ ls → length levels ≡ length ls + 1
fewer_ahead levels ls l e = (let q : length levels ≡ length (l ∷ ls) = ap length e in omega (arith, q))

-- levels and a place below can be followed behind a tree, in a state
abbrev pub TreeThere : Documents → Plan → Stand → Piece → List LevelValue → List ℕ → Type 0
TreeThere d q s x ls p = FollowsTree d (plan_value q).ops (λ there inner. Follows d (plan_value q).ops there inner ls p) s x ls p

-- where the levels behind a tree end
abbrev pub tree_ends : Plan → Stand → Piece → List LevelValue → Option Ending
tree_ends q s x ls = tree_ending (plan_value q).ops (λ there inner. ending (plan_value q).ops there inner ls) s x ls

module _ (old mid : BenchState) (kept : KeepsBench old mid) (places : List (List ℕ)) (from : Group) (h : IsListIn old places from) (l : LevelValue) where
  -- the list that a level chose
  pub list_led_to : (n : ℕ) → IsLed old mid places from l.tuple (choice (ops_of old) h.list l) (list_led n) → IsListIn mid places (record { op = n; here = from.here })
  list_led_to n led = inner_list old mid kept places from.here.now n (record { op = n; here = from.here }) refl refl h.here led.0 led.1

  -- the tree that a level chose
  pub tree_led_to : (n index : ℕ) → IsLed old mid places from l.tuple (choice (ops_of old) h.list l) (tree_led n index)
      → IsTreeAt mid places (record { op = n; index = index; here = from.here })
  tree_led_to n index led =
      tree_at old mid kept places from.here.now n index (spotted_on old mid kept places from.here.now h.here) led.0 led.1
      (tree_chosen (ops_of old) h.list l (piece_at (ops_of old) n index) led.2).0 (record { op = n; index = index; here = from.here }) refl refl refl

  -- evidence of a member is of the input of what makes the group
  member_op : (n : ℕ) (there : Evidence) → IsLed old mid places from l.tuple (choice (ops_of old) h.list l) (member_led n there) → there.op ≡ input_at (ops_of old) n
  member_op n there led = led.2.0 ∙ ap (λ (q : Plan). input_at (plan_value q).ops n) kept.plan

  -- the tree over a member that a level chose
  pub member_led_to : IsValid (plan_value old.plan) → (n : ℕ) (there : Evidence) → IsLed old mid places from l.tuple (choice (ops_of old) h.list l) (member_led n there)
      → (tree : TreeAt) → tree.op ≡ n → tree.index ≡ 0 → tree.here.now ≡ there → IsTreeAt mid l.tuple tree
  member_led_to valid n there led =
      tree_at old mid kept l.tuple there n 0 led.2.1 led.0.has_piece
      (subst (λ (k : ℕ). InScope (ops_of old) k (input_at (ops_of old) n)) (sym (member_op n there led)) (λ v kind k. k))
      (member_single (plan_value old.plan) valid (valid_is_typed (plan_value old.plan) valid) n led.0)

  module _ (ls : List LevelValue) (p : List ℕ) (new : BenchState) (t r : Option Trail) where
    -- what is found where the level and those behind it are followed
    abbrev pub FromHere : Option Trail → Type 0
    FromHere x =
        GivesTrail old new (l ∷ ls) p (Follows (documents old) (ops_of old) (stand_of places from.here.now) h.list (l ∷ ls) p) (ending (ops_of old) (stand_of places from.here.now) h.list (l ∷ ls)) x

    -- a level that chose a list, and those behind it
    pub list_ahead : (n : ℕ) (led : IsLed old mid places from l.tuple (choice (ops_of old) h.list l) (list_led n)) (to : IsListIn mid places (record { op = n; here = from.here }))
        → GivesTrail mid new ls p (Follows (documents mid) (ops_of mid) (stand_of places from.here.now) to.list ls p) (ending (ops_of mid) (stand_of places from.here.now) to.list ls) t
        → GoesBefore None t r → FromHere r
    list_ahead n led to g =
        let s = stand_of places from.here.now in
        let inner = pieces_of (op_at (ops_of old) n) in
        let same : to.list ≡ of_pieces inner = some_is to.list (of_pieces inner) (sym to.is_list ∙ ap (λ (q : Plan). listing (shape_at (plan_value q).ops n)) kept.plan ∙ led.0.listed) in
        let P : Documents → Plan → Type 0 = λ d q. Follows d (plan_value q).ops s (of_pieces inner) ls p in
        let end : Plan → Option Ending = λ q. ending (plan_value q).ops s (of_pieces inner) ls in
        trail_before old mid new kept l ls p (Follows (documents old) (ops_of old) s h.list (l ∷ ls) p) (P (documents mid) mid.plan) (ending (ops_of old) s h.list (l ∷ ls)) (end mid.plan) None
        (ap (option_map (before None)) (ap end kept.plan) ∙ choice_ends (documents old) (ops_of old) s h.list l ls p (a_list_among inner) led.2) None refl t r
        (among_chosen (ops_of old) h.list l inner led.2)
        (λ tells f. follows_choice (documents old) (ops_of old) s h.list l ls p (a_list_among inner) led.2 (held_before old mid kept P f))
        (λ tells f. holds_after old mid kept P (choice_follows (documents old) (ops_of old) s h.list l ls p (a_list_among inner) led.2 f))
        (subst (λ (x : Listing). GivesTrail mid new ls p (Follows (documents mid) (ops_of mid) s x ls p) (ending (ops_of mid) s x ls) t) same g)

    -- a level that chose a tree, and those behind it
    pub tree_ahead : (n index : ℕ) (led : IsLed old mid places from l.tuple (choice (ops_of old) h.list l) (tree_led n index))
        → GivesTrail mid new ls p (TreeThere (documents mid) mid.plan (stand_of places from.here.now) (piece_at (ops_of mid) n index) ls p)
        (tree_ends mid.plan (stand_of places from.here.now) (piece_at (ops_of mid) n index) ls) t
        → GoesBefore None t r → FromHere r
    tree_ahead n index led =
        let s = stand_of places from.here.now in
        let x = piece_at (ops_of old) n index in
        let P : Documents → Plan → Type 0 = λ d q. TreeThere d q s (piece_at (plan_value q).ops n index) ls p in
        let end : Plan → Option Ending = λ q. tree_ends q s (piece_at (plan_value q).ops n index) ls in
        trail_before old mid new kept l ls p (Follows (documents old) (ops_of old) s h.list (l ∷ ls) p) (P (documents mid) mid.plan) (ending (ops_of old) s h.list (l ∷ ls)) (end mid.plan) None
        (ap (option_map (before None)) (ap end kept.plan) ∙ choice_ends (documents old) (ops_of old) s h.list l ls p (a_tree x) led.2) None refl t r
        (tree_chosen (ops_of old) h.list l x led.2).1
        (λ tells f. follows_choice (documents old) (ops_of old) s h.list l ls p (a_tree x) led.2 (held_before old mid kept P f))
        (λ tells f. holds_after old mid kept P (choice_follows (documents old) (ops_of old) s h.list l ls p (a_tree x) led.2 f))

    -- a level that chose a member, and those behind it
    pub member_ahead : (n : ℕ) (there : Evidence) (led : IsLed old mid places from l.tuple (choice (ops_of old) h.list l) (member_led n there)) → KeepsBench mid new
        → GivesTrail mid new ls p (TreeThere (documents mid) mid.plan (stand_of l.tuple there) (piece_at (ops_of mid) n 0) ls p)
        (tree_ends mid.plan (stand_of l.tuple there) (piece_at (ops_of mid) n 0) ls) t
        → GoesBefore (Some there) t r → FromHere r
    member_ahead n there led kept' =
        let s = stand_of places from.here.now in
        let x = piece_of (ops_of old) n in
        let input = input_at (ops_of old) n in
        let keys = keys_of (op_at (ops_of old) n) in
        let at : ℕ → Stand = λ i. record { op = i; places = l.tuple } in
        let P : Documents → Plan → Type 0 = λ d q. TreeThere d q (at there.op) (piece_at (plan_value q).ops n 0) ls p in
        let Q : ℕ → Type 0 = λ i. TreeThere (documents old) old.plan (at i) x ls p in
        let end : Plan → Option Ending = λ q. tree_ends q (at there.op) (piece_at (plan_value q).ops n 0) ls in
        trail_before old mid new kept l ls p (Follows (documents old) (ops_of old) s h.list (l ∷ ls) p) (P (documents mid) mid.plan) (ending (ops_of old) s h.list (l ∷ ls)) (end mid.plan) (Some input)
        (ap (option_map (before (Some input))) (ap end kept.plan ∙ ap (λ (i : ℕ). tree_ends old.plan (at i) x ls) (member_op n there led))
        ∙ choice_ends (documents old) (ops_of old) s h.list l ls p (a_member input keys x) led.1)
        (Some there) (ap (λ (i : ℕ). Some i) (member_op n there led)) t r
        (spotted_on mid new kept' l.tuple there led.2.1)
        (λ tells f. follows_choice (documents old) (ops_of old) s h.list l ls p (a_member input keys x) led.1 (led.3 tells, subst Q (member_op n there led) (held_before old mid kept P f)))
        (λ tells f. holds_after old mid kept P (subst Q (sym (member_op n there led)) (choice_follows (documents old) (ops_of old) s h.list l ls p (a_member input keys x) led.1 f).1))

-- the list of the element that the tree of a piece is
pub piece_list : (st : BenchState) (places : List (List ℕ)) (tree : TreeAt) → IsTreeAt st places tree → (n : ℕ) → InScope (ops_of st) (input_at (ops_of st) tree.op) n
    → (o : Option Listing) → IsListBy (ops_of st) o (Some n) → IsListIn st places (record { op = n; here = tree.here })
piece_list st places tree h n scope None by = none_some n (sym by)
piece_list st places tree h n scope (Some list) by = record { here = h.here; within = by.0; list = list; is_list = by.1; scope = λ v kind k. h.scope v kind (scope v kind k) }

-- levels behind the tree of a piece are followed from its list
pub piece_ahead : (st new : BenchState) (places : List (List ℕ)) (tree : TreeAt) → IsTreeAt st places tree → (n : ℕ) → InScope (ops_of st) (input_at (ops_of st) tree.op) n
    → IsListBy (ops_of st) (list_in (ops_of st) (piece_at (ops_of st) tree.op tree.index)) (Some n) → (levels : List LevelValue) (p : List ℕ) (r : Result (Option Trail) WalkFault) → (levels ≡ [] → ⊥)
    → ((h' : IsListIn st places (record { op = n; here = tree.here }))
    → IfOk r (GivesTrail st new levels p (Follows (documents st) (ops_of st) (stand_of places tree.here.now) h'.list levels p) (ending (ops_of st) (stand_of places tree.here.now) h'.list levels)))
    → IfOk r (GivesTrail st new levels p (TreeThere (documents st) st.plan (stand_of places tree.here.now) (piece_at (ops_of st) tree.op tree.index) levels p)
    (tree_ends st.plan (stand_of places tree.here.now) (piece_at (ops_of st) tree.op tree.index) levels))
piece_ahead st new places tree h n scope by levels p (Err e) some f = tt
piece_ahead st new places tree h n scope by [] p (Ok t) some f = absurd (some refl)
piece_ahead st new places tree h n scope by (l ∷ ls) p (Ok t) some f = by_list (list_in (ops_of st) (piece_at (ops_of st) tree.op tree.index)) by
  where
    s : Stand
    s = stand_of places tree.here.now

    by_list : (o : Option Listing) → IsListBy (ops_of st) o (Some n)
        → GivesTrail st new (l ∷ ls) p (MatchOption o ⊥ (λ inner. Follows (documents st) (ops_of st) s inner (l ∷ ls) p)) (option_and_then (λ inner. ending (ops_of st) s inner (l ∷ ls)) o) t
    by_list None b = none_some n (sym b)
    by_list (Some list) b =
        (let inner = piece_list st places tree h n scope (Some list) b in
        subst (λ (x : Listing). GivesTrail st new (l ∷ ls) p (Follows (documents st) (ops_of st) s x (l ∷ ls) p) (ending (ops_of st) s x (l ∷ ls)) t)
        (some_is inner.list list (sym inner.is_list ∙ b.1)) (f inner))
