-- Levels followed from the outer element.
use Rattle.std.proofs.Common.{◌≡◌, ◌∙◌, ◌<◌, ℕ, suc, List, [], ◌∷◌, Option, Some, None, refl, sym, ap, subst, arith}
use Rattle.std.specs.Prelude.{Result, Ok, Err, IfOk, IfSome, option_and_then}
use Rattle.std.specs.List.{last_or}
use Rattle.mix_base.proofs.Choices.{some_is, none_some}
use Rattle.mix_tree.specs.Nodes.{Documents}
use Rattle.node_text.specs.Node.{LevelValue}
use Rattle.plan_core.specs.declared.plan.Piece.TheVariants.{Var as var_piece}
use Rattle.plan_core.specs.Plans.{Operator}
use Rattle.plan_core.specs.Shapes.{shape_at}
use Rattle.plan_core.specs.Valid.{Kind, kinds}
use Rattle.plan_evidence.specs.Evidence.{evidence_vars}
use Rattle.plan_evidence.specs.Named.{Listing, listing, outer_of}
use Rattle.tree_buffer.specs.declared.spot.Spot.{Spot}
use Rattle.lxp_core.specs.declared.fault.WalkFault.{WalkFault}
use Rattle.lazy_plan.specs.Bench.{BenchState, ops_of, documents}
use Rattle.lazy_seek.specs.Evidenced.{AreSpotsOf}
use Rattle.lazy_seek.specs.Given.{given}
use Rattle.lazy_follow.specs.declared.following.Trail.{Trail}
use Rattle.lazy_follow.specs.declared.members.Group.{Group}
use Rattle.lazy_follow.specs.Choosing.{IsListBy}
use Rattle.lazy_follow.specs.Ends.{stand_of}
use Rattle.lazy_follow.specs.Following.{list_in, Follows, FollowsFromOuter, IsFollowedBy, Ending, ending, outer_ending, text_ending}
use Rattle.lazy_follow.specs.Levels.{IsListIn}
use Rattle.lazy_follow.specs.Scope.{InScope}
use Rattle.lazy_follow.specs.Spotted.{IsSpotted}
use Rattle.lazy_follow.specs.Marks.{HasEnd}
use Rattle.lazy_follow.specs.Trails.{GivesTrail}

-- what binds a variable has the operator in its scope that is in that of each before a later one which does
pub scope_at : (ops : List Operator) (n v : ℕ) (k : Kind) → kinds ops n v ≡ Some k → (r : Option ℕ)
    → IfSome r (λ u. (i : ℕ) (j : Kind) → i < suc n → kinds ops i v ≡ Some j → InScope ops i u)
    → IfSome r (InScope ops n)
scope_at ops n v k e None h = tt
scope_at ops n v k e (Some u) h = h n k (omega arith) e

-- a list that an operator makes is the one that is made by it
by_is : (ops : List Operator) (n : ℕ) (list : Listing) (o : Option Listing) → IsListBy ops o (Some n) → listing (shape_at ops n) ≡ Some list → o ≡ Some list
by_is ops n list None b e = none_some n (sym b)
by_is ops n list (Some l) b e = sym b.1 ∙ e

-- an answer for one thing to be followed is an answer for what is the same, and ends at the same tree
gives_as : (old new : BenchState) (levels : List LevelValue) (p : List ℕ) (F G : Type 0) (D E : Option Ending) (r : Result (Option Trail) WalkFault) → (F → G) → (G → F) → D ≡ E
    → IfOk r (GivesTrail old new levels p F D) → IfOk r (GivesTrail old new levels p G E)
gives_as old new levels p F G D E (Err e) to from same h = tt
gives_as old new levels p F G D E (Ok None) to from same h = λ tells g. h tells (from g)
gives_as old new levels p F G D E (Ok (Some t)) to from same h = (h.0, λ tells. to (h.1 tells), subst (λ (e : Option Ending). HasEnd new e p t.members.items t.shown) same h.2)

-- the outer element of operators
abbrev IsOuterOf : List Operator → ℕ → ℕ → Type 0
IsOuterOf ops input v = outer_of (last_or None ops) ≡ Some (input, v)

module _ (docs : Documents) (ops : List Operator) (input v : ℕ) (is : IsOuterOf ops input v) where
  -- there is one outer element
  same_outer : (a b : ℕ) → IsOuterOf ops a b → ◌≡◌ {A = ℕ × ℕ} (a, b) (input, v)
  same_outer a b e = some_is (a, b) (input, v) (sym e ∙ is)

  -- the list of levels that can be followed from the outer element is its own
  outer_list : (levels : List LevelValue) (p : List ℕ) (f : FollowsFromOuter docs ops levels p) → list_in ops (var_piece v) ≡ Some f.list
  outer_list levels p f = ap (λ (x : ℕ × ℕ). list_in ops (var_piece x.1)) (sym (same_outer f.input f.outer f.is_outer)) ∙ f.is_list

  -- nothing can be followed from an outer element without a list
  pub none_from_outer : IsListBy ops (list_in ops (var_piece v)) None → (levels : List LevelValue) (p : List ℕ) → (levels ≡ [] → ⊥) → IsFollowedBy docs ops levels p → ⊥
  none_from_outer by [] p some f = some refl
  none_from_outer by (l ∷ ls) p some f = subst (λ (o : Option Listing). IsListBy ops o None) (outer_list (l ∷ ls) p f) by

  -- levels are followed from the outer element as from its list
  from_list : (levels : List LevelValue) (p : List ℕ) (n : ℕ) → n ≡ input → (list : Listing) → list_in ops (var_piece v) ≡ Some list
      → Follows docs ops (record { op = n; places = [] }) list levels p
      → FollowsFromOuter docs ops levels p
  from_list levels p n e list is_list f = record {
    input = input;
    outer = v;
    list = list;
    is_outer = is;
    is_list = is_list;
    follows = subst (λ (i : ℕ). Follows docs ops (record { op = i; places = [] }) list levels p) e f;
  }

  -- and from its list as from the outer element
  to_list : (levels : List LevelValue) (p : List ℕ) (n : ℕ) → n ≡ input → (list : Listing) → list_in ops (var_piece v) ≡ Some list → FollowsFromOuter docs ops levels p
      → Follows docs ops (record { op = n; places = [] }) list levels p
  to_list levels p n e list is_list f =
      let same : f.list ≡ list = some_is f.list list (sym (outer_list levels p f) ∙ is_list) in
      let at : f.input ≡ n = ap (λ (x : ℕ × ℕ). x.0) (same_outer f.input f.outer f.is_outer) ∙ sym e in
      subst (λ (i : ℕ). Follows docs ops (record { op = i; places = [] }) list levels p) at (subst (λ (x : Listing). Follows docs ops (record { op = f.input; places = [] }) x levels p) same f.follows)

  -- levels end from the outer element on where they do from its list
  pub ends_there : (l : LevelValue) (ls : List LevelValue) (n : ℕ) → n ≡ input → (list : Listing) → list_in ops (var_piece v) ≡ Some list
      → ending ops (record { op = n; places = [] }) list (l ∷ ls) ≡ text_ending ops (l ∷ ls)
  ends_there l ls n e list is_list =
      let at : ℕ → Listing → Option Ending = λ i x. ending ops (record { op = i; places = [] }) x (l ∷ ls) in
      ap (λ (i : ℕ). at i list) e ∙ sym (ap (option_and_then (at input)) is_list) ∙ sym (ap (option_and_then (λ (o : ℕ × ℕ). outer_ending ops o (l ∷ ls))) is)

-- the list of the outer element stands in the binding of its input
pub outer_in : (st : BenchState) (input : ℕ) (from : Group) → from.here.now.op ≡ input → IsSpotted st [] from.here.now → InScope (ops_of st) input from.op → (o : Option Listing)
    → IsListBy (ops_of st) o (Some from.op) → IsListIn st [] from
outer_in st input from e here scope None by = none_some from.op (sym by)
outer_in st input from e here scope (Some list) by = record {
  here = here;
  within = by.0;
  list = list;
  is_list = by.1;
  scope = subst (λ (i : ℕ). InScope (ops_of st) i from.op) (sym e) scope;
}

-- what is followed from the outer element is followed from its list
pub outer_ahead : (st new : BenchState) (input v : ℕ) → IsOuterOf (ops_of st) input v → (levels : List LevelValue) (p : List ℕ) → (levels ≡ [] → ⊥)
    → (r : Result (Option Trail) WalkFault) (from : Group)
    → ((h : IsListIn st [] from)
    → IfOk r (GivesTrail st new levels p (Follows (documents st) (ops_of st) (stand_of [] from.here.now) h.list levels p) (ending (ops_of st) (stand_of [] from.here.now) h.list levels)))
    → from.here.now.op ≡ input → IsSpotted st [] from.here.now → InScope (ops_of st) input from.op → IsListBy (ops_of st) (list_in (ops_of st) (var_piece v)) (Some from.op)
    → IfOk r (GivesTrail st new levels p (IsFollowedBy (documents st) (ops_of st) levels p) (text_ending (ops_of st) levels))
outer_ahead st new input v is [] p some r from g e here scope by = absurd (some refl)
outer_ahead st new input v is (l ∷ ls) p some r from g e here scope by =
    let h = outer_in st input from e here scope (list_in (ops_of st) (var_piece v)) by in
    let is_list = by_is (ops_of st) from.op h.list (list_in (ops_of st) (var_piece v)) by h.is_list in
    gives_as st new (l ∷ ls) p (Follows (documents st) (ops_of st) (stand_of [] from.here.now) h.list (l ∷ ls) p) (IsFollowedBy (documents st) (ops_of st) (l ∷ ls) p)
    (ending (ops_of st) (stand_of [] from.here.now) h.list (l ∷ ls)) (text_ending (ops_of st) (l ∷ ls)) r
    (λ f. from_list (documents st) (ops_of st) input v is (l ∷ ls) p from.here.now.op e h.list is_list f)
    (λ f. to_list (documents st) (ops_of st) input v is (l ∷ ls) p from.here.now.op e h.list is_list f)
    (ends_there (documents st) (ops_of st) input v is l ls from.here.now.op e h.list is_list) (g h)

-- no spots are those of evidence without variables
pub no_spots : (st : BenchState) (n : ℕ) → evidence_vars (ops_of st) n ≡ [] → (spots : List Spot) → spots ≡ []
    → AreSpotsOf st (given (ops_of st) n []) (evidence_vars (ops_of st) n) spots
no_spots st n e spots s =
    subst (λ (vs : List ℕ). AreSpotsOf st (given (ops_of st) n []) vs spots) (sym e) (subst (λ (xs : List Spot). AreSpotsOf st (given (ops_of st) n []) [] xs) (sym s) tt)
