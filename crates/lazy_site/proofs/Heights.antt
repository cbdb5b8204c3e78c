-- Ranks of lists, and heights of identifiers.
use Rattle.std.specs.declared.rc.Rc.{Rc}
use Rattle.std.proofs.Common.{Global, ◌≡◌, ◌<◌, ◌≤◌, ◌+◌, ℕ, zero, suc, List, Option, Some, None, length, refl, ◌∙◌, sym, ap, subst, arith}
use Rattle.std.specs.Prelude.{true, max}
use Rattle.std.specs.List.{AllByRecursion}
use Rattle.std.proofs.Math.Nat.{le-max_left, le-max_right, max-le}
use Rattle.mix_tree.specs.Forest.{Forest}
use Rattle.lxp_core.specs.View.{View, Keeps as KeepsView}
use Rattle.tree_buffer.specs.declared.buffer.Buffer.{Buffer}
use Rattle.tree_buffer.specs.declared.spot.Spot.{Spot}
use Rattle.tree_buffer.specs.Buffer.{below, number_of}
use Rattle.plan_core.specs.declared.plan.Plan.{Plan}
use Rattle.plan_core.specs.PlanMade.{plan_value}
use Rattle.plan_core.specs.Plans.{Operator, source, get_descendants, join, over, tuple_destroy}
use Rattle.plan_core.specs.ByNumber.{op_at}
use Rattle.plan_core.specs.Typed.{IsTyped}
use Rattle.plan_core.specs.Valid.{inputs_of}
use Rattle.lazy_plan.specs.declared.bench.Bench.{Bench}
use Rattle.lazy_binding.specs.World.{of_buffer, roots_weight}
use Rattle.lazy_plan.specs.Bench.{BenchState, state_of, IsBenchOf, IsSpotAt, IsSpotFor, below_at, KeepsBench}
use Rattle.lazy_steps.proofs.Matches.{root_light}
use Rattle.plan_forms.specs.Forms.{input_of, input_at, pieces_of}
use Rattle.lazy_site.specs.Ids.{IsSite}
use Rattle.lazy_site.specs.Heights.{origin_rank, head_rank, rest_rank, GivesRanked, TurnsRanked, KeepsRank, roots_of, site_height, IsLower, IsNoHigher}
use Rattle.lazy_site.specs.declared.sites.Head.{Head}
use Rattle.lazy_site.specs.declared.sites.Origin.{Origin}
use Rattle.lazy_site.specs.declared.sites.Rest.{Rest}
use Rattle.lazy_site.specs.declared.sites.Site.{Site}
use Rattle.lazy_site.specs.declared.sites.Site.TheVariants.{Root, Inside, Item}
use Rattle.lazy_site.specs.declared.sites.Turn.{Turn}
use Rattle.lazy_site.specs.declared.sites.Turn.TheVariants.{At}

-- RANKS

-- an operator with pieces has an input with a smaller number
input_within : (o : Operator) (n index : ℕ) → index < length (pieces_of o) → AllByRecursion (λ i. i < n) (inputs_of o) → input_of o < n
input_within (source s out) n index l h = absurd (omega (arith, l))
input_within (get_descendants i start path out) n index l h = h.0
input_within (join i r tests) n index l h = h.0
input_within (over i op) n index l h = h.0
input_within (tuple_destroy i v) n index l h = h.0

-- the input of an operator with pieces has a smaller number
pub input_low : (ops : List Operator) → IsTyped ops → (op index : ℕ) → op < length ops → index < length (pieces_of (op_at ops op)) → input_at ops op < op
input_low ops typed op index within l = input_within (op_at ops op) op index l (typed.inputs op within)

-- a value of a piece ranks no higher than the operator
pub origin_ranked : (ops : List Operator) → IsTyped ops → (op input index : ℕ) → op < length ops → index < length (pieces_of (op_at ops op)) → input ≡ input_at ops op → (origin : Origin) → origin_rank origin ≤ suc input → origin_rank origin ≤ op
origin_ranked ops typed op input index within l e origin h = let z = input_low ops typed op index within l in omega (arith, z, e, h)

-- a turn over the first list of a rest is one over the rest
pub rest_ranked : (x up : Rest) (op : ℕ) (t : Turn) → rest_rank x ≡ max op (rest_rank up) → KeepsRank op up t → TurnsRanked (rest_rank x) t
rest_ranked x up op t e h = h (rest_rank x) (subst (λ (n : ℕ). op ≤ n) (sym e) (le-max_left op (rest_rank up))) (subst (λ (n : ℕ). rest_rank up ≤ n) (sym e) (le-max_right op (rest_rank up)))

-- what is put before a rest is of the greater rank
pub put_ranked : (x up : Rest) (op k : ℕ) → rest_rank x ≡ max op (rest_rank up) → op ≤ k → rest_rank up ≤ k → rest_rank x ≤ k
put_ranked x up op k e l m = subst (λ (n : ℕ). n ≤ k) (sym e) (max-le l m)

-- a member of an operator's list, with those after it, keeps the rank of the operator
pub member_ranked : (x : Head) (r : Rc Rest Global) (op : ℕ) (up : Rest) → head_rank x ≤ op → rest_rank r.value ≡ max op (rest_rank up) → KeepsRank op up (At (Item x r))
member_ranked x r op up h e k l m = (omega (arith, h, l), put_ranked r.value up op k e l m)

-- a site that is within a rank is within a greater rank
pub gives_ranked : (j k : ℕ) → j ≤ k → (r : Option Site) → GivesRanked j r → GivesRanked k r
gives_ranked j k l None h = tt
gives_ranked j k l (Some Root) h = absurd h
gives_ranked j k l (Some (Inside s p)) h = absurd h
gives_ranked j k l (Some (Item x r)) h = (let a = h.0 in omega (arith, a, l), let b = h.1 in omega (arith, b, l))

-- THE WEIGHTS OF THE SOURCES

-- the weights of the roots of the sources below n are the same after a call
roots_kept : (a b : View) → KeepsView a b → (n : ℕ) → ((s : ℕ) → s < n → a.knows s (a.root s) ≡ true) → roots_weight b n ≡ roots_weight a n
roots_kept a b k zero h = refl
roots_kept a b k (suc n) h =
    let w : b.weight n (b.root n) ≡ a.weight n (a.root n) = ap (b.weight n) (k.root n) ∙ k.weight n (a.root n) (h n (omega arith)) in
    let rest = roots_kept a b k n (λ s l. h s (omega (arith, l))) in
    ap (λ (x : ℕ). x + roots_weight b n) w ∙ ap (λ (x : ℕ). a.weight n (a.root n) + x) rest

-- no call changes what the roots of the sources weigh
pub roots_same : (v w : View) (b c : Bench) → KeepsView v w → IsBenchOf v b → roots_of (state_of w c) ≡ roots_of (state_of v b)
roots_same v w b c k h = ap (roots_weight w) k.count ∙ roots_kept v w k v.count h.bench.roots

-- what lies below a spot weighs no more
pub below_low : (v : View) (b : Bench) → IsBenchOf v b → (s : ℕ) (p : Spot) → IsSpotAt (state_of v b) s p → below_at (state_of v b) s p ≤ roots_of (state_of v b)
below_low v b h s p k =
    let z = h.bench.sources s k.known.buffer k.known.there in
    let l = z.1.light p k.known.spot in
    let e = ap (of_buffer 0 (λ (c : Buffer). below v c p)) k.known.there in
    let r = root_light v (number_of k.known.buffer) v.count z.1.count in
    omega (arith, l, e, r)

-- HEIGHTS

-- a spot that a step reached is lower than the step's bound
pub spot_lower : (a b : BenchState) (s : ℕ) (f : Forest) (there : Option (List ℕ)) (top : ℕ) (q : Spot) → IsSpotFor a b s f there top q → site_height b (Inside s q) < top
spot_lower a b s f there top q h = h.falls

-- a member of a list of this rank
pub ranked_lower : (a b : BenchState) (k : ℕ) → roots_of b ≡ roots_of a → (r : Option Site) → GivesRanked k r → IsLower (roots_of a + suc k) b r
ranked_lower a b k e None h = tt
ranked_lower a b k e (Some Root) h = absurd h
ranked_lower a b k e (Some (Inside s p)) h = absurd h
ranked_lower a b k e (Some (Item x r)) h = let m = max-le h.0 h.1 in omega (arith, e, m)

-- what is lower than a number is lower than any greater one
pub lower_more : (b : BenchState) (m n : ℕ) → m ≤ n → (r : Option Site) → IsLower m b r → IsLower n b r
lower_more b m n l None h = tt
lower_more b m n l (Some x) h = omega (arith, l, h)

-- a member of the trees after another is no higher than that other
pub ranked_after : (a b : BenchState) (x : Head) (k : ℕ) → roots_of b ≡ roots_of a → (r : Option Site) → GivesRanked k r → IsNoHigher (roots_of a + max (head_rank x) k) b r
ranked_after a b x k e None h = tt
ranked_after a b x k e (Some Root) h = absurd h
ranked_after a b x k e (Some (Inside s p)) h = absurd h
ranked_after a b x k e (Some (Item y r)) h = let m = max-le h.0 h.1 in let n = le-max_right (head_rank x) k in omega (arith, e, m, n)

-- what is lower is no higher
pub lower_no_higher : (b : BenchState) (m n : ℕ) → m ≤ n → (r : Option Site) → IsLower m b r → IsNoHigher n b r
lower_no_higher b m n l None h = tt
lower_no_higher b m n l (Some x) h = omega (arith, l, h)

-- no call raises the height of an identifier
pub heights_kept : (a b : BenchState) → KeepsBench a b → roots_of b ≡ roots_of a → (n : Site) → IsSite a n → site_height b n ≤ site_height a n
heights_kept a b k e Root h = let l = ap (λ (p : Plan). length (plan_value p).ops) k.plan in omega (arith, e, l)
heights_kept a b k e (Inside s p) h = let z = k.spots s p h in let x = z.below in let y = z.after in omega (arith, x, y)
heights_kept a b k e (Item x r) h = omega (arith, e)
