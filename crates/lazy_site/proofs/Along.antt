-- Ways down to where values are made.
use Rattle.std.proofs.Common.{◌≡◌, ◌<◌, ◌≤◌, ℕ, List, Some, refl, ◌∙◌, sym, ap, subst, arith}
use Rattle.plan_core.specs.declared.plan.Plan.{Plan}
use Rattle.plan_core.specs.PlanMade.{plan_value}
use Rattle.plan_core.specs.Plans.{Operator}
use Rattle.plan_core.specs.TolledRows.{TolledRow, tolled_value}
use Rattle.plan_core.specs.Valid.{kinds}
use Rattle.lazy_plan.specs.Bench.{BenchState, ops_of, size_of, IsCursor, binding_at, IsUnder, KeepsBench}
use Rattle.lazy_binding.specs.declared.position.Position.{Position}
use Rattle.lazy_site.specs.Sizes.{size, extent}
use Rattle.lazy_site.specs.Origins.{IsPassedOn, PassesAll}
use Rattle.lazy_site.specs.Ways.{IsHeldAt, IsBelow, IsWay, IsWays, foot_op, foot_at}
use Rattle.lazy_site.specs.declared.ways.Way.{Way, Top, Below'}
use Rattle.lazy_site.specs.declared.ways.Ways.{Ways}

-- a value that is held at a cursor is held at that cursor itself
pub held_here : (st : BenchState) (n v : ℕ) (c d : Position) → d ≡ c → IsCursor st n c → IsHeldAt st n c v n d
held_here st n v c d e h = subst (λ (x : Position). IsHeldAt st n c v n x) (sym e) (record { within = omega arith; cursor = h; value = refl; kind = refl; size = omega arith; extent = omega arith })

-- a value is where the value is that is held further down
held_twice : (st : BenchState) (n v m i : ℕ) (c d e : Position) → IsHeldAt st n c v m d → IsHeldAt st m d v i e → IsHeldAt st n c v i e
held_twice st n v m i c d e g h = record {
  within = (let x = g.within in let y = h.within in omega (arith, x, y));
  cursor = h.cursor;
  value = g.value ∙ h.value;
  kind = g.kind ∙ h.kind;
  size = (let x = g.size in let y = h.size in omega (arith, x, y));
  extent = (let x = g.extent in let y = h.extent in omega (arith, x, y));
}

-- a value that is passed on is that of the input's binding
held_under : (st : BenchState) (n i v : ℕ) (c d : Position) → IsPassedOn st.plan n v i → IsUnder st n c i d → IsHeldAt st n c v i d
held_under st n i v c d p u = record {
  within = (let x = p.within in omega (arith, x));
  cursor = u.cursor;
  value = p.value st.world (binding_at st n c) (binding_at st i d) _ u.made;
  kind = p.kind;
  size = p.size;
  extent = p.extent (size_of st);
}

-- a value that is passed on is where that of the input is
pub held_below : (st : BenchState) (n i v m : ℕ) (c d e : Position) → IsPassedOn st.plan n v i → IsUnder st n c i d → IsHeldAt st i d v m e → IsHeldAt st n c v m e
held_below st n i v m c d e p u h = held_twice st n v i m c d e (held_under st n i v c d p u) h

-- a way goes on to a cursor of an input from which its lowest cursor has all values
pub below_on : (st : BenchState) (n m i : ℕ) (c d e : Position) → IsBelow st n c m d → i < m → PassesAll st.plan m i → IsUnder st m d i e → IsBelow st n c i e
below_on st n m i c d e b l all u = record {
  within = (let x = b.within in omega (arith, x, l));
  cursor = u.cursor;
  held = λ v k h. (let p = all v k h in held_twice st n v m i c d e (b.held v k (p.kind ∙ h)) (held_under st m i v d e p u));
}

-- a cursor has all values from itself
pub below_here : (st : BenchState) (n : ℕ) (c : Position) → IsCursor st n c → IsBelow st n c n c
below_here st n c h = record { within = omega arith; cursor = h; held = λ v k e. held_here st n v c c refl h }

-- what is below a cursor that is below another is below that one
pub below_twice : (st : BenchState) (n m i : ℕ) (c d e : Position) → IsBelow st n c m d → IsBelow st m d i e → IsBelow st n c i e
below_twice st n m i c d e b a = record {
  within = (let x = b.within in let y = a.within in omega (arith, x, y));
  cursor = a.cursor;
  held = λ v k h. (let x = a.held v k h in held_twice st n v m i c d e (b.held v k (x.kind ∙ h)) x);
}

-- the lowest cursor of a way is below the uppermost
pub foot_below : (st : BenchState) (n : ℕ) (c : Position) → IsCursor st n c → (w : Way) → IsWay st n c w → IsBelow st n c (foot_op w) (foot_at w)
foot_below st n c h (Top op at) i =
    subst (λ (m : ℕ). IsBelow st n c m at) (sym i.0)
    (subst (λ (d : Position). IsBelow st n c n d) (sym i.1) (below_here st n c h))
foot_below st n c h (Below' op at q above) i = i.0

-- what holds of the lowest cursor of a way holds of it by another name
pub at_foot : (P : ℕ → Position → Type 0) (w : Way) (m : ℕ) (d : Position) → m ≡ foot_op w → d ≡ foot_at w → P (foot_op w) (foot_at w) → P m d
at_foot P w m d e f h = subst (λ (j : ℕ). P j d) (sym e) (subst (λ (x : Position). P (foot_op w) x) (sym f) h)

-- a property of the operator and cursor that are read off a way is one of its lowest cursor
pub of_foot : (P : ℕ → Position → Type 0) (w : Way) (m : ℕ) (d : Position) → m ≡ foot_op w → d ≡ foot_at w → P m d → P (foot_op w) (foot_at w)
of_foot P w m d e f h = subst (λ (j : ℕ). P j (foot_at w)) e (subst (λ (x : Position). P m x) f h)

module _ (st : BenchState) (n : ℕ) (c : Position) (h : IsCursor st n c) (w : Way) (k : IsWay st n c w) (m : ℕ) (d : Position) (e : m ≡ foot_op w) (f : d ≡ foot_at w) where
  -- the lowest cursor of a way is below the uppermost, where operator and cursor are read off the way
  foot_is : IsBelow st n c m d
  foot_is = at_foot (IsBelow st n c) w m d e f (foot_below st n c h w k)

  -- a way with one cursor of an input more below, from which the lowest one has all values, is a way
  pub way_on : (i : ℕ) (g : Position) → i < m → PassesAll st.plan m i → (IsCursor st m d → IsUnder st m d i g) → (x u : Way) (q : _) → x ≡ Below' i g q u → u ≡ w → IsWay st n c x
  way_on i g l all u x y q is same =
      subst (λ (z : Way). IsWay st n c z) (sym (is ∙ ap (λ (z : Way). Below' i g q z) same)) (below_on st n m i c d g foot_is l all (u foot_is.cursor), k)

module _ (a b : BenchState) (k : KeepsBench a b) where
  -- the operators of the plan are the same after a call
  ops_same : ops_of b ≡ ops_of a
  ops_same = ap (λ (p : Plan). (plan_value p).ops) k.plan

  -- the whole number of each operator is the same after a call
  sizes_same : ◌≡◌ {A = ℕ → ℕ} (size_of b) (size_of a)
  sizes_same = λ i n. k.size n i

  -- a value that is held further down from a cursor is held there after a call
  held-kept : (n : ℕ) (c : Position) → IsCursor a n c → (v m : ℕ) (d : Position) → IsHeldAt a n c v m d → IsHeldAt b n c v m d
  held-kept n c h v m d i =
      let s = k.cursors n c h in let t = k.cursors m d i.cursor in
      record {
        within = i.within;
        cursor = t.cursor;
        value = ap (λ (row : TolledRow). tolled_value row v) s.binding ∙ i.value ∙ sym (ap (λ (row : TolledRow). tolled_value row v) t.binding);
        kind = subst (λ (ops : List Operator). kinds ops n v ≡ kinds ops m v) (sym ops_same) i.kind;
        size = subst (λ (ops : List Operator). size ops m v ≤ size ops n v) (sym ops_same) i.size;
        extent = subst (λ (f : ℕ → ℕ). extent f (ops_of b) m v ≤ extent f (ops_of b) n v) (sym sizes_same)
            (subst (λ (ops : List Operator). extent (size_of a) ops m v ≤ extent (size_of a) ops n v) (sym ops_same) i.extent);
      }

  -- a cursor further down that has all values is so after a call
  pub below-kept : (n : ℕ) (c : Position) → IsCursor a n c → (m : ℕ) (d : Position) → IsBelow a n c m d → IsBelow b n c m d
  below-kept n c h m d i = record {
    within = i.within;
    cursor = (k.cursors m d i.cursor).cursor;
    held = λ v j e. held-kept n c h v m d (i.held v j (subst (λ (ops : List Operator). kinds ops m v ≡ Some j) ops_same e));
  }

  -- a way from a cursor is one from it after a call
  IsWay-kept : (n : ℕ) (c : Position) → IsCursor a n c → (w : Way) → IsWay a n c w → IsWay b n c w
  IsWay-kept n c h (Top op at) i = i
  IsWay-kept n c h (Below' op at q above) i = (below-kept n c h op at i.0, IsWay-kept n c h above i.1)

  -- two ways from a cursor are from it still after a call
  pub IsWays-kept : (n : ℕ) (c : Position) → IsCursor a n c → (w : Ways) → IsWays a n c w → IsWays b n c w
  IsWays-kept n c h w i = (IsWay-kept n c h w.last.value i.0, IsWay-kept n c h w.lowest.value i.1)
