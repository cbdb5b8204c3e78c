-- Sums of the counts of sources that rose.
use Rattle.std.proofs.Common.{◌≡◌, ◌⊎◌, ◌+◌, ◌-◌, ◌^◌, ◌<◌, ◌≤◌, inl, inr, min, ℕ, zero, suc, Bool, true, false, cond, List, [], Option, Some, None, refl, ap, arith, length, slice_get}
use Rattle.std.proofs.Math.Path.{fun_ext}
use Rattle.std.specs.List.{list_any}
use Rattle.std.proofs.lemmas.Bool.{cases_lt}
use Rattle.mix_base.specs.Counts.{HasRisenBy}
use Rattle.mix_catalog.specs.declared.source.SourceSpec.{SourceSpec}
use Rattle.mix_catalog.specs.Sources.{base_of}
use Rattle.far_keep.specs.declared.far_source.FarSource.{FarSource}
use Rattle.far_keep.specs.Views.{FarsView, KeepsFars}
use Rattle.mix_reach.specs.Reach.{CameFrom, Reaching}
use Rattle.mix_reach.specs.Stores.{stores_of}
use Rattle.mix_place.specs.Documents.{far_in}
use Rattle.table_keep.specs.Views.{Declared, KeepsTables, TablesView}
use Rattle.table_wrap.specs.Document.{declared_in}
use Rattle.plan_core.specs.Plans.{Operator}
use Rattle.plan_core.specs.Shapes.{Shape, one_source, visits_below, pairs_up, passes_on, no_events, shape_of}
use Rattle.lazy_binding.specs.Cursors.{source_number}
use Rattle.view_class.specs.Reads.{reads_source, shape_reads}
use Rattle.view_stack.specs.Stacks.{is_source, names, sum_below}
use Rattle.view_stack.proofs.Faults.{sum_more}
use Rattle.mix_run.specs.Answered.{far_faults, spec_faults, table_faults}
use Rattle.mix_run.specs.Question.{Question}
use Rattle.mix_run.proofs.Answering.{AreCounted}

-- THE SOURCES THAT OPERATORS READ

-- a shape reads the source whose number it has, and no other
shape_names : (s : ℕ) (f : Shape) → is_source s (source_number f) ≡ shape_reads s f
shape_names s (one_source number out) = refl
shape_names s (visits_below input start path out) = refl
shape_names s (pairs_up left right tests) = refl
shape_names s (passes_on input stage) = refl
shape_names s (no_events input made) = refl

-- the sources that operators name are those that they read
pub names_read : (ops : List Operator) → names ops ≡ reads_source ops
names_read ops = fun_ext (λ s. ap (λ (p : Operator → Bool). list_any p ops) (fun_ext (λ o. shape_names s (shape_of o))))

-- COUNTS THAT DO NOT FALL

-- a declared table failed later at least as often
table_grows : (old new : TablesView) → KeepsTables old new → (o : Option Declared) → table_faults old o ≤ table_faults new o
table_grows old new k None = omega arith
table_grows old new k (Some d) = k.faults d

-- a source of another machine failed later at least as often
far_grows : (old new : FarsView) → KeepsFars old new → (o : Option FarSource) → far_faults old o ≤ far_faults new o
far_grows old new k None = omega arith
far_grows old new k (Some far) = k.faults far

-- a source failed later at least as often
pub spec_grows : (a b : Reaching) → CameFrom a b → (r : Option SourceSpec) → spec_faults (stores_of a) r ≤ spec_faults (stores_of b) r
spec_grows a b came None = omega arith
spec_grows a b came (Some spec) =
    let t = table_grows a.mounted.tables b.mounted.tables came.mounted.tables (declared_in spec.kind) in
    let f = far_grows a.fars b.fars came.fars (far_in spec.kind) in
    omega (arith, t, f)

-- where nothing was answered, nothing is marked
pub none_counted : (a b : Reaching) → CameFrom a b → (q : Question) → AreCounted a b q []
none_counted a b came q = record {
  tables = λ s d i. (let kept = came.mounted.tables.faults d in omega (arith, kept));
  fars = λ s far i. (let kept = came.fars.faults far in omega (arith, kept));
  views = λ i ops at. (
      let base = base_of q.sources in
      let grows = sum_more (reads_source ops) (λ s. spec_faults (stores_of a) (slice_get base s)) (λ s. spec_faults (stores_of b) (slice_get base s))
      (λ s. spec_grows a b came (slice_get base s)) (length base) in
      omega (arith, grows));
}

-- COUNTS THAT ROSE TOGETHER

-- what rose so many times rose by so much, or stands at its end
risen_or : (times a a' : ℕ) → HasRisenBy times a a' → (a + times ≤ a') ⊎ (2 ^ 64 - 1 ≤ a')
risen_or times a a' h =
    elim (cases_lt (a + times) (2 ^ 64 - 1)) as (λ _. (a + times ≤ a') ⊎ (2 ^ 64 - 1 ≤ a')) [
      | inl low ↦ inl (omega (arith, h, low))
      | inr high ↦ inr (omega (arith, h, high))
    ]

-- two pairs of counts, of which the second rose by at least as much as the first, or stands at its end, and was at least as great before
pub record RoseAtLeast (v v' a a' : ℕ) : Type 0 where
  pub rose : (a + v' ≤ a' + v) ⊎ (2 ^ 64 - 1 ≤ a')
  pub earlier : v ≤ a
  pub kept : v ≤ v'
  pub kept' : a ≤ a'

-- what rose each time that another count did rose by at least as much
pub rose_at_least : (v v' a a' : ℕ) → ((times : ℕ) → HasRisenBy times v v' → HasRisenBy times a a') → v ≤ a → v ≤ v' → a ≤ a' → RoseAtLeast v v' a a'
rose_at_least v v' a a' h earlier kept kept' = record { rose = so (risen_or (v' - v) a a' (h (v' - v) (omega (arith, kept)))); earlier = earlier; kept = kept; kept' = kept' }
  where
    so : (a + (v' - v) ≤ a') ⊎ (2 ^ 64 - 1 ≤ a') → (a + v' ≤ a' + v) ⊎ (2 ^ 64 - 1 ≤ a')
    so (inl r) = inl (omega (arith, r, kept))
    so (inr r) = inr r

-- sums of counts that rose at least so rose so
rose_sum : (v v' a a' w w' b b' : ℕ) → RoseAtLeast v v' a a' → RoseAtLeast w w' b b' → RoseAtLeast (v + w) (v' + w') (a + b) (a' + b')
rose_sum v v' a a' w w' b b' x y = record {
  rose = so x.rose y.rose;
  earlier = (let p = x.earlier in let q = y.earlier in omega (arith, p, q));
  kept = (let p = x.kept in let q = y.kept in omega (arith, p, q));
  kept' = (let p = x.kept' in let q = y.kept' in omega (arith, p, q));
}
  where
    so : (a + v' ≤ a' + v) ⊎ (2 ^ 64 - 1 ≤ a') → (b + w' ≤ b' + w) ⊎ (2 ^ 64 - 1 ≤ b') → ((a + b) + (v' + w') ≤ (a' + b') + (v + w)) ⊎ (2 ^ 64 - 1 ≤ a' + b')
    so (inl p) (inl q) = inl (omega (arith, p, q))
    so (inl p) (inr q) = inr (omega (arith, q))
    so (inr p) q = inr (omega (arith, p))

-- nothing rose at least as nothing did
none_rose : RoseAtLeast 0 0 0 0
none_rose = record { rose = inl (omega arith); earlier = omega arith; kept = omega arith; kept' = omega arith }

-- the sum of counts that pass a test rose at least as that of others, where each that passes it did
pub sums_rose : (test : ℕ → Bool) (v v' a a' : ℕ → ℕ) (n : ℕ) → ((s : ℕ) → s < n → test s ≡ true → RoseAtLeast (v s) (v' s) (a s) (a' s))
    → RoseAtLeast (sum_below test v n) (sum_below test v' n) (sum_below test a n) (sum_below test a' n)
sums_rose test v v' a a' zero h = none_rose
sums_rose test v v' a a' (suc n) h =
    rose_sum (cond (test n) (v n) 0) (cond (test n) (v' n) 0) (cond (test n) (a n) 0) (cond (test n) (a' n) 0) (sum_below test v n) (sum_below test v' n) (sum_below test a n) (sum_below test a' n)
    ((elim (test n) as (λ b. test n ≡ b → RoseAtLeast (cond b (v n) 0) (cond b (v' n) 0) (cond b (a n) 0) (cond b (a' n) 0)) [ true ↦ λ is. h n (omega arith) is | false ↦ λ no. none_rose ]) refl)
    (sums_rose test v v' a a' n (λ s less is. h s (omega (arith, less)) is))

-- what rose so many times as a count that stops at its end rose so many times itself, and what rose at least as it too
pub stopped_rose : (times v v' a a' : ℕ) → RoseAtLeast v v' a a' → HasRisenBy times (min v (2 ^ 64 - 1)) (min v' (2 ^ 64 - 1)) → HasRisenBy times a a'
stopped_rose times v v' a a' r h = so r.rose
  where
    so : (a + v' ≤ a' + v) ⊎ (2 ^ 64 - 1 ≤ a') → HasRisenBy times a a'
    so (inl p) = (let e = r.earlier in let k = r.kept in omega (arith, h, p, e, k))
    so (inr p) = omega (arith, p)
