-- Sources beside others keep what each keeps.
use Rattle.std.proofs.Common.{◌≡◌, ◌≤◌, ◌+◌, ◌-◌, ℕ, Bool, true, false, ap, sym, subst, ◌∙◌}
use Rattle.std.specs.Prelude.{nat_lt, cond}
use Rattle.mix_tree.specs.Forest.{Forest}
use Rattle.lxp_core.specs.declared.open_tree.HoleId.{HoleId}
use Rattle.lxp_core.specs.Fill.{Piecewise, source_of}
use Rattle.lxp_core.specs.View.{View, Keeps}
use Rattle.view_stack.specs.Beside.{beside}

module _ (v v' w w' : View) (x : Keeps v v') (y : Keeps w w') where
  module _ (s : ℕ) where
    -- a source is one of the first view exactly where it was
    test_same : nat_lt s v'.count ≡ nat_lt s v.count
    test_same = ap (nat_lt s) x.count

    -- the number of a source among those of the second view stays
    number_same : s - v'.count ≡ s - v.count
    number_same = ap (λ (n : ℕ). s - n) x.count

    -- the root of a source stays
    root_kept : (b : Bool) → cond b (v'.root s) (w'.root (s - v'.count)) ≡ cond b (v.root s) (w.root (s - v.count))
    root_kept true = x.root s
    root_kept false = ap w'.root number_same ∙ y.root (s - v.count)

    -- a source tells its document exactly where it did
    told_kept : (b : Bool) → cond b (v'.told s) (w'.told (s - v'.count)) ≡ cond b (v.told s) (w.told (s - v.count))
    told_kept true = x.told s
    told_kept false = ap w'.told number_same ∙ y.told (s - v.count)

    -- a source is forward exactly where it was
    forward_kept : (b : Bool) → cond b (v'.forward s) (w'.forward (s - v'.count)) ≡ cond b (v.forward s) (w.forward (s - v.count))
    forward_kept true = x.forward s
    forward_kept false = ap w'.forward number_same ∙ y.forward (s - v.count)

    -- whether the lists of a source are small stays
    small_kept : (b : Bool) → cond b (v'.small s) (w'.small (s - v'.count)) ≡ cond b (v.small s) (w.small (s - v.count))
    small_kept true = x.small s
    small_kept false = ap w'.small number_same ∙ y.small (s - v.count)

    -- the count of faults of a source doesn't fall
    faults_kept : (b : Bool) → cond b (v.faults s) (w.faults (s - v.count)) ≤ cond b (v'.faults s) (w'.faults (s - v'.count))
    faults_kept true = x.faults s
    faults_kept false = subst (λ (n : ℕ). w.faults (s - v.count) ≤ w'.faults n) (sym number_same) (y.faults (s - v.count))

    module _ (h : HoleId) where
      -- a hole that was known is known
      knows_kept : (b : Bool) → cond b (v.knows s) (w.knows (s - v.count)) h ≡ true → cond b (v'.knows s) (w'.knows (s - v'.count)) h ≡ true
      knows_kept true k = x.knows s h k
      knows_kept false k = ap (λ (n : ℕ). w'.knows n h) number_same ∙ y.knows (s - v.count) h k

      -- a hole that was known stands for the same trees
      forest_kept : (b : Bool) → cond b (v.knows s) (w.knows (s - v.count)) h ≡ true → cond b (v'.forest s) (w'.forest (s - v'.count)) h ≡ cond b (v.forest s) (w.forest (s - v.count)) h
      forest_kept true k = x.forest s h k
      forest_kept false k = ap (λ (n : ℕ). w'.forest n h) number_same ∙ y.forest (s - v.count) h k

      -- a hole that was known weighs the same
      weight_kept : (b : Bool) → cond b (v.knows s) (w.knows (s - v.count)) h ≡ true → cond b (v'.weight s) (w'.weight (s - v'.count)) h ≡ cond b (v.weight s) (w.weight (s - v.count)) h
      weight_kept true k = x.weight s h k
      weight_kept false k = ap (λ (n : ℕ). w'.weight n h) number_same ∙ y.weight (s - v.count) h k

  -- sources beside others keep what every call keeps where each of the two does
  pub beside_keeps : Keeps (beside v w) (beside v' w')
  beside_keeps = record {
    count = ap (λ (n : ℕ). n + w'.count) x.count ∙ ap (λ (n : ℕ). v.count + n) y.count;
    root = λ s. ap (λ (b : Bool). cond b (v'.root s) (w'.root (s - v'.count))) (test_same s) ∙ root_kept s (nat_lt s v.count);
    told = λ s. ap (λ (b : Bool). cond b (v'.told s) (w'.told (s - v'.count))) (test_same s) ∙ told_kept s (nat_lt s v.count);
    forward = λ s. ap (λ (b : Bool). cond b (v'.forward s) (w'.forward (s - v'.count))) (test_same s) ∙ forward_kept s (nat_lt s v.count);
    small = λ s. ap (λ (b : Bool). cond b (v'.small s) (w'.small (s - v'.count))) (test_same s) ∙ small_kept s (nat_lt s v.count);
    knows = λ s h k. ap (λ (b : Bool). cond b (v'.knows s) (w'.knows (s - v'.count)) h) (test_same s) ∙ knows_kept s h (nat_lt s v.count) k;
    forest = λ s h k. ap (λ (b : Bool). cond b (v'.forest s) (w'.forest (s - v'.count)) h) (test_same s) ∙ forest_kept s h (nat_lt s v.count) k;
    weight = λ s h k. ap (λ (b : Bool). cond b (v'.weight s) (w'.weight (s - v'.count)) h) (test_same s) ∙ weight_kept s h (nat_lt s v.count) k;
    fills = y.fills;
    faults = λ s. subst (λ (b : Bool). cond (nat_lt s v.count) (v.faults s) (w.faults (s - v.count)) ≤ cond b (v'.faults s) (w'.faults (s - v'.count))) (sym (test_same s)) (faults_kept s (nat_lt s v.count));
  }

module _ (v w : View) (s : ℕ) where
  -- the document of a source of the first view or of the second, chosen by a test
  chosen : Bool → Piecewise
  chosen b = record {
    told = cond b (v.told s) (w.told (s - v.count));
    knows = cond b (v.knows s) (w.knows (s - v.count));
    forest = cond b (v.forest s) (w.forest (s - v.count));
    weight = cond b (v.weight s) (w.weight (s - v.count));
    forward = cond b (v.forward s) (w.forward (s - v.count));
    small = cond b (v.small s) (w.small (s - v.count));
    faults = cond b (v.faults s) (w.faults (s - v.count));
  }

  -- a source of the first view has its document
  pub source_first : nat_lt s v.count ≡ true → source_of (beside v w) s ≡ source_of v s
  unfolding chosen
  source_first e = ap chosen e

  -- a source of the second view has its document
  pub source_second : nat_lt s v.count ≡ false → source_of (beside v w) s ≡ source_of w (s - v.count)
  unfolding chosen
  source_second e = ap chosen e
