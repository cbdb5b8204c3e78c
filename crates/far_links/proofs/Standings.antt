-- What far sources over lines mean, as the lines come on.
use Rattle.std.proofs.Common.{◌≡◌, ◌≤◌, ◌-◌, ◌^◌, ◌∙◌, ℕ, Bool, true, false, refl}
use Rattle.std.specs.Prelude.{◌||◌, not, if◌then◌else◌}
use Rattle.lxp_core.specs.Open.{Open, AllHoles, weight_of}
use Rattle.lxp_core.specs.View.{Keeps}
use Rattle.lxp_core.proofs.Opens.{AllHoles-weaker, weight_of-same}
use Rattle.lxp_remote.specs.Remotes as remote
use Rattle.lxp_remote.specs.Remotes.{Remoting}
use Rattle.far_keep.specs.declared.far_source.FarSource.{FarSource}
use Rattle.far_keep.specs.Names.{is_far_root}
use Rattle.far_keep.specs.Views.{KeepsFars}
use Rattle.far_links.specs.Holes.{is_below}
use Rattle.far_links.specs.Standing.{Standing, opened, KeepsLine, knows, knows_in, weight, weight_in, fars_view}

-- a line keeps itself
pub line_same : (v : Standing) → KeepsLine v v
line_same v = record { knows = λ s h k. k; weight = λ s h k. refl }

-- what is kept to a second state and from there to a third is kept from the first to the third
pub line_after : (a b c : Standing) → KeepsLine a b → KeepsLine b c → KeepsLine a c
line_after a b c x y = record {
  knows = λ s h k. y.knows s h (x.knows s h k);
  weight = λ s h k. y.weight s h (x.knows s h k) ∙ x.weight s h k;
}

-- sources that keep what sources keep keep their line
pub opened_kept : (q r : Remoting) → Keeps (remote.view_of q) (remote.view_of r) → KeepsLine (opened q) (opened r)
opened_kept q r keeps = record { knows = λ s h k. keeps.knows s h k; weight = λ s h k. keeps.weight s h k }

-- what holds beside one thing holds beside it where it held before
beside : (a b c : Bool) → (b ≡ true → c ≡ true) → (a || b) ≡ true → (a || c) ≡ true
beside true b c h e = refl
beside false b c h e = h e

-- a weight that is no other thing's stays
weighs_beside : (a b : Bool) (n m x : ℕ) → (b ≡ true → n ≡ m) → (a || b) ≡ true → (if a then x else n) ≡ (if a then x else m)
weighs_beside true b n m x h e = refl
weighs_beside false b n m x h e = h e

-- where each line is kept and no count of faults falls, far sources keep what every call keeps
pub fars_kept : (old new : FarSource → Standing) (before after : FarSource → ℕ) → ((far : FarSource) → KeepsLine (old far) (new far)) → ((far : FarSource) → before far ≤ after far)
    → KeepsFars (fars_view old before) (fars_view new after)
fars_kept old new before after keeps rises = record {
  told = λ far. refl;
  knows = λ far h k. beside (is_far_root h) (knows_in (old far) far.number h) (knows_in (new far) far.number h) ((keeps far).knows far.number h) k;
  forest = λ far h k. refl;
  weight = λ far h k.
      weighs_beside (is_far_root h) (knows_in (old far) far.number h) (weight_in (new far) far.number h) (weight_in (old far) far.number h) (2 ^ 128 - 1) ((keeps far).weight far.number h) k;
  faults = rises;
}

-- what holds of one thing holds of it or another
or_second : (a b : Bool) → b ≡ true → (a || b) ≡ true
or_second true b e = refl
or_second false b e = e

-- holes that a source is known to have are known
pub all_known : (v : Standing) (s : ℕ) (o : Open) → AllHoles (knows_in v s) o → AllHoles (knows v s) o
all_known v s = AllHoles-weaker (knows_in v s) (knows v s) (λ h k. or_second (is_far_root h) (knows_in v s h) k)

-- what isn't doesn't weigh in
else_weight : (a : Bool) (n m : ℕ) → not a ≡ true → (if a then n else m) ≡ m
else_weight true n m e = absurd cc
else_weight false n m e = refl

-- a list of holes that are none of a whole document weighs what its holes do
pub weighs_below : (v : Standing) (s : ℕ) (o : Open) → AllHoles is_below o → weight_of (weight v s) o ≡ weight_of (weight_in v s) o
weighs_below v s o below = weight_of-same is_below (weight_in v s) (weight v s) (λ h e. else_weight (is_far_root h) (2 ^ 128 - 1) (weight_in v s h) e) o below
