-- What names hold in two ways at once.
use Rattle.std.proofs.Common.{◌≡◌, Bool, true, false, cond, ◌&&◌, List, ℕ, Option, Some, None, refl, subst}
use Rattle.std.specs.Str.{bytes_eq}
use Rattle.mix_script.specs.Names.{NamesOf, no_names, with_name}
use Rattle.mix_script.specs.Holding.{Both, HoldBoth}

module _ {V W : Type 0} where
  -- names that hold nothing hold it in both ways
  pub hold_none : (With : V → W → Type 0) → HoldBoth With no_names no_names
  hold_none With client name = tt

  -- where one name is given, in both ways, what goes together, names still hold what goes together
  pub hold_with : (With : V → W → Type 0) (vs : NamesOf V) (ws : NamesOf W) (client name : List ℕ) (v : Option V) (w : Option W) → HoldBoth With vs ws → Both With v w
      → HoldBoth With (with_name vs client name v) (with_name ws client name w)
  hold_with With vs ws client name v w hold both c n = at (bytes_eq client c && bytes_eq name n)
    where
      at : (b : Bool) → Both With (cond b v (vs c n)) (cond b w (ws c n))
      at true = both
      at false = hold c n

  -- what goes together goes together in a weaker sense
  both_weaker : (With Weaker : V → W → Type 0) (o : Option V) (p : Option W) → ((v : V) (w : W) → With v w → Weaker v w) → Both With o p → Both Weaker o p
  both_weaker With Weaker None None f h = tt
  both_weaker With Weaker None (Some w) f h = h
  both_weaker With Weaker (Some v) None f h = h
  both_weaker With Weaker (Some v) (Some w) f h = f v w h

  -- names hold what goes together in a weaker sense
  pub hold_weaker : (With Weaker : V → W → Type 0) (vs : NamesOf V) (ws : NamesOf W) → ((v : V) (w : W) → With v w → Weaker v w) → HoldBoth With vs ws → HoldBoth Weaker vs ws
  hold_weaker With Weaker vs ws f hold c n = both_weaker With Weaker (vs c n) (ws c n) f (hold c n)

  -- where nothing is, nothing goes together with it
  pub none_other : (With : V → W → Type 0) (o : Option V) (p : Option W) → o ≡ None → Both With o p → p ≡ None
  none_other With None None e h = refl
  none_other With None (Some w) e h = absurd h
  none_other With (Some v) p e h = cc

  -- where something is, something goes together with it
  pub some_other : (With : V → W → Type 0) (o : Option V) (p : Option W) (v : V) → o ≡ Some v → Both With o p → (w : W) × (p ≡ Some w) × With v w
  some_other With None p v e h = cc
  some_other With (Some u) None v e h = absurd h
  some_other With (Some u) (Some w) v e h = let same : u ≡ v = cc in (w, refl, subst (λ x. With x w) same h)
