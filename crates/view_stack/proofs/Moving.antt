-- What fills leave of a stack of views.
use Rattle.std.proofs.Common.{◌≡◌, ◌≤◌, ◌<◌, ◌+◌, ◌*◌, ◌-◌, ◌^◌, ◌⊎◌, inl, inr, ℕ, zero, suc, List, [], ◌∷◌, ◌++◌, Option, Some, None, length, set, min, refl, ap, sym, subst, ◌∙◌, arith}
use Rattle.std.specs.Prelude.{slice_get, get_or, option_map}
use Rattle.std.specs.List.{AllByRecursion}
use Rattle.std.proofs.lemmas.Bool.{cases_eq}
use Rattle.std.proofs.lemmas.List.{get_or-set_same, get_or-set_other, length-set, set-get_or, get_or_default}
use Rattle.mix_base.proofs.Lists.{append_nil}
use Rattle.lxp_core.proofs.Views.{keeps_same}
use Rattle.lxp_core.specs.View.{View, Keeps}
use Rattle.lazy_walk.specs.declared.walk.Walk.{Walk}
use Rattle.lazy_walk.specs.Walks.{state_of, plan_of, IsWalkOf}
use Rattle.view_stack.specs.declared.layers.Layers.{Layers}
use Rattle.view_stack.specs.declared.layers.Served.{Served}
use Rattle.view_stack.specs.Stacks.{stacking_in, view_at, plans_of}
use Rattle.view_stack.specs.Steps.{KeepsViews, Stands, IsServed, AreSound, ViewGoes, Goes, Moved, CameFrom, Stepped, IsViewOver}
use Rattle.view_stack.proofs.Views.{served_goes, plan_at, plans_kept, stack_keeps}

-- MEMBERS OF LISTS

-- a member of one list after another is one of the first or one of the second
split_get : {A : Type 0} (xs ys : List A) (n : ℕ) (e : A) → slice_get (xs ++ ys) n ≡ Some e → (slice_get xs n ≡ Some e) ⊎ ((j : ℕ) × (slice_get ys j ≡ Some e))
split_get [] ys n e h = inr (n, h)
split_get (x ∷ xs) ys zero e h = inl h
split_get (x ∷ xs) ys (suc n) e h = split_get xs ys n e h

-- a member of a list is one of it with another list after it, at the same number
get_more : {A : Type 0} (xs ys : List A) (n : ℕ) (e : A) → slice_get xs n ≡ Some e → slice_get (xs ++ ys) n ≡ Some e
get_more [] ys n e h = cc
get_more (x ∷ xs) ys zero e h = h
get_more (x ∷ xs) ys (suc n) e h = get_more xs ys n e h

-- what holds of all members holds of each
all_get : {A : Type 0} (P : A → Type 0) (ys : List A) (j : ℕ) (e : A) → AllByRecursion P ys → slice_get ys j ≡ Some e → P e
all_get P [] j e a h = cc
all_get P (y ∷ ys) zero e a h = (let i : y ≡ e = cc in subst P i a.0)
all_get P (y ∷ ys) (suc j) e a h = all_get P ys j e a.1 h

-- each view that is mounted over sources is a walk over them
pub all_views : (v : View) (views : List (Option Walk)) → AllByRecursion (IsViewOver v) views → (i : ℕ) (m : Walk) → view_at views i ≡ Some m → IsWalkOf v m
all_views v [] a i m e = cc
all_views v (r ∷ views) a zero m e = subst (IsViewOver v) e a.0
all_views v (r ∷ views) a (suc i) m e = all_views v views a.1 i m e

module _ {S : Type 0} (view : S → View) (came_from : S → S → Type 0) (law : KeepsViews) where
  -- A FILL THAT NO VIEW TAKES

  module _ (l l' : Layers S) (came : came_from l.base l'.base) (keeps : Keeps (view l.base) (view l'.base)) (sound : AreSound view l) where
    module _ (views : l'.views.items ≡ l.views.items) where
      -- each view goes on where none was taken
      still : (i : ℕ) (r : Option Walk) → view_at l.views.items i ≡ r → ViewGoes (view l.base) (view l'.base) r (view_at l'.views.items i)
      still i None e = ap (λ (z : List (Option Walk)). view_at z i) views ∙ e
      still i (Some m) e = (m, ap (λ (z : List (Option Walk)). view_at z i) views ∙ e, (law.views (view l.base) (view l'.base) m (sound.views i m e) keeps).kept)

      module _ (served : l'.served.items ≡ l.served.items) where
        -- all goes on where no view was taken and no node served
        still_goes : Goes (stacking_in view l) (stacking_in view l')
        still_goes = record {
          base = keeps;
          count = ap length views;
          views = λ i. still i (view_at l.views.items i) refl;
          served = λ n e h. ap (λ (z : List Served). slice_get z n) served ∙ h;
        }

        -- what is sound stays so where no view was taken and no node served
        still_sound : AreSound view l'
        still_sound = record {
          views = λ i m e.
              let old : view_at l.views.items i ≡ Some m = ap (λ (z : List (Option Walk)). view_at z i) (sym views) ∙ e in
              (law.views (view l.base) (view l'.base) m (sound.views i m old) keeps).walk;
          served = λ n e h. served_goes law (stacking_in view l) (stacking_in view l') still_goes e (sound.served n e (ap (λ (z : List Served). slice_get z n) (sym served) ∙ h));
        }

        -- a fill of a source below, or of a view of which nothing was asked
        pub moved_below : l'.fills ≡ l.fills → (view l'.base).fills ≤ (view l.base).fills + 1 → Moved view came_from l l'
        moved_below fills asks = record {
          came = came;
          goes = still_goes;
          sound = still_sound;
          fills = fills;
          lazy = λ most bounds opens. (let one = bounds.one in omega (arith, asks, one));
        }

  -- A FILL OF A VIEW

  module _ (l l' : Layers S) (keeps : Keeps (view l.base) (view l'.base)) (sound : AreSound view l) (i : ℕ) (m m' : Walk) (within : i < length l.views.items)
      (there : view_at l.views.items i ≡ Some m) (views : l'.views.items ≡ set l.views.items i (Some m')) (stepped : Stepped view came_from l.base m l'.base m') where
    -- the view that was taken is as the call left it
    changed : view_at l'.views.items i ≡ Some m'
    changed = ap (λ (z : List (Option Walk)). view_at z i) views ∙ get_or-set_same l.views.items i (Some m') None within

    -- another view is as it was
    other : (j : ℕ) → (j ≡ i → ⊥) → view_at l'.views.items j ≡ view_at l.views.items j
    other j ne = ap (λ (z : List (Option Walk)). view_at z j) views ∙ get_or-set_other l.views.items i j (Some m') None ne

    -- each view goes on where one was taken
    step : (j : ℕ) (r : Option Walk) → view_at l.views.items j ≡ r → ViewGoes (view l.base) (view l'.base) r (view_at l'.views.items j)
    step j r e = at (cases_eq j i)
      where
        elsewhere : (j ≡ i → ⊥) → (q : Option Walk) → view_at l.views.items j ≡ q → ViewGoes (view l.base) (view l'.base) q (view_at l'.views.items j)
        elsewhere ne None f = other j ne ∙ f
        elsewhere ne (Some x) f = (x, other j ne ∙ f, (law.views (view l.base) (view l'.base) x (sound.views j x f) keeps).kept)

        at : (j ≡ i) ⊎ (j ≡ i → ⊥) → ViewGoes (view l.base) (view l'.base) r (view_at l'.views.items j)
        at (inl f) =
            let is : Some m ≡ r = sym there ∙ ap (view_at l.views.items) (sym f) ∙ e in
            subst (λ (q : Option Walk). ViewGoes (view l.base) (view l'.base) q (view_at l'.views.items j)) is (m', ap (view_at l'.views.items) f ∙ changed, stepped.kept)
        at (inr ne) = elsewhere ne r e

    module _ (news : List Served) (served : l'.served.items ≡ l.served.items ++ news) (stand : AllByRecursion (λ e. (e.view ≡ i) × Stands (state_of (view l'.base) m') e.node) news) where
      -- all goes on where a view was taken and nodes were served of it
      step_goes : Goes (stacking_in view l) (stacking_in view l')
      step_goes = record {
        base = keeps;
        count = ap length views ∙ length-set l.views.items i (Some m');
        views = λ j. step j (view_at l.views.items j) refl;
        served = λ n e h. ap (λ (z : List Served). slice_get z n) served ∙ get_more l.served.items news n e h;
      }

      -- what is sound stays so where a view was taken and nodes were served of it that stand
      step_sound : AreSound view l'
      step_sound = record {
        views = λ j x e. at_view j x e (cases_eq j i);
        served = λ n e h. at_served n e (split_get l.served.items news n e (ap (λ (z : List Served). slice_get z n) (sym served) ∙ h));
      }
        where
          -- each view that is mounted is a walk over the later sources
          at_view : (j : ℕ) (x : Walk) → view_at l'.views.items j ≡ Some x → (j ≡ i) ⊎ (j ≡ i → ⊥) → IsWalkOf (view l'.base) x
          at_view j x e (inl f) =
              let is : m' ≡ x = (let z : Some m' ≡ Some x = sym changed ∙ ap (view_at l'.views.items) (sym f) ∙ e in cc) in
              subst (IsWalkOf (view l'.base)) is stepped.walk
          at_view j x e (inr ne) = (law.views (view l.base) (view l'.base) x (sound.views j x (sym (other j ne) ∙ e)) keeps).walk

          -- each node that was served, now or before, is one of its view
          at_served : (n : ℕ) (e : Served) → ((slice_get l.served.items n ≡ Some e) ⊎ ((j : ℕ) × (slice_get news j ≡ Some e))) → IsServed (view l'.base) l'.views.items e
          at_served n e (inl h) = served_goes law (stacking_in view l) (stacking_in view l') step_goes e (sound.served n e h)
          at_served n e (inr h) =
              let new = all_get (λ z. (z.view ≡ i) × Stands (state_of (view l'.base) m') z.node) news h.0 e stand h.1 in
              record { view = m'; there = ap (view_at l'.views.items) new.0 ∙ changed; stands = new.1 }

      -- a fill of a view by which nodes are served that stand
      pub moved_at : l'.fills ≡ l.fills → Moved view came_from l l'
      moved_at fills = record {
        came = stepped.came;
        goes = step_goes;
        sound = step_sound;
        fills = fills;
        lazy = λ most bounds opens.
            let is : get_or (plans_of l.views.items) i None ≡ Some (plan_of m) = plan_at l.views.items i ∙ ap (option_map plan_of) there in
            let o = opens i (plan_of m) is in
            stepped.lazy most (bounds.steps i (plan_of m) is) o.0 o.1;
      }

-- THE COUNT

-- of two numbers one is no greater than the other
either_less : (m n : ℕ) → (m ≤ n) ⊎ (n ≤ m)
either_less m n = at (cases_eq (m - n) 0)
  where
    at : (m - n ≡ 0) ⊎ (m - n ≡ 0 → ⊥) → (m ≤ n) ⊎ (n ≤ m)
    at (inl e) = inl (omega (arith, e))
    at (inr ne) = inr (grind (arith, ne))

-- a product with one more is greater by the other factor
times_more : (most f : ℕ) → most * suc f ≡ most * f + most
times_more most f = grind arith

-- one fill that is counted asks at most so many below, up to the end of the count
fills_once : (a b f g most top : ℕ) → b ≤ a + most → g ≡ min (f + 1) top → (b + most * f ≤ a + most * g) ⊎ (top ≤ g)
fills_once a b f g most top asks count = at (either_less (f + 1) top)
  where
    at : ((f + 1) ≤ top) ⊎ (top ≤ (f + 1)) → (b + most * f ≤ a + most * g) ⊎ (top ≤ g)
    at (inl h) =
        let e : g ≡ suc f = grind (arith, count, h) in
        let t = times_more most f in
        inl (subst (λ (z : ℕ). b + most * f ≤ a + most * z) (sym e) (omega (arith, asks, t)))
    at (inr h) = inr (grind (arith, count, h))

-- a count doesn't fall
less_once : (f g top : ℕ) → f ≤ top → g ≡ min (f + 1) top → f ≤ g
less_once f g top h e = grind (arith, h, e)

module _ {S : Type 0} (view : S → View) (came_from : S → S → Type 0) (law : KeepsViews) (l n : Layers S) (moved : Moved view came_from l n) (sound : AreSound view l) (f : ℕ) where
  -- all goes on, whatever is counted
  counted_goes : Goes (stacking_in view l) (stacking_in view (record n { fills = f }))
  counted_goes = record { base = moved.goes.base; count = moved.goes.count; views = moved.goes.views; served = moved.goes.served }

  -- what is sound is so, whatever is counted
  pub counted_sound : AreSound view (record n { fills = f })
  counted_sound = record { views = moved.sound.views; served = moved.sound.served }

  -- a fill that is counted leaves a state that came from the earlier one
  pub counted_came : l.fills ≤ 2 ^ 64 - 1 → f ≡ min (l.fills + 1) (2 ^ 64 - 1) → CameFrom view came_from l (record n { fills = f })
  counted_came small e = record {
    base = moved.came;
    kept = stack_keeps law (stacking_in view l) (stacking_in view (record n { fills = f })) counted_goes sound (less_once l.fills f (2 ^ 64 - 1) small e);
    plans = plans_kept law (stacking_in view l) (stacking_in view (record n { fills = f })) counted_goes;
    lazy = λ most bounds opens. fills_once (view l.base).fills (view n.base).fills l.fills f most (2 ^ 64 - 1) (moved.lazy most bounds opens) e;
  }

-- READING VIEWS

-- what was read at the number of a view that is mounted is the view
pub read_view : (views : List (Option Walk)) (i : ℕ) (r : Option Walk) (m : Walk) → i < length views → r ≡ get_or views i r → r ≡ Some m → view_at views i ≡ Some m
read_view views i r m within value is = sym (get_or_default views i r None within) ∙ sym value ∙ is

-- where nothing was read at the number of a view, it is not mounted
pub read_none : (views : List (Option Walk)) (i : ℕ) (r : Option Walk) → i < length views → r ≡ get_or views i r → r ≡ None → view_at views i ≡ None
read_none views i r within value is = sym (get_or_default views i r None within) ∙ sym value ∙ is

-- what is written back as it was read changes no list
pub written_back : (views : List (Option Walk)) (i : ℕ) (r : Option Walk) → r ≡ get_or views i r → set views i r ≡ views
written_back views i r value = ap (set views i) value ∙ set-get_or views i r

module _ {S : Type 0} (view : S → View) (came_from : S → S → Type 0) (law : KeepsViews) where
  -- a fill that changes nothing but the count
  pub unmoved : ((a : S) → came_from a a) → (l l' : Layers S) → AreSound view l → l'.base ≡ l.base → l'.views.items ≡ l.views.items → l'.served ≡ l.served → l'.fills ≡ l.fills → Moved view came_from l l'
  unmoved same l l' sound base views served fills =
      moved_below view came_from law l l' (subst (came_from l.base) (sym base) (same l.base)) (subst (λ (b : S). Keeps (view l.base) (view b)) (sym base) (keeps_same (view l.base))) sound views
      (ap (λ (z : _). z.items) served) fills (subst (λ (b : S). (view b).fills ≤ (view l.base).fills + 1) (sym base) (omega arith))

  -- a fill of a view by which no node is served
  pub moved_on : (l l' : Layers S) → Keeps (view l.base) (view l'.base) → AreSound view l → (i : ℕ) (m m' : Walk) → i < length l.views.items → view_at l.views.items i ≡ Some m → l'.views.items ≡ set l.views.items i (Some m')
      → Stepped view came_from l.base m l'.base m' → l'.served.items ≡ l.served.items → l'.fills ≡ l.fills → Moved view came_from l l'
  moved_on l l' keeps sound i m m' within there views stepped served fills =
      moved_at view came_from law l l' keeps sound i m m' within there views stepped [] (served ∙ sym (append_nil l.served.items)) tt fills

-- the view that was taken is as it was written back
pub asked_view : (views : List (Option Walk)) (i : ℕ) (m' : Walk) → i < length views → view_at (set views i (Some m')) i ≡ Some m'
asked_view views i m' within = get_or-set_same views i (Some m') None within
