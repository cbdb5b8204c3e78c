-- Lists that are gathered from the events of an operator's input.
use Rattle.std.proofs.Common.{◌≡◌, ◌<◌, ◌≤◌, ◌+◌, ◌-◌, ℕ, suc, List, Option, Some, ◌∙◌, sym, ap, subst, arith}
use Rattle.lazy_descend.specs.Searches.{FindsNone}
use Rattle.mix_base.specs.Events.{finds, found, cost}
use Rattle.mix_tree.specs.Nodes.{Documents}
use Rattle.lxp_core.specs.View.{View}
use Rattle.plan_core.specs.Plans.{Operator}
use Rattle.plan_core.specs.Tolled.{Tolled, toll, dearer}
use Rattle.plan_core.specs.TolledRows.{TolledRow, piece_items, collected}
use Rattle.plan_core.specs.Events.{RowEvents}
use Rattle.lazy_plan.specs.declared.bench.Bench.{Bench}
use Rattle.lazy_plan.specs.Bench.{BenchState, state_of, told_by, ops_of, documents, size_of, number_at, KeepsBench, AsksAtMost, IsFirstOf}
use Rattle.lazy_plan.specs.Groups.{group_ahead, IsGroup}
use Rattle.lazy_binding.specs.declared.position.Position.{Position}
use Rattle.plan_forms.specs.Forms.{input_at, piece_of, gathers_all, gathers_groups}
use Rattle.lazy_site.specs.Ids.{ahead_from, number_from, members_trees, group_trees, member_trees, Stands, GathersAll, IsRest, rest_trees, weight, left}
use Rattle.lazy_site.specs.Steps.{Walked, StandsFor, GoesOn, IsMember}
use Rattle.lazy_site.specs.declared.sites.Rest.{Rest}
use Rattle.lazy_site.specs.declared.sites.Site.{Site}
use Rattle.lazy_site.proofs.Keep.{ops_kept, input_kept, rest_trees-kept, IsRest-kept, left-kept, GathersAll-kept, Stands-kept}
use Rattle.lazy_site.proofs.Laws.{collected_nothing, collected_finds, toll_collected}
use Rattle.lazy_site.proofs.Turns.{on_end, at_after}

-- a call that leaves what one of at most some fills leaves does so for any greater number of fills
walked_less : {S : Type 0} {view : S → View} {came_from : S → S → Type 0} {s t : S} {b d : Bench} (m n : ℕ) → Walked view came_from s b t d m → m ≤ n → Walked view came_from s b t d n
walked_less m n w l = record { came = w.came; bench = w.bench; kept = w.kept; asks = λ y v. (let z = w.asks y v in omega (arith, z, l)) }

module _ (a c : BenchState) (k : KeepsBench a c) (op : ℕ) (up : Rest) (h : IsRest a up) where
  -- what is gathered of events is the trees of the first binding that is found, and then those of the later ones
  gathers_some : (es : RowEvents) (row : TolledRow) (later : RowEvents) → found es ≡ finds row later
      → collected (documents a) (piece_of (ops_of a) op) es (rest_trees a up)
      ≡ dearer (cost es) (piece_items (documents c) (piece_of (ops_of c) op) row (collected (documents c) (piece_of (ops_of c) op) later (rest_trees c up)))
  gathers_some es row later e =
      collected_finds (documents a) (piece_of (ops_of a) op) es (rest_trees a up) row later e
      ∙ ap (dearer (cost es)) (
      ap (λ (f : Tolled). piece_items (documents a) (piece_of (ops_of a) op) row (collected (documents a) (piece_of (ops_of a) op) later f)) (sym (rest_trees-kept a c k up h))
      ∙ ap (λ (d : Documents). piece_items d (piece_of (ops_of a) op) row (collected d (piece_of (ops_of a) op) later (rest_trees c up))) (sym k.documents)
      ∙ ap (λ (ops : List Operator). piece_items (documents c) (piece_of ops op) row (collected (documents c) (piece_of ops op) later (rest_trees c up))) (sym (ops_kept a c k)))

  -- where no binding of the events is found, a list is at its end, and the rest after it goes on
  gathers_over : (es : RowEvents) → AsksAtMost a c (cost es) → FindsNone (told_by a) es → (x : Rest) → x ≡ up
      → GoesOn a c (collected (documents a) (piece_of (ops_of a) op) es (rest_trees a up)) (suc (weight a up)) x
  gathers_over es asks e x z =
      subst (λ (r : Rest). GoesOn a c (collected (documents a) (piece_of (ops_of a) op) es (rest_trees a up)) (suc (weight a up)) r) (sym z)
      (on_end a c k (cost es) asks _ up h (λ y. collected_nothing (documents a) (piece_of (ops_of a) op) es (rest_trees a up) (e y)))

  -- as many trees are left in a rest as in the one that it is, or fewer
  left_over : (n : ℕ) (x : Rest) → x ≡ up → left c x ≤ n + left a up
  left_over n x z = let l = left-kept a c k up h in let e = ap (left c) z in omega (arith, l, e)

module _ {S : Type 0} {view : S → View} {came_from : S → S → Type 0} (s t : S) (b d : Bench) (op input : ℕ) (at : Option Position) (up : Rest) (i : input ≡ input_at (ops_of (state_of (view s) b)) op)
    (walked : Walked view came_from s b t d (cost (ahead_from (state_of (view s) b) input at))) where
  -- a call for the next binding of an input asks no more than the toll of the members of its list allows
  pub members_walked : Walked view came_from s b t d (toll (members_trees (state_of (view s) b) op at (rest_trees (state_of (view s) b) up)))
  members_walked =
      walked_less (cost (ahead_from (state_of (view s) b) input at)) (toll (members_trees (state_of (view s) b) op at (rest_trees (state_of (view s) b) up))) walked
      (subst (λ (n : ℕ). cost (ahead_from (state_of (view s) b) n at) ≤ toll (members_trees (state_of (view s) b) op at (rest_trees (state_of (view s) b) up))) (sym i)
      (toll_collected (documents (state_of (view s) b)) (piece_of (ops_of (state_of (view s) b)) op) (ahead_from (state_of (view s) b) (input_at (ops_of (state_of (view s) b)) op) at) (rest_trees (state_of (view s) b) up)))

  -- what was asked is within the cost of the events that are ahead
  asked : AsksAtMost (state_of (view s) b) (state_of (view t) d) (cost (ahead_from (state_of (view s) b) (input_at (ops_of (state_of (view s) b)) op) at))
  asked = subst (λ (n : ℕ). AsksAtMost (state_of (view s) b) (state_of (view t) d) (cost (ahead_from (state_of (view s) b) n at))) i walked.asks

  module _ (h : IsRest (state_of (view s) b) up) where
    pub rest_after : IsRest (state_of (view t) d) up
    rest_after = IsRest-kept (state_of (view s) b) (state_of (view t) d) walked.kept up h

    -- without a further binding a list of all bindings is at its end
    pub members_over : FindsNone (told_by (state_of (view s) b)) (ahead_from (state_of (view s) b) input at) → (x : Rest) → x ≡ up
        → GoesOn (state_of (view s) b) (state_of (view t) d) (members_trees (state_of (view s) b) op at (rest_trees (state_of (view s) b) up)) (suc (weight (state_of (view s) b) up)) x
    members_over e x z =
        gathers_over (state_of (view s) b) (state_of (view t) d) walked.kept op up h (ahead_from (state_of (view s) b) (input_at (ops_of (state_of (view s) b)) op) at) asked
        (subst (λ (n : ℕ). FindsNone (told_by (state_of (view s) b)) (ahead_from (state_of (view s) b) n at)) i e) x z

    pub members_left : (x : Rest) → x ≡ up → left (state_of (view t) d) x ≤ number_from (state_of (view s) b) (input_at (ops_of (state_of (view s) b)) op) at + left (state_of (view s) b) up
    members_left x z = left_over (state_of (view s) b) (state_of (view t) d) walked.kept op up h _ x z

    module _ (g : GathersAll (state_of (view s) b) op) (p : Position)
        (f : IsFirstOf (state_of (view s) b) (state_of (view t) d) input (ahead_from (state_of (view s) b) input at) (number_from (state_of (view s) b) input at) p) where
      pub first_there : IsFirstOf (state_of (view s) b) (state_of (view t) d) (input_at (ops_of (state_of (view t) d)) op)
          (ahead_from (state_of (view s) b) (input_at (ops_of (state_of (view s) b)) op) at) (number_from (state_of (view s) b) (input_at (ops_of (state_of (view s) b)) op) at) p
      first_there =
          subst (λ (n : ℕ). IsFirstOf (state_of (view s) b) (state_of (view t) d) n (ahead_from (state_of (view s) b) (input_at (ops_of (state_of (view s) b)) op) at) (number_from (state_of (view s) b) (input_at (ops_of (state_of (view s) b)) op) at) p)
          (sym (input_kept (state_of (view s) b) (state_of (view t) d) walked.kept op))
          (subst (λ (n : ℕ). IsFirstOf (state_of (view s) b) (state_of (view t) d) n (ahead_from (state_of (view s) b) n at) (number_from (state_of (view s) b) n at) p) i f)

      -- the cursor that was found is one of a member
      pub member_there : Stands (state_of (view t) d) op gathers_all p
      member_there = (let w = GathersAll-kept (state_of (view s) b) (state_of (view t) d) walked.kept op g in record { within = w.within; is = w.is; cursor = first_there.cursor })

      -- the trees of the member that was found are the first of its list
      pub members_stand : (n : Site) → StandsFor (state_of (view t) d) (state_of (view t) d) (member_trees (state_of (view t) d) op p (members_trees (state_of (view t) d) op (Some p) (rest_trees (state_of (view t) d) up))) n
          → StandsFor (state_of (view s) b) (state_of (view t) d) (members_trees (state_of (view s) b) op at (rest_trees (state_of (view s) b) up)) n
      members_stand n w =
          at_after (state_of (view s) b) (state_of (view t) d) walked.kept (cost (ahead_from (state_of (view s) b) (input_at (ops_of (state_of (view s) b)) op) at)) _ _
          (λ y. gathers_some (state_of (view s) b) (state_of (view t) d) walked.kept op up h (ahead_from (state_of (view s) b) (input_at (ops_of (state_of (view s) b)) op) at) _ _ (first_there.found y)) n w

      pub members_fall : (m : ℕ) → m ≡ number_at (state_of (view t) d) (input_at (ops_of (state_of (view t) d)) op) p + left (state_of (view t) d) up
          → m < number_from (state_of (view s) b) (input_at (ops_of (state_of (view s) b)) op) at + left (state_of (view s) b) up
      members_fall m e = let l = left-kept (state_of (view s) b) (state_of (view t) d) walked.kept up h in let z = first_there.falls in omega (arith, e, l, z)

module _ {S : Type 0} {view : S → View} {came_from : S → S → Type 0} (s t : S) (b d : Bench) (op : ℕ) (first at : Position) (place : ℕ) (up : Rest)
    (walked : Walked view came_from s b t d (cost (group_ahead (state_of (view s) b) op first at))) where
  -- a call for the next member of a group asks no more than the toll of its members allows
  pub group_walked : Walked view came_from s b t d (toll (group_trees (state_of (view s) b) op first at (rest_trees (state_of (view s) b) up)))
  group_walked =
      walked_less (cost (group_ahead (state_of (view s) b) op first at)) (toll (group_trees (state_of (view s) b) op first at (rest_trees (state_of (view s) b) up))) walked
      (toll_collected (documents (state_of (view s) b)) (piece_of (ops_of (state_of (view s) b)) op) (group_ahead (state_of (view s) b) op first at) (rest_trees (state_of (view s) b) up))

  module _ (h : IsRest (state_of (view s) b) up) where
    group_rest : IsRest (state_of (view t) d) up
    group_rest = IsRest-kept (state_of (view s) b) (state_of (view t) d) walked.kept up h

    -- without a further member a group's list is at its end
    pub group_over : FindsNone (told_by (state_of (view s) b)) (group_ahead (state_of (view s) b) op first at) → (x : Rest) → x ≡ up
        → GoesOn (state_of (view s) b) (state_of (view t) d) (group_trees (state_of (view s) b) op first at (rest_trees (state_of (view s) b) up)) (suc (weight (state_of (view s) b) up)) x
    group_over e x z = gathers_over (state_of (view s) b) (state_of (view t) d) walked.kept op up h (group_ahead (state_of (view s) b) op first at) walked.asks e x z

    pub group_left : (x : Rest) → x ≡ up → left (state_of (view t) d) x ≤ (size_of (state_of (view s) b) (input_at (ops_of (state_of (view s) b)) op) - place) + left (state_of (view s) b) up
    group_left x z = left_over (state_of (view s) b) (state_of (view t) d) walked.kept op up h _ x z

    module _ (number : ℕ) (p : Position) (f : IsMember (state_of (view s) b) (state_of (view t) d) op number first (suc place) (group_ahead (state_of (view s) b) op first at)
        (size_of (state_of (view s) b) (input_at (ops_of (state_of (view s) b)) op) - place) p) where
      -- the trees of the member that was found are the first of its group
      pub group_stand : (n : Site) → StandsFor (state_of (view t) d) (state_of (view t) d) (member_trees (state_of (view t) d) op p (group_trees (state_of (view t) d) op first p (rest_trees (state_of (view t) d) up))) n
          → StandsFor (state_of (view s) b) (state_of (view t) d) (group_trees (state_of (view s) b) op first at (rest_trees (state_of (view s) b) up)) n
      group_stand n w =
          at_after (state_of (view s) b) (state_of (view t) d) walked.kept (cost (group_ahead (state_of (view s) b) op first at)) _ _
          (λ y. gathers_some (state_of (view s) b) (state_of (view t) d) walked.kept op up h (group_ahead (state_of (view s) b) op first at) _ _ (f.found y)) n w

      -- the member that was found is in the group, at the next place
      pub group_in : (next : ℕ) → next ≡ suc place → Stands (state_of (view s) b) op gathers_groups first
          → Stands (state_of (view t) d) op gathers_groups first × Stands (state_of (view t) d) op gathers_groups p × IsGroup (state_of (view t) d) op number first p next × IsRest (state_of (view t) d) up
      group_in next e i =
          let k = Stands-kept (state_of (view s) b) (state_of (view t) d) walked.kept op gathers_groups first i in
          (k, record { within = k.within; is = k.is; cursor = f.cursor.0 }, subst (λ (n : ℕ). IsGroup (state_of (view t) d) op number first p n) (sym e) f.cursor.1, group_rest)

      pub group_fall : (next : ℕ) → next ≡ suc place → (m : ℕ) → m ≡ (size_of (state_of (view t) d) (input_at (ops_of (state_of (view t) d)) op) - next) + left (state_of (view t) d) up
          → m < (size_of (state_of (view s) b) (input_at (ops_of (state_of (view s) b)) op) - place) + left (state_of (view s) b) up
      group_fall next e m i = let l = left-kept (state_of (view s) b) (state_of (view t) d) walked.kept up h in let z = f.falls in omega (arith, e, i, l, z)
