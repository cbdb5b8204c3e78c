-- The members of a group are its first and those that its events give.
use Rattle.std.proofs.Common.{◌≡◌, Bool, true, false, cond, ℕ, List, [], ◌∷◌, ◌++◌, refl, ◌∙◌, sym, ap, subst, arith}
use Rattle.std.specs.Prelude.{IsTrue}
use Rattle.std.specs.List.{filter}
use Rattle.mix_base.proofs.Lists.{append_nil}
use Rattle.mix_base.proofs.EventLaws.{found-some}
use Rattle.mix_base.specs.Events.{skip, bind, without_skips}
use Rattle.mix_tree.specs.Forest.{Forest, joined}
use Rattle.mix_tree.specs.declared.var.Key.{Key}
use Rattle.plan_core.specs.declared.plan.Piece.{Piece}
use Rattle.plan_core.specs.PlanMade.{plan_value}
use Rattle.plan_core.specs.ByNumber.{op_at}
use Rattle.plan_core.specs.Events.{RowEvents, only, run_of, passing, events}
use Rattle.plan_core.specs.Tolled.{Tolled, ends}
use Rattle.plan_core.specs.TolledRows.{TolledRow, TolledValue, key_values, same_values, piece_items, collected}
use Rattle.plan_core.specs.Typed.{IsTyped}
use Rattle.plan_core.specs.Valid.{a_list, IsValid}
use Rattle.plan_core.proofs.KeyValues.{values_alike}
use Rattle.plan_evidence.specs.Named.{of_group, members}
use Rattle.plan_evidence.proofs.Counts.{piece_count, collected_count}
use Rattle.plan_evidence.proofs.GroupRows.{only_filter}
use Rattle.plan_evidence.proofs.NamedNodes.{list_value, members_ones}
use Rattle.plan_evidence.proofs.Shown.{shown, shown_by, count-plain}
use Rattle.plan_evidence.proofs.TreeLists.{count, count-followed, AreOnes}
use Rattle.plan_forms.specs.Forms.{input_at, keys_of, piece_of}
use Rattle.lazy_plan.specs.Bench.{BenchState, ops_of, documents, told, binding_at, ahead_at}
use Rattle.lazy_plan.specs.Groups.{group_ahead, stops_at}
use Rattle.lazy_binding.specs.declared.position.Position.{Position}
use Rattle.lazy_site.specs.Origins.{IsOriginOf}
use Rattle.lazy_site.specs.Standing.{IsHolder}
use Rattle.lazy_site.specs.declared.sites.Origin.TheVariants.{Group as Same}
use Rattle.lazy_site.proofs.Listings.{holder_sound, list_of_group}

-- what passes a test, whether up to the first that fails or among all, is the beginning of all that passes it
passing_begins : (stops : Bool) (test : TolledRow → Bool) (es : RowEvents)
    → (more : List TolledRow) × (without_skips (only test es) ≡ without_skips (passing stops test es) ++ more)
passing_begins false test es = ([], sym (append_nil (without_skips (only test es))))
passing_begins true test [] = ([], refl)
passing_begins true test (skip ∷ es) = passing_begins true test es
passing_begins true test (bind row ∷ es) =
    elim (test row) as (λ t. (more : List TolledRow) × (without_skips (cond t (bind row) skip ∷ only test es) ≡ without_skips (cond t (bind row ∷ run_of test es) (skip ∷ [])) ++ more)) [
      | true ↦ (let r = passing_begins true test es in (r.0, ap (λ (rs : List TolledRow). row ∷ rs) r.1))
      | false ↦ (without_skips (only test es), refl)
    ]

-- members of one tree each that add no tree to those before them are none
none_more : {X : Type 0} (f : X → Forest) (xs ys : List X) → AreOnes f (xs ++ ys) → count (joined f (xs ++ ys)) ≡ count (joined f xs) → ys ≡ []
none_more f [] [] h e = refl
none_more f [] (y ∷ ys) h e =
    let a = count-followed (f y) (joined f ys) in
    let b = ap count h.0.2 in
    absurd (omega (arith, a, b, e))
none_more f (x ∷ xs) ys h e =
    let a = count-followed (f x) (joined f (xs ++ ys)) in
    let b = count-followed (f x) (joined f xs) in
    none_more f xs ys h.1 (omega (arith, a, b, e))

module _ (st : BenchState) (valid : IsValid (plan_value st.plan)) (typed : IsTyped (ops_of st)) (n : ℕ) (c : Position) (h : IsHolder st n c) (y : IsTrue (told st)) (v op number : ℕ) (first : Position)
    (o : IsOriginOf st n c v (Same op first number)) where
  -- the input of the groupBy
  abbrev input : ℕ
  input = input_at (ops_of st) op

  -- the keys of the groupBy
  abbrev keys : List Key
  keys = keys_of (op_at (ops_of st) op)

  -- the piece of the groupBy
  abbrev piece : Piece
  piece = piece_of (ops_of st) op

  -- the first member's binding
  abbrev row : TolledRow
  row = binding_at st input first

  -- whether a binding is of the group
  abbrev test : TolledRow → Bool
  test = λ r. same_values (key_values (documents st) keys row) (key_values (documents st) keys r)

  -- the members of the group are the first one and those after it that agree with it
  agree : members (documents st) (ops_of st) input keys (binding_at st n c) ≡ row ∷ without_skips (only test (ahead_at st input first))
  agree =
      ap (λ z. filter (λ r. same_values z (key_values (documents st) keys r)) (without_skips (events (documents st) (ops_of st) input)))
      (values_alike (documents st) keys (binding_at st n c) row (λ w t. (o.matter.keys w t).1))
      ∙ sym (only_filter (documents st) test (events (documents st) (ops_of st) input))
      ∙ found-some (only test (events (documents st) (ops_of st) input)) row (only test (ahead_at st input first)) (o.matter.first y)

  -- the members of the group are its first and those that the events of the group give
  pub group_members : members (documents st) (ops_of st) input keys (binding_at st n c) ≡ row ∷ without_skips (group_ahead st op first first)
  group_members =
      let docs = documents st in
      let f : TolledRow → Forest = λ r. shown docs r piece in
      let es : RowEvents = group_ahead st op first first in
      let begins = passing_begins (stops_at (ops_of st) op) test (ahead_at st input first) in
      let is = list_of_group (plan_value st.plan) valid typed op v o.origin.0.within o.maker o.origin.0.is in
      let list = list_value (plan_value st.plan) valid typed docs n (binding_at st n c) (holder_sound st valid typed n c h y) v (of_group input keys piece) (a_list, o.kind) is in
      let items : Tolled = piece_items docs piece row (collected docs piece es (ends 0)) in
      let ones : AreOnes f (row ∷ without_skips (only test (ahead_at st input first))) =
      subst (AreOnes f) agree (members_ones (plan_value st.plan) valid typed docs input list.is_listed.within keys (binding_at st n c) piece list.is_listed.single) in
      let a = count-plain docs items in
      let b = ap count (sym (ap (λ (x : TolledValue). shown_by docs x) o.value) ∙ list.shows ∙ ap (joined f) agree) in
      let d = piece_count docs piece row (collected docs piece es (ends 0)) in
      let e = collected_count docs piece es (ends 0) in
      let g = count-followed (f row) (joined f (without_skips (only test (ahead_at st input first)))) in
      let i = ap (λ (rs : List TolledRow). count (joined f rs)) begins.1 in
      let none : begins.0 ≡ [] = none_more f (without_skips es) begins.0 (subst (AreOnes f) begins.1 ones.1) (omega (arith, a, b, d, e, g, i)) in
      agree ∙ ap (λ (rs : List TolledRow). row ∷ rs) (begins.1 ∙ ap (λ (more : List TolledRow). without_skips es ++ more) none ∙ append_nil (without_skips es))
