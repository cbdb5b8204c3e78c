-- A step further on the way of a text: along its levels, or along the place below.
use Rattle.std.proofs.Common.{◌≡◌, ◌∙◌, ℕ, zero, suc, ◌<◌, ◌≤◌, ◌+◌, List, [], ◌∷◌, ◌++◌, Option, Some, None, refl, sym, ap, subst, arith, length, take, drop, slice_index, append_assoc, append-nil, length-append, length-drop}
use Rattle.std.specs.Prelude.{MatchOption, Result, Ok, IfOk, option_map}
use Rattle.std.proofs.lemmas.List.{take-append-drop, length-take-le, take_all, take_at}
use Rattle.mix_tree.specs.Forest.{LabelledTree, alone}
use Rattle.mix_tree.specs.Place.{has_place}
use Rattle.mix_base.proofs.Choices.{some_is}
use Rattle.mix_base.proofs.Runs.{take_next}
use Rattle.lxp_core.specs.declared.fault.WalkFault.{WalkFault}
use Rattle.node_text.specs.Node.{LevelValue, NodeValue, node}
use Rattle.plan_core.specs.PlanMade.{plan_value}
use Rattle.plan_core.specs.Plans.{PlanValue}
use Rattle.plan_core.specs.Valid.{IsValid}
use Rattle.plan_core.specs.Events.{TolledIsDocument}
use Rattle.plan_evidence.specs.Named.{Names, NamesBy}
use Rattle.plan_evidence.proofs.NamedNodes.{names_nodes}
use Rattle.plan_evidence.proofs.NamedOnce.{names_one}
use Rattle.plan_evidence.proofs.Opened.{opened_named}
use Rattle.lazy_follow.specs.declared.evidence.Evidence.{Evidence}
use Rattle.lazy_follow.specs.declared.mark.Mark.{Mark}
use Rattle.lazy_follow.specs.Following.{Ending, text_ending}
use Rattle.lazy_follow.specs.Marks.{IsMark, HasEnd}
use Rattle.lazy_plan.specs.Bench.{BenchState, ops_of, documents, AsksAtMost}
use Rattle.lazy_walk.specs.declared.finding.Led.{Led}
use Rattle.lazy_walk.specs.declared.ids.WalkedNode.{WalkedNode}
use Rattle.lazy_walk.specs.declared.stage.Passed.{Passed}
use Rattle.lazy_walk.specs.declared.stage.Stage.{Stage}
use Rattle.lazy_walk.specs.Finding.{child_charge, charge_below, outer_listing, FindsBelow, FindsLed, GivesLed, GoesOnTo, HasListAt, IsNextNamed, LeadsBelow, LeadsFurther}
use Rattle.lazy_walk.specs.Leading.{AreOfChosen}
use Rattle.lazy_walk.specs.Places.{IsAt, HasPlace}
use Rattle.lazy_walk.specs.Stages.{IsStage, NamesNoneBetween, levels_further, part_of, passed_by_levels, passed_by_step, step_further}
use Rattle.lazy_walk.proofs.Ahead.{IsAhead, cut_ends, named_ahead}
use Rattle.lazy_walk.proofs.Childing.{place_split}
use Rattle.lazy_walk.proofs.Fronts.{IsPart, IsTopNamed, named_top, part_at}
use Rattle.lazy_walk.proofs.Splits.{IsCut, cut, text_chosen}
use Rattle.lazy_walk.proofs.Walking.{asks_more, has_earlier}

-- over told sources, where levels lead to a child of a node, a call finds that by what the steps to it cost
abbrev pub FindsAmong : BenchState → BenchState → WalkedNode → List LevelValue → List (Option Evidence) → Result (Option Led) WalkFault → Type 0
FindsAmong old new n levels members result =
    (q : List ℕ) (j : ℕ) → IsAt old n q → HasPlace old (q ++ j ∷ []) → (x : LeadsBelow (documents old) (ops_of old) q levels members j)
    → AsksAtMost old new (child_charge (documents old) (ops_of old) q j) × FindsLed new (q ++ j ∷ []) (length x.lead.front) result

-- what is found by some levels is found by those that are the same
pub found_among : (old new : BenchState) (n : WalkedNode) (levels ls : List LevelValue) (members ms : List (Option Evidence)) (r : Result (Option Led) WalkFault) → levels ≡ ls → members ≡ ms → FindsAmong old new n levels members r
    → FindsAmong old new n ls ms r
found_among old new n levels ls members ms r e g f =
    subst (λ (ms : List (Option Evidence)). FindsAmong old new n ls ms r) g (subst (λ (ls : List LevelValue). FindsAmong old new n ls members r) e f)

-- THE WAY FURTHER

-- where steps are made only behind all levels, and not all were passed, none was made
none_made : (steps levels all : ℕ) → (0 < steps → levels ≡ all) → (levels ≡ all → ⊥) → steps ≡ 0
none_made zero levels all below less = refl
none_made (suc steps) levels all below less = absurd (less (below (omega arith)))

module _ (d : NodeValue) (from : Stage) (stage : IsStage d from) where
  -- where levels are ahead, no step below was made
  pub no_steps : from.levels < length d.levels → from.steps ≡ 0
  no_steps less = none_made from.steps from.levels (length d.levels) stage.below (λ e. omega (arith, e, less))

module _ (old : BenchState) (law : (q : PlanValue) → TolledIsDocument q) (valid : IsValid (plan_value old.plan)) (mark : Mark) (is : IsMark old mark) where
  -- what a text names is there
  named_has : (d : NodeValue) (a : List ℕ) → Names (documents old) (ops_of old) d a → HasPlace old a
  named_has d a names t e =
      let x = names_nodes law (plan_value old.plan) valid (documents old) d a names in
      ap (λ (u : LabelledTree). has_place (alone u) a) (some_is t x.0 (sym e ∙ x.1)) ∙ x.2

  -- the evidence of a mark's levels is of what they choose
  named_chosen : AreOfChosen (ops_of old) (outer_listing (ops_of old)) mark.data.levels mark.members.items
  named_chosen = by_end (text_ending (ops_of old) mark.data.levels) refl is.ends
    where
      by_end : (o : Option Ending) → text_ending (ops_of old) mark.data.levels ≡ o → HasEnd old o mark.data.inside mark.members.items mark.shown → AreOfChosen (ops_of old) (outer_listing (ops_of old)) mark.data.levels mark.members.items
      by_end None z h = absurd h
      by_end (Some e) z h = text_chosen (ops_of old) mark.data.levels mark.members.items e z h.inputs

  module _ (from : Stage) (stage : IsStage mark.data from) (q : List ℕ) (part : Names (documents old) (ops_of old) (part_of mark.data from) q) where
    -- LEVELS

    module _ (less : from.levels < length mark.data.levels) where
      -- the levels so far name the node
      front_named : NamesBy (documents old) (ops_of old) (take from.levels mark.data.levels) [] q
      front_named = subst (λ (k : ℕ). NamesBy (documents old) (ops_of old) (take from.levels mark.data.levels) (take k mark.data.inside) q) (no_steps mark.data from stage less) part

      module _ (m : ℕ) (more : from.levels < m) (most : m ≤ length mark.data.levels) (inside a : List ℕ) (names : NamesBy (documents old) (ops_of old) (take m mark.data.levels) inside a) where
        -- more levels of the text are those so far and others behind
        abbrev split : IsPart mark.data.levels from.levels m
        split = part_at mark.data.levels from.levels m more most

        -- where these name a node, they are ahead of the one so far
        abbrev ahead : IsAhead (plan_value old.plan) valid (documents old) mark.members.items (take from.levels mark.data.levels) (split.next ∷ split.more) split.behind inside a
        ahead =
            named_ahead (plan_value old.plan) valid (documents old) mark.members.items (law (plan_value old.plan)) (take from.levels mark.data.levels) split.next split.more split.behind inside q a
            (subst (λ (xs : List LevelValue). AreOfChosen (ops_of old) (outer_listing (ops_of old)) xs mark.members.items) split.all named_chosen) front_named
            (subst (λ (xs : List LevelValue). NamesBy (documents old) (ops_of old) xs inside a) split.front names)

        -- the element before them is the node so far
        element_same : ahead.element ≡ q
        element_same = names_one (plan_value old.plan) valid (documents old) (node (take from.levels mark.data.levels) []) ahead.element q ahead.held.named front_named

        -- the first of them lead to a child
        abbrev first : IsCut (documents old) (ops_of old) ahead.here ahead.list (split.next ∷ split.more) inside ahead.way
        first = cut (documents old) (ops_of old) ahead.leads

        -- the place is that of the child, or below it
        child_on : a ≡ q ++ first.index ∷ first.way
        child_on = ahead.is ∙ ap (λ (z : List ℕ). z ++ ahead.way) element_same ∙ ap (λ (w : List ℕ). q ++ w) first.place

        child_has : HasPlace old (q ++ first.index ∷ [])
        child_has = has_earlier old q first.way first.index first.index (omega arith) (subst (HasPlace old) child_on (named_has (node (take m mark.data.levels) inside) a names))

        -- the levels that are ahead lead to it
        abbrev below : LeadsBelow (documents old) (ops_of old) q (drop from.levels mark.data.levels) (drop from.levels mark.members.items) first.index
        below = record {
          here = ahead.here;
          there = first.there;
          list = ahead.list;
          piece = first.piece;
          is_list = subst (λ (z : List ℕ). HasListAt (documents old) (ops_of old) z ahead.here ahead.list) element_same ahead.held.is_list;
          chosen =
              subst (λ (k : ℕ). AreOfChosen (ops_of old) (Some ahead.list) (drop from.levels mark.data.levels) (drop k mark.members.items)) (length-take-le from.levels mark.data.levels (omega (arith, less)))
              (subst (λ (xs : List LevelValue). AreOfChosen (ops_of old) (Some ahead.list) xs (drop (length (take from.levels mark.data.levels)) mark.members.items)) (sym split.ahead) ahead.held.chosen);
          lead = record {
            front = first.front;
            behind = first.behind ++ split.behind;
            is = split.ahead ∙ ap (λ (xs : List LevelValue). xs ++ split.behind) first.is ∙ append_assoc first.front first.behind split.behind;
            enters = first.enters;
          };
        }

        -- so many levels lead to it, and no more than there are
        first_most : length first.front + from.levels ≤ m
        first_most = (let s = split.size in let e = ap length first.is ∙ length-append first.front first.behind in omega (arith, s, e))

        -- the levels so far and those that lead to the child
        first_levels : take (from.levels + length first.front) mark.data.levels ≡ take from.levels mark.data.levels ++ first.front
        first_levels =
            let e : mark.data.levels ≡ (take from.levels mark.data.levels ++ first.front) ++ (first.behind ++ split.behind) =
            sym (take-append-drop from.levels mark.data.levels) ∙ ap (λ (xs : List LevelValue). take from.levels mark.data.levels ++ xs) below.lead.is
            ∙ sym (append_assoc (take from.levels mark.data.levels) first.front (first.behind ++ split.behind)) in
            let l = length-append (take from.levels mark.data.levels) first.front in
            let k = length-take-le from.levels mark.data.levels (omega (arith, less)) in
            ap (take (from.levels + length first.front)) e ∙ take_at (take from.levels mark.data.levels ++ first.front) (first.behind ++ split.behind) (from.levels + length first.front) (omega (arith, l, k))

        -- they name it
        first_named : NamesBy (documents old) (ops_of old) (take (from.levels + length first.front) mark.data.levels) [] (q ++ first.index ∷ [])
        first_named =
            let opens = ahead.held.opens first.front first.index first.there first.piece first.enters in
            let ends = cut_ends (plan_value old.plan) valid (documents old) ahead.here ahead.list (split.next ∷ split.more) inside ahead.way ahead.held.sound first in
            let own = opened_named (documents old) (ops_of old) (take from.levels mark.data.levels ++ first.front) (ahead.element ++ first.index ∷ []) [] first.there first.piece opens ends in
            subst (λ (xs : List LevelValue). NamesBy (documents old) (ops_of old) xs [] (q ++ first.index ∷ [])) (sym first_levels)
            (subst (NamesBy (documents old) (ops_of old) (take from.levels mark.data.levels ++ first.front) []) (append-nil (ahead.element ++ first.index ∷ []) ∙ ap (λ (z : List ℕ). z ++ first.index ∷ []) element_same) own)

      module _ (new : BenchState) (n : WalkedNode) (at : IsAt old n q) where
        -- no part between names a node
        none_between : (led : Led) → FindsAmong old new n (drop from.levels mark.data.levels) (drop from.levels mark.members.items) (Ok (Some led)) → from.levels + led.count ≤ length mark.data.levels
            → NamesNoneBetween (documents old) (ops_of old) mark.data from (levels_further from led.count)
        none_between led f most to is_stage after before a names =
            let none = none_made to.steps to.levels (length mark.data.levels) is_stage.below (λ e. omega (arith, e, before, most)) in
            let start = no_steps mark.data from stage less in
            let within = is_stage.levels in
            let lo : from.levels < to.levels = omega (arith, after, none, start) in
            let whole = subst (λ (k : ℕ). NamesBy (documents old) (ops_of old) (take to.levels mark.data.levels) (take k mark.data.inside) a) none names in
            let found = f q (first to.levels lo within [] a whole).index at (child_has to.levels lo within [] a whole) (below to.levels lo within [] a whole) in
            let count = found.1.1 in
            let size = first_most to.levels lo within [] a whole in
            omega (arith, count, size, before, none)

        module _ (p : List ℕ) (names : Names (documents old) (ops_of old) mark.data p) where
          -- all levels name the node
          all_named : NamesBy (documents old) (ops_of old) (take (length mark.data.levels) mark.data.levels) mark.data.inside p
          all_named = subst (λ (xs : List LevelValue). NamesBy (documents old) (ops_of old) xs mark.data.inside p) (sym (take_all (length mark.data.levels) mark.data.levels (omega arith))) names

          all_most : length mark.data.levels ≤ length mark.data.levels
          all_most = omega arith

          -- the first of those ahead lead to a child
          abbrev next : IsCut (documents old) (ops_of old) (ahead (length mark.data.levels) less all_most mark.data.inside p all_named).here (ahead (length mark.data.levels) less all_most mark.data.inside p all_named).list
              ((split (length mark.data.levels) less all_most mark.data.inside p all_named).next ∷ (split (length mark.data.levels) less all_most mark.data.inside p all_named).more) mark.data.inside
              (ahead (length mark.data.levels) less all_most mark.data.inside p all_named).way
          next = first (length mark.data.levels) less all_most mark.data.inside p all_named

          -- that child is found
          child_found : (r : Result (Option Led) WalkFault) → FindsAmong old new n (drop from.levels mark.data.levels) (drop from.levels mark.members.items) r
              → AsksAtMost old new (child_charge (documents old) (ops_of old) q next.index) × FindsLed new (q ++ next.index ∷ []) (length next.front) r
          child_found r f = f q next.index at (child_has (length mark.data.levels) less all_most mark.data.inside p all_named) (below (length mark.data.levels) less all_most mark.data.inside p all_named)

          -- what a search among the children comes to tells what the step further comes to
          pub levels_lead : (r : Result (Option Led) WalkFault) → FindsAmong old new n (drop from.levels mark.data.levels) (drop from.levels mark.members.items) r → (result : Result (Option Passed) WalkFault)
              → ((index : ℕ) → IfOk result (λ x. MatchOption x ⊥ (IsNextNamed old new mark.data from (q ++ index ∷ [])))) → LeadsFurther old new mark.data from q p result
          levels_lead r f result finds = record {
            index = next.index;
            rest = next.way;
            is = child_on (length mark.data.levels) less all_most mark.data.inside p all_named;
            asks = (child_found r f).0;
            finds = finds next.index;
          }

          -- the child is named next
          pub levels_found : (led : Led) → FindsAmong old new n (drop from.levels mark.data.levels) (drop from.levels mark.members.items) (Ok (Some led)) → from.levels + led.count ≤ length mark.data.levels
              → LeadsFurther old new mark.data from q p (Ok (Some (passed_by_levels from led)))
          levels_found led f most =
              let x = child_found (Ok (Some led)) f in
              let count = x.1.1 in
              record {
                index = next.index;
                rest = next.way;
                is = child_on (length mark.data.levels) less all_most mark.data.inside p all_named;
                asks = x.0;
                finds = record {
                  at = x.1.0;
                  names = subst (λ (k : ℕ). NamesBy (documents old) (ops_of old) (take (from.levels + k) mark.data.levels) [] (q ++ next.index ∷ [])) (sym count)
                      (first_named (length mark.data.levels) less all_most mark.data.inside p all_named);
                  next = none_between led f most;
                };
              }

          pub levels_none : FindsAmong old new n (drop from.levels mark.data.levels) (drop from.levels mark.members.items) (Ok None) → ⊥
          levels_none f = (child_found (Ok None) f).1

    -- STEPS

    module _ (all : length mark.data.levels ≤ from.levels) (less : from.steps < length mark.data.inside) (p : List ℕ) (names : Names (documents old) (ops_of old) mark.data p) where
      -- the top to which all levels lead
      abbrev top : IsTopNamed (documents old) (ops_of old) mark.data.levels mark.data.inside p
      top = named_top (documents old) (ops_of old) mark.data.levels mark.data.inside p names

      -- the next step
      abbrev step : ℕ
      step = slice_index mark.data.inside from.steps

      all_levels : take from.levels mark.data.levels ≡ mark.data.levels
      all_levels = take_all from.levels mark.data.levels all

      -- the node so far is as many steps below the top
      top_same : q ≡ top.top ++ take from.steps mark.data.inside
      top_same =
          names_one (plan_value old.plan) valid (documents old) (node mark.data.levels (take from.steps mark.data.inside)) q (top.top ++ take from.steps mark.data.inside)
          (subst (λ (xs : List LevelValue). NamesBy (documents old) (ops_of old) xs (take from.steps mark.data.inside) q) all_levels part)
          (top.shorter (take from.steps mark.data.inside) (drop from.steps mark.data.inside) (sym (take-append-drop from.steps mark.data.inside)))

      -- the node is below the next step
      step_on : p ≡ q ++ step ∷ drop (from.steps + 1) mark.data.inside
      step_on =
          top.is ∙ ap (λ (w : List ℕ). top.top ++ w) (sym (place_split mark.data.inside from.steps less))
          ∙ sym (append_assoc top.top (take from.steps mark.data.inside) (step ∷ drop (from.steps + 1) mark.data.inside)) ∙ ap (λ (w : List ℕ). w ++ step ∷ drop (from.steps + 1) mark.data.inside) (sym top_same)

      step_has : HasPlace old (q ++ step ∷ [])
      step_has = has_earlier old q (drop (from.steps + 1) mark.data.inside) step step (omega arith) (subst (HasPlace old) step_on (named_has mark.data p names))

      -- one step more names the child there
      step_named : Names (documents old) (ops_of old) (part_of mark.data (step_further from)) (q ++ step ∷ [])
      step_named =
          let own = top.shorter (take (from.steps + 1) mark.data.inside) (drop (from.steps + 1) mark.data.inside) (sym (take-append-drop (from.steps + 1) mark.data.inside)) in
          let e : top.top ++ take (from.steps + 1) mark.data.inside ≡ q ++ step ∷ [] =
          ap (λ (w : List ℕ). top.top ++ w) (take_next mark.data.inside from.steps less) ∙ sym (append_assoc top.top (take from.steps mark.data.inside) (step ∷ [])) ∙ ap (λ (w : List ℕ). w ++ step ∷ []) (sym top_same) in
          subst (λ (xs : List LevelValue). NamesBy (documents old) (ops_of old) xs (take (from.steps + 1) mark.data.inside) (q ++ step ∷ [])) (sym all_levels)
          (subst (NamesBy (documents old) (ops_of old) mark.data.levels (take (from.steps + 1) mark.data.inside)) e own)

      module _ (new : BenchState) (n : WalkedNode) (at : IsAt old n q) where
        -- the steps to the child cost what its charge says
        step_asked : (r : Result (Option WalkedNode) WalkFault) → FindsBelow old new n (step ∷ []) r → AsksAtMost old new (child_charge (documents old) (ops_of old) q step)
        step_asked r f = asks_more old new (charge_below (documents old) (ops_of old) q (step ∷ [])) (child_charge (documents old) (ops_of old) q step) (omega arith) (f q at step_has).0

        -- what the steps to the child come to tells what the step further comes to
        pub step_leads : (r : Result (Option WalkedNode) WalkFault) → FindsBelow old new n (step ∷ []) r → (result : Result (Option Passed) WalkFault)
            → ((index : ℕ) → IfOk result (λ x. MatchOption x ⊥ (IsNextNamed old new mark.data from (q ++ index ∷ [])))) → LeadsFurther old new mark.data from q p result
        step_leads r f result finds = record {
          index = step;
          rest = drop (from.steps + 1) mark.data.inside;
          is = step_on;
          asks = step_asked r f;
          finds = finds step;
        }

        pub step_found : (child : WalkedNode) → FindsBelow old new n (step ∷ []) (Ok (Some child)) → LeadsFurther old new mark.data from q p (Ok (Some (passed_by_step from child)))
        step_found child f = record {
          index = step;
          rest = drop (from.steps + 1) mark.data.inside;
          is = step_on;
          asks = step_asked (Ok (Some child)) f;
          finds = record { at = (f q at step_has).1; names = step_named; next = λ to is_stage after before a between. absurd (omega (arith, after, before)) };
        }

        pub step_none : FindsBelow old new n (step ∷ []) (Ok None) → ⊥
        step_none f = (f q at step_has).1

-- WHAT A CALL COMES TO

module _ (old : BenchState) (law : (q : PlanValue) → TolledIsDocument q) (valid : IsValid (plan_value old.plan)) (mark : Mark) (is : IsMark old mark) (from : Stage) (stage : IsStage mark.data from) (new : BenchState) (n : WalkedNode) where
  module _ (less : from.levels < length mark.data.levels) where
    -- levels are ahead, and the search among the children failed
    pub levels_fail : (r : Result (Option Led) WalkFault) → FindsAmong old new n (drop from.levels mark.data.levels) (drop from.levels mark.members.items) r → (result : Result (Option Passed) WalkFault)
        → ((place : List ℕ) → IfOk result (λ x. MatchOption x ⊥ (IsNextNamed old new mark.data from place))) → GoesOnTo old new n mark.data from result
    levels_fail r f result finds q p at part names more = levels_lead old law valid mark is from stage q part less new n at p names r f result (λ index. finds (q ++ index ∷ []))

    -- levels are ahead, and the search among the children came to an end
    pub levels_go_on : (r : Option Led) → GivesLed new (length (drop from.levels mark.data.levels)) r → FindsAmong old new n (drop from.levels mark.data.levels) (drop from.levels mark.members.items) (Ok r)
        → GoesOnTo old new n mark.data from (Ok (option_map (passed_by_levels from) r))
    levels_go_on None g f q p at part names more = absurd (levels_none old law valid mark is from stage q part less new n at p names f)
    levels_go_on (Some led) g f q p at part names more =
        let l = length-drop from.levels mark.data.levels in
        let most = g.2 in
        levels_found old law valid mark is from stage q part less new n at p names led f (omega (arith, l, most, less))

  module _ (all : length mark.data.levels ≤ from.levels) (less : from.steps < length mark.data.inside) (index : ℕ) (same : index ≡ slice_index mark.data.inside from.steps) where
    -- steps are ahead, and the way to the child failed
    pub steps_fail : (r : Result (Option WalkedNode) WalkFault) → FindsBelow old new n (index ∷ []) r → (result : Result (Option Passed) WalkFault)
        → ((place : List ℕ) → IfOk result (λ x. MatchOption x ⊥ (IsNextNamed old new mark.data from place))) → GoesOnTo old new n mark.data from result
    steps_fail r f result finds q p at part names more =
        step_leads old law valid mark is from stage q part all less p names new n at r (subst (λ (k : ℕ). FindsBelow old new n (k ∷ []) r) same f) result (λ index. finds (q ++ index ∷ []))

    -- steps are ahead, and the way to the child came to an end
    pub steps_go_on : (r : Option WalkedNode) → FindsBelow old new n (index ∷ []) (Ok r) → GoesOnTo old new n mark.data from (Ok (option_map (passed_by_step from) r))
    steps_go_on None f q p at part names more = absurd (step_none old law valid mark is from stage q part all less p names new n at (subst (λ (k : ℕ). FindsBelow old new n (k ∷ []) (Ok None)) same f))
    steps_go_on (Some child) f q p at part names more =
        step_found old law valid mark is from stage q part all less p names new n at child (subst (λ (k : ℕ). FindsBelow old new n (k ∷ []) (Ok (Some child))) same f)
