-- How the levels of a text go on behind those of a part of it that names a node: in the list of the element there.
use Rattle.std.proofs.Common.{◌≡◌, ◌∙◌, ℕ, ◌<◌, List, [], ◌∷◌, ◌++◌, Option, Some, refl, sym, ap, subst, length, drop, append_assoc, append-nil, length-append}
use Rattle.std.specs.Prelude.{option_and_then}
use Rattle.std.proofs.lemmas.List.{map-append, length-map, drop-drop}
use Rattle.mix_base.proofs.Choices.{some_is}
use Rattle.mix_base.specs.Events.{found}
use Rattle.mix_tree.specs.Nodes.{Documents}
use Rattle.node_text.specs.Node.{LevelValue}
use Rattle.plan_core.specs.declared.plan.Piece.{Piece}
use Rattle.plan_core.specs.declared.plan.Piece.TheVariants.{Var as var_piece}
use Rattle.plan_core.specs.Events.{events, first_row, TolledIsDocument}
use Rattle.plan_core.specs.Plans.{PlanValue}
use Rattle.plan_core.specs.TolledRows.{TolledRow}
use Rattle.plan_core.specs.Typed.{IsTyped}
use Rattle.plan_core.specs.Valid.{a_list, kinds, IsPiece, IsValid}
use Rattle.plan_core.proofs.Typed.{valid_is_typed}
use Rattle.plan_evidence.specs.Named.{maker, element_list, list_of, Listing, of_pieces, Reached, IsBelow, Ends, Leads, IsOuter, NamesBy}
use Rattle.plan_evidence.specs.Opened.{Enters, by_one, by_pieces, Opens, of_outer as opens_outer, of_element as opens_element}
use Rattle.plan_evidence.proofs.Aparts.{at_index}
use Rattle.plan_evidence.proofs.Makers.{number_of}
use Rattle.plan_evidence.proofs.NamedNodes.{picked, element_value, list_value}
use Rattle.plan_evidence.proofs.Opened.{opened_named}
use Rattle.plan_evidence.proofs.Outers.{outer_is}
use Rattle.plan_evidence.proofs.Shown.{IsLow, IsRow, IsListOf}
use Rattle.plan_levels.specs.Entered.{numbers_of}
use Rattle.lazy_follow.specs.declared.evidence.Evidence.{Evidence}
use Rattle.lazy_follow.specs.Following.{list_in}
use Rattle.lazy_walk.specs.Finding.{of_outer, of_inner, outer_listing, HasListAt}
use Rattle.lazy_walk.specs.Leading.{AreOfChosen}
use Rattle.lazy_walk.proofs.Fronts.{ends_front, same_parts}
use Rattle.lazy_walk.proofs.OneWay.{one_way}
use Rattle.lazy_walk.proofs.Splits.{heads, GoOn, IsCut, cut, chosen_behind, after_numbers, entered_list}

module _ (p : PlanValue) (valid : IsValid p) (docs : Documents) where
  -- the plan's operators are typed
  typed : IsTyped p.ops
  typed = valid_is_typed p valid

  -- WHAT IS BOUND

  -- a list is one over a binding of an operator
  pub record IsSound (here : Reached) (list : Listing) : Type 0 where
    pub number : ℕ
    pub low : ℕ
    pub within : number < length p.ops
    pub row : IsRow docs p.ops number here.row
    pub listed : IsListOf docs p.ops low number list

  -- a piece is one over a binding of an operator
  record IsMade (there : Reached) (piece : Piece) : Type 0 where
    number : ℕ
    within : number < length p.ops
    row : IsRow docs p.ops number there.row
    bound : IsPiece (kinds p.ops number) piece

  -- levels lead from such a list to such a piece
  made : {here there : Reached} {list : Listing} {ls : List LevelValue} {j : ℕ} {piece : Piece} → IsSound here list → Enters docs p.ops here list ls j there piece → IsMade there piece
  made s (by_one pick) =
      let c = picked p valid typed docs s.number s.low s.within s.row s.listed pick in
      record { number = c.number; within = c.within; row = c.sound; bound = c.bound }
  made {here = here} s (by_pieces {pieces = pieces} {inner = inner} {l = l} {v = v} get t lo more) =
      let bound = (at_index (λ q. IsPiece (kinds p.ops s.number) q × IsLow docs p.ops s.low q) pieces l.piece (var_piece v) s.listed get).0 in
      let list = list_value p valid typed docs s.number here.row s.row v (of_pieces inner) bound lo in
      made (record { number = s.number; low = number_of p.ops v; within = s.within; row = s.row; listed = list.is_listed }) more

  -- an element ends levels, and its list is one over its binding
  record IsEntered (there : Reached) (v : ℕ) (inner : Listing) : Type 0 where
    ends : Ends docs p.ops there.row (var_piece v) []
    sound : IsSound there inner

  entered : (there : Reached) (v u : ℕ) (inner : Listing) → IsMade there (var_piece v) → element_list (maker p.ops v) ≡ Some u → list_of p.ops u ≡ Some inner → IsEntered there v inner
  entered there v u inner m e i =
      let x = element_value p valid typed docs m.number there.row m.row v u m.bound e in
      let same : u ≡ x.inner = some_is u x.inner (sym e ∙ x.is_inner) in
      let is : list_of p.ops x.inner ≡ Some inner = ap (list_of p.ops) (sym same) ∙ i in
      let list = list_value p valid typed docs m.number there.row m.row x.inner inner (a_list, x.bound) is in
      record {
        ends = subst (λ z. IsBelow docs p.ops z []) (sym x.is_value) refl;
        sound = record { number = m.number; low = number_of p.ops x.inner; within = m.within; row = m.row; listed = list.is_listed };
      }

  -- the first tree to which levels lead ends those that lead there
  pub cut_ends : (here : Reached) (list : Listing) (ls : List LevelValue) (inside path : List ℕ) → IsSound here list → (x : IsCut docs p.ops here list ls inside path) → Ends docs p.ops x.there.row x.piece []
  cut_ends here list ls inside path s x = by_behind x.behind x.goes_on
    where
      by_behind : (xs : List LevelValue) → GoOn docs p.ops x.there x.piece xs inside x.way → Ends docs p.ops x.there.row x.piece []
      by_behind [] g = ends_front docs p.ops x.there.row x.piece [] inside g.1
      by_behind (l ∷ xs) g =
          let m : IsMade x.there (var_piece g.0) = subst (IsMade x.there) g.3 (made s x.enters) in
          subst (λ y. Ends docs p.ops x.there.row y []) (sym g.3) (entered x.there g.0 g.1 g.2 m g.4 g.5).ends

  -- the list of the outer element is one over its binding
  outer_sound : TolledIsDocument p → (here : Reached) (inner : Listing) → IsOuter docs p.ops here inner → IsSound here inner
  outer_sound law here inner r =
      let o = outer_is p valid typed law docs in
      let pairs : ◌≡◌ {A = ℕ × ℕ} (o.input, o.outer) (r.input, r.outer) = some_is (o.input, o.outer) (r.input, r.outer) (sym o.is_outer ∙ r.is_outer) in
      let input : o.input ≡ r.input = ap (λ z. z.0) pairs in
      let outer : o.outer ≡ r.outer = ap (λ z. z.1) pairs in
      let row : first_row (found (events docs p.ops o.input)) ≡ here.row = ap (λ n. first_row (found (events docs p.ops n))) input ∙ sym r.is_row in
      let list : o.is_element.inner ≡ r.list = some_is o.is_element.inner r.list (sym o.is_element.is_inner ∙ ap (λ v. element_list (maker p.ops v)) outer ∙ r.is_list) in
      let is : list_of p.ops o.is_element.inner ≡ Some inner = ap (list_of p.ops) list ∙ r.is_inner in
      let first : TolledRow = first_row (found (events docs p.ops o.input)) in
      let shows = list_value p valid typed docs o.input first o.sound o.is_element.inner inner (a_list, o.is_element.bound) is in
      record { number = o.input; low = number_of p.ops o.is_element.inner; within = o.within; row = subst (IsRow docs p.ops o.input) row o.sound; listed = shows.is_listed }

  -- that list is the one that the plan says
  outer_list : (here : Reached) (inner : Listing) → IsOuter docs p.ops here inner → outer_listing p.ops ≡ Some inner
  outer_list here inner x = ap (option_and_then (λ o. list_in p.ops (var_piece o.1))) x.is_outer ∙ ap (option_and_then (list_of p.ops)) x.is_list ∙ x.is_inner

  -- ELEMENTS TO WHICH LEVELS LEAD

  module _ (members : List (Option Evidence)) where
    -- levels lead to the element at a place and name it; others are behind them, with evidence of what they choose from the element's list on
    pub record IsHeld (ls behind : List LevelValue) (place : List ℕ) (here : Reached) (list : Listing) : Type 0 where
      pub sound : IsSound here list
      pub is_list : HasListAt docs p.ops place here list
      pub chosen : AreOfChosen p.ops (Some list) behind (drop (length ls) members)
      pub named : NamesBy docs p.ops ls [] place
      pub opens : (ms : List LevelValue) (j : ℕ) (there : Reached) (piece : Piece) → Enters docs p.ops here list ms j there piece → Opens docs p.ops (ls ++ ms) (place ++ j ∷ []) there piece

    -- more levels lead from there to an element in its list
    held_below : (ls front behind : List LevelValue) (place : List ℕ) (here there : Reached) (list inner : Listing) (j v u : ℕ) → IsHeld ls (front ++ behind) place here list
        → Enters docs p.ops here list front j there (var_piece v) → element_list (maker p.ops v) ≡ Some u → list_of p.ops u ≡ Some inner → IsHeld (ls ++ front) behind (place ++ j ∷ []) there inner
    held_below ls front behind place here there list inner j v u h enters e i =
        let x = entered there v u inner (made h.sound enters) e i in
        let named = opened_named docs p.ops (ls ++ front) (place ++ j ∷ []) [] there (var_piece v) (h.opens front j there (var_piece v) enters) x.ends in
        let is : list_in p.ops (var_piece v) ≡ Some inner = ap (option_and_then (list_of p.ops)) e ∙ i in
        let far : drop (length front) (drop (length ls) members) ≡ drop (length (ls ++ front)) members = drop-drop (length front) (length ls) members ∙ ap (λ (k : ℕ). drop k members) (sym (length-append ls front)) in
        let chosen = chosen_behind docs p.ops enters behind (drop (length ls) members) h.chosen in
        record {
          sound = x.sound;
          is_list = of_inner h.is_list enters e i;
          chosen = subst (λ o. AreOfChosen p.ops o behind (drop (length (ls ++ front)) members)) is (subst (λ (ms : List (Option Evidence)). AreOfChosen p.ops (list_in p.ops (var_piece v)) behind ms) far chosen);
          named = subst (NamesBy docs p.ops (ls ++ front) []) (append-nil (place ++ j ∷ [])) named;
          opens = λ ms k below piece more. opens_element (h.opens front j there (var_piece v) enters) e i more;
        }

    -- no level leads to the outer element
    outer_held : TolledIsDocument p → (here : Reached) (inner : Listing) → IsOuter docs p.ops here inner → (levels : List LevelValue) → AreOfChosen p.ops (outer_listing p.ops) levels members → IsHeld [] levels [] here inner
    outer_held law here inner o levels chosen = record {
      sound = outer_sound law here inner o;
      is_list = of_outer o;
      chosen = subst (λ z. AreOfChosen p.ops z levels members) (outer_list here inner o) chosen;
      named = (refl, refl);
      opens = λ ms j there piece e. opens_outer o e;
    }

    -- levels lead to an element on the way to a place, and those after them lead on in its list; others are behind
    pub record IsAhead (ls bs cs : List LevelValue) (inside path : List ℕ) : Type 0 where
      pub element : List ℕ
      pub way : List ℕ
      pub is : path ≡ element ++ way
      pub here : Reached
      pub list : Listing
      pub held : IsHeld ls (bs ++ cs) element here list
      pub leads : Leads docs p.ops here list bs inside way

    -- levels lead on in the list of an element that a piece is
    record IsOn (there : Reached) (piece : Piece) (ls : List LevelValue) (inside way : List ℕ) : Type 0 where
      var : ℕ
      below : ℕ
      inner : Listing
      is_var : piece ≡ var_piece var
      is_element : element_list (maker p.ops var) ≡ Some below
      is_inner : list_of p.ops below ≡ Some inner
      is_list : list_in p.ops piece ≡ Some inner
      leads : Leads docs p.ops there inner ls inside way

    some_on : (there : Reached) (piece : Piece) (l : LevelValue) (ls : List LevelValue) (inside way : List ℕ) → GoOn docs p.ops there piece (l ∷ ls) inside way → IsOn there piece (l ∷ ls) inside way
    some_on there piece l ls inside way g = record {
      var = g.0;
      below = g.1;
      inner = g.2;
      is_var = g.3;
      is_element = g.4;
      is_inner = g.5;
      is_list = ap (list_in p.ops) g.3 ∙ ap (option_and_then (list_of p.ops)) g.4 ∙ g.5;
      leads = g.6;
    }

    going_on : (there : Reached) (piece : Piece) (xs : List LevelValue) (b : LevelValue) (bs : List LevelValue) (inside way : List ℕ) → GoOn docs p.ops there piece (xs ++ b ∷ bs) inside way
        → IsOn there piece (xs ++ b ∷ bs) inside way
    going_on there piece [] b bs inside way g = some_on there piece b bs inside way g
    going_on there piece (x ∷ xs) b bs inside way g = some_on there piece x (xs ++ b ∷ bs) inside way g

    -- where a part of the levels leads from a list to a place that is named without one below, the others lead on from there
    abbrev Along : List ℕ → Type 0
    Along a =
        (ls fs : List LevelValue) (b : LevelValue) (bs cs : List LevelValue) (other here : Reached) (list : Listing) (inside place path : List ℕ) → Leads docs p.ops other list fs [] a
        → IsHeld ls ((fs ++ b ∷ bs) ++ cs) place here list → Leads docs p.ops here list (fs ++ b ∷ bs) inside path → IsAhead (ls ++ fs) (b ∷ bs) cs inside (place ++ path)

    module _ (ls fs : List LevelValue) (b : LevelValue) (bs cs : List LevelValue) (other here : Reached) (list : Listing) (k : ℕ) (a inside place path : List ℕ) (part : Leads docs p.ops other list fs [] (k ∷ a))
        (held : IsHeld ls ((fs ++ b ∷ bs) ++ cs) place here list) (lead : Leads docs p.ops here list (fs ++ b ∷ bs) inside path) where
      -- the part cut after the levels to its first tree
      abbrev own : IsCut docs p.ops other list fs [] (k ∷ a)
      own = cut docs p.ops part

      -- all levels cut so
      abbrev whole : IsCut docs p.ops here list (fs ++ b ∷ bs) inside path
      whole = cut docs p.ops lead

      levels : whole.front ++ whole.behind ≡ own.front ++ (own.behind ++ b ∷ bs)
      levels = sym whole.is ∙ ap (λ (xs : List LevelValue). xs ++ b ∷ bs) own.is ∙ append_assoc own.front own.behind (b ∷ bs)

      -- both go through the same pieces
      numbers : numbers_of whole.front ≡ numbers_of own.front
      numbers =
          one_way docs p.ops whole.enters own.enters (numbers_of whole.behind) (numbers_of (own.behind ++ b ∷ bs))
          (sym (map-append (λ (l : LevelValue). l.piece) whole.front whole.behind) ∙ ap numbers_of levels ∙ map-append (λ (l : LevelValue). l.piece) own.front (own.behind ++ b ∷ bs))

      -- so by the same levels
      parts : (whole.front ≡ own.front) × (whole.behind ≡ own.behind ++ b ∷ bs)
      parts =
          same_parts whole.front whole.behind own.front (own.behind ++ b ∷ bs) levels
          (sym (length-map whole.front (λ (l : LevelValue). l.piece)) ∙ ap length numbers ∙ length-map own.front (λ (l : LevelValue). l.piece))

      -- behind them all levels lead on in an element's list
      abbrev on : IsOn whole.there whole.piece (own.behind ++ b ∷ bs) inside whole.way
      on = going_on whole.there whole.piece own.behind b bs inside whole.way (subst (λ (xs : List LevelValue). GoOn docs p.ops whole.there whole.piece xs inside whole.way) parts.1 whole.goes_on)

      first_held : IsHeld (ls ++ own.front) ((own.behind ++ b ∷ bs) ++ cs) (place ++ whole.index ∷ []) whole.there on.inner
      first_held =
          let e : (fs ++ b ∷ bs) ++ cs ≡ own.front ++ ((own.behind ++ b ∷ bs) ++ cs) =
          ap (λ (xs : List LevelValue). xs ++ cs) (ap (λ (xs : List LevelValue). xs ++ b ∷ bs) own.is ∙ append_assoc own.front own.behind (b ∷ bs)) ∙ append_assoc own.front (own.behind ++ b ∷ bs) cs in
          let enters : Enters docs p.ops here list own.front whole.index whole.there (var_piece on.var) =
          subst (λ x. Enters docs p.ops here list own.front whole.index whole.there x) on.is_var
          (subst (λ (ms : List LevelValue). Enters docs p.ops here list ms whole.index whole.there whole.piece) parts.0 whole.enters) in
          held_below ls own.front ((own.behind ++ b ∷ bs) ++ cs) place here whole.there list on.inner whole.index on.var on.below (subst (λ (xs : List LevelValue). IsHeld ls xs place here list) e held) enters on.is_element
          on.is_inner

      -- the place is the one that the index and the way behind it make
      way_same : (place ++ whole.index ∷ []) ++ whole.way ≡ place ++ path
      way_same = append_assoc place (whole.index ∷ []) whole.way ∙ ap (λ (w : List ℕ). place ++ w) (sym whole.place)

      -- where the part has no more levels, the others are ahead here
      here_ahead : own.behind ≡ [] → IsAhead (ls ++ fs) (b ∷ bs) cs inside (place ++ path)
      here_ahead z =
          let front : own.front ≡ fs = sym (append-nil own.front) ∙ ap (λ (xs : List LevelValue). own.front ++ xs) (sym z) ∙ sym own.is in
          record {
            element = place ++ whole.index ∷ [];
            way = whole.way;
            is = sym way_same;
            here = whole.there;
            list = on.inner;
            held = subst (λ (xs : List LevelValue). IsHeld (ls ++ xs) ((b ∷ bs) ++ cs) (place ++ whole.index ∷ []) whole.there on.inner) front
                (subst (λ (xs : List LevelValue). IsHeld (ls ++ own.front) ((xs ++ b ∷ bs) ++ cs) (place ++ whole.index ∷ []) whole.there on.inner) z first_held);
            leads = subst (λ (xs : List LevelValue). Leads docs p.ops whole.there on.inner (xs ++ b ∷ bs) inside whole.way) z on.leads;
          }

      -- where it has more, it leads on in the same list
      part_on : (l : LevelValue) (xs : List LevelValue) → own.behind ≡ l ∷ xs → Leads docs p.ops own.there on.inner own.behind [] a
      part_on l xs z =
          let x = some_on own.there own.piece l xs [] own.way (subst (λ (ys : List LevelValue). GoOn docs p.ops own.there own.piece ys [] own.way) z own.goes_on) in
          let pieces : list_in p.ops own.piece ≡ list_in p.ops whole.piece =
          sym (entered_list docs p.ops own.enters) ∙ ap (after_numbers p.ops (Some list)) (sym numbers) ∙ entered_list docs p.ops whole.enters in
          let same : x.inner ≡ on.inner = some_is x.inner on.inner (sym x.is_list ∙ pieces ∙ on.is_list) in
          let way : own.way ≡ a = sym (heads k own.index a own.way own.place).1 in
          subst (λ (ys : List LevelValue). Leads docs p.ops own.there on.inner ys [] a) (sym z)
          (subst (λ (w : List ℕ). Leads docs p.ops own.there on.inner (l ∷ xs) [] w) way (subst (λ o. Leads docs p.ops own.there o (l ∷ xs) [] own.way) same x.leads))

      -- and the others are ahead further on
      further_ahead : IsAhead ((ls ++ own.front) ++ own.behind) (b ∷ bs) cs inside ((place ++ whole.index ∷ []) ++ whole.way) → IsAhead (ls ++ fs) (b ∷ bs) cs inside (place ++ path)
      further_ahead x =
          subst (λ (w : List ℕ). IsAhead (ls ++ fs) (b ∷ bs) cs inside w) way_same
          (subst (λ (xs : List LevelValue). IsAhead xs (b ∷ bs) cs inside ((place ++ whole.index ∷ []) ++ whole.way)) (append_assoc ls own.front own.behind ∙ ap (λ (xs : List LevelValue). ls ++ xs) (sym own.is)) x)

      along_first : Along a → IsAhead (ls ++ fs) (b ∷ bs) cs inside (place ++ path)
      along_first more = by_behind own.behind refl
        where
          by_behind : (xs : List LevelValue) → own.behind ≡ xs → IsAhead (ls ++ fs) (b ∷ bs) cs inside (place ++ path)
          by_behind [] z = here_ahead z
          by_behind (l ∷ xs) z =
              further_ahead (more (ls ++ own.front) own.behind b bs cs own.there whole.there on.inner inside (place ++ whole.index ∷ []) whole.way (part_on l xs z) first_held on.leads)

    -- levels lead to some place
    no_place : {other : Reached} {list : Listing} {fs : List LevelValue} → Leads docs p.ops other list fs [] [] → ⊥
    no_place part = (let x = cut docs p.ops part in let e = x.place in cc)

    along : (a : List ℕ) → Along a
    along [] ls fs b bs cs other here list inside place path part held lead = absurd (no_place part)
    along (k ∷ a) ls fs b bs cs other here list inside place path part held lead = along_first ls fs b bs cs other here list k a inside place path part held lead (along a)

    -- where a part of the levels of a text names a node, the others are ahead of it
    pub named_ahead : TolledIsDocument p → (fs : List LevelValue) (b : LevelValue) (bs cs : List LevelValue) (inside q path : List ℕ) → AreOfChosen p.ops (outer_listing p.ops) ((fs ++ b ∷ bs) ++ cs) members
        → NamesBy docs p.ops fs [] q → NamesBy docs p.ops (fs ++ b ∷ bs) inside path → IsAhead fs (b ∷ bs) cs inside path
    named_ahead law [] b bs cs inside q path chosen part all = record {
      element = [];
      way = path;
      is = refl;
      here = all.here;
      list = all.inner;
      held = outer_held law all.here all.inner all.is_outer ((b ∷ bs) ++ cs) chosen;
      leads = all.leads;
    }
    named_ahead law (f ∷ fs) b bs cs inside q path chosen part all =
        let same : part.inner ≡ all.inner = some_is part.inner all.inner (sym (outer_list part.here part.inner part.is_outer) ∙ outer_list all.here all.inner all.is_outer) in
        along q [] (f ∷ fs) b bs cs part.here all.here all.inner inside [] path (subst (λ o. Leads docs p.ops part.here o (f ∷ fs) [] q) same part.leads)
        (outer_held law all.here all.inner all.is_outer (((f ∷ fs) ++ b ∷ bs) ++ cs) chosen) all.leads
