-- The sets of sorts have the layouts that are found, and so the same profiles.
use Rattle.std.proofs.Common.{◌≡◌, ◌⊎◌, inl, inr, ℕ, true, false, cond, List, [], ◌∷◌, ◌++◌, refl, sym, ap, subst, ◌∙◌}
use Rattle.std.specs.Prelude.{Bool, ◌||◌, Option, Some, None}
use Rattle.std.specs.List.{flat_map, list_any}
use Rattle.mix_base.specs.Ascents.{Among}
use Rattle.mix_base.proofs.Ascents.{among_left, among_right, among_cases}
use Rattle.path_auto.specs.Automaton.{Machine}
use Rattle.browse_profile.specs.declared.profile.Profile.{Profile}
use Rattle.browse_visit.specs.declared.shape.Shape.{Shape}
use Rattle.browse_visit.specs.declared.shape.Sort.{Sort}
use Rattle.browse_visit.specs.declared.shape.Sort.TheVariants.{Document, Root, Row, Value, MaybeValue, Leaf, Anything}
use Rattle.browse_visit.specs.declared.shape.Sorts.{Sorts}
use Rattle.browse_visit.specs.declared.visit.TableColumn.{TableColumn}
use Rattle.browse_visit.specs.SortSet.{In, IsSet}
use Rattle.browse_visit.specs.Found.{if_taken, tree_found, value_found, value_sort, row_found, root_found, document_found, sort_found, found_from, sorts_found, or_profile, with_profile, the_profile, sort_profile, profiles_from, sorts_profile}
use Rattle.browse_visit.specs.Layouts.{Layout, no_trees, value_layout}
use Rattle.browse_profile.specs.Profiles.{one_of, any_of}
use Rattle.browse_visit.specs.Shapes.{row_of, row_label, name_of, columns_of, sort_layout, has_sort, no_sorts, only, both, all_sorts}
use Rattle.browse_visit.specs.Visits.{visit_profile, layouts_found, layouts_below, profile_below}
use Rattle.browse_profile.proofs.AnyLaws.{any_same, one_of_assoc}

-- where one of two booleans is true, the first is or the second is
or_cases : (a b : Bool) → (a || b) ≡ true → (a ≡ true) ⊎ (b ≡ true)
or_cases true b h = inl refl
or_cases false b h = inr h

-- a disjunction whose first part is true is true
or_left : (a b : Bool) → a ≡ true → (a || b) ≡ true
or_left true b h = refl
or_left false b h = cc

-- a disjunction whose second part is true is true
or_right : (a b : Bool) → b ≡ true → (a || b) ≡ true
or_right true b h = refl
or_right false b h = h

-- a sort is in the sorts of two sets where it is in one of them
has_both : (a b : Sorts) (s : Sort) → has_sort (both a b) s ≡ (has_sort a s || has_sort b s)
has_both a b Document = refl
has_both a b Root = refl
has_both a b Row = refl
has_both a b Value = refl
has_both a b MaybeValue = refl
has_both a b Leaf = refl
has_both a b Anything = refl

-- no sort is in the set of no sorts
has_none : (s : Sort) → has_sort no_sorts s ≡ false
has_none Document = refl
has_none Root = refl
has_none Row = refl
has_none Value = refl
has_none MaybeValue = refl
has_none Leaf = refl
has_none Anything = refl

-- a sort is in the set of it alone
has_own : (s : Sort) → has_sort (only s) s ≡ true
has_own Document = refl
has_own Root = refl
has_own Row = refl
has_own Value = refl
has_own MaybeValue = refl
has_own Leaf = refl
has_own Anything = refl

-- the only sort of a set of one is that sort
only_own : (a b : Sort) → has_sort (only a) b ≡ true → a ≡ b
only_own Document Document h = refl
only_own Document Root h = cc
only_own Document Row h = cc
only_own Document Value h = cc
only_own Document MaybeValue h = cc
only_own Document Leaf h = cc
only_own Document Anything h = cc
only_own Root Document h = cc
only_own Root Root h = refl
only_own Root Row h = cc
only_own Root Value h = cc
only_own Root MaybeValue h = cc
only_own Root Leaf h = cc
only_own Root Anything h = cc
only_own Row Document h = cc
only_own Row Root h = cc
only_own Row Row h = refl
only_own Row Value h = cc
only_own Row MaybeValue h = cc
only_own Row Leaf h = cc
only_own Row Anything h = cc
only_own Value Document h = cc
only_own Value Root h = cc
only_own Value Row h = cc
only_own Value Value h = refl
only_own Value MaybeValue h = cc
only_own Value Leaf h = cc
only_own Value Anything h = cc
only_own MaybeValue Document h = cc
only_own MaybeValue Root h = cc
only_own MaybeValue Row h = cc
only_own MaybeValue Value h = cc
only_own MaybeValue MaybeValue h = refl
only_own MaybeValue Leaf h = cc
only_own MaybeValue Anything h = cc
only_own Leaf Document h = cc
only_own Leaf Root h = cc
only_own Leaf Row h = cc
only_own Leaf Value h = cc
only_own Leaf MaybeValue h = cc
only_own Leaf Leaf h = refl
only_own Leaf Anything h = cc
only_own Anything Document h = cc
only_own Anything Root h = cc
only_own Anything Row h = cc
only_own Anything Value h = cc
only_own Anything MaybeValue h = cc
only_own Anything Leaf h = cc
only_own Anything Anything h = refl

-- each sort is in the list of all sorts
in_all : (s : Sort) → Among s all_sorts
in_all Document = inl refl
in_all Root = inr (inl refl)
in_all Row = inr (inr (inl refl))
in_all Value = inr (inr (inr (inl refl)))
in_all MaybeValue = inr (inr (inr (inr (inl refl))))
in_all Leaf = inr (inr (inr (inr (inr (inl refl)))))
in_all Anything = inr (inr (inr (inr (inr (inr (inl refl))))))

-- a layout that a member gives is one of all that the members give
among_flat : {X : Type 0} (f : X → List Layout) (xs : List X) (x : X) (g : Layout) → Among x xs → Among g (f x) → Among g (flat_map f xs)
among_flat f [] x g a h = absurd a
among_flat f (y ∷ xs) x g (inl e) h = among_left (f y) (flat_map f xs) g (subst (λ z. Among g (f z)) e h)
among_flat f (y ∷ xs) x g (inr a) h = among_right (f y) (flat_map f xs) g (among_flat f xs x g a h)

-- a layout of all that members give is given by one of them
flat_cases : {X : Type 0} (f : X → List Layout) (xs : List X) (g : Layout) → Among g (flat_map f xs) → (x : X) × Among x xs × Among g (f x)
flat_cases f [] g h = absurd h
flat_cases f (x ∷ xs) g h =
    elim (among_cases (f x) (flat_map f xs) g h) [
      | inl a ↦ (x, inl refl, a)
      | inr a ↦ (let r = flat_cases f xs g a in (r.0, inr r.1, r.2))
    ]

module _ (shape : Shape) where
  -- the set of no sorts has no layouts
  pub set_none : IsSet shape no_sorts []
  set_none = record { into = λ g a. absurd a; out = λ g i. (let n = has_none i.0 in let z : true ≡ false = sym i.1 ∙ n in cc) }

  -- one sort has its own layout
  pub set_only : (s : Sort) → IsSet shape (only s) (sort_layout shape s ∷ [])
  set_only s = record {
    into = λ g a. elim a [ inl e ↦ (s, has_own s, sym e) | inr n ↦ absurd n ];
    out = λ g i. inl (sym i.2 ∙ ap (sort_layout shape) (sym (only_own s i.0 i.1)));
  }

  -- a layout of the first of two sets is one of both together
  in_left : (a b : Sorts) (g : Layout) → In shape a g → In shape (both a b) g
  in_left a b g i = (i.0, has_both a b i.0 ∙ or_left (has_sort a i.0) (has_sort b i.0) i.1, i.2)

  -- a layout of the second of two sets is one of both together
  in_right : (a b : Sorts) (g : Layout) → In shape b g → In shape (both a b) g
  in_right a b g i = (i.0, has_both a b i.0 ∙ or_right (has_sort a i.0) (has_sort b i.0) i.1, i.2)

  -- the sorts of either set have the layouts of both
  pub set_both : (a b : Sorts) (xs ys : List Layout) → IsSet shape a xs → IsSet shape b ys → IsSet shape (both a b) (xs ++ ys)
  set_both a b xs ys s t = record {
    into = λ g h. elim (among_cases xs ys g h) [ inl x ↦ in_left a b g (s.into g x) | inr y ↦ in_right a b g (t.into g y) ];
    out = λ g i.
        elim (or_cases (has_sort a i.0) (has_sort b i.0) (sym (has_both a b i.0) ∙ i.1)) [
          | inl h ↦ among_left xs ys g (s.out g (i.0, h, i.2))
          | inr h ↦ among_right xs ys g (t.out g (i.0, h, i.2))
        ];
  }

  -- a set that is taken has its layouts, one that is not has none
  pub set_taken : (can : Bool) (k : Sorts) (gs : List Layout) → IsSet shape k gs → IsSet shape (if_taken can k) (cond can gs [])
  set_taken true k gs s = s
  set_taken false k gs s = set_none

  -- a set has the layouts of a list where it has those of a list with the same members
  pub set_same : (k : Sorts) (xs ys : List Layout) → IsSet shape k xs → ((g : Layout) → Among g xs → Among g ys) → ((g : Layout) → Among g ys → Among g xs) → IsSet shape k ys
  set_same k xs ys s f b = record { into = λ g a. s.into g (b g a); out = λ g i. f g (s.out g i) }

  module _ (m : Machine) (labels : List (List ℕ)) where
    -- the layouts of the trees below the bindings of a visit of trees that are laid out so
    abbrev found : ℕ → Layout → List Layout
    found q g = layouts_found m labels q g

    set_value : (q : ℕ) (has : Bool) → IsSet shape (value_found m labels q) (found q (value_layout has))
    set_value q true = set_taken (list_any (λ l. m.accepts (m.step q l)) labels) (only Leaf) (no_trees ∷ []) (set_only Leaf)
    set_value q false = set_taken (list_any (λ l. m.accepts (m.step q l)) labels) (only Leaf) (no_trees ∷ []) (set_only Leaf)

    set_own : (has : Bool) → IsSet shape (only (value_sort has)) (value_layout has ∷ [])
    set_own true = set_only Value
    set_own false = set_only MaybeValue

    -- what a visit finds at a tree has the tree's own layout where it is accepted, and those below where the visit goes on
    set_tree : (q : ℕ) (own : Sort) (below : Sorts) (g : Layout) (gs : List Layout) → IsSet shape (only own) (g ∷ []) → IsSet shape below gs
        → IsSet shape (tree_found m q own below) (cond (m.accepts q) (g ∷ []) [] ++ cond (m.goes_on q) gs [])
    set_tree q own below g gs s t =
        set_both (if_taken (m.accepts q) (only own)) (if_taken (m.goes_on q) below) (cond (m.accepts q) (g ∷ []) []) (cond (m.goes_on q) gs [])
        (set_taken (m.accepts q) (only own) (g ∷ []) s)
        (set_taken (m.goes_on q) below gs t)

    -- a set has the layouts of three lists together, whichever two are joined first
    regroup : (k : Sorts) (xs ys zs : List Layout) → IsSet shape k ((xs ++ ys) ++ zs) → IsSet shape k (xs ++ (ys ++ zs))
    regroup k xs ys zs s = set_same k ((xs ++ ys) ++ zs) (xs ++ (ys ++ zs)) s (λ g a. fore g a) (λ g a. back g a)
      where
        fore : (g : Layout) → Among g ((xs ++ ys) ++ zs) → Among g (xs ++ (ys ++ zs))
        fore g a =
            elim (among_cases (xs ++ ys) zs g a) [
              | inl b ↦ elim (among_cases xs ys g b) [ inl c ↦ among_left xs (ys ++ zs) g c | inr c ↦ among_right xs (ys ++ zs) g (among_left ys zs g c) ]
              | inr b ↦ among_right xs (ys ++ zs) g (among_right ys zs g b)
            ]

        back : (g : Layout) → Among g (xs ++ (ys ++ zs)) → Among g ((xs ++ ys) ++ zs)
        back g a =
            elim (among_cases xs (ys ++ zs) g a) [
              | inl b ↦ among_left (xs ++ ys) zs g (among_left xs ys g b)
              | inr b ↦ elim (among_cases ys zs g b) [ inl c ↦ among_left (xs ++ ys) zs g (among_right xs ys g c) | inr c ↦ among_right (xs ++ ys) zs g c ]
            ]

    -- a set has the layouts of lists together, with nothing after them
    set_last : (k : Sorts) (xs ys : List Layout) → IsSet shape k (xs ++ ys) → IsSet shape k (xs ++ (ys ++ []))
    set_last k xs ys s =
        set_same k (xs ++ ys) (xs ++ (ys ++ [])) s
        (λ g a. elim (among_cases xs ys g a) [ inl b ↦ among_left xs (ys ++ []) g b | inr b ↦ among_right xs (ys ++ []) g (among_left ys [] g b) ])
        (λ g a. elim (among_cases xs (ys ++ []) g a) [ inl b ↦ among_left xs ys g b | inr b ↦ elim (among_cases ys [] g b) [ inl c ↦ among_right xs ys g c | inr c ↦ absurd c ] ])

    set_row : (q : ℕ) (columns : List TableColumn) → IsSet shape (row_found m labels q columns) (found q (row_of columns))
    set_row q [] = set_none
    set_row q (c ∷ cs) =
        let at : ℕ = m.step q c.label in
        let here = set_tree at (value_sort c.has_value) (value_found m labels at) (value_layout c.has_value) (found at (value_layout c.has_value)) (set_own c.has_value) (set_value at c.has_value) in
        let a : List Layout = cond (m.accepts at) (value_layout c.has_value ∷ []) [] in
        let b : List Layout = cond (m.goes_on at) (found at (value_layout c.has_value)) [] in
        regroup (row_found m labels q (c ∷ cs)) a b (found q (row_of cs))
        (set_both (tree_found m at (value_sort c.has_value) (value_found m labels at)) (row_found m labels q cs) (a ++ b) (found q (row_of cs)) here (set_row q cs))

    set_root : (q : ℕ) → IsSet shape (root_found m labels q shape) (found q (sort_layout shape Root))
    set_root q =
        let at : ℕ = m.step q row_label in
        set_tree at Row (row_found m labels at (columns_of shape)) (row_of (columns_of shape)) (found at (row_of (columns_of shape))) (set_only Row) (set_row at (columns_of shape))

    set_document : (q : ℕ) → IsSet shape (document_found m labels q shape) (found q (sort_layout shape Document))
    set_document q =
        let at : ℕ = m.step q (name_of shape) in
        set_last (document_found m labels q shape) (cond (m.accepts at) (sort_layout shape Root ∷ []) []) (cond (m.goes_on at) (found at (sort_layout shape Root)) [])
        (set_tree at Root (root_found m labels at shape) (sort_layout shape Root) (found at (sort_layout shape Root)) (set_only Root) (set_root at))

    set_sort : (s : Sort) → IsSet shape (sort_found m labels shape s) (found m.start (sort_layout shape s))
    set_sort Document = set_document m.start
    set_sort Root = set_root m.start
    set_sort Row = set_row m.start (columns_of shape)
    set_sort Value = set_value m.start true
    set_sort MaybeValue = set_value m.start false
    set_sort Leaf = set_none
    set_sort Anything = set_only Anything

    -- the layouts that are found below a node of a sort of the set
    abbrev each_found : Sorts → Sort → List Layout
    each_found k s = cond (has_sort k s) (found m.start (sort_layout shape s)) []

    set_from : (k before : Sorts) (gs : List Layout) (ss : List Sort) → IsSet shape before gs → IsSet shape (found_from m labels shape k before ss) (gs ++ flat_map (each_found k) ss)
    set_from k before gs [] s = set_same before gs (gs ++ []) s (λ g a. among_left gs [] g a) (λ g a. elim (among_cases gs [] g a) [ inl b ↦ b | inr b ↦ absurd b ])
    set_from k before gs (x ∷ ss) s =
        let here : Sorts = if_taken (has_sort k x) (sort_found m labels shape x) in
        let after : Sorts = found_from m labels shape k (both before here) ss in
        regroup after gs (each_found k x) (flat_map (each_found k) ss)
        (set_from k (both before here) (gs ++ each_found k x) ss
        (set_both before here gs (each_found k x) s (set_taken (has_sort k x) (sort_found m labels shape x) (found m.start (sort_layout shape x)) (set_sort x))))

    taken_member : (can : Bool) (gs : List Layout) (g : Layout) → can ≡ true → Among g gs → Among g (cond can gs [])
    taken_member true gs g e a = a
    taken_member false gs g e a = cc

    member_taken : (can : Bool) (gs : List Layout) (g : Layout) → Among g (cond can gs []) → (can ≡ true) × Among g gs
    member_taken true gs g a = (refl, a)
    member_taken false gs g a = absurd a

    -- the sorts that a visit finds below nodes of a set have the layouts that are found below nodes of its layouts
    pub sorts_found-is : (k : Sorts) (gs : List Layout) → IsSet shape k gs → IsSet shape (sorts_found m labels shape k) (layouts_below m labels gs)
    sorts_found-is k gs s = set_same (sorts_found m labels shape k) (flat_map (each_found k) all_sorts) (layouts_below m labels gs) (set_from k no_sorts [] all_sorts set_none) fore back
      where
        fore : (g : Layout) → Among g (flat_map (each_found k) all_sorts) → Among g (layouts_below m labels gs)
        fore g a =
            let r = flat_cases (each_found k) all_sorts g a in
            let t = member_taken (has_sort k r.0) (found m.start (sort_layout shape r.0)) g r.2 in
            among_flat (layouts_found m labels m.start) gs (sort_layout shape r.0) g (s.out (sort_layout shape r.0) (r.0, t.0, refl)) t.1

        back : (g : Layout) → Among g (layouts_below m labels gs) → Among g (flat_map (each_found k) all_sorts)
        back g a =
            let r = flat_cases (layouts_found m labels m.start) gs g a in
            let i = s.into r.0 r.1 in
            among_flat (each_found k) all_sorts i.0 g (in_all i.0)
            (taken_member (has_sort k i.0) (found m.start (sort_layout shape i.0)) g i.1 (subst (λ (l : Layout). Among g (layouts_found m labels m.start l)) (sym i.2) r.2))

    -- the layouts of a set, each once
    abbrev members : Sorts → List Sort → List Layout
    members k ss = flat_map (λ s. cond (has_sort k s) (sort_layout shape s ∷ []) []) ss

    -- the profile of the visit below a node with this layout
    abbrev visit : Layout → Profile
    visit g = visit_profile m labels m.start g

    -- the profile of the visits below nodes of one of some layouts, after those so far
    abbrev any_from : Option Profile → List Layout → Profile
    any_from None gs = any_of visit gs
    any_from (Some a) [] = a
    any_from (Some a) (g ∷ gs) = one_of a (any_of visit (g ∷ gs))

    any_next : (found : Option Profile) (g : Layout) (gs : List Layout) → any_from (Some (or_profile found (visit g))) gs ≡ any_from found (g ∷ gs)
    any_next None g [] = refl
    any_next None g (h ∷ gs) = refl
    any_next (Some a) g [] = refl
    any_next (Some a) g (h ∷ gs) = one_of_assoc a (visit g) (any_of visit (h ∷ gs))

    any_end : (found : Option Profile) → the_profile found ≡ any_from found []
    any_end None = refl
    any_end (Some a) = refl

    profiles_are : (k : Sorts) (found : Option Profile) (ss : List Sort) → the_profile (profiles_from m labels shape k found ss) ≡ any_from found (members k ss)
    profiles_are k found [] = any_end found
    profiles_are k found (s ∷ ss) =
        let p : Profile = sort_profile m labels shape s in
        profiles_are k (with_profile found (has_sort k s) p) ss
        ∙ elim (has_sort k s) as (λ w. any_from (cond w (Some (or_profile found p)) found) (members k ss) ≡ any_from found (cond w (sort_layout shape s ∷ []) [] ++ members k ss)) [
          | true ↦ any_next found (sort_layout shape s) (members k ss)
          | false ↦ refl
        ]

    -- the profile of the visit below nodes of a set is that below nodes of its layouts
    pub sorts_profile-is : (k : Sorts) (gs : List Layout) → IsSet shape k gs → sorts_profile m labels shape k ≡ profile_below m labels gs
    sorts_profile-is k gs s = profiles_are k None all_sorts ∙ any_same (visit_profile m labels m.start) (members k all_sorts) gs fore back
      where
        fore : (g : Layout) → Among g (members k all_sorts) → Among g gs
        fore g a =
            let r = flat_cases (λ s. cond (has_sort k s) (sort_layout shape s ∷ []) []) all_sorts g a in
            let t = member_taken (has_sort k r.0) (sort_layout shape r.0 ∷ []) g r.2 in
            elim t.1 [ inl e ↦ s.out g (r.0, t.0, sym e) | inr n ↦ absurd n ]

        back : (g : Layout) → Among g gs → Among g (members k all_sorts)
        back g a =
            let i = s.into g a in
            among_flat (λ s. cond (has_sort k s) (sort_layout shape s ∷ []) []) all_sorts i.0 g (in_all i.0) (taken_member (has_sort k i.0) (sort_layout shape i.0 ∷ []) g i.1 (inl (sym i.2)))
