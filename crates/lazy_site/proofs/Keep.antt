-- Each earlier identifier stays.
use Rattle.std.proofs.Common.{◌≡◌, ◌<◌, ◌≤◌, ◌+◌, ℕ, suc, List, Option, Some, None, length, drop, refl, ◌∙◌, sym, ap, subst, arith}
use Rattle.std.specs.Prelude.{IsTrue, MatchOption}
use Rattle.mix_tree.specs.Forest.{Forest, first_kids, after_first}
use Rattle.mix_tree.specs.Nodes.{Documents, Node, label_at, kids_at, label_of_first, node_trees}
use Rattle.plan_core.specs.declared.plan.Plan.{Plan}
use Rattle.plan_core.specs.PlanMade.{plan_value}
use Rattle.plan_core.specs.Plans.{Operator}
use Rattle.plan_core.specs.ByNumber.{op_at}
use Rattle.plan_core.specs.Tolled.{Tolled, ends, item, charged}
use Rattle.plan_core.specs.TolledRows.{TolledRow, piece_items, all_items, collected}
use Rattle.plan_core.specs.Events.{RowEvents, events, group_after, tolled_document}
use Rattle.lazy_plan.specs.Bench.{BenchState, ops_of, documents, events_of, size_of, IsCursor, CursorStays, binding_at, ahead_at, number_at, IsSpotAt, node_at, KeepsBench}
use Rattle.lazy_plan.specs.Groups.{stops_at, group_ahead, IsGroup}
use Rattle.lazy_binding.specs.declared.position.Position.{Position, First', Seen'}
use Rattle.plan_forms.specs.Forms.{Form, makes_list, makes_element, gathers_groups, form, input_at, pieces_of, keys_of, label_in, piece_at, piece_of, text_of, is_text}
use Rattle.lazy_site.specs.Sizes.{pieces_count, size, extent}
use Rattle.lazy_site.specs.Ids.{element_trees, pieces_trees, ahead_from, members_trees, group_trees, Stands, GathersAll, IsHead, head_label, head_trees, IsRest, rest_trees, here, IsSite, weight, number_from, left, site_left}
use Rattle.lazy_site.specs.Steps.{KeepsSites}
use Rattle.lazy_site.specs.Ways.{IsWays}
use Rattle.lazy_site.proofs.Along.{IsWays-kept}
use Rattle.lazy_site.specs.declared.sites.Head.{Head}
use Rattle.lazy_site.specs.declared.sites.Head.TheVariants.{Whole, Built, Leaf, Text}
use Rattle.lazy_site.specs.declared.sites.Rest.{Rest, End, Pieces', Members', Group'}
use Rattle.lazy_site.specs.declared.sites.Site.{Site}
use Rattle.lazy_site.specs.declared.sites.Site.TheVariants.{Root, Inside, Item}

module _ (a b : BenchState) (k : KeepsBench a b) where
  -- the operators of the plan are the same after a call
  pub ops_kept : ops_of b ≡ ops_of a
  ops_kept = ap (λ (p : Plan). (plan_value p).ops) k.plan

  -- the input of each operator is the same after a call
  pub input_kept : (op : ℕ) → input_at (ops_of b) op ≡ input_at (ops_of a) op
  input_kept op = ap (λ (ops : List Operator). input_at ops op) ops_kept

  -- a cursor of an input stays
  cursor_in : (op : ℕ) (c : Position) → IsCursor a (input_at (ops_of a) op) c → CursorStays a b (input_at (ops_of a) op) c
  cursor_in op c h = k.cursors (input_at (ops_of a) op) c h

  -- an earlier cursor of an operator's input is one still
  pub cursor_kept : (op : ℕ) (c : Position) → IsCursor a (input_at (ops_of a) op) c → IsCursor b (input_at (ops_of b) op) c
  cursor_kept op c h = subst (λ (n : ℕ). IsCursor b n c) (sym (input_kept op)) (cursor_in op c h).cursor

  -- an earlier cursor of an operator's input stands at the same binding
  pub binding_kept : (op : ℕ) (c : Position) → IsCursor a (input_at (ops_of a) op) c → binding_at b (input_at (ops_of b) op) c ≡ binding_at a (input_at (ops_of a) op) c
  binding_kept op c h = ap (λ (n : ℕ). binding_at b n c) (input_kept op) ∙ (cursor_in op c h).binding

  -- an earlier cursor of an operator's input stands before the same events
  pub ahead_kept : (op : ℕ) (c : Position) → IsCursor a (input_at (ops_of a) op) c → ahead_at b (input_at (ops_of b) op) c ≡ ahead_at a (input_at (ops_of a) op) c
  ahead_kept op c h = ap (λ (n : ℕ). ahead_at b n c) (input_kept op) ∙ (cursor_in op c h).ahead

  -- an earlier cursor of an operator's input has no greater number
  pub number_kept : (op : ℕ) (c : Position) → IsCursor a (input_at (ops_of a) op) c → number_at b (input_at (ops_of b) op) c ≤ number_at a (input_at (ops_of a) op) c
  number_kept op c h = subst (λ (n : ℕ). number_at b n c ≤ number_at a (input_at (ops_of a) op) c) (sym (input_kept op)) (cursor_in op c h).number

  -- the events of each operator are the same after a call
  pub events_kept : (n : ℕ) → events_of b n ≡ events_of a n
  events_kept n = ap (λ (d : Documents). events d (ops_of b) n) k.documents ∙ ap (λ (ops : List Operator). events (documents a) ops n) ops_kept

  -- an operator of a form with a cursor of its input has so after a call
  pub Stands-kept : (op : ℕ) (f : Form) (c : Position) → Stands a op f c → Stands b op f c
  Stands-kept op f c h = record {
    within = subst (λ (ops : List Operator). op < length ops) (sym ops_kept) h.within;
    is = ap (λ (ops : List Operator). form (op_at ops op)) ops_kept ∙ h.is;
    cursor = cursor_kept op c h.cursor;
  }

  -- a groupBy without keys is so after a call
  pub GathersAll-kept : (op : ℕ) → GathersAll a op → GathersAll b op
  GathersAll-kept op h = record {
    within = subst (λ (ops : List Operator). op < length ops) (sym ops_kept) h.within;
    is = ap (λ (ops : List Operator). form (op_at ops op)) ops_kept ∙ h.is;
  }

  -- the trees below a made element are the same after a call
  pub element-kept : (op : ℕ) (c : Position) → Stands a op makes_element c → element_trees b op c ≡ element_trees a op c
  element-kept op c h =
      ap (λ (d : Documents). piece_items d (piece_of (ops_of b) op) (binding_at b (input_at (ops_of b) op) c) (ends 0)) k.documents
      ∙ ap (λ (ops : List Operator). piece_items (documents a) (piece_of ops op) (binding_at b (input_at (ops_of b) op) c) (ends 0)) ops_kept
      ∙ ap (λ (row : TolledRow). piece_items (documents a) (piece_of (ops_of a) op) row (ends 0)) (binding_kept op c h.cursor)

  -- the trees of a concatenation's pieces before others are the same after a call
  pieces-kept : (op : ℕ) (c : Position) (next : ℕ) (f : Tolled) → Stands a op makes_list c → pieces_trees b op c next f ≡ pieces_trees a op c next f
  pieces-kept op c next f h =
      ap (λ (d : Documents). all_items d (drop next (pieces_of (op_at (ops_of b) op))) (binding_at b (input_at (ops_of b) op) c) f) k.documents
      ∙ ap (λ (ops : List Operator). all_items (documents a) (drop next (pieces_of (op_at ops op))) (binding_at b (input_at (ops_of b) op) c) f) ops_kept
      ∙ ap (λ (row : TolledRow). all_items (documents a) (drop next (pieces_of (op_at (ops_of a) op))) row f) (binding_kept op c h.cursor)

  -- the events of an operator's input after a cursor, or all of them, are the same after a call
  pub ahead_from-kept : (op : ℕ) (at : Option Position) → MatchOption at (Unit {0}) (λ c. IsCursor a (input_at (ops_of a) op) c) → ahead_from b (input_at (ops_of b) op) at ≡ ahead_from a (input_at (ops_of a) op) at
  ahead_from-kept op None h = ap (λ (n : ℕ). events_of b n) (input_kept op) ∙ events_kept (input_at (ops_of a) op)
  ahead_from-kept op (Some c) h = ahead_kept op c h

  -- an optional cursor of an operator's input is one after a call
  at-kept : (op : ℕ) (at : Option Position) → MatchOption at (Unit {0}) (λ c. IsCursor a (input_at (ops_of a) op) c) → MatchOption at (Unit {0}) (λ c. IsCursor b (input_at (ops_of b) op) c)
  at-kept op None h = tt
  at-kept op (Some c) h = cursor_kept op c h

  -- what is collected of the same events with the piece of an operator is the same after a call
  collected-kept : (op : ℕ) (es fs : RowEvents) (f : Tolled) → es ≡ fs → collected (documents b) (piece_of (ops_of b) op) es f ≡ collected (documents a) (piece_of (ops_of a) op) fs f
  collected-kept op es fs f e =
      ap (λ (d : Documents). collected d (piece_of (ops_of b) op) es f) k.documents
      ∙ ap (λ (ops : List Operator). collected (documents a) (piece_of ops op) es f) ops_kept
      ∙ ap (λ (z : RowEvents). collected (documents a) (piece_of (ops_of a) op) z f) e

  -- the events of a group after one of its members are the same after a call
  pub group_ahead-kept : (op : ℕ) (first at : Position) → Stands a op gathers_groups first → Stands a op gathers_groups at → group_ahead b op first at ≡ group_ahead a op first at
  group_ahead-kept op first at h i =
      ap (λ (d : Documents). events_after d (ops_of b) (binding_at b (input_at (ops_of b) op) first) (ahead_at b (input_at (ops_of b) op) at)) k.documents
      ∙ ap (λ (ops : List Operator). events_after (documents a) ops (binding_at b (input_at (ops_of b) op) first) (ahead_at b (input_at (ops_of b) op) at)) ops_kept
      ∙ ap (λ (row : TolledRow). events_after (documents a) (ops_of a) row (ahead_at b (input_at (ops_of b) op) at)) (binding_kept op first h.cursor)
      ∙ ap (λ (z : RowEvents). events_after (documents a) (ops_of a) (binding_at a (input_at (ops_of a) op) first) z) (ahead_kept op at i.cursor)
    where
      events_after : Documents → List Operator → TolledRow → RowEvents → RowEvents
      events_after d ops row es = group_after d (keys_of (op_at ops op)) (stops_at ops op) row es

  -- the whole number of an operator's input is the same after a call
  size_same : (op : ℕ) → size_of b (input_at (ops_of b) op) ≡ size_of a (input_at (ops_of a) op)
  size_same op = ap (λ (n : ℕ). size_of b n) (input_kept op) ∙ k.size (input_at (ops_of a) op)

  -- a group from a member on is so after a call
  pub IsGroup-kept : (op number : ℕ) (first at : Position) (place : ℕ) → IsCursor a (input_at (ops_of a) op) at → IsGroup a op number first at place → IsGroup b op number first at place
  IsGroup-kept op number first at place c h = record {
    begins = λ q. k.positions op (First' q first number) (h.begins q);
    member = λ t q. k.positions op (Seen' q at number) (h.member (subst (λ (ops : List Operator). IsTrue (stops_at ops op)) ops_kept t) q);
    few = (let s = size_same op in let n = number_kept op at c in let l = h.few in omega (arith, s, n, l));
    placed = λ s. k.found op number place at (h.placed (ap (λ (ops : List Operator). stops_at ops op) (sym ops_kept) ∙ s));
  }

  -- what comes after a node is made of cursors and operators of the bench after a call
  pub IsRest-kept : (r : Rest) → IsRest a r → IsRest b r
  IsRest-kept End h = tt
  IsRest-kept (Pieces' op at next ways q up) h = (
    Stands-kept op makes_list at h.0,
    subst (λ (ops : List Operator). next ≤ length (pieces_of (op_at ops op))) (sym ops_kept) h.1,
    subst (λ (n : ℕ). IsWays b n at ways) (sym (input_kept op)) (IsWays-kept a b k (input_at (ops_of a) op) at h.0.cursor ways h.2),
    IsRest-kept up h.3,
  )
  IsRest-kept (Members' op at q up) h = (GathersAll-kept op h.0, at-kept op at h.1, IsRest-kept up h.2)
  IsRest-kept (Group' op first number at place q up) h =
      (Stands-kept op gathers_groups first h.0, Stands-kept op gathers_groups at h.1, IsGroup-kept op number first at place h.1.cursor h.2, IsRest-kept up h.3)

  -- the trees of what comes after a node are the same after a call
  pub rest_trees-kept : (r : Rest) → IsRest a r → rest_trees b r ≡ rest_trees a r
  rest_trees-kept End h = refl
  rest_trees-kept (Pieces' op at next ways q up) h = ap (pieces_trees b op at next) (rest_trees-kept up h.3) ∙ pieces-kept op at next (rest_trees a up) h.0
  rest_trees-kept (Members' op at q up) h =
      ap (members_trees b op at) (rest_trees-kept up h.2) ∙ collected-kept op (ahead_from b (input_at (ops_of b) op) at) (ahead_from a (input_at (ops_of a) op) at) (rest_trees a up) (ahead_from-kept op at h.1)
  rest_trees-kept (Group' op first number at place q up) h =
      ap (group_trees b op first at) (rest_trees-kept up h.3) ∙ collected-kept op (group_ahead b op first at) (group_ahead a op first at) (rest_trees a up) (group_ahead-kept op first at h.0 h.1)

  -- a rest has as many lists and pieces still to be entered after a call as before
  pub weight-kept : (r : Rest) → IsRest a r → weight b r ≡ weight a r
  weight-kept End h = refl
  weight-kept (Pieces' op at next ways q up) h =
      ap (λ (ops : List Operator). suc (pieces_count (λ v. suc (size ops (input_at ops op) v)) (drop next (pieces_of (op_at ops op))) + weight b up)) ops_kept
      ∙ ap (λ (n : ℕ). suc (pieces_count (λ v. suc (size (ops_of a) (input_at (ops_of a) op) v)) (drop next (pieces_of (op_at (ops_of a) op))) + n)) (weight-kept up h.3)
  weight-kept (Members' op at q up) h = ap suc (weight-kept up h.2)
  weight-kept (Group' op first number at place q up) h = ap suc (weight-kept up h.3)

  -- a node that is one of the bench is so after a call
  IsHead-kept : (x : Head) → IsHead a x → IsHead b x
  IsHead-kept (Whole s p) h = (k.spots s p h).spot
  IsHead-kept (Built op at) h = Stands-kept op makes_element at h
  IsHead-kept (Leaf s p) h = (k.spots s p h).spot
  IsHead-kept (Text op index) h = record {
    within = subst (λ (ops : List Operator). op < length ops) (sym ops_kept) h.within;
    piece = subst (λ (ops : List Operator). index < length (pieces_of (op_at ops op))) (sym ops_kept) h.piece;
    is = subst (λ (ops : List Operator). IsTrue (is_text (piece_at ops op index))) (sym ops_kept) h.is;
  }

  -- what is made of the node at a spot is the same after a call
  node-kept : {A : Type 0} (f : Documents → Node → A) (s : ℕ) (p : _) → IsSpotAt a s p → f (documents b) (node_at b s p) ≡ f (documents a) (node_at a s p)
  node-kept f s p h = ap (λ (d : Documents). f d (node_at b s p)) k.documents ∙ ap (f (documents a)) (k.spots s p h).node

  -- the label of a node is the same after a call
  head_label-kept : (x : Head) → IsHead a x → head_label b x ≡ head_label a x
  head_label-kept (Whole s p) h = node-kept label_at s p h
  head_label-kept (Built op at) h = ap (λ (ops : List Operator). label_in (op_at ops op)) ops_kept
  head_label-kept (Leaf s p) h = node-kept label_at s p h
  head_label-kept (Text op index) h = ap (λ (ops : List Operator). text_of (piece_at ops op index)) ops_kept

  -- the trees below a node are the same after a call
  pub head_trees-kept : (x : Head) → IsHead a x → head_trees b x ≡ head_trees a x
  head_trees-kept (Whole s p) h = ap charged (node-kept kids_at s p h)
  head_trees-kept (Built op at) h = element-kept op at h
  head_trees-kept (Leaf s p) h = refl
  head_trees-kept (Text op index) h = refl

  -- the place at which an identifier stands is one of the bench after a call
  IsSite-kept : (n : Site) → IsSite a n → IsSite b n
  IsSite-kept Root h = tt
  IsSite-kept (Inside s p) h = (k.spots s p h).spot
  IsSite-kept (Item x r) h = (IsHead-kept x h.0, IsRest-kept r.value h.1)

  -- the trees at a place inside a source, the first of them reached
  abbrev inside : Forest → Tolled
  inside f = item 0 (label_of_first f) (charged (first_kids f)) (charged (after_first f))

  -- the tree at which an identifier stands and those after it are the same after a call
  here-kept : (n : Site) → IsSite a n → here b n ≡ here a n
  here-kept Root h = ap (λ (d : Documents). tolled_document d (ops_of b)) k.documents ∙ ap (tolled_document (documents a)) ops_kept
  here-kept (Inside s p) h = ap inside (node-kept node_trees s p h)
  here-kept (Item x r) h =
      ap (λ (l : List ℕ). item 0 l (head_trees b x) (rest_trees b r.value)) (head_label-kept x h.0)
      ∙ ap (λ (t : Tolled). item 0 (head_label a x) t (rest_trees b r.value)) (head_trees-kept x h.0)
      ∙ ap (item 0 (head_label a x) (head_trees a x)) (rest_trees-kept r.value h.1)

  -- no more bindings come after a cursor after a call
  number_from-kept : (op : ℕ) (at : Option Position) → MatchOption at (Unit {0}) (λ c. IsCursor a (input_at (ops_of a) op) c) → number_from b (input_at (ops_of b) op) at ≤ number_from a (input_at (ops_of a) op) at
  number_from-kept op None h = let e = size_same op in omega (arith, e)
  number_from-kept op (Some c) h = number_kept op c h

  -- the whole number of each operator is the same after a call
  pub sizes_kept : ◌≡◌ {A = ℕ → ℕ} (size_of b) (size_of a)
  sizes_kept = λ i n. k.size n i

  -- no more trees come after a node after a call
  pub left-kept : (r : Rest) → IsRest a r → left b r ≤ left a r
  left-kept End h = omega arith
  left-kept (Pieces' op at next ways q up) h =
      let e : pieces_count (extent (size_of b) (ops_of b) (input_at (ops_of b) op)) (drop next (pieces_of (op_at (ops_of b) op))) ≡ pieces_count (extent (size_of a) (ops_of a) (input_at (ops_of a) op)) (drop next (pieces_of (op_at (ops_of a) op))) =
      ap (λ (f : ℕ → ℕ). pieces_count (extent f (ops_of b) (input_at (ops_of b) op)) (drop next (pieces_of (op_at (ops_of b) op)))) sizes_kept
      ∙ ap (λ (ops : List Operator). pieces_count (extent (size_of a) ops (input_at ops op)) (drop next (pieces_of (op_at ops op)))) ops_kept in
      let i = left-kept up h.3 in omega (arith, e, i)
  left-kept (Members' op at q up) h = let i = left-kept up h.2 in let j = number_from-kept op at h.1 in omega (arith, i, j)
  left-kept (Group' op first number at place q up) h = let i = left-kept up h.3 in let j = size_same op in omega (arith, i, j)

  -- the number of an identifier does not rise by a call
  site_left-kept : (n : Site) → IsSite a n → site_left b n ≤ site_left a n
  site_left-kept Root h = omega arith
  site_left-kept (Inside s p) h = (k.spots s p h).after
  site_left-kept (Item x r) h = left-kept r.value h.1

  -- each earlier identifier stands for the same trees after a call
  pub keeps_sites : KeepsSites a b
  keeps_sites n h = record { node = IsSite-kept n h; here = here-kept n h; left = site_left-kept n h }
