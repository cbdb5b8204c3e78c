-- Values and what is after them.
use Rattle.std.specs.declared.alloc.Global.{Global}
use Rattle.std.specs.declared.rc.Rc.{Rc}
use Rattle.std.proofs.Common.{refl, ◌≡◌, ◌+◌, ℕ, suc, None, ◌∙◌, sym, ap, subst, arith}
use Rattle.plan_core.specs.ByNumber.{op_at}
use Rattle.plan_core.specs.Tolled.{Tolled, ends, item, paid, is_item, tolled_followed}
use Rattle.plan_core.specs.TolledRows.{value_trees, all_items, collected}
use Rattle.lazy_plan.specs.Bench.{BenchState, ops_of, documents, binding_at, events_of}
use Rattle.lazy_plan.specs.Groups.{IsGroup, group_ahead}
use Rattle.lazy_binding.specs.declared.position.Position.{Position}
use Rattle.plan_forms.specs.Forms.{input_at, pieces_of, piece_of, makes_list, gathers_groups}
use Rattle.lazy_site.specs.Ids.{head_label, head_trees, group_trees, member_trees, Stands, GathersAll, IsOrigin, value_of, IsRest, rest_trees, weight}
use Rattle.lazy_site.specs.Origins.{origin_size, IsHeadOf}
use Rattle.lazy_site.specs.Steps.{StandsFor, GoesOn}
use Rattle.lazy_site.specs.Ways.{IsWay, IsWays}
use Rattle.lazy_site.specs.declared.ways.Way.{Way, Top}
use Rattle.lazy_site.specs.declared.ways.Ways.{Ways}
use Rattle.lazy_site.specs.declared.sites.Origin.{Origin}
use Rattle.lazy_site.specs.declared.sites.Origin.TheVariants.{Joined, All, Group as Same}
use Rattle.lazy_site.specs.declared.sites.Head.{Head}
use Rattle.lazy_site.specs.declared.sites.Rest.{Rest, Pieces', Members', Group'}
use Rattle.lazy_site.specs.declared.sites.Site.{Site}
use Rattle.lazy_site.specs.declared.sites.Site.TheVariants.{Item}
use Rattle.lazy_site.proofs.Laws.{dearer_zero, all_followed, piece_followed, collected_followed}
use Rattle.lazy_site.proofs.Turns.{on_same}

module _ (st : BenchState) (after : Rest) (h : IsRest st after) where
  -- no trees before those of a rest are those of the rest
  nothing_before : tolled_followed (ends 0) (rest_trees st after) ≡ rest_trees st after
  nothing_before = dearer_zero (rest_trees st after)

  -- the pieces of a concatenation, from the first on, go on for its value before a rest
  enter_joined : (op : ℕ) (at : Position) (ways : Ways) (q : _) → Stands st op makes_list at → IsWays st (input_at (ops_of st) op) at ways
      → GoesOn st st (value_trees (documents st) (value_of st (Joined op at)) (rest_trees st after)) (suc (origin_size st (Joined op at) + weight st after)) (Pieces' op at 0 ways q after)
  enter_joined op at ways q s along =
      on_same st _ _ (Pieces' op at 0 ways q after) (s, omega arith, along, h) (omega arith)
      (all_followed (documents st) (pieces_of (op_at (ops_of st) op)) (binding_at st (input_at (ops_of st) op) at) (ends 0) (rest_trees st after)
      ∙ ap (all_items (documents st) (pieces_of (op_at (ops_of st) op)) (binding_at st (input_at (ops_of st) op) at)) nothing_before)

  -- all members of a list go on for the value of all bindings before a rest
  enter_all : (op : ℕ) (q : _) → GathersAll st op
      → GoesOn st st (value_trees (documents st) (value_of st (All op)) (rest_trees st after)) (suc (origin_size st (All op) + weight st after)) (Members' op None q after)
  enter_all op q s =
      on_same st _ _ (Members' op None q after) (s, tt, h) (omega arith)
      (collected_followed (documents st) (piece_of (ops_of st) op) (events_of st (input_at (ops_of st) op)) (ends 0) (rest_trees st after)
      ∙ ap (collected (documents st) (piece_of (ops_of st) op) (events_of st (input_at (ops_of st) op))) nothing_before)

  -- the trees of a group before a rest are those of its first member, and then of the others before the rest
  group_before : (op : ℕ) (c : Position) (number : ℕ)
      → value_trees (documents st) (value_of st (Same op c number)) (rest_trees st after) ≡ member_trees st op c (group_trees st op c c (rest_trees st after))
  group_before op c number =
      piece_followed (documents st) (piece_of (ops_of st) op) (binding_at st (input_at (ops_of st) op) c) (group_trees st op c c (ends 0)) (rest_trees st after)
      ∙ ap (member_trees st op c) (collected_followed (documents st) (piece_of (ops_of st) op) (group_ahead st op c c) (ends 0) (rest_trees st after)
      ∙ ap (group_trees st op c c) nothing_before)

module _ (st : BenchState) (origin : Origin) (after x : Rest) (o : IsOrigin st origin) (h : IsRest st after) where
  -- where the value of an origin is a concatenation, its pieces with a rest after them go on for the value
  pub joined_goes : (op input : ℕ) (at : Position) (ways : Ways) (q : _) → origin ≡ Joined op at → x ≡ Pieces' op at 0 ways q after → input ≡ input_at (ops_of st) op
      → ways.last.value ≡ Top input at → ways.lowest.value ≡ Top input at
      → GoesOn st st (value_trees (documents st) (value_of st origin) (rest_trees st after)) (suc (origin_size st origin + weight st after)) x
  joined_goes op input at ways q e f i last lowest =
      subst (λ (r : Rest). GoesOn st st (value_trees (documents st) (value_of st origin) (rest_trees st after)) (suc (origin_size st origin + weight st after)) r) (sym f)
      (subst (λ (w : Origin). GoesOn st st (value_trees (documents st) (value_of st w) (rest_trees st after)) (suc (origin_size st w + weight st after)) (Pieces' op at 0 ways q after)) (sym e)
      (enter_joined st after h op at ways q (subst (λ (w : Origin). IsOrigin st w) e o) (start ways.last.value last, start ways.lowest.value lowest)))
    where
      start : (w : Way) → w ≡ Top input at → IsWay st (input_at (ops_of st) op) at w
      start w g = subst (λ (x : Way). IsWay st (input_at (ops_of st) op) at x) (sym g) (i, refl)

  -- where the value of an origin is a list of all bindings, its members with a rest after them go on for the value
  pub all_goes : (op : ℕ) (q : _) (up : Rest) → origin ≡ All op → x ≡ Members' op None q up → up ≡ after
      → GoesOn st st (value_trees (documents st) (value_of st origin) (rest_trees st after)) (suc (origin_size st origin + weight st after)) x
  all_goes op q up e f g =
      let z : x ≡ Members' op None q after = f ∙ ap (λ (r : Rest). Members' op None q r) g in
      subst (λ (r : Rest). GoesOn st st (value_trees (documents st) (value_of st origin) (rest_trees st after)) (suc (origin_size st origin + weight st after)) r) (sym z)
      (subst (λ (w : Origin). GoesOn st st (value_trees (documents st) (value_of st w) (rest_trees st after)) (suc (origin_size st w + weight st after)) (Members' op None q after)) (sym e)
      (enter_all st after h op q (subst (λ (w : Origin). IsOrigin st w) e o)))

  -- where the value of an origin is a group, an identifier at its first member stands for the first of its trees before a rest
  pub group_stands : (op : ℕ) (c : Position) (number : ℕ) (n : Site) → origin ≡ Same op c number
      → (Stands st op gathers_groups c → Stands st op gathers_groups c → IsGroup st op number c c 0 → IsRest st after → StandsFor st st (member_trees st op c (group_trees st op c c (rest_trees st after))) n)
      → StandsFor st st (value_trees (documents st) (value_of st origin) (rest_trees st after)) n
  group_stands op c number n e k =
      let s = subst (λ (w : Origin). IsOrigin st w) e o in
      subst (λ (w : Origin). StandsFor st st (value_trees (documents st) (value_of st w) (rest_trees st after)) n) (sym e)
      (subst (λ (f : Tolled). StandsFor st st f n) (sym (group_before st after h op c number)) (k s.0 s.0 s.1 h))

-- an identifier at a member of a group, with the members after it and a rest, stands for the first of their trees
pub member_stands : (st : BenchState) (op number : ℕ) (first at : Position) (place : ℕ) (q : _) (up : Rest) (x : Head) → IsHeadOf st op 0 at x → IsRest st (Group' op first number at place q up)
    → (r : Rc Rest Global) → r.value ≡ Group' op first number at place q up → StandsFor st st (member_trees st op at (group_trees st op first at (rest_trees st up))) (Item x r)
member_stands st op number first at place q up x h rest r e =
    let z = h.trees (group_trees st op first at (rest_trees st up)) in
    record {
      node = (h.head, subst (λ (w : Rest). IsRest st w) (sym e) rest);
      here = λ y. ap (λ (w : Rest). item 0 (head_label st x) (head_trees st x) (rest_trees st w)) e ∙ sym (ap paid z);
      tree = λ y. ap is_item z;
    }
