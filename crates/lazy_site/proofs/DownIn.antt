-- The first child of an element stands in the element's list.
use Rattle.std.proofs.Common.{◌≡◌, ◌<◌, ℕ, List, [], ◌∷◌, Option, Some, None, length, ◌∙◌, sym, ap, subst}
use Rattle.std.specs.Prelude.{IsTrue, MatchOption, slice_get}
use Rattle.std.specs.List.{last_or}
use Rattle.mix_base.proofs.Choices.{some_is}
use Rattle.mix_base.proofs.EventLaws.{found-some}
use Rattle.mix_base.specs.Events.{found, without_skips}
use Rattle.plan_core.specs.ByNumber.{op_at}
use Rattle.plan_core.specs.Events.{RowEvents, first_row}
use Rattle.plan_core.specs.PlanMade.{plan_value}
use Rattle.plan_core.specs.Plans.{Operator, source, get_descendants, join, over, tuple_destroy}
use Rattle.plan_core.specs.Shapes.{shape_of}
use Rattle.plan_core.specs.TolledRows.{TolledRow}
use Rattle.plan_core.specs.Typed.{IsTyped}
use Rattle.plan_core.specs.Unary.{select, order_by, project, group_by, concatenate, create_element}
use Rattle.plan_core.specs.Valid.{IsValid}
use Rattle.plan_evidence.proofs.Makers.{made_by}
use Rattle.plan_forms.specs.Forms.{form, input_at, makes_element, pieces_of, IsLast}
use Rattle.plan_core.specs.declared.plan.Piece.{Piece}
use Rattle.plan_core.specs.declared.plan.Piece.TheVariants.{Var as var_piece}
use Rattle.plan_evidence.specs.Named.{maker, Listing, element_list, list_of, outer_of}
use Rattle.lazy_plan.specs.Bench.{BenchState, ops_of, documents, events_of, size_of, told, binding_at, ahead_at, IsFirstOf, KeepsBench}
use Rattle.lazy_binding.specs.declared.position.Position.{Position}
use Rattle.lazy_site.specs.Origins.{IsOriginOf}
use Rattle.lazy_site.specs.Standing.{remains, AreBelow, IsHolder, ComesNext, the_whole, TurnIsIn, EntersList, ChildStandsIn, RootChildIn}
use Rattle.lazy_site.specs.Ways.{IsBelow}
use Rattle.lazy_site.specs.declared.sites.Origin.{Origin}
use Rattle.lazy_site.specs.declared.sites.Origin.TheVariants.{Element}
use Rattle.lazy_site.specs.declared.sites.Rest.{Rest, End}
use Rattle.lazy_site.specs.declared.sites.Site.{Site}
use Rattle.lazy_site.specs.declared.sites.Turn.{Turn}
use Rattle.lazy_site.proofs.Keep.{ops_kept, events_kept}
use Rattle.lazy_site.proofs.Listings.{makes_out}
use Rattle.lazy_site.proofs.PiecesIn.{origin_over}
use Rattle.lazy_site.proofs.StandingKept.{told_before, IsHolder-kept}

-- one variable is the list of an element
one_list : (ps : List Piece) (u v : ℕ) → ps ≡ var_piece u ∷ [] → ps ≡ var_piece v ∷ [] → v ≡ u
one_list ps u v e f = cc

-- what an answer is, if it is one, is also what follows from that
pub option_weaker : {X : Type 0} (x : Option X) (P Q : X → Type 0) → ((y : X) → P y → Q y) → MatchOption x (Unit {0}) P → MatchOption x (Unit {0}) Q
option_weaker None P Q f h = tt
option_weaker (Some y) P Q f h = f y h

module _ (st : BenchState) (op v input : ℕ) (at : Position) (origin : Origin) (end : Rest) (own : pieces_of (op_at (ops_of st) op) ≡ var_piece v ∷ []) (i : input ≡ input_at (ops_of st) op)
    (o : IsOriginOf st input at v origin) (e : end ≡ End) (t : Turn) (enters : EntersList st origin end t) where
  -- a turn that enters the list of an element is of that list, over each binding that has all that the element is made of
  pub entered_in : (n : ℕ) (c : Position) (u : ℕ) (list : Listing) → IsHolder st n c → IsBelow st n c (input_at (ops_of st) op) at → pieces_of (op_at (ops_of st) op) ≡ var_piece u ∷ []
      → list_of (ops_of st) u ≡ Some list → TurnIsIn st n c list t
  entered_in n c u list holder below is listed =
      let listed' : list_of (ops_of st) v ≡ Some list = subst (λ w. list_of (ops_of st) w ≡ Some list) (sym (one_list (pieces_of (op_at (ops_of st) op)) u v is own)) listed in
      enters n c v list holder (origin_over st n input c at v origin (subst (λ (m : ℕ). IsBelow st n c m at) (sym i) below) o) (subst (AreBelow st n c) (sym e) tt)
      (λ y. subst (λ r. ComesNext (documents st) (ops_of st) (binding_at st n c) list (remains st r) v) (sym e) (the_whole listed'))

-- THE ROOT

-- the list of the elements that an operator makes is its only piece
pub element_pieces : (o : Operator) → form o ≡ makes_element → (u : ℕ) → element_list (shape_of o) ≡ Some u → pieces_of o ≡ var_piece u ∷ []
element_pieces (source s out) f u e = cc
element_pieces (get_descendants i start path out) f u e = cc
element_pieces (join l r tests) f u e = cc
element_pieces (over i (select t)) f u e = cc
element_pieces (over i (order_by w desc)) f u e = cc
element_pieces (over i (project keys)) f u e = cc
element_pieces (over i (group_by [] piece out)) f u e = cc
element_pieces (over i (group_by (k ∷ keys) piece out)) f u e = cc
element_pieces (over i (concatenate ps out)) f u e = cc
element_pieces (over i (create_element l w out)) f u e = (let z : w ≡ u = some_is w u e in ap (λ (x : ℕ). var_piece x ∷ []) z)
element_pieces (tuple_destroy i w) f u e = cc

module _ (a b d : BenchState) (k : KeepsBench a b) (m : KeepsBench b d) (valid : IsValid (plan_value b.plan)) (typed : IsTyped (ops_of b)) (input v op : ℕ) (c at : Position) (last : IsLast (ops_of a) input v)
    (f : IsFirstOf a b input (events_of a input) (size_of a input) c) (o : IsOriginOf b input c v (Element op at)) where
  -- the first binding that is found is among the bindings of its operator
  first_holder : IsHolder b input c
  first_holder = record {
    within = subst (λ (ops : List Operator). input < length ops) (sym (ops_kept a b k)) last.within;
    cursor = f.cursor;
    among = λ y. (
      0,
      ap (λ (es : RowEvents). slice_get (without_skips es) 0) (events_kept a b k input)
          ∙ ap (λ (rows : List TolledRow). slice_get rows 0) (found-some (events_of a input) (binding_at b input c) (ahead_at b input c) (f.found (told_before a b k y))),
    );
  }

  -- the first binding that is found is its operator's first after a call
  first_is : IsTrue (told d) → binding_at d input c ≡ first_row (found (events_of d input))
  first_is y =
      (m.cursors input c f.cursor).binding ∙ sym (ap first_row (f.found (told_before a b k (told_before b d m y))))
      ∙ ap (λ (es : RowEvents). first_row (found es)) (sym (events_kept b d m input ∙ events_kept a b k input))

  -- where the first child of the last operator's element stands in its list, it stands in the outer element's list
  pub root_in : (x : Option Site) → ChildStandsIn b d op at x → RootChildIn d x
  root_in None h = tt
  root_in (Some site) h = record {
    input = input;
    outer = v;
    at = c;
    is_outer = ap (λ (ops : List Operator). outer_of (last_or None ops)) (ops_kept b d m ∙ ops_kept a b k) ∙ ap outer_of last.last;
    holder = IsHolder-kept b d m input c first_holder;
    row = first_is;
    stands = λ u list e i.
        (let is : element_list (maker (ops_of b) v) ≡ Some u = subst (λ (ops : List Operator). element_list (maker ops v) ≡ Some u) (ops_kept b d m) e in
        let made = made_by (plan_value b.plan) valid typed v op o.origin.within (makes_out (op_at (ops_of b) op) v o.maker) in
        h input c u list first_holder o.matter (element_pieces (op_at (ops_of b) op) o.origin.is u (sym (ap element_list made.is_maker) ∙ is))
        (subst (λ (ops : List Operator). list_of ops u ≡ Some list) (ops_kept b d m) i));
  }
