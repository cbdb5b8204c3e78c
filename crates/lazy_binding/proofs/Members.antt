-- Members of a join's memo stay, and come one by one.
use Rattle.std.proofs.Common.{◌≡◌, ℕ, suc, List, [], ◌∷◌, ◌++◌, refl, ◌∙◌, sym, ap, subst, arith}
use Rattle.std.specs.Hash as fed
use Rattle.std.specs.declared.alloc.Global.{Global}
use Rattle.std.specs.declared.rc.Rc.{Rc}
use Rattle.join_memo.specs.Kept.{Kept}
use Rattle.mix_base.specs.Events.{finds, found}
use Rattle.mix_tree.specs.Nodes.{Documents, label_at}
use Rattle.plan_core.specs.Plans.{Operator}
use Rattle.plan_core.specs.TolledRows.{TolledRow, row_node}
use Rattle.plan_forms.specs.declared.link.Link.{Link}
use Rattle.plan_forms.specs.declared.link.LinkKind.{LinkKind}
use Rattle.plan_forms.specs.declared.link.LinkKind.TheVariants.{Label as by_label, Node as by_node}
use Rattle.lazy_binding.specs.declared.position.Position.{Position, Start}
use Rattle.lazy_binding.specs.Bench.{IsBench, HasMembers}
use Rattle.lazy_binding.specs.World.{World, docs_of, Member, memo_at, last_of}
use Rattle.lazy_binding.specs.Cursors.{binding, ahead, IsOf}
use Rattle.lazy_binding.specs.Keeping.{Keeps, Stays}
use Rattle.plan_forms.specs.declared.link.Side.{Side}
use Rattle.plan_forms.specs.declared.link.Side.TheVariants.{Right as on_right}
use Rattle.plan_forms.specs.Links.{side_var, links_at}
use Rattle.lazy_binding.specs.Spots.{hash_text}
use Rattle.lazy_binding.specs.Members.{link_label, link_fed, links_fed, member_label, IsMember, AreNext, AreMembers}
use Rattle.lazy_binding.proofs.Keep.{docs_kept, told-kept}
use Rattle.lazy_binding.proofs.Stay.{cursors_kept, size_kept}

module _ (w : World) (ops : List Operator) (i : ℕ) (by : List Link) where
  -- the last of these members is a position of the operator
  pub last_is : (at : Position) (n : ℕ) (ms : List Member) → IsOf w ops i at → AreNext w ops i by at n ms → IsOf w ops i (last_of at ms)
  last_is at n [] of h = of
  last_is at n (m ∷ ms) of h = last_is m.1.value (suc n) ms h.0.cursor h.1

module _ {a b : World} (k : Keeps a b) (ops : List Operator) (bench : IsBench a ops) where
  -- the label of a variable's node at a cursor stays
  label_kept : (i v : ℕ) (m : Position) → binding b ops i m ≡ binding a ops i m
      → label_at (docs_of a) (row_node (binding a ops i m) v) ≡ label_at (docs_of b) (row_node (binding b ops i m) v)
  label_kept i v m same =
      ap (λ (z : Documents). label_at z (row_node (binding a ops i m) v)) (sym (docs_kept k ops bench))
      ∙ ap (λ (z : TolledRow). label_at (docs_of b) (row_node z v)) (sym same)

  -- the label by which a variable is looked up alone at a cursor stays
  link_label-kept : (i : ℕ) (by : LinkKind) (v : ℕ) (m : Position) → binding b ops i m ≡ binding a ops i m → link_label a ops i by v m ≡ link_label b ops i by v m
  link_label-kept i by_label v m same = label_kept i v m same
  link_label-kept i by_node v m same = refl

  -- what a hasher is fed of a variable at a cursor stays
  link_fed-kept : (i : ℕ) (by : LinkKind) (v : ℕ) (m : Position) → binding b ops i m ≡ binding a ops i m → link_fed a ops i by v m ≡ link_fed b ops i by v m
  link_fed-kept i by_label v m same = ap (fed.slice fed.u8) (label_kept i v m same)
  link_fed-kept i by_node v m same = refl

  -- what a hasher is fed of the variables of links at a cursor stays
  links_fed-kept : (i : ℕ) (side : Side) (links : List Link) (m : Position) → binding b ops i m ≡ binding a ops i m → links_fed a ops i side links m ≡ links_fed b ops i side links m
  links_fed-kept i side [] m same = refl
  links_fed-kept i side (link ∷ links) m same =
      ap (λ (z : fed.HashWrites). z ++ links_fed a ops i side links m) (link_fed-kept i link.by (side_var side link) m same)
      ∙ ap (λ (z : fed.HashWrites). link_fed b ops i link.by (side_var side link) m ++ z) (links_fed-kept i side links m same)

  -- the label by which a binding of the right side is looked up stays
  pub member_label-kept : (i : ℕ) (by : List Link) (m : Position) → binding b ops i m ≡ binding a ops i m → member_label a ops i by m ≡ member_label b ops i by m
  member_label-kept i [] m same = refl
  member_label-kept i (link ∷ []) m same = link_label-kept i link.by link.right m same
  member_label-kept i (link ∷ other ∷ links) m same = ap hash_text (links_fed-kept i on_right (link ∷ other ∷ links) m same)

  module _ (i : ℕ) (by : List Link) where
    -- a member is one after every call
    member_kept : (at : Position) (n : ℕ) (label : List ℕ) (m : Position) → IsOf a ops i at → IsMember a ops i by at n label m → IsMember b ops i by at n label m
    member_kept at n label m of h =
        let before : Stays a b ops i at = cursors_kept a b k ops bench i at of in
        let here : Stays a b ops i m = cursors_kept a b k ops bench i m h.cursor in
        record {
          cursor = here.cursor;
          row = h.row;
          few = (let e = size_kept a b k ops bench i in omega (arith, e, h.few, here.number_is));
          found = λ t.
              ap found before.ahead_is ∙ h.found (sym (told-kept k ops) ∙ t) ∙ ap (λ (z : TolledRow). finds z (ahead a ops i m)) (sym here.binding_is)
              ∙ ap (finds (binding b ops i m)) (sym here.ahead_is);
          label_is = λ t. h.label_is (sym (told-kept k ops) ∙ t) ∙ member_label-kept i by m here.binding_is;
        }

    -- members that come one after another do so after every call
    next_kept : (at : Position) (n : ℕ) (ms : List Member) → IsOf a ops i at → AreNext a ops i by at n ms → AreNext b ops i by at n ms
    next_kept at n [] of h = tt
    next_kept at n (m ∷ ms) of h = (member_kept at n m.0 m.1.value of h.0, next_kept m.1.value (suc n) ms h.0.cursor h.1)

  -- a memo holds the first bindings of its operator after every call
  pub members_kept : (i : ℕ) (by : List Link) (m : Kept (Rc Position Global)) → AreMembers a ops i by m → AreMembers b ops i by m
  members_kept i by m h = record {
    next = next_kept i by Start 0 m.pairs tt h.next;
    all = λ e t.
        let last : Stays a b ops i (last_of Start m.pairs) = cursors_kept a b k ops bench i (last_of Start m.pairs) (last_is a ops i by Start 0 m.pairs tt h.next) in
        ap found last.ahead_is ∙ h.all e (sym (told-kept k ops) ∙ t);
  }

  -- where the memos are the same, each holds the first bindings of its operator still
  pub same_members : b.memos ≡ a.memos → HasMembers b ops
  same_members same n l r tests e =
      subst (AreMembers b ops r (links_at ops n)) (sym (ap (λ (z : List (Kept (Rc Position Global))). memo_at (record { view = a.view; buffers = a.buffers; seen = a.seen; memos = z; walked = a.walked }) n) same))
      (members_kept r (links_at ops n) (memo_at a n) (bench.members n l r tests e))
