use Rattle.std.proofs.Common.{◌≡◌, ◌∙◌, ap, arith, false, sym, subst}
use Rattle.std.proofs.lemmas.Bool.{false≢true}
use Rattle.mix_tree.specs.Weight.{nodes_of}
use Rattle.lxp_core.specs.declared.open_tree.HoleId.{HoleId}
use Rattle.lxp_core.specs.Open.{begins_with_hole, AllHoles, IsProgress, closed, without_holes}
use Rattle.lxp_core.specs.Plain.{plain}
use Rattle.lxp_core.specs.Small.{IsSmall}
use Rattle.lxp_core.proofs.Opens.{AllHoles-without_holes, closed-without_holes, nodes_of-closed}
use Rattle.far_keep.specs.Listed.{fails_at, listed, names_call, trees_of}
use Rattle.far_keep.specs.Memory.{next_call}
use Rattle.far_keep.specs.Names.{is_far_root}
use Rattle.far_keep.proofs.Listings.{call_at, list_small, listed_at, small_at}
use Rattle.far_keep.proofs.Trees.{no_hole_first, progress-without_holes}
use Rattle.far_keep.proofs.mem_fars.MemFarsFars.fill.Goals as goal

pub returns-clause-whole : goal.returns-clause-whole
returns-clause-whole c =
    let here = listed_at c.args.self.now.fars.items c.args.far.now c.in-Some.i c.index-4.result.now c.in-Some.ensures c.index-4.ensures in
    c.in_ok-list.ensures ∙ ap (λ o. without_holes (trees_of o)) (sym here)

pub returns-clause-answers : goal.returns-clause-answers
returns-clause-answers c =
    let fars = c.args.self.now.fars.items in
    let m = c.index-4.result.now in
    let trees = trees_of (listed fars c.args.far.now) in
    let closed_list = ap (closed (λ (h : HoleId). trees)) (returns-clause-whole c) ∙ closed-without_holes (λ (h : HoleId). trees) trees in record {
      closes = λ told. closed_list;
      progress = subst IsProgress (sym (returns-clause-whole c)) (progress-without_holes _);
      known = subst (AllHoles is_far_root) (sym (returns-clause-whole c)) (AllHoles-without_holes is_far_root _);
      lighter = omega (arith, nodes_of-closed (λ (h : HoleId). trees) (plain c.in_ok-list.field-0.items), ap nodes_of closed_list);
      forward = λ told. subst (λ o. begins_with_hole o ≡ false) (sym (returns-clause-whole c)) (no_hole_first _);
      small = λ e. subst IsSmall (sym c.in_ok-list.ensures) (list_small m (small_at fars c.args.far.now c.in-Some.i m c.in-Some.ensures c.index-4.ensures c.args.self.now.small));
    }

pub returns-clause-fails : goal.returns-clause-fails
returns-clause-fails c = λ known fails.
    let m = c.index-2.result.now in
    let here = listed_at c.args.self.now.fars.items c.args.far.now c.in-Some.i m c.in-Some.ensures c.index-2.ensures in
    let next = call_at c.args.self.now c.args.far.now c.in-Some.i c.index.result.now c.saturating_add.result c.index-3.result.now c.in-Some.ensures c.index.ensures c.saturating_add.ensures c.index-3.ensures in
    let goes : names_call m (next_call c.args.self.now c.args.far.now) ≡ false = ap (names_call m) (sym next) ∙ sym c.names.ensures ∙ c.if-names.false in
    absurd (false≢true (sym goes ∙ ap (λ o. fails_at o (next_call c.args.self.now c.args.far.now)) (sym here) ∙ fails))
