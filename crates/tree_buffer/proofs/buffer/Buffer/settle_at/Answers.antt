use Rattle.std.proofs.Common.{◌≡◌, ◌<◌, [], length, get_or, refl, subst, sym, ap, ◌∙◌, arith}
use Rattle.std.proofs.lemmas.List.{get_or-set_other, length-set}
use Rattle.std.proofs.lemmas.Result.{on_ok_weaker}
use Rattle.lxp_core.specs.Open.{nil, weight_of, begins_with_hole}
use Rattle.tree_buffer.specs.Nodes.{Nodes, IsLinked}
use Rattle.tree_buffer.specs.Sourced.{Sourced, Moved}
use Rattle.tree_buffer.specs.Entries.{nodes, list_of}
use Rattle.tree_buffer.proofs.Columns.{column}
use Rattle.tree_buffer.proofs.Entries.{nodes-set, rest-set, length-links}
use Rattle.tree_buffer.proofs.Calls.{sources_from}
use Rattle.tree_buffer.proofs.Refine.{moved_again, sourced_again, one_refined}
use Rattle.tree_buffer.proofs.buffer.Buffer.settle_at.Goals as goal

-- the number of a node is the index of an entry
within : (es : _) (q : _) → q < length (nodes es).links → q < length es
within es q h = omega (arith, h, length-links es)

pub settle-requires-clause-known : goal.settle-requires-clause-known
settle-requires-clause-known g c =
    let es = c.args.self.now.entries.items in
    rw (← column list_of es c.args.q c.index_mut-entry.result.now nil (within es c.args.q c.requires.spot) c.index_mut-entry.ensures.value) (c.requires.sources.sourced.known c.args.q)

pub settle-requires-clause-apart : goal.settle-requires-clause-apart
settle-requires-clause-apart g c =
    let es = c.args.self.now.entries.items in
    rw (← column list_of es c.args.q c.index_mut-entry.result.now nil (within es c.args.q c.requires.spot) c.index_mut-entry.ensures.value) (c.requires.sources.sourced.apart c.args.q)

pub invariant_of-self : goal.invariant_of-self
invariant_of-self g c =
    let es = c.args.self.now.entries.items in
    record {
      linked = subst (λ (m : Nodes). IsLinked m.links m.counts m.firsts m.nexts)
          (sym (nodes-set es c.args.q c.index_mut-entry.result.now _ (within es c.args.q c.requires.spot) c.index_mut-entry.ensures.value refl refl refl refl refl refl))
          c.args.self.now.linked;
      bare = subst (λ (m : Nodes). get_or m.labels 0 [] ≡ [])
          (sym (nodes-set es c.args.q c.index_mut-entry.result.now _ (within es c.args.q c.requires.spot) c.index_mut-entry.ensures.value refl refl refl refl refl refl))
          c.args.self.now.bare;
    }

pub returns-clause-advanced : goal.returns-clause-advanced
returns-clause-advanced g c =
    let v = g.S.Sources.view c.args.s.now in
    let v' = g.S.Sources.view c.settle.new.s in
    let n = c.args.self.now.number in
    let es = c.args.self.now.entries.items in
    let q = c.args.q in
    let old = c.index_mut-entry.result.now in
    let inside = within es q c.requires.spot in
    let s = c.requires.sources.sourced in
    let at = column list_of es q old nil inside c.index_mut-entry.ensures.value in
    let refined = rw (← at) at c.settle.ensures.refined in
    let some : 0 < length (nodes es).links = omega (arith, c.requires.spot) in
    record {
      came = c.settle.ensures.came;
      sources = sources_from _ _ (subst (λ (m : Nodes). Sourced v' n m)
          (sym (nodes-set es q old _ inside c.index_mut-entry.ensures.value refl refl refl refl refl refl))
          (sourced_again v v' n (nodes es) _ s c.settle.ensures.keeps (length-set _ _ _) (one_refined v v' n (nodes es) q _ s c.settle.ensures.keeps refined) some));
      advances = record {
        number = refl;
        moved = subst (λ (m : Nodes). Moved (weight_of (v.weight n)) (nodes es) (weight_of (v'.weight n)) m)
            (sym (nodes-set es q old _ inside c.index_mut-entry.ensures.value refl refl refl refl refl refl))
            (moved_again v v' n (nodes es) _ s c.settle.ensures.keeps (length-set _ _ _) (one_refined v v' n (nodes es) q _ s c.settle.ensures.keeps refined));
      };
    }

pub returns-clause-whole : goal.returns-clause-whole
returns-clause-whole g c = λ e.
    let es = c.args.self.now.entries.items in
    c.settle.ensures.whole (ap begins_with_hole (sym (column list_of es c.args.q c.index_mut-entry.result.now nil (within es c.args.q c.requires.spot) c.index_mut-entry.ensures.value)) ∙ e)

pub returns-clause-settled : goal.returns-clause-settled
returns-clause-settled g c =
    let es = c.args.self.now.entries.items in
    on_ok_weaker c.settle.result (λ settled. rw (rest-set es c.args.q _ (within es c.args.q c.requires.spot)) settled) c.settle.ensures.settled

pub returns-clause-links : goal.returns-clause-links
returns-clause-links g c =
    let es = c.args.self.now.entries.items in
    ap (λ (m : Nodes). m.links) (nodes-set es c.args.q c.index_mut-entry.result.now _ (within es c.args.q c.requires.spot) c.index_mut-entry.ensures.value refl refl refl refl refl refl)

pub returns-clause-counts : goal.returns-clause-counts
returns-clause-counts g c =
    let es = c.args.self.now.entries.items in
    ap (λ (m : Nodes). m.counts) (nodes-set es c.args.q c.index_mut-entry.result.now _ (within es c.args.q c.requires.spot) c.index_mut-entry.ensures.value refl refl refl refl refl refl)

pub returns-clause-others : goal.returns-clause-others
returns-clause-others g c = λ i known other.
    let es = c.args.self.now.entries.items in
    ap (λ (m : Nodes). get_or m.rests i nil) (nodes-set es c.args.q c.index_mut-entry.result.now _ (within es c.args.q c.requires.spot) c.index_mut-entry.ensures.value refl refl refl refl refl refl)
    ∙ get_or-set_other (nodes es).rests c.args.q i _ nil other
