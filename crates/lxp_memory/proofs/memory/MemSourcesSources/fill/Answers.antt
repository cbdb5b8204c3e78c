use Rattle.std.proofs.Common.{◌≡◌, ◌≤◌, false, inl, refl, ap, subst, sym, ◌∙◌, slice_index}
use Rattle.std.proofs.lemmas.Bool.{false≢true}
use Rattle.mix_tree.specs.Weight.{nodes_of}
use Rattle.lxp_core.specs.declared.open_tree.HoleId.{HoleId}
use Rattle.lxp_core.specs.Open.{closed, weight_of, AllHoles, IsProgress, begins_with_hole}
use Rattle.lxp_core.specs.Small.{IsSmall}
use Rattle.lxp_memory.specs.Span.{span_trees, hole_span, has_span}
use Rattle.lxp_memory.specs.Choice.{choice_of, leads_of}
use Rattle.lxp_memory.specs.Cut.{cut}
use Rattle.lxp_memory.specs.Documents.{nodes_at}
use Rattle.lxp_memory.proofs.DocumentLaws.{nodes_at-read, known_at, next_list_answers, next_list_small}
use Rattle.lxp_memory.proofs.memory.MemSourcesSources.fill.Goals as goal

pub returns-in_default-clause-fails : goal.returns-in_default-clause-fails
returns-in_default-clause-fails c = λ known next.
    let unknown = ap (λ ns. has_span ns (hole_span c.args.hole)) (nodes_at-read c.args.self.now.docs.items c.args.s _ c.requires c.index.ensures) ∙ c.in_default.ensures in
    absurd (false≢true (sym unknown ∙ known))

pub returns-clause-list : goal.returns-clause-list
returns-clause-list c =
    let m = c.args.self.now in
    let ns = nodes_at m.docs.items c.args.s in
    let chosen = c.new-choice.ensures ∙ ap (λ byte. choice_of byte m.forward) c.byte.ensures in
    c.in_ok-list.ensures
    ∙ ap (λ nodes. cut nodes c.new-choice.result c.in-Some.span) (sym (nodes_at-read m.docs.items c.args.s _ c.requires c.index-2.ensures))
    ∙ ap (λ choice. cut ns choice c.in-Some.span) chosen
    ∙ ap (cut ns (choice_of (slice_index m.circle.bytes.items m.circle.turn) m.forward)) c.in-Some.ensures.0

pub returns-clause-answers : goal.returns-clause-answers
returns-clause-answers c =
    let m = c.args.self.now in
    let known = known_at m.docs.items c.args.s c.args.hole _ _ c.requires c.index.ensures c.in-Some.ensures in
    let is = next_list_answers m c.args.s c.args.hole c.requires known in
    let weight = λ (h : HoleId). nodes_of (span_trees (nodes_at m.docs.items c.args.s) (hole_span h)) in
    let list = returns-clause-list c in record {
      closes = λ told. ap (closed (λ h. span_trees (nodes_at m.docs.items c.args.s) (hole_span h))) list ∙ is.closes;
      progress = subst IsProgress (sym list) is.progress;
      known = subst (AllHoles (λ h. has_span (nodes_at m.docs.items c.args.s) (hole_span h))) (sym list) is.known;
      lighter = subst (λ o. weight_of weight o ≤ weight c.args.hole) (sym list) is.lighter;
      forward = λ forward.
          subst (λ o. begins_with_hole o ≡ false) (sym list) (is.forward (ap (leads_of (slice_index m.circle.bytes.items m.circle.turn)) forward));
      small = λ small. subst IsSmall (sym list) (next_list_small m c.args.s c.args.hole c.requires known);
    }

pub returns-in_default-clause-refused : goal.returns-in_default-clause-refused
returns-in_default-clause-refused c =
    let items = c.args.self.now.docs.items in
    let unknown = ap (λ ns. has_span ns (hole_span c.args.hole)) (nodes_at-read items c.args.s _ c.requires c.index.ensures) ∙ c.in_default.ensures in
    record { failed = λ e. cc e; unknown = λ e. unknown; only_unknown = λ e. inl refl }

pub returns-then-fails_next-clause-refused : goal.returns-then-fails_next-clause-refused
returns-then-fails_next-clause-refused c =
    let known = known_at c.args.self.now.docs.items c.args.s c.args.hole _ _ c.requires c.index.ensures c.in-Some.ensures in
    record { failed = λ e. c.fail.ensures.faults; unknown = λ e. cc e; only_unknown = λ unknown. absurd (false≢true (sym unknown ∙ known)) }

pub returns-clause-refused : goal.returns-clause-refused
returns-clause-refused c =
    let known = known_at c.args.self.now.docs.items c.args.s c.args.hole _ _ c.requires c.index.ensures c.in-Some.ensures in
    record { failed = λ e. cc e; unknown = λ e. cc e; only_unknown = λ unknown. absurd (false≢true (sym unknown ∙ known)) }
