use Rattle.std.proofs.Common.{◌≡◌, ℕ, Bool, IfOk, if◌then◌else◌, ap, sym, subst, ◌∙◌, arith}
use Rattle.lxp_core.specs.Open.{Open, nil, without_holes}
use Rattle.lxp_core.specs.Plain.{plain, put_all}
use Rattle.lxp_memory.specs.Nodes.{first_of, count_of, run}
use Rattle.lxp_memory.specs.Choice.{wants_hole}
use Rattle.lxp_memory.specs.Cut.{hole_if, kids_of}
use Rattle.lxp_memory.proofs.NodeLaws.{node_at}
use Rattle.lxp_memory.proofs.document.Document.kids.Goals as goal

pub run-requires : goal.run-requires
run-requires c =
    let read = node_at c.args.self.now.nodes.items c.args.i _ c.requires c.index.ensures in
    omega (arith, read.count, c.first.ensures.within)

pub returns-then-choice : goal.returns-then-choice
returns-then-choice c =
    let ns = c.args.self.now.nodes.items in
    let i = c.args.i in
    let read = node_at ns i _ c.requires c.index.ensures in
    let wanted : without_holes (run ns c.first.result c.index.result.now.count) ≡ kids_of ns c.args.choice i =
    ap (λ f. without_holes (run ns f c.index.result.now.count)) c.first.ensures.first
    ∙ ap (λ n. without_holes (run ns (first_of ns i) n)) (sym read.count)
    ∙ ap (λ whole. if whole then without_holes (run ns (first_of ns i) (count_of ns i)) else hole_if (wants_hole c.args.choice (count_of ns i)) (record { node = i; from = 0; to = count_of ns i }) nil) (sym c.if-choice.true) in
    subst (λ o. IfOk c.run.result (λ list. plain list.items ≡ o)) wanted c.run.ensures

pub returns : goal.returns
returns c =
    let ns = c.args.self.now.nodes.items in
    let choice = c.args.choice in
    let i = c.args.i in
    let read = node_at ns i _ c.requires c.index.ensures in
    let one : Bool → ℕ → Open = λ wanted to. hole_if wanted (record { node = i; from = 0; to = to }) nil in
    c.in_ok-push_hole_if.ensures nil
    ∙ ap (λ ts. put_all ts (one c.wants_hole.result c.index.result.now.count)) c.new-list.ensures.items
    ∙ ap (λ wanted. one wanted c.index.result.now.count) c.wants_hole.ensures
    ∙ ap (λ n. one (wants_hole choice n) n) (sym read.count)
    ∙ ap (λ whole. if whole then without_holes (run ns (first_of ns i) (count_of ns i)) else one (wants_hole choice (count_of ns i)) (count_of ns i)) (sym c.if-choice.false)
