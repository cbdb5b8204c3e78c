use Rattle.std.proofs.Common.{◌≡◌, refl, ap, subst, ◌∙◌}
use Rattle.lxp_core.specs.declared.open_tree.OpenTree.TheVariants.{Hole}
use Rattle.lxp_core.specs.Open.{Open, nil, hole, AllHoles, IsApart, open_followed}
use Rattle.lxp_core.specs.Plain.{stacked, plain}
use Rattle.lxp_core.specs.View.{Keeps}
use Rattle.tree_buffer.proofs.Fills.{stays, filled, falls, lazily}
use Rattle.tree_buffer.proofs.StackTops.{stacked-hole}
use Rattle.tree_buffer.proofs.stacks.refill.Goals as goal

pub returns-in-Err-Failed-clause-refined : goal.returns-in-Err-Failed-clause-refined
returns-in-Err-Failed-clause-refined g c =
    stays _ _ _ _ (g.met.S.Sources.keeps _ _ c.fill.ensures.came) c.requires.known c.requires.apart

pub returns-in-Err-OutOfMemory-clause-refined : goal.returns-in-Err-OutOfMemory-clause-refined
returns-in-Err-OutOfMemory-clause-refined g c =
    stays _ _ _ _ (g.met.S.Sources.keeps _ _ c.fill.ensures.came) c.requires.known c.requires.apart

pub unreachable-requires : goal.unreachable-requires
unreachable-requires g c =
    let e = ap (λ xs. stacked xs nil) c.requires.top.1 ∙ stacked-hole c.requires.top.0 c.args.hole in
    let known = subst (AllHoles ((g.S.Sources.view c.args.s.now).knows c.args.number)) e c.requires.known in
    let k = known.0 in
    let u = rw c.in-Err-UnknownHole.field-0-is at c.in-Err-UnknownHole.ensures.refused.unknown in
    cc (k, u refl)

pub returns-in_err-replace_top-clause-refined : goal.returns-in_err-replace_top-clause-refined
returns-in_err-replace_top-clause-refined g c =
    rw c.in_err-replace_top.ensures.err (stays _ _ _ _ (g.met.S.Sources.keeps _ _ c.fill.ensures.came) c.requires.known c.requires.apart)

module _ (g : _) (c : goal.In_ok-replace_top g) where
  -- what stands after the hole at the top of the stack
  tail : Open
  tail = stacked c.requires.top.0 nil

  -- before the fill the stack stands for the hole and what is after it
  was : stacked c.args.stack.now.items nil ≡ hole c.args.hole tail
  unfolding tail
  was = ap (λ xs. stacked xs nil) c.requires.top.1 ∙ stacked-hole c.requires.top.0 c.args.hole

  -- after the fill the stack stands for the list that came and what is after the hole
  is : stacked c.replace_top.new.stack.items nil ≡ open_followed (plain c.in-Ok.list.items) tail
  unfolding tail
  is = c.in_ok-replace_top.ensures.ok c.requires.top.0 (Hole c.args.hole) c.requires.top.1

  -- the source knows the hole and those after it
  known : AllHoles ((g.S.Sources.view c.args.s.now).knows c.args.number) (hole c.args.hole tail)
  known = subst (AllHoles ((g.S.Sources.view c.args.s.now).knows c.args.number)) was c.requires.known

  -- no two holes are adjacent in the hole and what is after it
  apart : IsApart (hole c.args.hole tail)
  apart = subst IsApart was c.requires.apart

  -- what every call keeps of the sources was kept by the fill
  keeps : Keeps (g.S.Sources.view c.args.s.now) (g.S.Sources.view c.fill.new.self)
  keeps = g.met.S.Sources.keeps _ _ c.fill.ensures.came

pub returns-clause-refined : goal.returns-clause-refined
returns-clause-refined g c =
    let e = c.in-Ok.ensures.answers in
    rw (was g c, is g c) (filled _ _ _ _ _ _ (keeps g c) (known g c) (apart g c) e.progress e.known e.lighter e.closes)

pub returns-clause-lazy : goal.returns-clause-lazy
returns-clause-lazy g c =
    let e = c.in-Ok.ensures.answers in
    rw (was g c, is g c) (lazily _ _ _ _ _ _ (keeps g c) (known g c) (apart g c) e.progress e.known e.lighter e.forward c.in-Ok.ensures.counted.at_most_one)

pub returns-clause-falls : goal.returns-clause-falls
returns-clause-falls g c =
    let e = c.in-Ok.ensures.answers in
    rw (was g c, is g c) (falls _ _ _ _ _ _ (keeps g c) (known g c) (apart g c) e.progress e.known e.lighter)
