-- Documents in memory keep what sources keep.
use Rattle.std.specs.Prelude.{◌≡◌, ℕ, zero, suc, ◌<◌, true, ◌==◌, List, [], ◌∷◌, length, refl}
use Rattle.std.specs.List.{list_any}
use Rattle.std.proofs.Common.{ap, ◌∙◌, arith}
use Rattle.mix_tree.specs.Weight.{nodes_of}
use Rattle.lxp_memory.specs.declared.document.Document.{Document}
use Rattle.lxp_memory.specs.declared.memory.MemSources.{MemSources}
use Rattle.lxp_core.specs.View.{Keeps}
use Rattle.lxp_memory.specs.DocumentHoles.{rest_is_there, root_hole_known}
use Rattle.lxp_memory.specs.Span.{hole_span, root_span, has_span, span_trees}
use Rattle.lxp_memory.specs.Documents.{nodes_at}
use Rattle.lxp_memory.specs.Memory.{memory_view, CameFrom}

-- a state came from itself
pub came_same : (a : MemSources) → CameFrom a a
came_same a = record {
  docs = refl;
  forward = refl;
  failing = refl;
  choices = refl;
  fills = omega arith;
  faults = λ s. omega arith;
  steady = λ none_fails s. refl;
}

-- a state that came from one which came from a third came from that third
pub came_after : (a b c : MemSources) → CameFrom a b → CameFrom b c → CameFrom a c
came_after a b c x y = record {
  docs = y.docs ∙ x.docs;
  forward = y.forward ∙ x.forward;
  failing = y.failing ∙ x.failing;
  choices = y.choices ∙ x.choices;
  fills = omega (arith, x.fills, y.fills);
  faults = λ s. omega (arith, x.faults s, y.faults s);
  steady = λ none_fails s.
      y.steady (λ n low high. ap (λ failing. list_any (λ k. k == n) failing) x.failing ∙ none_fails n (omega (arith, x.fills)) high) s
      ∙ x.steady (λ n low high. none_fails n low (omega (arith, y.fills))) s;
}

-- a state keeps what every call keeps of each state that it came from
pub came_keeps : (a b : MemSources) → CameFrom a b → Keeps (memory_view a) (memory_view b)
came_keeps a b x = record {
  count = ap length x.docs;
  root = λ s. refl;
  told = λ s. refl;
  forward = λ s. x.forward;
  small = λ s. refl;
  knows = λ s h k. ap (λ docs. has_span (nodes_at docs s) (hole_span h)) x.docs ∙ k;
  forest = λ s h k. ap (λ docs. span_trees (nodes_at docs s) (hole_span h)) x.docs;
  weight = λ s h k. ap (λ docs. nodes_of (span_trees (nodes_at docs s) (hole_span h))) x.docs;
  fills = x.fills;
  faults = x.faults;
}

-- each document has the one child of its document node that its root's hole stands for
root_in : (docs : List Document) (s : ℕ) → s < length docs → has_span (nodes_at docs s) root_span ≡ true
root_in [] s h = absurd (omega arith)
root_in (d ∷ docs) zero h = rest_is_there d.nodes.items root_span (root_hole_known d)
root_in (d ∷ docs) (suc s) h = root_in docs s (omega arith)

-- the hole of a whole document is known
pub root_is_known : (a : MemSources) (s : ℕ) → s < (memory_view a).count → (memory_view a).knows s ((memory_view a).root s) ≡ true
root_is_known a s h = root_in a.docs.items s h

-- each list that sources in memory answer is small
pub all_small : (a : MemSources) (s : ℕ) → s < (memory_view a).count → (memory_view a).small s ≡ true
all_small a s h = refl
