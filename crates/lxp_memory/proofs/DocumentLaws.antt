-- What is kept for each source in memory.
use Rattle.std.proofs.Common.{◌≡◌, ℕ, zero, suc, ◌<◌, List, [], ◌∷◌, length, map, get_or, slice_index, true, refl, ap, sym, ◌∙◌, arith}
use Rattle.mix_tree.specs.Forest.{Forest, none, LabelledTree, alone}
use Rattle.lxp_memory.specs.declared.document.Document.{Document}
use Rattle.lxp_core.specs.declared.open_tree.HoleId.{HoleId}
use Rattle.lxp_memory.specs.declared.span.Span.{Span}
use Rattle.lxp_memory.specs.declared.memory.MemSources.{MemSources}
use Rattle.lxp_memory.specs.Nodes.{AreWithin}
use Rattle.lxp_memory.specs.Span.{root_span, span_trees, hole_span, has_span}
use Rattle.lxp_memory.specs.Choice.{choice_of}
use Rattle.lxp_memory.specs.Documents.{AreAllSmall, document_at, root_of, nodes_at}
use Rattle.lxp_memory.specs.Memory.{choices_of, turn_of, next_list}
use Rattle.lxp_memory.specs.Small.{AreSmall}
use Rattle.lxp_memory.proofs.CutLaws.{IsAnswer, answer-cut, is_choice}
use Rattle.lxp_memory.proofs.SmallCuts.{few_chosen, small_cut}
use Rattle.lxp_core.specs.Small.{IsSmall}

-- the first of some lists of trees; no trees where there is none
first_of_list : List Forest → Forest
first_of_list [] = none
first_of_list (f ∷ fs) = f

-- the lists of trees after the first
rest_of_list : List Forest → List Forest
rest_of_list [] = []
rest_of_list (f ∷ fs) = fs

-- where each document has the root of a tree, each source's document is that tree
pub documents_at : (docs : List Document) (trees : List LabelledTree) → map root_of docs ≡ map alone trees → (s : ℕ) → span_trees (nodes_at docs s) root_span ≡ document_at trees s
documents_at [] [] e s = refl
documents_at [] (t ∷ trees) e s = cc
documents_at (d ∷ docs) [] e s = cc
documents_at (d ∷ docs) (t ∷ trees) e zero = cc
documents_at (d ∷ docs) (t ∷ trees) e (suc s) = documents_at docs trees (cc) s

-- the nodes of a source are those of its document
pub nodes_at-read : (docs : List Document) (s : ℕ) (d : Document) → s < length docs → d ≡ get_or docs s d → nodes_at docs s ≡ d.nodes.items
nodes_at-read [] s d h e = absurd (omega arith)
nodes_at-read (x ∷ docs) zero d h e = ap (λ (y : Document). y.nodes.items) (sym e)
nodes_at-read (x ∷ docs) (suc s) d h e = nodes_at-read docs s d (omega arith) e

-- the children of each node of a source's document are among its nodes
within_at : (docs : List Document) (s : ℕ) → s < length docs → AreWithin (nodes_at docs s) 0
within_at [] s h = absurd (omega arith)
within_at (d ∷ docs) zero h = d.within
within_at (d ∷ docs) (suc s) h = within_at docs s (omega arith)

-- a hole of which a source's document has the children is known
pub known_at : (docs : List Document) (s : ℕ) (h : HoleId) (d : Document) (span : Span) → s < length docs → d ≡ get_or docs s d → (span ≡ hole_span h) × (has_span d.nodes.items span ≡ true)
    → has_span (nodes_at docs s) (hole_span h) ≡ true
known_at docs s h d span within read found =
    ap (λ ns. has_span ns (hole_span h)) (nodes_at-read docs s d within read) ∙ ap (has_span d.nodes.items) (sym found.0) ∙ found.1

-- the next list of a known hole is an answer
pub next_list_answers : (m : MemSources) (s : ℕ) (h : HoleId) → s < length m.docs.items → has_span (nodes_at m.docs.items s) (hole_span h) ≡ true
    → IsAnswer (nodes_at m.docs.items s) (choice_of (slice_index (choices_of m) (turn_of m)) m.forward) (hole_span h) (next_list m s h)
next_list_answers m s h within known =
    answer-cut (nodes_at m.docs.items s) (choice_of (slice_index (choices_of m) (turn_of m)) m.forward) (hole_span h) (is_choice (slice_index (choices_of m) (turn_of m)) m.forward) known (within_at m.docs.items s within)

-- the lists below the nodes of a source's document are small, where they are in each document
small_at : (docs : List Document) (s : ℕ) → s < length docs → AreAllSmall docs → AreSmall (nodes_at docs s)
small_at [] s h small = absurd (omega arith)
small_at (d ∷ docs) zero h small = small.0
small_at (d ∷ docs) (suc s) h small = small_at docs s (omega arith) small.1

-- the next list of a known hole is small enough for a wire
pub next_list_small : (m : MemSources) (s : ℕ) (h : HoleId) → s < length m.docs.items → has_span (nodes_at m.docs.items s) (hole_span h) ≡ true → IsSmall (next_list m s h)
next_list_small m s h within known =
    let byte = slice_index (choices_of m) (turn_of m) in
    small_cut (nodes_at m.docs.items s) (choice_of byte m.forward) (hole_span h) (few_chosen byte m.forward) known (within_at m.docs.items s within) (small_at m.docs.items s within m.small)
