use Rattle.std.proofs.Common.{suc, [], refl}
use Rattle.path_auto.specs.Automaton.{machine_of}
use Rattle.path_auto.specs.Visit.{visit_below}
use Rattle.mix_tree.specs.Forest.{tree, none}
use Rattle.tree_buffer.specs.Document.{document_node}
use Rattle.tree_buffer.specs.Buffer.{number_of, place_of}
use Rattle.lazy_binding.specs.World.{docs_of, place_in, bound_of}
use Rattle.lazy_binding.specs.Parts.{operators, world_of}
use Rattle.lazy_binding.proofs.Labels.{read_is}
use Rattle.lazy_steps.proofs.Matches.{visit_same, call_lazy, call_answer, call_asked, call_cause, three_ok, spot_read, less_first}
use Rattle.lazy_steps.proofs.visits.Visit.first.Goals as goal

pub first-requires-clause-sources : goal.first-requires-clause-sources
first-requires-clause-sources g c =
    let k = (spot_read c.requires.start c.index_mut-buffer.result.now (read_is c.args.growing.now.buffers.items c.args.self.now.source c.requires.start.buffer c.index_mut-buffer.result.now c.requires.start.there c.index_mut-buffer.ensures.value)) in
    (c.requires.bench.sources c.args.self.now.source c.index_mut-buffer.result.now k.there).1

pub returns : goal.returns
returns g c = record {
  asked = call_asked c.args.self.now.source c.index_mut-buffer.result.now c.first.new.b c.requires.bench (spot_read c.requires.start c.index_mut-buffer.result.now (read_is c.args.growing.now.buffers.items c.args.self.now.source c.requires.start.buffer c.index_mut-buffer.result.now c.requires.start.there c.index_mut-buffer.ensures.value)).there
      (g.met.S.Sources.keeps _ _ c.first.ensures.ran.came) c.first.ensures.ran refl refl refl refl
      (call_lazy (g.S.Sources.view c.args.s.now) (g.S.Sources.view c.first.new.s) c.args.growing.now.buffers.items c.args.growing.now.seen.items c.args.growing.now.memos.items c.args.growing.now.walked (operators c.args.self.now.fixed.now) c.requires.bench c.args.self.now.source c.index_mut-buffer.result.now c.first.new.b (spot_read c.requires.start c.index_mut-buffer.result.now (read_is c.args.growing.now.buffers.items c.args.self.now.source c.requires.start.buffer c.index_mut-buffer.result.now c.requires.start.there c.index_mut-buffer.ensures.value)).there c.requires.read (visit_below (machine_of c.args.self.now.auto.now) (document_node (g.S.Sources.view c.args.s.now) (number_of c.index_mut-buffer.result.now)) (place_of c.index_mut-buffer.result.now c.args.start.now)) (visit_below (machine_of c.args.self.now.auto.now) (tree [] (docs_of (world_of (g.S.Sources.view c.args.s.now) c.args.growing.now) c.args.self.now.source) none) (place_in (world_of (g.S.Sources.view c.args.s.now) c.args.growing.now) c.args.self.now.source c.args.start.now))
      (visit_same (world_of (g.S.Sources.view c.args.s.now) c.args.growing.now) (operators c.args.self.now.fixed.now) c.requires.bench c.args.self.now.source c.args.start.now (spot_read c.requires.start c.index_mut-buffer.result.now (read_is c.args.growing.now.buffers.items c.args.self.now.source c.requires.start.buffer c.index_mut-buffer.result.now c.requires.start.there c.index_mut-buffer.ensures.value)) (machine_of c.args.self.now.auto.now) (machine_of c.args.self.now.auto.now) refl) c.first.ensures.lazy);
  cause = call_cause (g.S.Sources.view c.args.s.now) (g.S.Sources.view c.first.new.s) c.args.growing.now.buffers.items c.args.growing.now.seen.items c.args.growing.now.memos.items c.args.growing.now.walked (operators c.args.self.now.fixed.now) c.requires.bench c.args.self.now.source c.index_mut-buffer.result.now
      (spot_read c.requires.start c.index_mut-buffer.result.now (read_is c.args.growing.now.buffers.items c.args.self.now.source c.requires.start.buffer c.index_mut-buffer.result.now c.requires.start.there c.index_mut-buffer.ensures.value)).there c.requires.read c.first.result c.first.ensures.cause;
  answer = three_ok c.first.result _ _ _ _ (λ r cursor_is smaller_is answer_is. call_answer (g.S.Sources.view c.args.s.now) (g.S.Sources.view c.first.new.s) c.args.growing.now.buffers.items c.args.growing.now.seen.items c.args.growing.now.memos.items c.args.growing.now.walked (operators c.args.self.now.fixed.now) c.requires.bench c.args.self.now.source c.index_mut-buffer.result.now c.first.new.b (spot_read c.requires.start c.index_mut-buffer.result.now (read_is c.args.growing.now.buffers.items c.args.self.now.source c.requires.start.buffer c.index_mut-buffer.result.now c.requires.start.there c.index_mut-buffer.ensures.value)).there c.requires.read (machine_of c.args.self.now.auto.now) (visit_below (machine_of c.args.self.now.auto.now) (document_node (g.S.Sources.view c.args.s.now) (number_of c.index_mut-buffer.result.now)) (place_of c.index_mut-buffer.result.now c.args.start.now)) (visit_below (machine_of c.args.self.now.auto.now) (tree [] (docs_of (world_of (g.S.Sources.view c.args.s.now) c.args.growing.now) c.args.self.now.source) none) (place_in (world_of (g.S.Sources.view c.args.s.now) c.args.growing.now) c.args.self.now.source c.args.start.now))
      (visit_same (world_of (g.S.Sources.view c.args.s.now) c.args.growing.now) (operators c.args.self.now.fixed.now) c.requires.bench c.args.self.now.source c.args.start.now (spot_read c.requires.start c.index_mut-buffer.result.now (read_is c.args.growing.now.buffers.items c.args.self.now.source c.requires.start.buffer c.index_mut-buffer.result.now c.requires.start.there c.index_mut-buffer.ensures.value)) (machine_of c.args.self.now.auto.now) (machine_of c.args.self.now.auto.now) refl) (suc (bound_of (world_of (g.S.Sources.view c.args.s.now) c.args.growing.now))) r
      cursor_is (less_first (world_of (g.S.Sources.view c.args.s.now) c.args.growing.now) (operators c.args.self.now.fixed.now) c.requires.bench c.args.self.now.source c.args.start.now (spot_read c.requires.start c.index_mut-buffer.result.now (read_is c.args.growing.now.buffers.items c.args.self.now.source c.requires.start.buffer c.index_mut-buffer.result.now c.requires.start.there c.index_mut-buffer.ensures.value)) (g.S.Sources.view c.first.new.s) c.first.new.b r smaller_is) answer_is)
      c.first.ensures.cursor c.first.ensures.smaller c.first.ensures.answer;
}
