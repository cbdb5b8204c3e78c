use Rattle.std.proofs.Common.{refl}
use Rattle.path_auto.specs.Automaton.{machine_of}
use Rattle.lazy_descend.specs.Cursors.{ahead}
use Rattle.lazy_binding.specs.World.{match_ahead, match_number}
use Rattle.lazy_binding.specs.Parts.{operators, world_of}
use Rattle.lazy_binding.proofs.Labels.{read_is}
use Rattle.lazy_steps.proofs.Matches.{ahead_same, call_lazy, call_answer, call_asked, call_cause, three_ok, match_read, less_next}
use Rattle.lazy_steps.proofs.visits.Visit.next.Goals as goal

pub next-requires-clause-sources : goal.next-requires-clause-sources
next-requires-clause-sources g c =
    let k = (match_read c.requires.at c.index_mut-buffer.result.now (read_is c.args.growing.now.buffers.items c.args.self.now.source c.requires.at.buffer c.index_mut-buffer.result.now c.requires.at.there c.index_mut-buffer.ensures.value)) in
    (c.requires.bench.sources c.args.self.now.source c.index_mut-buffer.result.now k.there).1

pub returns : goal.returns
returns g c = record {
  asked = call_asked c.args.self.now.source c.index_mut-buffer.result.now c.next.new.b c.requires.bench (match_read c.requires.at c.index_mut-buffer.result.now (read_is c.args.growing.now.buffers.items c.args.self.now.source c.requires.at.buffer c.index_mut-buffer.result.now c.requires.at.there c.index_mut-buffer.ensures.value)).there
      (g.met.S.Sources.keeps _ _ c.next.ensures.ran.came) c.next.ensures.ran refl refl refl refl
      (call_lazy (g.S.Sources.view c.args.s.now) (g.S.Sources.view c.next.new.s) c.args.growing.now.buffers.items c.args.growing.now.seen.items c.args.growing.now.memos.items c.args.growing.now.walked (operators c.args.self.now.fixed.now) c.requires.bench c.args.self.now.source c.index_mut-buffer.result.now c.next.new.b (match_read c.requires.at c.index_mut-buffer.result.now (read_is c.args.growing.now.buffers.items c.args.self.now.source c.requires.at.buffer c.index_mut-buffer.result.now c.requires.at.there c.index_mut-buffer.ensures.value)).there c.requires.read (ahead (g.S.Sources.view c.args.s.now) c.index_mut-buffer.result.now (machine_of c.args.self.now.auto.now) c.args.at.now) (match_ahead (world_of (g.S.Sources.view c.args.s.now) c.args.growing.now) c.args.self.now.source (machine_of c.args.self.now.auto.now) c.args.at.now)
      (ahead_same (world_of (g.S.Sources.view c.args.s.now) c.args.growing.now) c.args.self.now.source c.args.at.now (match_read c.requires.at c.index_mut-buffer.result.now (read_is c.args.growing.now.buffers.items c.args.self.now.source c.requires.at.buffer c.index_mut-buffer.result.now c.requires.at.there c.index_mut-buffer.ensures.value)) (machine_of c.args.self.now.auto.now) (machine_of c.args.self.now.auto.now) refl) c.next.ensures.lazy);
  cause = call_cause (g.S.Sources.view c.args.s.now) (g.S.Sources.view c.next.new.s) c.args.growing.now.buffers.items c.args.growing.now.seen.items c.args.growing.now.memos.items c.args.growing.now.walked (operators c.args.self.now.fixed.now) c.requires.bench c.args.self.now.source c.index_mut-buffer.result.now
      (match_read c.requires.at c.index_mut-buffer.result.now (read_is c.args.growing.now.buffers.items c.args.self.now.source c.requires.at.buffer c.index_mut-buffer.result.now c.requires.at.there c.index_mut-buffer.ensures.value)).there c.requires.read c.next.result c.next.ensures.cause;
  answer = three_ok c.next.result _ _ _ _ (λ r cursor_is smaller_is answer_is. call_answer (g.S.Sources.view c.args.s.now) (g.S.Sources.view c.next.new.s) c.args.growing.now.buffers.items c.args.growing.now.seen.items c.args.growing.now.memos.items c.args.growing.now.walked (operators c.args.self.now.fixed.now) c.requires.bench c.args.self.now.source c.index_mut-buffer.result.now c.next.new.b (match_read c.requires.at c.index_mut-buffer.result.now (read_is c.args.growing.now.buffers.items c.args.self.now.source c.requires.at.buffer c.index_mut-buffer.result.now c.requires.at.there c.index_mut-buffer.ensures.value)).there c.requires.read (machine_of c.args.self.now.auto.now) (ahead (g.S.Sources.view c.args.s.now) c.index_mut-buffer.result.now (machine_of c.args.self.now.auto.now) c.args.at.now) (match_ahead (world_of (g.S.Sources.view c.args.s.now) c.args.growing.now) c.args.self.now.source (machine_of c.args.self.now.auto.now) c.args.at.now)
      (ahead_same (world_of (g.S.Sources.view c.args.s.now) c.args.growing.now) c.args.self.now.source c.args.at.now (match_read c.requires.at c.index_mut-buffer.result.now (read_is c.args.growing.now.buffers.items c.args.self.now.source c.requires.at.buffer c.index_mut-buffer.result.now c.requires.at.there c.index_mut-buffer.ensures.value)) (machine_of c.args.self.now.auto.now) (machine_of c.args.self.now.auto.now) refl) (match_number (world_of (g.S.Sources.view c.args.s.now) c.args.growing.now) c.args.self.now.source c.args.at.now) r
      cursor_is (less_next (world_of (g.S.Sources.view c.args.s.now) c.args.growing.now) c.args.self.now.source c.args.at.now (match_read c.requires.at c.index_mut-buffer.result.now (read_is c.args.growing.now.buffers.items c.args.self.now.source c.requires.at.buffer c.index_mut-buffer.result.now c.requires.at.there c.index_mut-buffer.ensures.value)) (g.S.Sources.view c.next.new.s) c.next.new.b r smaller_is) answer_is)
      c.next.ensures.cursor c.next.ensures.smaller c.next.ensures.answer;
}
