-- Walks that no call takes.
use Rattle.std.proofs.Common.{refl, arith}
use Rattle.lxp_core.specs.View.{View, Keeps}
use Rattle.tree_buffer.specs.Law.{KeepsBuffers}
use Rattle.lazy_binding.specs.Keeping.{Keeps as KeepsWorld}
use Rattle.lazy_binding.specs.Parts.{operators, world_of}
use Rattle.lazy_binding.proofs.Buffers.{bench_stays}
use Rattle.lazy_binding.proofs.Members.{same_members}
use Rattle.lazy_plan.proofs.Benches.{keeps_bench}
use Rattle.lazy_walk.specs.declared.walk.Walk.{Walk}
use Rattle.lazy_walk.specs.Kept.{IsKept}
use Rattle.lazy_walk.specs.Walks.{IsWalkOf}

module _ (buffers : KeepsBuffers) (v v' : View) (m : Walk) (h : IsWalkOf v m) (k : Keeps v v') where
  -- what every call keeps of sources, it keeps of them with what a walk has grown over them
  world_keeps : KeepsWorld (world_of v m.bench.growing) (world_of v' m.bench.growing)
  world_keeps = record {
    view = k;
    buffers = refl;
    goes = λ s b there. record { later = b; there = there; goes = (buffers v v' b (h.bench.sources s b there).1 k).goes };
    lists = refl;
    longer = λ n. omega arith;
    seen = λ n j l. refl;
    memos = refl;
    more = λ n. omega arith;
    members = λ n j l. refl;
    found = λ n number place c f. f;
  }

  -- a walk that no call takes is one over the later sources
  pub walk_kept : IsKept v v' m
  walk_kept = record {
    walk = record {
      valid = h.valid;
      fixed = h.fixed;
      bench = bench_stays world_keeps (operators m.bench.fixed) h.bench refl (same_members world_keeps (operators m.bench.fixed) h.bench refl) refl
          (λ s b there. ((h.bench.sources s b there).0, (buffers v v' b (h.bench.sources s b there).1 k).sources));
    };
    kept = keeps_bench (world_of v m.bench.growing) (world_of v' m.bench.growing) m.bench.fixed.plan world_keeps h.bench;
  }
