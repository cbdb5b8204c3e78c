-- What files and a sink in memory mean.
use Rattle.std.specs.Prelude.{ℕ, ◌+◌, ◌-◌, ◌^◌, ◌==◌, min, Bool, List, Option, Some, None, if◌then◌else◌, string_bytes}
use Rattle.std.proofs.Common.{get_or}
use Rattle.std.specs.List.{find, position, position_or_len, list_any}
use Rattle.std.specs.Option.{option_map}
use Rattle.std.specs.Str.{bytes_eq}
use Rattle.std.specs.Ordering.{nat_cmp}
use Rattle.std.specs.BTreeSet.{contains}
use Rattle.mix_io.specs.declared.mem_files.MemFile.{MemFile}
use Rattle.mix_io.specs.declared.mem_files.MemFiles.{MemFiles}
use Rattle.mix_io.specs.declared.mem_sink.MemSink.{MemSink}
use Rattle.mix_io.specs.Views.{FilesView, SinkView}

-- whether a file has the path
abbrev pub is_at : List ℕ → MemFile → Bool
is_at path file = bytes_eq (string_bytes file.path) path

-- the contents at a path: those of the first file of that path
abbrev pub contents_at : List MemFile → List ℕ → Option (List ℕ)
contents_at files path = option_map (λ file. file.bytes.items) (find (is_at path) files)

-- the furthest end at a path, where each file has one: that of the first file of the path, and none without a file
abbrev pub end_at : List MemFile → List ℕ → List ℕ → ℕ
end_at files ends path = get_or ends (position_or_len (is_at path) files) 0

-- whether the call of a number, counted from 1, is to fail
abbrev pub fails_at : MemFiles → ℕ → Bool
fails_at m call = contains nat_cmp m.failing call

-- the index of the file that the call of a number reads: none where it is to fail, or no file has the path
abbrev pub index_at_call : MemFiles → ℕ → List ℕ → Option ℕ
index_at_call m call path = if fails_at m call then None else position (is_at path) m.files.items

-- what the call of a number reads: nothing where it is to fail, else the contents at the path
abbrev pub contents_at_call : MemFiles → ℕ → List ℕ → Option (List ℕ)
contents_at_call m call path = if fails_at m call then None else contents_at m.files.items path

-- how many reads of files in memory there were
abbrev pub reads_of : MemFiles → ℕ
reads_of m = m.calls

-- the number of the next read of files in memory, counted from 1; the last number of 64 bits has none after it
abbrev pub next_read : MemFiles → ℕ
next_read m = min (reads_of m + 1) (2 ^ 64 - 1)

-- the contents of a path that the next read of files in memory reads; none where it is to fail
abbrev pub next_contents : MemFiles → List ℕ → Option (List ℕ)
next_contents m path = contents_at_call m (next_read m) path

-- what files in memory mean: they tell their contents, count faults for all paths together, and know the furthest end of each path
abbrev pub mem_files_view : MemFiles → FilesView
mem_files_view m = record { told = contents_at m.files.items; faults = λ _. m.faults; furthest = end_at m.files.items m.ends.items }

-- what a sink in memory means: it tells what was written
abbrev pub mem_sink_view : MemSink → SinkView
mem_sink_view s = record { written = Some s.bytes.items; faults = s.faults }

-- the numbers of the writes, counted from 1, that are to fail of a sink in memory
abbrev pub failing_writes : MemSink → List ℕ
failing_writes s = s.failing.items

-- how many writes to a sink in memory there were
abbrev pub writes_of : MemSink → ℕ
writes_of s = s.writes

-- the number of the next write to a sink in memory, counted from 1; the last number of 64 bits has none after it
abbrev pub next_write : MemSink → ℕ
next_write s = min (writes_of s + 1) (2 ^ 64 - 1)

-- whether the next write to a sink in memory is to fail
abbrev pub next_fails : MemSink → Bool
next_fails s = list_any (λ k. k == next_write s) (failing_writes s)
