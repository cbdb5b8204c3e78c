-- What the files of the system and standard output mean: they tell nothing.
use Rattle.std.specs.Prelude.{None, unwrap_or}
use Rattle.std.specs.BTreeMap.{get_by_text}
use Rattle.mix_io.specs.declared.os_files.OsFiles.{OsFiles}
use Rattle.mix_io.specs.declared.std_sink.StdSink.{StdSink}
use Rattle.mix_io.specs.Views.{FilesView, SinkView}

-- what the files of the system mean: they tell no contents, count faults for all paths together, and know the furthest end of each path
abbrev pub os_files_view : OsFiles → FilesView
os_files_view f = record { told = λ _. None; faults = λ _. f.faults; furthest = λ path. unwrap_or (get_by_text f.ends path) 0 }

-- what standard output means: it does not tell what was written
abbrev pub std_sink_view : StdSink → SinkView
std_sink_view s = record { written = None; faults = s.faults }
