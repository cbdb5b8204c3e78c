-- What a disk that is only read shows.
use Rattle.std.specs.Prelude.{ℕ, List, []}
use Rattle.page_disk.specs.declared.PageDisk.{PageDisk}
use Rattle.page_disk.specs.declared.Part.{Part}
use Rattle.page_disk.specs.declared.Part.TheVariants.{Pages, Log}

-- the bytes of a log; of a file nothing is told
abbrev pub bytes_in : Part → List ℕ
bytes_in (Pages file length) = []
bytes_in (Log bytes) = bytes.items

-- the bytes that a disk shows
abbrev pub shown : PageDisk → List ℕ
shown disk = bytes_in disk.part
