-- What files and sinks mean to a caller: all that generic code may speak of.
use Rattle.std.specs.Prelude.{◌≡◌, ◌≤◌, ℕ, List, Option}

-- what files mean, path by path
pub record FilesView : Type 0 where
  -- the contents of each path, where they are told
  pub told : List ℕ → Option (List ℕ)
  -- how often reading a path has failed
  pub faults : List ℕ → ℕ
  -- the furthest end of what was read of a path
  pub furthest : List ℕ → ℕ

-- what every call keeps of files: their contents; no count of faults falls, and no furthest end
pub record KeepsFiles (old new : FilesView) : Type 0 where
  pub told : (path : List ℕ) → new.told path ≡ old.told path
  pub faults : (path : List ℕ) → old.faults path ≤ new.faults path
  pub furthest : (path : List ℕ) → old.furthest path ≤ new.furthest path

-- of no path but a given one was more read than before
abbrev pub ReadsOnly : List ℕ → FilesView → FilesView → Type 0
ReadsOnly path old new = (other : List ℕ) → ¬ (other ≡ path) → new.furthest other ≡ old.furthest other

-- what files mean that tell given contents and of which nothing was read yet
abbrev pub unread : (List ℕ → Option (List ℕ)) → FilesView
unread told = record { told = told; faults = λ _. 0; furthest = λ _. 0 }

-- what a sink means: the bytes that were written, and how often a write has failed
pub record SinkView : Type 0 where
  -- the bytes that were written, where they are told
  pub written : Option (List ℕ)
  -- how often a write has failed
  pub faults : ℕ
