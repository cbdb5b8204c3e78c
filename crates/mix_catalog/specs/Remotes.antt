-- What a remote source has after the file of its replies, as it is found: the file of its requests, and its number on the other side.
use Rattle.std.specs.Prelude.{ℕ, cond, List, Option, None, option_map, option_and_then, drop}
use Rattle.mix_tree.specs.LabelMachine.{Seen, got, unexpected, ends, start, seen_from}
use Rattle.mix_words.specs.Places.{place_of_word}
use Rattle.mix_words.specs.Words.{words_of, ends_word}
use Rattle.mix_catalog.specs.declared.remote.RemoteAfter.{RemoteAfter}
use Rattle.mix_catalog.specs.Forms.{number_word}

-- a file of requests, and a number
abbrev pub remote_with : List ℕ → ℕ → RemoteAfter
remote_with requests number = record { requests = requests; number = number }

-- the number that is written after the file of requests
abbrev pub number_after_file : List ℕ → Option ℕ
number_after_file after = cond (ends_word after) (number_word (words_of after)) None

-- the file of requests that is seen, with the number after it
abbrev pub remote_seen : Seen → Option RemoteAfter
remote_seen (got requests end after) = option_map (remote_with requests) (number_after_file after)
remote_seen (unexpected at) = None
remote_seen ends = None

-- the file of requests that begins at a place of a text, with the number after it
abbrev pub remote_at : List ℕ → ℕ → Option RemoteAfter
remote_at text at = remote_seen (seen_from start at (drop at text))

-- the file of requests and the number of a text
abbrev pub remote_of : List ℕ → Option RemoteAfter
remote_of text = option_and_then (remote_at text) (place_of_word 0 text)
