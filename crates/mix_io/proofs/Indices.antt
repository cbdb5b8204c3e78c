-- The first file of a path by its index, and the ends that stand at the indices of files.
use Rattle.std.proofs.Common.{◌≡◌, ◌<◌, ◌∙◌, ℕ, Bool, true, false, List, Some, None, if◌then◌else◌, option_map, length, get_or, slice_set, replicate, refl, sym, ap, subst, arith, not}
use Rattle.std.proofs.lemmas.List.{get_or-set_same, get_or-set_other, get_or-replicate, get_or_past}
use Rattle.std.proofs.lemmas.List.Folds.{find_at}
use Rattle.std.proofs.lemmas.List.Sums.{position_or_len_is, prefix_len_stops}
use Rattle.std.proofs.lemmas.List.Quantifiers.{position-Some}
use Rattle.std.proofs.lemmas.Option.{slice_get-get_or, slice_get_past}
use Rattle.std.proofs.lemmas.Slice.Eq.{bytes_eq-Decides}
use Rattle.std.proofs.lemmas.Grind.{common_steps}
use Rattle.std.specs.Bool.{nat_lt}
use Rattle.std.specs.List.{position, position_or_len, slice_get}
use Rattle.std.specs.Prelude.{string_bytes, cond}
use Rattle.mix_io.specs.declared.mem_files.MemFile.{MemFile}
use Rattle.mix_io.specs.declared.mem_files.MemFiles.{MemFiles}
use Rattle.mix_io.specs.Memory.{is_at, contents_at, contents_at_call, end_at, fails_at, index_at_call, next_contents, next_read}
use Rattle.mix_io.specs.Views.{FilesView, unread}

-- the first file of a path stands at the index that is found
first_index : (files : List MemFile) (path : List ℕ) (i : ℕ) (d : MemFile) → position (is_at path) files ≡ Some i → position_or_len (is_at path) files ≡ i
first_index files path i d e =
    let found = position-Some (is_at path) files i d e in
    position_or_len_is (is_at path) files i d (omega (arith, found.0)) found.2 (λ _. found.1)

-- the contents are those of the file at the index that is found
pub contents_found : (files : List MemFile) (path : List ℕ) (i : ℕ) (d : MemFile) → position (is_at path) files ≡ Some i → contents_at files path ≡ Some (get_or files i d).bytes.items
contents_found files path i d e =
    let found = position-Some (is_at path) files i d e in
    ap (option_map (λ (file : MemFile). file.bytes.items)) (find_at (is_at path) files ∙ ap (slice_get files) (first_index files path i d e) ∙ slice_get-get_or files i d found.0)

-- there are no contents where no index is found
pub contents_missing : (files : List MemFile) (path : List ℕ) → position (is_at path) files ≡ None → contents_at files path ≡ None
contents_missing files path e = ap (option_map (λ (file : MemFile). file.bytes.items)) (find_at (is_at path) files ∙ by_test (nat_lt n (length files)) refl e)
  where
    n : ℕ
    n = position_or_len (is_at path) files

    by_test : (b : Bool) → nat_lt n (length files) ≡ b → cond b (Some n) None ≡ None → slice_get files n ≡ None
    by_test true h e = absurd (cc e)
    by_test false h e = slice_get_past files n (grind arith)

-- a call that finds no file reads nothing
pub nothing_read : (fails : Bool) (files : List MemFile) (path : List ℕ) → None ≡ (if fails then None else position (is_at path) files) → (if fails then None else contents_at files path) ≡ None
nothing_read true files path e = refl
nothing_read false files path e = contents_missing files path (sym e)

-- a call that finds a file doesn't fail
pub index_read : (fails : Bool) (files : List MemFile) (path : List ℕ) (i : ℕ) → Some i ≡ (if fails then None else position (is_at path) files)
    → (fails ≡ false) × (position (is_at path) files ≡ Some i)
index_read true files path i e = absurd (cc e)
index_read false files path i e = (refl, sym e)

-- an end that is set at the index of a path's first file is the furthest end at that path
pub end_set : (files : List MemFile) (ends : List ℕ) (path : List ℕ) (i end : ℕ) (d : MemFile) → length ends ≡ length files → position (is_at path) files ≡ Some i
    → end_at files (slice_set ends i end) path ≡ end
end_set files ends path i end d same e =
    let found = position-Some (is_at path) files i d e in
    ap (λ n. get_or (slice_set ends i end) n 0) (first_index files path i d e) ∙ get_or-set_same ends i end 0 (omega (arith, found.0, same))

-- the element at the first index that passes passes
first_passes : {X : Type 0} (p : X → Bool) (xs : List X) (i : ℕ) (d : X) → i < length xs → position_or_len p xs ≡ i → p (get_or xs i d) ≡ true
first_passes p xs i d within e =
    turned (p (get_or xs i d)) (subst (λ n. not (p (get_or xs n d)) ≡ false) e (prefix_len_stops (λ x. not (p x)) xs d (omega (arith, e, within))))
  where
    turned : (b : Bool) → not b ≡ false → b ≡ true
    turned true h = refl
    turned false h = absurd (cc h)

-- where the end at one path is set, the ends at all other paths stay
pub end_kept : (files : List MemFile) (ends : List ℕ) (path other : List ℕ) (i end : ℕ) (d : MemFile) → position (is_at path) files ≡ Some i → ¬ (other ≡ path)
    → end_at files (slice_set ends i end) other ≡ end_at files ends other
end_kept files ends path other i end d e apart = get_or-set_other ends i (position_or_len (is_at other) files) end 0 (λ same. apart (one same))
  where
    found : (i < length files) × (is_at path (get_or files i d) ≡ true) × ((k : ℕ) → k < i → is_at path (get_or files k d) ≡ false)
    found = position-Some (is_at path) files i d e

    -- a file has one path
    same_path : (file : MemFile) → is_at other file ≡ true → is_at path file ≡ true → other ≡ path
    same_path file h k = sym ((bytes_eq-Decides (string_bytes file.path) other).0 h) ∙ (bytes_eq-Decides (string_bytes file.path) path).0 k

    one : position_or_len (is_at other) files ≡ i → other ≡ path
    one same = same_path (get_or files i d) (first_passes (is_at other) files i d found.0 same) found.1

-- the ends of so many files of which nothing was read
abbrev pub no_ends : ℕ → List ℕ
no_ends n = replicate n 0

-- where nothing was read there is no end
pub end_unread : (files : List MemFile) (ends : List ℕ) (path : List ℕ) → ends ≡ no_ends (length files) → end_at files ends path ≡ 0
end_unread files ends path e = ap (λ es. get_or es n 0) e ∙ by_test (nat_lt n (length files)) refl
  where
    n : ℕ
    n = position_or_len (is_at path) files

    by_test : (b : Bool) → nat_lt n (length files) ≡ b → get_or (no_ends (length files)) n 0 ≡ 0
    by_test true h = get_or-replicate (length files) n 0 0 (grind arith)
    by_test false h = get_or_past (no_ends (length files)) n 0 (grind (arith, common_steps))

-- files of which nothing was read
pub view_unread : (files : List MemFile) (ends : List ℕ) → ends ≡ no_ends (length files)
    → (let view : FilesView = record { told = contents_at files; faults = λ _. 0; furthest = end_at files ends } in view ≡ unread (contents_at files))
view_unread files ends e = λ i. record { told = contents_at files; faults = λ _. 0; furthest = λ path. end_unread files ends path e i }

-- the next read reads nothing where it finds no file
pub next_nothing : (m : MemFiles) (n : ℕ) (path : List ℕ) → n ≡ next_read m → None ≡ index_at_call m n path → next_contents m path ≡ None
next_nothing m n path e h = ap (λ k. contents_at_call m k path) (sym e) ∙ nothing_read (fails_at m n) m.files.items path h

-- the next read reads the file that it finds
pub next_something : (m : MemFiles) (n : ℕ) (path : List ℕ) (i : ℕ) (d : MemFile) → n ≡ next_read m → Some i ≡ index_at_call m n path
    → next_contents m path ≡ Some (get_or m.files.items i d).bytes.items
next_something m n path i d e h =
    let found = index_read (fails_at m n) m.files.items path i h in
    ap (λ k. contents_at_call m k path) (sym e) ∙ ap (λ b. if b then None else contents_at m.files.items path) found.0 ∙ contents_found m.files.items path i d found.1
