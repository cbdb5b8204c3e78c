-- A line's source as it is found, and as it is spelled.
use Rattle.std.proofs.Common.{◌≡◌, ◌+◌, ◌∙◌, ℕ, Bool, true, false, cond, ◌&&◌, IsTrue, List, [], ◌∷◌, ◌++◌, Option, Some, None, option_map, option_and_then, refl, sym, ap, subst, length, take, drop, codes, MatchOption}
use Rattle.std.proofs.lemmas.List.{take-append-drop}
use Rattle.std.specs.Str.{IsUtf8, bytes_eq}
use Rattle.mix_base.proofs.Choices.{and_parts, some_is, none_some}
use Rattle.mix_tree.specs.Names.{IsName}
use Rattle.mix_tree.specs.LabelGrammar.{SpellsLabel}
use Rattle.mix_tree.specs.LabelMachine.{Seen, got, unexpected, ends, start, seen_from}
use Rattle.mix_tree.specs.LabelReads.{seen_of}
use Rattle.mix_tree.specs.declared.label_read.LabelRead.{LabelRead}
use Rattle.mix_tree.specs.declared.label_read.LabelRead.TheVariants.{Got, Unexpected, Ends}
use Rattle.mix_tree.proofs.LabelSeen.{Saw, saw}
use Rattle.mix_tree.proofs.LabelSound.{label_spelled}
use Rattle.mix_tree.proofs.LabelAnswers.{run_writes_some}
use Rattle.mix_words.specs.Words.{words_of, ends_word}
use Rattle.mix_catalog.specs.declared.form.Form.{Form}
use Rattle.mix_catalog.specs.declared.form.Form.TheVariants as form
use Rattle.mix_catalog.specs.declared.form.Prefix.{Prefix}
use Rattle.mix_catalog.specs.declared.source.SourceSpec.{SourceSpec}
use Rattle.mix_catalog.specs.declared.source.SourceKind.{SourceKind}
use Rattle.mix_catalog.specs.declared.source.SourceKind.TheVariants.{Bracket, Csv, Table, Remote, Json, View}
use Rattle.mix_catalog.specs.Columns as columns
use Rattle.mix_catalog.specs.Columns.{SpellsColumns, columns_at, columns_from, ended}
use Rattle.mix_catalog.specs.Forms.{is_source_name, form_of, prefix_with, prefix_of, cutting_of, chunk_of, chunk_after, is_columns_word}
use Rattle.mix_words.specs.Places.{ends_blank, place_of_word}
use Rattle.mix_catalog.specs.Seen.{bracket, csv, table, remote, json, view, columns_seen, csv_at, form_after, source_after, source_seen, source_at, line_source}
use Rattle.mix_catalog.specs.Remotes.{remote_of}
use Rattle.mix_catalog.specs.Tables.{table_of}
use Rattle.mix_catalog.specs.Grammar.{AreTableWords, SpellsCutting, SpellsBetween, SpellsAfter, Spells, SpellsNone, form_in, form_word, file_of, prefix_words}
use Rattle.mix_catalog.proofs.NameText.{name_tested, name_passes}
use Rattle.mix_words.proofs.WordPlaces.{place_apart}
use Rattle.mix_catalog.proofs.Between.{between_placed}
use Rattle.mix_catalog.proofs.Seens.{spelling_begins, spelling_seen, word_end_stops}
use Rattle.mix_catalog.proofs.ColumnsSpelled.{columns_begin, spelled_seen, seen_spelled}
use Rattle.mix_catalog.proofs.Cuttings.{same_bytes, mapped_some, cutting_found, cutting_given, chunk_found, chunk_given, words_found, words_given, columns_word}
use Rattle.mix_catalog.proofs.Remotes.{IsRemote, remote_found, remote_given}
use Rattle.mix_catalog.proofs.Tables.{table_found, table_given}

-- the form of a word that is not the bracket form's
abbrev not_bracket : List ℕ → Option Form
not_bracket word =
    cond (bytes_eq word (codes "csv")) (Some form.Csv)
    (cond (bytes_eq word (codes "table")) (Some form.Table) (cond (bytes_eq word (codes "remote")) (Some form.Remote) (cond (bytes_eq word (codes "json")) (Some form.Json) (cond (bytes_eq word (codes "view")) (Some form.View) None))))

-- the word that names a form
form_of-found : (word : List ℕ) (f : Form) → form_of word ≡ Some f → word ≡ form_word f
form_of-found word f e = by_bracket (bytes_eq word (codes "bracket")) refl e
  where
    by_view : (t : Bool) → bytes_eq word (codes "view") ≡ t → cond t (Some form.View) None ≡ Some f → word ≡ form_word f
    by_view true h g = same_bytes word (codes "view") h ∙ ap form_word (some_is form.View f g)
    by_view false h g = none_some f g

    by_json : (t : Bool) → bytes_eq word (codes "json") ≡ t → cond t (Some form.Json) (cond (bytes_eq word (codes "view")) (Some form.View) None) ≡ Some f → word ≡ form_word f
    by_json true h g = same_bytes word (codes "json") h ∙ ap form_word (some_is form.Json f g)
    by_json false h g = by_view (bytes_eq word (codes "view")) refl g

    by_remote : (t : Bool) → bytes_eq word (codes "remote") ≡ t → cond t (Some form.Remote) (cond (bytes_eq word (codes "json")) (Some form.Json) (cond (bytes_eq word (codes "view")) (Some form.View) None)) ≡ Some f → word ≡ form_word f
    by_remote true h g = same_bytes word (codes "remote") h ∙ ap form_word (some_is form.Remote f g)
    by_remote false h g = by_json (bytes_eq word (codes "json")) refl g

    by_table : (t : Bool) → bytes_eq word (codes "table") ≡ t
        → cond t (Some form.Table) (cond (bytes_eq word (codes "remote")) (Some form.Remote) (cond (bytes_eq word (codes "json")) (Some form.Json) (cond (bytes_eq word (codes "view")) (Some form.View) None))) ≡ Some f → word ≡ form_word f
    by_table true h g = same_bytes word (codes "table") h ∙ ap form_word (some_is form.Table f g)
    by_table false h g = by_remote (bytes_eq word (codes "remote")) refl g

    by_csv : (t : Bool) → bytes_eq word (codes "csv") ≡ t
        → cond t (Some form.Csv) (cond (bytes_eq word (codes "table")) (Some form.Table) (cond (bytes_eq word (codes "remote")) (Some form.Remote) (cond (bytes_eq word (codes "json")) (Some form.Json) (cond (bytes_eq word (codes "view")) (Some form.View) None))))
        ≡ Some f
        → word ≡ form_word f
    by_csv true h g = same_bytes word (codes "csv") h ∙ ap form_word (some_is form.Csv f g)
    by_csv false h g = by_table (bytes_eq word (codes "table")) refl g

    by_bracket : (t : Bool) → bytes_eq word (codes "bracket") ≡ t → cond t (Some form.Bracket) (not_bracket word) ≡ Some f → word ≡ form_word f
    by_bracket true h g = same_bytes word (codes "bracket") h ∙ ap form_word (some_is form.Bracket f g)
    by_bracket false h g = by_csv (bytes_eq word (codes "csv")) refl g

-- the words are those before FILE that say what the prefix says
record PrefixIs (words : List (List ℕ)) (prefix : Prefix) : Type 0 where
  pub are : words ≡ prefix_words prefix.name prefix.form
  pub named : IsName prefix.name

-- three words that say a name and a form are source, the name and the word of the form
three_words : (a b c : List ℕ) (prefix : Prefix) (t : Bool) → (bytes_eq a (codes "source") && is_source_name b) ≡ t → cond t (option_map (prefix_with b) (form_of c)) None ≡ Some prefix → PrefixIs (a ∷ b ∷ c ∷ []) prefix
three_words a b c prefix true h e =
    let parts = and_parts (bytes_eq a (codes "source")) (is_source_name b) h in
    let m = mapped_some (prefix_with b) (form_of c) prefix e in
    let are : a ∷ b ∷ c ∷ [] ≡ prefix_words b m.0 = ap (λ w. w ∷ b ∷ c ∷ []) (same_bytes a (codes "source") parts.0) ∙ ap (λ w. codes "source" ∷ b ∷ w ∷ []) (form_of-found c m.0 m.1) in
    subst (PrefixIs (a ∷ b ∷ c ∷ [])) m.2 (record { are = are; named = name_tested b parts.1 })
three_words a b c prefix false h e = none_some prefix e

-- words that give a prefix are those before FILE that say it
prefix_of-found : (words : List (List ℕ)) (prefix : Prefix) → prefix_of words ≡ Some prefix → PrefixIs words prefix
prefix_of-found [] prefix e = none_some prefix e
prefix_of-found (a ∷ []) prefix e = none_some prefix e
prefix_of-found (a ∷ b ∷ []) prefix e = none_some prefix e
prefix_of-found (a ∷ b ∷ c ∷ []) prefix e = three_words a b c prefix (bytes_eq a (codes "source") && is_source_name b) refl e
prefix_of-found (a ∷ b ∷ c ∷ d ∷ words) prefix e = none_some prefix e

-- the words before FILE of a name and a form give the prefix of both
prefix_of-given : (name : List ℕ) (f : Form) → IsName name → prefix_of (prefix_words name f) ≡ Some (prefix_with name f)
prefix_of-given name form.Bracket named = let passes : is_source_name name ≡ true = name_passes name named in rw passes refl
prefix_of-given name form.Csv named = let passes : is_source_name name ≡ true = name_passes name named in rw passes refl
prefix_of-given name form.Table named = let passes : is_source_name name ≡ true = name_passes name named in rw passes refl
prefix_of-given name form.Remote named = let passes : is_source_name name ≡ true = name_passes name named in rw passes refl
prefix_of-given name form.Json named = let passes : is_source_name name ≡ true = name_passes name named in rw passes refl
prefix_of-given name form.View named = let passes : is_source_name name ≡ true = name_passes name named in rw passes refl

-- what stands after a file is that of the source found of it, which is of the form
record AfterIs (f : Form) (name file after : List ℕ) (s : SourceSpec) : Type 0 where
  pub name_is : s.name ≡ name
  pub file_is : file_of s.kind ≡ file
  pub form_is : form_in s.kind ≡ f
  pub spells : SpellsAfter s.chunk s.kind after

-- a CSV source whose columns are found at a place is spelled
csv_found : (name file after : List ℕ) (at : ℕ) (s : SourceSpec) → place_of_word 1 after ≡ Some at → csv_at name file after at ≡ Some s → AfterIs form.Csv name file after s
csv_found name file after at s place e = by_word (is_columns_word (words_of (take at after))) refl e
  where
    by_columns : (o : Option columns.Seen) → columns_at after at ≡ o → is_columns_word (words_of (take at after)) ≡ true → columns_seen name file o ≡ Some s → AfterIs form.Csv name file after s
    by_columns None c w f = none_some s f
    by_columns (Some seen) c w f =
        let m = mapped_some (csv name file seen.labels) (chunk_after seen.after) s f in
        let cut = chunk_found seen.after m.0 m.1 in
        let found = seen_spelled (drop at after) at seen c in
        let spelled : SpellsBetween (codes "columns" ∷ []) (SpellsColumns seen.labels) (SpellsCutting m.0 false) after = record {
          prefix = take at after;
          spelling = found.spelling;
          after = seen.after;
          parts = sym (take-append-drop at after) ∙ ap (λ r. take at after ++ r) found.parts;
          words_are = columns_word (words_of (take at after)) w;
          blank_before = place_apart after 1 at place;
          spelled = subst (λ ls. SpellsColumns ls found.spelling) (sym found.are) found.spells;
          blank_after = cut.0;
          rest = cut.1;
        } in
        subst (AfterIs form.Csv name file after) m.2 (record { name_is = refl; file_is = refl; form_is = refl; spells = spelled })

    by_word : (t : Bool) → is_columns_word (words_of (take at after)) ≡ t → cond t (columns_seen name file (columns_at after at)) None ≡ Some s → AfterIs form.Csv name file after s
    by_word true w f = by_columns (columns_at after at) refl w f
    by_word false w f = none_some s f

-- a source that is found after its file is spelled there
after_found : (f : Form) (name file after : List ℕ) (s : SourceSpec) → form_after f name file after ≡ Some s → AfterIs f name file after s
after_found form.Bracket name file after s e =
    let m = mapped_some (bracket name file) (cutting_of (words_of after)) s e in
    let spells : SpellsCutting m.0.chunk m.0.deep after = cutting_found after m.0 m.1 in
    subst (AfterIs form.Bracket name file after) m.2 (record { name_is = refl; file_is = refl; form_is = refl; spells = spells })
after_found form.Csv name file after s e = at_place (place_of_word 1 after) refl e
  where
    at_place : (o : Option ℕ) → place_of_word 1 after ≡ o → option_and_then (csv_at name file after) o ≡ Some s → AfterIs form.Csv name file after s
    at_place None h f = none_some s f
    at_place (Some at) h f = csv_found name file after at s h f
after_found form.Table name file after s e =
    let m = mapped_some (table name file) (table_of (words_of after)) s e in
    let spells : AreTableWords m.0.chunk m.0.table m.0.key m.0.columns (words_of after) = table_found (words_of after) m.0 m.1 in
    subst (AfterIs form.Table name file after) m.2 (record { name_is = refl; file_is = refl; form_is = refl; spells = spells })
after_found form.Remote name file after s e =
    let m = mapped_some (remote name file) (remote_of after) s e in
    let spells : IsRemote after m.0 = remote_found after m.0 m.1 in
    subst (AfterIs form.Remote name file after) m.2 (record { name_is = refl; file_is = refl; form_is = refl; spells = (refl, spells) })
after_found form.Json name file after s e =
    let m = mapped_some (json name file) (chunk_of (words_of after)) s e in
    let spells : SpellsCutting m.0 false after = words_found after m.0 m.1 in
    subst (AfterIs form.Json name file after) m.2 (record { name_is = refl; file_is = refl; form_is = refl; spells = spells })
after_found form.View name file after s e = by_words (words_of after) refl e
  where
    by_words : (ws : List (List ℕ)) → words_of after ≡ ws → view name file ws ≡ Some s → AfterIs form.View name file after s
    by_words [] h f = subst (AfterIs form.View name file after) (some_is _ s f) (record { name_is = refl; file_is = refl; form_is = refl; spells = (refl, h) })
    by_words (w ∷ ws) h f = none_some s f

-- a source that is found where FILE begins is spelled
found_is_spelled : (line prefix x : List ℕ) (at : ℕ) (o : Option Prefix) (seen : Seen) (s : SourceSpec) → IsUtf8 line → line ≡ prefix ++ x → IsTrue (ends_blank true prefix) → prefix_of (words_of prefix) ≡ o
    → Saw start at x seen → source_seen o seen ≡ Some s → Spells line s
found_is_spelled line prefix x at None seen s utf8 parts blank said saw e = none_some s e
found_is_spelled line prefix x at (Some f) (unexpected j) s utf8 parts blank said saw e = none_some s e
found_is_spelled line prefix x at (Some f) ends s utf8 parts blank said saw e = none_some s e
found_is_spelled line prefix x at (Some f) (got file end after) s utf8 parts blank said saw e = by_end (ends_word after) refl e
  where
    prefix_is : PrefixIs (words_of prefix) f
    prefix_is = prefix_of-found (words_of prefix) f said

    label_is : SpellsLabel saw.spelled file
    label_is = label_spelled saw.spelled saw.spot file (run_writes_some saw.spelled saw.spot saw.runs) saw.label

    by_end : (t : Bool) → ends_word after ≡ t → cond t (form_after f.form f.name file after) None ≡ Some s → Spells line s
    by_end false h g = none_some s g
    by_end true h g =
        let b = after_found f.form f.name file after s g in
        let spelled : SpellsBetween (prefix_words s.name (form_in s.kind)) (λ y. SpellsLabel y (file_of s.kind)) (SpellsAfter s.chunk s.kind) line = record {
          prefix = prefix;
          spelling = saw.spelled;
          after = after;
          parts = parts ∙ ap (λ r. prefix ++ r) saw.parts;
          words_are = prefix_is.are ∙ ap (λ n. prefix_words n f.form) (sym b.name_is) ∙ ap (prefix_words s.name) (sym b.form_is);
          blank_before = blank;
          spelled = subst (SpellsLabel saw.spelled) (sym b.file_is) label_is;
          blank_after = h;
          rest = b.spells;
        } in
        (utf8, (subst IsName (sym b.name_is) prefix_is.named, spelled))

-- a source that is found in a line is spelled there
pub found_spells : (line : List ℕ) (at : ℕ) (s : SourceSpec) → IsUtf8 line → IsTrue (ends_blank true (take at line)) → source_at line at ≡ Some s → Spells line s
found_spells line at s utf8 blank e =
    found_is_spelled line (take at line) (drop at line) at (prefix_of (words_of (take at line))) (seen_from start at (drop at line)) s utf8 (sym (take-append-drop at line)) blank refl
    (saw (drop at line) start at) e

-- a CSV source that is spelled after its file is found there
csv_given : (name file : List ℕ) (labels : List (List ℕ)) (chunk : ℕ) (after : List ℕ) → SpellsBetween (codes "columns" ∷ []) (SpellsColumns labels) (SpellsCutting chunk false) after
    → form_after form.Csv name file after ≡ Some (csv name file labels chunk)
csv_given name file labels chunk after h =
    let at = length h.prefix in
    let p = between_placed (codes "columns" ∷ []) (SpellsColumns labels) (SpellsCutting chunk false) after h (columns_begin labels h.spelling h.spelled) in
    let seen : columns_at after at ≡ Some (ended labels (at + length h.spelling) h.after) = ap (columns_from [] start at) p.rest_is ∙ spelled_seen labels h.spelling h.after [] at h.spelled h.blank_after in
    ap (option_and_then (csv_at name file after)) p.place
    ∙ ap (λ ws. cond (is_columns_word ws) (columns_seen name file (columns_at after at)) None) (ap words_of p.prefix_is ∙ h.words_are)
    ∙ ap (columns_seen name file) seen ∙ ap (option_map (csv name file labels)) (chunk_given h.after chunk h.blank_after h.rest)

-- a source of each kind that is spelled after its file is found there
after_given : (name : List ℕ) (chunk : ℕ) (kind : SourceKind) (after : List ℕ) → SpellsAfter chunk kind after
    → form_after (form_in kind) name (file_of kind) after ≡ Some (record { name = name; chunk = chunk; kind = kind })
after_given name chunk (Bracket file deep) after h = ap (option_map (bracket name file)) (cutting_given after chunk deep h)
after_given name chunk (Csv file labels) after h = csv_given name file labels chunk after h
after_given name chunk (Table file of key columns) after h = ap (option_map (table name file)) (table_given chunk of key columns (words_of after) h)
after_given name chunk (Remote replies requests number) after (one, h) =
    ap (option_map (remote name replies)) (remote_given after requests number h) ∙ ap (λ n. Some (record { name = name; chunk = n; kind = Remote replies requests number })) (sym one)
after_given name chunk (Json file) after h = ap (option_map (json name file)) (words_given after chunk h)
after_given name chunk (View file) after (one, none) = ap (view name file) none ∙ ap (λ n. Some (record { name = name; chunk = n; kind = View file })) (sym one)

-- a source that is spelled in a line is found there
pub spelled_found : (line : List ℕ) (s : SourceSpec) → Spells line s → line_source line ≡ Some s
spelled_found line s (utf8, (named, h)) =
    let file = file_of s.kind in
    let words = prefix_words s.name (form_in s.kind) in
    let at = length h.prefix in
    let p = between_placed words (λ x. SpellsLabel x file) (SpellsAfter s.chunk s.kind) line h (spelling_begins h.spelling file h.spelled) in
    let prefix : prefix_of (words_of (take at line)) ≡ Some (prefix_with s.name (form_in s.kind)) = ap prefix_of (ap words_of p.prefix_is ∙ h.words_are) ∙ prefix_of-given s.name (form_in s.kind) named in
    let seen : seen_from start at (drop at line) ≡ got file (at + length h.spelling) h.after =
    ap (seen_from start at) p.rest_is ∙ spelling_seen h.spelling h.after file at h.spelled (word_end_stops h.after h.blank_after) in
    ap (option_and_then (source_at line)) p.place ∙ ap (λ o. source_seen o (seen_from start at (drop at line))) prefix ∙ ap (source_seen (Some (prefix_with s.name (form_in s.kind)))) seen
    ∙ ap (λ t. cond t (form_after (form_in s.kind) s.name file h.after) None) h.blank_after ∙ after_given s.name s.chunk s.kind h.after h.rest

-- no line spells two sources
pub one_source : (line : List ℕ) (s t : SourceSpec) → Spells line s → Spells line t → s ≡ t
one_source line s t h k = some_is s t (sym (spelled_found line s h) ∙ spelled_found line t k)

-- a line in which no place is found spells none
pub no_place : (line : List ℕ) → None ≡ place_of_word 3 line → SpellsNone line
no_place line e s h = none_some s (ap (option_and_then (source_at line)) e ∙ spelled_found line s h)

-- what is found in a line decides which source it spells
pub found_decides : (line : List ℕ) (at : ℕ) (o : Option SourceSpec) → IsUtf8 line → IsTrue (ends_blank true (take at line)) → Some at ≡ place_of_word 3 line → o ≡ source_at line at
    → MatchOption o (SpellsNone line) (Spells line)
found_decides line at None utf8 blank place e = λ s h. none_some s (e ∙ ap (option_and_then (source_at line)) place ∙ spelled_found line s h)
found_decides line at (Some s) utf8 blank place e = found_spells line at s utf8 blank (sym e)

-- nothing is found where no label is read
pub unread_is_none : (line : List ℕ) (o : Option Prefix) (seen : Seen) (read : LabelRead) → seen ≡ seen_of line read → ((l : List ℕ) (end : ℕ) → read ≡ Got l end → ⊥) → None ≡ source_seen o seen
unread_is_none line o seen (Got l end) e never = absurd (never l end refl)
unread_is_none line None seen (Unexpected at) e never = refl
unread_is_none line (Some prefix) seen (Unexpected at) e never = sym (ap (source_seen (Some prefix)) e)
unread_is_none line None seen Ends e never = refl
unread_is_none line (Some prefix) seen Ends e never = sym (ap (source_seen (Some prefix)) e)

-- what is read before FILE, there and after it is what is found
pub read_is_found : (line : List ℕ) (at end : ℕ) (prefix : Prefix) (file : List ℕ) (found : Option SourceSpec) → Some prefix ≡ prefix_of (words_of (take at line)) → seen_from start at (drop at line) ≡ got file end (drop end line)
    → found ≡ source_after prefix file (drop end line) → found ≡ source_at line at
read_is_found line at end prefix file found said seen cut =
    cut ∙ sym (ap (λ o. source_seen o (seen_from start at (drop at line))) (sym said) ∙ ap (source_seen (Some prefix)) seen)
