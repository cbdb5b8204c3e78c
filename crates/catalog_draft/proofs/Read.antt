-- The texts that are written are catalogs.
use Rattle.std.proofs.Common.{◌≡◌, ◌∙◌, inl, inr, ◌<◌, ◌==◌, ℕ, Bool, true, false, cond, nat_lt, nat_le, ◌||◌, not, List, [], ◌∷◌, ◌++◌, length, map, Option, Some, None, is_some, Result, Ok, Err, refl, ap, sym, subst, append_assoc, arith, codes}
use Rattle.std.proofs.lemmas.Bool.Decides.{nat_tests}
use Rattle.std.proofs.lemmas.List.{length-map}
use Rattle.std.specs.List.{filter, find}
use Rattle.std.specs.Str.{IsUtf8}
use Rattle.csv.specs.Records.{AllText}
use Rattle.mix_words.specs.Words.{is_sql_name}
use Rattle.mix_catalog.specs.declared.column.Column.{Column}
use Rattle.mix_catalog.specs.declared.source.SourceSpec.{SourceSpec}
use Rattle.mix_catalog.specs.Columns.{are_apart}
use Rattle.mix_catalog.specs.Grammar.{columns_of, is_view}
use Rattle.mix_catalog.specs.Sources.{Accepts, Adds, IsCatalog, IsTakenBy, has_view, source_named}
use Rattle.schema_keep.specs.declared.shape.TableShape.{TableShape}
use Rattle.catalog_draft.specs.declared.reasons.Unsaid.{Unsaid}
use Rattle.catalog_draft.specs.declared.reasons.Unsaid.TheVariants.{NotUtf8, NotRead, Name, Key, NoColumns, ManyColumns, ColumnTwice, NameTwice, TooMany}
use Rattle.catalog_draft.specs.Header.{csv_source, header_line, line_or_note}
use Rattle.catalog_draft.specs.Lines.{column_note, csv_line, table_line, table_note, text_of}
use Rattle.catalog_draft.specs.Reasons.{reason_text, unsaid_of}
use Rattle.catalog_draft.specs.Tables.{can_name, draft, keyed, lines_for, named, or_no_key, sources_after, table_source, tables_lines, tables_sources, tables_text, unless_unsaid, unnamed}
use Rattle.mix_tree.specs.Spelling.{spelling}
use Rattle.catalog_draft.proofs.Bytes.{spelling_no_lf}
use Rattle.catalog_draft.proofs.LineTexts.{AreLines, IsLine, line_after, lines_after, lines_again}
use Rattle.catalog_draft.proofs.Said.{Each, IsNamed, right5, csv_is_line, csv_spells, table_is_line, table_spells}

-- an option without a value is none
none_is : {A : Type 0} (o : Option A) → is_some o ≡ false → o ≡ None
none_is None h = refl
none_is (Some a) h = cc

-- what the tests come to of which none is failed
passed : (a b c d e : Bool)
    → cond a (Some NoColumns) (cond b (Some ManyColumns) (cond c (cond d (Some NameTwice) (cond e (Some TooMany) None)) (Some ColumnTwice))) ≡ None
    → (a ≡ false) × (b ≡ false) × (c ≡ true) × (d ≡ false) × (e ≡ false)
passed true b c d e h = cc
passed false true c d e h = cc
passed false false false d e h = cc
passed false false true true e h = cc
passed false false true false true h = cc
passed false false true false false h = (refl, refl, refl, refl, refl)

-- a source of a good chunk that no test fails may stand after others, and has a column
taken : (before : List SourceSpec) (s : SourceSpec) → s.chunk ≡ 100 → unsaid_of before s ≡ None → IsTakenBy before s × (0 < length (columns_of s.kind))
taken before s chunk h =
    let count = length (columns_of s.kind) in
    let tests = passed (count == 0) (nat_lt 200 count) (are_apart (columns_of s.kind)) (is_some (source_named before s.name)) (nat_le 32 (length before)) h in
    let first : (count == 0) ≡ false = tests.0 in
    let second : nat_lt 200 count ≡ false = tests.1 in
    let last : nat_le 32 (length before) ≡ false = tests.4 in (
      record {
        chunk = (omega (arith, chunk), omega (arith, chunk));
        columns = ((grind (arith, nat_tests)), tests.2);
        name = none_is (source_named before s.name) tests.3;
        room = grind (arith, nat_tests);
      },
      grind (arith, nat_tests),
    )

-- fields that are text are UTF-8 each
each_text : (fields : List (List ℕ)) → AllText fields → Each IsUtf8 fields
unfolding AllText
each_text [] h = tt
each_text (f ∷ fs) h = (h.0, each_text fs h.1)

-- a line that adds a source to none is a catalog
one_line : (line : List ℕ) (s : SourceSpec) → IsLine line → Adds [] line (s ∷ []) → IsCatalog (text_of (line ∷ [])) (s ∷ [])
one_line line s is adds = subst (λ ls. Accepts [] ls (s ∷ [])) (sym (lines_again (line ∷ []) (is, tt))) (s ∷ [], adds, refl)

-- the line for a header is a catalog
pub header_is_read : (path : List ℕ) (header : List (List ℕ)) → IsUtf8 path → AllText header → unsaid_of [] (csv_source path header) ≡ None
    → IsCatalog (text_of (header_line path header ∷ [])) (csv_source path header ∷ [])
header_is_read path header u text h =
    let s = csv_source path header in
    let t = taken [] s refl h in
    let line : header_line path header ≡ csv_line path header = ap (line_or_note path header) h in
    subst (λ l. IsCatalog (text_of (l ∷ [])) (s ∷ [])) (sym line)
    (one_line (csv_line path header) s (csv_is_line path header) (inr (refl, s, (csv_spells path header u (each_text header text) t.1, refl), t.0, refl)))

-- lines that are accepted, with accepted ones after them, are accepted
accepted_on : (before middle after : List SourceSpec) (xs ys : List (List ℕ)) → Accepts before xs middle → Accepts middle ys after → Accepts before (xs ++ ys) after
accepted_on before middle after [] ys h k = subst (λ b. Accepts b ys after) h k
accepted_on before middle after (x ∷ xs) ys h k = (h.0, h.1, accepted_on h.0 middle after xs ys h.2 k)

-- the lines of columns that are left out add nothing
notes_pass : (before : List SourceSpec) (table : List ℕ) (cs : List Column) → Accepts before (map (λ (c : Column). column_note table c.name) cs) before
notes_pass before table [] = refl
notes_pass before table (c ∷ cs) = (before, inl (refl, refl), notes_pass before table cs)

-- the words of a reason end as a line does
reason_ends : (why : Unsaid) → IsLine (codes ": " ++ reason_text why)
reason_ends NotUtf8 = (refl, omega arith, refl)
reason_ends NotRead = (refl, omega arith, refl)
reason_ends Name = (refl, omega arith, refl)
reason_ends Key = (refl, omega arith, refl)
reason_ends NoColumns = (refl, omega arith, refl)
reason_ends ManyColumns = (refl, omega arith, refl)
reason_ends ColumnTwice = (refl, omega arith, refl)
reason_ends NameTwice = (refl, omega arith, refl)
reason_ends TooMany = (refl, omega arith, refl)

-- what says why no line says a table is a line
note_is_line : (name : List ℕ) (why : Unsaid) → IsLine (table_note name why)
note_is_line name why = subst IsLine (sym (append_assoc (codes "# table " ++ spelling name) (codes ": ") (reason_text why) ∙ append_assoc (codes "# table ") (spelling name) (codes ": " ++ reason_text why))) (line_after (codes "# table ") _ refl (line_after (spelling name) _ (spelling_no_lf name) (reason_ends why)))

-- the parts of what says that a column is left out
column_are : (table column : List ℕ)
    → codes "# table " ++ (spelling table ++ (codes ": " ++ (spelling column ++ codes " is no column's name that a catalog can say"))) ≡ column_note table column
column_are table column = sym (right5 (codes "# table ") (spelling table) (codes ": ") (spelling column) (codes " is no column's name that a catalog can say"))

-- what says that columns are left out are lines
notes_are_lines : (table : List ℕ) (cs : List Column) → AreLines (map (λ (c : Column). column_note table c.name) cs)
notes_are_lines table [] = tt
notes_are_lines table (c ∷ cs) = (
  subst IsLine (column_are table c.name) (line_after (codes "# table ") _ refl (line_after (spelling table) _ (spelling_no_lf table) (line_after (codes ": ") _ refl
      (line_after (spelling c.name) (codes " is no column's name that a catalog can say") (spelling_no_lf c.name) (refl, omega arith, refl))))),
  notes_are_lines table cs,
)

-- the columns that a catalog can name are named
each_named : (cs : List Column) → Each IsNamed (filter can_name cs)
each_named [] = tt
each_named (c ∷ cs) = by_case (can_name c) refl (each_named cs)
  where
    by_case : (t : Bool) → can_name c ≡ t → Each IsNamed (filter can_name cs) → Each IsNamed (cond t (c ∷ filter can_name cs) (filter can_name cs))
    by_case true e more = (e, more)
    by_case false e more = more

-- the first that passes a test passes it
found_passes : (p : List ℕ → Bool) (xs : List (List ℕ)) (x : List ℕ) → find p xs ≡ Some x → p x ≡ true
found_passes p [] x h = cc
found_passes p (y ∷ ys) x h = by_case (p y) refl (found_passes p ys x) h
  where
    by_case : (t : Bool) → p y ≡ t → (find p ys ≡ Some x → p x ≡ true) → cond t (Some y) (find p ys) ≡ Some x → p x ≡ true
    by_case true e more f = let same : y ≡ x = cc in subst (λ z. p z ≡ true) same e
    by_case false e more f = more f

-- what a draft with a key rests on
drafted : (path : List ℕ) (before : List SourceSpec) (t : TableShape) (key : List ℕ) → draft path before t ≡ Ok key
    → (is_sql_name t.name ≡ true) × (is_sql_name key ≡ true) × (unsaid_of before (table_source path t key) ≡ None)
drafted path before t key h = by_read t.is_read h
  where
    by_unsaid : (k : List ℕ) (o : Option Unsaid) → unless_unsaid k o ≡ Ok key → (k ≡ key) × (o ≡ None)
    by_unsaid k None e = (cc, refl)
    by_unsaid k (Some why) e = cc

    by_key : (o : Option (List ℕ)) → find is_sql_name t.keys ≡ o → is_sql_name t.name ≡ true → keyed path before t (or_no_key o) ≡ Ok key
        → (is_sql_name t.name ≡ true) × (is_sql_name key ≡ true) × (unsaid_of before (table_source path t key) ≡ None)
    by_key None f n e = cc
    by_key (Some k) f n e =
        let u = by_unsaid k (unsaid_of before (table_source path t k)) e in
        (n, subst (λ z. is_sql_name z ≡ true) u.0 (found_passes is_sql_name t.keys k f), subst (λ z. unsaid_of before (table_source path t z) ≡ None) u.0 u.1)

    by_name : (n : Bool) → is_sql_name t.name ≡ n → keyed path before t (cond n (or_no_key (find is_sql_name t.keys)) (Err Name)) ≡ Ok key
        → (is_sql_name t.name ≡ true) × (is_sql_name key ≡ true) × (unsaid_of before (table_source path t key) ≡ None)
    by_name true n e = by_key (find is_sql_name t.keys) refl n e
    by_name false n e = cc

    by_read : (r : Bool) → keyed path before t (cond r (cond (is_sql_name t.name) (or_no_key (find is_sql_name t.keys)) (Err Name)) (Err NotRead)) ≡ Ok key
        → (is_sql_name t.name ≡ true) × (is_sql_name key ≡ true) × (unsaid_of before (table_source path t key) ≡ None)
    by_read true e = by_name (is_sql_name t.name) refl e
    by_read false e = cc

-- no source is a view after one that is none
no_view_more : (before : List SourceSpec) (s : SourceSpec) → has_view before ≡ false → is_view s.kind ≡ false → has_view (before ++ s ∷ []) ≡ false
no_view_more [] s h e = rw e refl
no_view_more (b ∷ before) s h e = by_case (is_view b.kind) (λ k. no_view_more before s k e) h
  where
    by_case : (t : Bool) → (has_view before ≡ false → has_view (before ++ s ∷ []) ≡ false) → (t || has_view before) ≡ false → (t || has_view (before ++ s ∷ [])) ≡ false
    by_case true more k = cc
    by_case false more k = more k

-- what the lines of a table come to, after sources of which none is a view
table_adds : (path : List ℕ) (before : List SourceSpec) (t : TableShape) (d : Result (List ℕ) Unsaid) → draft path before t ≡ d → IsUtf8 path → has_view before ≡ false
    → Accepts before (lines_for path t d) (sources_after path before t d) × AreLines (lines_for path t d) × (has_view (sources_after path before t d) ≡ false)
table_adds path before t (Err why) e u none = ((before, inl (refl, refl), refl), (note_is_line t.name why, tt), none)
table_adds path before t (Ok key) e u none =
    let d = drafted path before t key e in
    let s = table_source path t key in
    let k = taken before s refl d.2 in
    let columns = each_named t.columns in
    let some = subst (λ n. 0 < n) (length-map (named t) (λ (c : Column). c.name)) k.1 in
    let adds : Adds before (table_line path t.name key (named t)) (before ++ s ∷ []) = inr (refl, s, (table_spells path t key u d.0 d.1 columns some, ap not none), k.0, refl) in (
      accepted_on before before (before ++ s ∷ []) (map (λ (c : Column). column_note t.name c.name) (unnamed t)) (table_line path t.name key (named t) ∷ []) (notes_pass before t.name (unnamed t))
          (before ++ s ∷ [], adds, refl),
      lines_after (map (λ (c : Column). column_note t.name c.name) (unnamed t)) (table_line path t.name key (named t) ∷ []) (notes_are_lines t.name (unnamed t))
          (table_is_line path t key d.0 d.1 columns, tt),
      no_view_more before s none refl,
    )

-- the lines of tables are accepted after sources of which none is a view
tables_add : (path : List ℕ) (before : List SourceSpec) (ts : List TableShape) → IsUtf8 path → has_view before ≡ false
    → Accepts before (tables_lines path before ts) (tables_sources path before ts) × AreLines (tables_lines path before ts)
tables_add path before [] u none = (refl, tt)
tables_add path before (t ∷ ts) u none =
    let d = draft path before t in
    let first = table_adds path before t d refl u none in
    let after = sources_after path before t d in
    let more = tables_add path after ts u first.2 in (
      accepted_on before after (tables_sources path after ts) (lines_for path t d) (tables_lines path after ts) first.0 more.0,
      lines_after (lines_for path t d) (tables_lines path after ts) first.1 more.1,
    )

-- the text for tables is a catalog
pub tables_are_catalogs : (path : List ℕ) (tables : List TableShape) → IsUtf8 path → IsCatalog (tables_text path tables) (tables_sources path [] tables)
tables_are_catalogs path tables u =
    let all = tables_add path [] tables u refl in
    subst (λ ls. Accepts [] ls (tables_sources path [] tables)) (sym (lines_again (tables_lines path [] tables) all.1)) all.0
