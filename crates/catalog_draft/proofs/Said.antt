-- The lines that are written spell the sources that they are for.
use Rattle.std.proofs.Common.{◌≡◌, ◌∙◌, ◌<◌, ℕ, Bool, true, false, List, [], ◌∷◌, ◌++◌, length, codes, refl, ap, sym, subst, append_assoc, arith}
use Rattle.std.proofs.lemmas.Str.{IsUtf8-append}
use Rattle.std.specs.List.{flat_map}
use Rattle.std.specs.Str.{IsUtf8}
use Rattle.mix_tree.proofs.LabelCanonical.{spelling_spells}
use Rattle.mix_tree.specs.LabelGrammar.{SpellsLabel}
use Rattle.mix_tree.specs.Names.{IsName}
use Rattle.mix_tree.specs.Spelling.{spelling}
use Rattle.mix_words.specs.Words.{is_sql_name, words_of}
use Rattle.mix_catalog.specs.declared.column.Column.{Column}
use Rattle.mix_catalog.specs.Columns.{SpellsEach}
use Rattle.mix_catalog.specs.Grammar.{AreTableWords, IsNumber, Spells, SpellsBetween, SpellsCutting, table_words}
use Rattle.mix_catalog.specs.Tables.{SpellsColumn, mark}
use Rattle.schema_keep.specs.declared.shape.TableShape.{TableShape}
use Rattle.catalog_draft.specs.Header.{csv_source}
use Rattle.catalog_draft.specs.Lines.{csv_line, line_end, listed, marked, table_line}
use Rattle.catalog_draft.specs.Names.{source_name}
use Rattle.catalog_draft.specs.Tables.{named, table_source}
use Rattle.catalog_draft.proofs.Bytes.{ascii_utf8, name_no_blank, name_no_lf, name_utf8, source_named, spelling_no_lf, spelling_utf8, sql_named}
use Rattle.catalog_draft.proofs.LineTexts.{IsLine, NoBlank, NoLf, blank_at_end, both_no_blank, both_no_lf, line_after, word_over}

-- a property holds of each member
abbrev pub Each : {C : Type 0} → (C → Type 0) → List C → Type 0
Each P [] = Unit {0}
Each P (c ∷ cs) = P c × Each P cs

-- columns of which each is spelled as one are spelled as columns, where there are some
listed_spells : {C : Type 0} (S : List ℕ → C → Type 0) (sp : C → List ℕ) (cs : List C) → Each (λ c. S (sp c) c) cs → 0 < length cs → SpellsEach S cs (listed sp cs)
listed_spells S sp [] h some = absurd (omega arith)
listed_spells S sp (c ∷ []) h some = (sp c, [], h.0, refl, refl)
listed_spells S sp (c ∷ d ∷ cs) h some =
    (sp c, flat_map (λ e. 44 ∷ sp e) (d ∷ cs), h.0, (listed sp (d ∷ cs), listed_spells S sp (d ∷ cs) h.1 (omega arith), refl), refl)

-- what holds of no bytes, of two texts one after the other where it holds of both, and of commas holds of columns where it holds of each
listed_is : {C : Type 0} (P : List ℕ → Type 0) → P [] → ((x y : List ℕ) → P x → P y → P (x ++ y)) → P (44 ∷ []) → (sp : C → List ℕ) (cs : List C) → Each (λ c. P (sp c)) cs
    → P (listed sp cs)
listed_is P none both comma sp [] h = none
listed_is P none both comma sp (c ∷ cs) h = both (sp c) (flat_map (λ d. 44 ∷ sp d) cs) h.0 (others cs h.1)
  where
    others : (ds : List _) → Each (λ d. P (sp d)) ds → P (flat_map (λ d. 44 ∷ sp d) ds)
    others [] k = none
    others (d ∷ ds) k = both (44 ∷ sp d) (flat_map (λ e. 44 ∷ sp e) ds) (both (44 ∷ []) (sp d) comma k.0) (others ds k.1)

-- 100 as it is written
hundred : IsNumber (codes "100") 100
hundred = record { digits = refl; some = omega arith; short = omega arith; means = refl }

-- the cutting at the end of each line
ends_cut : SpellsCutting 100 false line_end
ends_cut = record { digits = codes "100"; words = refl; numbered = hundred }

-- the words of a text that begins with one word and a name, with what follows them
front_words : (name after : List ℕ) → IsName name → words_of (codes "source " ++ (name ++ 32 ∷ after)) ≡ codes "source" ∷ name ∷ words_of after
front_words name after h = ap (λ ws. codes "source" ∷ ws) (word_over name after (name_no_blank name h) h.1)

-- texts one after another, gathered from the left, are gathered from the right
right3 : (a b c : List ℕ) → (a ++ b) ++ c ≡ a ++ (b ++ c)
right3 a b c = append_assoc a b c

right4 : (a b c d : List ℕ) → ((a ++ b) ++ c) ++ d ≡ a ++ (b ++ (c ++ d))
right4 a b c d = append_assoc (a ++ b) c d ∙ right3 a b (c ++ d)

pub right5 : (a b c d e : List ℕ) → (((a ++ b) ++ c) ++ d) ++ e ≡ a ++ (b ++ (c ++ (d ++ e)))
right5 a b c d e = append_assoc ((a ++ b) ++ c) d e ∙ right4 a b c (d ++ e)

right6 : (a b c d e f : List ℕ) → ((((a ++ b) ++ c) ++ d) ++ e) ++ f ≡ a ++ (b ++ (c ++ (d ++ (e ++ f))))
right6 a b c d e f = append_assoc (((a ++ b) ++ c) ++ d) e f ∙ right5 a b c d (e ++ f)

right7 : (a b c d e f g : List ℕ) → (((((a ++ b) ++ c) ++ d) ++ e) ++ f) ++ g ≡ a ++ (b ++ (c ++ (d ++ (e ++ (f ++ g)))))
right7 a b c d e f g = append_assoc ((((a ++ b) ++ c) ++ d) ++ e) f g ∙ right6 a b c d e (f ++ g)

right8 : (a b c d e f g h : List ℕ) → ((((((a ++ b) ++ c) ++ d) ++ e) ++ f) ++ g) ++ h ≡ a ++ (b ++ (c ++ (d ++ (e ++ (f ++ (g ++ h))))))
right8 a b c d e f g h = append_assoc (((((a ++ b) ++ c) ++ d) ++ e) ++ f) g h ∙ right7 a b c d e f (g ++ h)

right9 : (a b c d e f g h i : List ℕ) → (((((((a ++ b) ++ c) ++ d) ++ e) ++ f) ++ g) ++ h) ++ i ≡ a ++ (b ++ (c ++ (d ++ (e ++ (f ++ (g ++ (h ++ i)))))))
right9 a b c d e f g h i = append_assoc ((((((a ++ b) ++ c) ++ d) ++ e) ++ f) ++ g) h i ∙ right8 a b c d e f g (h ++ i)

right10 : (a b c d e f g h i j : List ℕ) → ((((((((a ++ b) ++ c) ++ d) ++ e) ++ f) ++ g) ++ h) ++ i) ++ j ≡ a ++ (b ++ (c ++ (d ++ (e ++ (f ++ (g ++ (h ++ (i ++ j))))))))
right10 a b c d e f g h i j = append_assoc (((((((a ++ b) ++ c) ++ d) ++ e) ++ f) ++ g) ++ h) i j ∙ right9 a b c d e f g h (i ++ j)

right11 : (a b c d e f g h i j k : List ℕ) → (((((((((a ++ b) ++ c) ++ d) ++ e) ++ f) ++ g) ++ h) ++ i) ++ j) ++ k ≡ a ++ (b ++ (c ++ (d ++ (e ++ (f ++ (g ++ (h ++ (i ++ (j ++ k)))))))))
right11 a b c d e f g h i j k = append_assoc ((((((((a ++ b) ++ c) ++ d) ++ e) ++ f) ++ g) ++ h) ++ i) j k ∙ right10 a b c d e f g h i (j ++ k)

-- three texts before others are one text before them
front_apart : (a b c d : List ℕ) → a ++ (b ++ (c ++ d)) ≡ (a ++ (b ++ c)) ++ d
front_apart a b c d = sym (append_assoc a (b ++ c) d ∙ ap (λ x. a ++ x) (append_assoc b c d))

-- each label is spelled canonically
each_spelled : (cs : List (List ℕ)) → Each (λ c. SpellsLabel (spelling c) c) cs
each_spelled [] = tt
each_spelled (c ∷ cs) = (spelling_spells c, each_spelled cs)

-- no label's spelling has LF
each_no_lf : (cs : List (List ℕ)) → Each (λ c. NoLf (spelling c)) cs
each_no_lf [] = tt
each_no_lf (c ∷ cs) = (spelling_no_lf c, each_no_lf cs)

-- the spellings of labels that are UTF-8 are
each_utf8 : (cs : List (List ℕ)) → Each IsUtf8 cs → Each (λ c. IsUtf8 (spelling c)) cs
each_utf8 [] h = tt
each_utf8 (c ∷ cs) h = (spelling_utf8 c h.0, each_utf8 cs h.1)

-- what stands after the file of a CSV source spells its columns and its chunk
csv_after : (columns : List (List ℕ)) → 0 < length columns
    → SpellsBetween (codes "columns" ∷ []) (SpellsEach SpellsLabel columns) (SpellsCutting 100 false) (codes " columns " ++ (listed spelling columns ++ line_end))
csv_after columns some =
    record {
      prefix = codes " columns ";
      spelling = listed spelling columns;
      after = line_end;
      parts = refl;
      words_are = refl;
      blank_before = refl;
      spelled = listed_spells SpellsLabel spelling columns (each_spelled columns) some;
      blank_after = refl;
      rest = ends_cut;
    }

-- the parts of the line of a CSV file, one after another
abbrev csv_parts : List ℕ → List (List ℕ) → List ℕ
csv_parts path columns = codes "source " ++ (source_name path ++ (codes " csv " ++ (spelling path ++ (codes " columns " ++ (listed spelling columns ++ line_end)))))

-- the line of a CSV file is made of its parts
csv_are : (path : List ℕ) (columns : List (List ℕ)) → csv_parts path columns ≡ csv_line path columns
csv_are path columns = sym (right7 (codes "source ") (source_name path) (codes " csv ") (spelling path) (codes " columns ") (listed spelling columns) line_end)

-- the line of a CSV file is UTF-8
csv_utf8 : (path : List ℕ) (columns : List (List ℕ)) → IsUtf8 path → Each IsUtf8 columns → IsUtf8 (csv_line path columns)
csv_utf8 path columns u us =
    subst IsUtf8 (csv_are path columns) (IsUtf8-append (codes "source ") _ (ascii_utf8 (codes "source ") refl)
    (IsUtf8-append (source_name path) _ (name_utf8 (source_name path) (source_named path))
    (IsUtf8-append (codes " csv ") _ (ascii_utf8 (codes " csv ") refl)
    (IsUtf8-append (spelling path) _ (spelling_utf8 path u)
    (IsUtf8-append (codes " columns ") _ (ascii_utf8 (codes " columns ") refl)
    (IsUtf8-append (listed spelling columns) line_end (listed_is IsUtf8 (ascii_utf8 [] refl) IsUtf8-append (ascii_utf8 (44 ∷ []) refl) spelling columns (each_utf8 columns us))
    (ascii_utf8 line_end refl)))))))

-- the line of a CSV file spells its source
pub csv_spells : (path : List ℕ) (columns : List (List ℕ)) → IsUtf8 path → Each IsUtf8 columns → 0 < length columns → Spells (csv_line path columns) (csv_source path columns)
csv_spells path columns u us some =
    let name = source_name path in
    let after = codes " columns " ++ (listed spelling columns ++ line_end) in (
      csv_utf8 path columns u us,
      (
        source_named path,
        subst (SpellsBetween (codes "source" ∷ name ∷ codes "csv" ∷ []) (λ x. SpellsLabel x path)
            (SpellsBetween (codes "columns" ∷ []) (SpellsEach SpellsLabel columns) (SpellsCutting 100 false))) (csv_are path columns) (record {
              prefix = codes "source " ++ (name ++ codes " csv ");
              spelling = spelling path;
              after = after;
              parts = front_apart (codes "source ") name (codes " csv ") (spelling path ++ after);
              words_are = front_words name (codes "csv ") (source_named path);
              blank_before = blank_at_end true (codes "source " ++ name) (codes " csv ");
              spelled = spelling_spells path;
              blank_after = refl;
              rest = csv_after columns some;
            }),
      ),
    )

-- the line of a CSV file is one line
pub csv_is_line : (path : List ℕ) (columns : List (List ℕ)) → IsLine (csv_line path columns)
csv_is_line path columns =
    subst IsLine (csv_are path columns) (line_after (codes "source ") _ refl (line_after (source_name path) _ (name_no_lf (source_name path) (source_named path)) (line_after (codes " csv ") _ refl
    (line_after (spelling path) _ (spelling_no_lf path) (line_after (codes " columns ") _ refl
    (line_after (listed spelling columns) line_end (listed_is NoLf refl both_no_lf refl spelling columns (each_no_lf columns)) (refl, omega arith, refl)))))))

-- a column of a table is named by an SQL name
abbrev pub IsNamed : Column → Type 0
IsNamed c = is_sql_name c.name ≡ true

-- a mark has no blank and no LF, and is ASCII
mark_inside : (b : Bool) → NoBlank (mark b) × NoLf (mark b) × IsUtf8 (mark b)
mark_inside true = (refl, refl, ascii_utf8 (codes "!") refl)
mark_inside false = (refl, refl, ascii_utf8 [] refl)

-- each column that is named by an SQL name is spelled, without blanks and LF
each_marked : (cs : List Column) → Each IsNamed cs
    → Each (λ c. SpellsColumn (marked c) c) cs × Each (λ c. NoBlank (marked c)) cs × Each (λ c. NoLf (marked c)) cs × Each (λ c. IsUtf8 (marked c)) cs
each_marked [] h = (tt, tt, tt, tt)
each_marked (c ∷ cs) h =
    let more = each_marked cs h.1 in
    let name = sql_named c.name h.0 in
    let m = mark_inside c.never_null in
    (((h.0, refl), more.0), (both_no_blank c.name (mark c.never_null) (name_no_blank c.name name) m.0, more.1), (both_no_lf c.name (mark c.never_null) (name_no_lf c.name name) m.1, more.2), (IsUtf8-append c.name (mark c.never_null) (name_utf8 c.name name) m.2, more.3))

-- columns that are some have a byte
listed_some : (cs : List Column) → Each IsNamed cs → 0 < length cs → 0 < length (listed marked cs)
listed_some [] h some = absurd (omega arith)
listed_some (c ∷ cs) h some = some_before c.name (mark c.never_null ++ flat_map (λ d. 44 ∷ marked d) cs) (sql_named c.name h.0).1 (listed marked (c ∷ cs)) (append_assoc c.name (mark c.never_null) (flat_map (λ d. 44 ∷ marked d) cs))
  where
    some_before : (x y : List ℕ) → 0 < length x → (z : List ℕ) → z ≡ x ++ y → 0 < length z
    some_before [] y h z e = absurd (omega arith)
    some_before (b ∷ x) y h z e = subst (λ t. 0 < length t) (sym e) (omega arith)

-- the words after the file of a table
after_words : (name key columns : List ℕ) → IsName name → IsName key → NoBlank columns → 0 < length columns
    → words_of (codes " " ++ (name ++ (codes " key " ++ (key ++ (codes " columns " ++ (columns ++ line_end)))))) ≡ table_words name key columns (codes "100")
after_words name key columns h k none some =
    word_over name (codes "key " ++ (key ++ (codes " columns " ++ (columns ++ line_end)))) (name_no_blank name h) h.1
    ∙ ap (λ ws. name ∷ codes "key" ∷ ws) (word_over key (codes "columns " ++ (columns ++ line_end)) (name_no_blank key k) k.1
    ∙ ap (λ ws. key ∷ codes "columns" ∷ ws) (word_over columns (codes "chunk 100") none some))

-- the parts of the line of a table, one after another
abbrev table_parts : List ℕ → TableShape → List ℕ → List ℕ
table_parts path t key =
    codes "source " ++ (t.name ++ (codes " table " ++ (spelling path ++ (codes " " ++ (t.name ++ (codes " key " ++ (key ++ (codes " columns " ++ (listed marked (named t) ++ line_end)))))))))

-- the line of a table is made of its parts
table_are : (path : List ℕ) (t : TableShape) (key : List ℕ) → table_parts path t key ≡ table_line path t.name key (named t)
table_are path t key =
    sym (right11 (codes "source ") t.name (codes " table ") (spelling path) (codes " ") t.name (codes " key ") key (codes " columns ") (listed marked (named t)) line_end)

-- the line of a table spells its source
pub table_spells : (path : List ℕ) (t : TableShape) (key : List ℕ) → IsUtf8 path → is_sql_name t.name ≡ true → is_sql_name key ≡ true → Each IsNamed (named t) → 0 < length (named t)
    → Spells (table_line path t.name key (named t)) (table_source path t key)
table_spells path t key u n k cs some =
    let name = sql_named t.name n in
    let columns = each_marked (named t) cs in
    let after = codes " " ++ (t.name ++ (codes " key " ++ (key ++ (codes " columns " ++ (listed marked (named t) ++ line_end))))) in
    let none = listed_is NoBlank refl both_no_blank refl marked (named t) columns.1 in (
      table_utf8,
      (
        name,
        subst (SpellsBetween (codes "source" ∷ t.name ∷ codes "table" ∷ []) (λ x. SpellsLabel x path) (λ x. AreTableWords 100 t.name key (named t) (words_of x)))
            (table_are path t key) (record {
              prefix = codes "source " ++ (t.name ++ codes " table ");
              spelling = spelling path;
              after = after;
              parts = front_apart (codes "source ") t.name (codes " table ") (spelling path ++ after);
              words_are = front_words t.name (codes "table ") name;
              blank_before = blank_at_end true (codes "source " ++ t.name) (codes " table ");
              spelled = spelling_spells path;
              blank_after = refl;
              rest = record {
                spelling = listed marked (named t);
                digits = codes "100";
                are = after_words t.name key (listed marked (named t)) name (sql_named key k) none (listed_some (named t) cs some);
                table_named = n;
                key_named = k;
                spelled = listed_spells SpellsColumn marked (named t) columns.0 some;
                numbered = hundred;
              };
            }),
      ),
    )
  where
    table_utf8 : IsUtf8 (table_line path t.name key (named t))
    table_utf8 =
        subst IsUtf8 (table_are path t key) (IsUtf8-append (codes "source ") _ (ascii_utf8 (codes "source ") refl)
        (IsUtf8-append t.name _ (name_utf8 t.name (sql_named t.name n))
        (IsUtf8-append (codes " table ") _ (ascii_utf8 (codes " table ") refl)
        (IsUtf8-append (spelling path) _ (spelling_utf8 path u)
        (IsUtf8-append (codes " ") _ (ascii_utf8 (codes " ") refl)
        (IsUtf8-append t.name _ (name_utf8 t.name (sql_named t.name n))
        (IsUtf8-append (codes " key ") _ (ascii_utf8 (codes " key ") refl)
        (IsUtf8-append key _ (name_utf8 key (sql_named key k))
        (IsUtf8-append (codes " columns ") _ (ascii_utf8 (codes " columns ") refl)
        (IsUtf8-append (listed marked (named t)) line_end (listed_is IsUtf8 (ascii_utf8 [] refl) IsUtf8-append (ascii_utf8 (44 ∷ []) refl) marked (named t) (each_marked (named t) cs).3)
        (ascii_utf8 line_end refl)))))))))))

-- the line of a table is one line
pub table_is_line : (path : List ℕ) (t : TableShape) (key : List ℕ) → is_sql_name t.name ≡ true → is_sql_name key ≡ true → Each IsNamed (named t) → IsLine (table_line path t.name key (named t))
table_is_line path t key n k cs =
    let name = name_no_lf t.name (sql_named t.name n) in
    subst IsLine (table_are path t key) (line_after (codes "source ") _ refl (line_after t.name _ name (line_after (codes " table ") _ refl (line_after (spelling path) _ (spelling_no_lf path)
    (line_after (codes " ") _ refl (line_after t.name _ name (line_after (codes " key ") _ refl (line_after key _ (name_no_lf key (sql_named key k)) (line_after (codes " columns ") _ refl
    (line_after (listed marked (named t)) line_end (listed_is NoLf refl both_no_lf refl marked (named t) (each_marked (named t) cs).2) (refl, omega arith, refl)))))))))))
