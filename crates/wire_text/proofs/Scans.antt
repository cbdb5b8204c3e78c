-- What the steps of a scan say of the whole text.
use Rattle.std.proofs.Common.{◌≡◌, ℕ, ◌+◌, ◌-◌, ◌^◌, ◌<◌, ◌≤◌, List, [], ◌∷◌, ◌++◌, length, take, drop, refl, sym, ap, subst, ◌∙◌, append_assoc, arith}
use Rattle.std.specs.Prelude.{Result, Ok, Err}
use Rattle.std.specs.Borrow.{Bor}
use Rattle.std.proofs.lemmas.List.{drop_at, length-append, length-take, nil_from_length}
use Rattle.mix_base.proofs.Lists.{append_nil}
use Rattle.wire_text.specs.declared.scanning.Stop.{Stop}
use Rattle.wire_text.specs.declared.scanning.Stop.TheVariants.{Unexpected, Ends}
use Rattle.wire_text.specs.Wired.{Wired, nil, node, hole, count_of}
use Rattle.wire_text.specs.Bytes.{u32_bytes, hole_bytes, label_bytes, trees_bytes}
use Rattle.wire_text.specs.Reading.{IsCutOff, Verdict, whole, Judges, Leads}
use Rattle.wire_text.specs.Heads.{IsTreesText, IsHead, ReadsHead, ReadsKids, JudgesText, verdict_of}
use Rattle.wire_text.specs.Sized.{IsListText, IsSized, Measures}
use Rattle.wire_text.proofs.Widths.{IsBytes, bytes_after, bytes_before, zeros, filled, wide32, number_one}
use Rattle.wire_text.proofs.Judged.{judged, node_leads, hole_leads, hole_in, leaves, leaves_are}

-- the bytes after a prefix
pub bytes_part : (prefix rest text : List ℕ) → text ≡ prefix ++ rest → IsBytes text → IsBytes rest
bytes_part prefix rest text e fits = subst IsBytes (ap (drop (length prefix)) e ∙ drop_at prefix rest (length prefix) refl) (bytes_after (length prefix) text fits)

-- a head of a node, by what stands after its label's length
pub head_from_kids : (text rest after : List ℕ) (len : ℕ) (r : Result (ℕ × Bor (List ℕ)) Stop) → text ≡ 0 ∷ rest → rest ≡ u32_bytes len ++ after → len < 2 ^ 32
    → ReadsKids after len r → ReadsHead text r
head_from_kids text rest after len (Ok found) e f few k =
    let label = k.0 in
    record {
      prefix = 0 ∷ (label_bytes label ++ u32_bytes found.0);
      parts = e ∙ ap (λ x. 0 ∷ x) (f ∙ ap (λ x. u32_bytes len ++ x) k.3 ∙ ap (λ m. u32_bytes m ++ (label ++ (u32_bytes found.0 ++ found.1.now))) (sym k.1.1) ∙ regrouped (u32_bytes (length label)) label (u32_bytes found.0) found.1.now);
      some = omega arith;
      few = k.2;
      leads = λ n. node_leads label found.0 n k.1.0 (omega (arith, k.1.1, few)) k.2;
    }
  where
    regrouped : (a b c d : List ℕ) → a ++ (b ++ (c ++ d)) ≡ ((a ++ b) ++ c) ++ d
    regrouped a b c d = simp append_assoc
head_from_kids text rest after len (Err stop) e f few k = λ n.
    subst (λ t. Judges (IsTreesText (n + 1)) t (verdict_of stop)) (sym (e ∙ ap (λ x. 0 ∷ x) f)) (k n)

-- a head of a hole
pub head_of_hole : (text rest : List ℕ) → text ≡ 1 ∷ rest → IsBytes rest → 40 ≤ length rest → IsHead text 0 (drop 40 rest)
head_of_hole text rest e fits long =
    let h = hole_in rest fits long in
    record {
      prefix = 1 ∷ hole_bytes h.0 h.1;
      parts = e ∙ ap (λ x. 1 ∷ x) h.4;
      some = omega arith;
      few = omega arith;
      leads = λ n. hole_leads h.0 h.1 n h.2 h.3;
    }

-- what is said of texts of one size
pub sized : {T : Type 0} (Is : List ℕ → Type 0) (size : ℕ) (x : List ℕ) (r : Result T Stop) → IsSized Is size → IsBytes x → Measures x size r → JudgesText Is x r
sized Is size x (Ok u) is fits m = is.all x fits m
sized Is size x (Err (Unexpected left)) is fits m =
    let prefix = take size x in
    let long : length prefix ≡ size = omega (arith, m.0, m.1, length-take size x) in (
      size,
      m.1,
      record {
        inside = omega (arith, m.0, m.1);
        prefix = ([], subst Is (sym (append_nil prefix)) (is.all prefix (bytes_prefix size x fits) long));
        wrong = λ b. omega (arith, m.0, m.1, is.len (take (size + 1) x ++ b.0) b.1, length-append (take (size + 1) x) b.0, length-take (size + 1) x);
      },
    )
  where
    bytes_prefix : (n : ℕ) (x : List ℕ) → IsBytes x → IsBytes (take n x)
    bytes_prefix = bytes_before
sized Is size x (Err Ends) is fits m =
    let all = filled x size fits (omega (arith, m)) in
    record {
      prefix = (zeros (size - length x), is.all (x ++ zeros (size - length x)) all.0 all.1);
      none = λ t. omega (arith, m, is.len x t);
    }

-- after a prefix the same is said
pub led : {T : Type 0} (Is IsRest : List ℕ → Type 0) (prefix rest : List ℕ) (r : Result T Stop) → Leads Is prefix IsRest → JudgesText IsRest rest r → JudgesText Is (prefix ++ rest) r
led Is IsRest prefix rest (Ok u) leads j = leads.there rest j
led Is IsRest prefix rest (Err stop) leads j = judged Is IsRest prefix rest (verdict_of stop) leads j

-- no trees are no bytes
pub no_trees : IsSized (IsTreesText 0) 0
no_trees = record { len = λ x t. by_tree t.0 x t.2 t.3; all = λ x fits e. (nil, tt, refl, nil_from_length x e) }
  where
    by_tree : (o : Wired) (x : List ℕ) → count_of o ≡ 0 → x ≡ trees_bytes o → length x ≡ 0
    by_tree nil x c e = ap length e
    by_tree (node l k r) x c e = absurd (omega arith)
    by_tree (hole i w r) x c e = absurd (omega arith)

-- where a head is read of trees that are still to come, what is said of the rest is said of the text
pub one_head : (text rest after : List ℕ) (total pending kids : ℕ) → IsHead rest kids after → 0 < pending
    → ((v : Verdict) → Judges (IsTreesText pending) rest v → Judges (IsTreesText total) text v) → (v : Verdict) → Judges (IsTreesText (pending - 1 + kids)) after v → Judges (IsTreesText total) text v
one_head text rest after total pending kids h some goes_on v j =
    let n = pending - 1 in
    let whole_n : n + 1 ≡ pending = omega (arith, some) in
    let turned : n + kids ≡ kids + n = omega arith in
    goes_on v (subst (λ m. Judges (IsTreesText m) rest v) whole_n
    (subst (λ x. Judges (IsTreesText (n + 1)) x v) (sym h.parts)
    (judged (IsTreesText (n + 1)) (IsTreesText (kids + n)) h.prefix after v (h.leads n) (subst (λ m. Judges (IsTreesText m) after v) turned j))))

-- a head that is none
pub no_head : (text rest : List ℕ) (total pending : ℕ) (stop : Stop) → ((n : ℕ) → Judges (IsTreesText (n + 1)) rest (verdict_of stop)) → 0 < pending
    → ((v : Verdict) → Judges (IsTreesText pending) rest v → Judges (IsTreesText total) text v) → Judges (IsTreesText total) text (verdict_of stop)
no_head text rest total pending stop h some goes_on =
    let whole_n : pending - 1 + 1 ≡ pending = omega (arith, some) in
    goes_on (verdict_of stop) (subst (λ m. Judges (IsTreesText m) rest (verdict_of stop)) whole_n (h (pending - 1)))

-- the end of the trees
pub last_head : {T : Type 0} (text rest : List ℕ) (total pending : ℕ) (r : Result T Stop) → pending ≤ 0 → IsBytes rest → Measures rest 0 r
    → ((v : Verdict) → Judges (IsTreesText pending) rest v → Judges (IsTreesText total) text v) → JudgesText (IsTreesText total) text r
last_head text rest total pending r none fits m goes_on =
    let z : pending ≡ 0 = omega (arith, none) in
    go text rest total pending r goes_on (subst (λ n. JudgesText (IsTreesText n) rest r) (sym z) (sized (IsTreesText 0) 0 rest r no_trees fits m))
  where
    go : {U : Type 0} (text rest : List ℕ) (total pending : ℕ) (r : Result U Stop) → ((v : Verdict) → Judges (IsTreesText pending) rest v → Judges (IsTreesText total) text v)
        → JudgesText (IsTreesText pending) rest r → JudgesText (IsTreesText total) text r
    go text rest total pending (Ok u) goes_on j = goes_on whole j
    go text rest total pending (Err stop) goes_on j = goes_on (verdict_of stop) j

-- after the number of a list its trees come
pub list_leads : (n : ℕ) → n < 2 ^ 32 → Leads IsListText (u32_bytes n) (IsTreesText n)
list_leads n few = record {
  there = λ x t. (t.0, omega (arith, t.2, few), t.1, ap (λ y. u32_bytes n ++ y) t.3 ∙ ap (λ m. u32_bytes m ++ trees_bytes t.0) (sym t.2));
  back = λ x t. let both = number_one u32_bytes 4 (2 ^ 32) wide32 n (count_of t.0) x (trees_bytes t.0) few t.1 t.3 in (t.0, t.2, sym both.0, both.1);
}

-- fewer than four bytes are a list cut off
pub no_number : (x : List ℕ) → IsBytes x → length x < 4 → IsCutOff IsListText x
no_number x fits short =
    let y = zeros (4 - length x) in
    let all = filled x 4 fits (omega arith) in
    let n = wide32.in' (x ++ y) all.1 all.0 in
    let are = leaves_are n.0 in
    let tail = trees_bytes (leaves n.0) in
    record {
      prefix = (y ++ tail, (leaves n.0, omega (arith, are.1, n.1), are.0, sym (append_assoc x y tail) ∙ ap (λ z. z ++ tail) n.2 ∙ ap (λ m. u32_bytes m ++ tail) (sym are.1)));
      none = λ t. omega (arith, short, ap length t.3, length-append (u32_bytes (count_of t.0)) (trees_bytes t.0), wide32.len (count_of t.0));
    }
