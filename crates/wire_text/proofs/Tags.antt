-- What stands after the first byte of a reply.
use Rattle.std.proofs.Common.{◌≡◌, ◌⊎◌, inl, inr, ℕ, ◌<◌, ◌≤◌, List, [], ◌∷◌, ◌++◌, length, get_or, drop, refl, sym, ap, subst, ◌∙◌, arith}
use Rattle.std.proofs.lemmas.Bool.{cases_lt}
use Rattle.std.proofs.lemmas.List.{length-append, length-drop, nil_from_length}
use Rattle.mix_base.proofs.Lists.{append_nil}
use Rattle.wire_text.specs.Bytes.{u128_bytes, words_bytes, hole_bytes}
use Rattle.wire_text.specs.Reading.{IsCutOff, Judges, unexpected, Leads}
use Rattle.wire_text.specs.Sized.{IsNumberText, IsHoleText, IsNothing, IsListText, IsSized}
use Rattle.wire_text.specs.Reply.{Said, count, root, list, failed, unknown_hole, no_memory, no_source, IsReply, reply_bytes, IsReplyText}
use Rattle.wire_text.proofs.Widths.{wide32, wide128, length-words}
use Rattle.wire_text.proofs.Judged.{hole_in}

count_back : (x : List ℕ) (r : Said) → IsReply r → 128 ∷ x ≡ reply_bytes r → IsNumberText x
count_back x (count n) h e = (n, h, ap (drop 1) e)
count_back x (root i v) h e = absurd (omega (arith, ap (λ b. get_or b 0 0) e))
count_back x (list o) h e = absurd (omega (arith, ap (λ b. get_or b 0 0) e))
count_back x failed h e = absurd (omega (arith, ap (λ b. get_or b 0 0) e))
count_back x unknown_hole h e = absurd (omega (arith, ap (λ b. get_or b 0 0) e))
count_back x no_memory h e = absurd (omega (arith, ap (λ b. get_or b 0 0) e))
count_back x no_source h e = absurd (omega (arith, ap (λ b. get_or b 0 0) e))

root_back : (x : List ℕ) (r : Said) → IsReply r → 129 ∷ x ≡ reply_bytes r → IsHoleText x
root_back x (count n) h e = absurd (omega (arith, ap (λ b. get_or b 0 0) e))
root_back x (root i v) h e = (i, v, h.0, h.1, ap (drop 1) e)
root_back x (list o) h e = absurd (omega (arith, ap (λ b. get_or b 0 0) e))
root_back x failed h e = absurd (omega (arith, ap (λ b. get_or b 0 0) e))
root_back x unknown_hole h e = absurd (omega (arith, ap (λ b. get_or b 0 0) e))
root_back x no_memory h e = absurd (omega (arith, ap (λ b. get_or b 0 0) e))
root_back x no_source h e = absurd (omega (arith, ap (λ b. get_or b 0 0) e))

list_back : (x : List ℕ) (r : Said) → IsReply r → 130 ∷ x ≡ reply_bytes r → IsListText x
list_back x (count n) h e = absurd (omega (arith, ap (λ b. get_or b 0 0) e))
list_back x (root i v) h e = absurd (omega (arith, ap (λ b. get_or b 0 0) e))
list_back x (list o) h e = (o, h.0, h.1, ap (drop 1) e)
list_back x failed h e = absurd (omega (arith, ap (λ b. get_or b 0 0) e))
list_back x unknown_hole h e = absurd (omega (arith, ap (λ b. get_or b 0 0) e))
list_back x no_memory h e = absurd (omega (arith, ap (λ b. get_or b 0 0) e))
list_back x no_source h e = absurd (omega (arith, ap (λ b. get_or b 0 0) e))

-- after 80 a number comes
pub count_leads : Leads IsReplyText (0x80 ∷ []) IsNumberText
count_leads = record { there = λ x t. (count t.0, (t.1, ap (λ y. 0x80 ∷ y) t.2)); back = λ x t. count_back x t.0 t.1.0 t.1.1 }

-- after 81 a hole comes
pub root_leads : Leads IsReplyText (0x81 ∷ []) IsHoleText
root_leads = record { there = λ x t. (root t.0 t.1, ((t.2, t.3), ap (λ y. 0x81 ∷ y) t.4)); back = λ x t. root_back x t.0 t.1.0 t.1.1 }

-- after 82 a list comes
pub list_follows : Leads IsReplyText (0x82 ∷ []) IsListText
list_follows = record { there = λ x t. (list t.0, ((t.1, t.2), ap (λ y. 0x82 ∷ y) t.3)); back = λ x t. list_back x t.0 t.1.0 t.1.1 }

bare_back : (b : ℕ) (x : List ℕ) (r : Said) → 0x83 ≤ b → IsReply r → b ∷ x ≡ reply_bytes r → x ≡ []
bare_back b x (count n) low h e = absurd (omega (arith, ap (λ l. get_or l 0 0) e))
bare_back b x (root i v) low h e = absurd (omega (arith, ap (λ l. get_or l 0 0) e))
bare_back b x (list o) low h e = absurd (omega (arith, ap (λ l. get_or l 0 0) e))
bare_back b x failed low h e = ap (drop 1) e
bare_back b x unknown_hole low h e = ap (drop 1) e
bare_back b x no_memory low h e = ap (drop 1) e
bare_back b x no_source low h e = ap (drop 1) e

bare : (b : ℕ) → 0x83 ≤ b → b ≤ 0x86 → IsReplyText (b ∷ [])
bare b low high = elim (cases_lt b 0x84) [
  | inl p ↦ (failed, (tt, (let e : b ≡ 0x83 = omega arith in ap (λ n. n ∷ []) e)))
  | inr p ↦ elim (cases_lt b 0x85) [
    | inl q ↦ (unknown_hole, (tt, (let e : b ≡ 0x84 = omega arith in ap (λ n. n ∷ []) e)))
    | inr q ↦ elim (cases_lt b 0x86) [
      | inl u ↦ (no_memory, (tt, (let e : b ≡ 0x85 = omega arith in ap (λ n. n ∷ []) e)))
      | inr u ↦ (no_source, (tt, (let e : b ≡ 0x86 = omega arith in ap (λ n. n ∷ []) e)))
    ]
  ]
]

-- after 83 to 86 nothing comes
pub bare_leads : (b : ℕ) → 0x83 ≤ b → b ≤ 0x86 → Leads IsReplyText (b ∷ []) IsNothing
bare_leads b low high = record {
  there = λ x t. subst (λ y. IsReplyText (b ∷ y)) (sym t) (bare b low high);
  back = λ x t. bare_back b x t.0 low t.1.0 t.1.1;
}

no_tag : (b : ℕ) (y : List ℕ) (r : Said) → (b < 0x80) ⊎ (0x86 < b) → b ∷ y ≡ reply_bytes r → ⊥
no_tag b y (count n) h e = elim h [ inl p ↦ omega (arith, p, ap (λ l. get_or l 0 0) e) | inr p ↦ omega (arith, p, ap (λ l. get_or l 0 0) e) ]
no_tag b y (root i v) h e = elim h [ inl p ↦ omega (arith, p, ap (λ l. get_or l 0 0) e) | inr p ↦ omega (arith, p, ap (λ l. get_or l 0 0) e) ]
no_tag b y (list o) h e = elim h [ inl p ↦ omega (arith, p, ap (λ l. get_or l 0 0) e) | inr p ↦ omega (arith, p, ap (λ l. get_or l 0 0) e) ]
no_tag b y failed h e = elim h [ inl p ↦ omega (arith, p, ap (λ l. get_or l 0 0) e) | inr p ↦ omega (arith, p, ap (λ l. get_or l 0 0) e) ]
no_tag b y unknown_hole h e = elim h [ inl p ↦ omega (arith, p, ap (λ l. get_or l 0 0) e) | inr p ↦ omega (arith, p, ap (λ l. get_or l 0 0) e) ]
no_tag b y no_memory h e = elim h [ inl p ↦ omega (arith, p, ap (λ l. get_or l 0 0) e) | inr p ↦ omega (arith, p, ap (λ l. get_or l 0 0) e) ]
no_tag b y no_source h e = elim h [ inl p ↦ omega (arith, p, ap (λ l. get_or l 0 0) e) | inr p ↦ omega (arith, p, ap (λ l. get_or l 0 0) e) ]

-- no reply begins with another byte
pub other_tag : (b : ℕ) (rest : List ℕ) → (b < 0x80) ⊎ (0x86 < b) → Judges IsReplyText (b ∷ rest) (unexpected (length (b ∷ rest)))
other_tag b rest h = (
  0,
  omega arith,
  record {
    inside = omega arith;
    prefix = (0x83 ∷ [], (failed, (tt, refl)));
    wrong = λ t. no_tag b t.0 t.1.0 h t.1.1.1;
  },
)

some_byte : (r : Said) → 0 < length (reply_bytes r)
some_byte (count n) = omega arith
some_byte (root i v) = omega arith
some_byte (list o) = omega arith
some_byte failed = omega arith
some_byte unknown_hole = omega arith
some_byte no_memory = omega arith
some_byte no_source = omega arith

-- nothing is a reply cut off
pub no_reply : IsCutOff IsReplyText []
no_reply = record { prefix = (0x83 ∷ [], (failed, (tt, refl))); none = λ t. omega (arith, some_byte t.0, ap length t.1.1) }

-- four bytes are a number
pub sized_number : IsSized IsNumberText 4
sized_number = record { len = λ x t. ap length t.2 ∙ wide32.len t.0; all = λ x fits e. wide32.in' x e fits }

-- forty bytes are a hole
pub sized_hole : IsSized IsHoleText 40
sized_hole = record {
  len = λ x t. omega (arith, ap length t.4, length-append (words_bytes t.0) (u128_bytes t.1), length-words t.0, wide128.len t.1);
  all = λ x fits e.
      let h = hole_in x fits (omega (arith, e)) in
      let end : drop 40 x ≡ [] = nil_from_length (drop 40 x) (omega (arith, e, length-drop 40 x)) in
      (h.0, h.1, h.2, h.3, h.4 ∙ ap (λ y. hole_bytes h.0 h.1 ++ y) end ∙ append_nil (hole_bytes h.0 h.1));
}

-- no bytes are nothing
pub sized_nothing : IsSized IsNothing 0
sized_nothing = record { len = λ x t. ap length t; all = λ x fits e. nil_from_length x e }
