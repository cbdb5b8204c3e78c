-- A stream that is answered in pieces is answered as one.
use Rattle.std.proofs.Common.{◌≡◌, ◌⊎◌, inl, inr, ℕ, ◌+◌, ◌≤◌, List, [], ◌∷◌, ◌++◌, length, refl, sym, ap, subst, ◌∙◌, append_assoc, length-append, arith}
use Rattle.std.specs.List.{flat_map, AllByRecursion}
use Rattle.std.proofs.lemmas.List.Concat.{flat_map-cons}
use Rattle.mix_base.proofs.Lists.{append_nil}
use Rattle.lxp_core.specs.View.{View}
use Rattle.lxp_wire.specs.Answer.{AreAnswers, fills_in, fills_of}
use Rattle.lxp_wire.specs.Stream.{IsBadTag, Splits}
use Rattle.lxp_wire.proofs.Streams.{pieces_one, splits_one}
use Rattle.wire_text.specs.declared.request.Request.{Request}
use Rattle.wire_text.specs.declared.request.Request.TheVariants.{Count, Root, Fill}
use Rattle.wire_text.specs.Reply.{Said, reply_bytes}
use Rattle.wire_text.specs.Request.{request_bytes, IsRequest, IsPrefixOfRequest}
use Rattle.wire_text.proofs.Asked.{apart}
use Rattle.mix_serve.specs.Replied.{IsReplied}
use Rattle.mix_serve.proofs.Counted.{failures_counted}

-- answers and then more of them are answers to all the requests
answers_join : (old mid new : View) (rs qs : List Request) (said more : List Said) → AreAnswers old mid rs said → AreAnswers mid new qs more → AreAnswers old new (rs ++ qs) (said ++ more)
answers_join old mid new [] qs [] more h k = subst (λ v. AreAnswers v new qs more) h k
answers_join old mid new [] qs (a ∷ said) more h k = absurd h
answers_join old mid new (r ∷ rs) qs [] more h k = absurd h
answers_join old mid new (r ∷ rs) qs (a ∷ said) more h k = (h.0, h.1, answers_join h.0 mid new rs qs said more h.2 k)

-- the replies of two lists one after another
replies_join : (said more : List Said) → flat_map reply_bytes (said ++ more) ≡ flat_map reply_bytes said ++ flat_map reply_bytes more
replies_join [] more = refl
replies_join (a ∷ said) more =
    flat_map-cons reply_bytes a (said ++ more) ∙ ap (λ z. reply_bytes a ++ z) (replies_join said more)
    ∙ sym (append_assoc (reply_bytes a) (flat_map reply_bytes said) (flat_map reply_bytes more)) ∙ ap (λ z. z ++ flat_map reply_bytes more) (sym (flat_map-cons reply_bytes a said))

-- the bytes of a stream were answered, and those of its next piece with what they left: all of them were answered
pub replied_join : (old mid new : View) (bytes begun piece rest replies more : List ℕ) → IsReplied old mid bytes begun replies → IsReplied mid new (begun ++ piece) rest more
    → IsReplied old new (bytes ++ piece) rest (replies ++ more)
replied_join old mid new bytes begun piece rest replies more h k =
    let answers = answers_join old mid new h.requests k.requests h.said k.said h.answers k.answers in
    record {
      requests = h.requests ++ k.requests;
      said = h.said ++ k.said;
      cut = pieces_one bytes piece h.requests k.requests begun rest h.cut k.cut;
      answers = answers;
      written = ap (λ z. z ++ more) h.written ∙ ap (λ z. flat_map reply_bytes h.said ++ z) k.written ∙ sym (replies_join h.said k.said);
      counted = failures_counted old new (h.requests ++ k.requests) (h.said ++ k.said) answers;
    }

-- answers to requests ask no more fills than these
answers_fills : (old new : View) (rs : List Request) (said : List Said) → AreAnswers old new rs said → new.fills ≤ old.fills + fills_in rs
answers_fills old new [] [] h = omega (arith, ap (λ v. v.fills) h)
answers_fills old new [] (a ∷ said) h = absurd h
answers_fills old new (r ∷ rs) [] h = absurd h
answers_fills old new (r ∷ rs) (a ∷ said) h = omega (arith, h.1.fills, answers_fills h.0 new rs said h.2)

-- where the bytes of a stream were answered, no more fills were asked than their requests ask for
pub replied_fills : (old new : View) (bytes rest replies : List ℕ) → IsReplied old new bytes rest replies → (requests : List Request) (end : List ℕ) → Splits bytes requests end
    → new.fills ≤ old.fills + fills_in requests
replied_fills old new bytes rest replies h requests end cut =
    omega (arith, answers_fills old new h.requests h.said h.answers, ap fills_in (splits_one bytes h.requests requests rest end h.cut cut).0)

-- no request begins with a bad tag
pub not_bad : (r : Request) (x : List ℕ) → IsBadTag (request_bytes r ++ x) → ⊥
not_bad Count x b = omega (arith, b.1)
not_bad (Root s) x b = omega (arith, b.1)
not_bad (Fill s h) x b = omega (arith, b.1)

-- what begins with a request is no part of one, nor a bad tag
not_left : (rest : List ℕ) (r : Request) (x : List ℕ) → IsRequest r → request_bytes r ++ x ≡ rest → IsPrefixOfRequest rest ⊎ IsBadTag rest → ⊥
not_left rest r x is e p = elim p [
  | inl f ↦ (
      let both = apart r f.1 (x ++ f.0) [] is f.3.0 (sym (append_assoc (request_bytes r) x f.0) ∙ ap (λ y. y ++ f.0) e ∙ f.3.1 ∙ sym (append_nil (request_bytes f.1))) in
      omega (arith, f.2, ap length both.1, length-append x f.0))
  | inr b ↦ not_bad r x (subst IsBadTag (sym e) b)
]

-- the requests of a text are those of its first part, and then those of its other part with what the first left
pub record IsCutAfter (done : List Request) (begun piece : List ℕ) (requests : List Request) (rest : List ℕ) : Type 0 where
  pub later : List Request
  pub all : fills_in requests ≡ fills_in done + fills_in later
  pub cut : Splits (begun ++ piece) later rest

-- requests at the beginning of a text, and what is left of it after them
cut_after : (done requests : List Request) (begun piece rest : List ℕ) → AllByRecursion IsRequest done → AllByRecursion IsRequest requests
    → flat_map request_bytes done ++ (begun ++ piece) ≡ flat_map request_bytes requests ++ rest → IsPrefixOfRequest rest ⊎ IsBadTag rest → IsCutAfter done begun piece requests rest
cut_after [] requests begun piece rest h k e p = record { later = requests; all = omega arith; cut = record { whole = e; each = k; partial = p } }
cut_after (d ∷ ds) [] begun piece rest h k e p =
    absurd (not_left rest d (flat_map request_bytes ds ++ (begun ++ piece)) h.0
    (sym (append_assoc (request_bytes d) (flat_map request_bytes ds) (begun ++ piece)) ∙ ap (λ z. z ++ (begun ++ piece)) (sym (flat_map-cons request_bytes d ds)) ∙ e) p)
cut_after (d ∷ ds) (q ∷ qs) begun piece rest h k e p =
    let both = apart d q (flat_map request_bytes ds ++ (begun ++ piece)) (flat_map request_bytes qs ++ rest) h.0 k.0
    (sym (append_assoc (request_bytes d) (flat_map request_bytes ds) (begun ++ piece)) ∙ ap (λ z. z ++ (begun ++ piece)) (sym (flat_map-cons request_bytes d ds)) ∙ e
    ∙ ap (λ z. z ++ rest) (flat_map-cons request_bytes q qs) ∙ append_assoc (request_bytes q) (flat_map request_bytes qs) rest) in
    let others = cut_after ds qs begun piece rest h.1 k.1 both.1 p in
    record { later = others.later; all = omega (arith, ap fills_of both.0, others.all); cut = others.cut }

-- the bytes of a stream were answered, and then no more fills were asked than the requests ask for that a piece completes: no more were asked than all requests ask for
pub fills_join : (old mid new : View) (bytes begun piece replies : List ℕ) → IsReplied old mid bytes begun replies
    → ((requests : List Request) (rest : List ℕ) → Splits (begun ++ piece) requests rest → new.fills ≤ mid.fills + fills_in requests)
    → (requests : List Request) (rest : List ℕ) → Splits (bytes ++ piece) requests rest → new.fills ≤ old.fills + fills_in requests
fills_join old mid new bytes begun piece replies h more requests rest cut =
    let whole = sym (append_assoc (flat_map request_bytes h.requests) begun piece) ∙ ap (λ z. z ++ piece) (sym h.cut.whole) ∙ cut.whole in
    let after = cut_after h.requests requests begun piece rest h.cut.each cut.each whole cut.partial in
    omega (arith, answers_fills old mid h.requests h.said h.answers, more after.later rest after.cut, after.all)
