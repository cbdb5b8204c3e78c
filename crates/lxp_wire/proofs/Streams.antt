-- How a stream is cut into requests.
use Rattle.std.proofs.Common.{◌≡◌, ◌⊎◌, inl, inr, ℕ, ◌+◌, ◌<◌, ◌≤◌, List, [], ◌∷◌, ◌++◌, length, get_or, take, drop, Bool, true, false, refl, sym, ap, subst, ◌∙◌, append_assoc, arith}
use Rattle.std.specs.Prelude.{Option, Some, None, is_some, min, ◌-◌, ◌^◌}
use Rattle.std.specs.List.{flat_map, AllByRecursion}
use Rattle.std.proofs.lemmas.List.{length-append, length-take, take-append-drop, drop-drop}
use Rattle.std.proofs.lemmas.List.Concat.{flat_map-cons}
use Rattle.mix_base.proofs.Lists.{append_nil}
use Rattle.lxp_core.specs.View.{View}
use Rattle.wire_text.specs.declared.request.Request.{Request}
use Rattle.wire_text.specs.declared.request.Request.TheVariants.{Count, Root, Fill}
use Rattle.wire_text.specs.Request.{request_bytes, IsRequest, IsPrefixOfRequest, SpellsRequest}
use Rattle.wire_text.specs.Reply.{Said, reply_bytes}
use Rattle.lxp_wire.specs.Answer.{IsAnswer, AreAnswers, HasAnswered, fills_of, fills_in}
use Rattle.lxp_wire.specs.Stream.{Stream, IsBadTag, Splits, IsServed, IsFed, PiecesAreOne}
use Rattle.lxp_wire.specs.Links.{IsReplyOf}
use Rattle.wire_text.specs.Bytes.{u32_bytes, words_bytes}
use Rattle.wire_text.proofs.Widths.{wide32, length-words}
use Rattle.wire_text.proofs.Asked.{apart, nothing_more}

low_tag : (r : Request) (x : List ℕ) → get_or (request_bytes r ++ x) 0 0 ≤ 2
low_tag Count x = omega arith
low_tag (Root s) x = omega arith
low_tag (Fill s h) x = omega arith

-- what is less than a request begins with none
not_begun : (rest : List ℕ) (r : Request) (x : List ℕ) → IsRequest r → rest ≡ request_bytes r ++ x → IsPrefixOfRequest rest ⊎ IsBadTag rest → ⊥
not_begun rest r x is e p = elim p [
  | inl f ↦ (
      let both = apart r f.1 (x ++ f.0) [] is f.3.0 (sym (append_assoc (request_bytes r) x f.0) ∙ ap (λ y. y ++ f.0) (sym e) ∙ f.3.1 ∙ sym (append_nil (request_bytes f.1))) in
      omega (arith, f.2, ap length both.1, length-append x f.0))
  | inr b ↦ omega (arith, b.1, low_tag r x, ap (λ y. get_or y 0 0) e)
]

splits_one_from : (rs qs : List Request) (x y rest other : List ℕ) → AllByRecursion IsRequest rs → AllByRecursion IsRequest qs → x ≡ flat_map request_bytes rs ++ rest → y ≡ flat_map request_bytes qs ++ other
    → x ≡ y → IsPrefixOfRequest rest ⊎ IsBadTag rest → IsPrefixOfRequest other ⊎ IsBadTag other → (rs ≡ qs) × (rest ≡ other)
splits_one_from [] [] x y rest other h k e f same p q = (refl, sym e ∙ same ∙ f)
splits_one_from [] (r ∷ qs) x y rest other h k e f same p q =
    absurd (not_begun rest r (flat_map request_bytes qs ++ other) k.0
    (sym e ∙ same ∙ f ∙ ap (λ z. z ++ other) (flat_map-cons request_bytes r qs) ∙ append_assoc (request_bytes r) (flat_map request_bytes qs) other) p)
splits_one_from (r ∷ rs) [] x y rest other h k e f same p q =
    absurd (not_begun other r (flat_map request_bytes rs ++ rest) h.0
    (sym f ∙ sym same ∙ e ∙ ap (λ z. z ++ rest) (flat_map-cons request_bytes r rs) ∙ append_assoc (request_bytes r) (flat_map request_bytes rs) rest) q)
splits_one_from (r ∷ rs) (s ∷ qs) x y rest other h k e f same p q =
    let u = flat_map request_bytes rs ++ rest in
    let v = flat_map request_bytes qs ++ other in
    let left : x ≡ request_bytes r ++ u = e ∙ ap (λ z. z ++ rest) (flat_map-cons request_bytes r rs) ∙ append_assoc (request_bytes r) (flat_map request_bytes rs) rest in
    let right : y ≡ request_bytes s ++ v = f ∙ ap (λ z. z ++ other) (flat_map-cons request_bytes s qs) ∙ append_assoc (request_bytes s) (flat_map request_bytes qs) other in
    let both = apart r s u v h.0 k.0 (sym left ∙ same ∙ right) in
    let others = splits_one_from rs qs u v rest other h.1 k.1 refl refl both.1 p q in
    (ap (λ a. a ∷ rs) both.0 ∙ ap (λ a. s ∷ a) others.0, others.1)

-- no text is cut into requests in two ways
pub splits_one : (x : List ℕ) (rs qs : List Request) (rest other : List ℕ) → Splits x rs rest → Splits x qs other → (rs ≡ qs) × (rest ≡ other)
splits_one x rs qs rest other a b = splits_one_from rs qs x x rest other a.each b.each a.whole b.whole refl a.partial b.partial

flat_append : (rs qs : List Request) → flat_map request_bytes (rs ++ qs) ≡ flat_map request_bytes rs ++ flat_map request_bytes qs
flat_append [] qs = refl
flat_append (r ∷ rs) qs =
    flat_map-cons request_bytes r (rs ++ qs) ∙ ap (λ z. request_bytes r ++ z) (flat_append rs qs)
    ∙ sym (append_assoc (request_bytes r) (flat_map request_bytes rs) (flat_map request_bytes qs))
    ∙ ap (λ z. z ++ flat_map request_bytes qs) (sym (flat_map-cons request_bytes r rs))

both_each : (rs qs : List Request) → AllByRecursion IsRequest rs → AllByRecursion IsRequest qs → AllByRecursion IsRequest (rs ++ qs)
both_each [] qs h k = k
both_each (r ∷ rs) qs h k = (h.0, both_each rs qs h.1 k)

-- two pieces one after another are cut as one
pub pieces_one : PiecesAreOne
pieces_one x y rs qs rest other a b = record {
  whole = ap (λ z. z ++ y) a.whole ∙ append_assoc (flat_map request_bytes rs) rest y ∙ ap (λ z. flat_map request_bytes rs ++ z) b.whole
      ∙ sym (append_assoc (flat_map request_bytes rs) (flat_map request_bytes qs) other) ∙ ap (λ z. z ++ other) (sym (flat_append rs qs));
  each = both_each rs qs a.each b.each;
  partial = b.partial;
}

-- a request alone
pub one_request : (x : List ℕ) (r : Request) → SpellsRequest x r → Splits ([] ++ x) (r ∷ []) []
one_request x r is = record {
  whole = is.1 ∙ sym (append_nil (request_bytes r)) ∙ sym (flat_map-cons request_bytes r []) ∙ sym (append_nil (flat_map request_bytes (r ∷ [])));
  each = (is.0, tt);
  partial = inl nothing_more;
}

-- what a server that has nothing begun replies to a request alone
pub record IsAskedOnce (old new : View) (r : Request) (replies : List ℕ) (after : Stream) : Type 0 where
  pub reply : IsReplyOf old new r replies
  pub begun : after.begun ≡ []
  pub bad : after.bad ≡ None

answered_once : (old new : View) (r : Request) (said : List Said) → AreAnswers old new (r ∷ []) said → IsReplyOf old new r (flat_map reply_bytes said)
answered_once old new r [] h = absurd h
answered_once old new r (a ∷ b ∷ said) h = absurd h.2
answered_once old new r (a ∷ []) h =
    (a, flat_map-cons reply_bytes a [] ∙ append_nil (reply_bytes a), subst (λ v. IsAnswer old v r a) (sym h.2) h.1)

-- a request that comes whole, where nothing is begun, is answered alone
pub asked_once : (old new : View) (before : Stream) (x : List ℕ) (after : Stream) (replies : List ℕ) (r : Request) → before.begun ≡ [] → before.bad ≡ None → SpellsRequest x r
    → IsFed old new before x after replies → IsAskedOnce old new r replies after
asked_once old new before x after replies r none good is fed =
    let cut = fed.going good in
    let one = splits_one ([] ++ x) fed.requests (r ∷ []) cut.0 [] (subst (λ b. Splits (b ++ x) fed.requests cut.0) none cut.1) (one_request x r is) in
    let after = cut.2.goes_on (subst IsPrefixOfRequest (sym one.1) nothing_more) in
    record {
      reply = subst (IsReplyOf old new r) (sym fed.written) (answered_once old new r fed.said (subst (λ rs. AreAnswers old new rs fed.said) one.0 fed.answers));
      begun = after.0 ∙ one.1;
      bad = after.1;
    }

-- requests at the beginning of a text are no more than those that it is cut into
pub fills_prefix : (ds qs : List Request) (more rest : List ℕ) → AllByRecursion IsRequest ds → AllByRecursion IsRequest qs → flat_map request_bytes ds ++ more ≡ flat_map request_bytes qs ++ rest
    → IsPrefixOfRequest rest ⊎ IsBadTag rest → fills_in ds ≤ fills_in qs
fills_prefix [] qs more rest h k e p = omega arith
fills_prefix (d ∷ ds) [] more rest h k e p =
    absurd (not_begun rest d (flat_map request_bytes ds ++ more) h.0
    (sym e ∙ ap (λ z. z ++ more) (flat_map-cons request_bytes d ds) ∙ append_assoc (request_bytes d) (flat_map request_bytes ds) more) p)
fills_prefix (d ∷ ds) (q ∷ qs) more rest h k e p =
    let both = apart d q (flat_map request_bytes ds ++ more) (flat_map request_bytes qs ++ rest) h.0 k.0
    (sym (append_assoc (request_bytes d) (flat_map request_bytes ds) more) ∙ ap (λ z. z ++ more) (sym (flat_map-cons request_bytes d ds)) ∙ e
    ∙ ap (λ z. z ++ rest) (flat_map-cons request_bytes q qs) ∙ append_assoc (request_bytes q) (flat_map request_bytes qs) rest) in
    omega (arith, ap fills_of both.0, fills_prefix ds qs more rest h.1 k.1 both.1 p)

-- requests that were answered so far, up to a place of the text
pub record Serving (old now : View) (text before out : List ℕ) (at : ℕ) : Type 0 where
  pub done : List Request
  pub said : List Said
  pub answers : AreAnswers old now done said
  pub written : out ≡ before ++ flat_map reply_bytes said
  pub whole : text ≡ flat_map request_bytes done ++ drop at text
  pub each : AllByRecursion IsRequest done
  pub place : length (flat_map request_bytes done) ≡ at
  pub fills : now.fills ≤ old.fills + fills_in done

-- nothing was answered yet
pub serving_starts : (v : View) (text before : List ℕ) → Serving v v text before before 0
serving_starts v text before = record {
  done = [];
  said = [];
  answers = refl;
  written = sym (append_nil before);
  whole = refl;
  each = tt;
  place = refl;
  fills = omega arith;
}

answers_more : (old v new : View) (rs : List Request) (said : List Said) (r : Request) (a : Said) → AreAnswers old v rs said → IsAnswer v new r a → AreAnswers old new (rs ++ r ∷ []) (said ++ a ∷ [])
answers_more old v new [] [] r a h k = (new, subst (λ u. IsAnswer u new r a) h k, refl)
answers_more old v new [] (b ∷ said) r a h k = absurd h
answers_more old v new (q ∷ rs) [] r a h k = absurd h
answers_more old v new (q ∷ rs) (b ∷ said) r a h k = (h.0, h.1, answers_more h.0 v new rs said r a h.2 k)

flat_push : {X : Type 0} (f : X → List ℕ) (xs : List X) (x : X) → flat_map f (xs ++ x ∷ []) ≡ flat_map f xs ++ f x
flat_push f [] x = flat_map-cons f x [] ∙ append_nil (f x)
flat_push f (y ∷ xs) x =
    flat_map-cons f y (xs ++ x ∷ []) ∙ ap (λ z. f y ++ z) (flat_push f xs x) ∙ sym (append_assoc (f y) (flat_map f xs) (f x)) ∙ ap (λ z. z ++ f x) (sym (flat_map-cons f y xs))

fills_push : (rs : List Request) (r : Request) → fills_in (rs ++ r ∷ []) ≡ fills_in rs + fills_of r
fills_push [] r = omega arith
fills_push (q ∷ rs) r = omega (arith, fills_push rs r)

-- the text after one request more
after_one : (text : List ℕ) (at len : ℕ) (r : Request) → len ≤ length (drop at text) → take len (drop at text) ≡ request_bytes r → drop at text ≡ request_bytes r ++ drop (at + len) text
after_one text at len r h e =
    sym (take-append-drop len (drop at text)) ∙ ap (λ z. z ++ drop len (drop at text)) e ∙ ap (λ z. request_bytes r ++ z) (drop-drop len at text)

some_bytes : (r : Request) → 0 < length (request_bytes r)
some_bytes Count = omega arith
some_bytes (Root s) = omega arith
some_bytes (Fill s h) = omega arith

-- a request has a byte at least
pub some_len : (x : List ℕ) (len : ℕ) (r : Request) → len ≤ length x → take len x ≡ request_bytes r → 0 < len
some_len x len r h e = omega (arith, some_bytes r, ap length e, length-take len x, h)

-- requests so far, and one more that is asked
asked_more : (old now : View) (text before out : List ℕ) (at len : ℕ) (r : Request) (s : Serving old now text before out at) → len ≤ length (drop at text) → take len (drop at text) ≡ request_bytes r
    → text ≡ flat_map request_bytes (s.done ++ r ∷ []) ++ drop (at + len) text
asked_more old now text before out at len r s h e =
    s.whole ∙ ap (λ z. flat_map request_bytes s.done ++ z) (after_one text at len r h e) ∙ sym (append_assoc (flat_map request_bytes s.done) (request_bytes r) (drop (at + len) text))
    ∙ ap (λ z. z ++ drop (at + len) text) (sym (flat_push request_bytes s.done r))

-- with one request more a text is served up to its end
pub serving_more : (old now new : View) (text before out later : List ℕ) (at len : ℕ) (r : Request) → Serving old now text before out at → len ≤ length (drop at text) → SpellsRequest (take len (drop at text)) r
    → HasAnswered now new r out later → Serving old new text before later (at + len)
serving_more old now new text before out later at len r s h is a = record {
  done = s.done ++ r ∷ [];
  said = s.said ++ a.0 ∷ [];
  answers = answers_more old now new s.done s.said r a.0 s.answers a.2;
  written = a.1 ∙ ap (λ z. z ++ reply_bytes a.0) s.written ∙ append_assoc before (flat_map reply_bytes s.said) (reply_bytes a.0) ∙ ap (λ z. before ++ z) (sym (flat_push reply_bytes s.said a.0));
  whole = asked_more old now text before out at len r s h is.1;
  each = both_each s.done (r ∷ []) s.each (is.0, tt);
  place = omega (arith, ap length (flat_push request_bytes s.done r), length-append (flat_map request_bytes s.done) (request_bytes r), s.place, ap length is.1, length-take len (drop at text), h);
  fills = omega (arith, s.fills, a.2.fills, fills_push s.done r);
}

-- however far it came, no more fills were asked than the text has requests for
pub serving_fills : (old now : View) (text before out : List ℕ) (at : ℕ) → Serving old now text before out at → (rs : List Request) (rest : List ℕ) → Splits text rs rest → now.fills ≤ old.fills + fills_in rs
serving_fills old now text before out at s rs rest cut =
    omega (arith, s.fills, fills_prefix s.done rs (drop at text) rest s.each cut.each (sym s.whole ∙ cut.whole) cut.partial)

-- where the next request is not answered either, no more fills were asked than the text has requests for
pub serving_stops : (old now new : View) (text before out : List ℕ) (at len : ℕ) (r : Request) → Serving old now text before out at → len ≤ length (drop at text) → SpellsRequest (take len (drop at text)) r
    → new.fills ≤ now.fills + fills_of r → (rs : List Request) (rest : List ℕ) → Splits text rs rest → new.fills ≤ old.fills + fills_in rs
serving_stops old now new text before out at len r s h is more rs rest cut =
    omega (
      arith,
      s.fills,
      more,
      fills_push s.done r,
      fills_prefix (s.done ++ r ∷ []) rs (drop (at + len) text) rest (both_each s.done (r ∷ []) s.each (is.0, tt)) cut.each (sym (asked_more old now text before out at len r s h is.1) ∙ cut.whole) cut.partial,
    )

-- the text was served
pub served : (old now : View) (text before out : List ℕ) (at : ℕ) (bad : Bool) → Serving old now text before out at → (bad ≡ true → IsBadTag (drop at text)) → (bad ≡ false → IsPrefixOfRequest (drop at text))
    → IsServed old now text before out at bad
served old now text before out at bad s p q = record {
  requests = s.done;
  said = s.said;
  answers = s.answers;
  written = s.written;
  whole = s.whole;
  each = s.each;
  place = s.place;
  stops = p;
  goes_on = q;
}

request_length : (r : Request) → length (request_bytes r) ≤ 29
request_length Count = omega arith
request_length (Root s) = omega (arith, wide32.len s)
request_length (Fill s h) = omega (arith, length-append (u32_bytes s) (words_bytes h), wide32.len s, length-words h)

-- a proper prefix of a request is shorter than one
pub short_prefix : (x : List ℕ) → IsPrefixOfRequest x → length x < 29
short_prefix x f = omega (arith, f.2, request_length f.1, ap length f.3.1, length-append x f.0)

same_first : (x y : List ℕ) → 0 < length x → get_or (x ++ y) 0 0 ≡ get_or x 0 0
same_first [] y h = absurd (omega arith)
same_first (b ∷ x) y h = refl

-- a proper prefix of a request does not begin with a bad tag
prefix_not_bad : (x : List ℕ) → IsPrefixOfRequest x → IsBadTag x → ⊥
prefix_not_bad x f b = omega (arith, b.1, same_first x f.0 b.0, ap (λ l. get_or l 0 0) f.3.1, low_tag f.1 [], ap (λ l. get_or l 0 0) (append_nil (request_bytes f.1)))

module _ (old new : View) (before after : Stream) (piece text replies : List ℕ) (at : ℕ) (good : before.bad ≡ None) (text_is : text ≡ before.begun ++ piece) (place : after.at ≡ min (before.at + at) (2 ^ 64 - 1)) where
  none_bad : (n : ℕ) → before.bad ≡ Some n → ⊥
  none_bad n e = let both = sym good ∙ e in cc

  -- a piece was answered up to a bad tag
  pub fed_bad : IsServed old new text [] replies at true → after.bad ≡ Some after.at → IsFed old new before piece after replies
  fed_bad s stop = record {
    requests = s.requests;
    said = s.said;
    answers = s.answers;
    written = s.written;
    going = λ g. (
      drop at text,
      record { whole = sym text_is ∙ s.whole; each = s.each; partial = inr (s.stops refl) },
      record {
        place = place ∙ ap (λ n. min (before.at + n) (2 ^ 64 - 1)) (sym s.place);
        goes_on = λ f. absurd (prefix_not_bad (drop at text) f (s.stops refl));
        stops = λ b. stop;
      },
    );
    stopped = λ n e. absurd (none_bad n e);
  }

  -- a piece was answered up to a request that is not whole
  pub fed_more : IsServed old new text [] replies at false → after.begun ≡ drop at text → after.bad ≡ None → IsFed old new before piece after replies
  fed_more s begun none = record {
    requests = s.requests;
    said = s.said;
    answers = s.answers;
    written = s.written;
    going = λ g. (
      drop at text,
      record { whole = sym text_is ∙ s.whole; each = s.each; partial = inl (s.goes_on refl) },
      record {
        place = place ∙ ap (λ n. min (before.at + n) (2 ^ 64 - 1)) (sym s.place);
        goes_on = λ f. (begun, none);
        stops = λ b. absurd (prefix_not_bad (drop at text) (s.goes_on refl) b);
      },
    );
    stopped = λ n e. absurd (none_bad n e);
  }

some_bad : (b : Option ℕ) → is_some b ≡ true → b ≡ None → ⊥
some_bad None e f = cc
some_bad (Some n) e f = cc

-- after a bad tag nothing is answered
pub fed_nothing : (v : View) (before : Stream) (piece replies : List ℕ) → is_some before.bad ≡ true → replies ≡ [] → IsFed v v before piece before replies
fed_nothing v before piece replies bad none = record {
  requests = [];
  said = [];
  answers = refl;
  written = none;
  going = λ g. absurd (some_bad before.bad bad g);
  stopped = λ n e. (refl, refl);
}

-- where none is there
pub no_bad : (b : Option ℕ) → is_some b ≡ false → b ≡ None
no_bad None e = refl
no_bad (Some n) e = absurd cc
