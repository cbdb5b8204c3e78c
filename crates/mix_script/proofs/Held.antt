-- What names hold after those of one client have changed.
use Rattle.std.proofs.Common.{◌≡◌, ◌<◌, ◌∙◌, ℕ, Bool, true, false, cond, ◌&&◌, List, [], ◌∷◌, Option, Some, None, refl, sym, ap, option_and_then, IsSome, subst, arith, length}
use Rattle.std.proofs.lemmas.Map.Text.{is_eq-slice_cmp}
use Rattle.std.proofs.lemmas.Slice.Eq.{bytes_eq-Decides}
use Rattle.std.specs.Ordering.{nat_cmp, is_eq}
use Rattle.std.specs.Str.{bytes_eq}
use Rattle.std.specs.Cmp.Lexicographic.{slice_cmp}
use Rattle.std.specs.Map.{lookup}
use Rattle.std.specs.BTreeMap.{BTreeMap, get, Updates, WritesThrough}
use Rattle.mix_script.specs.Names.{NamesOf, with_name, HasNamed}

-- the names of one client, with what they hold
abbrev Own : Type 0 → Type 0
Own V = BTreeMap (List ℕ) V

module _ {V : Type 0} where
  -- what one client's name holds
  abbrev own_held : Own V → List ℕ → Option V
  own_held own name = get (slice_cmp nat_cmp) own name

  -- what the names of a client hold that is there or not
  abbrev maybe_held : Option (Own V) → List ℕ → Option V
  maybe_held own name = option_and_then (λ (o : Own V). own_held o name) own

  -- the names of a client
  abbrev own_in : Own V → BTreeMap (List ℕ) (Own V) → List ℕ → Option (Own V)
  own_in plain m [] = Some plain
  own_in plain m (b ∷ bs) = get (slice_cmp nat_cmp) m (b ∷ bs)

  -- what the names of all clients hold
  abbrev held_in : Own V → BTreeMap (List ℕ) (Own V) → NamesOf V
  held_in plain m client name = maybe_held (own_in plain m client) name

  -- one client's names are given ones after a change, and those of the others are what they were
  abbrev HasOwn : (before after : List ℕ → Option (Own V)) → List ℕ → Own V → Type 0
  HasOwn before after client own = (c : List ℕ) → after c ≡ cond (bytes_eq client c) (Some own) (before c)

  -- an update of one key in a client's names lets that name hold the value, and the others what they held
  pub named : (m n : Own V) (name : List ℕ) (value : Option V) → Updates (slice_cmp nat_cmp) m n name value → HasNamed m n name value
  named m n name value u q = u.0 q ∙ ap (λ b. cond b value (own_held m q)) (is_eq-slice_cmp name q)

  -- entries that are the same hold the same
  same_held : (m n : Own V) → n.entries ≡ m.entries → (q : List ℕ) → own_held n q ≡ own_held m q
  same_held m n e q = ap (lookup (λ k. is_eq (slice_cmp nat_cmp q k))) e

  -- the client without a name has other names
  own_plain : (plain own : Own V) (m : BTreeMap (List ℕ) (Own V)) → HasOwn (own_in plain m) (own_in own m) [] own
  own_plain plain own m [] = refl
  own_plain plain own m (b ∷ bs) = refl

  -- where a client with a name gets other names, it has these and the others have theirs
  own_other : (plain own : Own V) (m n : BTreeMap (List ℕ) (Own V)) (client : List ℕ) → 0 < length client → Updates (slice_cmp nat_cmp) m n client (Some own)
      → HasOwn (own_in plain m) (own_in plain n) client own
  own_other plain own m n [] some u [] = absurd (omega (arith, some))
  own_other plain own m n (d ∷ ds) some u [] = refl
  own_other plain own m n client some u (b ∷ bs) =
      u.0 (b ∷ bs) ∙ ap (λ t. cond t (Some own) (get (slice_cmp nat_cmp) m (b ∷ bs))) (is_eq-slice_cmp client (b ∷ bs))

  module _ (before after : List ℕ → Option (Own V)) (client : List ℕ) (own : Own V) (has : HasOwn before after client own) where
    -- where one client's names have changed in one, so have all names
    changed : (name : List ℕ) (value : Option V) → ((q : List ℕ) → own_held own q ≡ cond (bytes_eq name q) value (maybe_held (before client) q))
        → ◌≡◌ {A = NamesOf V} (λ c q. maybe_held (after c) q) (with_name (λ c q. maybe_held (before c) q) client name value)
    changed name value inner = λ i c q. at c q i
      where
        at : (c q : List ℕ) → maybe_held (after c) q ≡ with_name (λ c q. maybe_held (before c) q) client name value c q
        at c q = ap (λ o. maybe_held o q) (has c) ∙ split (bytes_eq client c) (λ h. (bytes_eq-Decides client c).0 h)
          where
            split : (b : Bool) → (b ≡ true → client ≡ c) → maybe_held (cond b (Some own) (before c)) q ≡ cond (b && bytes_eq name q) value (maybe_held (before c) q)
            split true same = inner q ∙ ap (λ k. cond (bytes_eq name q) value (maybe_held (before k) q)) (same refl)
            split false same = refl

    -- where one client's names hold what they held, so do all names
    unchanged : ((q : List ℕ) → own_held own q ≡ maybe_held (before client) q) → ◌≡◌ {A = NamesOf V} (λ c q. maybe_held (after c) q) (λ c q. maybe_held (before c) q)
    unchanged inner = λ i c q. at c q i
      where
        at : (c q : List ℕ) → maybe_held (after c) q ≡ maybe_held (before c) q
        at c q = ap (λ o. maybe_held o q) (has c) ∙ split (bytes_eq client c) (λ h. (bytes_eq-Decides client c).0 h)
          where
            split : (b : Bool) → (b ≡ true → client ≡ c) → maybe_held (cond b (Some own) (before c)) q ≡ maybe_held (before c) q
            split true same = inner q ∙ ap (λ k. maybe_held (before k) q) (same refl)
            split false same = refl

  -- where a name of the client without a name gets a value, all names hold what they held but for that one
  pub plain_named : (plain own : Own V) (m : BTreeMap (List ℕ) (Own V)) (client name : List ℕ) (value : Option V) → client ≡ [] → HasNamed plain own name value
      → held_in own m ≡ with_name (held_in plain m) client name value
  plain_named plain own m client name value none h =
      changed (own_in plain m) (own_in own m) [] own (own_plain plain own m) name value h ∙ ap (λ c. with_name (held_in plain m) c name value) (sym none)

  -- where the client without a name keeps its entries, all names hold what they held
  pub plain_kept : (plain own : Own V) (m : BTreeMap (List ℕ) (Own V)) → own.entries ≡ plain.entries → held_in own m ≡ held_in plain m
  plain_kept plain own m e = unchanged (own_in plain m) (own_in own m) [] own (own_plain plain own m) (same_held plain own e)

  -- the names of a client that has one
  own_known : (plain old : Own V) (m : BTreeMap (List ℕ) (Own V)) (client : List ℕ) → 0 < length client → Some old ≡ get (slice_cmp nat_cmp) m client → Some old ≡ own_in plain m client
  own_known plain old m [] some known = absurd (omega (arith, some))
  own_known plain old m (b ∷ bs) some known = known

  -- where a name of a client with a name gets a value in that client's own names, all names hold what they held but for that one
  pub other_named : (plain old own : Own V) (m n : BTreeMap (List ℕ) (Own V)) (client name : List ℕ) (value : Option V) → 0 < length client → Some old ≡ get (slice_cmp nat_cmp) m client
      → HasNamed old own name value → WritesThrough (slice_cmp nat_cmp) (slice_cmp nat_cmp client) m own n → held_in plain n ≡ with_name (held_in plain m) client name value
  other_named plain old own m n client name value some known h w =
      changed (own_in plain m) (own_in plain n) client own (own_other plain own m n client some (w.3 (subst IsSome known refl))) name value
      (λ q. h q ∙ ap (λ o. cond (bytes_eq name q) value (maybe_held o q)) (own_known plain old m client some known))

  -- where a client with a name keeps its entries, all names hold what they held
  pub other_kept : (plain old own : Own V) (m n : BTreeMap (List ℕ) (Own V)) (client : List ℕ) → 0 < length client → Some old ≡ get (slice_cmp nat_cmp) m client → own.entries ≡ old.entries
      → WritesThrough (slice_cmp nat_cmp) (slice_cmp nat_cmp client) m own n → held_in plain n ≡ held_in plain m
  other_kept plain old own m n client some known e w =
      unchanged (own_in plain m) (own_in plain n) client own (own_other plain own m n client some (w.3 (subst IsSome known refl)))
      (λ q. same_held old own e q ∙ ap (λ o. maybe_held o q) (own_known plain old m client some known))

  -- a value that is written through what was lent for a name is what that name holds, and the others hold what they held
  pub named_through : (m n : Own V) (name : List ℕ) (old value : V) → Some old ≡ get (slice_cmp nat_cmp) m name → WritesThrough (slice_cmp nat_cmp) (slice_cmp nat_cmp name) m value n → HasNamed m n name (Some value)
  named_through m n name old value known w = named m n name (Some value) (w.3 (subst IsSome known refl))

  -- a name that wasn't there holds the value that is put under it, and the others what they held
  pub named_new : (m kept n : Own V) (key name : List ℕ) (value : Option V) → kept ≡ m → key ≡ name → Updates (slice_cmp nat_cmp) kept n key value → HasNamed m n name value
  named_new m kept n key name value same e u =
      named m n name value (subst (λ (k : Own V). Updates (slice_cmp nat_cmp) k n name value) same (subst (λ k. Updates (slice_cmp nat_cmp) kept n k value) e u))

  -- where a client that had no names gets some, of which one has a value, all names hold what they held but for that one
  pub other_new : (plain empty own : Own V) (m kept n : BTreeMap (List ℕ) (Own V)) (fresh client name : List ℕ) (value : Option V) → 0 < length client → None ≡ get (slice_cmp nat_cmp) m client
      → kept ≡ m → empty.entries ≡ [] → fresh ≡ client → HasNamed empty own name value → Updates (slice_cmp nat_cmp) kept n fresh (Some own) → held_in plain n ≡ with_name (held_in plain m) client name value
  other_new plain empty own m kept n fresh client name value some unknown same nothing d h u =
      let to : Updates (slice_cmp nat_cmp) m n client (Some own) = subst (λ (k : BTreeMap (List ℕ) (Own V)). Updates (slice_cmp nat_cmp) k n client (Some own)) same
      (subst (λ c. Updates (slice_cmp nat_cmp) kept n c (Some own)) d u) in
      changed (own_in plain m) (own_in plain n) client own (own_other plain own m n client some to) name value
      (λ q. h q ∙ ap (cond (bytes_eq name q) value) (ap (lookup (λ k. is_eq (slice_cmp nat_cmp q k))) nothing ∙ ap (λ o. maybe_held o q) (unknown_own client some unknown)))
    where
      unknown_own : (c : List ℕ) → 0 < length c → None ≡ get (slice_cmp nat_cmp) m c → None ≡ own_in plain m c
      unknown_own [] some unknown = absurd (omega (arith, some))
      unknown_own (b ∷ bs) some unknown = unknown
