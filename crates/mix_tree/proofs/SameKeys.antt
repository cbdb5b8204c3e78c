-- Sameness of nodes and by keys: it holds of a thing and itself, and what is the same as one of two same things is the same as the other.
use Rattle.std.proofs.Common.{◌≡◌, ℕ, true, List, [], ◌∷◌, refl, ◌∙◌, ap}
use Rattle.std.specs.Prelude.{◌==◌}
use Rattle.std.specs.Str.{bytes_eq}
use Rattle.std.proofs.lemmas.Bool.{and_parts, and_from, eqb-true, eq-eqb}
use Rattle.std.proofs.lemmas.Slice.Eq.{bytes_eq-Decides}
use Rattle.mix_tree.specs.Keys.{same_key, same_by}
use Rattle.mix_tree.specs.Nodes.{Documents, Node, same_node, label_at}
use Rattle.mix_tree.specs.declared.var.Key.{Key}
use Rattle.mix_tree.specs.declared.var.Key.TheVariants.{Node as node_key, LabelOf as label_key}

-- nodes that the test says are the same are one node
pub same_node-true : (a b : Node) → same_node a b ≡ true → a ≡ b
same_node-true a b h =
    let p = and_parts (a.source == b.source) (bytes_eq a.place b.place) h in
    let s : a.source ≡ b.source = eqb-true a.source b.source p.0 in
    let q : a.place ≡ b.place = (bytes_eq-Decides a.place b.place).0 p.1 in
    ap (λ (n : ℕ). record { source = n; place = a.place }) s ∙ ap (λ (n : List ℕ). record { source = b.source; place = n }) q

-- bytes are equal to themselves
pub bytes_eq-refl : (a : List ℕ) → bytes_eq a a ≡ true
bytes_eq-refl a = (bytes_eq-Decides a a).1 refl

-- a node is the same as itself
pub same_node-refl : (a : Node) → same_node a a ≡ true
same_node-refl a = and_from (a.source == a.source) (bytes_eq a.place a.place) (eq-eqb a.source a.source refl) (bytes_eq-refl a.place)

-- nodes agree with themselves by a key
same_key-refl : (docs : Documents) (k : Key) (a : ℕ → Node) → same_key docs k a a ≡ true
same_key-refl docs (node_key v) a = same_node-refl (a v)
same_key-refl docs (label_key v) a = bytes_eq-refl (label_at docs (a v))

-- nodes agree with themselves by all keys
pub same_by-refl : (docs : Documents) (ks : List Key) (a : ℕ → Node) → same_by docs ks a a ≡ true
same_by-refl docs [] a = refl
same_by-refl docs (k ∷ ks) a = and_from (same_key docs k a a) (same_by docs ks a a) (same_key-refl docs k a) (same_by-refl docs ks a)

-- what agrees by a key agrees with the same others
same_key-alike : (docs : Documents) (k : Key) (a b c : ℕ → Node) → same_key docs k a b ≡ true → same_key docs k c a ≡ same_key docs k c b
same_key-alike docs (node_key v) a b c h = ap (same_node (c v)) (same_node-true (a v) (b v) h)
same_key-alike docs (label_key v) a b c h = ap (bytes_eq (label_at docs (c v))) ((bytes_eq-Decides (label_at docs (a v)) (label_at docs (b v))).0 h)

-- what agrees by all keys agrees with the same others
pub same_by-alike : (docs : Documents) (ks : List Key) (a b c : ℕ → Node) → same_by docs ks a b ≡ true → same_by docs ks c a ≡ same_by docs ks c b
same_by-alike docs [] a b c h = refl
same_by-alike docs (k ∷ ks) a b c h =
    let p = and_parts (same_key docs k a b) (same_by docs ks a b) h in
    rw (same_key-alike docs k a b c p.0, same_by-alike docs ks a b c p.1) refl
