-- The canonical text of a path: parentheses only where it needs them, and labels bare where they are names.
use Rattle.std.specs.Prelude.{◌≡◌, ℕ, Bool, true, false, cond, List, [], ◌∷◌, ◌++◌}
use Rattle.std.specs.Str.{bytes_eq}
use Rattle.std.specs.List.{list_all}
use Rattle.mix_tree.specs.Spelling.{quoted}
use Rattle.mix_tree.specs.Names.{is_name_byte}
use Rattle.path_expr.specs.Form.{Head, name, any, seq, alt, star, plus, opt, Paths, none, path, Form}

-- whether a label is a name other than _
abbrev pub is_plain_name : List ℕ → Bool
is_plain_name [] = false
is_plain_name (b ∷ l) = cond (bytes_eq (b ∷ l) (95 ∷ [])) false (list_all is_name_byte (b ∷ l))

-- a label as it stands in a path
abbrev pub canon_label : List ℕ → List ℕ
canon_label l = cond (is_plain_name l) l (quoted l)

-- a member: its head and its text
pub record Member : Type 0 where
  pub head : Head
  pub text : List ℕ

-- which members stand in parentheses in a sequence: sequences and choices
abbrev pub wraps_in_seq : Head → Bool
wraps_in_seq (name l) = false
wraps_in_seq any = false
wraps_in_seq seq = true
wraps_in_seq alt = true
wraps_in_seq star = false
wraps_in_seq plus = false
wraps_in_seq opt = false

-- which members stand in parentheses in a choice: choices
abbrev pub wraps_in_alt : Head → Bool
wraps_in_alt (name l) = false
wraps_in_alt any = false
wraps_in_alt seq = false
wraps_in_alt alt = true
wraps_in_alt star = false
wraps_in_alt plus = false
wraps_in_alt opt = false

-- which members stand in parentheses under a mark: all but names and _
abbrev pub wraps_in_mark : Head → Bool
wraps_in_mark (name l) = false
wraps_in_mark any = false
wraps_in_mark seq = true
wraps_in_mark alt = true
wraps_in_mark star = true
wraps_in_mark plus = true
wraps_in_mark opt = true

-- a text with parentheses round it, or without
abbrev pub parenthesized : Bool → List ℕ → List ℕ
parenthesized false x = x
parenthesized true x = 40 ∷ x ++ 41 ∷ []

-- the text of a member among others, in parentheses where its head stands in them
abbrev pub canon_member : (Head → Bool) → Member → List ℕ
canon_member wraps m = parenthesized (wraps m.head) m.text

-- the members after the first, each with a separator before it
abbrev pub canon_rest : (Head → Bool) → ℕ → List Member → List ℕ
canon_rest wraps separator [] = []
canon_rest wraps separator (m ∷ ms) = separator ∷ canon_member wraps m ++ canon_rest wraps separator ms

-- members with a separator between them
abbrev pub canon_between : (Head → Bool) → ℕ → List Member → List ℕ
canon_between wraps separator [] = []
canon_between wraps separator (m ∷ ms) = canon_member wraps m ++ canon_rest wraps separator ms

-- the one member that stands under a mark
abbrev pub canon_only : List Member → List ℕ
canon_only [] = []
canon_only (m ∷ ms) = canon_member wraps_in_mark m

-- the text by the head, over the members
abbrev pub canon_by : Head → List Member → List ℕ
canon_by (name l) ms = canon_label l
canon_by any ms = 95 ∷ []
canon_by seq ms = canon_between wraps_in_seq 46 ms
canon_by alt ms = canon_between wraps_in_alt 124 ms
canon_by star ms = canon_only ms ++ 42 ∷ []
canon_by plus ms = canon_only ms ++ 43 ∷ []
canon_by opt ms = canon_only ms ++ 63 ∷ []

-- the paths of a list as members, each with its canonical text
abbrev pub members_of : Paths → List Member
members_of none = []
members_of (path head members after) = record { head = head; text = canon_by head (members_of members) } ∷ members_of after

-- the canonical text of a path
abbrev pub canon : Form → List ℕ
canon v = canon_by v.head (members_of v.members)

-- as many members as the head has: none under a label, two or more in a sequence or a choice, one under a mark
abbrev pub HasMembers : Head → Paths → Type 0
HasMembers (name l) ps = ps ≡ none
HasMembers any ps = ps ≡ none
HasMembers seq none = ⊥
HasMembers seq (path h m none) = ⊥
HasMembers seq (path h m (path i n after)) = Unit {0}
HasMembers alt none = ⊥
HasMembers alt (path h m none) = ⊥
HasMembers alt (path h m (path i n after)) = Unit {0}
HasMembers star none = ⊥
HasMembers star (path h m after) = after ≡ none
HasMembers plus none = ⊥
HasMembers plus (path h m after) = after ≡ none
HasMembers opt none = ⊥
HasMembers opt (path h m after) = after ≡ none

-- each of these paths has as many members as its head has, and so have all paths below
abbrev pub AreFormed : Paths → Type 0
AreFormed none = Unit {0}
AreFormed (path head members after) = HasMembers head members × AreFormed members × AreFormed after

-- no sequence or choice of the path has fewer than two members: what a text can spell
abbrev pub IsFormed : Form → Type 0
IsFormed v = HasMembers v.head v.members × AreFormed v.members
