-- A path as a list of heads, by which a proof tells two of them apart.
use Rattle.std.specs.Prelude.{◌≡◌, ℕ, zero, suc, List, [], ◌∷◌, ◌++◌, Option, Some, None}
use Rattle.std.proofs.Common.{ap, ◌∙◌, refl, sym}
use Rattle.std.specs.Coded.{Coded, code_by, coded×, coded_ℕ, coded_list, coded_option}
use Rattle.path_expr.specs.Form.{Head, name, any, seq, alt, star, plus, opt, Paths, none, path, Form}

-- a head as a number and a label
abbrev pub head_code : Head → ℕ × List ℕ
head_code (name l) = (0, l)
head_code any = (1, [])
head_code seq = (2, [])
head_code alt = (3, [])
head_code star = (4, [])
head_code plus = (5, [])
head_code opt = (6, [])

-- the head of a number and a label
abbrev pub head_from : ℕ → List ℕ → Head
head_from zero l = name l
head_from (suc zero) l = any
head_from (suc (suc zero)) l = seq
head_from (suc (suc (suc zero))) l = alt
head_from (suc (suc (suc (suc zero)))) l = star
head_from (suc (suc (suc (suc (suc zero))))) l = plus
head_from (suc (suc (suc (suc (suc (suc n)))))) l = opt

-- a head's number and label stand for it
pub head_again : (h : Head) → head_from (head_code h).0 (head_code h).1 ≡ h
head_again (name l) = refl
head_again any = refl
head_again seq = refl
head_again alt = refl
head_again star = refl
head_again plus = refl
head_again opt = refl

-- the code of a head
abbrev pub coded_head : Coded Head
coded_head = code_by (ℕ × List ℕ) (coded× coded_ℕ (coded_list coded_ℕ)) head_code (λ c. head_from c.0 c.1) head_again

-- each head, the members and the paths after it, of which each ends in None
abbrev pub path_codes : Paths → List (Option Head)
path_codes none = None ∷ []
path_codes (path head members after) = Some head ∷ path_codes members ++ path_codes after

-- the first two lists become one, under a head
abbrev pub with_head : Head → List Paths → List Paths
with_head head [] = []
with_head head (members ∷ []) = []
with_head head (members ∷ after ∷ rest) = path head members after ∷ rest

-- the lists of paths that a list of heads stands for
abbrev pub paths_from : List (Option Head) → List Paths
paths_from [] = []
paths_from (None ∷ codes) = none ∷ paths_from codes
paths_from (Some head ∷ codes) = with_head head (paths_from codes)

-- the first of some lists of paths; no paths where there is none
abbrev pub first_paths : List Paths → Paths
first_paths [] = none
first_paths (p ∷ rest) = p

-- of three lists, the first two or the last two may be joined first
append_assoc' : (a b c : List (Option Head)) → (a ++ b) ++ c ≡ a ++ (b ++ c)
append_assoc' [] b c = refl
append_assoc' (x ∷ a) b c = ap (λ r. x ∷ r) (append_assoc' a b c)

-- the heads of paths stand for them, whatever comes after
pub paths_from-codes : (p : Paths) (rest : List (Option Head)) → paths_from (path_codes p ++ rest) ≡ p ∷ paths_from rest
paths_from-codes none rest = refl
paths_from-codes (path head members after) rest =
    ap (λ c. with_head head (paths_from c)) (append_assoc' (path_codes members) (path_codes after) rest)
    ∙ ap (with_head head) (paths_from-codes members (path_codes after ++ rest) ∙ ap (λ fs. members ∷ fs) (paths_from-codes after rest))

-- nothing after a list changes nothing
append_nil' : (a : List (Option Head)) → a ++ [] ≡ a
append_nil' [] = refl
append_nil' (x ∷ a) = ap (λ r. x ∷ r) (append_nil' a)

-- the heads of paths stand for them
pub first_paths-codes : (p : Paths) → first_paths (paths_from (path_codes p)) ≡ p
first_paths-codes p =
    ap (λ c. first_paths (paths_from c)) (sym' (append_nil' (path_codes p))) ∙ ap first_paths (paths_from-codes p [])
  where
    sym' : {A : Type 0} {x y : A} → x ≡ y → y ≡ x
    sym' e = Rattle.std.proofs.Common.sym e

-- the code of a list of paths
abbrev pub coded_paths : Coded Paths
coded_paths = code_by (List (Option Head)) (coded_list (coded_option coded_head)) path_codes (λ c. first_paths (paths_from c)) first_paths-codes

-- the code of a path
abbrev pub coded_form : Coded Form
coded_form = code_by (Head × Paths) (coded× coded_head coded_paths) (λ p. (p.head, p.members)) (λ c. record { head = c.0; members = c.1 }) (λ _. refl)
