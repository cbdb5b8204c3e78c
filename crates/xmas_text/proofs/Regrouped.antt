-- The text of a spot with a gap and a token after it, part by part.
use Rattle.std.proofs.Common.{◌≡◌, ℕ, List, [], ◌++◌, append_assoc}
use Rattle.mix_base.proofs.Lists.{append_nil}

-- a text of four parts with a gap and a token after it, its first four parts joined first
pub after_base : (lead c o x g t : List ℕ) → lead ++ (c ++ (o ++ (x ++ (g ++ t)))) ≡ (lead ++ (c ++ (o ++ x))) ++ (g ++ t)
after_base lead c o x g t = simp append_assoc

-- a text with an opening tag after it, part by part
pub open_text : (lead c o x g t : List ℕ) → lead ++ (c ++ ((o ++ (x ++ (g ++ t))) ++ [])) ≡ (lead ++ (c ++ (o ++ x))) ++ (g ++ t)
open_text lead c o x g t = simp (append_assoc, append_nil)

-- a text with a closing tag after it, part by part
pub close_text : (lead c o b e p n q x g t : List ℕ) → lead ++ (c ++ (o ++ (b ++ (e ++ (p ++ (n ++ (q ++ (x ++ (g ++ t))))))))) ≡ (lead ++ (c ++ ((o ++ (b ++ (e ++ (p ++ (n ++ q))))) ++ x))) ++ (g ++ t)
close_text lead c o b e p n q x g t = simp append_assoc

-- a text with a variable after it, part by part
pub var_text : (lead c o x g t : List ℕ) → lead ++ (c ++ (o ++ (x ++ (g ++ (t ++ []))))) ≡ (lead ++ (c ++ (o ++ x))) ++ (g ++ t)
var_text lead c o x g t = simp (append_assoc, append_nil)

-- a text with WHERE after it, part by part
pub where_after : (lead c x g w : List ℕ) → (lead ++ (c ++ (x ++ (g ++ w)))) ++ [] ≡ (lead ++ (c ++ x)) ++ (g ++ w)
where_after lead c x g w = simp (append_assoc, append_nil)

-- a text with `label` and a variable after it, part by part
pub label_after : (lead c o x h l g t : List ℕ) → lead ++ (c ++ (o ++ (x ++ (h ++ ((l ++ (g ++ t)) ++ []))))) ≡ ((lead ++ (c ++ (o ++ x))) ++ (h ++ l)) ++ (g ++ t)
label_after lead c o x h l g t = simp (append_assoc, append_nil)

-- a text inside a group label, part by part
pub key_after : (base h p k g t : List ℕ) → base ++ (h ++ (p ++ (k ++ (g ++ t)))) ≡ (base ++ (h ++ (p ++ k))) ++ (g ++ t)
key_after base h p k g t = simp append_assoc

-- a text after a group label, part by part
pub brace_after : (lead c o x h p k g t : List ℕ) → lead ++ (c ++ (o ++ (x ++ (h ++ (p ++ (k ++ (g ++ t))))))) ≡ ((lead ++ (c ++ (o ++ x))) ++ (h ++ (p ++ k))) ++ (g ++ t)
brace_after lead c o x h p k g t = simp append_assoc

-- a text with a key after a comma, part by part
pub more_after : (base h p k e m g t : List ℕ) → base ++ (h ++ (p ++ (k ++ (e ++ (m ++ (g ++ t)))))) ≡ (base ++ (h ++ (p ++ (k ++ (e ++ m))))) ++ (g ++ t)
more_after base h p k e m g t = simp append_assoc

-- a text with `label` after a comma, part by part
pub comma_label : (base h p k e m g t : List ℕ) → base ++ (h ++ (p ++ (k ++ ((e ++ m) ++ (g ++ t))))) ≡ (base ++ (h ++ (p ++ (k ++ (e ++ m))))) ++ (g ++ t)
comma_label base h p k e m g t = simp append_assoc

-- a text with a variable after `label` in a group label, part by part
pub place_after : (base h p k e m l g t : List ℕ) → base ++ (h ++ (p ++ (k ++ (e ++ (m ++ (l ++ (g ++ t))))))) ≡ (base ++ (h ++ (p ++ (k ++ (e ++ (m ++ l)))))) ++ (g ++ t)
place_after base h p k e m l g t = simp append_assoc

-- a text of two parts with a gap and a token after it, part by part
pub two_after : (a b g t : List ℕ) → a ++ (b ++ (g ++ t)) ≡ (a ++ b) ++ (g ++ t)
two_after a b g t = simp append_assoc

-- a text of four parts with a gap and a token after it, part by part
pub four_after : (a b h s g t : List ℕ) → a ++ (b ++ (h ++ (s ++ (g ++ t)))) ≡ (a ++ (b ++ (h ++ s))) ++ (g ++ t)
four_after a b h s g t = simp append_assoc

-- a text of six parts with a gap and a token after it, part by part
pub six_after : (a b h s e p g t : List ℕ) → a ++ (b ++ (h ++ (s ++ (e ++ (p ++ (g ++ t)))))) ≡ (a ++ (b ++ (h ++ (s ++ (e ++ p))))) ++ (g ++ t)
six_after a b h s e p g t = simp append_assoc

-- a text with BY after it, part by part
pub order_after : (a b c d g t : List ℕ) → a ++ (b ++ (c ++ (d ++ (g ++ t)))) ≡ (a ++ (b ++ (c ++ d))) ++ (g ++ t)
order_after a b c d g t = simp append_assoc

-- a text with the variable that orders after it, part by part
pub by_after : (a b c d e f g t : List ℕ) → a ++ (b ++ (c ++ (d ++ (e ++ (f ++ (g ++ t)))))) ≡ (a ++ (b ++ (c ++ (d ++ (e ++ f))))) ++ (g ++ t)
by_after a b c d e f g t = simp append_assoc

-- a text with DESC after it, part by part
pub sorted_after : (a b o g t : List ℕ) → a ++ (b ++ (o ++ (g ++ t))) ≡ (a ++ (b ++ o)) ++ (g ++ t)
sorted_after a b o g t = simp append_assoc
