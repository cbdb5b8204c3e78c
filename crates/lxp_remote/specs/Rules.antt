-- The rules of lists that come over a wire, and that told sources keep them.
use Rattle.std.specs.Prelude.{◌≡◌, ℕ, ◌≤◌, ◌<◌, ◌^◌, true, false, Option, Some, None}
use Rattle.lxp_core.specs.declared.open_tree.HoleId.{HoleId}
use Rattle.lxp_core.specs.Open.{IsApart, IsProgress, is_nil, has_node}
use Rattle.lxp_core.specs.View.{View}
use Rattle.lxp_remote.specs.declared.fault.Broken.{Broken}
use Rattle.lxp_remote.specs.declared.fault.Broken.TheVariants.{NotAReply, WrongReply, TooDeep, HolesOnly, AdjacentHoles, Weight, WeightChanged}
use Rattle.wire_text.specs.Wired.{Wired, without_weights, total_of, holes_of}
use Rattle.lxp_remote.specs.Known.{IsChanged}
use Rattle.lxp_wire.specs.Answer.{IsListOf}

-- a sum of 128 bits; none, where it is greater
abbrev pub SumsTo : Option ℕ → ℕ → Type 0
SumsTo (Some n) sum = n ≡ sum
SumsTo None sum = 2 ^ 128 ≤ sum

-- a list breaks a rule of progress or weight, and none that stands before it
abbrev pub Breaks : Wired → ℕ → Broken → Type 0
Breaks o weight NotAReply = ⊥
Breaks o weight WrongReply = ⊥
Breaks o weight TooDeep = ⊥
Breaks o weight HolesOnly = (is_nil (without_weights o) ≡ false) × (has_node (without_weights o) ≡ false)
Breaks o weight AdjacentHoles = (is_nil (without_weights o) ≡ false → has_node (without_weights o) ≡ true) × (IsApart (without_weights o) → ⊥)
Breaks o weight Weight = IsProgress (without_weights o) × (weight < total_of o)
Breaks o weight WeightChanged = ⊥

-- a list keeps these rules
abbrev pub KeepsRules : Wired → ℕ → Type 0
KeepsRules o weight = IsProgress (without_weights o) × (total_of o ≤ weight)

-- what told sources answer breaks no rule, where each hole is known by its weight there
abbrev pub ToldListsKeepRules : Type 0
ToldListsKeepRules = (old new : View) (s : ℕ) (h : HoleId) (o : Wired) (known : HoleId → Option ℕ) → IsListOf old new s h o → ((i : HoleId) (n : ℕ) → known i ≡ Some n → n ≡ new.weight s i)
    → KeepsRules o (old.weight s h) × (IsChanged known (holes_of o) → ⊥)
