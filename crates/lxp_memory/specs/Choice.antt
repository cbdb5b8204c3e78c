-- What a byte says of how a list is cut.
use Rattle.std.specs.Prelude.{◌≡◌, ℕ, ◌<◌, ◌+◌, ◌/◌, ◌%◌, Bool, false, ◌==◌, ◌||◌, nat_lt, if◌then◌else◌}
use Rattle.lxp_memory.specs.declared.choice.Choice.{Choice}

-- a list may be cut so: there is room for a child, and no child is skipped without a hole for it
pub record IsChoice (choice : Choice) : Type 0 where
  pub some : 0 < choice.most
  pub held : choice.leads ≡ false → choice.skipped ≡ 0

-- whether a list begins with a hole: by bit 0, and never where the source is forward
abbrev pub leads_of : ℕ → Bool → Bool
leads_of byte forward = if forward then false else byte % 2 == 1

-- the parts of a byte, from its lowest bit on
abbrev pub choice_of : ℕ → Bool → Choice
choice_of byte forward = record {
  leads = leads_of byte forward;
  skipped = if leads_of byte forward then byte / 64 else 0;
  most = 1 + byte / 8 % 8;
  trails = byte / 2 % 2 == 1;
  whole = byte / 4 % 2 == 1;
}

-- lists of at most so many children, whole or not, with a hole after them where more remain
abbrev pub in_chunks : ℕ → Bool → Choice
in_chunks most whole = record { leads = false; skipped = 0; most = most; trails = false; whole = whole }

-- whether a hole is to stand for so many children: where there are some, or the choice has one also for none
abbrev pub wants_hole : Choice → ℕ → Bool
wants_hole choice count = choice.trails || nat_lt 0 count

-- whose turn it is after a turn, of so many in a circle
abbrev pub turn_after : ℕ → ℕ → ℕ
turn_after count turn = if nat_lt (turn + 1) count then turn + 1 else 0
