-- Profiles: bounds on what it costs to go from stop to stop of a list, and how those of a list follow from those of its parts.
use Rattle.std.specs.Prelude.{List, [], ◌∷◌, Bool, true, false, not, ◌&&◌, ◌||◌, cond, ℕ, Option, Some, None}
use Rattle.browse_profile.specs.declared.profile.Profile.{Profile}
use Rattle.browse_profile.specs.declared.profile.Most.{Most}
use Rattle.browse_profile.specs.declared.profile.Most.TheVariants.{Never, Once, Many}
use Rattle.browse_profile.specs.Bounds.{larger, sum, less_one, only_if, all_replaced}

-- whether there can be a stop in a list
abbrev pub may : Most → Bool
may Never = false
may Once = true
may Many = true

-- whether there can be several stops in a list
abbrev pub many : Most → Bool
many Never = false
many Once = false
many Many = true

-- how many stops there can be in one list after another
abbrev pub added : Most → Most → Most
added Never m = m
added Once Never = Once
added Once Once = Many
added Once Many = Many
added Many m = Many

-- how many stops there can be in either of two lists
abbrev pub greater : Most → Most → Most
greater Never m = m
greater Once Never = Once
greater Once Once = Once
greater Once Many = Many
greater Many m = Many

-- the profile of one skip
abbrev pub one_skip : Profile
one_skip = record { lead = Some 0; between = Some 0; trail = Some 0; none = Some 1; all = Some 1; sure = false; most = Never }

-- the profile of one binding
abbrev pub one_binding : Profile
one_binding = record { lead = Some 1; between = Some 0; trail = Some 0; none = Some 0; all = Some 1; sure = true; most = Once }

-- the profile of which nothing is known
abbrev pub unbounded : Profile
unbounded = record { lead = None; between = None; trail = None; none = None; all = None; sure = false; most = Many }

-- the profile of no events at all
abbrev pub costless : Profile
costless = record { lead = Some 0; between = Some 0; trail = Some 0; none = Some 0; all = Some 0; sure = false; most = Never }

-- the profile of one list and then another
abbrev pub in_turn : Profile → Profile → Profile
in_turn a b = record {
  lead = larger a.lead (only_if (not a.sure && may b.most) (sum a.none b.lead));
  between = larger (larger a.between b.between) (only_if (may a.most && may b.most) (sum a.trail b.lead));
  trail = larger b.trail (only_if (may a.most && not b.sure) (sum a.trail b.none));
  none = only_if (not a.sure && not b.sure) (sum a.none b.none);
  all = sum a.all b.all;
  sure = a.sure || b.sure;
  most = added a.most b.most;
}

-- the profile of either of two lists
abbrev pub one_of : Profile → Profile → Profile
one_of a b = record {
  lead = larger a.lead b.lead;
  between = larger a.between b.between;
  trail = larger a.trail b.trail;
  none = larger a.none b.none;
  all = larger a.all b.all;
  sure = a.sure && b.sure;
  most = greater a.most b.most;
}

-- the profile of any number of lists, each of which has a stop
abbrev pub repeated_sure : Profile → Profile
repeated_sure a = record { lead = a.lead; between = larger a.between (sum a.trail a.lead); trail = a.trail; none = Some 0; all = None; sure = false; most = Many }

-- the profile of any number of lists
abbrev pub repeated : Profile → Profile
repeated a = cond a.sure (repeated_sure a) unbounded

-- the profile of a list each stop of which is replaced by a list that has a stop
abbrev pub replaced_sure : Profile → Profile → Profile
replaced_sure i p = record {
  lead = sum (less_one i.lead) p.lead;
  between = larger p.between (only_if (many i.most) (sum (sum p.trail (less_one i.between)) p.lead));
  trail = sum p.trail i.trail;
  none = i.none;
  all = i.all;
  sure = i.sure;
  most = cond (many i.most) Many p.most;
}

-- the profile of a list whose one stop is replaced by a list
abbrev pub replaced_once : Profile → Profile → Profile
replaced_once i p = record {
  lead = only_if (may p.most) (sum (less_one i.lead) p.lead);
  between = p.between;
  trail = only_if (may p.most) (sum p.trail i.trail);
  none = larger i.none (sum (sum (less_one i.lead) p.none) i.trail);
  all = i.all;
  sure = false;
  most = p.most;
}

-- the profile of a list each stop of which is replaced by a list, by the number of stops
abbrev pub replaced_by : Most → Profile → Profile → Profile
replaced_by Never i p = i
replaced_by Once i p = cond p.sure (replaced_sure i p) (replaced_once i p)
replaced_by Many i p = cond p.sure (replaced_sure i p) unbounded

-- a profile with another bound on the cost of all
abbrev pub with_all : Option ℕ → Profile → Profile
with_all x p = record { lead = p.lead; between = p.between; trail = p.trail; none = p.none; all = x; sure = p.sure; most = p.most }

-- the profile of a list each stop of which is replaced by a list
abbrev pub replaced : Profile → Profile → Profile
replaced i p = with_all (all_replaced i.all p.all) (replaced_by i.most i p)

-- the profile of a list whose one stop may be passed over
abbrev pub passed_once : Profile → Profile
passed_once i = record { lead = i.lead; between = i.between; trail = i.trail; none = larger i.none (sum i.lead i.trail); all = i.all; sure = false; most = i.most }

-- the profile of a list whose stops may be passed over, by the number of stops
abbrev pub passed_by : Most → Profile → Profile
passed_by Never i = i
passed_by Once i = passed_once i
passed_by Many i = with_all i.all unbounded

-- the profile of a list whose stops may be passed over
abbrev pub passed : Profile → Profile
passed i = passed_by i.most i

-- the profile of a list whose stops but the first may be passed over
abbrev pub first_kept : Profile → Profile
first_kept i = record { lead = i.lead; between = None; trail = None; none = i.none; all = i.all; sure = i.sure; most = i.most }

-- the profile of a list's first stop alone, where there can be several
abbrev pub once_of_many : Profile → Profile
once_of_many p = record { lead = p.lead; between = Some 0; trail = less_one p.all; none = p.none; all = p.all; sure = p.sure; most = Once }

-- the profile of a list's first stop alone
abbrev pub once : Profile → Profile
once p = cond (many p.most) (once_of_many p) p

-- the greatest of the four numbers from stop to stop
abbrev pub greatest : Profile → Option ℕ
greatest p = larger (larger p.lead p.between) (larger p.trail p.none)

-- the profile of any of the lists that members give; a skip where there is none
abbrev pub any_of : {X : Type 0} → (X → Profile) → List X → Profile
any_of f [] = one_skip
any_of f (x ∷ []) = f x
any_of f (x ∷ y ∷ xs) = one_of (f x) (any_of f (y ∷ xs))
