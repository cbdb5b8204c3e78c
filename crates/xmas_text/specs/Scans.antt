-- What a scan keeps of a state, and how it goes on.
use Rattle.std.specs.Prelude.{◌+◌, ℕ, Bool, true, false, cond, ◌||◌, nat_lt, max, List, [], ◌∷◌, length, Option, Some, None, option_map}
use Rattle.xmas_tokens.specs.declared.token.Kind.{Kind}
use Rattle.xmas_tokens.specs.declared.token.Kind.TheVariants as kind
use Rattle.xmas_text.specs.declared.stage.Stage.{Stage}
use Rattle.xmas_text.specs.declared.stage.Stage.TheVariants as stage
use Rattle.xmas_tokens.specs.declared.lexer.Part.{Part}
use Rattle.xmas_tokens.specs.declared.lexer.Part.TheVariants as part
use Rattle.xmas_text.specs.declared.scan.Scan.{Scan}
use Rattle.xmas_tokens.specs.Lexical.{is_blank}
use Rattle.xmas_text.specs.Levels.{levels}
use Rattle.xmas_text.specs.Stages.{may_come, stage_after, depth_after}
use Rattle.xmas_text.specs.Spots.{Frame, Spot, beginning, items, labelled, keys, key_comma, key_label, cond_start, cond_from, cond_path, cond_done, compared, ordering, ordering_by, sorted, has_blank, stage_of, frames_of}
use Rattle.xmas_text.specs.Machine.{State}
use Rattle.xmas_tokens.specs.Parts.{part_of, part_step, kind_in, first_part}

-- how many levels the template has that these open elements stand in, with so many inside the innermost
abbrev pub levels_around : List Frame → ℕ → ℕ
levels_around [] n = n
levels_around (f ∷ o) n = levels_around o (max (levels f.before) (1 + n))

-- how many levels of elements have been read
abbrev pub levels_at : Spot → ℕ
levels_at beginning = 0
levels_at (items lead o xs) = levels_around o (levels xs)
levels_at (labelled lead o xs g) = levels_around o (levels xs)
levels_at (keys lead o xs g ks) = levels_around o (levels xs)
levels_at (key_comma lead o xs g ks h) = levels_around o (levels xs)
levels_at (key_label lead o xs g ks p h) = levels_around o (levels xs)
levels_at (cond_start r b) = levels r.template
levels_at (cond_from r b g s) = levels r.template
levels_at (cond_path r b g s h p) = levels r.template
levels_at (cond_done r cs) = levels r.template
levels_at (compared r b g v h o) = levels r.template
levels_at (ordering r cs g) = levels r.template
levels_at (ordering_by r cs g h) = levels r.template
levels_at (sorted r cs o) = levels r.template

-- what a scan keeps of a state
abbrev pub scan_of : State → Scan
scan_of s = record { stage = stage_of s.spot; depth = length (frames_of s.spot); deep = nat_lt 20 (levels_at s.spot); gap = has_blank s.gap; part = part_of s.lex }

-- whether a token of the kind may come
abbrev pub may_now : Scan → Kind → Bool
may_now s k = may_come s.stage (nat_lt 0 s.depth) s.gap k

-- whether more than 20 levels have been read after a token, from whether they were before it and how many are open
abbrev pub deep_after : Bool → ℕ → Kind → Bool
deep_after deep n kind.OpenTag = deep || nat_lt 20 (n + 1)
deep_after deep n k = deep

-- the scan after a token
abbrev pub scan_after : Scan → Kind → Scan
scan_after s k = record {
  stage = stage_after s.stage k;
  depth = depth_after s.depth k;
  deep = deep_after s.deep s.depth k;
  gap = false;
  part = part.Between;
}

-- the scan with another part
abbrev pub with_part : Scan → Part → Scan
with_part s p = record { stage = s.stage; depth = s.depth; deep = s.deep; gap = s.gap; part = p }

-- the scan after a blank
abbrev pub with_blank : Scan → Scan
with_blank s = record { stage = s.stage; depth = s.depth; deep = s.deep; gap = true; part = part.Between }

-- the scan after a byte between tokens
abbrev pub between_step : Scan → ℕ → Option Scan
between_step s b = cond (is_blank b) (Some (with_blank s)) (option_map (with_part s) (first_part (may_now s) b))

-- the scan after the token that ends here, where one may; between tokens the scan itself
abbrev pub settled_by : Scan → Part → Option Scan
settled_by s part.Between = Some s
settled_by s p = option_map (scan_after s) (kind_in p)

-- the scan after the token that ends here, where one may; between tokens the scan itself
abbrev pub settled : Scan → Option Scan
settled s = settled_by s s.part

-- the scan after a byte that begins a token or stands between two
abbrev pub begun : Option Scan → ℕ → Option Scan
begun None b = None
begun (Some s) b = between_step s b

-- the scan after a byte that goes on with the token at hand, or else stands after that token
abbrev pub or_begun : Scan → ℕ → Option Part → Option Scan
or_begun s b (Some p) = Some (with_part s p)
or_begun s b None = begun (settled s) b

-- the scan after one more byte
abbrev pub scan_step : Scan → ℕ → Option Scan
scan_step s b = or_begun s b (part_step s.part b)

-- a rule may end at the stage
abbrev pub may_end_at : Stage → Bool
may_end_at stage.CondDone = true
may_end_at (stage.Sorted m) = true
may_end_at s = false
