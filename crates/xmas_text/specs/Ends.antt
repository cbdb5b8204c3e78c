-- What is said of a text at its end.
use Rattle.std.specs.Prelude.{◌≡◌, Bool, true, false, Option, Some, None, Result, Ok, Err}
use Rattle.xmas_text.specs.declared.fault.TextFault.{TextFault}
use Rattle.xmas_text.specs.declared.fault.TextFault.TheVariants.{EndsEarly, TooDeep}
use Rattle.xmas_text.specs.declared.scan.Scan.{Scan}
use Rattle.xmas_text.specs.Scans.{may_end_at}

-- the result of a text that ends too early, or else of a rule's text that is too deep or not
abbrev pub EndsBy : {X : Type 0} → (may_end deep : Bool) → Result X TextFault → Type 0
EndsBy false deep r = r ≡ Err EndsEarly
EndsBy true true r = r ≡ Err TooDeep
EndsBy true false (Ok u) = Unit {0}
EndsBy true false (Err e) = ⊥

-- what is answered at a text's end, where the scan has settled as this one or could not
abbrev pub EndsSo : {X : Type 0} → Option Scan → Result X TextFault → Type 0
EndsSo None r = r ≡ Err EndsEarly
EndsSo (Some b) r = EndsBy (may_end_at b.stage) b.deep r
