-- A step of a search, and then going on.
use Rattle.std.proofs.Common.{◌≡◌, ℕ, List, Option, Some, None, refl, ◌∙◌, ap, arith}
use Rattle.std.specs.Prelude.{IsTrue, IfSome}
use Rattle.mix_base.specs.Events.{Event, found, cost}
use Rattle.lazy_descend.specs.Searches.{Telling, TellsOn, Cursors, AsksAtMost, FindsNone, Finds, Moves, Outcome, over, at_row, at_event, Steps, GivesFirst, Comes}

-- told sources still tell, where sources tell on
pub still_told : {old new : Telling} → TellsOn old new → IsTrue old.told → IsTrue new.told
still_told tells t = tells.told ∙ t

-- forward sources are still forward
pub still_forward : {old new : Telling} → TellsOn old new → IsTrue old.forward → IsTrue new.forward
still_forward tells f = tells.forward ∙ f

-- sources tell on over two calls
pub tells_then : {a b c : Telling} → TellsOn a b → TellsOn b c → TellsOn a c
tells_then h k = record { told = k.told ∙ h.told; forward = k.forward ∙ h.forward }

-- before any step of a search all its events are ahead
pub comes_start : {B : Type 0} {old : Telling} {whole later : List (Event B)} {top number : ℕ} → whole ≡ later → top ≡ number → Comes old old whole later top number
comes_start e f = record {
  tells = record { told = refl; forward = refl };
  falls = omega (arith, f);
  found = λ t. ap found e;
  lazy = λ t u. (let c = ap cost e in omega (arith, c));
}

module _ {B : Type 0} {old mid : Telling} {whole later : List (Event B)} {top number : ℕ} (c : Comes old mid whole later top number) where
  -- where none of the events ahead is a binding, none of all is
  pub comes_none : FindsNone mid later → FindsNone old whole
  comes_none h t = c.found t ∙ h (still_told c.tells t)

  -- what is asked for the events ahead is within what all may cost
  pub comes_asks : (new : Telling) → AsksAtMost mid new (cost later) → AsksAtMost old new (cost whole)
  comes_asks new h t f = omega (arith, h (still_told c.tells t) (still_forward c.tells f), c.lazy t f)

  module _ {C : Type 0} {now : Cursors C B} where
    -- the first binding ahead is the first of all
    pub comes_at : {d : C} → Finds mid now later number d → Finds old now whole top d
    comes_at f = record {
      cursor = f.cursor;
      row = f.row;
      falls = omega (arith, f.falls, c.falls);
      found = λ t. c.found t ∙ f.found (still_told c.tells t);
    }

    module _ {new : Telling} where
      -- a later event that a step reached is one that the search over all events reached
      pub comes_on : {d : C} → Moves mid new now later number d → Moves old new now whole top d
      comes_on m = record {
        cursor = m.cursor;
        falls = omega (arith, m.falls, c.falls);
        found = λ t. c.found t ∙ m.found (still_told c.tells t);
        lazy = λ t f. omega (arith, c.lazy t f, m.lazy (still_told c.tells t) (still_forward c.tells f));
      }

      -- from a later event that a step reached, the search goes on over what is ahead of it
      pub comes_then : {d : C} → TellsOn mid new → Moves mid new now later number d → Comes old new whole (now.ahead d) top (now.number d)
      comes_then {d} tells m =
          let step = comes_on m in
          record { tells = tells_then c.tells tells; falls = omega (arith, step.falls); found = step.found; lazy = step.lazy }

  -- what a step over the events ahead comes to, it comes to over all
  pub comes_steps : {C : Type 0} (new : Telling) (now : Cursors C B) (r : Outcome C) → Steps mid new now later number r → Steps old new now whole top r
  comes_steps new now over h = comes_none h
  comes_steps new now (at_row d) f = comes_at f
  comes_steps new now (at_event d) m = comes_on m

-- what is so of each cursor that a search finds, is so of what it gives
pub gives_each : {C B : Type 0} {old : Telling} {now : Cursors C B} {es : List (Event B)} {top : ℕ} (P : C → Type 0) → ((d : C) → Finds old now es top d → P d) → (r : Option C) → GivesFirst old now es top r
    → IfSome r P
gives_each P f None h = tt
gives_each P f (Some d) h = f d h
