-- What requests ask for.
use Rattle.std.specs.Prelude.{Bool, true, false, List, [], ◌∷◌, Result, Ok, Err}
use Rattle.mix_io.specs.declared.input.TakeFault.{TakeFault}
use Rattle.mix_lines.specs.Heard.{Heard, step, no_form}
use Rattle.mix_lines.specs.declared.requests.Request.{Request}
use Rattle.mix_lines.specs.declared.requests.Request.TheVariants.{Passed, NoForm, Step}

-- what a request asks for
abbrev pub request_asks : Request → List Heard
request_asks Passed = []
request_asks NoForm = no_form ∷ []
request_asks (Step s) = step s.now ∷ []

-- what came with a call for the next request, where it asks for this
abbrev pub coming : List Heard → Result Bool TakeFault → List Heard
coming asks (Ok true) = asks
coming asks (Ok false) = []
coming asks (Err fault) = []
