-- The definition of the transcript, worked out on a small tree.
use Rattle.std.proofs.Common.{◌≡◌, ℕ, List, [], ◌∷◌, Option, Some, None, Ok, Err, refl, codes, Result}
use Rattle.std.specs.Str.{is_utf8, chars}
use lib.Utf8.{encode}
use Rattle.mix_tree.specs.Forest.{LabelledTree, none, tree}
use Rattle.mix_script.specs.Steps.{steps_of}
use Rattle.mix_script.specs.Transcript.{Finished, Note, nothing, failed, spelled, transcript, unnamed}
use Rattle.mix_script.specs.declared.step.Forms.TheVariants.{Plain, WithIds}
use Rattle.mix_script.specs.declared.step.Step.{Step}

-- the document of the worked walks: a[b[d,e],c]
document : LabelledTree
document = record { label = codes "a"; kids = tree (codes "b") (tree (codes "d") none (tree (codes "e") none none)) (tree (codes "c") none none) }

-- the transcript of a script's steps, under notes, over the document of the worked walks
transcript_of : List Note → Result (List Step) ℕ → List ℕ
transcript_of notes (Ok steps) = transcript (unnamed document) (codes "s" ∷ []) notes steps
transcript_of notes (Err n) = []

-- the transcript of a walk without notes
walked : transcript_of [] (steps_of Plain (codes "r = root\nx = down r\ny = right x\nfetch y\nz = right y\nfetch x\nfetch z"))
    ≡ codes "node\nnode\nnode\nlabel c\nnone\nlabel b\nno node\n"
unfolding document transcript_of is_utf8 chars encode
walked = refl

-- a walk with notes, which end before the steps; a failed source where no place is held, and lines that are passed over
marked : transcript_of (nothing ∷ failed 0 ∷ nothing ∷ failed 0 ∷ failed 0 ∷ [])
    (steps_of Plain (codes "r = root\n # \n\n x = down r\r\nfetch x\nx = down x\nx = root\ny = right r\nfetch r"))
    ≡ codes "node\nfault s\nno node\nno node\nfault s\nnone\nlabel a\n"
unfolding document transcript_of is_utf8 chars encode
marked = refl

-- the document of the worked searches: l[a,b,a,c]
siblings : LabelledTree
siblings = record { label = codes "l"; kids = tree (codes "a") none (tree (codes "b") none (tree (codes "a") none (tree (codes "c") none none))) }

-- the transcript of a script's steps, under notes, over the document of the worked searches
siblings_of : List Note → Result (List Step) ℕ → List ℕ
siblings_of notes (Ok steps) = transcript (unnamed siblings) (codes "s" ∷ []) notes steps
siblings_of notes (Err n) = []

-- searches for a label among later siblings, and texts of subtrees
searched : siblings_of [] (steps_of Plain (codes "r = root\nx = down r\ny = select x a\nz = right y\nfetch z\nw = select y  \"a\" \nprint r\nprint z\nprint w"))
    ≡ codes "node\nnode\nnode\nnode\nlabel c\nnone\ntext l[a,b,a,c]\ntext c\nno node\n"
unfolding siblings siblings_of is_utf8 chars encode
searched = refl

-- two clients, a search that fails, and a text that does
apart : transcript_of (nothing ∷ nothing ∷ nothing ∷ failed 0 ∷ failed 0 ∷ [])
    (steps_of Plain (codes "ann: x = root\nbob: x = root\nann: x = down x\nann:\tx = select x c\nbob: print x\nann: fetch x\nbob: y = down z"))
    ≡ codes "ann: node\nbob: node\nann: node\nann: fault s\nbob: fault s\nann: label b\nbob: no node\n"
unfolding document transcript_of is_utf8 chars encode
apart = refl

-- the document of the worked walks, where a text that says a place below its level names the node there, and another names none
named_document : Finished
named_document = record { tree = document; named = λ node. inside_named node.inside }
  where
    inside_named : List ℕ → Option (List ℕ)
    inside_named [] = None
    inside_named (i ∷ place) = Some (i ∷ place)

-- the transcript of a script's steps, under notes, over that document
named_of : List Note → Result (List Step) ℕ → List ℕ
named_of notes (Ok steps) = transcript named_document (codes "s" ∷ []) notes steps
named_of notes (Err n) = []

-- texts that are followed and one that is asked for: one names a node, one none and leaves its name, one fails; and lines of no form
followed : named_of (nothing ∷ nothing ∷ nothing ∷ nothing ∷ spelled (codes "3(0):1") ∷ failed 0 ∷ nothing ∷ [])
    (steps_of WithIds (codes "x = at 0:1\nfetch x\nx = at 7(0)\nfetch x\nid x\nx = at 0:0\nid y"))
    ≡ codes "node\nlabel c\nforeign\nlabel c\nid 3(0):1\nfault s\nno node\n"
unfolding document named_document named_of is_utf8 chars encode
followed = refl

-- without the forms of identifiers, a line that follows a text is of no form
unknown : steps_of Plain (codes "x = root\nx = at 0:1") ≡ Err 2
unfolding is_utf8 chars encode
unknown = refl
