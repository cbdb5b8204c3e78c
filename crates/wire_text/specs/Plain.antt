-- The plain forms of the code's replies and of the lists in them.
use Rattle.std.specs.Prelude.{List, [], ◌∷◌}
use Rattle.wire_text.specs.Wired.{Wired, nil, node, hole}
use Rattle.wire_text.specs.Reply.{Said, count, root, list, failed, unknown_hole, no_memory, no_source}
use Rattle.wire_text.specs.declared.reply.Reply.{Reply}
use Rattle.wire_text.specs.declared.reply.Reply.TheVariants.{Count, Root, List as Listed, Failed, UnknownHole, NoMemory, NoSource}
use Rattle.wire_text.specs.declared.reply.WireTree.{WireTree}
use Rattle.wire_text.specs.declared.reply.WireTree.TheOpen.{WireTree-F, Node, Hole}
use Rattle.wire_text.specs.declared.reply.WireTree.TheFolds.{fold-WireTree}

-- members put one after another before a list
abbrev pub all_before : List (Wired → Wired) → Wired → Wired
all_before [] rest = rest
all_before (put_first ∷ others) rest = put_first (all_before others rest)

-- a member, whose children are such members, put before a list
abbrev pub put_step : WireTree-F (Wired → Wired) → Wired → Wired
put_step (Node label kids) rest = node label (all_before kids.items nil) rest
put_step (Hole h) rest = hole h.id h.weight rest

-- a tree put before a list
abbrev pub put : WireTree → Wired → Wired
put = fold-WireTree (Wired → Wired) put_step

-- trees put one after another before a list
abbrev pub put_all : List WireTree → Wired → Wired
put_all [] rest = rest
put_all (t ∷ ts) rest = put t (put_all ts rest)

-- the plain form of a list of trees
abbrev pub plain : List WireTree → Wired
plain ts = put_all ts nil

-- the plain form of a reply
abbrev pub said : Reply → Said
said (Count n) = count n
said (Root h) = root h.id h.weight
said (Listed trees) = list (plain trees.items)
said Failed = failed
said UnknownHole = unknown_hole
said NoMemory = no_memory
said NoSource = no_source
