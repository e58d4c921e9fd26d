-- The definition of meshes at a few texts.
use Rattle.std.proofs.Common.{pos, negsuc, [], ◌∷◌, refl}
use Rattle.std.specs.Prelude.{codes}
use Rattle.bc_off.specs.declared.fault.OffFault.TheVariants.{NotOff, BadCount, Short, TooFar, TooMany, Extra}
use Rattle.bc_off.specs.Off.{Off, FirstFault}

-- comments, free words, and an edge count that is not compared
one-face : Off (codes "# a\nOFF 1 1 7\n\n-1.0 +2 03 # b\n3 0 0 0 red") (record { points = record { x = negsuc 0; y = pos 2; z = pos 3 } ∷ []; faces = (0 ∷ 0 ∷ 0 ∷ []) ∷ [] })
one-face = refl

-- no bytes
nothing : FirstFault [] (NotOff 1 0)
nothing = refl

-- a missing count is a fault of the line of counts
count-missing : FirstFault (codes "OFF\n# a\n3 1") (BadCount 3 3)
count-missing = refl

-- a count is tried for its bound before the next is looked at
count-first : FirstFault (codes "OFF 1025 x") (TooMany 1 2)
count-first = refl

-- the text ends early: the line is the one behind the last
ends-early : FirstFault (codes "OFF 1 0 0\n\n#") (Short 4 0)
ends-early = refl

-- a line has too few words, and an earlier word is at fault
far-first : FirstFault (codes "OFF 1 0 0\n0 1024") (TooFar 2 2)
far-first = refl

-- five words behind the vertices of a face
fifth : FirstFault (codes "OFF 1 1 0\n0 0 0\n3 0 0 0 1 2 3 4 5") (Extra 3 9)
fifth = refl

-- a word behind the last face
behind-all : FirstFault (codes "OFF 0 0 0\n\n5") (Extra 3 1)
behind-all = refl
