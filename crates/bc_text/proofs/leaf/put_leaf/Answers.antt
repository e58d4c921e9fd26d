use Rattle.std.proofs.Common.{ap, sym}
use Rattle.bc_io.proofs.Grown.{same_piece}
use Rattle.bc_text.specs.Layout.{leaf_text}
use Rattle.bc_text.proofs.leaf.put_leaf.Goals as goal

pub returns-in-Slab : goal.returns-in-Slab
returns-in-Slab g c = same_piece (ap leaf_text (sym c.in-Slab.is)) c.put_slab.ensures

pub returns-in-Strip : goal.returns-in-Strip
returns-in-Strip g c = same_piece (ap leaf_text (sym c.in-Strip.is)) c.put_strip.ensures
