use Rattle.std.proofs.Common.{◌∙◌, sym, ap, refl}
use Rattle.bc_read.specs.Leaves.{leaf_of}
use Rattle.bc_read.specs.declared.part.Form.TheVariants.{Slab, Strip, Disc, Block, Tile}
use Rattle.bc_read.proofs.ShortTests.{same_alone, same_either}
use Rattle.bc_read.proofs.leaf.leaf_of.Goals as goal

pub returns-in-Slab : goal.returns-in-Slab
returns-in-Slab c = same_alone _ Slab _ refl c.slab.ensures ∙ ap (λ f. leaf_of f c.args.numbers.now) (sym c.in-Slab.is)

pub returns-in-Strip : goal.returns-in-Strip
returns-in-Strip c = same_alone _ Strip _ refl c.strip.ensures ∙ ap (λ f. leaf_of f c.args.numbers.now) (sym c.in-Strip.is)

pub returns-in-Disc : goal.returns-in-Disc
returns-in-Disc c = same_alone _ Disc _ refl c.disc.ensures ∙ ap (λ f. leaf_of f c.args.numbers.now) (sym c.in-Disc.is)

pub returns-in-Block : goal.returns-in-Block
returns-in-Block c = c.or.ensures ∙ same_either _ _ Block _ c.block.ensures c.axis_slab.ensures ∙ ap (λ f. leaf_of f c.args.numbers.now) (sym c.in-Block.is)

pub returns-in-Tile : goal.returns-in-Tile
returns-in-Tile c = c.or-in-Tile.ensures ∙ same_either _ _ Tile _ c.tile.ensures c.axis_strip.ensures ∙ ap (λ f. leaf_of f c.args.numbers.now) (sym c.in-Tile.is)
