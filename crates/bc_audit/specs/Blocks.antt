-- Whether each block of a tree is a box, as it computes.
use Rattle.std.specs.Prelude.{Bool, true, ◌&&◌}
use Rattle.std.specs.Ordering.{int_eq}
use Rattle.bc_num.specs.declared.box3.Box3.{Box3}
use Rattle.bc_tree.specs.declared.tree.Leaf.{Leaf}
use Rattle.bc_tree.specs.declared.tree.Leaf.TheVariants.{Slab, Strip, Disc, Block, Tile}
use Rattle.bc_tree.specs.Shape.{Shape, leaf, union, meet, cut, Shapes, none, child}

-- whether each leaf passes the test
abbrev mutual
  pub every : (Leaf → Bool) → Shape → Bool
  every test (leaf l) = test l
  every test (union kids) = all_pass test kids
  every test (meet kids) = all_pass test kids
  every test (cut first kids) = every test first && all_pass test kids

  pub all_pass : (Leaf → Bool) → Shapes → Bool
  all_pass test none = true
  all_pass test (child s ss) = every test s && all_pass test ss

abbrev pub is_same_box : Box3 → Box3 → Bool
is_same_box b c = int_eq b.x0 c.x0 && (int_eq b.y0 c.y0 && (int_eq b.z0 c.z0 && (int_eq b.x1 c.x1 && (int_eq b.y1 c.y1 && int_eq b.z1 c.z1))))

-- the leaf is no block, or this one
abbrev pub is_of_box : Box3 → Leaf → Bool
is_of_box box (Block b) = is_same_box b box
is_of_box box (Slab f) = true
is_of_box box (Strip f) = true
is_of_box box (Disc d) = true
is_of_box box (Tile b) = true
