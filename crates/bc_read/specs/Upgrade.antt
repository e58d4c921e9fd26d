-- The upgrade of a text: the layout of the tree that it spells, with neither a box nor notes. So comments are not kept, and each
-- axis leaf is in its short form.
use Rattle.std.specs.Prelude.{◌≡◌, ◌↔◌, ℕ, true, List, [], Ok}
use Rattle.bc_tree.specs.declared.tree.Tree.{Tree}
use Rattle.bc_tree.specs.Shape.{Shape, shape}
use Rattle.bc_tree.specs.Holds.{HasFlat}
use Rattle.bc_tree.specs.Decided.{has_flat}
use Rattle.bc_tree.specs.Spells.{Spells}
use Rattle.bc_text.specs.declared.note.Head.TheVariants as heads
use Rattle.bc_text.specs.Layout.{layout}
use Rattle.bc_read.specs.Machine.{reading_of}

-- the text of a tree; its head says whether a leaf of the plane stands in the tree
abbrev pub upgraded : Shape → List ℕ
upgraded s = layout (heads.Plain (has_flat s)) [] s

-- this is what an upgrade of the text writes
abbrev pub IsUpgrade : List ℕ → List ℕ → Type 0
IsUpgrade text new = (s : Shape) × Spells text s × (new ≡ upgraded s)

-- ---- laws

-- the head says so exactly where one does
abbrev pub FlatIsSaid : Type 0
FlatIsSaid = (s : Shape) → ((has_flat s ≡ true) ↔ HasFlat s)

-- the upgrade of a text spells the same tree, so its meaning is the same; and it is read as that tree
abbrev pub UpgradeKeeps : Type 0
UpgradeKeeps = (text new : List ℕ) (s : Shape) → Spells text s → IsUpgrade text new → Spells new s × ((t : Tree) × (shape t ≡ s) × (reading_of new ≡ Ok t))

-- upgraded again, it is the same bytes and no others
abbrev pub UpgradeTwice : Type 0
UpgradeTwice = (text new newer : List ℕ) → IsUpgrade text new → (IsUpgrade new newer ↔ (newer ≡ new))
