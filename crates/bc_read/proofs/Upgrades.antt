-- What an upgrade writes spells the same tree, and its own upgrade is itself.
use Rattle.std.proofs.Common.{◌≡◌, ℕ, List, [], sym, ap, ◌∙◌, subst}
use Rattle.bc_tree.specs.Shape.{Shape}
use Rattle.bc_tree.specs.Decided.{has_flat}
use Rattle.bc_tree.specs.Spells.{Spells}
use Rattle.bc_tree.proofs.LeafKinds.{some_flat}
use Rattle.bc_tree.proofs.OneTree.{spells_one_tree}
use Rattle.bc_text.specs.declared.note.Head.TheVariants as heads
use Rattle.bc_text.proofs.Texts.{layout_spells}
use Rattle.bc_read.proofs.Spelled.{spelled_is_read}
use Rattle.bc_read.specs.Upgrade.{upgraded, FlatIsSaid, UpgradeKeeps, UpgradeTwice}

pub flat_is_said : FlatIsSaid
flat_is_said s = some_flat s

upgraded-spells : (text : List ℕ) (s : Shape) → Spells text s → Spells (upgraded s) s
upgraded-spells text s h = layout_spells (heads.Plain (has_flat s)) [] s h.allowed

pub upgrade_keeps : UpgradeKeeps
upgrade_keeps text new s h u =
    let same : u.0 ≡ s = spells_one_tree text u.0 s u.1 h in
    let is : upgraded s ≡ new = ap upgraded (sym same) ∙ sym u.2 in
    let k : Spells new s = subst (λ x. Spells x s) is (upgraded-spells text s h) in
    (k, spelled_is_read new s k)

pub upgrade_twice : UpgradeTwice
upgrade_twice text new newer u =
    let k : Spells new u.0 = subst (λ x. Spells x u.0) (sym u.2) (upgraded-spells text u.0 u.1) in (
      λ v. v.2 ∙ ap upgraded (spells_one_tree new v.0 u.0 v.1 k) ∙ sym u.2,
      λ e. (u.0, k, e ∙ u.2),
    )
