use Rattle.std.proofs.Common.{ap, ◌∙◌}
use lib.IntN.{neg_ℤ}
use Rattle.std.specs.Int.RustNames.{FitsSigned}
use Rattle.std.proofs.Common.{refl}
use Rattle.std.proofs.lemmas.Int.{to_z-of_z}
use mir.Syntax.{w64}
use Rattle.bc_algebra.proofs.Sizes.{smalls, fits}
use Rattle.bc_num.specs.declared.v3.V3.{V3}
use Rattle.bc_audit.specs.Told.{offset, is_plane}
use Rattle.bc_audit.proofs.literal.is_turned.Goals as goal

pub returns : goal.returns
returns c =
    let fit : FitsSigned w64 c.offset.result = fits (search (smalls, c.offset.ensures.near) depth 30) refl in
    let fit_too : FitsSigned w64 c.opposite_of.result = fits (search (smalls, c.opposite_of.ensures.near) depth 30) refl in
    let e = simp to_z-of_z at c.opposite_of.ensures.value in
    let f = simp to_z-of_z at c.is_plane.ensures in
    f ∙ ap (λ (n : V3). is_plane c.args.h.now n.x n.y n.z c.opposite_of.result) c.opposite.ensures
    ∙ ap (is_plane c.args.h.now (neg_ℤ c.args.f.now.n.x) (neg_ℤ c.args.f.now.n.y) (neg_ℤ c.args.f.now.n.z)) (e ∙ ap neg_ℤ c.offset.ensures.offset)
