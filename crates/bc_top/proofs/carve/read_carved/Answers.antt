use Rattle.bc_top.proofs.Carving.{masks_of_kind}
use Rattle.bc_top.proofs.carve.read_carved.Goals as goal

pub carved_formula_of-requires : goal.carved_formula_of-requires
carved_formula_of-requires g c =
    let (bytes, read, is) = c.in_ok-division.ensures.ok in
    masks_of_kind c.args.kind bytes c.in_ok-division.division is
