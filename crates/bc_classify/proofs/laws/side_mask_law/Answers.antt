use Rattle.bc_classify.proofs.Halves.{sides_by_mask, mask_by_sides}
use Rattle.bc_classify.proofs.Parities.{table_is, proper_of}
use Rattle.bc_classify.proofs.laws.side_mask_law.Goals as goal

pub returns : goal.returns
returns c = λ p q.
    let es = c.args.s.now in
    let t = c.args.c.now in
    let k = table_is es t c.requires.table in
    (sides_by_mask es t k (proper_of es c.law.ensures) p q, mask_by_sides es t k p q)
