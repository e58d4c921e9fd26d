use Rattle.bc_classify.proofs.Joints.{joint_cells}
use Rattle.bc_classify.proofs.laws.joint_cell_law.Goals as goal

pub returns : goal.returns
returns c = joint_cells c.args.a.now c.args.b.now c.args.t.now c.requires.table c.cell_law3.ensures c.cell_law3-2.ensures
