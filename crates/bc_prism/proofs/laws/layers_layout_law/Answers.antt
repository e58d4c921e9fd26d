use Rattle.bc_prism.proofs.Layouts.{layout_spells_layers, prism_head_lines}
use Rattle.bc_prism.proofs.laws.layers_layout_law.Goals as goal

pub returns-clause-spells : goal.returns-clause-spells
returns-clause-spells c = layout_spells_layers

pub returns-clause-lines : goal.returns-clause-lines
returns-clause-lines c = prism_head_lines
