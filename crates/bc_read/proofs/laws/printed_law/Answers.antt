use Rattle.bc_text.specs.Layout.{layout}
use Rattle.bc_text.proofs.Texts.{layout_spells}
use Rattle.bc_read.proofs.Spelled.{spelled_is_read}
use Rattle.bc_read.proofs.laws.printed_law.Goals as goal

pub returns : goal.returns
returns c = λ head notes s a. spelled_is_read (layout head notes s) s (layout_spells head notes s a)
