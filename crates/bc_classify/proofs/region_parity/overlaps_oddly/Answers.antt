use Rattle.std.specs.Prelude.{bit_and, count_ones}
use Rattle.bc_classify.proofs.Overlaps.{odd_test}
use Rattle.bc_classify.proofs.region_parity.overlaps_oddly.Goals as goal

pub returns : goal.returns
returns c = odd_test (count_ones (bit_and c.args.mask c.args.word))
