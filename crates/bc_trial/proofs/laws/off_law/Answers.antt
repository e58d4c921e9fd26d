use Rattle.std.proofs.Common.{◌≡◌, true, refl}
use Rattle.std.specs.Fmt.{digits}
use Rattle.std.specs.List.{list_all, range_with_len}
use Rattle.bc_trial.specs.declared.off.TheConstants.{MOST_OFF}
use Rattle.bc_trial.specs.Texts.{off_text}
use Rattle.bc_trial.proofs.InputTests.{is_mesh_input, mesh_input, at_each}
use Rattle.bc_trial.proofs.laws.off_law.Goals as goal

-- the test of each text, computed
all_pass : list_all (λ n. is_mesh_input (off_text n)) (range_with_len 1 MOST_OFF) ≡ true
unfolding digits
all_pass = refl

pub returns : goal.returns
returns c = λ n least most. mesh_input (off_text n) (at_each (λ k. is_mesh_input (off_text k)) MOST_OFF all_pass n least most)
