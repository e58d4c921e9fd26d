use Rattle.std.proofs.Common.{◌≡◌, true, refl}
use Rattle.std.specs.Fmt.{digits}
use Rattle.std.specs.List.{list_all, range_with_len}
use Rattle.bc_trial.specs.declared.contour.TheConstants.{MOST_CONTOUR}
use Rattle.bc_trial.specs.Texts.{contour_text}
use Rattle.bc_trial.proofs.InputTests.{is_contour_input, contour_input, at_each}
use Rattle.bc_trial.proofs.laws.contour_law.Goals as goal

-- the test of each text, computed
all_pass : list_all (λ n. is_contour_input (contour_text n)) (range_with_len 1 MOST_CONTOUR) ≡ true
unfolding digits
all_pass = refl

pub returns : goal.returns
returns c = λ n least most. contour_input (contour_text n) (at_each (λ k. is_contour_input (contour_text k)) MOST_CONTOUR all_pass n least most)
