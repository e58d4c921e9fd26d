-- What holds of the number at the front of any bytes: it is a number, and no longer front is one.
use Rattle.std.specs.Prelude.{◌≡◌, ◌<◌, ◌≤◌, ℕ, true, List, length, take}
use Rattle.bc_num.specs.Numbers.{is_number, number_length}

abbrev pub FrontIsNumber : Type 0
FrontIsNumber = (bs : List ℕ) → 0 < number_length bs → is_number (take (number_length bs) bs) ≡ true

abbrev pub FrontIsLongest : Type 0
FrontIsLongest = (bs : List ℕ) (n : ℕ) → n ≤ length bs → is_number (take n bs) ≡ true → n ≤ number_length bs
