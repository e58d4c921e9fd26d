-- The two directions of an arc.
use Rattle.std.proofs.Common.{◌≡◌, ◌+◌, Bool, true, false, ◌&&◌, refl, ◌∙◌}
use Rattle.bc_num.specs.declared.v2.V2.{V2}
use Rattle.bc_num.specs.declared.p2.P2.{P2}
use Rattle.bc_parity.specs.Parity.{xor, count, is_odd}
use Rattle.bc_parity.specs.Crossings.{Arc, crossings_of_arc, meets_circle, has_upper, has_lower, is_above_upper, is_above_lower}
use Rattle.bc_parity.specs.ChordLaw.{arc_of}
use Rattle.bc_parity.specs.Between.{is_odd_between}

odd_pair : (x y : Bool) → xor x y ≡ is_odd (count x + count y)
odd_pair true true = refl
odd_pair true false = refl
odd_pair false true = refl
odd_pair false false = refl

-- at an arc's own two ends, in its order
counted : (arc : Arc) (s e : V2) (p : P2)
    → is_odd_between arc s e p ≡ is_odd (count (meets_circle arc p && (has_upper arc s e p && is_above_upper arc p)) + count (meets_circle arc p && (has_lower arc s e p && is_above_lower arc p)))
counted arc s e p = odd_pair (meets_circle arc p && (has_upper arc s e p && is_above_upper arc p)) (meets_circle arc p && (has_lower arc s e p && is_above_lower arc p))

pub forward : (a b c : V2) (ccw : Bool) (p : P2) (r : Bool) → ccw ≡ true → r ≡ is_odd_between (arc_of a a c true) a b p → r ≡ is_odd (crossings_of_arc (arc_of a b c ccw) p)
forward a b c true p r h k = k ∙ counted (arc_of a a c true) a b p
forward a b c false p r h k = absurd (let q : false ≡ true = h in cc)

pub backward : (a b c : V2) (ccw : Bool) (p : P2) (r : Bool) → ccw ≡ false → r ≡ is_odd_between (arc_of a a c true) b a p → r ≡ is_odd (crossings_of_arc (arc_of a b c ccw) p)
backward a b c false p r h k = k ∙ counted (arc_of a a c true) b a p
backward a b c true p r h k = absurd (let q : true ≡ false = h in cc)
