-- The faults of contours, and which of them is the first.
use Rattle.std.specs.Prelude.{◌≡◌, ◌≢◌, ℕ, ◌+◌, List, [], ◌∷◌, Option, None, Some, if◌then◌else◌}
use Rattle.std.specs.Ordering.{int_eq}
use Rattle.bc_num.specs.declared.v2.V2.{V2}
use Rattle.bc_num.specs.Measures.{square_between, is_same}
use Rattle.bc_solid.specs.declared.element.Element.{Element}
use Rattle.bc_solid.specs.declared.element.Element.TheVariants.{Edge, Arc}
use Rattle.bc_solid.specs.declared.contour_fault.ContourFault.{ContourFault}
use Rattle.bc_solid.specs.declared.contour_fault.ContourFault.TheVariants.{ZeroRadius, SkewArc, Memory}

-- the fault of an arc with this number: its centre is its start; or the squared distances of its ends from the centre
-- differ, and both are told
abbrev pub arc_fault : ℕ → V2 → V2 → V2 → Option ContourFault
arc_fault n a b c =
    if is_same c a then Some (ZeroRadius n)
    else (if int_eq (square_between c b) (square_between c a) then None
    else Some (SkewArc n (square_between c a) (square_between c b)))

abbrev pub fault_of : ℕ → Element → Option ContourFault
fault_of n (Edge a b) = None
fault_of n (Arc a b c ccw) = arc_fault n a b c

abbrev pub or_else : Option ContourFault → Option ContourFault → Option ContourFault
or_else (Some f) g = Some f
or_else None g = g

-- the first fault of elements, of which the first has this number
abbrev pub first_fault : ℕ → List Element → Option ContourFault
first_fault n [] = None
first_fault n (e ∷ es) = or_else (fault_of n e) (first_fault (n + 1) es)

-- f is the first fault, or there was no memory
abbrev pub IsFault : ℕ → List Element → ContourFault → Type 0
IsFault n es f = f ≢ Memory → first_fault n es ≡ Some f
