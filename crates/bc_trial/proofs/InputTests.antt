-- Tests of a text that show it an input as the laws say; and that what passes for each number of a range holds of each.
use Rattle.std.proofs.Common.{◌≡◌, ◌≤◌, ◌<◌, ◌+◌, ◌-◌, ◌^◌, ℕ, Bool, true, false, ◌&&◌, List, length, Option, None, Some, Result, Ok, Err, arith, refl, sym, ap, ◌∙◌}
use Rattle.std.specs.Prelude.{filter, nat_le}
use Rattle.std.specs.List.{list_all, range_with_len}
use Rattle.std.proofs.lemmas.Bool.{and_parts}
use Rattle.std.proofs.lemmas.Bool.Decides.{nat_tests}
use Rattle.std.proofs.lemmas.List.FromFn.{length-range_with_len, get_or-range_with_len}
use Rattle.std.proofs.lemmas.List.Sums.{AllPass-from_list_all}
use Rattle.std.proofs.lemmas.List.{length-map}
use Rattle.bc_solid.specs.declared.element.Element.{Element}
use Rattle.bc_solid.specs.declared.contour_fault.ContourFault.{ContourFault}
use Rattle.bc_solid.specs.Closed.{joined}
use Rattle.bc_solid.specs.ContourFaults.{first_fault}
use Rattle.bc_solid.specs.Meshes.{Mesh, corners_of, faces_of}
use Rattle.bc_solid.proofs.ContourChecks.{all_proper}
use Rattle.bc_off.specs.declared.fault.OffFault.{OffFault}
use Rattle.bc_off.specs.Off.{mesh_of_text}
use Rattle.bc_gcode.specs.declared.fault.GFault.{GFault}
use Rattle.bc_gcode.specs.Gcode.{contours_of}
use Rattle.bc_gcode.proofs.Kept.{read_are_contours}
use Rattle.bc_natural.specs.Curves.{has_line, is_arc}
use Rattle.bc_natural.specs.declared.limits.TheConstants.{MOST_PLANES, MOST_LINES, MOST_DISCS}
use Rattle.bc_trial.specs.Laws.{IsMeshInput, IsContourInput}
use Rattle.bc_trial.proofs.ClosedTests.{is_closed, closed}
use Rattle.bc_trial.proofs.Few.{few_planes, few_lines, few_discs}

at_most : (m n : ℕ) → nat_le m n ≡ true → m ≤ n
at_most m n h = grind (arith, nat_tests)

abbrev is_short : List ℕ → Bool
is_short text = nat_le (length text) (2 ^ 20)

short : (text : List ℕ) → is_short text ≡ true → length text ≤ 2 ^ 20
short text h = at_most (length text) (2 ^ 20) h

-- ---- meshes

abbrev says_input_mesh : Result Mesh OffFault → Bool
says_input_mesh (Ok mesh) = is_closed (faces_of mesh) && nat_le (length mesh.faces) MOST_PLANES
says_input_mesh (Err f) = false

abbrev pub is_mesh_input : List ℕ → Bool
is_mesh_input text = is_short text && says_input_mesh (mesh_of_text text)

input_of_mesh : (text : List ℕ) (r : Result Mesh OffFault) → is_short text ≡ true → mesh_of_text text ≡ r → says_input_mesh r ≡ true → IsMeshInput text
input_of_mesh text (Ok mesh) s read h =
    let p = and_parts (is_closed (faces_of mesh)) (nat_le (length mesh.faces) MOST_PLANES) h in
    let few = at_most (length mesh.faces) MOST_PLANES p.1 in
    record {
      short = short text s;
      mesh = mesh;
      read = read;
      closed = closed (faces_of mesh) p.0;
      few = λ fs t e a planes.
          let l = few_planes fs t (faces_of mesh) e planes in
          let n = length-map mesh.faces (corners_of mesh.points) in
          omega (arith, few, l, n);
    }
input_of_mesh text (Err f) s read h = cc

pub mesh_input : (text : List ℕ) → is_mesh_input text ≡ true → IsMeshInput text
mesh_input text h = let p = and_parts (is_short text) (says_input_mesh (mesh_of_text text)) h in input_of_mesh text (mesh_of_text text) p.0 refl p.1

-- ---- contours

abbrev no_fault : Option ContourFault → Bool
no_fault None = true
no_fault (Some f) = false

abbrev are_few : List Element → Bool
are_few es = nat_le (length (filter has_line es)) MOST_LINES && nat_le (length (filter is_arc es)) MOST_DISCS

abbrev says_input_contours : Result (List (List Element)) GFault → Bool
says_input_contours (Ok contours) = no_fault (first_fault 0 (joined contours)) && are_few (joined contours)
says_input_contours (Err f) = false

abbrev pub is_contour_input : List ℕ → Bool
is_contour_input text = is_short text && says_input_contours (contours_of text)

input_of_contours : (text : List ℕ) (r : Result (List (List Element)) GFault) → is_short text ≡ true → contours_of text ≡ r → says_input_contours r ≡ true → IsContourInput text
input_of_contours text (Ok contours) s read h =
    let es = joined contours in
    let p = and_parts (no_fault (first_fault 0 es)) (are_few es) h in
    let q = and_parts (nat_le (length (filter has_line es)) MOST_LINES) (nat_le (length (filter is_arc es)) MOST_DISCS) p.1 in
    let lines = at_most (length (filter has_line es)) MOST_LINES q.0 in
    let discs = at_most (length (filter is_arc es)) MOST_DISCS q.1 in
    let kept = read_are_contours text contours read in
    record {
      short = short text s;
      contours = contours;
      read = read;
      closed = record { closed = kept.closed; proper = all_proper 0 es kept.drawn (none (first_fault 0 es) p.0) };
      few = λ t c.
          let l = few_lines es t c in
          let d = few_discs es t c in
          record { lines = omega (arith, lines, l); discs = omega (arith, discs, d) };
    }
  where
    none : (o : Option ContourFault) → no_fault o ≡ true → o ≡ None
    none None e = refl
    none (Some f) e = cc
input_of_contours text (Err f) s read h = cc

pub contour_input : (text : List ℕ) → is_contour_input text ≡ true → IsContourInput text
contour_input text h = let p = and_parts (is_short text) (says_input_contours (contours_of text)) h in input_of_contours text (contours_of text) p.0 refl p.1

-- ---- each number

pub at_each : (test : ℕ → Bool) (most : ℕ) → list_all test (range_with_len 1 most) ≡ true → (n : ℕ) → 1 ≤ n → n ≤ most → test n ≡ true
at_each test most h n l m =
    let i : n - 1 < length (range_with_len 1 most) = omega (arith, length-range_with_len 1 most) in
    let e : 1 + (n - 1) ≡ n = omega arith in
    ap test (sym (get_or-range_with_len 1 most (n - 1) 0 (omega arith) ∙ e)) ∙ AllPass-from_list_all test (range_with_len 1 most) h (n - 1) 0 i
