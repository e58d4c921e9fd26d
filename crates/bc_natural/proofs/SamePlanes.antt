-- The table's test of planes finds equal ones.
use Rattle.std.proofs.Common.{◌≡◌, true, ◌&&◌, ap}
use Rattle.std.specs.Ordering.{int_eq}
use Rattle.std.proofs.lemmas.Bool.{and_from, and_parts}
use Rattle.std.proofs.lemmas.Bool.Decides.{Decides-int_eq}
use Rattle.bc_space.specs.declared.plane3.Plane3.{Plane3}
use Rattle.bc_space.proofs.SamePlanes.{plane3_same}
use Rattle.bc_natural.specs.Planes.{is_same_plane}

pub same_plane : (g h : Plane3) → is_same_plane g h ≡ true → g ≡ h
same_plane g h e =
    let p = and_parts (int_eq g.a h.a) (int_eq g.b h.b && (int_eq g.c h.c && int_eq g.d h.d)) e in
    let q = and_parts (int_eq g.b h.b) (int_eq g.c h.c && int_eq g.d h.d) p.1 in
    let r = and_parts (int_eq g.c h.c) (int_eq g.d h.d) q.1 in
    plane3_same g h ((Decides-int_eq g.a h.a).0 p.0) ((Decides-int_eq g.b h.b).0 q.0) ((Decides-int_eq g.c h.c).0 r.0) ((Decides-int_eq g.d h.d).0 r.1)

pub plane_same : (g h : Plane3) → g ≡ h → is_same_plane g h ≡ true
plane_same g h e =
    and_from (int_eq g.a h.a) (int_eq g.b h.b && (int_eq g.c h.c && int_eq g.d h.d)) ((Decides-int_eq g.a h.a).1 (ap (λ (t : Plane3). t.a) e))
    (and_from (int_eq g.b h.b) (int_eq g.c h.c && int_eq g.d h.d) ((Decides-int_eq g.b h.b).1 (ap (λ (t : Plane3). t.b) e))
    (and_from (int_eq g.c h.c) (int_eq g.d h.d) ((Decides-int_eq g.c h.c).1 (ap (λ (t : Plane3). t.c) e)) ((Decides-int_eq g.d h.d).1 (ap (λ (t : Plane3). t.d) e))))
