use Rattle.std.proofs.Common.{subst}
use Rattle.std.specs.Prelude.{Option, IfSome}
use Rattle.bc_num.specs.declared.v3.V3.{V3}
use Rattle.bc_num.specs.Directions3.{IsPrimitiveOf3}
use Rattle.bc_num.proofs.Turning.{primitive_within}
use Rattle.bc_audit.proofs.Sides.{not_zero, some_or_not}
use Rattle.bc_audit.proofs.planes.slab_plane.Goals as goal

primitive : (c : goal.After-plane_along-arg-1) → IsPrimitiveOf3 c.args.f.now.n c.unwrap.result
primitive c = subst (λ (o : Option V3). IfSome o (IsPrimitiveOf3 c.args.f.now.n)) c.unwrap.ensures c.primitive3.ensures.primitive

pub unwrap-requires : goal.unwrap-requires
unwrap-requires c = some_or_not c.primitive3.result (λ none. not_zero c.args.f.now.n (record { coprime = c.requires.primitive.coprime }) (c.primitive3.ensures.none.0 none))

pub plane_along-requires-clause-x_near : goal.plane_along-requires-clause-x_near
plane_along-requires-clause-x_near c = let p = primitive c in primitive_within _ c.args.f.now.n.x p.times c.unwrap.result.x p.some p.along_x c.requires.normal_x

pub plane_along-requires-clause-y_near : goal.plane_along-requires-clause-y_near
plane_along-requires-clause-y_near c = let p = primitive c in primitive_within _ c.args.f.now.n.y p.times c.unwrap.result.y p.some p.along_y c.requires.normal_y

pub plane_along-requires-clause-z_near : goal.plane_along-requires-clause-z_near
plane_along-requires-clause-z_near c = let p = primitive c in primitive_within _ c.args.f.now.n.z p.times c.unwrap.result.z p.some p.along_z c.requires.normal_z
