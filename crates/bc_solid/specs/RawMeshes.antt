-- The mesh that is read.
use Rattle.bc_solid.specs.Meshes.{Mesh}
use Rattle.bc_solid.specs.declared.raw_mesh.RawMesh.{RawMesh}

abbrev pub mesh_of : RawMesh → Mesh
mesh_of raw = record { points = raw.points; faces = raw.faces }
