use mir.Syntax.{w64}
use Rattle.std.specs.Prelude.{FitsSigned}
use Rattle.std.proofs.Common.{rules, to_z-of_z, Err, refl, ap, ◌∙◌}
use Rattle.std.proofs.lemmas.Result.{err_from_is_err_and}
use Rattle.bc_lex.specs.Words.{after_plain}
use Rattle.bc_off.proofs.Chains.{stop, on, vertex_is}
use Rattle.bc_off.proofs.vertices.read_vertex.Goals as goal

pub returns-in_err-x : goal.returns-in_err-x
returns-in_err-x c =
    let p = c.args.words in
    let f = err_from_is_err_and c.from_residual.result c.from_residual.ensures.1 in
    f.1
    ∙ ap Err f.2
    ∙ stop _ _ _ c.in_err-x.ensures.value
    ∙ vertex_is p (after_plain p) (after_plain (after_plain p)) (after_plain (after_plain (after_plain p))) c.requires.first refl refl refl

pub returns-in_err-y : goal.returns-in_err-y
returns-in_err-y c =
    let p = c.args.words in
    let q = c.read_coordinate.new.words in
    let f = err_from_is_err_and c.from_residual-in_err-y.result c.from_residual-in_err-y.ensures.1 in
    f.1
    ∙ ap Err f.2
    ∙ on _ _ _ _ c.in_ok-x.ensures.value (stop _ _ _ c.in_err-y.ensures.value)
    ∙ vertex_is p q (after_plain q) (after_plain (after_plain q)) c.requires.first c.read_coordinate.ensures.place refl refl

pub returns-in_err-z : goal.returns-in_err-z
returns-in_err-z c =
    let p = c.args.words in
    let q = c.read_coordinate.new.words in
    let r = c.read_coordinate-2.new.words in
    let f = err_from_is_err_and c.from_residual-in_err-z.result c.from_residual-in_err-z.ensures.1 in
    f.1
    ∙ ap Err f.2
    ∙ on _ _ _ _ c.in_ok-x.ensures.value (on _ _ _ _ c.in_ok-y.ensures.value (stop _ _ _ c.in_err-z.ensures.value))
    ∙ vertex_is p q r (after_plain r) c.requires.first c.read_coordinate.ensures.place c.read_coordinate-2.ensures.place refl

pub returns-in_err-check_end : goal.returns-in_err-check_end
returns-in_err-check_end c =
    let p = c.args.words in
    let q = c.read_coordinate.new.words in
    let r = c.read_coordinate-2.new.words in
    let s = c.read_coordinate-3.new.words in
    let f = err_from_is_err_and c.from_residual-in_err-check_end.result c.from_residual-in_err-check_end.ensures.1 in
    f.1
    ∙ ap Err f.2
    ∙ on _ _ _ _ c.in_ok-x.ensures.value (on _ _ _ _ c.in_ok-y.ensures.value (on _ _ _ _ c.in_ok-z.ensures.value (stop _ _ _ c.in_err-check_end.ensures)))
    ∙ vertex_is p q r s c.requires.first c.read_coordinate.ensures.place c.read_coordinate-2.ensures.place c.read_coordinate-3.ensures.place

pub returns : goal.returns
returns c =
    let p = c.args.words in
    let q = c.read_coordinate.new.words in
    let r = c.read_coordinate-2.new.words in
    let s = c.read_coordinate-3.new.words in
    let x : FitsSigned w64 c.in_ok-x.x = search rules in
    let y : FitsSigned w64 c.in_ok-y.y = search rules in
    let z : FitsSigned w64 c.in_ok-z.z = search rules in
    simp to_z-of_z (
    on _ _ _ _ c.in_ok-x.ensures.value (on _ _ _ _ c.in_ok-y.ensures.value (on _ _ _ _ c.in_ok-z.ensures.value (on _ _ _ _ c.in_ok-check_end.ensures refl)))
    ∙ vertex_is p q r s c.requires.first c.read_coordinate.ensures.place c.read_coordinate-2.ensures.place c.read_coordinate-3.ensures.place)
