use Rattle.std.proofs.Common.{◌≡◌, ◌≤◌, ℕ, List, length, ap, ◌∙◌, subst, Result, Ok, Err}
use Rattle.std.specs.Prelude.{IfOk}
use Rattle.bc_num.specs.declared.memory.Memory.{Memory}
use Rattle.bc_cover.specs.declared.term.Term.{Term}
use Rattle.bc_cover.specs.Covers.{IsCover}
use Rattle.bc_carve.specs.declared.piece.Piece.{Piece}
use Rattle.bc_carve.specs.Shape.{shapes, literals_in}
use Rattle.bc_carve.specs.Carving.{IsCarving, plain_literals}
use Rattle.bc_carve.specs.Cuts.{NoneIdle}
use Rattle.bc_formula.specs.Shown.{masks_of}
use Rattle.bc_pieces.specs.Carved.{ArePiecesOf}
use Rattle.bc_pieces.proofs.pieces.pieces_of.Goals as goal

carved : (r : Result (List Piece) Memory) (inside outside : List ℕ) (n : ℕ) (terms : List Term) → IsCover inside outside n terms → IfOk r (IsCarving inside outside n)
    → IfOk r (λ pieces. literals_in (shapes pieces) ≤ plain_literals terms) → IfOk r (λ pieces. NoneIdle inside outside (shapes pieces)) → IfOk r (ArePiecesOf inside outside n)
carved (Ok pieces) inside outside n terms cover right short none_idle = record { carving = right; none_idle = none_idle; terms = terms; cover = cover; short = short }
carved (Err e) inside outside n terms cover right short none_idle = tt

pub returns : goal.returns
returns c =
    let d = c.args.division.now in
    let ins : c.deref-3.result.now ≡ masks_of d.inside.items = c.deref-3.ensures.value ∙ c.in_ok-inside.ensures ∙ ap masks_of c.deref.ensures.value in
    let outs : c.deref-4.result.now ≡ masks_of d.outside.items = c.deref-4.ensures.value ∙ c.in_ok-outside.ensures ∙ ap masks_of c.deref-2.ensures.value in
    let e = c.carve.ensures in
    let right = subst (λ (n : ℕ). IfOk c.carve.result (IsCarving (masks_of d.inside.items) (masks_of d.outside.items) n)) c.len-n.ensures
    (subst (λ (xs : List ℕ). IfOk c.carve.result (IsCarving xs (masks_of d.outside.items) c.len-n.result)) ins
    (subst (λ (ys : List ℕ). IfOk c.carve.result (IsCarving c.deref-3.result.now ys c.len-n.result)) outs e.right)) in
    let none_idle = subst (λ (xs : List ℕ). IfOk c.carve.result (λ (ps : List Piece). NoneIdle xs (masks_of d.outside.items) (shapes ps))) ins
    (subst (λ (ys : List ℕ). IfOk c.carve.result (λ (ps : List Piece). NoneIdle c.deref-3.result.now ys (shapes ps))) outs e.none_idle) in
    carved c.carve.result (masks_of d.inside.items) (masks_of d.outside.items) (length d.leaves) c.in_ok-terms.terms c.in_ok-terms.ensures right e.short none_idle
