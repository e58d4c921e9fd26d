use Rattle.std.proofs.Common.{◌≡◌, ℕ, ◌+◌, ◌*◌, ◌≤◌, ◌&&◌, true, List, [], ◌∷◌, ◌++◌, length, append_assoc, length-append, arith, refl, sym, ap, ◌∙◌}
use Rattle.std.specs.List.{list_all}
use Rattle.std.proofs.lemmas.List.Elements.{All-push, All-same}
use Rattle.std.proofs.lemmas.List.Folds.{list_all-append}
use Rattle.bc_solid.specs.declared.element.Element.{Element}
use Rattle.bc_solid.specs.Closed.{IsContour, joined}
use Rattle.bc_solid.specs.Contours.{is_drawn}
use Rattle.bc_shape_tests.proofs.natural_tests.figures.Goals as goal

joined_push : (cs : List (List Element)) (c : List Element) → joined (cs ++ c ∷ []) ≡ joined cs ++ c
joined_push [] c = end c
  where
    end : (c : List Element) → c ++ [] ≡ c
    end [] = refl
    end (e ∷ es) = ap (λ ds. e ∷ ds) (end es)
joined_push (d ∷ ds) c = ap (λ es. d ++ es) (joined_push ds c) ∙ sym (append_assoc d (joined ds) c)

drawn_push : (cs : List (List Element)) (c : List Element) → list_all is_drawn (joined cs) ≡ true → list_all is_drawn c ≡ true → list_all is_drawn (joined (cs ++ c ∷ [])) ≡ true
drawn_push cs c h k =
    ap (list_all is_drawn) (joined_push cs c) ∙ list_all-append is_drawn (joined cs) c ∙ ap (λ b. b && list_all is_drawn c) h ∙ k

length_push : (cs : List (List Element)) (c : List Element) → length (joined (cs ++ c ∷ [])) ≡ length (joined cs) + length c
length_push cs c = ap length (joined_push cs c) ∙ length-append (joined cs) c

pub loop-k-preserved : goal.loop-k-preserved
loop-k-preserved c =
    let i = c.loop-k.invariant in
    let f = c.in_ok-figure.ensures in
    let count : length c.in_ok-figure.field-0 ≤ 2 = f.count in
    let few : length (joined c.loop-k.contours) ≤ 2 * c.loop-k.k = i.few in
    let pushed = c.in_ok-push.ensures.ok in
    record {
      closed = All-same IsContour c.push.new.self (c.loop-k.contours ++ c.in_ok-figure.field-0 ∷ []) pushed (All-push IsContour c.loop-k.contours c.in_ok-figure.field-0 i.closed f.closed);
      drawn = ap (λ cs. list_all is_drawn (joined cs)) pushed ∙ drawn_push c.loop-k.contours c.in_ok-figure.field-0 i.drawn f.drawn;
      few = at_most (length (joined c.push.new.self)) (length (joined c.loop-k.contours)) (length c.in_ok-figure.field-0) c.loop-k.k
          (ap (λ cs. length (joined cs)) pushed ∙ length_push c.loop-k.contours c.in_ok-figure.field-0) few count;
    }
  where
    at_most : (n m l k : ℕ) → n ≡ m + l → m ≤ 2 * k → l ≤ 2 → n ≤ 2 * (k + 1)
    at_most n m l k e h j = omega arith
