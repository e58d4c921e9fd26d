use Rattle.std.proofs.Common.{◌≡◌, ◌<◌, true, false, not, ◌&&◌, ◌||◌, length, map, get_or, IfOk, sym, ap, ◌∙◌, subst, arith}
use Rattle.std.proofs.lemmas.List.{length-map}
use Rattle.bc_tree.specs.Shape.{Shape, shape, shapes, union, meet, cut}
use Rattle.bc_tree.specs.Leaves.{IsLeaf}
use Rattle.bc_audit.specs.Told.{leaf_told, holds_by, some_holds, each_holds}
use Rattle.bc_audit.proofs.Trees.{shape-Union, shape-Meet, shape-Cut}
use Rattle.bc_audit.proofs.Columns.{built, answer_at, item_at, leaves_left, some_more, each_more, some_done, each_done}
use Rattle.bc_audit.proofs.holds.+mask.Goals as goal

-- ---- some

pub some_holds_at-loop-kid-init : goal.some_holds_at-loop-kid-init
some_holds_at-loop-kid-init t c =
    let masks = c.args.masks.now in
    record {
      long = ap length c.in_ok-found.ensures ∙ length-map masks (λ m. false);
      told = λ k l. ap (λ b. b || some_holds (leaf_told c.args.planes.now (get_or masks k 0)) (shapes c.args.kids.now)) (answer_at (λ m. false) masks c.in_ok-found.found.items c.in_ok-found.ensures k l);
      leaves = c.requires.leaves;
    }

pub some_holds_at-loop-kid-preserved : goal.some_holds_at-loop-kid-preserved
some_holds_at-loop-kid-preserved t c =
    let masks = c.args.masks.now in
    let kids = c.args.kids.now in
    let i = c.loop-kid.kid-index in
    let kid = c.kid-item.result in
    let at = item_at kids i kid c.loop-kid-test.true c.kid-item.is in
    let more = c.deref.ensures.value ∙ c.in_ok-more.ensures in
    record {
      long = c.join-found.ensures.long ∙ c.loop-kid.invariant.long;
      told = λ k l.
          some_more kids i (leaf_told c.args.planes.now (get_or masks k 0)) kid (get_or c.loop-kid.found.items k false) (get_or c.deref.result.now k false) (get_or c.join-found.result.items k false)
          (some_holds (leaf_told c.args.planes.now (get_or masks k 0)) (shapes kids)) at (c.join-found.ensures.each k (let e = c.loop-kid.invariant.long in omega arith))
          (answer_at (λ m. holds_by (leaf_told c.args.planes.now m) (shape kid)) masks c.deref.result.now more k l) (c.loop-kid.invariant.told k l);
      leaves = leaves_left kids i IsLeaf kid at c.loop-kid.invariant.leaves;
    }

pub some_holds_at-returns : goal.some_holds_at-returns
some_holds_at-returns t c =
    let masks = c.args.masks.now in
    let kids = c.args.kids.now in
    built (λ m. some_holds (leaf_told c.args.planes.now m) (shapes kids)) masks c.loop-kid.found.items c.loop-kid.invariant.long
    (λ k l.
    some_done kids c.loop-kid.kid-index (leaf_told c.args.planes.now (get_or masks k 0)) (get_or c.loop-kid.found.items k false)
    (some_holds (leaf_told c.args.planes.now (get_or masks k 0)) (shapes kids)) c.loop-kid-test.false (c.loop-kid.invariant.told k l))

-- ---- each

pub each_holds_at-loop-kid-init : goal.each_holds_at-loop-kid-init
each_holds_at-loop-kid-init t c =
    let masks = c.args.masks.now in
    record {
      long = ap length c.in_ok-found.ensures ∙ length-map masks (λ m. true);
      told = λ k l. ap (λ b. b && each_holds (leaf_told c.args.planes.now (get_or masks k 0)) (shapes c.args.kids.now)) (answer_at (λ m. true) masks c.in_ok-found.found.items c.in_ok-found.ensures k l);
      leaves = c.requires.leaves;
    }

pub each_holds_at-loop-kid-preserved : goal.each_holds_at-loop-kid-preserved
each_holds_at-loop-kid-preserved t c =
    let masks = c.args.masks.now in
    let kids = c.args.kids.now in
    let i = c.loop-kid.kid-index in
    let kid = c.kid-item.result in
    let at = item_at kids i kid c.loop-kid-test.true c.kid-item.is in
    let more = c.deref.ensures.value ∙ c.in_ok-more.ensures in
    record {
      long = c.meet-found.ensures.long ∙ c.loop-kid.invariant.long;
      told = λ k l.
          each_more kids i (leaf_told c.args.planes.now (get_or masks k 0)) kid (get_or c.loop-kid.found.items k false) (get_or c.deref.result.now k false) (get_or c.meet-found.result.items k false)
          (each_holds (leaf_told c.args.planes.now (get_or masks k 0)) (shapes kids)) at (c.meet-found.ensures.each k (let e = c.loop-kid.invariant.long in omega arith))
          (answer_at (λ m. holds_by (leaf_told c.args.planes.now m) (shape kid)) masks c.deref.result.now more k l) (c.loop-kid.invariant.told k l);
      leaves = leaves_left kids i IsLeaf kid at c.loop-kid.invariant.leaves;
    }

pub each_holds_at-returns : goal.each_holds_at-returns
each_holds_at-returns t c =
    let masks = c.args.masks.now in
    let kids = c.args.kids.now in
    built (λ m. each_holds (leaf_told c.args.planes.now m) (shapes kids)) masks c.loop-kid.found.items c.loop-kid.invariant.long
    (λ k l.
    each_done kids c.loop-kid.kid-index (leaf_told c.args.planes.now (get_or masks k 0)) (get_or c.loop-kid.found.items k false)
    (each_holds (leaf_told c.args.planes.now (get_or masks k 0)) (shapes kids)) c.loop-kid-test.false (c.loop-kid.invariant.told k l))

-- ---- a tree

pub holds_at-returns-in-Union : goal.holds_at-returns-in-Union
holds_at-returns-in-Union t c =
    let e : union (shapes c.as_slice.result.now) ≡ shape c.args.t.now = ap (λ ks. union (shapes ks)) c.as_slice.ensures ∙ sym (shape-Union c.in-Union.kids) ∙ ap shape (sym c.in-Union.is) in
    subst (λ (s : Shape). IfOk c.some_holds_at.result (λ found. found.items ≡ map (λ m. holds_by (leaf_told c.args.planes.now m) s) c.args.masks.now)) e c.some_holds_at.ensures

pub holds_at-returns-in-Meet : goal.holds_at-returns-in-Meet
holds_at-returns-in-Meet t c =
    let e : meet (shapes c.as_slice-in-Meet.result.now) ≡ shape c.args.t.now = ap (λ ks. meet (shapes ks)) c.as_slice-in-Meet.ensures ∙ sym (shape-Meet c.in-Meet.kids) ∙ ap shape (sym c.in-Meet.is) in
    subst (λ (s : Shape). IfOk c.each_holds_at.result (λ found. found.items ≡ map (λ m. holds_by (leaf_told c.args.planes.now m) s) c.args.masks.now)) e c.each_holds_at.ensures

pub holds_at-returns-in_ok-later-in-Cut : goal.holds_at-returns-in_ok-later-in-Cut
holds_at-returns-in_ok-later-in-Cut t c =
    let masks = c.args.masks.now in
    let first = shape c.get.result.now in
    let later = shapes c.as_slice-in-Cut.result.now in
    let e : cut first later ≡ shape c.args.t.now =
    ap (λ r. cut (shape r) later) c.get.ensures ∙ ap (λ ks. cut (shape c.in-Cut.first) (shapes ks)) c.as_slice-in-Cut.ensures ∙ sym (shape-Cut c.in-Cut.first c.in-Cut.kids) ∙ ap shape (sym c.in-Cut.is) in
    let found = c.in_ok-found-in-Cut.ensures in
    let long = ap length found ∙ length-map masks (λ m. holds_by (leaf_told c.args.planes.now m) first) in
    subst (λ (s : Shape). c.take_out.result.items ≡ map (λ m. holds_by (leaf_told c.args.planes.now m) s) masks) e
    (built (λ m. holds_by (leaf_told c.args.planes.now m) (cut first later)) masks c.take_out.result.items (c.take_out.ensures.long ∙ long)
    (λ k l.
    let here : k < length c.in_ok-found-in-Cut.found.items = omega arith in
    c.take_out.ensures.each k here
    ∙ ap (λ b. b && not (get_or c.deref.result.now k false)) (answer_at (λ m. holds_by (leaf_told c.args.planes.now m) first) masks c.in_ok-found-in-Cut.found.items found k l)
    ∙ ap (λ b. holds_by (leaf_told c.args.planes.now (get_or masks k 0)) first && not b)
    (answer_at (λ m. some_holds (leaf_told c.args.planes.now m) later) masks c.deref.result.now (c.deref.ensures.value ∙ c.in_ok-later-in-Cut.ensures) k l)))
