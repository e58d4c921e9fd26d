-- Texts that go through a buffer, step by step.
use Rattle.std.proofs.Common.{is_err, subst, arith, Result, Ok, Err, ◌≡◌, ◌≤◌, ℕ, List, [], ◌++◌, Option, Bool, true, false, append_assoc, refl, sym, ap, ◌∙◌}
use Rattle.std.specs.Io.KnownBytes.{Appends}
use Rattle.bc_io.proofs.Known.{Appends-nil, Appends-trans}
use Rattle.bc_io.specs.Causes.{Rose, HasCause}
use Rattle.bc_io.specs.Pieces.{Puts as AllPut}
use Rattle.bc_io.specs.Taking.{Takes, HasPut}

pub takes_none : (a : Option (List ℕ)) (xs : List ℕ) → Takes a a xs xs
takes_none a xs = record { front = []; taken = Appends-nil a; all = refl }

-- what is left of a text is put on
pub takes_on : (a b c : Option (List ℕ)) (xs ys zs : List ℕ) → Takes a b xs ys → Takes b c ys zs → Takes a c xs zs
takes_on a b c xs ys zs p q = record {
  front = p.front ++ q.front;
  taken = Appends-trans a b c p.front q.front p.taken q.taken;
  all = p.all ∙ ap (λ l. p.front ++ l) q.all ∙ sym (append_assoc p.front q.front zs);
}

-- what is behind the text stays behind what is left of it
pub takes_more : (a b : Option (List ℕ)) (xs ys more : List ℕ) → Takes a b xs ys → Takes a b (xs ++ more) (ys ++ more)
takes_more a b xs ys more p = record { front = p.front; taken = p.taken; all = ap (λ l. l ++ more) p.all ∙ append_assoc p.front ys more }

-- a piece more, where no write failed
pub put_on : (start h0 h1 : Option (List ℕ)) (before f0 f1 : ℕ) (done piece old new : List ℕ) (failed : Bool) → failed ≡ false → Takes h0 h1 (old ++ piece) new → f0 ≤ f1
    → HasPut start before h0 f0 old failed done → HasPut start before h1 f1 new failed (done ++ piece)
put_on start h0 h1 before f0 f1 done piece old new failed e p l h = record {
  rest = new;
  took = takes_on start h0 h1 (done ++ piece) (h.rest ++ piece) new (takes_more start h0 done h.rest piece h.took) (rw (h.waits e) p);
  waits = λ e. refl;
  cause = λ t. absurd (cc (e, t));
  later = omega (arith, h.later);
}

-- a piece more, at which a write failed
pub put_lost : (start h0 h1 : Option (List ℕ)) (before f0 f1 : ℕ) (done piece old waiting rest : List ℕ) (failed : Bool) → failed ≡ false → Takes h0 h1 (old ++ piece) rest → Rose f0 f1 → f0 ≤ f1
    → HasPut start before h0 f0 old failed done → HasPut start before h1 f1 waiting true (done ++ piece)
put_lost start h0 h1 before f0 f1 done piece old waiting rest failed e p r l h = record {
  rest = rest;
  took = takes_on start h0 h1 (done ++ piece) (h.rest ++ piece) rest (takes_more start h0 done h.rest piece h.took) (rw (h.waits e) p);
  waits = λ e. absurd (cc e);
  cause = λ t. omega (arith, h.later);
  later = omega (arith, h.later);
}

-- what waits in part is filled up
pub filled : (a b c : Option (List ℕ)) (all old rest waiting more left : List ℕ) → Takes a b all (old ++ rest) → Takes b c old waiting → rest ≡ more ++ left
    → Takes a c all ((waiting ++ more) ++ left)
filled a b c all old rest waiting more left p q e =
    rw (append_assoc waiting more left) (rw (sym e) (takes_on a b c all (old ++ rest) (waiting ++ rest) p (takes_more b c old waiting rest q)))

-- what waits is written out at last
pub put_out : {T E : Type 0} (r : Result T E) (start h0 h1 : Option (List ℕ)) (before f0 f1 : ℕ) (done old : List ℕ) (failed : Bool) → failed ≡ false → AllPut h0 h1 r old → HasCause f0 f1 r
    → HasPut start before h0 f0 old failed done → AllPut start h1 r done × HasCause before f1 r
put_out (Ok x) start h0 h1 before f0 f1 done old failed e p l h = (
  subst (Appends start h1) (sym (h.took.all ∙ ap (λ l. h.took.front ++ l) (h.waits e))) (Appends-trans start h0 h1 h.took.front old h.took.taken p),
  record { later = omega (arith, h.later, l.later); failed = tt },
)
put_out (Err x) start h0 h1 before f0 f1 done old failed e p l h = (
  (h.took.front ++ p.0, p.1, h.took.all ∙ ap (λ l. h.took.front ++ l) (h.waits e ∙ p.2) ∙ sym (append_assoc h.took.front p.0 p.1), Appends-trans start h0 h1 h.took.front p.0 h.took.taken p.3),
  record { later = omega (arith, h.later, l.later); failed = omega (arith, h.later, l.failed) },
)

-- where a write failed a front of the text was taken
pub put_before : {T E : Type 0} (r : Result T E) (start h : Option (List ℕ)) (before f : ℕ) (done waiting : List ℕ) (failed : Bool) → failed ≡ true → is_err r ≡ true
    → HasPut start before h f waiting failed done → AllPut start h r done × HasCause before f r
put_before (Ok x) start h before f done waiting failed e is p = absurd (cc is)
put_before (Err x) start h before f done waiting failed e is p = ((p.took.front, p.rest, p.took.all, p.took.taken), record { later = p.later; failed = p.cause e })

-- nothing is put yet
pub put_none : (h : Option (List ℕ)) (f : ℕ) (waiting : List ℕ) (failed : Bool) → failed ≡ false → waiting ≡ [] → HasPut h f h f waiting failed []
put_none h f waiting failed e w = record {
  rest = [];
  took = takes_none h [];
  waits = λ e. sym w;
  cause = λ t. absurd (cc (e, t));
  later = omega arith;
}

-- a piece more behind a write that failed
pub put_past : (start h0 h1 : Option (List ℕ)) (before f0 f1 : ℕ) (done piece old new : List ℕ) (was is : Bool) → was ≡ true → is ≡ true → h1 ≡ h0 → f1 ≡ f0
    → HasPut start before h0 f0 old was done → HasPut start before h1 f1 new is (done ++ piece)
put_past start h0 h1 before f0 f1 done piece old new was is w i eh ef h = record {
  rest = h.rest ++ piece;
  took = subst (λ k. Takes start k (done ++ piece) (h.rest ++ piece)) (sym eh) (takes_more start h0 done h.rest piece h.took);
  waits = λ f. absurd (cc (f, i));
  cause = λ t. subst (Rose before) (sym ef) (h.cause w);
  later = omega (arith, h.later);
}
