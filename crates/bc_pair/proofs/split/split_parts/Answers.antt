use Rattle.std.proofs.Common.{◌≡◌, ℕ, take, drop, List, sym, ap, ◌∙◌, subst}
use Rattle.std.specs.Option.{option_map}
use Rattle.bc_lex.specs.Places.{LinePlace}
use Rattle.bc_lex.specs.Lines.{line}
use Rattle.bc_pair.proofs.Cutting.{Came, came_line, parts_at, text_kept}
use Rattle.bc_pair.proofs.Unique.{no_split}
use Rattle.bc_pair.specs.Parts.{Two, ArePartsOf}
use Rattle.bc_pair.proofs.split.split_parts.Goals as goal

are_parts : {text text' first first' second second' : List ℕ} {n : ℕ} → text ≡ text' → first ≡ first' → second ≡ second'
    → ArePartsOf text (record { first = first; second = second; line = n }) → ArePartsOf text' (record { first = first'; second = second'; line = n })
are_parts {text} {text'} {first} {first'} {second} {second'} {n} e f g k =
    let same : (let p : Two = record { first = first; second = second; line = n } in p) ≡ record { first = first'; second = second'; line = n } = λ i. record { first = f i; second = g i; line = n } in
    subst (λ t. ArePartsOf t (record { first = first'; second = second'; line = n })) e (subst (ArePartsOf text) same k)

found : (c : goal.After-behind) → ArePartsOf c.args.text.now (record { first = c.before-then-is_separator.result.now; second = c.behind.result.now; line = c.in-Some.line.number })
found c =
    let h = ap (option_map line) (sym c.in-Some.is) ∙ c.next.ensures.answer in
    let k = parts_at c.loop-line.lines (line c.in-Some.line) c.loop-line.invariant.came (sym h) (sym c.is_separator.ensures ∙ c.if-is_separator.true) in
    let text = c.loop-line.invariant.text_is in
    let at = c.place.ensures.value ∙ ap (λ (p : LinePlace). p.at) c.next.ensures.place in
    let first = ap (λ i. take i c.loop-line.lines.text) (sym c.loop-line.invariant.start_is) ∙ ap (take c.loop-line.start) text ∙ sym c.before-then-is_separator.ensures in
    let second = ap (λ i. drop i c.loop-line.lines.text) (sym at) ∙ ap (drop c.place.result) text ∙ sym c.behind.ensures in
    are_parts text first second k

pub returns-then-is_separator-clause-parts : goal.returns-then-is_separator-clause-parts
returns-then-is_separator-clause-parts c = found c

pub returns-then-is_separator-clause-none : goal.returns-then-is_separator-clause-none
returns-then-is_separator-clause-none c = (λ e. absurd (cc), λ none. absurd (no_split c.args.text.now _ (found c) none))

pub loop-line-preserved : goal.loop-line-preserved
loop-line-preserved c =
    let h = ap (option_map line) (sym c.in-Some.is) ∙ c.next.ensures.answer in
    let k = came_line c.loop-line.lines (line c.in-Some.line) c.loop-line.invariant.came (sym h) (sym c.is_separator.ensures ∙ c.if-is_separator.false) in
    let text = text_kept c.loop-line.lines (line c.in-Some.line) c.loop-line.invariant.came (sym h) in
    let place = c.next.ensures.place in
    record {
      came = moved place text k;
      start_is = c.place-start.ensures.value;
      text_is = ap (λ (p : LinePlace). p.text) place ∙ text ∙ c.loop-line.invariant.text_is;
    }
  where
    moved : {p q : LinePlace} {text : List ℕ} → q ≡ p → p.text ≡ text → Came text p.at p.number → Came q.text q.at q.number
    moved {p} {q} {text} e t k = subst (λ (r : LinePlace). Came r.text r.at r.number) (sym e) (subst (λ t. Came t p.at p.number) (sym t) k)
