use Rattle.std.proofs.Common.{Err, refl, ap, ◌∙◌}
use Rattle.std.proofs.lemmas.Result.{err_from_is_err_and}
use Rattle.bc_lex.specs.Words.{after_plain}
use Rattle.bc_off.proofs.Chains.{stop, on, counts_are}
use Rattle.bc_off.proofs.header.read_counts.Goals as goal

pub returns-in_err-faces : goal.returns-in_err-faces
returns-in_err-faces c =
    let p = c.args.words in
    let q = c.read_limited.new.words in
    let f = err_from_is_err_and c.from_residual-in_err-faces.result c.from_residual-in_err-faces.ensures.1 in
    f.1
    ∙ ap Err f.2
    ∙ on _ _ _ _ c.in_ok-vertices.ensures.value (stop _ _ _ c.in_err-faces.ensures.value)
    ∙ counts_are p q (after_plain q) (after_plain (after_plain q)) c.read_limited.ensures.place refl refl

pub returns-in_err-read_count : goal.returns-in_err-read_count
returns-in_err-read_count c =
    let p = c.args.words in
    let q = c.read_limited.new.words in
    let r = c.read_limited-2.new.words in
    let f = err_from_is_err_and c.from_residual-in_err-read_count.result c.from_residual-in_err-read_count.ensures.1 in
    f.1
    ∙ ap Err f.2
    ∙ on _ _ _ _ c.in_ok-vertices.ensures.value (on _ _ _ _ c.in_ok-faces.ensures.value (stop _ _ _ c.in_err-read_count.ensures.value))
    ∙ counts_are p q r (after_plain r) c.read_limited.ensures.place c.read_limited-2.ensures.place refl

pub returns-in_err-check_end : goal.returns-in_err-check_end
returns-in_err-check_end c =
    let p = c.args.words in
    let q = c.read_limited.new.words in
    let r = c.read_limited-2.new.words in
    let s = c.read_count.new.words in
    let f = err_from_is_err_and c.from_residual-in_err-check_end.result c.from_residual-in_err-check_end.ensures.1 in
    f.1
    ∙ ap Err f.2
    ∙ on _ _ _ _ c.in_ok-vertices.ensures.value (on _ _ _ _ c.in_ok-faces.ensures.value (on _ _ _ _ c.in_ok-read_count.ensures.value (stop _ _ _ c.in_err-check_end.ensures)))
    ∙ counts_are p q r s c.read_limited.ensures.place c.read_limited-2.ensures.place c.read_count.ensures.place

pub returns : goal.returns
returns c =
    let p = c.args.words in
    let q = c.read_limited.new.words in
    let r = c.read_limited-2.new.words in
    let s = c.read_count.new.words in
    on _ _ _ _ c.in_ok-vertices.ensures.value (on _ _ _ _ c.in_ok-faces.ensures.value (on _ _ _ _ c.in_ok-read_count.ensures.value (on _ _ _ _ c.in_ok-check_end.ensures refl)))
    ∙ counts_are p q r s c.read_limited.ensures.place c.read_limited-2.ensures.place c.read_count.ensures.place
