use Rattle.std.proofs.Common.{rules, arith, ◌≡◌, sym, subst, get_or, length}
use Rattle.std.proofs.lemmas.Int.{to_z-of_z}
use Rattle.std.specs.Int.RustNames.{FitsSigned}
use Rattle.std.specs.Prelude.{pos}
use mir.Syntax.{w64}
use Rattle.bc_read.specs.Leaves.{LongTells}
use Rattle.bc_read.specs.declared.part.Form.TheVariants as forms
use Rattle.bc_read.proofs.LeafTests.{six}
use Rattle.bc_read.proofs.leaf.block.Goals as goal

pub returns-in-len6 : goal.returns-in-len6
returns-in-len6 c =
    let fits-0 : FitsSigned w64 (get_or c.args.numbers.now 0 (pos 0)) = search rules in
    let fits-1 : FitsSigned w64 (get_or c.args.numbers.now 1 (pos 0)) = search rules in
    let fits-2 : FitsSigned w64 (get_or c.args.numbers.now 2 (pos 0)) = search rules in
    let fits-3 : FitsSigned w64 (get_or c.args.numbers.now 3 (pos 0)) = search rules in
    let fits-4 : FitsSigned w64 (get_or c.args.numbers.now 4 (pos 0)) = search rules in
    let fits-5 : FitsSigned w64 (get_or c.args.numbers.now 5 (pos 0)) = search rules in
    let least = c.in-len6.len_at_least in
    let most = c.in-len6.len_below in
    let long : length c.args.numbers.now ≡ 6 = omega arith in
    let h = simp to_z-of_z at c.block_of.ensures in
    subst (LongTells c.block_of.result forms.Block) (sym (six c.args.numbers.now long)) h
