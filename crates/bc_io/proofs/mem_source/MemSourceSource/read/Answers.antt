use Rattle.std.proofs.Common.{◌≡◌, ◌-◌, ◌+◌, ◌<◌, ◌≤◌, ◌++◌, length, take, drop, min, ◌∙◌, ap, arith, rules}
use Rattle.std.proofs.lemmas.Grind.{common_steps}
use Rattle.bc_io.proofs.Known.{gave, at_end}
use Rattle.bc_io.proofs.mem_source.MemSourceSource.read.Goals as goal

pub returns-clause-bytes : goal.returns-clause-bytes
returns-clause-bytes c =
    let bytes = c.args.self.now.bytes.items in
    let buf = c.args.buf.now in
    let at = c.args.self.now.at in
    let n = c.min-count.result in
    let len : c.len.result ≡ length bytes = search rules in
    let count : n ≡ min (min (length buf) c.args.self.now.most) (length bytes - at) = omega (arith, c.min-count.ensures, c.min.ensures) in
    let le : n ≤ length bytes - at = omega arith in
    let copied : c.copy_from_slice.new.self ≡ take (at + n - at) (drop at bytes) =
    c.copy_from_slice.ensures.after ∙ ap (λ l. take (at + n - at) (drop at l)) c.deref-2.ensures.value in
    let within : n ≤ length buf = omega arith in (
      gave bytes _ _ at n le copied,
      λ zero room. at_end bytes at n (length buf) c.args.self.now.most count c.args.self.now.some
          (let some : 0 < length (c.copy_from_slice.new.self ++ drop n buf) = room in
          grind (arith, common_steps, c.copy_from_slice.ensures.len)) zero,
    )
