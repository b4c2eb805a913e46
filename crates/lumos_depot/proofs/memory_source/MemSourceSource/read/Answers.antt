use Rattle.std.proofs.Common.{◌≡◌, ◌≤◌, length, drop, Some, ap, arith}
use Rattle.std.proofs.lemmas.List.{nil_from_length, take_rest}
use Rattle.std.proofs.lemmas.Grind.{common_steps}
use Rattle.lumos_depot.proofs.Pieces.{split_read}
use Rattle.lumos_depot.proofs.memory_source.MemSourceSource.read.Goals as goal

pub returns-clause-bytes : goal.returns-clause-bytes
returns-clause-bytes c =
    let rest = take_rest c.deref-2.result.now c.self.inside.taken in
    let room : c.min-count.result ≤ length (drop c.self.inside.taken c.self.inside.bytes.items) = grind (arith, common_steps) in (
      rw (← c.self.view_is) (ap Some (split_read c.self.inside.bytes.items c.min-count.result c.self.inside.taken c.copy_from_slice.new.self (drop c.min-count.result c.args.buf.now) (cc) room)),
      λ none xs is.
          let same : c.args.self.now.left ≡ xs = cc in
          let view = ap (λ v. length v.left) c.self.view_is in
          nil_from_length xs (grind (arith, common_steps)),
    )
