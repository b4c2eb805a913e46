use Rattle.std.proofs.Common.{◌-◌, ◌++◌, length, take, drop, sym, ap, subst, ◌∙◌, arith}
use Rattle.std.proofs.lemmas.List.{length-drop, length-take}
use lib.Seq.{take-add, take-take}
use Rattle.std.specs.Io.KnownBytes.{Appends}
use Rattle.std.proofs.KnownBytes.{Appends-kept, Appends-trans}
use Rattle.lumos_cli.proofs.streams.write_some.Goals.{in-Ok+else-count-eq0, in-Err+else-ne}
use Rattle.lumos_cli.proofs.streams.write_some.Goals as goal

pub loop-preserved : goal.loop-preserved
loop-preserved g c =
    let at = c.loop.at in
    let bytes = c.args.bytes.now in
    let rest = drop at bytes in
    let long = length-take (length bytes - at) rest in
    let left = length-drop at bytes in
    elim c.match-write.branch [
      | in-Ok+else-count-eq0 w ↦
          let n = w.in-Ok.count in
          let joined = ap (λ l. take at bytes ++ l) (take-take n (length bytes - at) rest (omega (arith, w.in-Ok.ensures.bound))) ∙ sym (take-add at n bytes) in
          rw w.at-is (omega (arith, w.in-Ok.ensures.bound), subst (Appends _ _) joined (Appends-trans _ _ _ _ _ c.loop.invariant.1 w.in-Ok.ensures.bytes))
      | in-Err+else-ne w ↦ rw w.at-is (c.loop.invariant.0, Appends-kept _ _ _ _ c.loop.invariant.1 w.in-Err.ensures.bytes)
    ]
