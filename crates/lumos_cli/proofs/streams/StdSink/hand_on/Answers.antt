use Rattle.std.proofs.Common.{[], ◌-◌, ◌++◌, take, drop, sym, ap, subst, ◌∙◌, arith}
use Rattle.std.proofs.lemmas.List.{append-nil, length-take, take-append-drop, take_all}
use Rattle.std.specs.Prelude.{slice_range}
use Rattle.std.specs.Io.KnownBytes.{Appends}
use Rattle.std.proofs.KnownBytes.{append_known-moved}
use Rattle.lumos_cli.proofs.Passing.{range_drop}
use Rattle.lumos_cli.proofs.streams.StdSink.hand_on.Goals as goal

pub returns-then-self-clause-bytes : goal.returns-then-self-clause-bytes
returns-then-self-clause-bytes g c =
    let s = c.self.inside in
    let n = c.write_some.result in
    let held = slice_range s.buffer.items s.start s.end in
    let rest = range_drop s.buffer.items s.start s.end n (omega arith) in
    let came = subst (λ l. Appends (g.W.Write.contents s.inner) (g.W.Write.contents c.write_some.new.inner) (take n (slice_range l s.start s.end))) c.deref.ensures.value c.write_some.ensures.bytes in
    rw (← c.self.view_is) (append_known-moved _ _ _ _ _ came (sym (take-append-drop n held) ∙ ap (λ l. take n held ++ l) rest))

pub returns-clause-bytes : goal.returns-clause-bytes
returns-clause-bytes g c =
    let s = c.self.inside in
    let n = c.write_some.result in
    let held = slice_range s.buffer.items s.start s.end in
    let whole = take_all n held (omega (arith, length-take (s.end - s.start) (drop s.start s.buffer.items))) in
    let came = subst (λ l. Appends (g.W.Write.contents s.inner) (g.W.Write.contents c.write_some.new.inner) (take n (slice_range l s.start s.end))) c.deref.ensures.value c.write_some.ensures.bytes in
    rw (← c.self.view_is) (append_known-moved _ _ _ [] _ came (sym whole ∙ sym (append-nil (take n held))))
