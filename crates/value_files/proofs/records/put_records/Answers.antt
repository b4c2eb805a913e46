use Rattle.std.proofs.Common.{◌≡◌, ℕ, ◌+◌, ◌*◌, ◌++◌, [], ◌∷◌, All, flat_map, get_or, length, take, sym, ap, subst, ◌∙◌, arith}
use Rattle.std.proofs.lemmas.Slice.{take-put_mid}
use Rattle.std.proofs.lemmas.Grind.{common_steps}
use Rattle.std.proofs.lemmas.List.{flat_map_more, take_more}
use Rattle.std.proofs.lemmas.List.Elements.{All-append, All-cons, All-nil}
use Rattle.value_files.proofs.RecordLemmas.{times_more, times_within}
use Rattle.value_files.proofs.records.put_records.Goals as goal

pub loop-i-preserved : goal.loop-i-preserved
loop-i-preserved g c =
    let w = g.V.Fixed.WIDTH in
    let i = c.loop-i.i in
    let items = c.args.items.now in
    let x = c.index-items-i.result in
    let place : c.WIDTH.result * i ≡ w * i = ap (λ (k : ℕ). k * i) c.WIDTH.ensures in
    let within = times_within w (i + 1) (length items) (omega arith) in
    let more = times_more w i in
    let wrote = c.put.ensures in
    let had = c.loop-i.invariant in
    let size : length c.put.new.out ≡ w = ap length wrote ∙ g.met.V.Fixed.length_bytes x in
    let next = take_more items i x c.loop-i-test.true in
    let read : get_or items i x ≡ x = sym c.index-items-i.is in
    record {
      room = grind (arith, common_steps);
      made =
          take-put_mid (c.WIDTH.result * i) _ c.loop-i.bytes c.put.new.out (w * (i + 1)) (omega (arith, size, more, place)) (omega (arith, within, more, place, had.room))
          ∙ ap (λ (k : ℕ). take k c.loop-i.bytes ++ c.put.new.out) place
          ∙ ap (λ b. take (w * i) c.loop-i.bytes ++ b) wrote
          ∙ ap (λ b. b ++ g.V.Fixed.bytes_of x) had.made
          ∙ flat_map_more g.V.Fixed.bytes_of [] (take i items) x
          ∙ ap (λ y. flat_map g.V.Fixed.bytes_of (take i items ++ y ∷ [])) (sym read)
          ∙ ap (flat_map g.V.Fixed.bytes_of) (sym next);
      in_range =
          subst (All g.V.Fixed.is_in_range) (ap (λ y. take i items ++ y ∷ []) (sym read) ∙ sym next)
          (All-append g.V.Fixed.is_in_range (take i items) (x ∷ []) had.in_range (All-cons g.V.Fixed.is_in_range x [] c.in_range.ensures (All-nil g.V.Fixed.is_in_range)));
    }
