use Rattle.std.proofs.Common.{◌≡◌, ℕ, ◌+◌, ◌-◌, ◌*◌, length, take, drop, map, refl, sym, ap, ◌∙◌, arith}
use Rattle.std.proofs.lemmas.List.{length-take-le}
use Rattle.value_files.specs.declared.fault.FileFault.TheVariants.{Damaged}
use Rattle.value_files.specs.Records.{last_number, records_at}
use Rattle.value_files.proofs.DamageLemmas.{length-own, own_bytes, own_is, record_fault, sound}
use Rattle.value_files.proofs.RecordLemmas.{are_more}
use Rattle.value_files.proofs.records.get_records.Goals as goal

pub returns-in_default-clause-fault : goal.returns-in_default-clause-fault
returns-in_default-clause-fault g c =
    let w = g.V.Fixed.WIDTH in
    let i = c.loop-i.i in
    let bytes = c.args.bytes.now in
    let wide = c.WIDTH.ensures in
    let at : ℕ = c.WIDTH.result * i in
    let span = c.WIDTH-in-loop-i.result in
    let place : at ≡ w * i = ap (λ (k : ℕ). k * i) wide in
    let own = take (at + span - at) (drop at bytes) in
    let long = length-own w at span i (length c.args.out.now) bytes place c.WIDTH-in-loop-i.ensures c.loop-i-test.true c.requires.whole in
    sym (record_fault g.V.Fixed.value_of w c.args.file c.args.place (length c.args.out.now) i bytes own (take i c.loop-i.out) _ c.loop-i-test.true
    (own_is w at span i bytes place c.WIDTH-in-loop-i.ensures) (sym c.get.ensures ∙ c.in_default.is) (length-take-le i c.loop-i.out (omega (arith, c.loop-i.auto.out))) c.loop-i.invariant
    (λ t. Damaged c.args.file (c.args.place + place t) ((c.last_number.ensures ∙ ap (λ (k : ℕ). last_number k own) long) t)))

pub returns-in_default-clause-broken : goal.returns-in_default-clause-broken
returns-in_default-clause-broken g c =
    let w = g.V.Fixed.WIDTH in
    let i = c.loop-i.i in
    let bytes = c.args.bytes.now in
    let wide = c.WIDTH.ensures in
    let at : ℕ = c.WIDTH.result * i in
    let span = c.WIDTH-in-loop-i.result in
    let place : at ≡ w * i = ap (λ (k : ℕ). k * i) wide in
    let own = take (at + span - at) (drop at bytes) in
    let size = length-own w at span i (length c.args.out.now) bytes place c.WIDTH-in-loop-i.ensures c.loop-i-test.true c.requires.whole in (
      refl,
      record {
        index = i;
        low = c.loop-i-test.true;
        place_is = ap (λ (k : ℕ). c.args.place + k) place;
        bytes = own;
        are_bytes = own_bytes at (at + span - at) bytes (λ k. omega (arith, c.type_inv.bytes k));
        long = size;
        no_value = sym c.get.ensures ∙ c.in_default.is;
        found_is = c.last_number.ensures ∙ ap (λ (k : ℕ). last_number k own) size;
      },
    )

pub loop-i-preserved : goal.loop-i-preserved
loop-i-preserved g c =
    let w = g.V.Fixed.WIDTH in
    let i = c.loop-i.i in
    let bytes = c.args.bytes.now in
    let place : c.WIDTH.result * i ≡ w * i = ap (λ (k : ℕ). k * i) c.WIDTH.ensures in
    let own = own_is w (c.WIDTH.result * i) c.WIDTH-in-loop-i.result i bytes place c.WIDTH-in-loop-i.ensures in
    are_more g.V.Fixed.value_of w 0 c.loop-i.out i c.in-Some.value bytes (omega (arith, c.loop-i.auto.out)) (ap g.V.Fixed.value_of (sym own) ∙ sym c.get.ensures ∙ c.in-Some.is) c.loop-i.invariant

pub returns-clause-fault : goal.returns-clause-fault
returns-clause-fault g c =
    let w = g.V.Fixed.WIDTH in
    let i = c.loop-i.i in
    let all : i ≡ length c.args.out.now = omega (arith, c.loop-i.auto.i-end) in
    let long : length (take i c.loop-i.out) ≡ length c.args.out.now = length-take-le i c.loop-i.out (omega (arith, c.loop-i.auto.out)) ∙ all in
    sym (sound g.V.Fixed.value_of w c.args.file c.args.place (records_at w 0 (length c.args.out.now) c.args.bytes.now) (take i c.loop-i.out)
    (ap (λ (k : ℕ). map g.V.Fixed.value_of (records_at w 0 k c.args.bytes.now)) (sym long) ∙ c.loop-i.invariant))
