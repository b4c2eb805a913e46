-- The bytes of what leads out of vertices, piece after piece of them.
use Rattle.std.proofs.Common.{◌≡◌, ◌≤◌, ◌<◌, ◌*◌, ◌+◌, ◌-◌, ℕ, List, [], ◌++◌, length, get_or, take, drop, refl, sym, ap, ◌∙◌, arith, Option}
use Rattle.std.specs.Prelude.{flat_map, IfSome}
use Rattle.std.specs.Option.{option_map}
use Rattle.std.proofs.lemmas.List.{flat_map_more, length-take-le, take_more}
use Rattle.std.proofs.lemmas.List.Concat.{flat_map-append}
use Rattle.std.proofs.Math.Seq.{take-add}
use Rattle.lumos_base.specs.Records.{info_bytes}
use Rattle.lumos_base.specs.declared.records.OutInfo.{OutInfo}
use Rattle.lumos_depot.specs.Files.{overwritten}
use Rattle.grid_format.proofs.BlockPlaces.{length-each}
use Rattle.lumos_depot.proofs.Overwrites.{written_next}
use Rattle.lumos_depot.proofs.StepLemmas.{told_more}

pub length-infos : (infos : List OutInfo) → length (flat_map info_bytes infos) ≡ 12 * length infos
length-infos infos = length-each info_bytes 12 infos (λ e. refl)

-- one more was put
pub info_more : (infos : List OutInfo) (i : ℕ) (d : OutInfo) (bytes : List ℕ) → i < length infos → bytes ≡ flat_map info_bytes (take i infos) → bytes ++ info_bytes (get_or infos i d) ≡ flat_map info_bytes (take (i + 1) infos)
info_more infos i d bytes low had =
    ap (λ b. b ++ info_bytes (get_or infos i d)) had
    ∙ flat_map_more info_bytes [] (take i infos) (get_or infos i d)
    ∙ ap (flat_map info_bytes) (sym (take_more infos i d low))

-- a piece of tallies is written behind those before it
pub infos_next : (first from i count : ℕ) (infos : List OutInfo) (old mid new : Option (List ℕ)) → from ≡ first → i + count ≤ length infos → IfSome old (λ file. 12 * (first + length infos) ≤ length file) →
    mid ≡ option_map (overwritten (12 * first) (flat_map info_bytes (take i infos))) old → new ≡ option_map (overwritten (12 * (from + i)) (flat_map info_bytes (take (i + count - i) (drop i infos)))) mid →
    new ≡ option_map (overwritten (12 * first) (flat_map info_bytes (take (i + count) infos))) old
infos_next first from i count infos old mid new start within inside one two =
    let before = flat_map info_bytes (take i infos) in
    let part = flat_map info_bytes (take (i + count - i) (drop i infos)) in
    let next : 12 * (from + i) ≡ 12 * first + length before = omega (arith, length-infos (take i infos), length-take-le i infos (omega arith), start) in
    let room = told_more old (λ file. 12 * (first + length infos) ≤ length file) (λ file. 12 * (from + i) ≤ length file) (λ file long. omega (arith, long, within, start)) inside in
    let size : i + count - i ≡ count = omega arith in
    let whole : before ++ part ≡ flat_map info_bytes (take (i + count) infos) =
    ap (λ (k : ℕ). before ++ flat_map info_bytes (take k (drop i infos))) size
    ∙ sym (flat_map-append info_bytes (take i infos) (take count (drop i infos)))
    ∙ ap (flat_map info_bytes) (sym (take-add i count infos)) in
    written_next (12 * first) (12 * (from + i)) before part next old mid new room one two
    ∙ ap (λ bytes. option_map (overwritten (12 * first) bytes) old) whole
