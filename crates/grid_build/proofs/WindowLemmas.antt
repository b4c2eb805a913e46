-- Tallies that are written window after window of vertices.
use Rattle.std.proofs.Common.{◌≡◌, ◌≤◌, ◌*◌, ◌+◌, ℕ, zero, suc, List, [], ◌∷◌, ◌++◌, length, drop, map, flat_map, Option, Some, None, refl, sym, ap, ap₂, ◌∙◌, arith, length-append, append-nil}
use Rattle.std.specs.Prelude.{IfSome, is_some}
use Rattle.std.specs.List.{range_with_len}
use Rattle.std.specs.Option.{option_map}
use Rattle.std.proofs.lemmas.Bool.{false≢true}
use Rattle.std.proofs.lemmas.List.{drop_all, map-append}
use Rattle.std.proofs.lemmas.List.Concat.{flat_map-append}
use Rattle.std.proofs.lemmas.List.Folds.{flat_map-map}
use Rattle.lumos_base.specs.Leaving.{out_info}
use Rattle.lumos_base.specs.Records.{info_bytes}
use Rattle.lumos_base.specs.declared.records.Edge.{Edge}
use Rattle.lumos_base.specs.declared.records.OutInfo.{OutInfo}
use Rattle.lumos_depot.specs.Files.{overwritten}
use Rattle.grid_build.specs.Passes.{IsSpool}
use Rattle.grid_build.specs.Tallied.{HasTallied, HasWritten}
use Rattle.grid_build.proofs.InfoBytes.{length-infos}
use Rattle.lumos_depot.proofs.Overwrites.{length-overwritten, written_next, written_none}
use Rattle.lumos_depot.proofs.StepLemmas.{told_by, told_more}
use Rattle.grid_build.proofs.TallyLemmas.{tallied_list}

range-append : (a m n : ℕ) → range_with_len a (m + n) ≡ range_with_len a m ++ range_with_len (a + m) n
range-append a zero n =
    let none : zero + n ≡ n = omega arith in
    let start : a ≡ a + zero = omega arith in
    ap (range_with_len a) none ∙ ap (λ (k : ℕ). range_with_len k n) start
range-append a (suc m) n =
    let more : suc m + n ≡ suc (m + n) = omega arith in
    let start : a + 1 + m ≡ a + suc m = omega arith in
    ap (range_with_len a) more ∙ ap (λ l. a ∷ l) (range-append (a + 1) m n ∙ ap (λ (k : ℕ). range_with_len (a + 1) m ++ range_with_len k n) start)

module _ (n : ℕ) (spool : Option (List ℕ)) (count : ℕ) where
  pub windows_none : (told : Option (List ℕ)) → HasWritten n spool count 0 told told
  windows_none told = record { infos = []; whole = refl; written = written_none 0 told; told = λ list is many. refl }

  -- one window more
  pub windows_next : (first more : ℕ) (infos : List OutInfo) (old mid new : Option (List ℕ)) → HasWritten n spool count first old mid → HasTallied n spool count first infos →
      length infos ≡ more → IfSome old (λ file. length file ≡ 12 * n) → first + more ≤ n → new ≡ option_map (overwritten (12 * first) (flat_map info_bytes infos)) mid →
      HasWritten n spool count (first + more) old new
  windows_next first more infos old mid new had tallied size long within is = record {
    infos = had.infos ++ infos;
    whole = omega (arith, length-append had.infos infos, had.whole, size);
    written =
        let before = flat_map info_bytes had.infos in
        let next : 12 * first ≡ 0 + length before = omega (arith, length-infos had.infos, had.whole) in
        let room = told_more old (λ file. length file ≡ 12 * n) (λ file. 12 * first ≤ length file) (λ file sized. omega (arith, sized, within)) long in
        written_next 0 (12 * first) before (flat_map info_bytes infos) next old mid new room had.written is
        ∙ ap (λ bytes. option_map (overwritten 0 bytes) old) (sym (flat_map-append info_bytes had.infos infos));
    told = λ list told many.
        ap₂ ◌++◌ (had.told list told many) (tallied_list n spool count first infos list tallied told many)
        ∙ sym (map-append (out_info list) (range_with_len 0 first) (range_with_len first (length infos)))
        ∙ ap (map (out_info list)) (sym (range-append 0 first (length infos) ∙ ap (λ (k : ℕ). range_with_len 0 first ++ range_with_len k (length infos)) (let start : 0 + first ≡ first = omega arith in start)))
        ∙ ap (λ (k : ℕ). map (out_info list) (range_with_len 0 (first + k))) size;
  }

  -- the length of Info stays
  pub windows_long : (first : ℕ) (old new : Option (List ℕ)) → HasWritten n spool count first old new → IfSome old (λ file. length file ≡ 12 * n) → first ≤ n → IfSome new (λ file. length file ≡ 12 * n)
  windows_long first old new had long within =
      let bytes = flat_map info_bytes had.infos in
      told_by (overwritten 0 bytes) old new (λ file. length file ≡ 12 * n) (λ file. length file ≡ 12 * n) had.written (λ file size. length-overwritten 0 bytes file (omega (arith, size, within, length-infos had.infos, had.whole)) ∙ size) long

  -- all windows are written
  pub windows_whole : (old new : Option (List ℕ)) → HasWritten n spool count n old new → IfSome old (λ file. length file ≡ 12 * n) → (is_some old ≡ is_some spool) → (list : List Edge) → IsSpool n spool list → length list ≡ count →
      new ≡ Some (flat_map (λ v. info_bytes (out_info list v)) (range_with_len 0 n))
  windows_whole None new had long both list told many = absurd (false≢true (both ∙ ap is_some told.bytes))
  windows_whole (Some file) new had long both list told many =
      let bytes = flat_map info_bytes had.infos in
      let rest : drop (0 + length bytes) file ≡ [] = drop_all (0 + length bytes) file (omega (arith, long, length-infos had.infos, had.whole)) in
      had.written ∙ ap Some (ap (λ l. bytes ++ l) rest ∙ append-nil bytes ∙ ap (flat_map info_bytes) (had.told list told many) ∙ flat_map-map info_bytes (out_info list) (range_with_len 0 n))
