-- The bytes that a turn moves of each file.
use Rattle.std.proofs.Common.{◌≡◌, ℕ, zero, suc, ◌+◌, ◌*◌, ◌<◌, cond, Bool, List, Option, Result, Ok, Err, refl, sym, ap, ◌∙◌, subst, arith}
use Rattle.std.specs.Prelude.{OnOk, sum_by}
use Rattle.std.specs.List.{range_with_len}
use Rattle.std.proofs.Math.Nat.{mul_comm}
use Rattle.lumos_depot.specs.Steps.{Reads, RoseBy, Touches}
use Rattle.lumos_depot.specs.declared.depot.FileKind.{FileKind}
use Rattle.lumos_depot.specs.declared.depot.FileKind.TheVariants.{Meta, Primary, Secondary, Info, Values, Sums, Spool}
use Rattle.partition.specs.Parts.{Cut, chunk_of, first_vertex, part_length}
use Rattle.partition.proofs.RangeLemmas.{parts_suffice}
use Rattle.value_files.proofs.RecordLemmas.{times_add}
use Rattle.windows.proofs.PartLemmas.{part_ends}
use Rattle.io_account.specs.declared.Counts.{Counts}
use Rattle.lumos_report.specs.declared.records.Kind.{Kind}
use Rattle.lumos_report.specs.declared.records.Kind.TheVariants.{Full, Fed}
use Rattle.windows.specs.Kept.{load_of}
use Rattle.early_engine.specs.Files.{stores_of, takes_of}
use Rattle.early_engine.specs.Gone.{Beside, HasGone, HasMoved, and_loads, and_shown, beside_of, sums_of_chunk}
use Rattle.early_engine.specs.Passes.{Place, file_of, of_primary, of_secondary}
use Rattle.early_engine.specs.Runs.{RoseAll}
use Rattle.early_engine.proofs.BytesLemmas.{beside_same, both, gone_as, gone_beside, of_values, rose_none, values_read}
use Rattle.early_engine.proofs.IterationLemmas.{sum_next}

-- the sums of the first m chunks
sums_below : (cut : Cut) (s m : ℕ) → sum_by (sums_of_chunk cut s) (range_with_len 0 m) ≡ s * first_vertex cut.vertices (chunk_of cut) m
sums_below cut s zero =
    let none : 0 ≡ first_vertex cut.vertices (chunk_of cut) 0 = omega arith in
    let nothing : sum_by (sums_of_chunk cut s) (range_with_len 0 0) ≡ s * 0 = omega arith in
    nothing ∙ ap (λ (n : ℕ). s * n) none
sums_below cut s (suc m) =
    let plain : m + 1 ≡ suc m = omega arith in
    ap (λ (n : ℕ). sum_by (sums_of_chunk cut s) (range_with_len 0 n)) (sym plain) ∙ sum_next (sums_of_chunk cut s) m ∙ ap (λ (n : ℕ). n + sums_of_chunk cut s m) (sums_below cut s m)
    ∙ sym (times_add s (first_vertex cut.vertices (chunk_of cut) m) (part_length cut.vertices (chunk_of cut) m)) ∙ ap (λ (n : ℕ). s * n) (sym (part_ends cut.vertices (chunk_of cut) m)) ∙ ap (λ (n : ℕ). s * first_vertex cut.vertices (chunk_of cut) n) plain

-- those of all chunks
pub sums_add_up : (cut : Cut) (s : ℕ) → 0 < cut.parts → sum_by (sums_of_chunk cut s) (range_with_len 0 cut.parts) ≡ cut.vertices * s
sums_add_up cut s some =
    let enough = parts_suffice cut.vertices cut.parts some in
    let whole : first_vertex cut.vertices (chunk_of cut) cut.parts ≡ cut.vertices = omega (arith, enough) in
    sums_below cut s cut.parts ∙ ap (λ (n : ℕ). s * n) whole ∙ mul_comm s cut.vertices

-- a value that a turn shows is read once more
pub shown_is : (beside : Beside) (n : ℕ) → both beside (of_values n) ≡ and_shown n beside
shown_is beside n = beside_same (both beside (of_values n)) (and_shown n beside) refl (omega arith) (omega arith) (omega arith)

module _ {D : Type 0} (h : D → FileKind → Option (List ℕ)) (t s : D → FileKind → ℕ) (f : D → ℕ) (a : D → Option (List ℕ)) where
  -- an iteration, and the values that are shown of it
  pub gone_shown : {T E : Type 0} (result : Result T E) (kind : Kind) (size : Place → ℕ) (need : Place → Bool) (loads : Place → ℕ) (bs : List Place) (beside : Beside) (n : ℕ) (t0 s0 : FileKind → ℕ) (x y : D) (counts : Counts)
      → HasGone kind size need loads bs beside t0 s0 (t x) (s x) counts → OnOk result (RoseBy (t x Values) (t y Values) n) → Reads h t s f a Values x y → OnOk result (HasGone kind size need loads bs (and_shown n beside) t0 s0 (t y) (s y) counts)
  gone_shown (Ok done) kind size need loads bs beside n t0 s0 x y counts gone rose reads =
      gone_as kind size need loads bs bs (both beside (of_values n)) (and_shown n beside) t0 s0 (t y) (s y) counts refl (shown_is beside n) (gone_beside kind size need loads bs beside (of_values n) t0 s0 (t x) (s x) (t y) (s y) counts gone (values_read h t s f a kind x y n rose reads))
  gone_shown (Err fault) kind size need loads bs beside n t0 s0 x y counts gone rose reads = tt

module _ {D : Type 0} (h : D → FileKind → Option (List ℕ)) (t s : D → FileKind → ℕ) (f : D → ℕ) (a : D → Option (List ℕ)) (x y : D) (cut : Cut) (v w pinned : ℕ) (kind : Kind) (ahead : Bool) (read loads shown loose : ℕ) (some : 0 < cut.parts) (loose_is : sum_by (load_of cut v pinned) (range_with_len 0 cut.parts) ≡ loose)
    (moved : HasMoved kind read (and_loads loads (and_shown shown (beside_of cut v w pinned kind ahead cut.parts))) (t x) (s x) (t y) (s y)) (touches : Touches h t s f a (takes_of kind) (stores_of ahead) x y) where
  took_primary : (k : Kind) → k ≡ kind → RoseBy (t x Primary) (t y Primary) (of_primary k read)
  took_primary Full is = subst (λ (m : Kind). RoseBy (t x (file_of m)) (t y (file_of m)) read) (sym is) moved.blocks
  took_primary Fed is = rose_none (t x Primary) (t y Primary) (touches.taken Primary (ap (λ m. takes_of m Primary) (sym is)))

  took_secondary : (k : Kind) → k ≡ kind → RoseBy (t x Secondary) (t y Secondary) (of_secondary k read)
  took_secondary Full is = rose_none (t x Secondary) (t y Secondary) (touches.taken Secondary (ap (λ m. takes_of m Secondary) (sym is)))
  took_secondary Fed is = subst (λ (m : Kind). RoseBy (t x (file_of m)) (t y (file_of m)) read) (sym is) moved.blocks

  -- what it takes
  pub turn_taken : (bytes : FileKind → ℕ) → bytes Meta ≡ 0 → bytes Primary ≡ of_primary kind read → bytes Secondary ≡ of_secondary kind read → bytes Info ≡ 0 → bytes Values ≡ loads + loose + shown → bytes Sums ≡ of_secondary kind (cut.vertices * w) → bytes Spool ≡ 0
      → RoseAll (t x) (t y) bytes
  turn_taken bytes meta primary secondary info values sums spool Meta = rw meta (rose_none (t x Meta) (t y Meta) (touches.taken Meta refl))
  turn_taken bytes meta primary secondary info values sums spool Primary = rw primary (took_primary kind refl)
  turn_taken bytes meta primary secondary info values sums spool Secondary = rw secondary (took_secondary kind refl)
  turn_taken bytes meta primary secondary info values sums spool Info = rw info (rose_none (t x Info) (t y Info) (touches.taken Info refl))
  turn_taken bytes meta primary secondary info values sums spool Values =
      let all : bytes Values ≡ loads + (sum_by (load_of cut v pinned) (range_with_len 0 cut.parts) + shown) = omega (arith, values, loose_is) in
      rw all moved.values_in
  turn_taken bytes meta primary secondary info values sums spool Sums = rw (sums ∙ ap (of_secondary kind) (sym (sums_add_up cut w some))) moved.sums_in
  turn_taken bytes meta primary secondary info values sums spool Spool = rw spool (rose_none (t x Spool) (t y Spool) (touches.taken Spool refl))

  -- and stores
  pub turn_stored : (bytes : FileKind → ℕ) → bytes Meta ≡ 0 → bytes Primary ≡ 0 → bytes Secondary ≡ 0 → bytes Info ≡ 0 → bytes Values ≡ loose → bytes Sums ≡ cond ahead (cut.vertices * w) 0 → bytes Spool ≡ 0 → RoseAll (s x) (s y) bytes
  turn_stored bytes meta primary secondary info values sums spool Meta = rw meta (rose_none (s x Meta) (s y Meta) (touches.stored Meta refl))
  turn_stored bytes meta primary secondary info values sums spool Primary = rw primary (rose_none (s x Primary) (s y Primary) (touches.stored Primary refl))
  turn_stored bytes meta primary secondary info values sums spool Secondary = rw secondary (rose_none (s x Secondary) (s y Secondary) (touches.stored Secondary refl))
  turn_stored bytes meta primary secondary info values sums spool Info = rw info (rose_none (s x Info) (s y Info) (touches.stored Info refl))
  turn_stored bytes meta primary secondary info values sums spool Values = rw (values ∙ sym loose_is) moved.values_out
  turn_stored bytes meta primary secondary info values sums spool Sums = rw (sums ∙ ap (λ (n : ℕ). cond ahead n 0) (sym (sums_add_up cut w some))) moved.sums_out
  turn_stored bytes meta primary secondary info values sums spool Spool = rw spool (rose_none (s x Spool) (s y Spool) (touches.stored Spool refl))
