-- What is written of the final chunks.
use Rattle.std.proofs.Common.{◌≡◌, ◌≤◌, ℕ, ◌+◌, true, List, ◌++◌, Option, Result, Err, IsOk, flat_map, length, sym, ap, subst, ◌∙◌, arith}
use Rattle.std.specs.List.{range_with_len}
use Rattle.std.proofs.lemmas.Bool.{cond-true}
use Rattle.flight_core.specs.Events.{State, is_final}
use Rattle.flight_core.specs.Replayed.{Replayed}
use Rattle.flight_core.specs.Sound.{IsOfChunk}
use Rattle.lumos_base.specs.declared.records.Edge.{Edge}
use Rattle.lumos_depot.specs.Streams.{Writes}
use Rattle.lumos_depot.specs.declared.stream.Failed.{Failed}
use Rattle.lumos_depot.proofs.Written.{writes_cut, writes_then}
use Rattle.lumos_law.specs.Program.{Program}
use Rattle.lumos_law.specs.Sync.{IsChunk, values}
use Rattle.partition.specs.Parts.{Cut, chunk_of, first_vertex, part_length}
use Rattle.lumos_report.specs.Report.{value_line}
use Rattle.lumos_top.specs.Replays.{chunk_lines, chunk_values, final_line}

-- no part has more vertices than all of them
pub part_few : (n c j : ℕ) → part_length n c j ≤ n
part_few n c j = omega arith

-- the lines of a final chunk
lines_are : {V S : Type 0} (p : Program V S) (edges : List Edge) (n c : ℕ) (s : State V S) (t j : ℕ) → true ≡ is_final s t j → final_line t j ++ chunk_values p edges n c t j ≡ chunk_lines p edges n c s t j
lines_are p edges n c s t j is = sym (cond-true (is_final s t j) _ _ (sym is))

-- the values that are held are those of synchronous execution, of which a line each is written
pub chunk_written : {G V S : Type 0} (model : G → Program V S) (r : Replayed G V S) (program : G) (cut : Cut) (t j first : ℕ) (xs : List V) (mid new : Option (List ℕ)) (result : Result (Unit {0}) Failed) →
    model r.program ≡ model program → r.cut ≡ cut → first ≡ first_vertex cut.vertices (chunk_of cut) j → IsOfChunk r.cut.vertices (chunk_of r.cut) j (values (model r.program) r.edges t) xs →
    ((state : ℕ → V) → IsChunk state first xs → Writes mid new result (flat_map (λ k. value_line (first + k) ((model program).show (state (first + k)))) (range_with_len 0 (length xs)))) →
    Writes mid new result (chunk_values (model program) r.edges cut.vertices (chunk_of cut) t j)
chunk_written model r program cut t j first xs mid new result same cut_is first_is held writes =
    let there = subst (λ (k : Cut). IsOfChunk k.vertices (chunk_of k) j (values (model r.program) r.edges t) xs) cut_is held in
    let here = subst (λ q. IsOfChunk cut.vertices (chunk_of cut) j (values q r.edges t) xs) same there in
    let state = values (model program) r.edges t in
    let wrote = writes state (subst (λ (f : ℕ). IsChunk state f xs) (sym first_is) here.chunk) in
    let lines = ap (λ (f : ℕ). flat_map (λ (k : ℕ). value_line (f + k) ((model program).show (state (f + k)))) (range_with_len 0 (length xs))) first_is
    ∙ ap (λ (n : ℕ). flat_map (λ (k : ℕ). value_line (first_vertex cut.vertices (chunk_of cut) j + k) ((model program).show (state (first_vertex cut.vertices (chunk_of cut) j + k)))) (range_with_len 0 n)) here.long in
    subst (Writes mid new result) lines wrote

pub final_written : {V S : Type 0} (p : Program V S) (edges : List Edge) (n c : ℕ) (s : State V S) (t j : ℕ) (old mid new : Option (List ℕ)) (first result : Result (Unit {0}) Failed) →
    true ≡ is_final s t j → IsOk first → Writes old mid first (final_line t j) → Writes mid new result (chunk_values p edges n c t j) → Writes old new result (chunk_lines p edges n c s t j)
final_written p edges n c s t j old mid new first result is ok line values = subst (Writes old new result) (lines_are p edges n c s t j is) (writes_then old mid new first result _ _ ok line values)

pub final_cut : {V S : Type 0} (p : Program V S) (edges : List Edge) (n c : ℕ) (s : State V S) (t j : ℕ) (old new : Option (List ℕ)) (first : Result (Unit {0}) Failed) (failed : Failed) →
    true ≡ is_final s t j → Writes old new first (final_line t j) → Writes old new (Err failed) (chunk_lines p edges n c s t j)
final_cut p edges n c s t j old new first failed is line = subst (Writes old new (Err failed)) (lines_are p edges n c s t j is) (writes_cut old new first failed _ (chunk_values p edges n c t j) line)
