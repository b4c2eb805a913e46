use Rattle.std.proofs.Common.{◌≡◌, ℕ, ◌+◌, ◌-◌, ◌≤◌, List, [], ◌∷◌, ◌++◌, length, take, drop, map, cond, sym, ap, ap₂, ◌∙◌, arith, add-one}
use Rattle.std.proofs.lemmas.List.{length-take, length-drop, map-append}
use Rattle.std.specs.List.{range_with_len}
use Rattle.lumos_base.specs.Leaving.{out_info}
use Rattle.flight_core.specs.Events.{Kept, keep, first_kept}
use Rattle.lumos_law.specs.Sync.{chunk, values}
use Rattle.lumos_law.proofs.ChunkLemmas.{chunk_part}
use Rattle.partition.specs.Parts.{chunk_of, first_vertex}
use Rattle.partition.proofs.BucketLemmas.{range_more}
use Rattle.flight_core.proofs.start.chunk_finals.Goals as goal

-- a range within a list is as long as it says
slice_long : {X : Type 0} (xs : List X) (first past : ℕ) → past ≤ length xs → length (take (past - first) (drop first xs)) ≡ past - first
slice_long xs first past inside = omega (arith, length-take (past - first) (drop first xs), length-drop first xs)

-- one chunk more
more_kept : {X : Type 0} (kept : ℕ → Kept X) (n : ℕ) → map kept (range_with_len 0 (n + 1)) ≡ map kept (range_with_len 0 n) ++ kept n ∷ []
more_kept kept n =
    let last : 0 + n ≡ n = omega arith in
    ap (λ l. map kept (range_with_len 0 l)) (add-one n) ∙ ap (map kept) (range_more 0 n) ∙ map-append kept (range_with_len 0 n) ((0 + n) ∷ [])
    ∙ ap (λ (k : ℕ). map kept (range_with_len 0 n) ++ kept k ∷ []) last

pub first_values-requires : goal.first_values-requires
first_values-requires g c =
    let range = c.range_of-range.result in
    let long = slice_long c.args.infos.now range.first range.past (omega (arith, c.range_of-range.ensures.inside, c.requires.len)) in
    omega (arith, long, c.range_of-range.ensures.inside, c.range_of-range.ensures.ordered, c.requires.len, c.requires.few)

pub loop-column-preserved : goal.loop-column-preserved
loop-column-preserved g c edges held =
    let p = g.G.VertexProgram.model c.args.program.now in
    let n = c.args.parts.now.vertices in
    let size = chunk_of c.args.parts.now in
    let j = c.loop-column.column in
    let range = c.range_of-range.result in
    let first : range.first ≡ first_vertex n size j = ap (λ r. r.first) c.range_of-range.ensures.value in
    let past : range.past ≡ first_vertex n size (j + 1) = ap (λ r. r.past) c.range_of-range.ensures.value in
    let long = slice_long c.args.infos.now range.first range.past (omega (arith, c.range_of-range.ensures.inside, c.requires.len)) in
    let place : range.first ≡ 0 + range.first = omega arith in
    let made = c.in-Ok-first_values.ensures edges (chunk_part (out_info edges) 0 c.args.infos.now range.first (range.past - range.first) range.first place held) in
    let whole = made ∙ ap₂ (chunk (values p edges 0)) first (long ∙ ap₂ ◌-◌ past first) in
    let before = c.loop-column.finals.items in
    c.push_back.ensures.items ∙ ap (λ b. cond b (before ++ keep 0 j c.in-Ok-first_values.items.items ∷ []) before) c.if-is_err.ensures.negation
    ∙ ap₂ (λ l xs. l ++ keep 0 j xs ∷ []) (c.loop-column.invariant edges held) whole
    ∙ sym (more_kept (first_kept p edges n size) j)
