use Rattle.std.proofs.Common.{◌≡◌, ◌≤◌, ◌+◌, ◌*◌, ℕ, [], List, length, ap, ◌∙◌, arith, false, nat_eq, replicate, inl, inr}
use Rattle.std.proofs.lemmas.List.{length-replicate}
use Rattle.std.specs.List.{starts_with}
use Rattle.std.specs.Option.{option_map}
use Rattle.std.proofs.lemmas.Result.{err_from_is_err_and, on_ok_weaker}
use Rattle.lumos_depot.specs.Files.{overwritten}
use Rattle.lumos_depot.specs.declared.depot.FileKind.TheVariants.{Meta}
use Rattle.grid_format.specs.Heads.{magic}
use Rattle.grid_format.specs.Writing.{Unmarked}
use Rattle.grid_format.proofs.WriteLemmas.{head_written, length-head, nothing_unmarked, option_map-const, sized_meta, told_as, zeros_unmarked}
use Rattle.grid_format.proofs.write.begin_meta.Goals as goal

pub returns-in_err-resize-clause-refused : goal.returns-in_err-resize-clause-refused
returns-in_err-resize-clause-refused g c =
    let p = err_from_is_err_and c.from_residual.result c.from_residual.ensures.1 in
    let P : List ℕ → Type 0 = λ meta. starts_with nat_eq meta magic ≡ false in
    let old = g.D.Depot.holds c.args.depot.now Meta in
    let new = g.D.Depot.holds c.resize.new.self Meta in
    let size = 32 + 8 * (c.args.info.parts * c.args.info.parts) in
    rw p.1 (elim c.in_err-resize.ensures.refused as (λ _. Unmarked new) [
      | inl same ↦ told_as new old [] P (same ∙ c.requires.empty) nothing_unmarked
      | inr done ↦ told_as new old (replicate size 0) P (sized_meta size old new c.requires.empty done) (zeros_unmarked size (omega arith))
    ])

pub write_behind-requires-clause-inside : goal.write_behind-requires-clause-inside
write_behind-requires-clause-inside g c =
    let old = g.D.Depot.holds c.args.depot.now Meta in
    let new = g.D.Depot.holds c.resize.new.self Meta in
    let size = 32 + 8 * (c.args.info.parts * c.args.info.parts) in
    let P : List ℕ → Type 0 = λ meta. 8 + length c.head_bytes.result ≤ length meta in
    let head : length c.head_bytes.result ≡ 24 = ap length c.head_bytes.ensures ∙ length-head c.args.info in
    told_as new old (replicate size 0) P (sized_meta size old new c.requires.empty c.in_ok-resize.ensures.value) (omega (arith, head, length-replicate {A = ℕ}))

pub write_behind-requires-clause-unmarked : goal.write_behind-requires-clause-unmarked
write_behind-requires-clause-unmarked g c =
    let old = g.D.Depot.holds c.args.depot.now Meta in
    let new = g.D.Depot.holds c.resize.new.self Meta in
    let size = 32 + 8 * (c.args.info.parts * c.args.info.parts) in
    let P : List ℕ → Type 0 = λ meta. starts_with nat_eq meta magic ≡ false in
    told_as new old (replicate size 0) P (sized_meta size old new c.requires.empty c.in_ok-resize.ensures.value) (zeros_unmarked size (omega arith))

pub returns-clause-value : goal.returns-clause-value
returns-clause-value g c =
    let old = g.D.Depot.holds c.args.depot.now Meta in
    let new = g.D.Depot.holds c.resize.new.self Meta in
    let left = 8 * (c.args.info.parts * c.args.info.parts) in
    on_ok_weaker c.write_behind.result (λ wrote.
    wrote ∙ ap (option_map (overwritten 8 c.head_bytes.result)) (sized_meta (32 + left) old new c.requires.empty c.in_ok-resize.ensures.value)
    ∙ option_map-const (overwritten 8 c.head_bytes.result) (replicate (32 + left) 0) old
    ∙ ap (λ x. option_map (λ _. x) old) (ap (λ h. overwritten 8 h (replicate (32 + left) 0)) c.head_bytes.ensures ∙ head_written c.args.info left))
    c.write_behind.ensures.value
