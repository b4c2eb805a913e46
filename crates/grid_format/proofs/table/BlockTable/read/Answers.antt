use Rattle.std.proofs.Common.{◌≡◌, ap, sym, ◌∙◌, Err, Some, None, List, ℕ, length}
use Rattle.std.proofs.lemmas.Result.{err_from_is_err_and}
use Rattle.lumos_depot.specs.declared.depot.FileKind.TheVariants.{Meta}
use Rattle.grid_format.specs.Checks.{counted}
use Rattle.grid_format.specs.Heads.{counts_of}
use Rattle.grid_format.specs.Tables.{IsWrongCount}
use Rattle.grid_format.proofs.Accepted.{accepts, none_from, told_files}
use Rattle.grid_format.proofs.Answering.{damaged_then}
use Rattle.grid_format.proofs.table.BlockTable.read.Goals as goal

pub load_columns-requires-clause-inside : goal.load_columns-requires-clause-inside
load_columns-requires-clause-inside g c = λ meta is.
    let f = told_files (g.D.Depot.holds c.args.depot.now) (g.D.Depot.tells_all c.args.depot.now) meta is in
    ap length (sym f.2) ∙ (accepts f.0 c.args.info (c.requires.accepted f.0 f.1)).long

pub returns-in_err-load_columns-clause-damaged : goal.returns-in_err-load_columns-clause-damaged
returns-in_err-load_columns-clause-damaged g c =
    let p = err_from_is_err_and c.from_residual.result c.from_residual.ensures.1 in
    let edges = c.args.info.edges in
    let parts = c.args.info.parts in
    let P : ℕ → ℕ → Type 0 = λ place n. IsWrongCount c.args.info place n × ((meta : List ℕ) → g.D.Depot.holds c.args.depot.now Meta ≡ Some meta → counted edges (counts_of parts meta) ≡ Err (record { place = place; found = n })) in
    let Q : ℕ → ℕ → Type 0 = λ place n. IsWrongCount c.args.info place n × (g.D.Depot.holds c.args.depot.now Meta ≡ None) in
    rw (p.1, p.2) (damaged_then c.in_err-load_columns.field-0.0 P Q c.in_err-load_columns.ensures.damaged (λ place n q. (
      q.0,
      none_from (g.D.Depot.holds c.args.depot.now Meta) (λ meta is.
          let f = told_files (g.D.Depot.holds c.args.depot.now) (g.D.Depot.tells_all c.args.depot.now) meta is in
          let sums = (accepts f.0 c.args.info (c.requires.accepted f.0 f.1)).sums in
          let other : counted edges (counts_of parts f.0.meta) ≡ Err (record { place = place; found = n }) = ap (λ m. counted edges (counts_of parts m)) f.2 ∙ q.1 meta is in
          absurd (cc (sums, other))),
    )))
