use Rattle.std.proofs.Common.{◌≡◌, ◌≤◌, ◌*◌, ◌+◌, ◌∙◌, ℕ, length, subst, arith}
use Rattle.std.specs.Prelude.{IfSome}
use Rattle.lumos_depot.specs.Files.{range_at}
use Rattle.lumos_depot.specs.declared.depot.FileKind.{FileKind}
use Rattle.lumos_depot.proofs.StepLemmas.{told_more}
use Rattle.grid_build.proofs.ReadLemmas.{pass_more}
use Rattle.grid_build.proofs.reads.read_edges.Goals as goal

pub read_at-requires-clause-inside : goal.read_at-requires-clause-inside
read_at-requires-clause-inside g c =
    let first = c.args.first in
    let edges = c.args.edges.now in
    let bytes = c.args.bytes.now in
    told_more (g.D.Depot.holds c.args.depot.now FileKind.Spool) (λ file. 12 * (first + length edges) ≤ length file) (λ file. 12 * first + length bytes ≤ length file)
    (λ file inside. omega (arith, c.requires.room)) c.requires.inside

pub returns-clause-pass : goal.returns-clause-pass
returns-clause-pass g c = λ given pass.
    let spool = g.D.Depot.holds c.args.depot.now FileKind.Spool in
    let first = c.args.first in
    let range = subst (λ (n : ℕ). IfSome spool (λ file. c.read_at.new.buf ≡ range_at (12 * first) n file)) c.requires.room c.in-Ok.ensures.value in
    pass_more c.args.vertices spool first (length c.args.edges.now) given c.get_edges.new.edges c.cap_ends.new.edges c.read_at.new.buf pass
    (c.cap_ends.auto.edges ∙ c.get_edges.auto.edges) range c.get_edges.ensures.value c.requires.some c.cap_ends.ensures

pub returns-clause-capped : goal.returns-clause-capped
returns-clause-capped g c = (c.get_edges.new.edges, c.get_edges.ensures.bytes, c.cap_ends.ensures)
