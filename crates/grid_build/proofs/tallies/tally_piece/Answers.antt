use Rattle.std.proofs.Common.{◌++◌}
use Rattle.grid_build.proofs.tallies.tally_piece.Goals as goal

pub returns-clause-tallied : goal.returns-clause-tallied
returns-clause-tallied g c =
    let before = c.requires.before in
    record {
      given = before.given ++ c.read_edges.new.edges;
      passed = c.in-Ok.ensures.pass before.given before.passed;
      tallies = c.tally_edges.ensures before.given before.tallies;
    }
