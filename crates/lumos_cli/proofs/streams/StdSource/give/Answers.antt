use Rattle.std.proofs.Common.{rules, refl}
use Rattle.lumos_cli.proofs.Passing.{range_drop}
use Rattle.lumos_cli.proofs.streams.StdSource.give.Goals as goal

pub returns-clause-after : goal.returns-clause-after
returns-clause-after g c = rw (← c.self.view_is, range_drop c.self.inside.buffer.items c.self.inside.start c.self.inside.end c.min-count.result (search rules)) refl
