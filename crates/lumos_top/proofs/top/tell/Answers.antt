use Rattle.std.proofs.Common.{◌∙◌}
use Rattle.lumos_top.proofs.Outcomes.{gets_line}
use Rattle.lumos_top.proofs.top.tell.Goals as goal

pub returns-clause-line : goal.returns-clause-line
returns-clause-line g c = gets_line _ _ _ _ c.write_all.result _ _ (c.bytes-2.ensures.text ∙ c.end_line-line.ensures) c.write_all.ensures.bytes c.write_all.ensures.cause
