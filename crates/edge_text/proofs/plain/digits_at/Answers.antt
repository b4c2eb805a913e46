use Rattle.std.proofs.Common.{◌≡◌, take, true, subst, arith}
use Rattle.std.specs.List.{list_all}
use Rattle.edge_text.specs.Fields.{is_digit}
use Rattle.edge_text.proofs.plain.digits_at.Goals as goal

pub returns-clause-digits : goal.returns-clause-digits
returns-clause-digits c =
    let e : c.loop-len.len ≡ 10 = omega arith in
    subst (λ n. list_all is_digit (take n c.args.text.now) ≡ true) e c.loop-len.invariant.digits
