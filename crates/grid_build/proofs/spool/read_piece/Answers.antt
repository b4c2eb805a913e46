use Rattle.std.proofs.Common.{take, [], Err, refl, ap, arith}
use Rattle.std.proofs.lemmas.List.{length-take-le}
use Rattle.grid_build.proofs.Growing.{grown_spooling, takes_none}
use Rattle.grid_build.proofs.spool.read_piece.Goals as goal

pub returns-in-Err-take_piece-clause-reads : goal.returns-in-Err-take_piece-clause-reads
returns-in-Err-take_piece-clause-reads g c = λ before seen had. record {
  piece = take c.in-Ok.size c.read.new.buf;
  takes = c.in-Ok.ensures.bytes.0;
  ends = c.in-Err-take_piece.ensures.reads before seen had;
}

pub returns-in-Err-take_piece-clause-stopped : goal.returns-in-Err-take_piece-clause-stopped
returns-in-Err-take_piece-clause-stopped g c = λ before seen had. record {
  piece = take c.in-Ok.size c.read.new.buf;
  takes = c.in-Ok.ensures.bytes.0;
  few = omega (arith, length-take-le c.in-Ok.size c.read.new.buf (omega (arith, c.in-Ok.ensures.bound, c.read.auto.buf)), c.in-Ok.ensures.bound);
  unread = λ is. absurd (c.in-Err-take_piece.ensures.not_read (ap Err is));
  grown = c.in-Err-take_piece.ensures.grown before seen had;
}

pub returns-in-Err-clause-stopped : goal.returns-in-Err-clause-stopped
returns-in-Err-clause-stopped g c = λ before seen had. record {
  piece = [];
  takes = takes_none _ _ c.in-Err.ensures.bytes;
  few = omega arith;
  unread = λ is. refl;
  grown = grown_spooling c.args.reader.now.limits before seen [] c.args.reader.now c.args.count.now _ _ refl had;
}
