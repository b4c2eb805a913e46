use Rattle.std.proofs.Common.{◌≡◌, None, take}
use Rattle.column_stream.specs.Records.{edges_at, first_fault}
use Rattle.column_stream.proofs.records.get_records.Given as goal

-- the records so far are read, and no word of theirs lies outside its range
abbrev pub invariant-loop-i : goal.invariant-loop-i
invariant-loop-i l = record {
  read : take l.i l.out ≡ edges_at 0 l.i l.bytes;
  sound : first_fault l.file l.ends l.place (edges_at 0 l.i l.bytes) ≡ None;
}
