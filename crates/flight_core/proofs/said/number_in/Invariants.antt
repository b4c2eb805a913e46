use Rattle.std.proofs.Common.{◌≡◌, min, take, true}
use Rattle.std.specs.List.{list_all}
use Rattle.edge_text.specs.Fields.{is_digit, value_of}
use Rattle.flight_core.proofs.said.number_in.Given as goal

abbrev pub invariant-loop-at : goal.invariant-loop-at
invariant-loop-at l = record {
  digits : list_all is_digit (take l.at l.field) ≡ true;
  value : l.value ≡ min (value_of (take l.at l.field)) 4294967296;
}
