use Rattle.std.proofs.Common.{◌≡◌, ◌≤◌, ◌<◌, ◌^◌, length, take, true}
use Rattle.std.specs.List.{list_all}
use Rattle.edge_text.specs.Fields.{is_digit, value_of}
use Rattle.edge_text.proofs.plain.digits_at.Given as goal

abbrev pub invariant-loop-len : goal.invariant-loop-len
invariant-loop-len l = record {
  within : l.len ≤ length l.text;
  digits : list_all is_digit (take l.len l.text) ≡ true;
  value : value_of (take l.len l.text) ≡ l.value;
  small : l.value < 10 ^ l.len;
}
