-- The numbers of the kinds of faulty lines.
use Rattle.std.specs.Prelude.{ℕ}
use Rattle.edge_text.specs.declared.fault.InputWhat.{InputWhat}
use Rattle.edge_text.specs.declared.fault.InputWhat.TheVariants.{NotANumber, MissingTarget, TooManyFields, NumberTooLarge, VertexTooLarge, WeightTooLarge, VertexBeyond}

abbrev pub kind_number : InputWhat → ℕ
kind_number NotANumber = 1
kind_number MissingTarget = 2
kind_number TooManyFields = 3
kind_number NumberTooLarge = 4
kind_number VertexTooLarge = 5
kind_number WeightTooLarge = 6
kind_number VertexBeyond = 7
