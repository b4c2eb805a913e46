-- What a reader stands for.
use Rattle.std.specs.Prelude.{ℕ, ◌≡◌, ◌≤◌, ◌+◌, Bool, false, List, length, Option, None, Result, Ok, Err}
use Rattle.lumos_base.specs.declared.records.Edge.{Edge}
use Rattle.edge_text.specs.Lines.{lines_of, rest_of}
use Rattle.edge_text.specs.Parts.{IsOpen}
use Rattle.edge_text.specs.Reading.{edges_of, greatest_end, read_lines}
use Rattle.edge_text.specs.declared.fault.TextLimits.{TextLimits}
use Rattle.edge_text.specs.declared.fault.TextFault.{TextFault}
use Rattle.edge_text.specs.declared.part.Fields.TheVariants.{Good}
use Rattle.edge_text.specs.declared.part.GoodFields.TheVariants.{Nothing}
use Rattle.edge_text.specs.declared.part.LinePart.TheVariants.{Between}
use Rattle.edge_text.specs.declared.part.OpenLine.{OpenLine}
use Rattle.edge_text.specs.declared.plain.PlainRun.{PlainRun}

-- a reader, as contracts see it
pub record ReaderState : Type 0 where
  pub limits : TextLimits
  pub bytes : ℕ
  pub lines : ℕ
  pub edges : ℕ
  pub greatest : Option ℕ
  pub line : OpenLine
  pub fault : Option TextFault

-- The reader has taken these bytes and made these edges, and found no fault in them.
pub record HasRead (seen : List ℕ) (edges : List Edge) (reader : ReaderState) : Type 0 where
  pub short : length seen ≤ reader.limits.max_bytes
  pub bytes : reader.bytes ≡ length seen
  pub lines : reader.lines ≡ length (lines_of seen)
  pub made : read_lines reader.limits 0 0 (lines_of seen) ≡ Ok edges
  pub count : reader.edges ≡ length edges
  pub greatest : reader.greatest ≡ greatest_end edges
  pub line : IsOpen reader.limits reader.line (rest_of seen)
  pub fault : reader.fault ≡ None

-- the edges that are made of a line's edge, if it has no fault
abbrev pub edges_or_fault : Bool → Result (Option Edge) TextFault → Result (List Edge) TextFault
edges_or_fault both (Err fault) = Err fault
edges_or_fault both (Ok edge) = Ok (edges_of both edge)

-- a reader at a line's start, behind a run of plain lines that began after so many bytes
abbrev pub run_state : TextLimits → ℕ → PlainRun → ReaderState
run_state limits bytes run = record { limits = limits; bytes = bytes + run.used; lines = run.lines; edges = run.edges; greatest = run.greatest; line = record { part = Between (Good Nothing); returned = false }; fault = None }
