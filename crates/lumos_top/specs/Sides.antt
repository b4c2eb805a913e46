-- The outside of a command, before it and after it.
use Rattle.std.specs.Prelude.{◌≡◌, ◌⊎◌, ◌≤◌, ℕ, Bool, true, false, List, [], Option, Some, None, IsSome}
use Rattle.lumos_depot.specs.Steps.{RoseBy}
use Rattle.lumos_depot.specs.Streams.{AppendsFront, after_told}
use Rattle.lumos_depot.specs.Causes.{Rose}
use Rattle.lumos_depot.specs.declared.depot.FileKind.{FileKind}
use Rattle.lumos_depot.specs.declared.depot.FileKind.TheVariants as file
use Rattle.grid_build.specs.Built.{HasFiles}
use Rattle.lumos_top.specs.Answers.{Built, Moved, RunOn, built_files}

-- What is left of the input, the files of the depot with the bytes that were taken of them and stored in them, and `out`.
pub record Sides : Type 0 where
  pub left_old : Option (List ℕ)
  pub left_new : Option (List ℕ)
  pub was : FileKind → Option (List ℕ)
  pub is : FileKind → Option (List ℕ)
  pub taken_was : FileKind → ℕ
  pub taken_is : FileKind → ℕ
  pub stored_was : FileKind → ℕ
  pub stored_is : FileKind → ℕ
  pub old_out : Option (List ℕ)
  pub new_out : Option (List ℕ)

-- those of a call, by what is told of its source, its depot and its sink
abbrev pub sides : {I D O : Type 0} → (I → Option (List ℕ)) → (D → FileKind → Option (List ℕ)) → (D → FileKind → ℕ) → (D → FileKind → ℕ) → (O → Option (List ℕ)) → I → I → D → D → O → O → Sides
sides left holds taken stored written input input_new depot depot_new out out_new = record {
  left_old = left input;
  left_new = left input_new;
  was = holds depot;
  is = holds depot_new;
  taken_was = taken depot;
  taken_is = taken depot_new;
  stored_was = stored depot;
  stored_is = stored depot_new;
  old_out = written out;
  new_out = written out_new;
}

-- What is read at entry, where it is told: the input that was left, and the files.
pub record IsEntry (input : List ℕ) (files : FileKind → List ℕ) (sides : Sides) : Type 0 where
  pub left : (all : List ℕ) → sides.left_old ≡ Some all → input ≡ all
  pub holds : (kind : FileKind) (file : List ℕ) → sides.was kind ≡ Some file → files kind ≡ file

-- the input was read to its end, where it is told, or not at all
abbrev pub InputEnds : Bool → Sides → Type 0
InputEnds true sides = (bytes : List ℕ) → sides.left_old ≡ Some bytes → sides.left_new ≡ Some []
InputEnds false sides = sides.left_new ≡ sides.left_old

-- a fact that is owed where the files are told
abbrev pub WhereTold : (FileKind → Option (List ℕ)) → Type 0 → Type 0
WhereTold files fact = IsSome (files file.Meta) → fact

-- a fact that is owed of a run only where the files are told
abbrev pub IfTold : Option RunOn → (FileKind → Option (List ℕ)) → Type 0 → Type 0
IfTold (Some run) files fact = WhereTold files fact
IfTold None files fact = fact

-- the files of a grid are as they were
pub record SameGrid (was is : FileKind → Option (List ℕ)) : Type 0 where
  pub meta_file : is file.Meta ≡ was file.Meta
  pub primary_file : is file.Primary ≡ was file.Primary
  pub secondary_file : is file.Secondary ≡ was file.Secondary
  pub info_file : is file.Info ≡ was file.Info

-- they are those of the grid that is built, where one is and where they are told; else they are as they were
abbrev pub FilesAre : Option Built → (FileKind → Option (List ℕ)) → (FileKind → Option (List ℕ)) → Type 0
FilesAre None was is = SameGrid was is
FilesAre (Some built) was is = HasFiles (built_files built) was is

-- nothing was stored in Meta, which is written behind the other files of a grid
abbrev pub NoMeta : Sides → Type 0
NoMeta sides = sides.stored_is file.Meta ≡ sides.stored_was file.Meta

-- The counters of bytes rose by exactly what is moved: that of Primary where the files are told, since a build copies what they
-- give back; the others also over files that aren't, unless it is a run.
pub record IsMoved (run : Option RunOn) (moved : Moved) (sides : Sides) : Type 0 where
  pub primary : WhereTold sides.was (RoseBy (sides.taken_was file.Primary) (sides.taken_is file.Primary) moved.primary_taken)
  pub secondary : IfTold run sides.was (RoseBy (sides.taken_was file.Secondary) (sides.taken_is file.Secondary) moved.secondary_taken)
  pub values_taken : IfTold run sides.was (RoseBy (sides.taken_was file.Values) (sides.taken_is file.Values) moved.values_taken)
  pub values_stored : IfTold run sides.was (RoseBy (sides.stored_was file.Values) (sides.stored_is file.Values) moved.values_stored)
  pub sums_taken : IfTold run sides.was (RoseBy (sides.taken_was file.Sums) (sides.taken_is file.Sums) moved.sums_taken)
  pub sums_stored : IfTold run sides.was (RoseBy (sides.stored_was file.Sums) (sides.stored_is file.Sums) moved.sums_stored)

-- What is kept for runs was left: Values and Sums, with what is counted for them.
pub record LeavesRuns {D : Type 0} (h : D → FileKind → Option (List ℕ)) (t s : D → FileKind → ℕ) (before after : D) : Type 0 where
  pub values : h after file.Values ≡ h before file.Values
  pub sums : h after file.Sums ≡ h before file.Sums
  pub values_taken : t after file.Values ≡ t before file.Values
  pub sums_taken : t after file.Sums ≡ t before file.Sums
  pub values_stored : s after file.Values ≡ s before file.Values
  pub sums_stored : s after file.Sums ≡ s before file.Sums

-- A line was put behind what was held; less of it only where the count rose.
pub record GetsLine (old new : Option (List ℕ)) (before now : ℕ) (line : List ℕ) : Type 0 where
  pub later : before ≤ now
  pub front : AppendsFront old new line
  pub whole : (Rose before now → ⊥) → new ≡ after_told old line

-- The directory that is wanted is attached, or none; and none only at want of memory or a fault of the depot.
pub record IsAttached (wanted attached : Option (List ℕ)) (memory depot : Type 0) : Type 0 where
  pub either : (attached ≡ None) ⊎ (attached ≡ wanted)
  pub sure : (memory → ⊥) → (depot → ⊥) → attached ≡ wanted
