-- What a step over a depot, of one call or many, does to the files and to what is counted for them.
use Rattle.std.specs.Prelude.{◌≡◌, ◌≤◌, ◌<◌, ◌+◌, ◌-◌, ◌^◌, ℕ, Bool, false, List, Option}
use Rattle.lumos_depot.specs.Files.{Same, SameBut}
use Rattle.lumos_depot.specs.declared.depot.FileKind.{FileKind}

-- A counter of bytes rose by exactly n, where it stands below the end of its type.
abbrev pub RoseBy : ℕ → ℕ → ℕ → Type 0
RoseBy before after n = after < 2 ^ 64 - 1 → after ≡ before + n

-- The step read one file: no file and no other count changed, and the count of faults didn't fall.
pub record Reads {D : Type 0} (h : D → FileKind → Option (List ℕ)) (t s : D → FileKind → ℕ) (f : D → ℕ) (a : D → Option (List ℕ)) (from : FileKind) (before after : D) : Type 0 where
  pub attached : a after ≡ a before
  pub contents : Same (h before) (h after)
  pub taken : SameBut from (t before) (t after)
  pub stored : Same (s before) (s after)
  pub later : f before ≤ f after

-- The step changed one file: no other file and no other count changed, and the count of faults didn't fall.
pub record Stores {D : Type 0} (h : D → FileKind → Option (List ℕ)) (t s : D → FileKind → ℕ) (f : D → ℕ) (a : D → Option (List ℕ)) (into : FileKind) (before after : D) : Type 0 where
  pub attached : a after ≡ a before
  pub contents : SameBut into (h before) (h after)
  pub taken : Same (t before) (t after)
  pub stored : SameBut into (s before) (s after)
  pub later : f before ≤ f after

-- The step read one file and changed one: no other file, nor what is counted for it, changed, and the count of faults
-- didn't fall.
pub record Moves {D : Type 0} (h : D → FileKind → Option (List ℕ)) (t s : D → FileKind → ℕ) (f : D → ℕ) (a : D → Option (List ℕ)) (from into : FileKind) (before after : D) : Type 0 where
  pub attached : a after ≡ a before
  pub contents : SameBut into (h before) (h after)
  pub taken : SameBut from (t before) (t after)
  pub stored : SameBut into (s before) (s after)
  pub later : f before ≤ f after

-- what is told of the files that aren't among the named ones, or counted for them, is as it was
abbrev pub SameOff : {A : Type 0} → (FileKind → Bool) → (FileKind → A) → (FileKind → A) → Type 0
SameOff named old new = (kind : FileKind) → named kind ≡ false → new kind ≡ old kind

-- The step took bytes of some files and stored bytes in some: no other file changed, nor what is counted for it, and the
-- count of faults didn't fall.
pub record Touches {D : Type 0} (h : D → FileKind → Option (List ℕ)) (t s : D → FileKind → ℕ) (f : D → ℕ) (a : D → Option (List ℕ)) (takes stores : FileKind → Bool) (before after : D) : Type 0 where
  pub attached : a after ≡ a before
  pub contents : SameOff stores (h before) (h after)
  pub taken : SameOff takes (t before) (t after)
  pub stored : SameOff stores (s before) (s after)
  pub later : f before ≤ f after
