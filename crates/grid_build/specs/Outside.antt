-- What a step of the builder does to files and counts.
use Rattle.std.specs.Prelude.{◌≡◌, ◌≢◌, ◌≤◌, ℕ, List, Option}
use Rattle.lumos_depot.specs.declared.depot.FileKind.{FileKind}
use Rattle.lumos_depot.specs.declared.depot.FileKind.TheVariants.{Primary, Values, Sums, Spool}

-- What every step leaves: what is kept for runs, Values and Sums with what is counted for them, stays; nothing was read
-- but from Spool and Primary; the count of faults didn't fall.
pub record LeavesRuns {D : Type 0} (h : D → FileKind → Option (List ℕ)) (t s : D → FileKind → ℕ) (f : D → ℕ) (a : D → Option (List ℕ)) (before after : D) : Type 0 where
  pub attached : a after ≡ a before
  pub values : h after Values ≡ h before Values
  pub sums : h after Sums ≡ h before Sums
  pub taken : (kind : FileKind) → kind ≢ Spool → kind ≢ Primary → t after kind ≡ t before kind
  pub values_stored : s after Values ≡ s before Values
  pub sums_stored : s after Sums ≡ s before Sums
  pub later : f before ≤ f after
