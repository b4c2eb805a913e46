-- What an engine keeps over steps that leave it.
use Rattle.std.proofs.Common.{◌≡◌, ◌⊎◌, inl, inr, ℕ, suc, ◌-◌, ◌<◌, ◌≤◌, Bool, false, List, Option, refl, sym, ap, ◌∙◌, subst, arith}
use Rattle.lumos_base.specs.declared.records.Edge.{Edge}
use Rattle.lumos_depot.specs.Files.{Same}
use Rattle.lumos_depot.specs.declared.depot.FileKind.{FileKind}
use Rattle.lumos_depot.specs.declared.depot.FileKind.TheVariants.{Meta, Primary, Secondary, Info, Values, Sums}
use Rattle.lumos_law.specs.Program.{Program}
use Rattle.lumos_law.specs.Sync.{values}
use Rattle.partition.specs.Parts.{Cut, chunk_of, first_vertex, part_length}
use Rattle.grid_format.specs.Tables.{BlockCounts}
use Rattle.lumos_report.specs.declared.records.Kind.{Kind}
use Rattle.lumos_report.specs.declared.records.Kind.TheVariants.{Full, Fed}
use Rattle.value_files.specs.Kept.{sum_place, value_place}
use Rattle.value_files.specs.Records.{ShowsBroken}
use Rattle.value_files.specs.declared.fault.FileFault.{FileFault}
use Rattle.windows.specs.Kept.{Stays, load_bytes, load_of}
use Rattle.windows.specs.Windows.{Coding, IsSameRoom, IsSized, Told, WindowState}
use Rattle.windows.proofs.FrameLemmas.{sized_same, stays_early, stays_keeps}
use Rattle.early_engine.specs.Early.{IsKept}
use Rattle.early_engine.specs.declared.options.Mode.{Mode}
use Rattle.early_engine.specs.Grids.{FitsFiles, HasBlocks, IsOfBlock, IsOfIteration, IsOfPass, IsOfSums, IsOfValues, IsOnGrid}
use Rattle.early_engine.specs.Passes.{first_row, places}
use Rattle.early_engine.specs.Steps.{AreEarly, GoesThrough, IsReady}
use Rattle.lumos_depot.specs.Steps.{SameOff}
use Rattle.lumos_depot.proofs.StepLemmas.{told_same}
use Rattle.early_engine.proofs.PassLemmas.{rows_from}

-- a row from the first one on is gone through
pub goes : (kind : Kind) (i j : ℕ) → first_row kind j ≤ i → GoesThrough kind i j
goes Full i j low = tt
goes Fed i j low = low

pub first_full : (kind : Kind) (j : ℕ) → kind ≡ Full → first_row kind j ≡ 0
first_full kind j is = ap (λ (k : Kind). first_row k j) is

pub first_low : (kind : Kind) (j : ℕ) → first_row kind j ≤ j
first_low Full j = omega arith
first_low Fed j = omega arith

-- the blocks of a column, from its first row on
pub places_are : (kind : Kind) (p j : ℕ) → places kind p j ≡ rows_from (first_row kind j) (p - first_row kind j) j
places_are Full p j = ap (λ (n : ℕ). rows_from 0 n j) (let all : p ≡ p - 0 = omega arith in all)
places_are Fed p j = refl

-- the grid is told as before where its files are
pub grid_off : (named : FileKind → Bool) (edges : List Edge) (cut : Cut) (table : BlockCounts) (old new : FileKind → Option (List ℕ)) → named Meta ≡ false → named Primary ≡ false → named Secondary ≡ false → named Info ≡ false
    → SameOff named old new → IsOnGrid edges cut table old → IsOnGrid edges cut table new
grid_off named edges cut table old new meta primary secondary info same grid = record {
  numbers = grid.numbers;
  limits = grid.limits;
  files = record {
    meta_file = same Meta meta ∙ grid.files.meta_file;
    primary_file = same Primary primary ∙ grid.files.primary_file;
    secondary_file = same Secondary secondary ∙ grid.files.secondary_file;
    info_file = same Info info ∙ grid.files.info_file;
  };
  counts = grid.counts;
}

-- and so are the blocks
pub blocks_on : (table : BlockCounts) (old new : FileKind → Option (List ℕ)) → new Primary ≡ old Primary → new Secondary ≡ old Secondary → HasBlocks table old → HasBlocks table new
blocks_on table old new primary secondary has Full = told_same (old Primary) (new Primary) _ primary (has Full)
blocks_on table old new primary secondary has Fed = told_same (old Secondary) (new Secondary) _ secondary (has Fed)

module _ {V S : Type 0} (coding : Coding V S) where
  -- a chunk's values take as many bytes
  pub load_same : (old new : WindowState V S) (j : ℕ) → IsSameRoom old new → load_bytes coding new j ≡ load_bytes coding old j
  load_same old new j room = λ i. load_of (room.cut i) coding.value_width (room.pinned i) j

  -- all fits where the files of the grid stay, and Values and Sums have their sizes
  pub fits_sized : (cut : Cut) (table : BlockCounts) (old new : WindowState V S) (before after : Told) → IsSameRoom old new → after Primary ≡ before Primary → after Secondary ≡ before Secondary → IsSized coding new after
      → FitsFiles coding cut table old before → FitsFiles coding cut table new after
  fits_sized cut table old new before after room primary secondary sized fits = record {
    cut_is = room.cut ∙ fits.cut_is;
    laid = fits.laid;
    blocks = blocks_on table before after primary secondary fits.blocks;
    sized = sized;
  }

  -- and where all files stay
  pub fits_same : (cut : Cut) (table : BlockCounts) (old new : WindowState V S) (before after : Told) → IsSameRoom old new → Same before after → FitsFiles coding cut table old before → FitsFiles coding cut table new after
  fits_same cut table old new before after room same fits =
      fits_sized cut table old new before after room (same Primary) (same Secondary) (sized_same coding old new before after room (same Values) (same Sums) fits.sized) fits

  -- a fault of values or sums of the same windows
  pub values_fault : (old new : WindowState V S) (fault : FileFault) → IsSameRoom old new → IsOfValues coding new fault → IsOfValues coding old fault
  values_fault old new fault room of = record {
    iteration = of.iteration;
    chunk = of.chunk;
    chunk_in = let parts = ap (λ (c : Cut). c.parts) room.cut in omega (arith, of.chunk_in, parts);
    shown = subst (λ (c : Cut). ShowsBroken coding.value_of coding.value_width Values (value_place coding.value_width c.vertices of.iteration (first_vertex c.vertices (chunk_of c) of.chunk)) (part_length c.vertices (chunk_of c) of.chunk) fault) room.cut of.shown;
  }

  pub sums_fault : (kind : Kind) (old new : WindowState V S) (fault : FileFault) → IsSameRoom old new → IsOfSums coding new kind fault → IsOfSums coding old kind fault
  sums_fault kind old new fault room of = record {
    fed = of.fed;
    chunk = of.chunk;
    chunk_in = let parts = ap (λ (c : Cut). c.parts) room.cut in omega (arith, of.chunk_in, parts);
    shown = subst (λ (c : Cut). ShowsBroken coding.sum_of coding.sum_width Sums (sum_place coding.sum_width (first_vertex c.vertices (chunk_of c) of.chunk)) (part_length c.vertices (chunk_of c) of.chunk) fault) room.cut of.shown;
  }

  -- a fault of a block that is gone through, or of values, is one of the iteration
  pub row_fault : (kind : Kind) (cut : Cut) (table : BlockCounts) (begun old : WindowState V S) (i j : ℕ) (fault : FileFault) → IsSameRoom begun old → begun.cut ≡ cut → i < cut.parts → j < cut.parts → GoesThrough kind i j
      → IsOfBlock kind cut table i j fault ⊎ IsOfValues coding old fault → IsOfIteration coding begun kind table fault
  row_fault kind cut table begun old i j fault room same row column low (inl block) =
      inl (subst (λ (c : Cut). IsOfPass kind c table fault) (sym same) (record { row = i; column = j; row_in = row; column_in = column; through = low; shown = block }))
  row_fault kind cut table begun old i j fault room same row column low (inr of) = inr (inl (values_fault begun old fault room of))

  module _ (p : Program V S) (edges : List Edge) (cut : Cut) (old new : WindowState V S) (before after : Told) (stays : Stays coding old before new after) where
    -- what is known in an iteration
    pub ready_stays : (made : ℕ → Bool) (t : ℕ) (were are : List Bool) → IsReady coding p edges cut made t old before were are → IsReady coding p edges cut made t new after were are
    ready_stays made t were are ready = record {
      holds = λ i low. stays_keeps coding old new before after t i (values p edges t) stays (ready.holds i low);
      made = λ i low is. stays_keeps coding old new before after (suc t) i (values p edges (suc t)) stays (ready.made i low is);
      were_hot = ready.were_hot;
      are_hot = ready.are_hot;
    }

    pub early_stays : (kind : Kind) (ahead : Bool) (j t : ℕ) → AreEarly coding p edges cut kind ahead j t old before → AreEarly coding p edges cut kind ahead j t new after
    early_stays kind ahead j t early = record {
      given = λ fed i from low. stays_early coding p old new before after i _ _ stays (early.given fed i from low);
      left = λ on i low. stays_early coding p old new before after i _ _ stays (early.left on i low);
    }

    -- what is kept between two iterations
    pub kept_stays : (mode : Mode) (limit t : ℕ) (flags : List Bool) → IsKept coding p edges cut mode limit t old before flags → IsKept coding p edges cut mode limit t new after flags
    kept_stays mode limit t flags kept = record {
      holds = λ j low. stays_keeps coding old new before after t j (values p edges t) stays (kept.holds j low);
      ahead = λ on j low. stays_early coding p old new before after j _ _ stays (kept.ahead on j low);
      active = kept.active;
    }
