-- Which bytes steps move, and behind which blocks.
use Rattle.std.proofs.Common.{◌≡◌, ◌≢◌, ℕ, ◌+◌, Bool, List, Option, refl, sym, ap, ◌∙◌, subst, arith}
use Rattle.io_account.specs.declared.Counts.{Counts}
use Rattle.lumos_depot.specs.Steps.{Moves, Reads, RoseBy, Stores}
use Rattle.lumos_depot.specs.declared.depot.FileKind.{FileKind}
use Rattle.lumos_depot.specs.declared.depot.FileKind.TheVariants.{Values, Sums}
use Rattle.lumos_depot.proofs.StepLemmas.{rose_whole}
use Rattle.lumos_report.specs.declared.records.Kind.{Kind}
use Rattle.lumos_report.specs.declared.records.Kind.TheVariants.{Full, Fed}
use Rattle.early_engine.specs.Gone.{Beside, HasGone, HasMoved, and_loads, loads_of, none_beside}
use Rattle.early_engine.specs.Passes.{Place, bytes_of, file_of, tally_of}

-- what two steps move
abbrev pub both : Beside → Beside → Beside
both x y = record {
  values_in = x.values_in + y.values_in;
  values_out = x.values_out + y.values_out;
  sums_in = x.sums_in + y.sums_in;
  sums_out = x.sums_out + y.sums_out;
}

-- a step that takes so many bytes of Values
abbrev pub of_values : ℕ → Beside
of_values n = record { values_in = n; values_out = 0; sums_in = 0; sums_out = 0 }

-- that takes some of Values, and stores some
abbrev pub of_close : ℕ → ℕ → Beside
of_close n m = record { values_in = n; values_out = m; sums_in = 0; sums_out = 0 }

-- that takes some of Sums
abbrev pub of_early : ℕ → Beside
of_early n = record { values_in = 0; values_out = 0; sums_in = n; sums_out = 0 }

-- that stores some in Sums
abbrev pub of_stored : ℕ → Beside
of_stored n = record { values_in = 0; values_out = 0; sums_in = 0; sums_out = n }

pub beside_same : (x y : Beside) → x.values_in ≡ y.values_in → x.values_out ≡ y.values_out → x.sums_in ≡ y.sums_in → x.sums_out ≡ y.sums_out → x ≡ y
beside_same x y vi vo si so = λ i. record { values_in = vi i; values_out = vo i; sums_in = si i; sums_out = so i }

-- a counter that didn't change rose by nothing
pub rose_none : (x y : ℕ) → y ≡ x → RoseBy x y 0
rose_none x y same low = omega (arith, same)

-- nothing was moved yet
pub moved_none : (kind : Kind) (t s : FileKind → ℕ) → HasMoved kind 0 none_beside t s t s
moved_none kind t s = record {
  blocks = rose_none _ _ refl;
  values_in = rose_none _ _ refl;
  values_out = rose_none _ _ refl;
  sums_in = rose_none _ _ refl;
  sums_out = rose_none _ _ refl;
}

-- one step after another
pub moved_then : (kind : Kind) (a b c : ℕ) (x y z : Beside) (t s t1 s1 t2 s2 : FileKind → ℕ) → c ≡ a + b → z ≡ both x y → HasMoved kind a x t s t1 s1 → HasMoved kind b y t1 s1 t2 s2 → HasMoved kind c z t s t2 s2
moved_then kind a b c x y z t s t1 s1 t2 s2 blocks beside first second = record {
  blocks = rose_whole (t (file_of kind)) (t1 (file_of kind)) (t2 (file_of kind)) a b c blocks first.blocks second.blocks;
  values_in = rose_whole (t Values) (t1 Values) (t2 Values) x.values_in y.values_in z.values_in (ap (λ (k : Beside). k.values_in) beside) first.values_in second.values_in;
  values_out = rose_whole (s Values) (s1 Values) (s2 Values) x.values_out y.values_out z.values_out (ap (λ (k : Beside). k.values_out) beside) first.values_out second.values_out;
  sums_in = rose_whole (t Sums) (t1 Sums) (t2 Sums) x.sums_in y.sums_in z.sums_in (ap (λ (k : Beside). k.sums_in) beside) first.sums_in second.sums_in;
  sums_out = rose_whole (s Sums) (s1 Sums) (s2 Sums) x.sums_out y.sums_out z.sums_out (ap (λ (k : Beside). k.sums_out) beside) first.sums_out second.sums_out;
}

-- the same numbers of bytes
pub moved_as : (kind : Kind) (a b : ℕ) (x y : Beside) (t s t1 s1 : FileKind → ℕ) → a ≡ b → x ≡ y → HasMoved kind a x t s t1 s1 → HasMoved kind b y t s t1 s1
moved_as kind a b x y t s t1 s1 blocks beside moved = subst (λ (k : Beside). HasMoved kind b k t s t1 s1) beside (subst (λ (n : ℕ). HasMoved kind n x t s t1 s1) blocks moved)

-- the blocks don't stand in Values, nor in Sums
values_apart : (kind : Kind) → Values ≢ file_of kind
values_apart Full same = absurd (cc)
values_apart Fed same = absurd (cc)

sums_apart : (kind : Kind) → Sums ≢ file_of kind
sums_apart Full same = absurd (cc)
sums_apart Fed same = absurd (cc)

two_files : Sums ≢ Values
two_files same = absurd (cc)

module _ {D : Type 0} (h : D → FileKind → Option (List ℕ)) (t s : D → FileKind → ℕ) (f : D → ℕ) (a : D → Option (List ℕ)) (kind : Kind) (x y : D) where
  -- a step that reads blocks
  pub blocks_read : (n : ℕ) → RoseBy (t x (file_of kind)) (t y (file_of kind)) n → Reads h t s f a (file_of kind) x y → HasMoved kind n none_beside (t x) (s x) (t y) (s y)
  blocks_read n rose reads = record {
    blocks = rose;
    values_in = rose_none _ _ (reads.taken Values (values_apart kind));
    values_out = rose_none _ _ (reads.stored Values);
    sums_in = rose_none _ _ (reads.taken Sums (sums_apart kind));
    sums_out = rose_none _ _ (reads.stored Sums);
  }

  -- that reads values
  pub values_read : (n : ℕ) → RoseBy (t x Values) (t y Values) n → Reads h t s f a Values x y → HasMoved kind 0 (of_values n) (t x) (s x) (t y) (s y)
  values_read n rose reads = record {
    blocks = rose_none _ _ (reads.taken (file_of kind) (λ same. values_apart kind (sym same)));
    values_in = rose;
    values_out = rose_none _ _ (reads.stored Values);
    sums_in = rose_none _ _ (reads.taken Sums two_files);
    sums_out = rose_none _ _ (reads.stored Sums);
  }

  -- that reads sums
  pub sums_read : (n : ℕ) → RoseBy (t x Sums) (t y Sums) n → Reads h t s f a Sums x y → HasMoved kind 0 (of_early n) (t x) (s x) (t y) (s y)
  sums_read n rose reads = record {
    blocks = rose_none _ _ (reads.taken (file_of kind) (λ same. sums_apart kind (sym same)));
    values_in = rose_none _ _ (reads.taken Values (λ same. two_files (sym same)));
    values_out = rose_none _ _ (reads.stored Values);
    sums_in = rose;
    sums_out = rose_none _ _ (reads.stored Sums);
  }

  -- that stores sums
  pub sums_stored : (n : ℕ) → RoseBy (s x Sums) (s y Sums) n → Stores h t s f a Sums x y → HasMoved kind 0 (of_stored n) (t x) (s x) (t y) (s y)
  sums_stored n rose stores = record {
    blocks = rose_none _ _ (stores.taken (file_of kind));
    values_in = rose_none _ _ (stores.taken Values);
    values_out = rose_none _ _ (stores.stored Values (λ same. two_files (sym same)));
    sums_in = rose_none _ _ (stores.taken Sums);
    sums_out = rose;
  }

  -- that reads values and stores others
  pub values_moved : (n m : ℕ) → RoseBy (t x Values) (t y Values) n → RoseBy (s x Values) (s y Values) m → Moves h t s f a Values Values x y → HasMoved kind 0 (of_close n m) (t x) (s x) (t y) (s y)
  values_moved n m rose rose_out moves = record {
    blocks = rose_none _ _ (moves.taken (file_of kind) (λ same. values_apart kind (sym same)));
    values_in = rose;
    values_out = rose_out;
    sums_in = rose_none _ _ (moves.taken Sums two_files);
    sums_out = rose_none _ _ (moves.stored Sums two_files);
  }

module _ (kind : Kind) (size : Place → ℕ) (need : Place → Bool) (loads : Place → ℕ) where
  -- a step that moves more beside the blocks
  pub gone_beside : (bs : List Place) (beside x : Beside) (t s t1 s1 t2 s2 : FileKind → ℕ) (counts : Counts) → HasGone kind size need loads bs beside t s t1 s1 counts → HasMoved kind 0 x t1 s1 t2 s2
      → HasGone kind size need loads bs (both beside x) t s t2 s2 counts
  gone_beside bs beside x t s t1 s1 t2 s2 counts gone step =
      let bytes = bytes_of size need bs in
      let more = loads_of size need loads bs in
      let blocks : bytes ≡ bytes + 0 = omega arith in
      let values : more + (beside.values_in + x.values_in) ≡ more + beside.values_in + x.values_in = omega arith in
      record {
        counted = gone.counted;
        moved = moved_then kind bytes 0 bytes (and_loads more beside) x (and_loads more (both beside x)) t s t1 s1 t2 s2 blocks
            (beside_same (and_loads more (both beside x)) (both (and_loads more beside) x) values refl refl refl) gone.moved step;
      }

  -- as many more values moved
  pub gone_moved : (bs : List Place) (beside : Beside) (t s t1 s1 : FileKind → ℕ) (more : ℕ) (old new : Counts) → new ≡ record old { moved = old.moved + more } → HasGone kind size need loads bs beside t s t1 s1 old
      → HasGone kind size need loads bs beside t s t1 s1 new
  gone_moved bs beside t s t1 s1 more old new added gone = record {
    counted = added ∙ ap (λ (k : Counts). record k { moved = old.moved + more }) gone.counted ∙ ap (tally_of kind size need bs) (sym (ap (λ (k : Counts). k.moved) added));
    moved = gone.moved;
  }

  -- the same blocks, and the same bytes beside them
  pub gone_as : (bs cs : List Place) (beside same_beside : Beside) (t s t1 s1 : FileKind → ℕ) (counts : Counts) → bs ≡ cs → beside ≡ same_beside → HasGone kind size need loads bs beside t s t1 s1 counts
      → HasGone kind size need loads cs same_beside t s t1 s1 counts
  gone_as bs cs beside same_beside t s t1 s1 counts same beside_is gone =
      subst (λ (b : Beside). HasGone kind size need loads cs b t s t1 s1 counts) beside_is (subst (λ (l : List Place). HasGone kind size need loads l beside t s t1 s1 counts) same gone)
