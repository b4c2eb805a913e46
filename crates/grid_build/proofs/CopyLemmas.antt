-- One copy from file to file behind another.
use Rattle.std.proofs.Common.{◌≡◌, ◌≤◌, ◌+◌, ◌*◌, ℕ, true, false, List, [], ◌++◌, length, take, drop, Option, Some, None, refl, sym, ap, ap₂, ◌∙◌, arith, append-nil, length-append}
use Rattle.std.specs.Prelude.{IfSome, is_some}
use Rattle.std.proofs.Math.Seq.{take-add}
use Rattle.std.proofs.lemmas.List.{drop_all, drop-drop}
use Rattle.lumos_depot.specs.Files.{overwritten, range_at}
use Rattle.lumos_depot.specs.declared.depot.FileKind.{FileKind}
use Rattle.lumos_depot.specs.declared.depot.FileKind.TheVariants.{Primary, Secondary}
use Rattle.grid_build.specs.Copied.{CopiesAll, HasCopied}
use Rattle.lumos_depot.specs.Steps.{RoseBy}
use Rattle.lumos_depot.proofs.Overwrites.{length-overwritten, written_next, written_none}
use Rattle.lumos_depot.proofs.StepLemmas.{rose_as, told_both, told_by, told_more, told_same, told_some}

told_each : (told : Option (List ℕ)) (P : List ℕ → Type 0) → ((file : List ℕ) → P file) → IfSome told P
told_each None P each = tt
told_each (Some file) P each = each file

-- two ranges, one behind the other
pub range_joined : (from m n k : ℕ) (file : List ℕ) → m + n ≡ k → range_at from m file ++ range_at (from + m) n file ≡ range_at from k file
range_joined from m n k file size =
    ap (λ l. range_at from m file ++ take n l) (sym (drop-drop m from file))
    ∙ sym (take-add m n (drop from file))
    ∙ ap (λ (q : ℕ). range_at from q file) size

-- nothing was copied yet
pub copied_none : (part : List ℕ → List ℕ) (place : ℕ) (source told : Option (List ℕ)) → ((file : List ℕ) → [] ≡ part file) → HasCopied part place 0 source told told
copied_none part place source told none = record {
  bytes = [];
  whole = refl;
  written = written_none place told;
  same = told_each source (λ file. [] ≡ part file) none;
}

-- a copy right behind another
pub copied_next : (first second both : List ℕ → List ℕ) (place m n : ℕ) (source old mid new : Option (List ℕ)) → HasCopied first place m source old mid → HasCopied second (place + m) n source mid new →
    IfSome old (λ file. place + m ≤ length file) → ((file : List ℕ) → first file ++ second file ≡ both file) → HasCopied both place (m + n) source old new
copied_next first second both place m n source old mid new one two room joined = record {
  bytes = one.bytes ++ two.bytes;
  whole = omega (arith, length-append one.bytes two.bytes, one.whole, two.whole);
  written =
      let next : place + m ≡ place + length one.bytes = omega (arith, one.whole) in
      written_next place (place + m) one.bytes two.bytes next old mid new room one.written two.written;
  same = told_more source (λ file. (one.bytes ≡ first file) × (two.bytes ≡ second file)) (λ file. one.bytes ++ two.bytes ≡ both file) (λ file are. ap₂ ◌++◌ are.0 are.1 ∙ joined file)
      (told_both source (λ file. one.bytes ≡ first file) (λ file. two.bytes ≡ second file) one.same two.same);
}

pub copied_as : (part : List ℕ → List ℕ) (place at size many : ℕ) (source told old new : Option (List ℕ)) → at ≡ place → many ≡ size → told ≡ source → HasCopied part place size source old new → HasCopied part at many told old new
copied_as part place at size many source told old new here same is had = rw (here, same, is) had

module _ (part : List ℕ → List ℕ) (place size : ℕ) (source old new : Option (List ℕ)) (had : HasCopied part place size source old new) where
  -- a copy keeps the length
  pub copied_long : (n : ℕ) → place + size ≤ n → IfSome old (λ file. n ≤ length file) → IfSome new (λ file. n ≤ length file)
  copied_long n inside =
      told_by (overwritten place had.bytes) old new (λ file. n ≤ length file) (λ file. n ≤ length file) had.written
      (λ file long. let same = length-overwritten place had.bytes file (omega (arith, long, inside, had.whole)) in omega (arith, same, long))

  pub copied_sized : (n : ℕ) → place + size ≤ n → IfSome old (λ file. length file ≡ n) → IfSome new (λ file. length file ≡ n)
  copied_sized n inside =
      told_by (overwritten place had.bytes) old new (λ file. length file ≡ n) (λ file. length file ≡ n) had.written
      (λ file long. length-overwritten place had.bytes file (omega (arith, long, inside, had.whole)) ∙ long)

-- a copy of the length of the file
pub copied_whole : (part : List ℕ → List ℕ) (size : ℕ) (source old new : Option (List ℕ)) (file : List ℕ) → HasCopied part 0 size source old new → is_some old ≡ true → IfSome old (λ held. length held ≡ size) → source ≡ Some file → new ≡ Some (part file)
copied_whole part size source None new file had told long is = absurd (let e : false ≡ true = told in cc)
copied_whole part size source (Some held) new file had told long is =
    let bytes = had.bytes in
    let rest : drop (0 + length bytes) held ≡ [] = drop_all (0 + length bytes) held (omega (arith, long, had.whole)) in
    had.written ∙ ap Some (ap (λ l. bytes ++ l) rest ∙ append-nil bytes ∙ told_some source (λ x. bytes ≡ part x) file is had.same)

-- what was counted for a copy, by the length of the file
pub copies_long : (edges : ℕ) (taken taken_then stored stored_then : FileKind → ℕ) (secondary : Option (List ℕ)) → CopiesAll edges taken taken_then stored stored_then secondary →
    IfSome secondary (λ file. RoseBy (taken Primary) (taken_then Primary) (length file) × RoseBy (stored Secondary) (stored_then Secondary) (length file))
copies_long edges taken taken_then stored stored_then secondary had =
    told_more secondary (λ file. length file ≡ 12 * had.low) (λ file. RoseBy (taken Primary) (taken_then Primary) (length file) × RoseBy (stored Secondary) (stored_then Secondary) (length file))
    (λ file long. (λ low. let took = had.taken_bytes low in omega (arith, took, long), λ low. let put = had.stored_bytes low in omega (arith, put, long))) had.long

-- the same between counts that are as these
pub copies_as : (edges : ℕ) (taken taken_then stored stored_then took took_then put put_then : FileKind → ℕ) (secondary told : Option (List ℕ)) → took Primary ≡ taken Primary → took_then Primary ≡ taken_then Primary → put Secondary ≡ stored Secondary → put_then Secondary ≡ stored_then Secondary → told ≡ secondary →
    CopiesAll edges taken taken_then stored stored_then secondary → CopiesAll edges took took_then put put_then told
copies_as edges taken taken_then stored stored_then took took_then put put_then secondary told a b d e is had = record {
  low = had.low;
  fewer = had.fewer;
  taken_bytes = rose_as (taken Primary) (taken_then Primary) (took Primary) (took_then Primary) (12 * had.low) a b had.taken_bytes;
  stored_bytes = rose_as (stored Secondary) (stored_then Secondary) (put Secondary) (put_then Secondary) (12 * had.low) d e had.stored_bytes;
  long = told_same secondary told (λ file. length file ≡ 12 * had.low) is had.long;
}
