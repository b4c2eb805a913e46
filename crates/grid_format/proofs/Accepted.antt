-- Files whose head was accepted.
use Rattle.std.proofs.Common.{◌≡◌, ◌==◌, ℕ, Bool, true, false, List, [], length, Option, Some, None, Result, Ok, Err, is_some, refl, ap, subst, ◌∙◌, if◌then◌else◌}
use Rattle.std.proofs.lemmas.Bool.{eqb-true}
use Rattle.lumos_depot.specs.declared.depot.FileKind.{FileKind}
use Rattle.lumos_depot.specs.declared.depot.FileKind.TheVariants.{Meta, Primary, Secondary, Info}
use Rattle.grid_format.specs.Checks.{GridFiles, ◌>>=◌, counted, fields_of, files_sized, head_of, in_meta, sized}
use Rattle.grid_format.specs.Heads.{counts_of, meta_length}
use Rattle.grid_format.specs.Outside.{Holds}
use Rattle.grid_format.specs.declared.head.GridInfo.{GridInfo}
use Rattle.grid_format.specs.declared.head.GridFault.{GridFault}
use Rattle.grid_format.proofs.Answering.{in_meta-ok}

-- where both checks found no fault, so did the first, and the second of what the first gave
pub bind_ok : {A B E : Type 0} (first : Result A E) (next : A → Result B E) (y : B) → (first >>= next) ≡ Ok y → (x : A) × (first ≡ Ok x) × (next x ≡ Ok y)
bind_ok (Ok x) next y h = (x, refl, h)
bind_ok (Err e) next y h = absurd (cc)

same_ok : {A E : Type 0} (x y : A) → ◌≡◌ {A = Result A E} (Ok x) (Ok y) → x ≡ y
same_ok x y h = cc

sized_ok : (kind : FileKind) (want found : ℕ) (u : Unit {0}) → sized kind want found ≡ Ok u → found ≡ want
sized_ok kind want found u h = eqb-true found want (passes (found == want) h)
  where
    passes : (b : Bool) → (if b then Ok tt else Err (GridFault.BadLength kind want found)) ≡ Ok u → b ≡ true
    passes true k = refl
    passes false k = absurd (cc)

-- what an accepted head says of Meta
pub record Accepts (files : GridFiles) (info : GridInfo) : Type 0 where
  pub long : length files.meta ≡ meta_length info.parts
  pub sums : counted info.edges (counts_of info.parts files.meta) ≡ Ok tt

accepts_behind : (files : GridFiles) (head info : GridInfo) → (sized Meta (meta_length head.parts) (length files.meta) >>= λ _. in_meta (counted head.edges (counts_of head.parts files.meta)) >>= λ _. files_sized head files >>= λ _. Ok head) ≡ Ok info → Accepts files info
accepts_behind files head info h =
    let a = bind_ok (sized Meta (meta_length head.parts) (length files.meta)) _ info h in
    let b = bind_ok (in_meta (counted head.edges (counts_of head.parts files.meta))) _ info a.2 in
    let d = bind_ok (files_sized head files) _ info b.2 in
    let same : head ≡ info = same_ok head info d.2 in
    let P : GridInfo → Type 0 = Accepts files in
    subst P same (record {
      long = sized_ok Meta (meta_length head.parts) (length files.meta) a.0 a.1;
      sums = in_meta-ok b.0 (counted head.edges (counts_of head.parts files.meta)) b.1;
    })

pub accepts : (files : GridFiles) (info : GridInfo) → head_of files ≡ Ok info → Accepts files info
accepts files info h =
    let a = bind_ok (fields_of files.meta) _ info h in accepts_behind files a.0 info a.2

or_none : Option (List ℕ) → List ℕ
or_none None = []
or_none (Some file) = file

some_of : (told : Option (List ℕ)) → is_some told ≡ true → told ≡ Some (or_none told)
unfolding or_none
some_of None h = absurd (cc)
some_of (Some file) h = refl

-- a depot that tells one file tells those of a grid
pub told_files : (told : FileKind → Option (List ℕ)) → ((j k : FileKind) → is_some (told j) ≡ is_some (told k)) → (meta : List ℕ) → told Meta ≡ Some meta → (files : GridFiles) × Holds told files × (files.meta ≡ meta)
told_files told all meta is =
    let some : is_some (told Meta) ≡ true = ap is_some is in (
      record { meta = meta; primary = or_none (told Primary); secondary = or_none (told Secondary); info = or_none (told Info) },
      record {
        meta_file = is;
        primary_file = some_of (told Primary) (all Primary Meta ∙ some);
        secondary_file = some_of (told Secondary) (all Secondary Meta ∙ some);
        info_file = some_of (told Info) (all Info Meta ∙ some);
      },
      refl,
    )

pub none_from : {A : Type 0} (told : Option A) → ((x : A) → told ≡ Some x → ⊥) → told ≡ None
none_from None never = refl
none_from (Some x) never = absurd (never x refl)
