-- One step over a depot after another.
use Rattle.std.proofs.Common.{◌≡◌, ◌≢◌, ◌≤◌, ◌+◌, ℕ, Bool, true, false, List, Option, Some, None, refl, sym, ◌∙◌, ap, subst, arith}
use Rattle.std.specs.Prelude.{IfSome}
use Rattle.std.specs.Option.{option_map}
use Rattle.lumos_depot.specs.Files.{Same, SameBut, raised}
use Rattle.lumos_depot.specs.declared.depot.FileKind.{FileKind}
use Rattle.lumos_depot.specs.Steps.{Moves, Reads, RoseBy, SameOff, Stores, Touches}

pub same_then : {A : Type 0} (x y z : FileKind → A) → Same x y → Same y z → Same x z
same_then x y z first second = λ kind. second kind ∙ first kind

pub same_but_then : {A : Type 0} (k : FileKind) (x y z : FileKind → A) → SameBut k x y → SameBut k y z → SameBut k x z
same_but_then k x y z first second = λ kind other. second kind other ∙ first kind other

pub same_all_but : {A : Type 0} (k : FileKind) (x y : FileKind → A) → Same x y → SameBut k x y
same_all_but k x y same = λ kind other. same kind

module _ {D : Type 0} (h : D → FileKind → Option (List ℕ)) (t s : D → FileKind → ℕ) (f : D → ℕ) (a : D → Option (List ℕ)) where
  -- nothing was done yet
  pub reads_none : (from : FileKind) (x : D) → Reads h t s f a from x x
  reads_none from x = record { attached = refl; contents = λ kind. refl; taken = λ kind other. refl; stored = λ kind. refl; later = omega arith }

  pub moves_none : (from to : FileKind) (x : D) → Moves h t s f a from to x x
  moves_none from to x = record { attached = refl; contents = λ kind other. refl; taken = λ kind other. refl; stored = λ kind other. refl; later = omega arith }

  pub reads_then : (from : FileKind) (x y z : D) → Reads h t s f a from x y → Reads h t s f a from y z → Reads h t s f a from x z
  reads_then from x y z first second = record {
    attached = second.attached ∙ first.attached;
    contents = same_then (h x) (h y) (h z) first.contents second.contents;
    taken = same_but_then from (t x) (t y) (t z) first.taken second.taken;
    stored = same_then (s x) (s y) (s z) first.stored second.stored;
    later = let l = first.later in let m = second.later in omega arith;
  }

  pub stores_then : (into : FileKind) (x y z : D) → Stores h t s f a into x y → Stores h t s f a into y z → Stores h t s f a into x z
  stores_then into x y z first second = record {
    attached = second.attached ∙ first.attached;
    contents = same_but_then into (h x) (h y) (h z) first.contents second.contents;
    taken = same_then (t x) (t y) (t z) first.taken second.taken;
    stored = same_but_then into (s x) (s y) (s z) first.stored second.stored;
    later = let l = first.later in let m = second.later in omega arith;
  }

  pub moves_then : (from to : FileKind) (x y z : D) → Moves h t s f a from to x y → Moves h t s f a from to y z → Moves h t s f a from to x z
  moves_then from to x y z first second = record {
    attached = second.attached ∙ first.attached;
    contents = same_but_then to (h x) (h y) (h z) first.contents second.contents;
    taken = same_but_then from (t x) (t y) (t z) first.taken second.taken;
    stored = same_but_then to (s x) (s y) (s z) first.stored second.stored;
    later = let l = first.later in let m = second.later in omega arith;
  }

  -- a step that reads changes no file
  pub reads_moves : (from to : FileKind) (x y : D) → Reads h t s f a from x y → Moves h t s f a from to x y
  reads_moves from to x y reads = record {
    attached = reads.attached;
    contents = same_all_but to (h x) (h y) reads.contents;
    taken = reads.taken;
    stored = same_all_but to (s x) (s y) reads.stored;
    later = reads.later;
  }

  -- a call of the depot that takes nothing
  pub call_moves : (from to : FileKind) (x y : D) → a y ≡ a x → SameBut to (h x) (h y) → Same (t x) (t y) → SameBut to (s x) (s y) → f x ≤ f y → Moves h t s f a from to x y
  call_moves from to x y attached contents taken stored later =
      record { attached = attached; contents = contents; taken = same_all_but from (t x) (t y) taken; stored = stored; later = later }

-- a file that isn't named isn't one that is
off_named : (named : FileKind → Bool) (kind other : FileKind) → named kind ≡ true → named other ≡ false → other ≢ kind
off_named named kind other is isnt same = let both : true ≡ false = sym is ∙ ap named (sym same) ∙ isnt in absurd (cc)

pub same_off : {A : Type 0} (named : FileKind → Bool) (x y : FileKind → A) → ((kind : FileKind) → y kind ≡ x kind) → SameOff named x y
same_off named x y same = λ kind isnt. same kind

pub but_off : {A : Type 0} (named : FileKind → Bool) (k : FileKind) (x y : FileKind → A) → named k ≡ true → SameBut k x y → SameOff named x y
but_off named k x y is same = λ kind isnt. same kind (off_named named k kind is isnt)

pub off_then : {A : Type 0} (named : FileKind → Bool) (x y z : FileKind → A) → SameOff named x y → SameOff named y z → SameOff named x z
off_then named x y z first second = λ kind isnt. second kind isnt ∙ first kind isnt

module _ {D : Type 0} (h : D → FileKind → Option (List ℕ)) (t s : D → FileKind → ℕ) (f : D → ℕ) (a : D → Option (List ℕ)) (takes stores : FileKind → Bool) where
  -- nothing was done yet
  pub touches_none : (x : D) → Touches h t s f a takes stores x x
  touches_none x = record { attached = refl; contents = λ kind isnt. refl; taken = λ kind isnt. refl; stored = λ kind isnt. refl; later = omega arith }

  pub touches_then : (x y z : D) → Touches h t s f a takes stores x y → Touches h t s f a takes stores y z → Touches h t s f a takes stores x z
  touches_then x y z first second = record {
    attached = second.attached ∙ first.attached;
    contents = off_then stores (h x) (h y) (h z) first.contents second.contents;
    taken = off_then takes (t x) (t y) (t z) first.taken second.taken;
    stored = off_then stores (s x) (s y) (s z) first.stored second.stored;
    later = let l = first.later in let m = second.later in omega arith;
  }

  pub reads_touches : (from : FileKind) (x y : D) → takes from ≡ true → Reads h t s f a from x y → Touches h t s f a takes stores x y
  reads_touches from x y may reads = record {
    attached = reads.attached;
    contents = same_off stores (h x) (h y) reads.contents;
    taken = but_off takes from (t x) (t y) may reads.taken;
    stored = same_off stores (s x) (s y) reads.stored;
    later = reads.later;
  }

  pub stores_touches : (into : FileKind) (x y : D) → stores into ≡ true → Stores h t s f a into x y → Touches h t s f a takes stores x y
  stores_touches into x y may steps = record {
    attached = steps.attached;
    contents = but_off stores into (h x) (h y) may steps.contents;
    taken = same_off takes (t x) (t y) steps.taken;
    stored = but_off stores into (s x) (s y) may steps.stored;
    later = steps.later;
  }

  pub moves_touches : (from into : FileKind) (x y : D) → takes from ≡ true → stores into ≡ true → Moves h t s f a from into x y → Touches h t s f a takes stores x y
  moves_touches from into x y may may_store moves = record {
    attached = moves.attached;
    contents = but_off stores into (h x) (h y) may_store moves.contents;
    taken = but_off takes from (t x) (t y) may moves.taken;
    stored = but_off stores into (s x) (s y) may_store moves.stored;
    later = moves.later;
  }

-- a step that touches fewer files
pub touches_more : {D : Type 0} (h : D → FileKind → Option (List ℕ)) (t s : D → FileKind → ℕ) (f : D → ℕ) (a : D → Option (List ℕ)) (takes stores more into : FileKind → Bool) (x y : D) → ((kind : FileKind) → more kind ≡ false → takes kind ≡ false)
    → ((kind : FileKind) → into kind ≡ false → stores kind ≡ false) → Touches h t s f a takes stores x y → Touches h t s f a more into x y
touches_more h t s f a takes stores more into x y less fewer step = record {
  attached = step.attached;
  contents = λ kind isnt. step.contents kind (fewer kind isnt);
  taken = λ kind isnt. step.taken kind (less kind isnt);
  stored = λ kind isnt. step.stored kind (fewer kind isnt);
  later = step.later;
}

-- A file that was changed by a function, where it is told
pub told_by : (f : List ℕ → List ℕ) (old new : Option (List ℕ)) (P Q : List ℕ → Type 0) → new ≡ option_map f old → ((file : List ℕ) → P file → Q (f file)) → IfSome old P → IfSome new Q
told_by f None new P Q is step had = rw is tt
told_by f (Some file) new P Q is step had = rw is (step file had)

-- and to a file that is known
pub told_is : (f : List ℕ → List ℕ) (old new : Option (List ℕ)) (file : List ℕ) → new ≡ option_map f old → IfSome old (λ x. x ≡ file) → IfSome new (λ x. x ≡ f file)
told_is f old new file is had = told_by f old new (λ x. x ≡ file) (λ x. x ≡ f file) is (λ x same. ap f same) had

-- the same of a file as before
pub told_same : (old new : Option (List ℕ)) (P : List ℕ → Type 0) → new ≡ old → IfSome old P → IfSome new P
told_same old new P is had = rw is had

-- what follows of a file that is told
pub told_more : (told : Option (List ℕ)) (P Q : List ℕ → Type 0) → ((file : List ℕ) → P file → Q file) → IfSome told P → IfSome told Q
told_more None P Q step had = tt
told_more (Some file) P Q step had = step file had

pub told_both : (told : Option (List ℕ)) (P Q : List ℕ → Type 0) → IfSome told P → IfSome told Q → IfSome told (λ file. P file × Q file)
told_both None P Q first second = tt
told_both (Some file) P Q first second = (first, second)

-- what follows of two facts
pub told_with : (told : Option (List ℕ)) (P Q R : List ℕ → Type 0) → ((file : List ℕ) → P file → Q file → R file) → IfSome told P → IfSome told Q → IfSome told R
told_with None P Q R step first second = tt
told_with (Some file) P Q R step first second = step file first second

-- what follows of a file and of what it is
pub told_at : (told : Option (List ℕ)) (P Q : List ℕ → Type 0) → ((file : List ℕ) → told ≡ Some file → P file → Q file) → IfSome told P → IfSome told Q
told_at None P Q step had = tt
told_at (Some file) P Q step had = step file refl had

pub told_some : (told : Option (List ℕ)) (P : List ℕ → Type 0) (file : List ℕ) → told ≡ Some file → IfSome told P → P file
told_some None P file is had = absurd (cc)
told_some (Some found) P file is had = let same : found ≡ file = cc in subst P same had

-- a counter rose by one number and then by another
pub rose_then : (x y z m n : ℕ) → RoseBy x y m → RoseBy y z n → RoseBy x z (m + n)
rose_then x y z m n first second low =
    let two = second low in
    let one = first (omega arith) in
    omega arith

-- by as much as both are
pub rose_whole : (x y z m n k : ℕ) → k ≡ m + n → RoseBy x y m → RoseBy y z n → RoseBy x z k
rose_whole x y z m n k all first second = rw all (rose_then x y z m n first second)

-- a transfer raised a counter
pub raised_rose : (x y n : ℕ) → y ≡ raised x n → RoseBy x y n
raised_rose x y n is low = omega arith

-- the same between counters that are as these
pub rose_as : (x y u v n : ℕ) → u ≡ x → v ≡ y → RoseBy x y n → RoseBy u v n
rose_as x y u v n first last rose = rw (first, last) rose
