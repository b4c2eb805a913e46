-- The steps of the builder, one after another.
use Rattle.std.proofs.Common.{◌≡◌, ◌≤◌, ◌<◌, ◌*◌, ℕ, true, false, List, [], ◌∷◌, length, flat_map, Option, Some, None, Result, Ok, Err, All, refl, sym, ap, ◌∙◌, subst, arith}
use Rattle.std.specs.Prelude.{IfSome, OnOk, is_some}
use Rattle.std.specs.List.{AllByRecursion}
use Rattle.std.specs.Option.{ok_or, option_map}
use Rattle.std.proofs.lemmas.List.Elements.{All-from_recursion, All-head}
use Rattle.std.proofs.lemmas.Option.{same_Some}
use Rattle.lumos_base.specs.Records.{IsEdge, edge_bytes}
use Rattle.lumos_base.specs.declared.records.Edge.{Edge}
use Rattle.lumos_depot.specs.Files.{SameBut}
use Rattle.lumos_depot.specs.declared.depot.DepotFault.{DepotFault}
use Rattle.lumos_depot.specs.declared.depot.DepotFault.TheVariants.{Failed, NoMemory}
use Rattle.lumos_depot.specs.declared.depot.FileKind.{FileKind}
use Rattle.lumos_depot.specs.declared.depot.FileKind.TheVariants.{Meta, Primary, Secondary, Info, Values, Sums, Spool}
use Rattle.edge_text.specs.Reading.{Listed, reading}
use Rattle.edge_text.specs.declared.fault.TextLimits.{TextLimits}
use Rattle.edge_text.proofs.Fits.{IsEdgeWithin, StatesFew, reading_within}
use Rattle.partition.specs.Blocks.{IsBelow}
use Rattle.partition.specs.Fitting.{least_parts, need_at}
use Rattle.partition.specs.Parts.{Cut, chunk_of}
use Rattle.grid_format.specs.Checks.{GridFiles}
use Rattle.grid_format.specs.Grid.{HasGrid}
use Rattle.grid_format.proofs.BlockPlaces.{length-each}
use Rattle.grid_build.specs.Built.{HasBuilt, HasFiles, IsUnfit, fault_of}
use Rattle.grid_build.specs.Chosen.{parts_for}
use Rattle.grid_build.specs.declared.options.BuildFault.{BuildFault}
use Rattle.grid_build.specs.declared.options.BuildFault.TheVariants.{BudgetTooSmall}
use Rattle.grid_build.specs.declared.options.PartsChoice.{PartsChoice}
use Rattle.grid_build.specs.declared.options.PartsChoice.TheVariants.{Stated, Fitted}
use Rattle.grid_build.specs.Numbered.{IsCountedSpool}
use Rattle.grid_build.specs.Outside.{LeavesRuns}
use Rattle.lumos_depot.specs.Steps.{Moves}
use Rattle.grid_build.specs.Passes.{IsSpool}
use Rattle.grid_build.specs.Spooling.{HasSpooled, IsSpooled}
use Rattle.grid_build.specs.declared.spool.Spooled.{Spooled}
use Rattle.grid_build.specs.Steps.{IsCounted, IsListed}

-- what stands where something is told, and a consequence of it
pub if_some : {X : Type 0} {P Q : X → Type 0} (o : Option X) → ((x : X) → P x → Q x) → IfSome o P → IfSome o Q
if_some None f h = tt
if_some (Some x) f h = f x h

pub on_ok : {T E A B : Type 0} (r : Result T E) → (A → B) → OnOk r A → OnOk r B
on_ok (Ok x) f h = f h
on_ok (Err e) f h = tt

-- what is told, where it is known that it is
pub told_is : {X : Type 0} (o : Option X) (x : X) → is_some o ≡ true → IfSome o (λ y. y ≡ x) → o ≡ Some x
told_is None x is h = absurd (let e : false ≡ true = is in cc)
told_is (Some y) x is h = ap Some h

pub length-spool : (n : ℕ) (file : List ℕ) (list : List Edge) → IsSpool n (Some file) list → length file ≡ 12 * length list
length-spool n file list h =
    ap length (same_Some _ _ h.bytes) ∙ length-each edge_bytes 12 list (λ e. refl)

pub listed_length : (n count : ℕ) (spool : Option (List ℕ)) → IfSome spool (λ file. IsListed n count (Some file)) → IfSome spool (λ file. length file ≡ 12 * count)
listed_length n count spool h =
    if_some spool (λ file l. length-spool n file l.list l.kept ∙ ap (λ (k : ℕ). 12 * k) l.whole) h

pub counted_spool : (cut : Cut) (count : ℕ) (spool : Option (List ℕ)) (counts : List ℕ) → IfSome spool (λ file. IsListed cut.vertices count (Some file)) → IsCounted cut count spool counts →
    IfSome spool (λ file. (length file ≡ 12 * count) × IsCountedSpool cut.vertices (chunk_of cut) cut.parts counts (Some file))
counted_spool cut count None counts h k = tt
counted_spool cut count (Some file) counts h k = (
  length-spool cut.vertices file h.list h.kept ∙ ap (λ (k : ℕ). 12 * k) h.whole,
  record { list = h.list; kept = h.kept; counted = k.told h.list h.kept h.whole },
)

-- what is told of a file, where it was told before
pub told_map : {X : Type 0} (before after : Option X) (x : X) → is_some before ≡ true → after ≡ Some x → after ≡ option_map (λ _. x) before
told_map None after x is h = absurd (let e : false ≡ true = is in cc)
told_map (Some y) after x is h = h

-- a read that stopped by a fault of the depot says nothing of its bytes
pub stopped_outside : (limits : TextLimits) (choice : PartsChoice) (left new : Option (List ℕ)) (before after : FileKind → Option (List ℕ)) (fault : DepotFault) → HasBuilt limits choice left new before after (Err (fault_of fault))
stopped_outside limits choice None new before after Failed = record { bytes = []; told = λ all h. absurd (cc); builds = tt }
stopped_outside limits choice None new before after NoMemory = record { bytes = []; told = λ all h. absurd (cc); builds = tt }
stopped_outside limits choice (Some bytes) new before after Failed = record { bytes = bytes; told = λ all h. same_Some _ _ h; builds = tt }
stopped_outside limits choice (Some bytes) new before after NoMemory = record { bytes = bytes; told = λ all h. same_Some _ _ h; builds = tt }

numbers_of : (limits : TextLimits) (edges : List Edge) → limits.max_vertex ≤ 268435455 → AllByRecursion (IsEdgeWithin limits) edges → AllByRecursion IsEdge edges
numbers_of limits [] low all = tt
numbers_of limits (e ∷ edges) low all =
    let source = all.0.source.low in
    let target = all.0.target.low in
    let weight = all.0.weight in
    (record { source = omega arith; target = omega arith; weight = omega arith }, numbers_of limits edges low all.1)

ends_of : (n : ℕ) (edges : List Edge) → AllByRecursion (λ e. (e.source.0 < n) × (e.target.0 < n)) edges → AllByRecursion (IsBelow n) edges
ends_of n [] all = tt
ends_of n (e ∷ edges) all = (record { source = all.0.0; target = all.0.1 }, ends_of n edges all.1)

states_few : (stated : Option ℕ) → IfSome stated (λ vertices. vertices ≤ 268435456) → StatesFew 268435456 stated
states_few None h = tt
states_few (Some vertices) h = h

-- The limits of a text are those of a reader.
pub record AreLimits (limits : TextLimits) : Type 0 where
  pub vertex : limits.max_vertex ≤ 268435455
  pub vertices : IfSome limits.vertices (λ vertices. vertices ≤ 268435456)
  pub edges : limits.max_edges ≤ 2147483648

-- a list that was read has a grid, over any number of parts
pub list_within : (limits : TextLimits) (p : ℕ) (bytes : List ℕ) (l : Listed) → AreLimits limits → 0 < p → p ≤ 256 → reading limits bytes ≡ Ok l → HasGrid l.edges l.vertices p × All IsEdge l.edges
list_within limits p bytes l h some few is =
    let within = reading_within limits bytes l is in
    let count = within.few in
    let most = h.edges in
    let low = h.vertex in (
      record {
        ends = All-from_recursion (IsBelow l.vertices) l.edges (ends_of l.vertices l.edges within.ends);
        few = omega arith;
        vertices = within.few_vertices 268435456 (states_few limits.vertices h.vertices) (omega arith);
        some_parts = some;
        few_parts = few;
      },
      All-from_recursion IsEdge l.edges (numbers_of limits l.edges low within.within),
    )

-- where there is an edge there is a vertex
pub some_vertex : (n : ℕ) (edges : List Edge) → All (IsBelow n) edges → 0 < length edges → 0 < n
some_vertex n [] ends h = absurd (omega arith)
some_vertex n (e ∷ edges) ends h = let below = (All-head (IsBelow n) e edges ends).source in omega arith

-- what was read into Spool is the list that the steps behind stand on
pub spool_listed : (limits : TextLimits) (bytes : List ℕ) (spool : Option (List ℕ)) (spooled : Spooled) → AreLimits limits → IsSpooled limits bytes spool spooled →
    (spooled.vertices ≤ 268435456) × (spooled.edges ≤ 2147483648) × (0 < spooled.edges → 0 < spooled.vertices)
spool_listed limits bytes spool spooled h is =
    let within = list_within limits 1 bytes is.list h (omega arith) (omega arith) is.is in
    let edges = within.0.few in
    let vertices = within.0.vertices in (
      omega (arith, vertices, is.vertices),
      omega (arith, edges, is.edges),
      λ one.
          subst (λ n. 0 < n) (sym is.vertices) (some_vertex is.list.vertices is.list.edges within.0.ends (omega (arith, one, is.edges))),
    )

pub spool_kept : (limits : TextLimits) (bytes : List ℕ) (spool : Option (List ℕ)) (spooled : Spooled) → AreLimits limits → IsSpooled limits bytes spool spooled → IfSome spool (λ file. IsListed spooled.vertices spooled.edges (Some file))
spool_kept limits bytes spool spooled h is =
    let within = list_within limits 1 bytes is.list h (omega arith) (omega arith) is.is in
    if_some spool (λ file same. record {
      list = is.list.edges;
      kept = record { numbers = within.1; ends = subst (λ n. All (IsBelow n) is.list.edges) (sym is.vertices) within.0.ends; bytes = ap Some same };
      whole = sym is.edges;
    }) is.kept

module _ {D : Type 0} (h : D → FileKind → Option (List ℕ)) (t s : D → FileKind → ℕ) (f : D → ℕ) (a : D → Option (List ℕ)) where
  pub spool_leaves : (x y : D) → Moves h t s f a Spool Spool x y → LeavesRuns h t s f a x y
  spool_leaves x y m = record {
    attached = m.attached;
    values = m.contents Values (λ same. absurd (cc));
    sums = m.contents Sums (λ same. absurd (cc));
    taken = λ kind apart other. m.taken kind apart;
    values_stored = m.stored Values (λ same. absurd (cc));
    sums_stored = m.stored Sums (λ same. absurd (cc));
    later = m.later;
  }

  pub leaves_then : (x y z : D) → LeavesRuns h t s f a x y → LeavesRuns h t s f a y z → LeavesRuns h t s f a x z
  leaves_then x y z m k =
      let first = m.later in
      let second = k.later in
      record {
        attached = k.attached ∙ m.attached;
        values = k.values ∙ m.values;
        sums = k.sums ∙ m.sums;
        taken = λ kind apart other. k.taken kind apart other ∙ m.taken kind apart other;
        values_stored = k.values_stored ∙ m.values_stored;
        sums_stored = k.sums_stored ∙ m.sums_stored;
        later = omega arith;
      }

map_same : {X : Type 0} (a b : Option X) (x : X) → is_some a ≡ is_some b → option_map (λ _. x) a ≡ option_map (λ _. x) b
map_same None None x h = refl
map_same None (Some b) x h = absurd (let e : false ≡ true = h in cc)
map_same (Some a) None x h = absurd (let e : true ≡ false = h in cc)
map_same (Some a) (Some b) x h = refl

none_map : {X : Type 0} (a b : Option X) (x : X) → is_some a ≡ false → is_some b ≡ false → a ≡ option_map (λ _. x) b
none_map None None x h k = refl
none_map None (Some b) x h k = absurd (let e : true ≡ false = k in cc)
none_map (Some a) b x h k = absurd (let e : true ≡ false = h in cc)

-- all files are told, or none
abbrev pub TellsAll : (FileKind → Option (List ℕ)) → Type 0
TellsAll told = (j k : FileKind) → is_some (told j) ≡ is_some (told k)

-- a step on a file between two depots that tell the same
abbrev pub Steps : (FileKind → Option (List ℕ)) → (FileKind → Option (List ℕ)) → Type 0
Steps before after = (k : FileKind) → is_some (after k) ≡ is_some (before k)

pub steps_by : (before after : FileKind → Option (List ℕ)) → TellsAll before → TellsAll after → after Values ≡ before Values → Steps before after
steps_by before after h k same kind = k kind Values ∙ ap is_some same ∙ h Values kind

files_told : (files : GridFiles) (was mid is : FileKind → Option (List ℕ)) → Steps was mid → HasFiles files mid is → HasFiles files was is
files_told files was mid is step h = record {
  meta_file = h.meta_file ∙ map_same (mid Meta) (was Meta) files.meta (step Meta);
  primary_file = h.primary_file ∙ map_same (mid Primary) (was Primary) files.primary (step Primary);
  secondary_file = h.secondary_file ∙ map_same (mid Secondary) (was Secondary) files.secondary (step Secondary);
  info_file = h.info_file ∙ map_same (mid Info) (was Info) files.info (step Info);
  spool_file = h.spool_file ∙ map_same (mid Spool) (was Spool) [] (step Spool);
}

files_untold : (files : GridFiles) (was is : FileKind → Option (List ℕ)) → ((k : FileKind) → is_some (was k) ≡ false) → ((k : FileKind) → is_some (is k) ≡ false) → HasFiles files was is
files_untold files was is h k = record {
  meta_file = none_map (is Meta) (was Meta) files.meta (k Meta) (h Meta);
  primary_file = none_map (is Primary) (was Primary) files.primary (k Primary) (h Primary);
  secondary_file = none_map (is Secondary) (was Secondary) files.secondary (k Secondary) (h Secondary);
  info_file = none_map (is Info) (was Info) files.info (k Info) (h Info);
  spool_file = none_map (is Spool) (was Spool) [] (k Spool) (h Spool);
}

-- where the files are the grid's if they are told, they are so over every depot
pub files_by : (files : GridFiles) (was mid is : FileKind → Option (List ℕ)) (spool : Option (List ℕ)) → mid Spool ≡ spool → TellsAll mid → Steps was mid → Steps mid is → ((file : List ℕ) → spool ≡ Some file → HasFiles files mid is) →
    HasFiles files was is
files_by files was mid is None same tells first second h =
    let untold : (k : FileKind) → is_some (mid k) ≡ false = λ k. tells k Spool ∙ ap is_some same in
    files_untold files was is (λ k. sym (first k) ∙ untold k) (λ k. second k ∙ untold k)
files_by files was mid is (Some file) same tells first second h = files_told files was mid is first (h file refl)

same_told : (o was : Option (List ℕ)) (x : List ℕ) → is_some o ≡ is_some was → IfSome o (λ file. file ≡ x) → o ≡ option_map (λ _. x) was
same_told None None x same h = refl
same_told None (Some file) x same h = absurd (let e : false ≡ true = same in cc)
same_told (Some file) None x same h = absurd (let e : true ≡ false = same in cc)
same_told (Some file) (Some other) x same h = ap Some h

-- where an answer that may be missing is a fault, the fault is this one
missing_is : (o : Option ℕ) (e fault : BuildFault) → ok_or o e ≡ Err fault → fault ≡ e
missing_is None e fault h = cc
missing_is (Some p) e fault h = absurd (cc)

-- a choice refuses for the budget alone
pub refuses_small : (choice : PartsChoice) (n : ℕ) (fault : BuildFault) → parts_for choice n ≡ Err fault → (need : ℕ) × (given : ℕ) × (fault ≡ BudgetTooSmall need given)
refuses_small (Stated parts) n fault h = absurd (cc)
refuses_small (Fitted per_vertex budget) n fault h = (need_at n per_vertex 256, budget, missing_is (least_parts n per_vertex budget 16) _ fault h)

-- the list was read into Spool, and the choice refused it
pub unfit_built : (limits : TextLimits) (choice : PartsChoice) (old new : Option (List ℕ)) (before after : FileKind → Option (List ℕ)) (spooled : Spooled) (fault : BuildFault) → HasSpooled limits old new (after Spool) (Ok spooled) → parts_for choice spooled.vertices ≡ Err fault →
    SameBut Spool before after → Steps before after → HasBuilt limits choice old new before after (Err fault)
unfit_built limits choice old new before after spooled fault read refused same step =
    let small = refuses_small choice spooled.vertices fault refused in
    let is = read.reads.0 in
    let unfit : IsUnfit limits choice read.bytes before after (BudgetTooSmall small.0 small.1) = record {
      list = is.list;
      is = is.is;
      refused = subst (λ n. parts_for choice n ≡ Err (BudgetTooSmall small.0 small.1)) is.vertices (refused ∙ ap Err small.2);
      grid_files = same;
      spool_file = same_told (after Spool) (before Spool) (flat_map edge_bytes is.list.edges) (step Spool) is.kept;
    } in
    let built : HasBuilt limits choice old new before after (Err (BudgetTooSmall small.0 small.1)) = record { bytes = read.bytes; told = read.told; builds = (unfit, read.reads.1) } in
    subst (λ f. HasBuilt limits choice old new before after (Err f)) (sym small.2) built
