-- Records that were read from a file.
use Rattle.std.proofs.Common.{◌≡◌, ℕ, ◌*◌, List, Option, Some, Result, Err, subst, ◌∙◌}
use Rattle.std.specs.Prelude.{IfSome}
use Rattle.lumos_base.specs.declared.records.Edge.{Edge}
use Rattle.lumos_depot.specs.Files.{range_at}
use Rattle.lumos_depot.specs.declared.depot.FileKind.{FileKind}
use Rattle.lumos_depot.proofs.StepLemmas.{told_more}
use Rattle.value_files.specs.declared.fault.FileFault.{FileFault}
use Rattle.value_files.specs.declared.fault.FileFault.TheVariants.{Depot, Damaged}
use Rattle.value_files.specs.Records.{FaultIs}
use Rattle.column_stream.specs.Records.{edges_at, first_fault}
use Rattle.column_stream.specs.declared.records.Ends.{Ends}
use Rattle.column_stream.proofs.EdgeLemmas.{edges_of_range}

-- the fault that is answered is the one that there is
pub fault_same : (T : Type 0) (fault : FileFault) (there : Option FileFault) → there ≡ Some fault → FaultIs {T = T} (Err fault) there
fault_same T Depot there is = tt
fault_same T (Damaged file place found) there is = is

-- the bytes that were read are those of the file, and so are their edges
pub piece_edges : (told : Option (List ℕ)) (place n m : ℕ) (bytes : List ℕ) (edges : List Edge) → m ≡ 12 * n → IfSome told (λ held. bytes ≡ range_at place m held) → edges ≡ edges_at 0 n bytes → IfSome told (λ held. edges ≡ edges_at place n held)
piece_edges told place n m bytes edges long read are =
    told_more told (λ held. bytes ≡ range_at place m held) (λ held. edges ≡ edges_at place n held)
    (λ held is. are ∙ edges_of_range n place m held bytes is long) read

pub piece_fault : {T : Type 0} (told : Option (List ℕ)) (file : FileKind) (ends : Ends) (place n m : ℕ) (bytes : List ℕ) (result : Result T FileFault) → m ≡ 12 * n → IfSome told (λ held. bytes ≡ range_at place m held) → FaultIs result (first_fault file ends place (edges_at 0 n bytes)) → IfSome told (λ held. FaultIs result (first_fault file ends place (edges_at place n held)))
piece_fault told file ends place n m bytes result long read is =
    told_more told (λ held. bytes ≡ range_at place m held) (λ held. FaultIs result (first_fault file ends place (edges_at place n held)))
    (λ held at. subst (λ es. FaultIs result (first_fault file ends place es)) (edges_of_range n place m held bytes at long) is) read
