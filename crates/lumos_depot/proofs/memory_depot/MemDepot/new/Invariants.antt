use Rattle.std.proofs.Common.{◌≡◌, [], map, replicate, vec_len}
use Rattle.lumos_depot.proofs.memory_depot.MemDepot.new.Given as goal

abbrev pub invariant-loop-i : goal.invariant-loop-i
invariant-loop-i l = (vec_len l.files ≡ l.i) × (map (λ f. f.items) l.files.items ≡ replicate l.i [])
