use Rattle.std.proofs.Common.{◌≡◌, ℕ, ◌*◌, ◌+◌, ◌-◌, length, take, drop, sym, ap, ◌∙◌, arith}
use Rattle.std.proofs.lemmas.List.{take_all, length-set}
use Rattle.std.proofs.lemmas.Option.{same_Some}
use Rattle.std.specs.Prelude.{flat_map}
use Rattle.lumos_base.specs.Records.{edge_bytes, edge_from}
use Rattle.grid_build.proofs.EdgeBytes.{bytes_more, length-edges, read_more}
use Rattle.grid_build.proofs.bytes.get_edges.Goals as goal

pub loop-i-preserved : goal.loop-i-preserved
loop-i-preserved c = record {
  room = simp length-set c.loop-i.invariant.room;
  read = λ list numbers is.
      let long = ap length is ∙ length-edges list in
      let room = c.loop-i.invariant.room in
      let width : 12 * c.loop-i.i + 12 - 12 * c.loop-i.i ≡ 12 = omega arith in
      let got : c.in-Some.edge ≡ edge_from (take 12 (drop (12 * c.loop-i.i) c.args.bytes.now)) =
      same_Some _ _ (sym c.in-Some.is ∙ c.get.ensures.never_none) ∙ ap (λ (n : ℕ). edge_from (take n (drop (12 * c.loop-i.i) c.args.bytes.now))) width in
      read_more c.args.bytes.now c.loop-i.edges list c.loop-i.i c.in-Some.edge numbers is (omega arith) (omega arith) got (c.loop-i.invariant.read list numbers is);
  bytes =
      let room = c.loop-i.invariant.room in
      bytes_more c.args.bytes.now c.loop-i.edges c.loop-i.i c.in-Some.edge _ (omega arith) (omega arith) c.in-Some.ensures.writes_back c.loop-i.invariant.bytes;
}

pub returns-clause-value : goal.returns-clause-value
returns-clause-value c = λ list numbers is.
    let long = ap length is ∙ length-edges list in
    let room = c.loop-i.invariant.room in
    sym (take_all c.loop-i.i c.loop-i.edges (omega arith)) ∙ c.loop-i.invariant.read list numbers is ∙ take_all c.loop-i.i list (omega arith)

pub returns-clause-bytes : goal.returns-clause-bytes
returns-clause-bytes c =
    let room = c.loop-i.invariant.room in
    ap (flat_map edge_bytes) (sym (take_all c.loop-i.i c.loop-i.edges (omega arith))) ∙ c.loop-i.invariant.bytes ∙ take_all (12 * c.loop-i.i) c.args.bytes.now (omega arith)
