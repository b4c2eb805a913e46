use Rattle.std.proofs.Common.{◌*◌, length, sym, ◌∙◌, arith}
use Rattle.column_stream.proofs.EdgeLemmas.{edge_at_front, read_more}
use Rattle.column_stream.proofs.FaultLemmas.{record_fault, record_sound}
use Rattle.column_stream.proofs.records.get_records.Goals as goal

pub returns-in-Some-clause-fault : goal.returns-in-Some-clause-fault
returns-in-Some-clause-fault c =
    sym (record_fault c.args.file c.args.ends c.args.place (length c.args.out.now) c.loop-i.i c.args.bytes.now c.edge_of-edge.result c.in-Some.fault c.loop-i-test.true c.edge_of-edge.ensures c.loop-i.invariant.sound
    (sym c.fault_at.ensures ∙ c.in-Some.is))

pub loop-i-preserved : goal.loop-i-preserved
loop-i-preserved c =
    let i = c.loop-i.i in
    let bytes = c.args.bytes.now in
    record {
      read = read_more bytes c.loop-i.out i c.edge_of-edge.result (omega (arith, c.loop-i.auto.out))
          (c.edge_of-edge.ensures ∙ edge_at_front _ (12 * i) bytes (omega arith)) c.loop-i.invariant.read;
      sound = record_sound c.args.file c.args.ends c.args.place i bytes c.edge_of-edge.result c.edge_of-edge.ensures c.loop-i.invariant.sound (sym c.fault_at.ensures ∙ c.in_default.is);
    }
