use Rattle.std.proofs.Common.{◌≡◌, ◌==◌, ◌&&◌, ◌+◌, ◌<◌, [], ◌∷◌, ◌++◌, get_or, take, cond, sym, ap, ap₂, ◌∙◌, arith, append-nil}
use Rattle.std.proofs.lemmas.List.{take_more}
use Rattle.lumos_base.specs.declared.records.Edge.{Edge}
use Rattle.flight_core.specs.Ranges.{is_between}
use Rattle.flight_core.proofs.RangeLemmas.{is_in_block, block_more}
use Rattle.flight_core.proofs.made.block_edges.Goals as goal
use Rattle.flight_core.proofs.made.block_edges.Goals.{else-leads-via-then-leads+else-is_err, else-leads-via-else-leads}
use Rattle.partition.specs.Blocks.{block}
use Rattle.partition.specs.Parts.{chunk_of, part_at}

-- read where there is no other edge
abbrev no_edge : Edge
no_edge = record { source = record { 0 = 0 }; target = record { 0 = 0 }; weight = record { 0 = 0 } }

pub loop-edge-preserved : goal.loop-edge-preserved
loop-edge-preserved c =
    let edges = c.args.edges.now in
    let size = chunk_of c.args.parts.now in
    let i = c.args.row in
    let j = c.args.column in
    let at = c.loop-edge.edge-index in
    let e = get_or edges at no_edge in
    let ends = c.requires.ends at no_edge c.loop-edge-test.true in
    let some : 0 < size = omega arith in
    let test : c.leads.result ≡ ((part_at size e.source.0 == i) && (part_at size e.target.0 == j)) =
    c.leads.ensures ∙ ap₂ (λ from into. is_between from into e) c.range_of-from.ensures.value c.range_of-into.ensures.value
    ∙ is_in_block c.args.parts.now.vertices size i j e some ends.source ends.target in
    let before = c.loop-edge.made.items in
    let grown : block (take (at + 1) edges) size i j ≡ before ++ cond c.leads.result (e ∷ []) [] =
    ap (λ l. block l size i j) (take_more edges at no_edge c.loop-edge-test.true) ∙ block_more (take at edges) e size i j
    ∙ ap₂ (λ l b. l ++ cond b (e ∷ []) []) (sym c.loop-edge.invariant) (sym test) in
    elim c.else-leads.branch [
      | else-leads-via-then-leads+else-is_err w ↦
          ap (λ v. v.items) w.made-is ∙ w.push.ensures.items ∙ ap (λ b. cond b (before ++ e ∷ []) before) w.if-is_err.ensures.negation
          ∙ sym (grown ∙ ap (λ b. before ++ cond b (e ∷ []) []) w.if-leads.true)
      | else-leads-via-else-leads w ↦
          ap (λ v. v.items) w.made-is ∙ sym (grown ∙ ap (λ b. before ++ cond b (e ∷ []) []) w.if-leads.false ∙ append-nil before)
    ]
