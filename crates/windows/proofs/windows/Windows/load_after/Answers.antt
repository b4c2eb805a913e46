use Rattle.std.proofs.Common.{◌≡◌, ◌++◌, length, take, drop, refl, ap, ◌∙◌, arith}
use Rattle.std.proofs.lemmas.List.{take_at}
use Rattle.windows.specs.Windows.{shown_of}
use Rattle.windows.proofs.ResultLemmas.{on_ok_more}
use Rattle.windows.proofs.StayLemmas.{second_shown, seen_by, view_stays}
use Rattle.windows.proofs.windows.Windows.load_after.Goals as goal

pub returns-clause-shown : goal.returns-clause-shown
returns-clause-shown g c state keeps =
    let fields = c.self.inside in
    let new = c.load_part.new.out in
    let size : length new ≡ fields.second.len = omega (arith, c.load_part.auto.out, c.deref_mut.ensures.len) in
    let whole : take fields.second.len (new ++ drop (length new) fields.second.items) ≡ new = take_at new _ _ size in
    second_shown g.G.Value.Fixed.value_of g.G.Value.Fixed.WIDTH g.G.Sum.Fixed.value_of g.G.Sum.Fixed.WIDTH _ _ (g.D.Depot.holds c.args.depot.now) c.self.view_is c.load_part.result c.args.t c.args.part state _ refl refl
    (λ xs kept. on_ok_more c.load_part.result (shown_of fields.parts fields.pinned c.args.part c.args.t new fields.even.items fields.odd.items ≡ xs) _
    (λ is. ap (λ l. shown_of fields.parts fields.pinned c.args.part c.args.t l fields.even.items fields.odd.items) whole ∙ is)
    (c.load_part.ensures.values fields.even.items fields.odd.items xs kept)) keeps

pub returns-clause-stays : goal.returns-clause-stays
returns-clause-stays g c =
    view_stays g.G.Value.Fixed.value_of g.G.Value.Fixed.WIDTH g.G.Sum.Fixed.value_of g.G.Sum.Fixed.WIDTH _ _ _ (g.D.Depot.holds c.args.depot.now) (g.D.Depot.holds c.load_part.new.depot) c.self.view_is
    (record { cut = refl; budget = refl; pinned = refl; value_room = refl; sum_room = refl }) refl refl c.load_part.ensures.reads.contents

pub returns-clause-intact : goal.returns-clause-intact
returns-clause-intact g c state keeps =
    let here = seen_by g.G.Value.Fixed.value_of g.G.Value.Fixed.WIDTH g.G.Sum.Fixed.value_of g.G.Sum.Fixed.WIDTH _ _ (g.D.Depot.holds c.args.depot.now) c.self.view_is c.load_part.result c.args.t c.args.part state keeps in
    c.load_part.ensures.intact c.self.inside.even.items c.self.inside.odd.items here.items here.kept
