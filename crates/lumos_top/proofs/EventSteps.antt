-- How events are done in turn.
use Rattle.std.proofs.Common.{◌≡◌, inl, inr, ℕ, suc, List, [], ◌∷◌, Option, Some, None, Result, Ok, Err, refl, sym, ap, subst, ◌∙◌}
use Rattle.flight_core.specs.Events.{State, after, step}
use Rattle.flight_core.specs.Replayed.{IsDoneOrFull, Replayed, refused, refused_by, stepped}
use Rattle.flight_core.specs.declared.event.Event.{Event}
use Rattle.flight_core.specs.declared.event.Illegal.{Illegal}
use Rattle.flight_core.specs.declared.event.StepFault.{StepFault}
use Rattle.flight_core.specs.declared.event.StepFault.TheVariants.{NoMemory, Illegal as NotLegal}
use Rattle.lumos_law.specs.Program.{Program}
use Rattle.partition.specs.Parts.{chunk_of}
use Rattle.lumos_top.specs.Replaying.{at_state, done_all, refused_in}
use Rattle.lumos_top.specs.Replays.{first_refused, refused_by as refused_at}

-- an event that was done was legal
pub was_legal : (r : Result (Unit {0}) StepFault) (reason : Option Illegal) → r ≡ Ok tt → ((why : Illegal) → reason ≡ Some why → r ≡ refused_by why) → reason ≡ None
was_legal r None is refuses = refl
was_legal r (Some why) is refuses = absurd (let h : Ok tt ≡ refused_by why = sym is ∙ refuses why refl in cc)

-- and one that wasn't done for a reason is refused for it
full_or : (r : Result (Unit {0}) StepFault) (why : Illegal) → r ≡ Err (NotLegal why) → IsDoneOrFull r → ⊥
full_or r why is (inl done) = let h : Err (NotLegal why) ≡ Ok tt = sym is ∙ done in cc
full_or r why is (inr full) = let h : Err (NotLegal why) ≡ Err NoMemory = sym is ∙ full in cc

pub was_refused : (r : Result (Unit {0}) StepFault) (reason : Option Illegal) (why : Illegal) → r ≡ Err (NotLegal why) → (reason ≡ None → IsDoneOrFull r) → ((w : Illegal) → reason ≡ Some w → r ≡ refused_by w) → reason ≡ Some why
was_refused r None why is legal refuses = absurd (full_or r why is (legal refl))
was_refused r (Some w) why is legal refuses = let h : Err (NotLegal w) ≡ Err (NotLegal why) = sym (refuses w refl) ∙ is in cc

-- The first events were done: the state after all of them, and the first that is refused, are those of the rest.
pub record HasReached {G V S : Type 0} (model : G → Program V S) (old now : Replayed G V S) (count : ℕ) (events rest : List Event) : Type 0 where
  pub state : State V S
  pub is : now ≡ at_state old state
  pub later : after (model old.program) old.edges old.cut.vertices (chunk_of old.cut) state rest ≡ after (model old.program) old.edges old.cut.vertices (chunk_of old.cut) old.state events
  pub first : first_refused (model old.program) old.edges old.cut.vertices (chunk_of old.cut) old.cut.parts count state rest ≡ refused_in (model old.program) old events

pub none_done : {G V S : Type 0} (model : G → Program V S) (old : Replayed G V S) (events : List Event) → HasReached model old old 0 events events
none_done model old events = record { state = old.state; is = refl; later = refl; first = refl }

-- one more event
pub one_done : {G V S : Type 0} (model : G → Program V S) (old now new : Replayed G V S) (count : ℕ) (events es : List Event) (e : Event) → HasReached model old now count events (e ∷ es) → refused (model now.program) now e ≡ None → new ≡ stepped (model now.program) now e →
    HasReached model old new (suc count) events es
one_done model old now new count events es e h legal done =
    let p = model old.program in
    let none : refused p (at_state old h.state) e ≡ None = subst (λ r. refused (model r.program) r e ≡ None) h.is legal in
    let next = first_refused p old.edges old.cut.vertices (chunk_of old.cut) old.cut.parts (suc count) (step p old.edges old.cut.vertices (chunk_of old.cut) h.state e) es in
    record {
      state = step p old.edges old.cut.vertices (chunk_of old.cut) h.state e;
      is = subst (λ r. new ≡ stepped (model r.program) r e) h.is done;
      later = h.later;
      first = sym (ap (λ why. refused_at count why next) none) ∙ h.first;
    }

-- the event that is refused
pub one_refused : {G V S : Type 0} (model : G → Program V S) (old now : Replayed G V S) (count : ℕ) (events es : List Event) (e : Event) (why : Illegal) → HasReached model old now count events (e ∷ es) → refused (model now.program) now e ≡ Some why →
    refused_in (model old.program) old events ≡ Some (record { event = suc count; why = why })
one_refused model old now count events es e why h illegal =
    let p = model old.program in
    let some : refused p (at_state old h.state) e ≡ Some why = subst (λ r. refused (model r.program) r e ≡ Some why) h.is illegal in
    let next = first_refused p old.edges old.cut.vertices (chunk_of old.cut) old.cut.parts (suc count) (step p old.edges old.cut.vertices (chunk_of old.cut) h.state e) es in
    sym h.first ∙ ap (λ reason. refused_at count reason next) some

pub all_done : {G V S : Type 0} (model : G → Program V S) (old now : Replayed G V S) (count : ℕ) (events rest : List Event) → rest ≡ [] → HasReached model old now count events rest → (refused_in (model old.program) old events ≡ None) × (now ≡ done_all (model old.program) old events)
all_done model old now count events rest none h =
    let g = subst (HasReached model old now count events) none h in (
      sym g.first,
      g.is ∙ ap (at_state old) g.later,
    )
