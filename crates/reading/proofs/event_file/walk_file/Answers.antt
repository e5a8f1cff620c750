-- `reading::event_file::walk_file` meets its contract: each turn of the loop is sound, and lays its type or none.
use mathlib.Core.Path.{refl, ap, sym, ◌∙◌}
use borrow.Author.Rules.{rules}
use Rattle.sdtd.specs.Answer.{typed, taken}
use mathlib.Core.List.{List}
use Prim.Native.Nat.{ℕ}
use lib.ListN.{length}
use Rattle.events.specs.Events.{event_at}
use Rattle.reading.specs.Turns.{answer_of, end_number}
use native.Mathlib.Omega.{arith}
use Rattle.reading.proofs.LevelLaws.{tags_of}
use Rattle.reading.proofs.StepLaws.{stands_steady}
use Rattle.reading.proofs.TurnLaws.{turn_taken, turn_refused, turn_held, turns_end}
use Rattle.reading.proofs.LayLaws.{first_laid, lay_none, lay_past, lay_type}
use Rattle.reading.proofs.WalkEnds.{started, outside_walks, stopped_walks, full_walks}
use Rattle.reading.proofs.event_file.walk_file.Goals as goal

pub returns-in_default : goal.returns-in_default
returns-in_default c =
    rw (c.ended.ensures, c.fresh-reading.ensures) (outside_walks _ _ _ c.in_default.ensures.means.0 _ c.outside_number.ensures refl refl)

pub loop-event-init : goal.loop-event-init
loop-event-init c =
    let walker = c.new-walker.ensures in
    (rw walker.0 refl, sym walker.1, rw (walker.1, c.fresh-reading.ensures) (first_laid c.in-Some.ensures.means.0.0 _ _))

pub turn-requires : goal.turn-requires
turn-requires c = stands_steady c.args.schema.now c.loop-event.invariant.2.sound.reading.within

pub returns-in-Err : goal.returns-in-Err
returns-in-Err c =
    let found = c.in-Some.ensures in
    let s = started (search rules) found.sets found.means.0 c.heads-heads.ensures in
    let i = c.loop-event.invariant in
    let here = c.in-Some-step.ensures.event in
    let passes = turn_refused c.turn.ensures s.fits (record { rows = found.means.1.rows found.means.0.0; heads = c.heads-heads.ensures; tags = refl }) i.2.sound i.0 here _ (ap answer_of c.in-Err.is) in
    rw c.ended-in-Err.ensures
    (stopped_walks s i.2 _ _ passes (turn_held c.turn.ensures s.fits (record { rows = found.means.1.rows found.means.0.0; heads = c.heads-heads.ensures; tags = refl }) i.2.sound i.0 here) _ c.number.ensures i.1 refl)

pub returns-then-bounded : goal.returns-then-bounded
returns-then-bounded c =
    let found = c.in-Some.ensures in
    let s = started (search rules) found.sets found.means.0 c.heads-heads.ensures in
    let i = c.loop-event.invariant in
    let e = c.in-Some-step.ensures in
    let turned = turn_taken c.turn.ensures s.fits (record { rows = found.means.1.rows found.means.0.0; heads = c.heads-heads.ensures; tags = refl }) i.2.sound i.0 e.event (typed c.in-Ok-Some.a.0) (rw (c.in-Ok-Some.is, c.in-Ok-Some.field-0-is) refl) tt e.place in
    rw c.ended-then-bounded.ensures
    (full_walks s i.2 turned c.if-bounded.true c.if-count-out.false _ _ c.number-then-bounded.ensures i.1 refl)

pub loop-event-preserved-then-count-out : goal.loop-event-preserved-then-count-out
loop-event-preserved-then-count-out c =
    let found = c.in-Some.ensures in
    let s = started (search rules) found.sets found.means.0 c.heads-heads.ensures in
    let i = c.loop-event.invariant in
    let e = c.in-Some-step.ensures in
    let turned = turn_taken c.turn.ensures s.fits (record { rows = found.means.1.rows found.means.0.0; heads = c.heads-heads.ensures; tags = refl }) i.2.sound i.0 e.event (typed c.in-Ok-Some.a.0) (rw (c.in-Ok-Some.is, c.in-Ok-Some.field-0-is) refl) tt e.place in
    (rw e.events i.0, refl, lay_type i.2 turned c.if-count-out.true)

pub loop-event-preserved-else-bounded : goal.loop-event-preserved-else-bounded
loop-event-preserved-else-bounded c =
    let found = c.in-Some.ensures in
    let s = started (search rules) found.sets found.means.0 c.heads-heads.ensures in
    let i = c.loop-event.invariant in
    let e = c.in-Some-step.ensures in
    let turned = turn_taken c.turn.ensures s.fits (record { rows = found.means.1.rows found.means.0.0; heads = c.heads-heads.ensures; tags = refl }) i.2.sound i.0 e.event (typed c.in-Ok-Some.a.0) (rw (c.in-Ok-Some.is, c.in-Ok-Some.field-0-is) refl) tt e.place in
    (rw e.events i.0, refl, lay_past i.2 turned c.if-bounded.false)

pub loop-event-preserved : goal.loop-event-preserved
loop-event-preserved c =
    let found = c.in-Some.ensures in
    let s = started (search rules) found.sets found.means.0 c.heads-heads.ensures in
    let i = c.loop-event.invariant in
    let e = c.in-Some-step.ensures in
    let turned = turn_taken c.turn.ensures s.fits (record { rows = found.means.1.rows found.means.0.0; heads = c.heads-heads.ensures; tags = refl }) i.2.sound i.0 e.event taken (rw (c.in-Ok-None.is, c.in-Ok-None.field-0-is) refl) tt e.place in
    (rw e.events i.0, refl, lay_none i.2 turned)

pub returns : goal.returns
returns c =
    let found = c.in-Some.ensures in
    let s = started (search rules) found.sets found.means.0 c.heads-heads.ensures in
    let i = c.loop-event.invariant in
    let none = c.in_default-step.ensures.event ∙ ap (λ (f : List ℕ). event_at f c.loop-event.walker.at) i.0 in
    let (v, number, place, passes) = turns_end i.2.sound none in
    let at = ap (end_number c.loop-event.reading.finished (length c.args.events.now)) i.1 in
    rw c.ended-2.ensures
    (stopped_walks s i.2 v _ passes i.2.sound.reading _ (c.end_number-number.ensures ∙ at ∙ number) (i.1 ∙ place) refl)

pub invariant_of-tables : goal.invariant_of-tables
invariant_of-tables c =
    let within = c.in-Some.ensures.means.0.0 in
    record { few = omega (arith, tags_of c.args.schema.now, within.tags_most) }
