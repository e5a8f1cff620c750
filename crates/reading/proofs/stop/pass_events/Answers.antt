-- `reading::stop::pass_events` meets its contract: the passage that the walk came to, and what the asks tell there.
use mathlib.Core.Path.{refl, subst}
use Rattle.sdtd.specs.Tree.{plain, nil}
use Rattle.sdtd.specs.Document.{opening, closing, finish}
use Rattle.std.specs.Prelude.{Option, MatchOption}
use Rattle.sdtd.specs.Schema.{WithinLimits}
use Rattle.schema.specs.Value.{meaning}
use Rattle.reading.specs.declared.event_file.Trimmed.{Trimmed}
use Rattle.reading.specs.Turns.{EndTables}
use Rattle.reading.proofs.Asking.{none_taken, told_none, told_all, stop_means}
use Rattle.reading.proofs.stop.pass_events.Goals as goal

pub returns-in_default : goal.returns-in_default
returns-in_default c =
    let ended = c.walk_file-end.ensures.ended refl in
    let out = subst (λ (t : Option Trimmed). MatchOption t (¬ WithinLimits (meaning c.args.schema.now)) (EndTables c.args.schema.now c.walk_file-end.result.reading)) c.in_default.is ended.trimmed in
    let none = none_taken (meaning c.args.schema.now) c.walk_file-end.result.reading out in
    stop_means ended _ refl refl refl (told_all _ (told_none _) (λ g t. absurd (none (opening plain g) t)))
    (told_all _ (told_none _) (λ g t. absurd (none (opening nil g) t)))
    (λ f. absurd f, λ t. absurd (none (closing t.0) t.1)) (λ f. absurd f, λ t. absurd (none finish t))

pub would_open-requires : goal.would_open-requires
would_open-requires c =
    subst (λ (t : Option Trimmed). MatchOption t (¬ WithinLimits (meaning c.args.schema.now)) (EndTables c.args.schema.now c.walk_file-end.result.reading)) c.in-Some.is (c.walk_file-end.ensures.ended refl).trimmed

pub would_close-requires : goal.would_close-requires
would_close-requires c =
    let held = subst (λ (t : Option Trimmed). MatchOption t (¬ WithinLimits (meaning c.args.schema.now)) (EndTables c.args.schema.now c.walk_file-end.result.reading)) c.in-Some.is (c.walk_file-end.ensures.ended refl).trimmed in
    (held.sets, held.within)

pub would_finish-requires : goal.would_finish-requires
would_finish-requires c =
    let held = subst (λ (t : Option Trimmed). MatchOption t (¬ WithinLimits (meaning c.args.schema.now)) (EndTables c.args.schema.now c.walk_file-end.result.reading)) c.in-Some.is (c.walk_file-end.ensures.ended refl).trimmed in
    held.within

pub returns-in-Some : goal.returns-in-Some
returns-in-Some c =
    stop_means (c.walk_file-end.ensures.ended refl) _ refl refl refl c.would_open.ensures.0 c.would_open.ensures.1 c.would_close.ensures
    c.would_finish.ensures
