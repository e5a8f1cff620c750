-- What a schema file's call gives for a sample, where the sample's answer is right; and what an event file's call gives under a sample's
-- schema.
use mathlib.Core.Path.{◌≡◌, sym, subst, ◌∙◌}
use mathlib.Core.List.{List, ◌++◌}
use Prim.Native.Nat.{ℕ, ◌≤◌}
use lib.ListN.{length, drop}
use Rattle.sdtd.specs.Schema.{Schema as Meaning}
use Rattle.sdtd.specs.Competition.{Accepted as IsAccepted}
use Rattle.sdtd.proofs.Decide.{LiveTable, LiveExact}
use Rattle.schema.specs.Value.{meaning}
use Rattle.commands.specs.File.{StatesSchema}
use Rattle.schema_file.specs.Samples.{FileSample, HoldsFor}
use Rattle.sdtd.specs.Answer.{refused_at}
use Rattle.schema_file.proofs.FileAnswers.{file_unique, accepted_file}
use Rattle.reading.specs.EventFile.{EventsMean}
use Rattle.reading.specs.declared.event_file.EventFile.{EventFile}
use Rattle.reading.proofs.EventModel.{EventsGot, got_of, events_got}
use Rattle.typing.specs.Samples.{EventSample, SchemaGets, EventsGet}

-- a sample whose answer is not 9
pub plain_gets : (s : FileSample) → ¬ (s.answer ≡ refused_at 9 0) → HoldsFor s → SchemaGets s
plain_gets s d h was is f l m =
    let same = file_unique s.bytes was m.answer (h was l).0 in
    (same, m.buffer.1 (λ e. d (sym same ∙ e)) ∙ sym ((h was l).1.1 d))

-- a file states one schema
states_one : {file : List ℕ} {S T : Meaning} → StatesSchema file S → StatesSchema file T → S ≡ T
states_one x y = cc

-- the event file's call answers this, and leaves this in the buffer
abbrev Gets : List ℕ → List ℕ → EventFile → EventsGot → Type 0
Gets lent after r g =
    (r ≡ record { number = g.number; place = g.place; count = length g.types }) × (after ≡ g.types ++ drop (length g.types) lent)

-- what a sample states that its event file gets
abbrev pub got_in : EventSample → EventsGot
got_in s = record { number = s.number; place = s.place; types = s.types }

-- an event file under an accepted schema, where it gets from the model what the sample states
pub events_get : (file : FileSample) {S : Meaning} {L : LiveTable} → StatesSchema file.bytes S → IsAccepted S
    → LiveExact S L → (s : EventSample) → got_of S L s.bytes ≡ got_in s → EventsGet file s
events_get file {S} x a exact s q was is v l m lent after r h e =
    let same : meaning v ≡ S = states_one (accepted_file m).states x in
    let enough = subst (λ (g : EventsGot). length g.types ≤ length lent) (sym q) h in
    let got = events_got a exact (subst (λ (R : Meaning). EventsMean R s.bytes lent after r) same e) enough in
    subst (λ (g : EventsGot). Gets lent after r g) q got
