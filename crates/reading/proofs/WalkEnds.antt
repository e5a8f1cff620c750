-- What is known where a walk over an event file has ended.
use mathlib.Core.Path.{◌≡◌, refl, sym, ◌∙◌}
use mathlib.Core.Bool.{Bool, true, true≢false}
use mathlib.Core.List.{List, [], ◌∷◌}
use Prim.Native.Nat.{ℕ, ◌≤◌}
use lib.ListN.{length}
use Rattle.sdtd.specs.Limits.{most_types}
use Rattle.sdtd.specs.Schema.{WithinLimits}
use Rattle.schema.proofs.FirstTables.{Fits}
use Rattle.sdtd.specs.Answer.{Verdict, refused_at}
use Rattle.schema.specs.Value.{meaning, SetsFit}
use Rattle.schema.specs.Trimming.{LiveExactly, WaysExactly}
use Rattle.schema.specs.declared.value.Schema.{Schema}
use Rattle.schema.specs.declared.tables.LiveStates.{LiveStates}
use Rattle.events.specs.Events.{event_at}
use Rattle.events.proofs.EventPlaces.{event_stands}
use Rattle.reading.specs.declared.value.Reading.{Reading}
use Rattle.reading.specs.declared.event_file.EventFile.{EventFile}
use Rattle.std.specs.Prelude.{Option, Some, None}
use Rattle.reading.specs.declared.event_file.Trimmed.{Trimmed}
use Rattle.reading.specs.declared.event_file.WalkEnd.{WalkEnd}
use Rattle.reading.specs.Levels.{fresh}
use Rattle.reading.specs.Passage.{stops}
use Rattle.reading.specs.EventFile.{GivenType, number_of, place_of}
use Rattle.reading.specs.Heads.{HeadsMean}
use Rattle.reading.specs.Turns.{outside_number, Walks}
use Rattle.reading.proofs.StepSound.{Held, WholePasses, stopped_at, Going, TurnSound}
use Rattle.reading.proofs.LayLaws.{LaidSound, stopped_means, full_means, outside_passes, outside_means}

-- What the trimming of a schema inside the limits says.
pub record Started (v : Schema) (found : LiveStates) (heads : List ℕ) : Type 0 where
  pub within : WithinLimits (meaning v)
  pub fits : Fits v
  pub live : LiveExactly (meaning v) found.live
  pub ways : WaysExactly (meaning v) found.ways
  pub headed : HeadsMean v heads

pub started : {v : Schema} {found : LiveStates} {heads : List ℕ} → length v.accepting ≡ most_types → SetsFit v
    → WithinLimits (meaning v) × LiveExactly (meaning v) found.live × WaysExactly (meaning v) found.ways → HeadsMean v heads → Started v found heads
started accepting sets means headed =
    record {
      within = means.0;
      fits = record { accepting_long = accepting; accepting_below = sets };
      live = means.1;
      ways = means.2;
      headed = headed;
    }

-- the walk has ended with this reading, and this is told
abbrev pub ended : Option Trimmed → Reading → EventFile → WalkEnd
ended trimmed r told = record { told = told; reading = r; trimmed = trimmed }

abbrev pub trimmed : LiveStates → List ℕ → Option Trimmed
trimmed found heads = Some (record { found = found; heads = heads })

-- the schema is outside the limits
pub outside_walks : (v : Schema) (file was : List ℕ) {bounded : Bool} → ¬ WithinLimits (meaning v) → (told : EventFile)
    → told.number ≡ outside_number (event_at file 0) → told.place ≡ 0 → told.count ≡ 0 → Walks v file was was bounded (ended None fresh told)
outside_walks v file was out told number place count =
    record {
      answers = λ b. outside_means out file was told number place count;
      ended =
          λ b.
          record {
            passage = stops (refused_at (outside_number (event_at file 0)) 0) fresh;
            passes = outside_passes out file (event_at file 0) (event_stands file 0);
            number = number;
            place = place;
            reading = refl;
            trimmed = out;
          };
    }

module _ {v : Schema} {found : LiveStates} {heads : List ℕ} (s : Started v found heads) {file was is : List ℕ} {bounded : Bool} {w : Going} {n : ℕ}
    (k : LaidSound bounded (meaning v) file was w n is) where
  -- the walk has stopped, or no event is left
  pub stopped_walks : (vd : Verdict) (last : Reading) → WholePasses (meaning v) file (stopped_at k.calls vd last) → Held (meaning v) last
      → (told : EventFile) → told.number ≡ number_of vd → told.place ≡ place_of (length file) vd → told.count ≡ n
      → Walks v file was is bounded (ended (trimmed found heads) last told)
  stopped_walks vd last passes held told number place count =
      record {
        answers = λ b. stopped_means k b vd last passes told number place count;
        ended =
            λ b.
            record {
              passage = stopped_at k.calls vd last;
              passes = passes;
              number = number;
              place = place;
              reading = refl;
              trimmed =
                  record {
                    within = held.within;
                    below = held.below;
                    sets = s.fits.accepting_below;
                    live = s.live;
                    ways = s.ways;
                    heads = s.headed;
                  };
            };
      }

  -- no byte of the buffer is left for a type
  pub full_walks : {p : GivenType} {u : Going} → TurnSound (meaning v) file k.calls (p ∷ []) u → bounded ≡ true → length is ≤ n
      → (last : Reading) (told : EventFile) → told.number ≡ 20 → told.place ≡ p.place → told.count ≡ n
      → Walks v file was is bounded (ended (trimmed found heads) last told)
  full_walks turn b h last told number place count =
      record {
        answers = λ _. full_means k turn b h told number place count;
        ended = λ e. absurd (true≢false (sym b ∙ e));
      }
