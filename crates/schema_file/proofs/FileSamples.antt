-- The starred samples that are schema files, and files with NIL, from their bytes.
use mathlib.Core.Path.{◌≡◌, refl, sym, ap, subst, ◌∙◌}
use mathlib.Core.Logic.{inl, inr}
use mathlib.Core.List.{List, [], ◌∷◌, ◌++◌}
use Prim.Native.Nat.{ℕ, ◌≤◌, ◌<◌}
use native.Mathlib.Omega.{arith}
use lib.Dec.{lit<}
use lib.ListN.{length, drop}
use Rattle.sdtd.specs.Limits.{least_witness}
use Rattle.sdtd.specs.Schema.{Schema}
use Rattle.sdtd.specs.Trim.{SomeRootBears, Used}
use Rattle.sdtd.specs.Reduced.{EveryTypeUsed}
use Rattle.sdtd.specs.Competition.{Competition, Witness}
use Rattle.sdtd.specs.Competition.{Accepted as IsAccepted}
use Rattle.sdtd.proofs.Basics.{◌&◌}
use Rattle.sdtd.proofs.Verdicts.{refused_not_fine}
use Rattle.sdtd.proofs.SampleSchemas.{accepted_r, accepted_no_d, accepted_two_types, accepted_last_but_one, accepted_optional, accepted_racks}
use Rattle.sdtd.proofs.SampleSchemas.{refused_choice, refused_two_ways, bears_none_endless}
use Rattle.sdtd.proofs.SampleUses.{every_used_r, every_used_choice, every_used_two_ways, every_used_two_types, every_used_last_but_one, every_used_optional}
use Rattle.sdtd.proofs.SampleUses.{every_used_racks, before_b2, b2_unused}
use Rattle.schema.specs.States.{insert, members_below}
use Rattle.command.specs.Command.{added_command, command_of}
use Rattle.sdtd.specs.Lists.{of_each}
use Rattle.expression.specs.Content.{after_part, content_from, content_at}
use Rattle.expression.specs.Answer.{set_of}
use Rattle.commands.specs.File.{Stated, nothing_stated, Commands, stopped, states, after, by_content, by_command, commands_from, commands, schema_by, StatesSchema}
use Rattle.commands.specs.TypePlaces.{places_from, place_of_type}
use Rattle.schema_file.specs.Answer.{AnswerIs, AnswerBy, BufferBy}
use Rattle.schema_file.specs.Samples.{FileSample, AllHold, starred_files, short_files, FilesState, file_r, file_choice, file_no_d, file_two_ways}
use Rattle.schema_file.specs.Samples.{file_two_types, file_last_but_one, file_optional, file_endless}
use Rattle.schema_file.specs.Samples.{file_racks, file_racks_written, RacksState, refused_nils, nil_files}
use Rattle.commands.proofs.Passing.{stopped_before}
use Rattle.commands.proofs.TypePlaces.{type_place_stated}
use Rattle.competition.proofs.Answers.{witness_competes}
use Rattle.schema_file.proofs.AfterDone.{UnusedAt, unused, competing, accepted, after_answer}
use Rattle.schema_file.proofs.Answered.{buffer_same}
use Rattle.sdtd.specs.Answer.{Verdict, fine, refused_at}

-- what is stated where the commands passed
abbrev stated_in : Commands → Stated
stated_in (stopped n p) = nothing_stated
stated_in (states g) = g

pub files_state : FilesState
unfolding commands commands_from by_command command_of after insert schema_by members_below
files_state =
    record {
      first = record { stated = stated_in (commands file_r.bytes); passes = refl; known = refl; schema = refl };
      fourth = record { stated = stated_in (commands file_choice.bytes); passes = refl; known = refl; schema = refl };
      fifth = record { stated = stated_in (commands file_no_d.bytes); passes = refl; known = refl; schema = refl };
      sixth = record { stated = stated_in (commands file_two_ways.bytes); passes = refl; known = refl; schema = refl };
      seventh = record { stated = stated_in (commands file_two_types.bytes); passes = refl; known = refl; schema = refl };
      eighth = record { stated = stated_in (commands file_last_but_one.bytes); passes = refl; known = refl; schema = refl };
      ninth = record { stated = stated_in (commands file_optional.bytes); passes = refl; known = refl; schema = refl };
      tenth = record { stated = stated_in (commands file_endless.bytes); passes = refl; known = refl; schema = refl };
    }

pub racks_state : RacksState
unfolding commands commands_from by_command by_content command_of added_command content_at content_from after_part after insert set_of of_each schema_by members_below
racks_state =
    record {
      by_states = record { stated = stated_in (commands file_racks.bytes); passes = refl; known = refl; schema = refl };
      by_expression = record { stated = stated_in (commands file_racks_written.bytes); passes = refl; known = refl; schema = refl };
    }

-- the answer after DONE, asked of the schema
module _ {file : List ℕ} {S : Schema} (x : StatesSchema file S) (was : List ℕ) (long : least_witness ≤ length was) where
  by_schema : {a : Verdict} → AnswerBy (states x.stated) a → AnswerIs file was a
  by_schema {a} y = inr (long, subst (λ (k : Commands). AnswerBy k a) (sym x.passes) y)

  by_buffer : {is : List ℕ} {a : Verdict} → BufferBy (states x.stated) was is a → BufferBy (commands file) was is a
  by_buffer {is} {a} y = subst (λ (k : Commands). BufferBy k was is a) (sym x.passes) y

  bears : SomeRootBears S → SomeRootBears (schema_by x.stated)
  bears b = subst SomeRootBears (sym x.schema) b

  none_bears : ¬ SomeRootBears S → ¬ SomeRootBears (schema_by x.stated)
  none_bears n b = n (subst SomeRootBears x.schema b)

  used : EveryTypeUsed S → EveryTypeUsed (schema_by x.stated)
  used u = subst EveryTypeUsed (sym x.schema) u

  accepted_file : IsAccepted S → EveryTypeUsed S → AnswerIs file was fine × BufferBy (commands file) was was fine
  accepted_file a u = (
    by_schema
        (after_answer x.stated fine
        (accepted x.known (bears a.bears) (used u) (subst (λ (R : Schema). ¬ Competition R) (sym x.schema) a.no_competition) refl)),
    (λ e. refused_not_fine e refl, λ n. refl),
  )

  -- the type k is the first that is not used
  unused_file : SomeRootBears S → (k : ℕ) → k < length S.blocks → ((b : ℕ) → b < k → Used S b) → ¬ Used S k → (p : ℕ)
      → place_of_type file k ≡ p → AnswerIs file was (refused_at 24 p) × BufferBy (commands file) was was (refused_at 24 p)
  unused_file b k l before not_used p e =
      let given : k < length (schema_by x.stated).blocks = subst (λ (R : Schema). k < length R.blocks) (sym x.schema) l in
      let f : UnusedAt x.stated (refused_at 24 p) =
      record {
        type = k;
        from = omega arith;
        below = omega (arith, given);
        unused = λ u. not_used (subst (λ (R : Schema). Used R k) x.schema u);
        before = λ j z h. subst (λ (R : Schema). Used R j) (sym x.schema) (before j h);
        answer = ap (λ (q : ℕ). refused_at 24 q) (sym e ∙ type_place_stated file k x.passes);
      } in
      (by_schema (after_answer x.stated (refused_at 24 p) (unused x.known (bears b) f)), buffer_same (commands file) was 24 p (omega arith))

  treeless_file : ¬ SomeRootBears S → AnswerIs file was (refused_at 8 0) × BufferBy (commands file) was was (refused_at 8 0)
  treeless_file n = (by_schema (inr (x.known, inl (none_bears n, refl))), buffer_same (commands file) was 8 0 (omega arith))

  competing_file : {bytes : List ℕ} → SomeRootBears S → EveryTypeUsed S → Witness S bytes
      → AnswerIs file was (refused_at 9 0) × BufferBy (commands file) was (bytes ++ drop (length bytes) was) (refused_at 9 0)
  competing_file {bytes} b u w = (
    by_schema
        (after_answer x.stated (refused_at 9 0)
        (competing x.known (bears b) (used u) (λ n. n (subst Competition (sym x.schema) (witness_competes w))) refl)),
    by_buffer (
      λ e.
          record { bytes = bytes; witness = subst (λ (R : Schema). Witness R bytes) (sym x.schema) w; filled = refl },
      λ n. absurd (n refl),
    ),
  )

-- the TYPE of b2 stands at the place 24
place_b2 : place_of_type file_no_d.bytes 2 ≡ 24
unfolding places_from command_of
place_b2 = refl

pub starred_files_hold : AllHold starred_files
starred_files_hold =
    (λ was l. accepted_file files_state.first was l accepted_r every_used_r)
    & (λ was l. competing_file files_state.fourth was l refused_choice.1 every_used_choice refused_choice.2)
    & (λ was l. unused_file files_state.fifth was l accepted_no_d.bears 2 (lit< tt) before_b2 b2_unused 24 place_b2)
    & (λ was l. competing_file files_state.sixth was l refused_two_ways.1 every_used_two_ways refused_two_ways.2)
    & (λ was l. accepted_file files_state.seventh was l accepted_two_types every_used_two_types)
    & (λ was l. accepted_file files_state.eighth was l accepted_last_but_one every_used_last_but_one)
    & (λ was l. accepted_file files_state.ninth was l accepted_optional every_used_optional)
    & (λ was l. treeless_file files_state.tenth was l bears_none_endless.1)
    & tt

-- the commands stop each file with the answer's number and place
abbrev StopsAs : List ℕ → Verdict → Type 0
StopsAs file fine = ⊥
StopsAs file (refused_at n p) = commands file ≡ stopped n p

abbrev AllStop : List FileSample → Type 0
AllStop [] = Unit
AllStop (s ∷ ss) = (StopsAs s.bytes s.answer × (s.witness ≡ [])) × AllStop ss

stops : (file : List ℕ) (a : Verdict) {witness : List ℕ} → StopsAs file a → witness ≡ [] → (was : List ℕ) → least_witness ≤ length was
    → AnswerIs file was a × BufferBy (commands file) was (witness ++ drop (length witness) was) a
stops file fine k e was l = absurd k
stops file (refused_at n p) k e was l =
    rw e (
      inr (l, subst (λ (c : Commands). AnswerBy c (refused_at n p)) (sym k) refl),
      buffer_same (commands file) was n p (λ z. stopped_before file k (omega arith) (omega arith)),
    )

all_stop : (ss : List FileSample) → AllStop ss → AllHold ss
all_stop [] k = tt
all_stop (s ∷ ss) k = (stops s.bytes s.answer k.0.0 k.0.1, all_stop ss k.1)

pub short_files_hold : AllHold short_files
unfolding commands commands_from by_command command_of after
short_files_hold = all_stop short_files ((refl, refl) & (refl, refl) & tt)

pub nil_files_hold : AllHold nil_files
unfolding commands commands_from by_command by_content command_of added_command content_at content_from of_each after
nil_files_hold =
    (λ was l. accepted_file racks_state.by_states was l accepted_racks every_used_racks)
    & (λ was l. accepted_file racks_state.by_expression was l accepted_racks every_used_racks)
    & all_stop refused_nils ((refl, refl) & (refl, refl) & (refl, refl) & (refl, refl) & (refl, refl) & (refl, refl) & tt)
