-- The starred samples, and those of nil elements, hold, from the bytes of their files.
use mathlib.Core.Path.{◌≡◌, refl}
use native.Mathlib.Omega.{arith}
use Rattle.sdtd.proofs.Basics.{◌&◌}
use Rattle.sdtd.proofs.SampleSchemas.{exact_r, accepted_r, exact_last_but_one, accepted_last_but_one, exact_optional, accepted_optional, exact_racks, accepted_racks}
use Rattle.schema_file.specs.Samples.{file_r, file_choice, file_no_d, file_two_ways, file_two_types, file_last_but_one, file_optional, file_endless, file_racks, file_racks_written}
use Rattle.sdtd.specs.Answer.{fine, refused_at}
use Rattle.sdtd.proofs.Verdicts.{other_number, refused_not_fine}
use Rattle.schema_file.proofs.FileSamples.{files_state, starred_files_hold, racks_state, nil_files_hold}
use Rattle.typing.specs.Samples.{SchemaGets, HoldAll, starred, first, second, third, eighth, ninth}
use Rattle.typing.specs.Samples.{nil_elements, racks_taken, inside_nil, plainly_empty}
use Rattle.typing.proofs.SampleFiles.{plain_gets, events_get}
use Rattle.typing.proofs.SampleWitnesses.{choice_witness, ways_witness, nine_gets}

accepted_not_9 : ¬ (fine ≡ refused_at 9 0)
accepted_not_9 q = refused_not_fine q refl

eight_not_9 : ¬ (refused_at 8 0 ≡ refused_at 9 0)
eight_not_9 = other_number refl (λ z. omega arith)

unused_not_9 : ¬ (refused_at 24 24 ≡ refused_at 9 0)
unused_not_9 = other_number refl (λ z. omega arith)

gets_R : SchemaGets file_r
gets_R = plain_gets file_r accepted_not_9 starred_files_hold.0

gets_last_but_one : SchemaGets file_last_but_one
gets_last_but_one = plain_gets file_last_but_one accepted_not_9 starred_files_hold.1.1.1.1.1.0

gets_optional : SchemaGets file_optional
gets_optional = plain_gets file_optional accepted_not_9 starred_files_hold.1.1.1.1.1.1.0

pub samples_hold : HoldAll starred
samples_hold =
    (gets_R, events_get file_r files_state.first accepted_r exact_r first refl)
    & (gets_R, events_get file_r files_state.first accepted_r exact_r second refl)
    & (gets_R, events_get file_r files_state.first accepted_r exact_r third refl)
    & nine_gets file_choice refl files_state.fourth starred_files_hold.1.0 choice_witness
    & plain_gets file_no_d unused_not_9 starred_files_hold.1.1.0
    & nine_gets file_two_ways refl files_state.sixth starred_files_hold.1.1.1.0 ways_witness
    & plain_gets file_two_types accepted_not_9 starred_files_hold.1.1.1.1.0
    & (
      gets_last_but_one,
      events_get file_last_but_one files_state.eighth accepted_last_but_one exact_last_but_one eighth refl,
    )
    & (gets_optional, events_get file_optional files_state.ninth accepted_optional exact_optional ninth refl)
    & plain_gets file_endless eight_not_9 starred_files_hold.1.1.1.1.1.1.1.0
    & tt

gets_racks : SchemaGets file_racks
gets_racks = plain_gets file_racks accepted_not_9 nil_files_hold.0

gets_racks_written : SchemaGets file_racks_written
gets_racks_written = plain_gets file_racks_written accepted_not_9 nil_files_hold.1.0

pub nil_elements_get : HoldAll nil_elements
nil_elements_get =
    (gets_racks, events_get file_racks racks_state.by_states accepted_racks exact_racks racks_taken refl)
    & (
      gets_racks_written,
      events_get file_racks_written racks_state.by_expression accepted_racks exact_racks inside_nil refl,
    )
    & (gets_racks, events_get file_racks racks_state.by_states accepted_racks exact_racks plainly_empty refl)
    & tt
