-- "Samples from the boot wall": the starred samples that are schema files, from their bytes, and one statement over the group.
-- Beside them files with NIL.
use Rattle.std.specs.Prelude.{List, [], ◌∷◌, ◌++◌, ℕ, ◌≤◌, length, drop}
use Rattle.sdtd.specs.Limits.{least_witness}
use Rattle.sdtd.specs.Samples.{schema_r, schema_choice, schema_no_d, schema_two_ways, schema_two_types, schema_last_but_one, schema_optional}
use Rattle.sdtd.specs.Samples.{schema_endless, schema_racks, witness_choice, witness_two_ways}
use Rattle.commands.specs.File.{commands, StatesSchema}
use Rattle.schema_file.specs.Answer.{AnswerIs, BufferBy}
use Rattle.sdtd.specs.Answer.{Verdict, fine, refused_at}

-- a file, the answer that it gets, and where that is 9 a witness, else no byte
pub record FileSample : Type 0 where
  pub bytes : List ℕ
  pub answer : Verdict
  pub witness : List ℕ

-- with any buffer that is long enough the answer is right, and so is the buffer that begins with the witness and has its other bytes as they
-- were
abbrev pub HoldsFor : FileSample → Type 0
HoldsFor s =
    (was : List ℕ) → least_witness ≤ length was
    → AnswerIs s.bytes was s.answer
    × BufferBy (commands s.bytes) was (s.witness ++ drop (length s.witness) was) s.answer

-- each sample of the list holds
abbrev pub AllHold : List FileSample → Type 0
AllHold [] = Unit
AllHold (s ∷ ss) = HoldsFor s × AllHold ss

abbrev gets : List ℕ → Verdict → FileSample
gets bytes answer = record { bytes = bytes; answer = answer; witness = [] }

abbrev gets_witness : List ℕ → List ℕ → FileSample
gets_witness bytes witness = record { bytes = bytes; answer = refused_at 9 0; witness = witness }

-- the files' parts: a leaf's block, the root and the end
abbrev leaf : ℕ → List ℕ → List ℕ
leaf g rest = 0x11 ∷ g ∷ 1 ∷ 0x12 ∷ 0 ∷ rest

abbrev done : List ℕ
done = 0x14 ∷ 0 ∷ 0x1f ∷ []

-- "R above", with its bytes
abbrev pub file_r : FileSample
file_r =
    gets
    (0x10 ∷ 0x03 ∷ 0x11 ∷ 0x00 ∷ 0x02 ∷ 0x12 ∷ 0x01 ∷ 0x13 ∷ 0x00 ∷ 0x01 ∷ 0x00 ∷ 0x13 ∷ 0x00 ∷ 0x02 ∷ 0x01 ∷ 0x13 ∷ 0x01 ∷ 0x03 ∷ 0x01
    ∷ 0x11 ∷ 0x01 ∷ 0x01 ∷ 0x12 ∷ 0x00 ∷ 0x11 ∷ 0x02 ∷ 0x01 ∷ 0x12 ∷ 0x00 ∷ 0x11 ∷ 0x01 ∷ 0x01 ∷ 0x12 ∷ 0x00 ∷ 0x14 ∷ 0x00 ∷ 0x1f ∷ []
    )
    fine

-- the schema of the published definition's example, whose last block is d's
abbrev choice_with : List ℕ → List ℕ
choice_with d =
    0x10 ∷ 4
    ∷ 0x11 ∷ 0 ∷ 2 ∷ 0x12 ∷ 1 ∷ 0x13 ∷ 0 ∷ 1 ∷ 1 ∷ 0x13 ∷ 0 ∷ 2 ∷ 1
    ∷ 0x11 ∷ 1 ∷ 2 ∷ 0x12 ∷ 1 ∷ 0x13 ∷ 0 ∷ 3 ∷ 1
    ∷ 0x11 ∷ 1 ∷ 2 ∷ 0x12 ∷ 1 ∷ 0x13 ∷ 0 ∷ 4 ∷ 1
    ∷ leaf 2 d

-- the fourth: 9
abbrev pub file_choice : FileSample
file_choice = gets_witness (choice_with (leaf 3 done)) witness_choice

-- the fifth, "d without an accepting state": "24, place that of the first such TYPE (the fifth sample among them)", which is that of b2
abbrev pub file_no_d : FileSample
file_no_d = gets (choice_with (0x11 ∷ 3 ∷ 1 ∷ done)) (refused_at 24 24)

-- the sixth: 9
abbrev pub file_two_ways : FileSample
file_two_ways =
    gets_witness
    (0x10 ∷ 3
    ∷ 0x11 ∷ 0 ∷ 4 ∷ 0x12 ∷ 3 ∷ 0x13 ∷ 0 ∷ 1 ∷ 1 ∷ 0x13 ∷ 0 ∷ 1 ∷ 2 ∷ 0x13 ∷ 1 ∷ 2 ∷ 3 ∷ 0x13 ∷ 2 ∷ 3 ∷ 3
    ∷ leaf 1 (leaf 2 (leaf 2 done))
    )
    witness_two_ways

-- the seventh: "accepted."
abbrev pub file_two_types : FileSample
file_two_types =
    gets
    (0x10 ∷ 3
    ∷ 0x11 ∷ 0 ∷ 3 ∷ 0x12 ∷ 2 ∷ 0x13 ∷ 0 ∷ 1 ∷ 1 ∷ 0x13 ∷ 1 ∷ 2 ∷ 2 ∷ 0x13 ∷ 1 ∷ 3 ∷ 2
    ∷ leaf 1 (leaf 1 (leaf 2 done))
    )
    fine

-- the eighth: "accepted"
abbrev pub file_last_but_one : FileSample
file_last_but_one =
    gets
    (0x10 ∷ 3
    ∷ 0x11 ∷ 0 ∷ 3 ∷ 0x12 ∷ 2 ∷ 0x13 ∷ 0 ∷ 1 ∷ 0 ∷ 0x13 ∷ 0 ∷ 2 ∷ 0 ∷ 0x13 ∷ 0 ∷ 1 ∷ 1 ∷ 0x13 ∷ 1 ∷ 1 ∷ 2 ∷ 0x13 ∷ 1 ∷ 2 ∷ 2
    ∷ leaf 1 (leaf 2 done)
    )
    fine

-- the ninth
abbrev pub file_optional : FileSample
file_optional =
    gets
    (0x10 ∷ 4
    ∷ 0x11 ∷ 0 ∷ 5 ∷ 0x12 ∷ 4 ∷ 0x13 ∷ 0 ∷ 1 ∷ 1 ∷ 0x13 ∷ 0 ∷ 2 ∷ 2 ∷ 0x13 ∷ 1 ∷ 2 ∷ 2 ∷ 0x13 ∷ 2 ∷ 2 ∷ 2 ∷ 0x13 ∷ 2 ∷ 3 ∷ 2
    ∷ 0x13 ∷ 2 ∷ 4 ∷ 3 ∷ 0x13 ∷ 3 ∷ 3 ∷ 4
    ∷ leaf 1 (leaf 2 (leaf 3 (leaf 1 done)))
    )
    fine

-- the tenth: "8."
abbrev pub file_endless : FileSample
file_endless = gets (0x10 ∷ 1 ∷ 0x11 ∷ 0 ∷ 2 ∷ 0x12 ∷ 1 ∷ 0x13 ∷ 0 ∷ 0 ∷ 1 ∷ done) (refused_at 8 0)

-- The starred samples that are schema files: R, and the fourth to the tenth.
abbrev pub starred_files : List FileSample
starred_files = file_r ∷ file_choice ∷ file_no_d ∷ file_two_ways ∷ file_two_types ∷ file_last_but_one ∷ file_optional ∷ file_endless ∷ []

-- two short files, not starred: `10 20` and `10 21`
abbrev pub short_files : List FileSample
short_files = gets (0x10 ∷ 0x20 ∷ []) (refused_at 2 2) ∷ gets (0x10 ∷ 0x21 ∷ []) (refused_at 4 0) ∷ []

-- a wall of racks of one boot each, where a rack may be empty on purpose: the rack's block is in between
abbrev racks_with : List ℕ → List ℕ
racks_with rack = 0x10 ∷ 3 ∷ 0x11 ∷ 0 ∷ 1 ∷ 0x12 ∷ 0 ∷ 0x13 ∷ 0 ∷ 1 ∷ 0 ∷ (rack ++ leaf 2 done)

-- by states, NIL between FINAL and STEP; by an expression, NIL after its 3F
abbrev pub file_racks : FileSample
file_racks = gets (racks_with (0x11 ∷ 1 ∷ 2 ∷ 0x12 ∷ 1 ∷ 0x15 ∷ 0x13 ∷ 0 ∷ 2 ∷ 1 ∷ [])) fine

abbrev pub file_racks_written : FileSample
file_racks_written = gets (racks_with (0x11 ∷ 1 ∷ 0 ∷ 0x32 ∷ 2 ∷ 0x3f ∷ 0x15 ∷ [])) fine

-- they state one schema
pub record RacksState : Type 0 where
  pub by_states : StatesSchema file_racks.bytes schema_racks
  pub by_expression : StatesSchema file_racks_written.bytes schema_racks

-- NIL where it cannot stand: before the first TYPE, after a ROOT, before the 3F; a second one in each kind of block; and FINAL after the NIL
-- behind a 3F
abbrev pub refused_nils : List FileSample
refused_nils =
    gets (0x10 ∷ 1 ∷ 0x15 ∷ []) (refused_at 3 2)
    ∷ gets (0x10 ∷ 1 ∷ 0x11 ∷ 0 ∷ 1 ∷ 0x14 ∷ 0 ∷ 0x15 ∷ []) (refused_at 3 7)
    ∷ gets (0x10 ∷ 1 ∷ 0x11 ∷ 0 ∷ 0 ∷ 0x15 ∷ 0x3f ∷ []) (refused_at 3 5)
    ∷ gets (0x10 ∷ 1 ∷ 0x11 ∷ 0 ∷ 1 ∷ 0x15 ∷ 0x12 ∷ 0 ∷ 0x15 ∷ []) (refused_at 6 8)
    ∷ gets (0x10 ∷ 1 ∷ 0x11 ∷ 0 ∷ 0 ∷ 0x3f ∷ 0x15 ∷ 0x15 ∷ []) (refused_at 6 7)
    ∷ gets (0x10 ∷ 1 ∷ 0x11 ∷ 0 ∷ 0 ∷ 0x3f ∷ 0x15 ∷ 0x12 ∷ 0 ∷ []) (refused_at 3 7) ∷ []

abbrev pub nil_files : List FileSample
nil_files = file_racks ∷ file_racks_written ∷ refused_nils

-- the starred files state the schemas of the samples
pub record FilesState : Type 0 where
  pub first : StatesSchema file_r.bytes schema_r
  pub fourth : StatesSchema file_choice.bytes schema_choice
  pub fifth : StatesSchema file_no_d.bytes schema_no_d
  pub sixth : StatesSchema file_two_ways.bytes schema_two_ways
  pub seventh : StatesSchema file_two_types.bytes schema_two_types
  pub eighth : StatesSchema file_last_but_one.bytes schema_last_but_one
  pub ninth : StatesSchema file_optional.bytes schema_optional
  pub tenth : StatesSchema file_endless.bytes schema_endless
