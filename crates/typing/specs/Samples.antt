-- "Samples from the boot wall": the starred samples from the bytes of their files, with numbers, places, counts, types and
-- witnesses, and one statement over the group; and the same of nil elements. Where a sample names elements a, b, c their tags are 1, 2, 3; the
-- root's is 0.
use Rattle.std.specs.Prelude.{◌≡◌, List, [], ◌∷◌, ◌++◌, ℕ, ◌≤◌, length, drop, Result, Ok}
use Rattle.sdtd.specs.Limits.{least_witness}
use Rattle.sdtd.specs.Answer.{verdict_of}
use Rattle.sdtd.specs.declared.Refusal.{Refusal}
use Rattle.schema.specs.Value.{meaning}
use Rattle.schema_file.specs.Answer.{FileMeans}
use Rattle.schema_file.specs.Samples.{FileSample, file_r, file_choice, file_no_d, file_two_ways, file_two_types, file_last_but_one, file_optional}
use Rattle.schema_file.specs.Samples.{file_endless, file_racks, file_racks_written}
use Rattle.schema.specs.declared.value.Schema.{Schema}
use Rattle.reading.specs.EventFile.{type_bytes, EventsMean}
use Rattle.reading.specs.declared.event_file.EventFile.{EventFile}

-- an event file, and the number, the place and the types of the openings taken that it gets
pub record EventSample : Type 0 where
  pub bytes : List ℕ
  pub number : ℕ
  pub place : ℕ
  pub types : List ℕ

-- a schema file alone, or with an event file
pub data Sample : Type 0 where
  schema_file : FileSample → Sample
  event_file : FileSample → EventSample → Sample

-- Whatever the schema file's call gives with a buffer that is long enough: the answer is the sample's, and the buffer begins with the sample's
-- witness and has its other bytes as they were.
abbrev pub SchemaGets : FileSample → Type 0
SchemaGets s =
    (was is : List ℕ) (r : Result Schema Refusal) → least_witness ≤ length was → FileMeans s.bytes was is r
    → (verdict_of r ≡ s.answer) × (is ≡ s.witness ++ drop (length s.witness) was)

-- Whatever the event file's call gives under the schema value of the schema file's call, with a byte of the buffer for each type: number,
-- place and count are the sample's, and the buffer begins with the sample's types and has its other bytes as they were.
abbrev pub EventsGet : FileSample → EventSample → Type 0
EventsGet file s =
    (was is : List ℕ) (v : Schema) → least_witness ≤ length was → FileMeans file.bytes was is (Ok v)
    → (lent after : List ℕ) (r : EventFile) → length s.types ≤ length lent → EventsMean (meaning v) s.bytes lent after r
    → (r ≡ record { number = s.number; place = s.place; count = length s.types })
    × (after ≡ type_bytes s.types ++ drop (length (type_bytes s.types)) lent)

abbrev pub Holds : Sample → Type 0
Holds (schema_file s) = SchemaGets s
Holds (event_file file s) = SchemaGets file × EventsGet file s

-- every sample of the list holds
abbrev pub HoldAll : List Sample → Type 0
HoldAll [] = Unit
HoldAll (s ∷ ss) = Holds s × HoldAll ss

abbrev events_get : List ℕ → ℕ → ℕ → List ℕ → EventSample
events_get bytes number place types = record { bytes = bytes; number = number; place = place; types = types }

-- "R above: types 0 1 2 3."
abbrev pub first : EventSample
first =
    events_get
    (0x21 ∷ 0x00 ∷ 0x21 ∷ 0x01 ∷ 0x22 ∷ 0x01 ∷ 0x21 ∷ 0x02 ∷ 0x22 ∷ 0x02 ∷ 0x21 ∷ 0x01 ∷ 0x22 ∷ 0x01 ∷ 0x22 ∷ 0x00 ∷ 0x2f ∷ [])
    0 17
    (0 ∷ 1 ∷ 2 ∷ 3 ∷ [])

-- "R, events `21 00 22 00`: 17 at 2."
abbrev pub second : EventSample
second = events_get (0x21 ∷ 0x00 ∷ 0x22 ∷ 0x00 ∷ []) 17 2 (0 ∷ [])

-- "R, a second opening of tag 2: 13."
abbrev pub third : EventSample
third = events_get (0x21 ∷ 0x00 ∷ 0x21 ∷ 0x02 ∷ 0x22 ∷ 0x02 ∷ 0x21 ∷ 0x02 ∷ []) 13 6 (0 ∷ 2 ∷ [])

-- "one child a, then closing: 17."
abbrev pub eighth : EventSample
eighth = events_get (0x21 ∷ 0x00 ∷ 0x21 ∷ 0x01 ∷ 0x22 ∷ 0x01 ∷ 0x22 ∷ 0x00 ∷ []) 17 6 (0 ∷ 1 ∷ [])

-- "children b b c b a c get b1 b1 c1 b1 a2 c1": types 2 2 3 2 4 3
abbrev pub ninth : EventSample
ninth =
    events_get
    (0x21 ∷ 0x00
    ∷ 0x21 ∷ 0x02 ∷ 0x22 ∷ 0x02 ∷ 0x21 ∷ 0x02 ∷ 0x22 ∷ 0x02 ∷ 0x21 ∷ 0x03 ∷ 0x22 ∷ 0x03
    ∷ 0x21 ∷ 0x02 ∷ 0x22 ∷ 0x02 ∷ 0x21 ∷ 0x01 ∷ 0x22 ∷ 0x01 ∷ 0x21 ∷ 0x03 ∷ 0x22 ∷ 0x03
    ∷ 0x22 ∷ 0x00 ∷ 0x2f ∷ []
    )
    0 29
    (0 ∷ 2 ∷ 2 ∷ 3 ∷ 2 ∷ 4 ∷ 3 ∷ [])

-- The starred samples, in their order.
abbrev pub starred : List Sample
starred =
    event_file file_r first
    ∷ event_file file_r second
    ∷ event_file file_r third
    ∷ schema_file file_choice
    ∷ schema_file file_no_d
    ∷ schema_file file_two_ways
    ∷ schema_file file_two_types
    ∷ event_file file_last_but_one eighth
    ∷ event_file file_optional ninth
    ∷ schema_file file_endless ∷ []

-- Under a wall of racks of one boot each: a rack with its boot and one that is empty on purpose; an opening inside a nil rack;
-- a rack that is opened plainly and has nothing
abbrev pub racks_taken : EventSample
racks_taken =
    events_get
    (0x21 ∷ 0x00
    ∷ 0x21 ∷ 0x01 ∷ 0x21 ∷ 0x02 ∷ 0x22 ∷ 0x02 ∷ 0x22 ∷ 0x01
    ∷ 0x23 ∷ 0x01 ∷ 0x22 ∷ 0x01
    ∷ 0x22 ∷ 0x00 ∷ 0x2f ∷ []
    )
    0 17
    (0 ∷ 1 ∷ 2 ∷ 1 ∷ [])

abbrev pub inside_nil : EventSample
inside_nil = events_get (0x21 ∷ 0x00 ∷ 0x23 ∷ 0x01 ∷ 0x21 ∷ 0x02 ∷ []) 13 4 (0 ∷ 1 ∷ [])

abbrev pub plainly_empty : EventSample
plainly_empty = events_get (0x21 ∷ 0x00 ∷ 0x21 ∷ 0x01 ∷ 0x22 ∷ 0x01 ∷ []) 17 4 (0 ∷ 1 ∷ [])

-- The rack's block is by states or by an expression.
abbrev pub nil_elements : List Sample
nil_elements = event_file file_racks racks_taken ∷ event_file file_racks_written inside_nil ∷ event_file file_racks plainly_empty ∷ []
