-- The writer of schema files: "The written file passes, the same documents are valid, and each typing is the old one
-- renumbered. A second pass changes no byte." Statements about its promise: `WriteMeans` is that of `schema_writer::write_reduced`, `FileMeans` that of
-- `schema_file::read`. `proofs/ReducingMet.antt` proves them.
use Rattle.std.specs.Prelude.{◌≡◌, ◌↔◌, Bool, List, ℕ, ◌≤◌, length, take, Result, Ok}
use Rattle.sdtd.specs.Limits.{least_witness}
use Rattle.sdtd.specs.Schema.{Schema as Meaning}
use Rattle.sdtd.specs.Tree.{Tree, relabel, IsTyping}
use Rattle.sdtd.specs.Document.{Event, Valid}
use Rattle.sdtd.specs.Reduced.{TellsUsed, new_number, reduced}
use Rattle.sdtd.specs.Output.{writes, FileWritten, Length}
use Rattle.commands.specs.File.{commands, StatesSchema}
use Rattle.schema_file.specs.Answer.{FileMeans}
use Rattle.schema_writer.specs.Answer.{OutputBy, WriteMeans}
use Rattle.sdtd.specs.Answer.{fine, verdict_of}
use Rattle.sdtd.specs.declared.Refusal.{Refusal}
use Rattle.schema.specs.declared.value.Schema.{Schema}
use Rattle.typing.specs.Demands.{One}

-- "each typing is the old one renumbered": of each tree the typings under S, renumbered, are those under R, each of just one
pub record TypingsRenumbered (S R : Meaning) (number : ℕ → ℕ) : Type 0 where
  pub new : (tree typed : Tree) → IsTyping S tree typed → IsTyping R tree (relabel number typed)
  pub back : (tree typed : Tree) → IsTyping R tree typed → (old : Tree) × IsTyping S tree old × (relabel number old ≡ typed)
  pub one : (tree old other : Tree) → IsTyping S tree old → IsTyping S tree other → relabel number old ≡ relabel number other → old ≡ other

-- What holds of a file and the one that is written of it.
pub record Reduces (file written : List ℕ) : Type 0 where
  pub schema : Meaning
  pub states : StatesSchema file schema
  -- "without those types [..], numbers closed up in order"
  pub kept : ℕ → Bool
  pub tells_used : TellsUsed schema kept
  pub states_written : StatesSchema written (reduced kept schema)
  -- "The written file passes": the reader accepts it, with any buffer that is long enough
  pub passes : (was is : List ℕ) (r : Result Schema Refusal) → least_witness ≤ length was → FileMeans written was is r → verdict_of r ≡ fine
  -- "the same documents are valid"
  pub same_documents : (d : List Event) → Valid schema d ↔ Valid (reduced kept schema) d
  -- "and each typing is the old one renumbered"
  pub typings : TypingsRenumbered schema (reduced kept schema) (new_number kept)
  -- "A second pass changes no byte": where the file fits, it is written as it is
  pub second : (was is : List ℕ) (r : FileWritten) → length written ≤ length was → WriteMeans written was is r
      → record { answer = r; buffer = is } ≡ writes was written

-- The writer meets the request: each file with a buffer has one outcome; what is written is such a file; and a file that the reader accepts, and so has no
-- unused type, comes back as it is where it fits.
pub record WriterMeets : Type 0 where
  pub outcome : (file was : List ℕ) → One (OutputBy file (commands file) was)
  pub written : (file was is : List ℕ) (n : ℕ) → WriteMeans file was is (Length n) → Reduces file (take n is)
  pub same : (file was is : List ℕ) (v : Schema) → FileMeans file was is (Ok v)
      → (lent after : List ℕ) (r : FileWritten) → length file ≤ length lent → WriteMeans file lent after r
      → record { answer = r; buffer = after } ≡ writes lent file
