-- What would have been taken where an event file is refused. Statements about its promise: `ExpectedMeans` is that of
-- `expected::expect_next`, `FileMeans` that of `schema_file::read`. `proofs/ExpectingMet.antt` proves them.
use Rattle.std.specs.Prelude.{◌≡◌, ◌≢◌, true, List, ℕ, length, Ok}
use Rattle.sdtd.specs.Answer.{fine}
use Rattle.schema.specs.Value.{meaning}
use Rattle.schema.specs.declared.value.Schema.{Schema}
use Rattle.schema_file.specs.Answer.{FileMeans}
use Rattle.expected.specs.Expected.{nothing, laid_out, ExpectedMeans}
use Rattle.expected.specs.Meaning.{ExpectedMeets}
use Rattle.expected.specs.declared.Expected.{Expected}
use Rattle.typing.specs.Demands.{One}

-- The call meets the request.
pub record ExpectingMeets : Type 0 where
  -- every schema value with every event file has one answer, each entry of it fixed
  pub one : (v : Schema) (file : List ℕ) → One (ExpectedMeans (meaning v) file)
  -- "the file is walked with no types' buffer, so without 20"
  pub never_20 : (v : Schema) (file : List ℕ) (r : Expected) → ExpectedMeans (meaning v) file r → r.number ≢ 20
  -- "After a finish the list is empty.": nothing is open there, and no call would have been taken
  pub after_finish : (v : Schema) (file : List ℕ) (r : Expected) (m : ExpectedMeans (meaning v) file r) → m.passage.last.finished ≡ true
      → r ≡ laid_out (length file) (nothing m.passage.verdict)
  -- and so of a file taken whole, which alone has the number 0
  pub taken_whole : (v : Schema) (file : List ℕ) (r : Expected) → ExpectedMeans (meaning v) file r → r.number ≡ 0
      → r ≡ laid_out (length file) (nothing fine)
  -- under an accepted schema the answer is by valid documents
  pub accepted : (file was is : List ℕ) (v : Schema) → FileMeans file was is (Ok v)
      → (events : List ℕ) (r : Expected) → ExpectedMeans (meaning v) events r → ExpectedMeets (meaning v) events r
