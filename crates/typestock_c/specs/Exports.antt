-- What the exports hand back: the numbers of a right answer, which also says what each buffer holds.
use Rattle.std.specs.Prelude.{◌≡◌, List, ℕ, Result}
use Rattle.sdtd.specs.Answer.{verdict_of}
use Rattle.sdtd.specs.declared.Refusal.{Refusal}
use Rattle.schema.specs.declared.value.Schema.{Schema}
use Rattle.schema_file.specs.Answer.{FileMeans}
use Rattle.sdtd.specs.Output.{FileWritten}
use Rattle.schema_writer.specs.Answer.{WriteMeans}
use Rattle.typing.specs.Job.{JobMeans}
use Rattle.reading.specs.declared.event_file.EventFile.{EventFile}
use Rattle.typing.specs.ExpectedJob.{ExpectedJobMeans}
use Rattle.expected.specs.declared.Expected.{Expected}
use Rattle.typestock_c.specs.Numbers.{schema_numbers, written_numbers, document_numbers, expected_numbers}
use Rattle.typestock_c.specs.declared.TypestockSchema.{TypestockSchema}
use Rattle.typestock_c.specs.declared.TypestockWritten.{TypestockWritten}
use Rattle.typestock_c.specs.declared.TypestockDocument.{TypestockDocument}
use Rattle.typestock_c.specs.declared.TypestockExpected.{TypestockExpected}

-- the schema file's answer, the buffer before and after the call
pub record SchemaMeans (file was is : List ℕ) (r : TypestockSchema) : Type 0 where
  pub read : Result Schema Refusal
  pub means : FileMeans file was is read
  pub numbers : r ≡ schema_numbers (verdict_of read)

-- the writer's, the buffer before and after the call
pub record WrittenMeans (file was is : List ℕ) (r : TypestockWritten) : Type 0 where
  pub written : FileWritten
  pub means : WriteMeans file was is written
  pub numbers : r ≡ written_numbers written

-- the whole job's, both buffers before and after the call
pub record DocumentMeans (schema events was_witness is_witness was_types is_types : List ℕ) (r : TypestockDocument) : Type 0 where
  pub job : Result EventFile Refusal
  pub means : JobMeans schema events was_witness is_witness was_types is_types job
  pub numbers : r ≡ document_numbers job

-- what would have been taken, the witness buffer before and after the call
pub record ExpectedDocumentMeans (schema events was is : List ℕ) (r : TypestockExpected) : Type 0 where
  pub job : Result Expected Refusal
  pub means : ExpectedJobMeans schema events was is job
  pub numbers : r ≡ expected_numbers job
