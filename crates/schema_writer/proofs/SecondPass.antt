-- "The written file passes": it states the reduced schema. "A second pass changes no byte."
use mathlib.Core.Path.{◌≡◌}
use mathlib.Core.Bool.{Bool}
use mathlib.Core.List.{List}
use Prim.Native.Nat.{ℕ}
use Rattle.sdtd.specs.Schema.{Schema}
use Rattle.sdtd.specs.Tree.{label}
use Rattle.sdtd.specs.Document.{SomeValid}
use Rattle.sdtd.specs.Reduced.{EveryTypeUsed, TellsUsed, reduced}
use Rattle.sdtd.proofs.ReducedTypings.{root_has}
use Rattle.sdtd.proofs.ReducedDocuments.{typing_kept, reduced_every_type_used}
use Rattle.command.specs.Command.{file_of}
use Rattle.commands.specs.File.{StatesSchema}
use Rattle.schema_writer.specs.Left.{commands_left}
use Rattle.schema_writer.proofs.RewriteStates.{states_reduced}
use Rattle.schema_writer.proofs.RewriteSame.{every_kept}

module _ {file : List ℕ} {S : Schema} (kept : ℕ → Bool) (given : StatesSchema file S) (tells : TellsUsed S kept) where
  -- Of a file that states a schema with a valid document, the written file states the schema without the types that are not used.
  pub written_states : SomeValid S → StatesSchema (file_of (commands_left kept S file)) (reduced kept S)
  written_states s =
      let typing = s.valid.typing in
      let t = typing.is_typing in
      states_reduced kept given (label typing.typed) t.root
      (root_has typing.typed (typing_kept kept tells s.valid.tree typing.typed t))

  -- A file whose types are all used is written byte for byte.
  pub written_same : EveryTypeUsed S → file_of (commands_left kept S file) ≡ file
  written_same every = every_kept kept given (λ a l. (tells a).1 (every a l))

-- What is written of the written file is that file.
pub second_pass : {file : List ℕ} {S : Schema} (kept again : ℕ → Bool) → StatesSchema file S → TellsUsed S kept → SomeValid S
    → TellsUsed (reduced kept S) again
    → let written = file_of (commands_left kept S file) in
    file_of (commands_left again (reduced kept S) written) ≡ written
second_pass kept again given tells s tells_again =
    written_same again (written_states kept given tells s) tells_again (reduced_every_type_used kept tells)
