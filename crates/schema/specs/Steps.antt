-- The steps that a schema's value has, one after another.
use Rattle.std.specs.Prelude.{List}
use Rattle.sdtd.specs.Schema.{Step}
use Rattle.schema.specs.Value.{steps_of}
use Rattle.schema.specs.declared.steps.Step.{Step as CodeStep}
use Rattle.schema.specs.declared.steps.Steps.{Steps}

-- the step that a value states
abbrev pub meant : CodeStep → Step
meant s = record { from = s.from; by = s.by.0; to = s.to }

-- the steps that are still to come
abbrev pub left : Steps → List Step
left s = steps_of s.schema.now.from s.schema.now.by s.schema.now.to s.span.start s.span.n
