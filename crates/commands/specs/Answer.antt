-- What the commands of a file get by questions 2 to 7 and 21 to 23, and the schema value beside it.
use Rattle.std.specs.Prelude.{◌≡◌, Result, IfOk, [], ◌∷◌}
use Rattle.sdtd.specs.Answer.{Ordered, fine, refused_at, verdict_of}
use Rattle.sdtd.specs.declared.Refusal.{Refusal}
use Rattle.schema.specs.declared.value.Schema.{Schema}
use Rattle.commands.specs.File.{Commands, stopped, states, unknown, known_asked}
use Rattle.commands.specs.Value.{StatedValue}

-- What the call on the commands answers: the first refusal by questions 2 to 6 and 21 to 23, then 7, or the value of the schema stated.
abbrev pub CommandsBy : Commands → Result Schema Refusal → Type 0
CommandsBy (stopped n p) r = verdict_of r ≡ refused_at n p
CommandsBy (states g) r =
    Ordered (known_asked (refused_at 7) (unknown g) ∷ []) (λ a. a ≡ fine) (verdict_of r) × IfOk r (λ v. StatedValue g v)
