-- "The accepted schema is the one that the file states": what a block of the schema has to do with the TYPE that begins it.
use Rattle.std.specs.Prelude.{◌≡◌, Some, List, ℕ, ◌+◌}
use Rattle.sdtd.specs.Schema.{Block}
use Rattle.sdtd.specs.declared.Tag.{Tag}
use Rattle.command.specs.Command.{command_at, size}
use Rattle.command.specs.declared.Command.TheVariants.{TypeBlock}
use Rattle.expression.specs.Expression.{Expression}
use Rattle.expression.specs.Automaton.{AutomatonOf}
use Rattle.expression.specs.Content.{Name, whole, content_at}

-- The block has the automaton of the expression that begins at the place i.
pub record ByExpression (file : List ℕ) (i : ℕ) (b : Block) : Type 0 where
  pub expression : Expression
  pub names : List Name
  pub end : ℕ
  pub read : content_at file i ≡ whole expression names end
  pub automaton : AutomatonOf expression b

-- The block is begun by a TYPE of its tag; "A TYPE with state count 0 is followed by an expression in place of FINAL and STEP."
pub record Written (file : List ℕ) (b : Block) : Type 0 where
  pub place : ℕ
  pub tag : Tag
  pub states : ℕ
  pub begins : command_at file place ≡ Some (TypeBlock tag states)
  pub same_tag : b.tag ≡ tag.0
  pub stands : states ≡ 0 → ByExpression file (place + size (TypeBlock tag states)) b
