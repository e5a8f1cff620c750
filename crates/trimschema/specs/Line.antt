-- The line of a refusal.
use Rattle.std.specs.Prelude.{List, ◌++◌, ℕ}
use Rattle.text.specs.Line.{line_end}
use Rattle.report.specs.Words.{schema_refused}
use Rattle.report.specs.Text.{numbered}

-- `schema refused N`
unfoldable pub refused_line : ℕ → List ℕ
refused_line n = numbered schema_refused n ++ line_end
