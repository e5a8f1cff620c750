-- What the private functions leave: a whole text laid.
use Rattle.std.specs.Prelude.{List, ℕ, ◌+◌, ◌≤◌, length}
use Rattle.text.specs.declared.page.Page.{Page}
use Rattle.text.specs.Page.{Lays}
use Rattle.report.specs.Report.{PrintedBy}

-- A whole text of at most so many bytes, laid on a page.
pub record WholeLaid (most : ℕ) (was : Page) (text : List ℕ) (is : Page) : Type 0 where
  pub laid : Lays was text is
  pub short : length text ≤ most

-- the text that a program prints, laid so
pub record AnswerLaid (Prints : List ℕ → List ℕ → List ℕ → Type 0) (most : ℕ) (schema events : List ℕ) (was is : Page) : Type 0 where
  pub text : List ℕ
  pub printed : PrintedBy Prints schema events text
  pub whole : WholeLaid most was text is

-- the most bytes of a refused schema's text: its line with a number of at most 3 digits and a place of at most 20, and the line of the witness
abbrev pub most_refused : ℕ
most_refused = 43 + 53
