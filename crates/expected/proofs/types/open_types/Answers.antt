-- The first entries stand over zeros.
use borrow.Author.Rules.{rules}
use Rattle.expected.proofs.TableLaws.{kept_padded}
use Rattle.expected.proofs.types.open_types.Goals as goal

pub returns : goal.returns
returns c = rw c.copy_from_slice.ensures.after (kept_padded c.args.types.now c.args.depth (search rules) c.requires)
