-- `reading::own_steps::in_set` meets its contract.
use Rattle.schema.proofs.Bits.{member_below}
use Rattle.reading.proofs.own_steps.in_set.Goals as goal

pub returns : goal.returns
returns c =
    (c.has.ensures, λ t. member_below c.args.q c.args.set c.ranges.set.fits (rw c.has.ensures at t))
