-- `pairs::numbers::pair_numbers` meets its contract: the constant passes the test, which antt computes.
use Rattle.pairs.proofs.TableRule.{passes}
use Rattle.pairs.proofs.numbers.pair_numbers.Goals as goal

pub returns : goal.returns
returns c = passes _ tt tt
