-- `schema::tables::trim_inside` meets its contract: the tables that the rounds settle at are exactly the definitions.
use borrow.Author.Rules.{rules}
use Rattle.schema.proofs.LimitLaws.{within_room}
use Rattle.schema.proofs.FirstTables.{Fits}
use Rattle.schema.proofs.TablesExact.{tables_exact}
use Rattle.schema.proofs.tables.trim_inside.Goals as goal

pub invariant_of-accepted : goal.invariant_of-accepted
invariant_of-accepted c =
    let room = within_room c.args.schema.now c.requires.1 in
    record { types = room.types; steps = room.steps }

pub returns : goal.returns
returns c =
    let fits : Fits c.args.schema.now = record { accepting_long = search rules; accepting_below = c.requires.0 } in (
      tt,
      tables_exact fits c.requires.1 c.args.found.now.live c.args.found.now.ways c.requires.2 c.requires.3
          c.forward_states-forward.ensures c.root_types-roots.ensures
          c.reached_types-reached.ensures,
    )
