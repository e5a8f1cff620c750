-- A schema trimmed by exact tables is trimmed.
use Rattle.sdtd.specs.Schema.{Schema}
use Rattle.sdtd.specs.Trim.{Trimmed}
use Rattle.sdtd.proofs.Trimmer.{tests_trim}
use Rattle.schema.specs.Trimming.{Exact, trimmed_by_tables}
use Rattle.schema.specs.declared.tables.Trimming.{Trimming}
use Rattle.schema.proofs.WaysLaws.{bears_for}

pub tables_trim : {S : Schema} {t : Trimming} → Exact S t → Trimmed S (trimmed_by_tables t S)
tables_trim e =
    tests_trim (record {
      reached = λ a. record { says = (e.reached a).0; passes = (e.reached a).1 };
      bears = λ a. let b = bears_for (e.ways a) in record { says = b.0; passes = b.1 };
      live = λ a q. record { says = (e.live a q).0; passes = (e.live a q).1 };
    })
