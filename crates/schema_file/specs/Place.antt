-- What the private call about a refusal of the file's schema answers.
use Rattle.std.specs.Prelude.{List, ℕ}
use Rattle.sdtd.specs.declared.Refusal.{Refusal}
use Rattle.competition.specs.Search.{why_of}
use Rattle.competition.specs.declared.verdict.Judged.{Judged}
use Rattle.competition.specs.declared.verdict.Judged.TheVariants.{ShortBuffer, Outside, NoRootBears, Unused, Competes}
use Rattle.commands.specs.TypePlaces.{place_of_type}

-- an unused type is refused at its TYPE, all else at the first byte
abbrev pub placed : List ℕ → Judged → Refusal
placed file ShortBuffer = record { why = why_of ShortBuffer; place = 0 }
placed file Outside = record { why = why_of Outside; place = 0 }
placed file NoRootBears = record { why = why_of NoRootBears; place = 0 }
placed file (Unused a) = record { why = why_of (Unused a); place = place_of_type file a.0 }
placed file Competes = record { why = why_of Competes; place = 0 }
