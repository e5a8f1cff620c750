-- The starred samples of document 01 hold, those of several roots and those of what is empty on purpose.
use mathlib.Core.List.{List, []}
use lib.Dec.{T}
use Rattle.sdtd.specs.Schema.{Schema}
use Rattle.sdtd.specs.Competition.{Accepted}
use Rattle.sdtd.specs.Calls.{Exchange}
use Rattle.sdtd.specs.Samples.{answers, Holds, HoldAll, starred, nested, wholesaler, nil_elements}
use Rattle.sdtd.proofs.Basics.{◌&◌}
use Rattle.sdtd.proofs.Machine.{start}
use Rattle.sdtd.proofs.Decide.{LiveTable, LiveExact}
use Rattle.sdtd.proofs.Model.{agrees, calls_agree}
use Rattle.sdtd.proofs.SampleSchemas.{exact_r, accepted_r, accepted_no_d, accepted_two_types, exact_last_but_one, accepted_last_but_one}
use Rattle.sdtd.proofs.SampleSchemas.{exact_optional, accepted_optional, refused_choice, refused_two_ways, bears_none_endless}
use Rattle.sdtd.proofs.SampleSchemas.{exact_nested, accepted_nested, exact_lists, accepted_lists, exact_treeless, accepted_treeless, refused_one_tag}
use Rattle.sdtd.proofs.SampleSchemas.{exact_racks, accepted_racks, exact_by_kind, accepted_by_kind, refused_both_nil}
use Rattle.sdtd.proofs.SampleUses.{every_used_two_types, before_b2, b2_unused}
use Rattle.sdtd.proofs.SampleSchemas.{exact_roots_by_kind, accepted_roots_by_kind, refused_roots_both_nil}

answers_hold : {S : Schema} {L : LiveTable} → Accepted S → LiveExact S L → (xs : List Exchange) → T (agrees S L [] start xs)
    → Holds (answers S xs)
answers_hold a x xs t = (a, calls_agree a x xs t)

pub starred_hold : HoldAll starred
starred_hold =
    answers_hold accepted_r exact_r _ tt
    & answers_hold accepted_r exact_r _ tt
    & answers_hold accepted_r exact_r _ tt
    & refused_choice
    & (accepted_no_d.within, accepted_no_d.bears, b2_unused, before_b2)
    & refused_two_ways
    & (accepted_two_types, every_used_two_types)
    & answers_hold accepted_last_but_one exact_last_but_one _ tt
    & answers_hold accepted_optional exact_optional _ tt
    & bears_none_endless
    & tt

-- `most_levels` levels are opened, and no further one.
pub nested_holds : Holds nested
nested_holds = answers_hold accepted_nested exact_nested _ tt

-- Price lists and stock lists under one schema.
pub wholesaler_holds : HoldAll wholesaler
wholesaler_holds =
    answers_hold accepted_lists exact_lists _ tt
    & answers_hold accepted_lists exact_lists _ tt
    & refused_one_tag
    & answers_hold accepted_treeless exact_treeless _ tt
    & tt

-- Racks that are empty on purpose, and types told apart by the kind of their opening.
pub nil_elements_hold : HoldAll nil_elements
nil_elements_hold =
    answers_hold accepted_racks exact_racks _ tt
    & answers_hold accepted_by_kind exact_by_kind _ tt
    & refused_both_nil
    & answers_hold accepted_roots_by_kind exact_roots_by_kind _ tt
    & answers_hold accepted_roots_by_kind exact_roots_by_kind _ tt
    & refused_roots_both_nil
    & tt
