-- Document 01, "Samples from the boot wall": the starred samples, as schemas and lists of calls, and one statement over the group. Beside them
-- document 02's wholesaler and what is empty on purpose.
use Rattle.std.specs.Prelude.{true, false, List, [], ◌∷◌, ◌++◌, ℕ, ◌<◌, replicate}
use Rattle.sdtd.specs.Limits.{most_levels}
use Rattle.sdtd.specs.Schema.{Step, step, Block, Schema, WithinLimits}
use Rattle.sdtd.specs.Tree.{plain, nil}
use Rattle.sdtd.specs.Document.{Event, opening, closing, finish}
use Rattle.sdtd.specs.Trim.{SomeRootBears, Used}
use Rattle.sdtd.specs.Competition.{Witness, Accepted}
use Rattle.sdtd.specs.Answer.{Answer, refused, typed, taken}
use Rattle.sdtd.specs.Reduced.{EveryTypeUsed}
use Rattle.sdtd.specs.Calls.{Exchange, RightCalls}

-- what a sample says of its schema
pub data Sample : Type 0 where
  accepts : Schema → Sample
  refuses_8 : Schema → Sample
  refuses_24 : Schema → ℕ → Sample
  refuses_9 : Schema → List ℕ → Sample
  answers : Schema → List Exchange → Sample

-- accepted; 8; 24 of the first unused type; 9 with the witness; and of a schema that a reading takes: the calls of the list, from a fresh reading, get
-- these answers
abbrev pub Holds : Sample → Type 0
Holds (accepts S) = Accepted S × EveryTypeUsed S
Holds (refuses_8 S) = WithinLimits S × (¬ SomeRootBears S)
Holds (refuses_24 S a) = WithinLimits S × SomeRootBears S × (¬ Used S a) × ((b : ℕ) → b < a → Used S b)
Holds (refuses_9 S bytes) = WithinLimits S × SomeRootBears S × Witness S bytes
Holds (answers S xs) = Accepted S × RightCalls S xs

-- every sample of the list holds
abbrev pub HoldAll : List Sample → Type 0
HoldAll [] = Unit
HoldAll (s ∷ ss) = Holds s × HoldAll ss

-- a type: its tag, the number of its states, the accepting ones, and its steps, as document 01 writes them, from-type-to
abbrev block : ℕ → ℕ → List ℕ → List Step → Block
block g n accepting steps = record { tag = g; nillable = false; states = n; accepting = accepting; steps = steps }

-- a type whose only word is the empty one
abbrev leaf : ℕ → Block
leaf g = block g 1 (0 ∷ []) []

-- a schema: the number of its tags, and its types, that of the one root first
abbrev schema : ℕ → List Block → Schema
schema n blocks = record { tags = n; blocks = blocks; roots = 0 ∷ [] }

-- a call and its answer
abbrev says : Event → Answer → Exchange
says x a = record { call = x; answer = a }

-- "R above"
abbrev pub schema_r : Schema
schema_r = schema 3 (block 0 2 (1 ∷ []) (step 0 1 0 ∷ step 0 2 1 ∷ step 1 3 1 ∷ []) ∷ leaf 1 ∷ leaf 2 ∷ leaf 1 ∷ [])

-- 000's schema a → b1 or b2, b1 → c, b2 → d, types numbered in the order a, b1, b2, c, d; the last block is d's
abbrev choice : Block → Schema
choice d =
    schema 4
    (block 0 2 (1 ∷ []) (step 0 1 1 ∷ step 0 2 1 ∷ [])
    ∷ block 1 2 (1 ∷ []) (step 0 3 1 ∷ [])
    ∷ block 1 2 (1 ∷ []) (step 0 4 1 ∷ [])
    ∷ leaf 2 ∷ d ∷ []
    )

-- d with the empty word
abbrev pub schema_choice : Schema
schema_choice = choice (leaf 3)

-- "The same, d without an accepting state"
abbrev pub schema_no_d : Schema
schema_no_d = choice (block 3 1 [] [])

-- "Type 0: steps 0-1-1, 0-1-2, 1-2-3, 2-3-3 (from-type-to), accepting 3; types 2 and 3 of one tag, types 1 to 3 leaves"
abbrev pub schema_two_ways : Schema
schema_two_ways =
    schema 3 (block 0 4 (3 ∷ []) (step 0 1 1 ∷ step 0 1 2 ∷ step 1 2 3 ∷ step 2 3 3 ∷ []) ∷ leaf 1 ∷ leaf 2 ∷ leaf 2 ∷ [])

-- "003's a1(a2 or b1)": types a1, a2, b1 after the root
abbrev pub schema_two_types : Schema
schema_two_types = schema 3 (block 0 3 (2 ∷ []) (step 0 1 1 ∷ step 1 2 2 ∷ step 1 3 2 ∷ []) ∷ leaf 1 ∷ leaf 1 ∷ leaf 2 ∷ [])

-- "003's (a or b)* a (a or b), one type a tag": types a, b after the root
abbrev pub schema_last_but_one : Schema
schema_last_but_one =
    schema 3 (block 0 3 (2 ∷ []) (step 0 1 0 ∷ step 0 2 0 ∷ step 0 1 1 ∷ step 1 1 2 ∷ step 1 2 2 ∷ []) ∷ leaf 1 ∷ leaf 2 ∷ [])

-- "003's a1? b1 (b1 or c1)* a2 c1": types a1, b1, c1, a2 after the root
abbrev pub schema_optional : Schema
schema_optional =
    schema 4
    (block 0 5 (4 ∷ [])
    (step 0 1 1 ∷ step 0 2 2 ∷ step 1 2 2 ∷ step 2 2 2 ∷ step 2 3 2 ∷ step 2 4 3 ∷ step 3 3 4 ∷ [])
    ∷ leaf 1 ∷ leaf 2 ∷ leaf 3 ∷ leaf 1 ∷ []
    )

-- "Type 0 with step 0-0-1, accepting 1"
abbrev pub schema_endless : Schema
schema_endless = schema 1 (block 0 2 (1 ∷ []) (step 0 0 1 ∷ []) ∷ [])

-- "Type 0 with step 0-0-0, accepting 0"
abbrev pub schema_nested : Schema
schema_nested = schema 1 (block 0 1 (0 ∷ []) (step 0 0 0 ∷ []) ∷ [])

-- "64 openings taken, the next 14": not starred, stated beside the group for the number of levels
abbrev pub nested : Sample
nested = answers schema_nested (replicate most_levels (says (opening plain 0) (typed 0)) ++ (says (opening plain 0) (refused 14) ∷ []))

-- "witness `00 01 02 00 00`"
abbrev pub witness_choice : List ℕ
witness_choice = 0x00 ∷ 0x01 ∷ 0x02 ∷ 0x00 ∷ 0x00 ∷ []

-- "witness `00 02 03 01 00 01`"
abbrev pub witness_two_ways : List ℕ
witness_two_ways = 0x00 ∷ 0x02 ∷ 0x03 ∷ 0x01 ∷ 0x00 ∷ 0x01 ∷ []

-- Document 02, Req 04: "A wholesaler sends price lists and stock lists under one schema." Types 0 and 1, the two lists, are the roots; an article, of
-- tag 2, is type 2 in a price list and type 3 in a stock list.
abbrev lists : Block → Block → Schema
lists prices stock = record { tags = 3; blocks = prices ∷ stock ∷ leaf 2 ∷ leaf 2 ∷ []; roots = 0 ∷ 1 ∷ [] }

-- a list of the tag g, of articles of the type j
abbrev list_of : ℕ → ℕ → Block
list_of g j = block g 1 (0 ∷ []) (step 0 j 0 ∷ [])

-- a price list of tag 0 and a stock list of tag 1
abbrev pub schema_lists : Schema
schema_lists = lists (list_of 0 2) (list_of 1 3)

-- both of tag 0, and in the price list the two articles compete too
abbrev pub schema_one_tag : Schema
schema_one_tag = lists (block 0 1 (0 ∷ []) (step 0 2 0 ∷ step 0 3 0 ∷ [])) (list_of 0 3)

-- both of tag 0, and the price list bears no tree
abbrev pub schema_treeless : Schema
schema_treeless = lists (block 0 1 [] []) (list_of 0 3)

-- "Tree-bearing roots of one tag compete, and that is looked at before all else under 9: the witness has 255 for A and n = 0."
abbrev pub witness_one_tag : List ℕ
witness_one_tag = 0xff ∷ 0x00 ∷ 0x01 ∷ 0x00 ∷ 0x00 ∷ []

-- Each list is typed by its own root, and so are its articles; two lists of one tag compete, though articles compete as well; and where one of them
-- bears no tree the other opens, since "The root question (8) holds if any root bears a tree."
abbrev pub wholesaler : List Sample
wholesaler =
    answers schema_lists
    (says (opening plain 0) (typed 0)
    ∷ says (opening plain 2) (typed 2) ∷ says (closing 2) taken
    ∷ says (closing 0) taken ∷ says (opening plain 1) (refused 13) ∷ says finish taken ∷ []
    )
    ∷ answers schema_lists
    (says (opening plain 2) (refused 13) ∷ says (opening plain 1) (typed 1)
    ∷ says (opening plain 2) (typed 3) ∷ says (closing 2) taken
    ∷ says (closing 1) taken ∷ says finish taken ∷ []
    )
    ∷ refuses_9 schema_one_tag witness_one_tag
    ∷ answers schema_treeless (says (opening plain 0) (typed 1) ∷ says (closing 0) taken ∷ says finish taken ∷ []) ∷ []

-- Document 02, Req 05: the type with NIL in its block
abbrev with_nil : Block → Block
with_nil b = record { tag = b.tag; nillable = true; states = b.states; accepting = b.accepting; steps = b.steps }

-- a nillable type that has no word: all its elements are nil
abbrev only_nil : ℕ → Block
only_nil g = with_nil (block g 1 [] [])

-- a wall, type 0, of racks of tag 1 with one boot each, of tag 2; a rack may be empty on purpose
abbrev pub schema_racks : Schema
schema_racks = schema 3 (list_of 0 1 ∷ with_nil (block 1 2 (1 ∷ []) (step 0 2 1 ∷ [])) ∷ leaf 2 ∷ [])

-- a list of elements of tag 1, of types 1 and 2
abbrev either_of : Block → Block → Schema
either_of b c = schema 2 (block 0 1 (0 ∷ []) (step 0 1 0 ∷ step 0 2 0 ∷ []) ∷ b ∷ c ∷ [])

-- type 1 is opened only as nil, type 2 only plainly
abbrev pub schema_by_kind : Schema
schema_by_kind = either_of (only_nil 1) (leaf 1)

-- both are nillable
abbrev pub schema_both_nil : Schema
schema_both_nil = either_of (only_nil 1) (with_nil (leaf 1))

-- two types of tag 0, both roots
abbrev two_roots : Block → Block → Schema
two_roots b c = record { tags = 1; blocks = b ∷ c ∷ []; roots = 0 ∷ 1 ∷ [] }

-- type 0 is opened only as nil, type 1 only plainly
abbrev pub schema_roots_by_kind : Schema
schema_roots_by_kind = two_roots (only_nil 0) (leaf 0)

-- both are nillable
abbrev pub schema_roots_both_nil : Schema
schema_roots_both_nil = two_roots (only_nil 0) (with_nil (leaf 0))

-- Inside a nil element only its closing is taken; an element of its type that is opened plainly is asked for its word. Types of one tag that no
-- event opens alike are told apart by the event; two that are both nillable compete; so do roots.
abbrev pub nil_elements : List Sample
nil_elements =
    answers schema_racks
    (says (opening plain 0) (typed 0)
    ∷ says (opening nil 1) (typed 1) ∷ says (opening plain 2) (refused 13) ∷ says (opening nil 2) (refused 13)
    ∷ says (closing 2) (refused 16) ∷ says (closing 1) taken
    ∷ says (opening plain 1) (typed 1) ∷ says (closing 1) (refused 17)
    ∷ says (opening nil 2) (refused 13) ∷ says (opening plain 2) (typed 2) ∷ says (closing 2) taken ∷ says (closing 1) taken
    ∷ says (closing 0) taken ∷ says finish taken ∷ []
    )
    ∷ answers schema_by_kind
    (says (opening nil 0) (refused 13) ∷ says (opening plain 0) (typed 0)
    ∷ says (opening nil 1) (typed 1) ∷ says (closing 1) taken ∷ says (opening plain 1) (typed 2) ∷ says (closing 1) taken ∷ []
    )
    ∷ refuses_9 schema_both_nil witness_choice
    ∷ answers schema_roots_by_kind
    (says (opening nil 0) (typed 0) ∷ says finish (refused 18) ∷ says (closing 0) taken ∷ says (opening plain 0) (refused 13)
    ∷ says finish taken ∷ []
    )
    ∷ answers schema_roots_by_kind (says (opening plain 0) (typed 1) ∷ says (closing 0) taken ∷ says finish taken ∷ [])
    ∷ refuses_9 schema_roots_both_nil witness_one_tag ∷ []

-- The starred samples, in document 01's order. Where a sample names elements a, b, c their tags are 1, 2, 3; the root's is 0.
abbrev pub starred : List Sample
starred =
    -- "R above: types 0 1 2 3"
    answers schema_r
    (says (opening plain 0) (typed 0)
    ∷ says (opening plain 1) (typed 1) ∷ says (closing 1) taken
    ∷ says (opening plain 2) (typed 2) ∷ says (closing 2) taken
    ∷ says (opening plain 1) (typed 3) ∷ says (closing 1) taken
    ∷ says (closing 0) taken ∷ says finish taken ∷ []
    )
    -- "R, events `21 00 22 00`: 17 at 2." The place is the event file's.
    ∷ answers schema_r (says (opening plain 0) (typed 0) ∷ says (closing 0) (refused 17) ∷ [])
    -- "R, a second opening of tag 2: 13"
    ∷ answers schema_r
    (says (opening plain 0) (typed 0) ∷ says (opening plain 2) (typed 2) ∷ says (closing 2) taken ∷ says (opening plain 2) (refused 13) ∷ [])
    -- "9"
    ∷ refuses_9 schema_choice witness_choice
    -- "The same, d without an accepting state": by Req 06 "24, place that of the first such TYPE (the fifth sample among them)", which is b2's
    ∷ refuses_24 schema_no_d 2
    -- "9"
    ∷ refuses_9 schema_two_ways witness_two_ways
    -- "003's a1(a2 or b1): accepted."
    ∷ accepts schema_two_types
    -- "accepted; one child a, then closing: 17"
    ∷ answers schema_last_but_one
    (says (opening plain 0) (typed 0) ∷ says (opening plain 1) (typed 1) ∷ says (closing 1) taken ∷ says (closing 0) (refused 17) ∷ [])
    -- "children b b c b a c get b1 b1 c1 b1 a2 c1"
    ∷ answers schema_optional
    (says (opening plain 0) (typed 0)
    ∷ says (opening plain 2) (typed 2) ∷ says (closing 2) taken
    ∷ says (opening plain 2) (typed 2) ∷ says (closing 2) taken
    ∷ says (opening plain 3) (typed 3) ∷ says (closing 3) taken
    ∷ says (opening plain 2) (typed 2) ∷ says (closing 2) taken
    ∷ says (opening plain 1) (typed 4) ∷ says (closing 1) taken
    ∷ says (opening plain 3) (typed 3) ∷ says (closing 3) taken
    ∷ says (closing 0) taken ∷ says finish taken ∷ []
    )
    -- "8"
    ∷ refuses_8 schema_endless ∷ []
