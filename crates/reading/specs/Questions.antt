-- Questions 10 to 18 of a call on any schema and any reading, and what is answered where none is answered no: document 01, "A reading", and
-- document 02, Req 05.
use Rattle.std.specs.Prelude.{◌≡◌, true, false, ◌↔◌, ◌⊎◌, ℕ, zero, suc, pred, ◌^◌, ◌<◌, ◌≤◌, T, set}
use mathlib.Core.List.{List, [], ◌∷◌, Memᴰ}
use Rattle.sdtd.specs.Limits.{most_states, most_levels}
use Rattle.sdtd.specs.Schema.{Schema, block_of, tag_of, Nillable}
use Rattle.sdtd.specs.Tree.{Kind, plain, nil, IsRoot}
use Rattle.sdtd.specs.Document.{Event, opening, closing, finish}
use Rattle.sdtd.specs.Trim.{BearsBy, Live}
use Rattle.sdtd.specs.Answer.{Question, ask, Ordered, Answer, refused, typed, taken}
use Rattle.schema.specs.States.{member, no_states, only_start}
use Rattle.reading.specs.declared.value.Reading.{Reading}
use Rattle.reading.specs.Levels.{inner_type, inner_set, Within}

-- what a call answers, and the reading that follows
pub record Next : Type 0 where
  pub answer : Answer
  pub reading : Reading

abbrev pub gives : Answer → Reading → Next
gives a r = record { answer = a; reading = r }

-- "A refusal answers its number alone and the reading is unchanged."
abbrev pub refuses : Reading → ℕ → Next
refuses r n = gives (refused n) r

-- the type j leads from the innermost set to the live state q
pub record LeadsTo (S : Schema) (r : Reading) (j q : ℕ) : Type 0 where
  pub from : ℕ
  pub kept : T (member from (inner_set r))
  pub step : Memᴰ (record { from = from; by = j; to = q }) (block_of S (inner_type r)).steps
  pub live : Live S (inner_type r) q

-- "a tree-bearing type of the tag that leads from that set to a live state or, with none open, [..] a tree-bearing root type of the tag and
-- no root before it": the type j, the tag g. "For either kind 13, also of a made-up value, looks only at types that bear a tree opened so."
pub record CanOpen (S : Schema) (r : Reading) (κ : Kind) (g j : ℕ) : Type 0 where
  pub bears : BearsBy S κ j
  pub tag : tag_of S j ≡ g
  pub some_open : 0 < r.depth → (q : ℕ) × LeadsTo S r j q
  pub none_open : r.depth ≡ 0 → IsRoot S j × (r.rooted ≡ false)

-- the set of a new element: only state 0; a nil element "keeps the set of no states"
abbrev pub first_set : Kind → ℕ
first_set plain = only_start
first_set nil = no_states

-- the state sets after an opening at the depth n: the innermost element's is the one kept, and the new element's is its first
abbrev pub sets_after : Kind → List ℕ → ℕ → ℕ → List ℕ
sets_after κ sets zero kept = set sets 0 (first_set κ)
sets_after κ sets (suc n) kept = set (set sets n kept) (suc n) (first_set κ)

-- the reading after an opening that was given the type j
abbrev pub opened : Kind → Reading → ℕ → ℕ → Reading
opened κ r j kept =
    record {
      depth = suc r.depth;
      rooted = true;
      finished = r.finished;
      types = set r.types r.depth j;
      sets = sets_after κ r.sets r.depth kept;
    }

-- "The smallest such type is given, and only the live states that it leads to are kept."
pub record OpeningTaken (S : Schema) (r : Reading) (κ : Kind) (g : ℕ) (n : Next) : Type 0 where
  pub type : ℕ
  pub can_open : CanOpen S r κ g type
  pub smallest : (j : ℕ) → CanOpen S r κ g j → type ≤ j
  pub kept : ℕ
  pub kept_below : kept < 2 ^ most_states
  pub keeps : 0 < r.depth → (q : ℕ) → T (member q kept) ↔ LeadsTo S r type q
  pub next : n ≡ gives (typed type) (opened κ r type kept)

-- 17, "Do its children form a word of its automaton?", by the set kept: one of its states is accepting
pub record Ends (S : Schema) (r : Reading) : Type 0 where
  pub state : ℕ
  pub kept : T (member state (inner_set r))
  pub accepting : Memᴰ state (block_of S (inner_type r)).accepting

-- 17, whole: it "is not asked of a nillable type with that set", the set of no states
abbrev pub Complete : Schema → Reading → Type 0
Complete S r = (Nillable S (inner_type r) × (inner_set r ≡ no_states)) ⊎ Ends S r

-- the reading after a closing: the levels keep what they hold
abbrev pub closed : Reading → Reading
closed r = record { depth = pred r.depth; rooted = r.rooted; finished = r.finished; types = r.types; sets = r.sets }

-- the reading after a finish
abbrev pub after_finish : Reading → Reading
after_finish r = record { depth = r.depth; rooted = r.rooted; finished = true; types = r.types; sets = r.sets }

-- 18: "has the root been opened and closed?"
pub record RootOver (r : Reading) : Type 0 where
  pub opened : r.rooted ≡ true
  pub closed : r.depth ≡ 0

-- The questions of a call, in order. "A nil opening is asked the opening's questions".
abbrev pub questions : Schema → Reading → Event → List (Question Next)
questions S r (opening κ g) =
    ask (refuses r 10) (Within S r) ∷ ask (refuses r 11) (r.finished ≡ false) ∷ ask (refuses r 12) (g < S.tags) ∷ ask (refuses r 13) ((j : ℕ) × CanOpen S r κ g j)
    ∷ ask (refuses r 14) (r.depth < most_levels) ∷ []
questions S r (closing g) =
    ask (refuses r 10) (Within S r) ∷ ask (refuses r 11) (r.finished ≡ false) ∷ ask (refuses r 12) (g < S.tags) ∷ ask (refuses r 15) (0 < r.depth)
    ∷ ask (refuses r 16) (tag_of S (inner_type r) ≡ g) ∷ ask (refuses r 17) (Complete S r) ∷ []
questions S r finish = ask (refuses r 10) (Within S r) ∷ ask (refuses r 11) (r.finished ≡ false) ∷ ask (refuses r 18) (RootOver r) ∷ []

-- what a call that is taken answers and hands back
abbrev pub TakenBy : Schema → Reading → Event → Next → Type 0
TakenBy S r (opening κ g) n = OpeningTaken S r κ g n
TakenBy S r (closing g) n = n ≡ gives taken (closed r)
TakenBy S r finish n = n ≡ gives taken (after_finish r)

-- What the call x answers and hands back, for any schema and any reading.
abbrev pub CallMeans : Schema → Reading → Event → Next → Type 0
CallMeans S r x n = Ordered (questions S r x) (TakenBy S r x) n
