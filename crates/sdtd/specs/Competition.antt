-- Document 01, "Competition"; source document 000, definition 4, calls its absence in types restrained competition. That of roots is document 02's:
-- in 000 a schema has one start symbol.
use Rattle.std.specs.Prelude.{◌≡◌, List, [], ◌∷◌, ◌++◌, ℕ, ◌+◌, ◌*◌, ◌/◌, ◌%◌, ◌≤◌, ◌<◌, min, max, length}
use Rattle.sdtd.specs.Limits.{most_word}
use Rattle.sdtd.specs.Schema.{Schema, block_of, tag_of, Nillable, Word, WithinLimits}
use Rattle.sdtd.specs.Tree.{plain, IsRoot}
use Rattle.sdtd.specs.Trim.{Bears, BearsBy, SomeRootBears, AllBear, Reached}

-- A word of a's automaton over tree-bearing types that begins with w and then j; the rest may be empty.
pub record GoesOn (S : Schema) (a : ℕ) (w : List ℕ) (j : ℕ) : Type 0 where
  pub rest : List ℕ
  pub word : Word (block_of S a) (w ++ (j ∷ rest))
  pub bear : AllBear S (w ++ (j ∷ rest))

-- "Two types compete only if both are nillable or both bear a tree opened by 21; for roots likewise."
pub data OpenedAlike (S : Schema) (j k : ℕ) : Type 0 where
  both_nillable : Nillable S j → Nillable S k → OpenedAlike S j k
  both_plain : BearsBy S plain j → BearsBy S plain k → OpenedAlike S j k

-- "Types J < K of one tag compete in a reached type A, which bears a tree, after a word beginning w, if A's automaton has words w J u and
-- w K v over tree-bearing types. w, u and v may be empty."
pub record Compete (S : Schema) (a : ℕ) (w : List ℕ) (j k : ℕ) : Type 0 where
  pub reached : Reached S a
  pub bears : Bears S a
  pub order : j < k
  pub one_tag : tag_of S j ≡ tag_of S k
  pub alike : OpenedAlike S j k
  pub goes_on_j : GoesOn S a w j
  pub goes_on_k : GoesOn S a w k

-- two types compete in the type a
pub record CompeteIn (S : Schema) (a : ℕ) : Type 0 where
  pub word : List ℕ
  pub first : ℕ
  pub second : ℕ
  pub compete : Compete S a word first second

-- "Tree-bearing roots of one tag compete": J < K, which bear trees opened alike
pub record RootsCompete (S : Schema) (j k : ℕ) : Type 0 where
  pub order : j < k
  pub one_tag : tag_of S j ≡ tag_of S k
  pub is_root_j : IsRoot S j
  pub is_root_k : IsRoot S k
  pub alike : OpenedAlike S j k

-- two roots compete: outside every element, before the first opening
pub record CompeteOutside (S : Schema) : Type 0 where
  pub first : ℕ
  pub second : ℕ
  pub compete : RootsCompete S first second

-- "Is there no competition?" No: of two roots, or of two types in a type
pub data Competition (S : Schema) : Type 0 where
  of_roots : CompeteOutside S → Competition S
  in_type : {a : ℕ} → CompeteIn S a → Competition S

-- "The search goes over unordered pairs of states: for p ≥ q the pair has number p(p+1)/2 + q": the larger state is p.
abbrev pub pair_number : ℕ → ℕ → ℕ
pair_number s t = max s t * (max s t + 1) / 2 + min s t

-- "The witness has byte A, byte J, byte K, the length n of w in two bytes, low byte first, then w, one byte a type, from byte 5 on."
abbrev pub witness_bytes : ℕ → ℕ → ℕ → List ℕ → List ℕ
witness_bytes a j k w = a ∷ j ∷ k ∷ length w % 256 ∷ length w / 256 ∷ w

-- The byte A where two roots compete, which is no type's number: "the witness has 255 for A".
abbrev pub no_parent : ℕ
no_parent = 255

-- The bytes are a witness of competing roots: "255 for A and n = 0".
pub record RootsWitness (S : Schema) (bytes : List ℕ) : Type 0 where
  pub first : ℕ
  pub second : ℕ
  pub compete : RootsCompete S first second
  pub written : bytes ≡ witness_bytes no_parent first second []

-- The bytes are a witness of types that compete in a type: J and K compete in A after w. "A is the smallest type in which two compete." w is
-- shortest: "every other beginning after which two types of one tag compete in that same type A has at least as many types. J and K remain
-- free." "w has at most 527 types."
pub record TypesWitness (S : Schema) (bytes : List ℕ) : Type 0 where
  pub type : ℕ
  pub first : ℕ
  pub second : ℕ
  pub word : List ℕ
  pub compete : Compete S type word first second
  pub smallest : (a : ℕ) → CompeteIn S a → type ≤ a
  pub shortest : (other : CompeteIn S type) → length word ≤ length other.word
  pub short : length word ≤ most_word
  pub written : bytes ≡ witness_bytes type first second word

-- The bytes are a witness of S. "Tree-bearing roots of one tag compete, and that is looked at before all else under 9".
pub data Witness (S : Schema) (bytes : List ℕ) : Type 0 where
  by_roots : RootsWitness S bytes → Witness S bytes
  by_types : ¬ CompeteOutside S → TypesWitness S bytes → Witness S bytes

-- What a reading needs of a schema, and every accepted file's has: it is inside the limits, which questions 1 to 7 and 21 to 23 see to, and passes
-- questions 8 and 9: a root bears a tree, and "Is there no competition?" A file is asked 24 too, whether each type is used (`EveryTypeUsed`).
pub record Accepted (S : Schema) : Type 0 where
  pub within : WithinLimits S
  pub bears : SomeRootBears S
  pub no_competition : ¬ Competition S
