-- Where there is competition, there is a witness; and all witnesses of a schema have one A and words of one length.
use mathlib.Core.Path.{◌≡◌, refl, ap, subst}
use mathlib.Core.Logic.{⊎_elim}
use mathlib.Core.List.{List, []}
use Prim.Native.Nat.{ℕ, ◌≤◌}
use native.Mathlib.Nat.{le_antisymm}
use native.Mathlib.Omega.{arith}
use lib.Dec.{lit≤}
use lib.ListN.{length}
use Rattle.sdtd.specs.Limits.{most_word}
use Rattle.sdtd.specs.Schema.{Schema, WithinLimits}
use Rattle.sdtd.specs.Competition.{Compete, CompeteIn, CompeteOutside, Competition, of_roots, in_type, witness_bytes, no_parent}
use Rattle.sdtd.specs.Competition.{RootsWitness, TypesWitness, Witness, by_roots, by_types}
use Rattle.sdtd.proofs.Rivals.{compete_in_exact, different_compete, different_word}
use Rattle.sdtd.proofs.Short.{short_pair_most}
use Rattle.sdtd.proofs.Smallest.{smallest_of}
use Rattle.sdtd.proofs.Within.{bears_within}
use Rattle.sdtd.proofs.Competing.{compete_decided, outside_decided}
use Rattle.sdtd.proofs.Shortest.{shortest_in}

-- inside the limits, where two types compete in a, two compete in it after a word of at most `most_word` types
short_in : {S : Schema} {a : ℕ} → WithinLimits S → CompeteIn S a → (c : CompeteIn S a) × (length c.word ≤ most_word)
short_in w c =
    let r = compete_in_exact.0 c in
    let s = short_pair_most (bears_within w r.useful.1).1 r.pair in (
      different_compete r.useful s.pair r.rivals r.different,
      rw (different_word r.useful s.pair r.rivals r.different) (omega (arith, s.short)),
    )

-- .. the smallest such type, and a shortest word in it
types_witness : {S : Schema} {a : ℕ} → WithinLimits S → CompeteIn S a → (bytes : List ℕ) × TypesWitness S bytes
types_witness {S} {a} w c =
    let l = smallest_of (compete_decided S) a c in
    let s = short_in w l.holds in
    let least = shortest_in l.holds in
    let x = least.compete_in in (
      witness_bytes l.number x.first x.second x.word,
      record {
        type = l.number;
        first = x.first;
        second = x.second;
        word = x.word;
        compete = x.compete;
        smallest = l.smallest;
        shortest = λ other. omega (arith, least.shortest other);
        short = omega (arith, least.shortest s.0, s.1);
        written = refl;
      },
    )

roots_witness : {S : Schema} → CompeteOutside S → (bytes : List ℕ) × Witness S bytes
roots_witness o = (
  witness_bytes no_parent o.first o.second [],
  by_roots (record { first = o.first; second = o.second; compete = o.compete; written = refl }),
)

pub witness_exists : (S : Schema) → WithinLimits S → Competition S → (bytes : List ℕ) × Witness S bytes
witness_exists S w (of_roots o) = roots_witness o
witness_exists S w (in_type c) =
    ⊎_elim
    roots_witness
    (λ none. let x = types_witness w c in (x.0, by_types none x.1))
    (outside_decided S)

-- a witness has the smallest type
type_at_most : {S : Schema} {b c : List ℕ} (x : TypesWitness S b) (y : TypesWitness S c) → x.type ≤ y.type
type_at_most x y = x.smallest y.type (record { word = y.word; first = y.first; second = y.second; compete = y.compete })

-- so two witnesses of a schema have one type
same_type : {S : Schema} {b c : List ℕ} (x : TypesWitness S b) (y : TypesWitness S c) → x.type ≡ y.type
same_type x y = le_antisymm (type_at_most x y) (type_at_most y x)

-- .. and a shortest word in it
length_at_most : {S : Schema} {b c : List ℕ} (x : TypesWitness S b) (y : TypesWitness S c) → length x.word ≤ length y.word
length_at_most {S} x y =
    let in_one = subst (λ (a : ℕ). Compete S a y.word y.first y.second) (same_type y x) y.compete in
    omega (arith, x.shortest (record { word = y.word; first = y.first; second = y.second; compete = in_one }))

-- the parts of a witness: the byte A, the two types that compete, and the word
pub record Parts (bytes : List ℕ) : Type 0 where
  pub parent : ℕ
  pub first : ℕ
  pub second : ℕ
  pub word : List ℕ
  pub short : length word ≤ most_word
  pub written : bytes ≡ witness_bytes parent first second word

abbrev pub parts_of : {S : Schema} {bytes : List ℕ} → Witness S bytes → Parts bytes
parts_of (by_roots x) =
    record { parent = no_parent; first = x.first; second = x.second; word = []; short = lit≤ tt; written = x.written }
parts_of (by_types none x) =
    record { parent = x.type; first = x.first; second = x.second; word = x.word; short = x.short; written = x.written }

outside : {S : Schema} {bytes : List ℕ} → RootsWitness S bytes → CompeteOutside S
outside x = record { first = x.first; second = x.second; compete = x.compete }

-- the witnesses of a schema have one A
pub same_parent : {S : Schema} {b c : List ℕ} (x : Witness S b) (y : Witness S c) → (parts_of x).parent ≡ (parts_of y).parent
same_parent (by_roots x) (by_roots y) = refl
same_parent (by_roots x) (by_types none y) = absurd (none (outside x))
same_parent (by_types none x) (by_roots y) = absurd (none (outside y))
same_parent (by_types none x) (by_types also y) = same_type x y

-- .. and words of one length
pub same_length : {S : Schema} {b c : List ℕ} (x : Witness S b) (y : Witness S c) → length (parts_of x).word ≡ length (parts_of y).word
same_length (by_roots x) (by_roots y) = refl
same_length (by_roots x) (by_types none y) = absurd (none (outside x))
same_length (by_types none x) (by_roots y) = absurd (none (outside y))
same_length (by_types none x) (by_types also y) = le_antisymm (length_at_most x y) (length_at_most y x)

-- .. and are as many bytes
pub same_size : {S : Schema} {b c : List ℕ} → Witness S b → Witness S c → length b ≡ length c
same_size x y = omega (arith, ap length (parts_of x).written, ap length (parts_of y).written, same_length x y)
