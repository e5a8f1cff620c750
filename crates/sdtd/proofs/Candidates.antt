-- The types that can come next after some children, computed.
use mathlib.Core.Path.{◌≡◌, refl}
use mathlib.Core.Logic.{◌↔◌}
use mathlib.Core.Bool.{Bool, ◌&&◌}
use mathlib.Core.List.Memᴰ
use mathlib.Core.List.{List, [], ◌∷◌, Memᴰ, cons≢nil}
use Prim.Native.Nat.{ℕ}
use lib.Dec.{eqb}
use Rattle.sdtd.specs.Schema.{step, Step, Schema, block_of, tag_of, stay, go}
use Rattle.sdtd.specs.Tree.{Kind, plain, nil}
use Rattle.sdtd.specs.Trim.{BearsBy, Live}
use Rattle.sdtd.proofs.Automata.{accepts_after, accepts_split, first_step}
use Rattle.sdtd.proofs.Machine.{Owner, top, own}
use Rattle.sdtd.proofs.Follow.{Candidate, no_candidate}
use Rattle.sdtd.proofs.Next.{candidate_outside}
use Rattle.sdtd.proofs.Tests.{Means, eq_means, and_means, Found, collect, collect-mem, memb, memb_means}
use Rattle.sdtd.proofs.Decide.{LiveTable, in_table, opens_in, LiveExact, states_after, start_after}

-- the step of the type a leaves a state of the list, by a type of tag g that bears a tree opened so, for a live state
abbrev opening_test : Schema → LiveTable → ℕ → List ℕ → Kind → ℕ → Step → Bool
opening_test S L a ps κ g s = (memb s.from ps && eqb (tag_of S s.by) g) && (opens_in S L κ s.by && in_table L a s.to)

-- the types of tag g that, opened so, can come next after the children w of the owner
abbrev pub opening_types : Schema → LiveTable → Owner → List ℕ → Kind → ℕ → List ℕ
opening_types S L top [] κ g = collect (λ j. eqb (tag_of S j) g && opens_in S L κ j) (λ j. j) S.roots
opening_types S L top (j ∷ w) κ g = []
opening_types S L (own plain a) w κ g = collect (opening_test S L a (states_after (block_of S a) (0 ∷ []) w) κ g) (λ s. s.by) (block_of S a).steps
opening_types S L (own nil a) w κ g = []

-- what the test says of a step, where the states of the list are those that w leads to
abbrev Opens : Schema → ℕ → List ℕ → Kind → ℕ → Step → Type 0
Opens S a w κ g s =
    (Memᴰ s.from (states_after (block_of S a) (0 ∷ []) w) × (tag_of S s.by ≡ g)) × (BearsBy S κ s.by × Live S a s.to)

opens_means : {S : Schema} {L : LiveTable} → LiveExact S L → (a : ℕ) (w : List ℕ) (κ : Kind) (g : ℕ) (s : Step)
    → Means (opening_test S L a (states_after (block_of S a) (0 ∷ []) w) κ g s) (Opens S a w κ g s)
opens_means {S} x a w κ g s =
    and_means
    (and_means (memb_means s.from (states_after (block_of S a) (0 ∷ []) w)) (eq_means (tag_of S s.by) g))
    (and_means (x.opens κ s.by) (x.live a s.to))

-- such a step by the type j
abbrev Opening : Schema → ℕ → List ℕ → Kind → ℕ → ℕ → Type 0
Opening S a w κ g j = Found (λ s. Opens S a w κ g s × (j ≡ s.by)) (block_of S a).steps

opening_candidate : {S : Schema} (a : ℕ) (w : List ℕ) {κ : Kind} {g j : ℕ}
    → Opening S a w κ g j → (tag_of S j ≡ g) × Candidate S (own plain a) w κ j
opening_candidate {S} a w f =
    let s = f.member in
    let h = f.holds.0 in
    let r = h.1.1 in
    rw f.holds.1 (
      h.0.1,
      record {
        rest = r.word;
        fills = accepts_after ((start_after (block_of S a) w s.from).0 h.0.0) (accepts_after (go f.given stay) r.accepts);
        bears = h.1.0;
        bear = r.bear;
      },
    )

candidate_opening : {S : Schema} (a : ℕ) (w : List ℕ) {κ : Kind} {g j : ℕ}
    → (tag_of S j ≡ g) × Candidate S (own plain a) w κ j → Opening S a w κ g j
candidate_opening {S} a w {j = j} c =
    let v = accepts_split w c.1.fills in
    let f = first_step v.back.leads in
    let live : Live S a f.next =
    record {
      word = c.1.rest;
      accepts = record { last = v.back.last; leads = f.back; accepting = v.back.accepting };
      bear = c.1.bear;
    } in
    record {
      member = step v.middle j f.next;
      given = f.step;
      holds = ((((start_after (block_of S a) w v.middle).1 v.front, c.0), (c.1.bears, live)), refl);
    }

-- they are exactly the candidates of that tag
pub opening_types_lem : {S : Schema} {L : LiveTable} → LiveExact S L → (o : Owner) (w : List ℕ) (κ : Kind) (g j : ℕ)
    → Memᴰ j (opening_types S L o w κ g) ↔ ((tag_of S j ≡ g) × Candidate S o w κ j)
opening_types_lem {S} x top [] κ g j =
    let m = collect-mem (λ i. and_means (eq_means (tag_of S i) g) (x.opens κ i)) (λ i. i) S.roots j in (
      λ h.
          let f = m.0 h in
          rw f.holds.1 (f.holds.0.0, candidate_outside.1 (refl, f.given, f.holds.0.1)),
      λ c.
          let o = candidate_outside.0 c.1 in
          m.1 (record { member = j; given = o.1; holds = ((c.0, o.2), refl) }),
    )
opening_types_lem x top (i ∷ w) κ g j = (λ h. absurd (Memᴰ.not-nil h), λ c. absurd (cons≢nil (candidate_outside.0 c.1).0))
opening_types_lem x (own nil a) w κ g j = (λ h. absurd (Memᴰ.not-nil h), λ c. absurd (no_candidate c.1))
opening_types_lem {S} x (own plain a) w κ g j =
    let m = collect-mem (opens_means x a w κ g) (λ s. s.by) (block_of S a).steps j in
    (λ h. opening_candidate a w (m.0 h), λ c. m.1 (candidate_opening a w c))
