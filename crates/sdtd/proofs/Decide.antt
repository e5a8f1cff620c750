-- Tests of a schema that compute, with what they say: live states, tree-bearing types, words and the absence of competition.
use mathlib.Core.Path.{◌≡◌, refl, sym, subst}
use mathlib.Core.Logic.{◌↔◌, ◌⊎◌, inl, inr, ⊎_elim, ◌≢◌}
use mathlib.Core.Bool.{Bool, true, ◌&&◌, ◌||◌}
use mathlib.Core.List.Memᴰ
use mathlib.Core.List.{List, [], ◌∷◌, Memᴰ}
use Prim.Native.Nat.{ℕ, zero, suc}
use lib.ListN.{get_or}
use lib.Dec.{T, eqb}
use Rattle.sdtd.specs.Schema.{Step, step, Block, Schema, no_block, block_of, tag_of, Leads, stay, go, Word}
use Rattle.sdtd.specs.Tree.{Kind, plain, nil}
use Rattle.sdtd.specs.Trim.{Bears, BearsBy, Live}
use Rattle.sdtd.specs.Competition.{OpenedAlike, both_nillable, both_plain, CompeteIn}
use Rattle.sdtd.proofs.Bearing.{nil_bears}
use Rattle.sdtd.proofs.Fixpoint.{Starts, starts_map, LiveClosed, live_closed, live_exact, plain_exact, bears_exact, PairClosed}
use Rattle.sdtd.proofs.Rivals.{RivalSteps, no_rivals}
use Rattle.sdtd.proofs.Tests.{Means, means_iff, itself, eq_means, and_means, or_means, ◌⇒◌, if_means, Found, every, any}
use Rattle.sdtd.proofs.Tests.{every_means, any_means, collect, collect-mem, memb, memb_means}

-- a table of live states: each entry is a type and one of its states
abbrev pub LiveTable : Type 0
LiveTable = List (ℕ × ℕ)

-- the pair is in the list: the state q of the type a in a table, or the states of a pair
abbrev pub in_table : LiveTable → ℕ → ℕ → Bool
in_table L a q = any (λ e. eqb a e.0 && eqb q e.1) L

abbrev pub In : List (ℕ × ℕ) → ℕ → ℕ → Type 0
In L a q = Memᴰ {A = ℕ × ℕ} (a, q) L

pub in_means : (L : List (ℕ × ℕ)) (a q : ℕ) → Means (in_table L a q) (In L a q)
in_means L a q =
    let m = any_means (λ e. and_means (eq_means a e.0) (eq_means q e.1)) L in
    record {
      says = λ t. let r = m.says t in Memᴰ.cast (λ i. (r.holds.0 i, r.holds.1 i)) r.given;
      passes = λ h. m.passes (record { member = (a, q); given = h; holds = (refl, refl) });
    }

-- by the table, the type j bears a tree opened so
abbrev pub opens_in : Schema → LiveTable → Kind → ℕ → Bool
opens_in S L plain j = in_table L j 0
opens_in S L nil j = (block_of S j).nillable

-- .. and a tree
abbrev pub bears_in : Schema → LiveTable → ℕ → Bool
bears_in S L j = opens_in S L plain j || opens_in S L nil j

bears_in_means : (S : Schema) (L : LiveTable) (j : ℕ) → Means (bears_in S L j) (Starts S (In L) j)
bears_in_means S L j = or_means (in_means L j 0) (itself (block_of S j).nillable)

-- the entry is an accepting state, or a step by a type that starts in the table leads from it to a state in the table
abbrev pub sound_entry : Schema → LiveTable → ℕ × ℕ → Bool
sound_entry S L e =
    memb e.1 (block_of S e.0).accepting
    || any (λ s. eqb e.1 s.from && (bears_in S L s.by && in_table L e.0 s.to)) (block_of S e.0).steps

-- each entry rests on later ones
abbrev sound_table : Schema → LiveTable → Bool
sound_table S [] = true
sound_table S (e ∷ L) = sound_entry S L e && sound_table S L

-- the table has the accepting states of the block of a, and the state before each step into the table by a type that starts in it
abbrev closed_block : Schema → LiveTable → ℕ → Block → Bool
closed_block S L a b =
    every (in_table L a) b.accepting
    && every (λ s. bears_in S L s.by ⇒ in_table L a s.to ⇒ in_table L a s.from) b.steps

-- each block passes the test with its number
abbrev every_block : (ℕ → Block → Bool) → List Block → Bool
every_block f [] = true
every_block f (b ∷ bs) = f 0 b && every_block (λ a. f (suc a)) bs

-- the table is sound and closed
abbrev pub live_check : Schema → LiveTable → Bool
live_check S L = sound_table S L && every_block (closed_block S L) S.blocks

-- where the test holds of the block of no type, each block passes exactly if the test holds at every number
blocks_mean : {f : ℕ → Block → Bool} {P : ℕ → Block → Type 0} → ((a : ℕ) (b : Block) → Means (f a b) (P a b)) → ((a : ℕ) → P a no_block)
    → (bs : List Block) → Means (every_block f bs) ((a : ℕ) → P a (get_or bs a no_block))
blocks_mean m z [] = record { says = λ t. z; passes = λ h. tt }
blocks_mean m z (b ∷ bs) =
    let r = and_means (m 0 b) (blocks_mean (λ k. m (suc k)) (λ k. z (suc k)) bs) in
    record {
      says = λ t. elim [ zero ↦ (r.says t).0 | suc k ↦ (r.says t).1 k ];
      passes = λ h. r.passes (h 0, λ a. h (suc a));
    }

-- what the test of an entry says
abbrev pub Entry : Schema → LiveTable → ℕ × ℕ → Type 0
Entry S L e =
    Memᴰ e.1 (block_of S e.0).accepting
    ⊎ Found (λ s. (e.1 ≡ s.from) × (Starts S (In L) s.by × In L e.0 s.to)) (block_of S e.0).steps

pub entry_means : (S : Schema) (L : LiveTable) (e : ℕ × ℕ) → Means (sound_entry S L e) (Entry S L e)
entry_means S L e =
    or_means
    (memb_means e.1 (block_of S e.0).accepting)
    (any_means
    (λ s. and_means (eq_means e.1 s.from) (and_means (bears_in_means S L s.by) (in_means L e.0 s.to)))
    (block_of S e.0).steps)

pub entry_live : {S : Schema} {L : LiveTable} (e : ℕ × ℕ) → ((a q : ℕ) → In L a q → Live S a q) → Entry S L e → Live S e.0 e.1
entry_live e below (inl h) = live_closed.accepting e.0 e.1 h
entry_live {S} e below (inr f) =
    let s = f.member in
    let h = f.holds.1 in
    rw f.holds.0 (live_closed.step e.0 s f.given (starts_map S below s.by h.0) (below e.0 s.to h.1))

table_sound : (S : Schema) (L : LiveTable) → T (sound_table S L) → (a q : ℕ) → In L a q → Live S a q
table_sound S [] t a q m = absurd (Memᴰ.not-nil m)
table_sound S (e ∷ L) t a q m =
    let r = (and_means (entry_means S L e) (itself (sound_table S L))).says t in
    let below = table_sound S L r.1 in
    let live = entry_live e below r.0 in
    ⊎_elim (λ h. subst (λ (x : ℕ × ℕ). Live S x.0 x.1) (sym h) live) (below a q) (Memᴰ.cases_cons m)

-- what the test of a block says
abbrev Closed : Schema → LiveTable → ℕ → Block → Type 0
Closed S L a b =
    ((q : ℕ) → Memᴰ q b.accepting → In L a q)
    × ((s : Step) → Memᴰ s b.steps → Starts S (In L) s.by → In L a s.to → In L a s.from)

closed_means : (S : Schema) (L : LiveTable) (a : ℕ) (b : Block) → Means (closed_block S L a b) (Closed S L a b)
closed_means S L a b =
    and_means
    (every_means (in_means L a) b.accepting)
    (every_means (λ s. if_means (bears_in_means S L s.by) (if_means (in_means L a s.to) (in_means L a s.from))) b.steps)

table_closed : (S : Schema) (L : LiveTable) → T (every_block (closed_block S L) S.blocks) → LiveClosed S (In L)
table_closed S L t =
    let m = blocks_mean (closed_means S L) (λ a. (λ q h. absurd (Memᴰ.not-nil h), λ s h. absurd (Memᴰ.not-nil h))) S.blocks in
    record { accepting = λ a. (m.says t a).0; step = λ a. (m.says t a).1 }

-- The table has exactly the live states, and says of exactly the tree-bearing types that they bear a tree, and opened how.
pub record LiveExact (S : Schema) (L : LiveTable) : Type 0 where
  pub live : (a q : ℕ) → Means (in_table L a q) (Live S a q)
  pub opens : (κ : Kind) (a : ℕ) → Means (opens_in S L κ a) (BearsBy S κ a)
  pub bears : (a : ℕ) → Means (bears_in S L a) (Bears S a)

-- a sound and closed table has exactly those
pub table_exact : {S : Schema} {L : LiveTable} → LiveClosed S (In L) → ((a q : ℕ) → In L a q → Live S a q) → LiveExact S L
table_exact {S} {L} closed sound =
    record {
      live = λ a q. means_iff (in_means L a q) (live_exact closed sound a q);
      opens = opens;
      bears = λ a. means_iff (bears_in_means S L a) (bears_exact closed sound a);
    }
  where
    opens : (κ : Kind) (a : ℕ) → Means (opens_in S L κ a) (BearsBy S κ a)
    opens plain a = means_iff (in_means L a 0) (plain_exact closed sound a)
    opens nil a = means_iff (itself (block_of S a).nillable) nil_bears

-- by the table, the types bear trees opened alike
abbrev pub alike_in : Schema → LiveTable → ℕ → ℕ → Bool
alike_in S L j k = (opens_in S L nil j && opens_in S L nil k) || (opens_in S L plain j && opens_in S L plain k)

pub alike_means : {S : Schema} {L : LiveTable} → LiveExact S L → (j k : ℕ) → Means (alike_in S L j k) (OpenedAlike S j k)
alike_means {S} x j k =
    means_iff
    (or_means
    (and_means (itself (block_of S j).nillable) (itself (block_of S k).nillable))
    (and_means (x.opens plain j) (x.opens plain k))) (
      λ a. elim a [ both_nillable m n ↦ inl (m, n) | both_plain b c ↦ inr (b, c) ],
      λ s. ⊎_elim (λ n. both_nillable n.0 n.1) (λ b. both_plain b.0 b.1) s,
    )

pub live_check_lem : (S : Schema) (L : LiveTable) → T (live_check S L) → LiveExact S L
live_check_lem S L t =
    let r = (and_means (itself (sound_table S L)) (itself (every_block (closed_block S L) S.blocks))).says t in
    table_exact (table_closed S L r.1) (table_sound S L r.0)

-- the states that the steps by j from a state of the list lead to
abbrev next_states : Block → List ℕ → ℕ → List ℕ
next_states b ps j = collect (λ s. memb s.from ps && eqb s.by j) (λ s. s.to) b.steps

-- the states that the types of w lead to from a state of the list
abbrev pub states_after : Block → List ℕ → List ℕ → List ℕ
states_after b ps [] = ps
states_after b ps (j ∷ w) = states_after b (next_states b ps j) w

-- the types of w lead from a state of the list to q
pub record LedFrom (b : Block) (ps w : List ℕ) (q : ℕ) : Type 0 where
  pub start : ℕ
  pub given : Memᴰ start ps
  pub leads : Leads b start w q

next_mem : (b : Block) (ps : List ℕ) (j q : ℕ)
    → Memᴰ q (next_states b ps j) ↔ Found (λ s. (Memᴰ s.from ps × (s.by ≡ j)) × (q ≡ s.to)) b.steps
next_mem b ps j q = collect-mem (λ s. and_means (memb_means s.from ps) (eq_means s.by j)) (λ s. s.to) b.steps q

led_from : (b : Block) (ps w : List ℕ) {q : ℕ} → Memᴰ q (states_after b ps w) → LedFrom b ps w q
led_from b ps [] {q} m = record { start = q; given = m; leads = stay }
led_from b ps (j ∷ w) m =
    let r = led_from b (next_states b ps j) w m in
    let f = (next_mem b ps j r.start).0 r.given in
    record {
      start = f.member.from;
      given = f.holds.0.0;
      leads =
          go
          (Memᴰ.cast (λ i. step f.member.from (sym f.holds.0.1 i) (f.holds.1 i)) f.given)
          r.leads;
    }

in_states_after : {b : Block} {p q : ℕ} {w : List ℕ} → Leads b p w q → (ps : List ℕ) → Memᴰ p ps → Memᴰ q (states_after b ps w)
in_states_after stay ps m = m
in_states_after {b} (go {p = p} {j = j} {q = q} s l) ps m =
    in_states_after l (next_states b ps j)
    ((next_mem b ps j q).1 (record { member = step p j q; given = s; holds = ((m, refl), refl) }))

-- the states that the types of w lead to from the start state
pub start_after : (b : Block) (w : List ℕ) (q : ℕ) → Memᴰ q (states_after b (0 ∷ []) w) ↔ Leads b 0 w q
start_after b w q = (
  λ m. let r = led_from b (0 ∷ []) w m in subst (λ (p : ℕ). Leads b p w q) (Memᴰ.eq_of_singleton r.given) r.leads,
  λ l. in_states_after l (0 ∷ []) (Memᴰ.head refl),
)

-- w is a word of the block
abbrev pub acceptsb : Block → List ℕ → Bool
acceptsb b w = any (λ q. memb q b.accepting) (states_after b (0 ∷ []) w)

pub accepts_means : (b : Block) (w : List ℕ) → Means (acceptsb b w) (Word b w)
accepts_means b w =
    means_iff
    (any_means (λ q. memb_means q b.accepting) (states_after b (0 ∷ []) w)) (
      λ x. record { member = x.last; given = (start_after b w x.last).1 x.leads; holds = x.accepting },
      λ f. record { last = f.member; leads = (start_after b w f.member).0 f.given; accepting = f.holds },
    )

-- A pair of states, with steps by tree-bearing types from its first and from its second state: where the types are one, the pair that
-- follows is in the list; where the steps are rivals into live states, the types are one.
abbrev pair_test : Schema → LiveTable → List (ℕ × ℕ) → ℕ → Step → Step → ℕ × ℕ → Bool
pair_test S L ps a s t e =
    eqb e.0 s.from ⇒ eqb e.1 t.from
    ⇒ (eqb s.by t.by ⇒ in_table ps s.to t.to)
    && (eqb (tag_of S s.by) (tag_of S t.by) ⇒ alike_in S L s.by t.by ⇒ in_table L a s.to ⇒ in_table L a t.to ⇒ eqb s.by t.by)

-- the pairs of the block of a: (0, 0) and those of the certificate
abbrev pairs_of : List (List (ℕ × ℕ)) → ℕ → List (ℕ × ℕ)
pairs_of pairs a = (0, 0) ∷ get_or pairs a []

abbrev restrained_block : Schema → LiveTable → List (ℕ × ℕ) → ℕ → Block → Bool
restrained_block S L ps a b =
    every (λ s. bears_in S L s.by ⇒ every (λ t. bears_in S L t.by ⇒ every (pair_test S L ps a s t) ps) b.steps) b.steps

-- The certificate has, for each block, the pairs of states besides (0, 0) that one word leads to: they are closed, and none has rival
-- steps by different types. It may end early: a block that it does not reach has (0, 0) alone.
abbrev pub restrained : Schema → LiveTable → List (List (ℕ × ℕ)) → Bool
restrained S L pairs = every_block (λ a. restrained_block S L (pairs_of pairs a) a) S.blocks

-- what the test of a pair says
record PairFree (S : Schema) (ps : List (ℕ × ℕ)) (a : ℕ) (s t : Step) : Type 0 where
  follows : s.by ≡ t.by → In ps s.to t.to
  same : tag_of S s.by ≡ tag_of S t.by → OpenedAlike S s.by t.by → Live S a s.to → Live S a t.to → s.by ≡ t.by

pair_means : {S : Schema} {L : LiveTable} → LiveExact S L → (ps : List (ℕ × ℕ)) (a : ℕ) (s t : Step) (e : ℕ × ℕ)
    → Means (pair_test S L ps a s t e) (e.0 ≡ s.from → e.1 ≡ t.from → PairFree S ps a s t)
pair_means {S} x ps a s t e =
    let one = eq_means s.by t.by in
    let follows = if_means one (in_means ps s.to t.to) in
    let tags = eq_means (tag_of S s.by) (tag_of S t.by) in
    let alike = alike_means x s.by t.by in
    let same = if_means tags (if_means alike (if_means (x.live a s.to) (if_means (x.live a t.to) one))) in
    let parts = and_means follows same in
    let free = means_iff {B = PairFree S ps a s t} parts (λ f. (f.follows, f.same), λ p. record { follows = p.0; same = p.1 }) in
    if_means (eq_means e.0 s.from) (if_means (eq_means e.1 t.from) free)

-- what the test of a block says
abbrev Restrained : Schema → List (ℕ × ℕ) → ℕ → Block → Type 0
Restrained S ps a b =
    (s : Step) → Memᴰ s b.steps → Bears S s.by → (t : Step) → Memᴰ t b.steps → Bears S t.by
    → (e : ℕ × ℕ) → Memᴰ e ps → e.0 ≡ s.from → e.1 ≡ t.from → PairFree S ps a s t

restrained_means : {S : Schema} {L : LiveTable} → LiveExact S L → (ps : List (ℕ × ℕ)) (a : ℕ) (b : Block)
    → Means (restrained_block S L ps a b) (Restrained S ps a b)
restrained_means x ps a b =
    every_means
    (λ s. if_means (x.bears s.by) (every_means (λ t. if_means (x.bears t.by) (every_means (pair_means x ps a s t) ps)) b.steps))
    b.steps

pub restrained_check : {S : Schema} {L : LiveTable} → LiveExact S L → (pairs : List (List (ℕ × ℕ))) → T (restrained S L pairs)
    → (a : ℕ) → ¬ CompeteIn S a
restrained_check {S} x pairs t a c = no_rivals closed free c
  where
    ps : List (ℕ × ℕ)
    ps = pairs_of pairs a

    block : Restrained S ps a (block_of S a)
    block = (blocks_mean (λ k. restrained_means x (pairs_of pairs k) k) (λ k s h. absurd (Memᴰ.not-nil h)) S.blocks).says t a

    closed : PairClosed S a (In ps)
    closed =
        record {
          start = Memᴰ.head refl;
          step = λ p q j p' q' h m n b. (block (step p j p') m b (step q j q') n b (p, q) h refl refl).follows refl;
        }

    free : (p q j k : ℕ) → In ps p q → RivalSteps S a p q j k → ¬ (j ≢ k)
    free p q j k h r d =
        let f = block (step p j r.next_j) r.step_j r.bears_j (step q k r.next_k) r.step_k r.bears_k (p, q) h refl refl in
        d (f.same r.one_tag r.alike r.live_j r.live_k)
