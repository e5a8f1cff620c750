-- Competition is ambiguity, in both directions; and every useful type is used by a valid document.
use mathlib.Core.Path.{◌≡◌, refl, sym, subst, ◌∙◌}
use mathlib.Core.Logic.{◌↔◌, ⊎_elim}
use mathlib.Core.List.Memᴰ
use mathlib.Core.List.{List, [], ◌∷◌, ◌++◌, append_assoc, map-append, Memᴰ}
use Prim.Native.Nat.{ℕ, ◌<◌}
use native.Mathlib.Omega.{arith}
use lib.ListN.{length, get_or, get_or-append}
use lib.Seq.{get_or_at}
use Rattle.sdtd.specs.Schema.{Schema, block_of, tag_of, Word}
use Rattle.sdtd.specs.Tree.{Kind, plain, nil, empty, IsRoot}
use Rattle.sdtd.specs.Document.{Event, opening, streams, openings, Valid, type_at, BeginningOf, Ambiguous}
use Rattle.sdtd.specs.Trim.{BearsBy, AllBear, Reached, root, child, Used, Useful}
use Rattle.sdtd.specs.Competition.{GoesOn, Competition, of_roots, in_type}
use Rattle.sdtd.proofs.Automata.{all_front, around}
use Rattle.sdtd.proofs.Bearing.{grow, nil_bears, bears_either, shared}
use Rattle.sdtd.proofs.Trees.{opened, opened-append, length-opened, openings_relabel, openings-append}
use Rattle.sdtd.proofs.Machine.{Owner, top, own, one_root, Frame, frame, opens, Run, halt, move, start, run_append, forest_run}
use Rattle.sdtd.proofs.Machine.{Suspended, outer, inner, todo, suspended_run}
use Rattle.sdtd.proofs.Typed.{tagged, ValidTyped, run_valid}
use Rattle.sdtd.proofs.Follow.{bears_future, goes_on_future}
use Rattle.sdtd.proofs.Position.{Position, position, Onward, onward, onward_types, place_of}

-- the types of w are read as the innermost owner's first children
read_word : {S : Schema} {o : Owner} {w : List ℕ} (fs : List Frame) → AllBear S w
    → (τ : List Event) × Run S (frame o [] ∷ fs) τ (frame o w ∷ fs)
read_word {S} {o} {w} fs b =
    let g = grow b in
    let r = forest_run g.forest g.derived o [] fs in
    (streams g.forest, subst (λ (v : List ℕ). Run S (frame o [] ∷ fs) (streams g.forest) (frame o v ∷ fs)) g.at_roots r)

-- a typed reading that has just opened an element of the type a so, whose outer frames can be brought to an end
record Context (S : Schema) (κ : Kind) (a : ℕ) : Type 0 where
  events : List Event
  frames : List Frame
  run : Run S start events (frame (own κ a) [] ∷ frames)
  suspended : Suspended S frames
  given : Memᴰ a (opened events)

-- the outer frames after a child more of the innermost
after_word : {S : Schema} (κ : Kind) {a j : ℕ} {v : List ℕ} (x : Context S plain a) → GoesOn S a v j → Context S κ j
after_word {S} κ {a} {j} {v} x g =
    let r = read_word x.frames (all_front v (j ∷ g.rest) g.bear) in
    record {
      events = x.events ++ (r.0 ++ (opening κ j ∷ []));
      frames = frame (own plain a) (v ++ (j ∷ [])) ∷ x.frames;
      run = run_append x.run (run_append r.1 (move opens halt));
      suspended = inner (goes_on_future g) x.suspended;
      given = rw (opened-append, opened-append) (Memᴰ.append_right (opened x.events) (Memᴰ.append_right (opened r.0) (Memᴰ.head refl)));
    }

-- Each reached type has a context, opened either way.
context : {S : Schema} {a : ℕ} → Reached S a → (κ : Kind) → Context S κ a
context (root {a = a} e) κ =
    record {
      events = opening κ a ∷ [];
      frames = frame top (a ∷ []) ∷ [];
      run = move opens halt;
      suspended = outer (record { forest = empty; derived = tt; fills = one_root e });
      given = Memᴰ.head refl;
    }
context {S} (child {a = a} {j = j} {w = w} r word bear m) κ =
    let s = around m in
    after_word κ {v = s.front} (context r plain)
    (record {
      rest = s.back;
      word = subst (λ (v : List ℕ). Word (block_of S a) v) s.splits word;
      bear = subst (λ (v : List ℕ). AllBear S v) s.splits bear;
    })

-- a whole typed document that begins with the context
whole_run : {S : Schema} {κ : Kind} {a : ℕ} (x : Context S κ a) (b : BearsBy S κ a) → (ρ : List Event) × Run S start (x.events ++ ρ) []
whole_run x b = let s = inner (bears_future b) x.suspended in (todo s, run_append x.run (suspended_run s))

opened_used : {S : Schema} {a : ℕ} (κ : Kind) → Reached S a → BearsBy S κ a → Used S a
opened_used {S} κ r b =
    let x = context r κ in
    let t = whole_run x b in
    let v = run_valid t.1 in
    record {
      whole = tagged S (x.events ++ t.0);
      valid = v.valid;
      given = rw (v.types, opened-append) (Memᴰ.append_left (opened t.0) x.given);
    }

-- Item 3: every reached tree-bearing type is used by some valid document.
pub useful_used : {S : Schema} {a : ℕ} → Useful S a → Used S a
useful_used (r, b) = ⊎_elim (λ p. opened_used plain r p) (λ n. opened_used nil r (nil_bears.1 n)) (bears_either.0 b)

-- a whole typed document that opens j so after τ
record Branch (S : Schema) (τ : List Event) (κ : Kind) (j : ℕ) : Type 0 where
  rest : List Event
  run : Run S start (τ ++ (opening κ j ∷ rest)) []

branch_valid : {S : Schema} {τ : List Event} {κ : Kind} {j : ℕ} (x : Branch S τ κ j)
    → ValidTyped S (tagged S (τ ++ (opening κ j ∷ x.rest))) (opened (τ ++ (opening κ j ∷ x.rest)))
branch_valid x = run_valid x.run

branch_begins : {S : Schema} {τ : List Event} {κ : Kind} {j : ℕ} (x : Branch S τ κ j)
    → BeginningOf (tagged S τ ++ (opening κ (tag_of S j) ∷ [])) (tagged S (τ ++ (opening κ j ∷ x.rest)))
branch_begins {S} {τ} {κ} {j} x = record { rest = tagged S x.rest; splits = rw (map-append, append_assoc) }

branch_type : {S : Schema} {τ : List Event} {κ : Kind} {j : ℕ} (x : Branch S τ κ j) → type_at (branch_valid x).valid (openings (tagged S τ)) ≡ j
branch_type {S} {τ} {κ} {j} x =
    rw ((branch_valid x).types, opened-append)
    (get_or_at (opened τ) j (opened x.rest) 0 (openings (tagged S τ)) (length-opened τ ∙ sym (openings_relabel (tag_of S) τ)))

branch : {S : Schema} {κ : Kind} {a j : ℕ} {w : List ℕ} (x : Context S plain a) {τ : List Event}
    → Run S (frame (own plain a) [] ∷ x.frames) τ (frame (own plain a) w ∷ x.frames) → BearsBy S κ j → GoesOn S a w j
    → Branch S (x.events ++ τ) κ j
branch {S} {w = w} x {τ} r b g =
    let s = inner (bears_future b) (inner (goes_on_future g) x.suspended) in
    record { rest = todo s; run = run_append (run_append x.run r) (move opens (suspended_run s)) }

-- two whole typed documents that open j and k of one tag alike after the same events
branches_ambiguous : {S : Schema} {τ : List Event} {κ : Kind} {j k : ℕ} → j < k → tag_of S j ≡ tag_of S k → Branch S τ κ j → Branch S τ κ k
    → Ambiguous S
branches_ambiguous {S} {τ} {κ} {j} {k} order one_tag y z =
    record {
      document₁ = tagged S (τ ++ (opening κ j ∷ y.rest));
      document₂ = tagged S (τ ++ (opening κ k ∷ z.rest));
      valid₁ = (branch_valid y).valid;
      valid₂ = (branch_valid z).valid;
      before = tagged S τ;
      kind = κ;
      tag = tag_of S j;
      agree = record { first = branch_begins y; second = rw one_tag (branch_begins z) };
      differ = λ e. let q = sym (branch_type y) ∙ e ∙ branch_type z in omega (arith, order);
    }

-- a whole typed document of a tree-bearing root type
root_branch : {S : Schema} {κ : Kind} {j : ℕ} → IsRoot S j → BearsBy S κ j → Branch S [] κ j
unfolding context
root_branch {κ = κ} r b = let t = whole_run (context (root r) κ) b in record { rest = t.0; run = t.1 }

-- Item 1, from left to right.
pub competition_ambiguous : {S : Schema} → Competition S → Ambiguous S
competition_ambiguous (of_roots k) =
    let c = k.compete in
    let s = shared c.alike in
    branches_ambiguous c.order c.one_tag (root_branch c.is_root_j s.bears_j) (root_branch c.is_root_k s.bears_k)
competition_ambiguous (in_type k) =
    let c = k.compete in
    let s = shared c.alike in
    let x = context c.reached plain in
    let r = read_word x.frames (all_front k.word (k.first ∷ c.goes_on_j.rest) c.goes_on_j.bear) in
    branches_ambiguous c.order c.one_tag (branch x r.1 s.bears_j c.goes_on_j) (branch x r.1 s.bears_k c.goes_on_k)

-- the type at a place that the position has read
known_type : {S : Schema} (e : List Event) (κ : Kind) (g : ℕ) {d : List Event} {fs : List Frame} {v : Valid S d} {r : List Event}
    (p : Position S (e ++ (opening κ g ∷ [])) fs) (o : Onward S p v r)
    → type_at v (openings e) ≡ get_or (opened p.events) (openings e) 0
known_type e κ g p o =
    let read : openings e < length (opened p.events) = omega (arith, place_of p, openings-append e (opening κ g ∷ [])) in
    rw (onward_types o) (get_or-append (opened p.events) (opened o.rest) 0 (openings e) read)

-- Item 1, from right to left.
pub ambiguous_competition : {S : Schema} → Ambiguous S → Competition S
ambiguous_competition {S} a =
    let b₁ = a.agree.first in
    let b₂ = a.agree.second in
    let p = (position (record { whole = a.document₁; valid = a.valid₁; beginning = b₁ })).at in
    ⊎_elim
    (λ c. c)
    (λ o₁.
    ⊎_elim
    (λ c. c)
    (λ o₂. absurd (a.differ (known_type a.before a.kind a.tag p o₁ ∙ sym (known_type a.before a.kind a.tag p o₂))))
    (onward p a.valid₂ b₂.rest b₂.splits))
    (onward p a.valid₁ b₁.rest b₁.splits)

-- Item 1: there is a competition exactly when two valid documents, each with a typing, agree through an opening and differ in its type.
pub competition_is_ambiguity : {S : Schema} → Competition S ↔ Ambiguous S
competition_is_ambiguity = (competition_ambiguous, ambiguous_competition)
