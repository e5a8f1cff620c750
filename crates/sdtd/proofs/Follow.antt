-- Following: a typed reading of some events, and any typed document whose tags begin with them: either types compete, or the document's
-- typed events begin with that very reading.
use mathlib.Core.Path.{◌≡◌, refl, sym, subst}
use mathlib.Core.Logic.{◌⊎◌, inl, inr, ⊎_elim}
use mathlib.Core.List.{List, [], ◌∷◌, ◌++◌, append_assoc, cons≢nil, head-eq_of_cons-eq, tail-eq_of_cons-eq}
use mathlib.Core.List.Memᴰ
use Prim.Native.Nat.{ℕ, ◌<◌}
use native.Mathlib.Omega.{arith}
use native.Mathlib.Decide.{dec_lt}
use Rattle.sdtd.specs.Schema.{Schema, tag_of}
use Rattle.sdtd.specs.Tree.{Kind, plain, nil, labels, IsRoot}
use Rattle.sdtd.specs.Document.{Event, opening}
use Rattle.sdtd.specs.Trim.{BearsBy, none, both, AllBear, Reached, root, child}
use Rattle.sdtd.specs.Competition.{GoesOn, Competition, of_roots, in_type}
use Rattle.sdtd.proofs.Automata.{all_append, all_back, all_head, all_tail}
use Rattle.sdtd.proofs.Bearing.{grow, forest_bears, word_bears, by_bears, alike}
use Rattle.sdtd.proofs.Trees.{relabel_event}
use Rattle.sdtd.proofs.Machine.{Owner, top, own, OneRoot, Fills, Frame, frame, Moves, opens, closes, ends, Run, halt, move, run_append}
use Rattle.sdtd.proofs.Machine.{Future, Suspended, outer, inner, run_suspended}
use Rattle.sdtd.proofs.Typed.{tagged}

-- the type j, opened so, can come next after the children w: with it and then tree-bearing types they fill the owner
pub record Candidate (S : Schema) (o : Owner) (w : List ℕ) (κ : Kind) (j : ℕ) : Type 0 where
  pub rest : List ℕ
  pub fills : Fills S o (w ++ (j ∷ rest))
  pub bears : BearsBy S κ j
  pub bear : AllBear S rest

future_candidate : {S : Schema} {o : Owner} {w : List ℕ} {κ : Kind} {j : ℕ}
    → Future S (own κ j) [] → Future S o (w ++ (j ∷ [])) → Candidate S o w κ j
future_candidate f g =
    record {
      rest = labels g.forest;
      fills = rw append_assoc at g.fills;
      bears = record { children = f.forest; derived = (f.fills, f.derived) };
      bear = forest_bears g.forest g.derived;
    }

pub suspended_candidate : {S : Schema} {o : Owner} {w : List ℕ} {fs : List Frame} {κ : Kind} {j : ℕ}
    → Suspended S (frame (own κ j) [] ∷ frame o (w ++ (j ∷ [])) ∷ fs) → Candidate S o w κ j
suspended_candidate (inner f (outer g)) = future_candidate f g
suspended_candidate (inner f (inner g s)) = future_candidate f g

-- what comes after a child j that the tree-bearing types of the rest follow
rest_future : {S : Schema} (o : Owner) (w : List ℕ) (j : ℕ) (rest : List ℕ) → Fills S o (w ++ (j ∷ rest)) → AllBear S rest
    → Future S o (w ++ (j ∷ []))
rest_future o w j rest fills bear =
    let g = grow bear in
    record { forest = g.forest; derived = g.derived; fills = rw (append_assoc, g.at_roots) fills }

pub candidate_future : {S : Schema} {o : Owner} {w : List ℕ} {κ : Kind} {j : ℕ} → Candidate S o w κ j → Future S o (w ++ (j ∷ []))
candidate_future {o = o} {w = w} {j = j} c = rest_future o w j c.rest c.fills c.bear

pub goes_on_future : {S : Schema} {a : ℕ} {w : List ℕ} {j : ℕ} → GoesOn S a w j → Future S (own plain a) (w ++ (j ∷ []))
goes_on_future {a = a} {w = w} {j = j} g = rest_future (own plain a) w j g.rest g.word (all_tail (all_back w g.bear))

pub bears_future : {S : Schema} {κ : Kind} {j : ℕ} → BearsBy S κ j → Future S (own κ j) []
bears_future b = record { forest = b.children; derived = b.derived.1; fills = b.derived.0 }

-- a document that can be ended after w can also be ended after an opening of a candidate
pub candidate_suspended : {S : Schema} {o : Owner} {w : List ℕ} {fs : List Frame} {κ : Kind} {j : ℕ}
    → Suspended S (frame o w ∷ fs) → Candidate S o w κ j
    → Suspended S (frame (own κ j) [] ∷ frame o (w ++ (j ∷ [])) ∷ fs)
candidate_suspended (outer f) c = inner (bears_future c.bears) (outer (candidate_future c))
candidate_suspended (inner f s) c = inner (bears_future c.bears) (inner (candidate_future c) s)

-- the owner is the outside or of a reached type
abbrev pub Origin : Schema → Owner → Type 0
Origin S top = Unit
Origin S (own κ a) = Reached S a

-- the owners are reached and their children so far bear trees
pub data Grown (S : Schema) : List Frame → Type 0 where
  grown_none : Grown S []
  grown : {o : Owner} {w : List ℕ} {fs : List Frame} → Origin S o → AllBear S w → Grown S fs → Grown S (frame o w ∷ fs)

-- the outside's candidates are types that the root may have, before any child
pub root_candidate : {S : Schema} {w : List ℕ} {κ : Kind} {j : ℕ} → Candidate S top w κ j → (w ≡ []) × IsRoot S j
root_candidate {S} {w} {κ} {j} c = before w c.fills
  where
    before : (v : List ℕ) → OneRoot S (v ++ (j ∷ c.rest)) → (v ≡ []) × IsRoot S j
    before [] o = (refl, subst (IsRoot S) (sym (head-eq_of_cons-eq o.only)) o.is_root)
    before (x ∷ []) o = absurd (cons≢nil (tail-eq_of_cons-eq o.only))
    before (x ∷ y ∷ v) o = absurd (cons≢nil (tail-eq_of_cons-eq o.only))

-- a nil element has no candidate
pub no_candidate : {S : Schema} {a : ℕ} {w : List ℕ} {κ : Kind} {j : ℕ} → Candidate S (own nil a) w κ j → ⊥
no_candidate {w = []} c = cons≢nil c.fills.1
no_candidate {w = i ∷ w} c = cons≢nil c.fills.1

-- a candidate's type bears a tree
pub candidate_bears : {S : Schema} {o : Owner} {w : List ℕ} {κ : Kind} {j : ℕ} (c : Candidate S o w κ j) → AllBear S (j ∷ c.rest)
candidate_bears {κ = κ} c = both (by_bears κ c.bears) c.bear

candidate_reached : {S : Schema} (o : Owner) {w : List ℕ} {κ : Kind} {j : ℕ} → Origin S o → AllBear S w → Candidate S o w κ j → Reached S j
candidate_reached top r b c = root (root_candidate c).1
candidate_reached (own plain a) {w} r b c = child r c.fills (all_append b (candidate_bears c)) (Memᴰ.append_right w (Memᴰ.head refl))
candidate_reached (own nil a) r b c = absurd (no_candidate c)

pub grown_move : {S : Schema} {fs fs' : List Frame} {x : Event} → Grown S fs → Moves S fs x fs' → Suspended S fs' → Grown S fs'
grown_move (grown {o = o} r b g) opens s =
    let c = suspended_candidate s in
    grown (candidate_reached o r b c) none (grown r (all_append b (both (all_head (candidate_bears c)) none)) g)
grown_move (grown r b g) (closes w) s = g
grown_move (grown r b g) (ends w) s = g
grown_move grown_none m s = elim m [ ]

pub candidate_goes_on : {S : Schema} {a : ℕ} {w : List ℕ} {κ : Kind} {j : ℕ}
    → AllBear S w → Candidate S (own plain a) w κ j → GoesOn S a w j
candidate_goes_on b c = record { rest = c.rest; word = c.fills; bear = all_append b (candidate_bears c) }

pub goes_on_candidate : {S : Schema} {a : ℕ} {w : List ℕ} {κ : Kind} {j : ℕ} → BearsBy S κ j → GoesOn S a w j → Candidate S (own plain a) w κ j
goes_on_candidate {w = w} b g = record { rest = g.rest; fills = g.word; bears = b; bear = all_tail (all_back w g.bear) }

in_order : {S : Schema} (o : Owner) {w : List ℕ} {κ : Kind} {j k : ℕ} → Origin S o → AllBear S w → Candidate S o w κ j → Candidate S o w κ k
    → tag_of S j ≡ tag_of S k → j < k → Competition S
in_order top {κ = κ} {j = j} {k = k} r b c d e l =
    of_roots (record {
      first = j;
      second = k;
      compete =
          record {
            order = l;
            one_tag = e;
            is_root_j = (root_candidate c).1;
            is_root_k = (root_candidate d).1;
            alike = alike κ c.bears d.bears;
          };
    })
in_order (own plain a) {w} {κ} {j} {k} r b c d e l =
    let x = candidate_goes_on b c in
    in_type (record {
      word = w;
      first = j;
      second = k;
      compete =
          record {
            reached = r;
            bears = by_bears plain (word_bears a x.word x.bear);
            order = l;
            one_tag = e;
            alike = alike κ c.bears d.bears;
            goes_on_j = x;
            goes_on_k = candidate_goes_on b d;
          };
    })
in_order (own nil a) r b c d e l = absurd (no_candidate c)

-- Two candidates of one tag, opened alike at one place, are the same, or types compete.
pub one_candidate : {S : Schema} (o : Owner) {w : List ℕ} {κ : Kind} {j k : ℕ} → Origin S o → AllBear S w
    → Candidate S o w κ j → Candidate S o w κ k
    → tag_of S j ≡ tag_of S k → Competition S ⊎ (j ≡ k)
one_candidate {S} o {w} {κ} {j} {k} r b c d e = by_order (dec_lt j k) (dec_lt k j)
  where
    by_order : Dec (j < k) → Dec (k < j) → Competition S ⊎ (j ≡ k)
    by_order (yes l) g = inl (in_order o r b c d e l)
    by_order (no n) (yes g) = inl (in_order o r b d c (sym e) g)
    by_order (no n) (no m) = inr (omega arith)

-- two moves from the same frames are the same
record SameMove (x y : Event) (fs gs : List Frame) : Type 0 where
  event : x ≡ y
  frames : fs ≡ gs

-- Two moves whose tags are the same, each with a way to the end, are the same, or types compete.
same_move : {S : Schema} {fs fs₁ fs₂ : List Frame} {x y : Event} → Grown S fs → Moves S fs x fs₁ → Suspended S fs₁ → Moves S fs y fs₂
    → Suspended S fs₂
    → relabel_event (tag_of S) x ≡ relabel_event (tag_of S) y → Competition S ⊎ SameMove x y fs₁ fs₂
same_move {S} (grown {o = o} {w = w} {fs = fs} r b g) (opens {κ = κ} {a = j}) s (opens {κ = ν} {a = k}) t e =
    let kind : ν ≡ κ = cc in
    let d : Candidate S o w κ k = subst (λ (μ : Kind). Candidate S o w μ k) kind (suspended_candidate t) in
    ⊎_elim
    (λ c. inl c)
    (λ p.
    inr (record {
      event = λ i. opening (sym kind i) (p i);
      frames = λ i. frame (own (sym kind i) (p i)) [] ∷ frame o (w ++ (p i ∷ [])) ∷ fs;
    }))
    (one_candidate o r b (suspended_candidate s) d (cc))
same_move (grown r b g) opens s (closes w) t e = let z : ◌≡◌ {A = ℕ} 0 1 = cc in absurd (omega arith)
same_move (grown r b g) opens s (ends w) t e = let z : ◌≡◌ {A = ℕ} 0 1 = cc in absurd (omega arith)
same_move (grown r b g) (closes v) s opens t e = let z : ◌≡◌ {A = ℕ} 0 1 = cc in absurd (omega arith)
same_move (grown r b g) (closes v) s (closes w) t e = inr (record { event = refl; frames = refl })
same_move (grown r b g) (ends v) s opens t e = let z : ◌≡◌ {A = ℕ} 0 1 = cc in absurd (omega arith)
same_move (grown r b g) (ends v) s (ends w) t e = inr (record { event = refl; frames = refl })
same_move grown_none m s _ t e = elim m [ ]

-- the typed events τ₂ begin with τ and go on from the frames fs
pub record Follows (S : Schema) (τ τ₂ : List Event) (fs : List Frame) : Type 0 where
  pub rest : List Event
  pub splits : τ₂ ≡ τ ++ rest
  pub run : Run S fs rest []

pub follow : {S : Schema} {fs fs' : List Frame} {τ ρ τ₂ : List Event} → Run S fs τ fs' → Run S fs' ρ [] → Grown S fs → Run S fs τ₂ []
    → (r : List Event) → tagged S τ ++ r ≡ tagged S τ₂ → Competition S ⊎ Follows S τ τ₂ fs'
follow {τ₂ = τ₂} halt k g l r e = inr (record { rest = τ₂; splits = refl; run = l })
follow (move m h) k g halt r e = absurd (cons≢nil e)
follow {S} (move {fs' = gs} {fs'' = hs} {x = x} {τ = τ} m h) k g (move {fs' = ks} {x = y} {τ = σ} n l) r e =
    let s = (run_suspended (run_append h k)).suspended in
    ⊎_elim
    (λ c. inl c)
    (λ (p : SameMove x y gs ks).
    ⊎_elim
    (λ c. inl c)
    (λ (q : Follows S τ σ hs). inr (record { rest = q.rest; splits = λ i. sym p.event i ∷ q.splits i; run = q.run }))
    (follow h k (grown_move g m s) (subst (λ (zs : List Frame). Run S zs σ []) (sym p.frames) l) r (tail-eq_of_cons-eq e)))
    (same_move g m s n (run_suspended l).suspended (head-eq_of_cons-eq e))

pub grown_run : {S : Schema} {fs fs' : List Frame} {τ ρ : List Event} → Run S fs τ fs' → Run S fs' ρ [] → Grown S fs → Grown S fs'
grown_run halt k g = g
grown_run (move m h) k g = grown_run h k (grown_move g m (run_suspended (run_append h k)).suspended)
